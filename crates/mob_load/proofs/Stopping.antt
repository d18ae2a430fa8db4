-- A check that fails stops the checks.
use Rattle.std.proofs.Common.{◌≡◌, refl, sym, subst, ℕ, ℤ, ◌+◌, List, [], ◌∷◌, ◌++◌, length, Option, Ok, Err}
use Rattle.mob_ast.specs.declared.refusal.Kind.{Kind}
use Rattle.mob_outside.specs.Told.{Contents, file_of}
use Rattle.mob_typed.specs.Statements.{ScriptOut}
use Rattle.mob_load.{specs.Checks.{CheckParts, literal, table, room, file, checks_of}, specs.Fronts.{AsksForAll, AsksForSome, IsAskedLast, OnFiles}}
use Rattle.mob_load.specs.Loads.{ChecksStopBy, IsFaultAt, IsFile, Loaded, Loads, LoadsCheck, LoadsFile, LoadsTo, OnRead, IsFileReached, copied_files, names_in, names_of, nothing_loaded, refused}
use Rattle.mob_load.{specs.Loads.{table_refused}, specs.declared.program.LoadEnd.{LoadEnd}, specs.declared.program.LoadEnd.TheVariants.{Refused, TableRefused, ReadFault, NoMemory}}
use Rattle.mob_load.{proofs.Asked.{asked_last, checks_ask, names_around, opened_last}, proofs.Steps.{loads_behind}}

module _ (day : ℤ) (first others : List CheckParts) (told : Option Contents) (a b d : Option (List (List ℕ))) (so_far : AsksForAll (names_in first) a b) (l after : Loaded) where
  -- the checks before it all pass, on the files of all checks
  abbrev Passed : CheckParts → Type 0
  Passed c = OnFiles (names_in (first ++ c ∷ others)) told (λ m. Loads day m first nothing_loaded (Ok l))

  -- it fails like this
  abbrev Fails : CheckParts → LoadEnd → Type 0
  Fails c e = OnFiles (names_in (first ++ c ∷ others)) told (λ m. LoadsTo {A = Unit {0}} (Err e) after (LoadsCheck day m c l))

  -- why the checks stop at it
  abbrev StopsHere : CheckParts → LoadEnd → Type 0
  StopsHere c e = ChecksStopBy day (first ++ c ∷ others) (names_in (first ++ c ∷ others)) told a d e

  module _ (t : ℕ) (own : List ℕ) where
    here : (m : Contents) → Loads day m first nothing_loaded (Ok l) → IsFileReached day m (first ++ file t own ∷ others) (length (names_in first)) own
    here m passed = record { first = first; target = t; last = others; parts = refl; counts = refl; read = l; passed = passed }

    file_refused : (kind : Kind) (rec field : ℕ) → AsksForAll (own ∷ []) b d → Passed (file t own)
        → OnFiles (names_in (first ++ file t own ∷ others)) told (λ m. LoadsFile day t own l (file_of own m) (Err (table_refused own kind rec field))) → StopsHere (file t own) (TableRefused own kind rec field)
    unfolding here
    file_refused kind rec field asks passed fails = record {
      number = length (names_in first);
      last = subst (λ (ns : List (List ℕ)). IsAskedLast ns (length (names_in first)) (length (names_in first) + 1) a d own) (sym (names_around first (file t own) others))
          (asked_last (names_in first) (names_in others) own a b d so_far asks);
      refused = λ m are. record { reached = here m (passed m are); refused = fails m are };
    }

    file_unread : AsksForSome (own ∷ []) b d → Passed (file t own) → StopsHere (file t own) (ReadFault own)
    file_unread some passed = record {
      number = length (names_in first);
      last = rw (names_around first (file t own) others) (opened_last (names_in first) (names_in others) own a b d so_far some);
      reached = λ m are. here m (passed m are);
    }

  refused_here : (c : CheckParts) (name : List ℕ) (kind : Kind) (rec field : ℕ) → IsFile c name → AsksForAll (names_of c) b d → Passed c → Fails c (TableRefused name kind rec field) → StopsHere c (TableRefused name kind rec field)
  refused_here (file t own) name kind rec field at asks passed fails =
      subst (λ (n : List ℕ). StopsHere (file t own) (TableRefused n kind rec field)) at
      (file_refused t own kind rec field asks passed (λ m are. subst (λ (n : List ℕ). LoadsFile day t own l (file_of own m) (Err (table_refused n kind rec field))) (sym at) (fails m are)))
  refused_here (literal c) name kind rec field at asks passed fails = absurd at
  refused_here (table columns) name kind rec field at asks passed fails = absurd at
  refused_here (room t n p) name kind rec field at asks passed fails = absurd at

  unread_here : (c : CheckParts) (name : List ℕ) → IsFile c name → AsksForSome (names_of c) b d → Passed c → StopsHere c (ReadFault name)
  unread_here (file t own) name at some passed = subst (λ (n : List ℕ). StopsHere (file t own) (ReadFault n)) at (file_unread t own some passed)
  unread_here (literal c) name at some passed = absurd at
  unread_here (table columns) name at some passed = absurd at
  unread_here (room t n p) name at some passed = absurd at

  stops_here : (c : CheckParts) (e : LoadEnd) → IsFaultAt c e → AsksForSome (names_of c) b d → OnRead {A = Unit {0}} (Err e) (AsksForAll (names_of c) b d) → Passed c → Fails c e → StopsHere c e
  stops_here c (Refused e) at some asks passed fails = λ m are. loads_behind day m first (c ∷ others) nothing_loaded l (Err (refused e)) (passed m are) (Err (refused e), fails m are, refl)
  stops_here c (TableRefused name kind rec field) at some asks passed fails = refused_here c name kind rec field at asks passed fails
  stops_here c (ReadFault name) at some asks passed fails = unread_here c name at some passed
  stops_here c NoMemory at some asks passed fails = tt

  -- of all checks
  pub check_stops : (all : List CheckParts) (c : CheckParts) → all ≡ first ++ c ∷ others → (e : LoadEnd) → IsFaultAt c e → AsksForSome (names_of c) b d → OnRead {A = Unit {0}} (Err e) (AsksForAll (names_of c) b d)
      → OnFiles (names_in all) told (λ m. Loads day m first nothing_loaded (Ok l)) → OnFiles (names_in all) told (λ m. LoadsTo {A = Unit {0}} (Err e) after (LoadsCheck day m c l))
      → ChecksStopBy day all (names_in all) told a d e
  check_stops all c is e at some asks passed fails =
      let of = λ (cs : List CheckParts). OnFiles (names_in cs) told (λ m. Loads day m first nothing_loaded (Ok l)) in
      let so = λ (cs : List CheckParts). OnFiles (names_in cs) told (λ m. LoadsTo {A = Unit {0}} (Err e) after (LoadsCheck day m c l)) in
      subst (λ (cs : List CheckParts). ChecksStopBy day cs (names_in cs) told a d e) (sym is) (stops_here c e at some asks (subst of is passed) (subst so is fails))

-- of the checks of a script
pub script_stops : (day : ℤ) (cs : List CheckParts) (out : ScriptOut) (told : Option Contents) (a b : Option (List (List ℕ))) (e : LoadEnd) → cs ≡ checks_of out → ChecksStopBy day cs (names_in cs) told a b e
    → ChecksStopBy day (checks_of out) (copied_files out.statements) told a b e
script_stops day cs out told a b e same stops =
    subst (λ (ns : List (List ℕ)). ChecksStopBy day (checks_of out) ns told a b e) (checks_ask out) (subst (λ (x : List CheckParts). ChecksStopBy day x (names_in x) told a b e) same stops)
