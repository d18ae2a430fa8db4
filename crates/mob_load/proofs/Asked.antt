-- The names that the checks of a script ask for are those of its COPY statements.
use Rattle.std.{specs.Prelude.{slice_get}, specs.List.{flat_map}}
use Rattle.std.proofs.Common.{◌≡◌, ◌∙◌, ◌⊎◌, inl, inr, refl, sym, ap, subst, arith, Bool, true, false, ℕ, zero, suc, ◌+◌, ◌≤◌, ◌<◌, List, [], ◌∷◌, ◌++◌, length, length-append, take, take-append-drop}
use Rattle.std.{proofs.Common.{drop, get_or, map, Option, Some, None}, proofs.lemmas.Grind.{flat_map-append}}
use Rattle.std.proofs.lemmas.List.{append-nil, append_assoc, take-append-le, take_all, take_more, drop_more, map-append}
use Rattle.mob_typed.{specs.declared.typed.ConstText.{ConstText}, specs.Statements.{ScriptOut, StatementOut, nothing, new_table, new_index, new_rows, rows_from, deletion, query, plan_of}}
use Rattle.mob_load.specs.Checks.{CheckParts, check_seen, literal, Checkpoint, bracket, checkpoints_of, checkpoints_from, stands_before, checks_up_to, in_order, checks_of}
use Rattle.mob_load.{specs.declared.check.Check.{Check}, specs.Fronts.{AreFilesFor, AsksForAll, AsksForSome, IsAskedLast}, specs.Loads.{names_of, names_in, copied_file, copied_files}}
use Rattle.mob_outside.specs.Told.{AsksFor, Contents, KeepsFiles}

-- the names at checkpoints
abbrev names_at : List Checkpoint → List (List ℕ)
names_at ms = flat_map (λ m. names_of m.check) ms

literals_ask : (cs : List ConstText) → names_in (map literal cs) ≡ []
literals_ask [] = refl
literals_ask (c ∷ cs) = literals_ask cs

module _ (next : List ConstText → List CheckParts) (names : List (List ℕ)) (asks : (cs : List ConstText) → names_in (next cs) ≡ names) (m : Checkpoint) where
  choice : (b : Bool) (c : ConstText) (cs : List ConstText) → names_in (checks_up_to next m cs) ≡ names_of m.check ++ names → stands_before c m.statement m.place ≡ b → names_in (checks_up_to next m (c ∷ cs)) ≡ names_of m.check ++ names
  choice true c cs rest is = rw is rest
  choice false c cs rest is = rw is (ap (λ ns. names_of m.check ++ ns) (asks (c ∷ cs)))

  up_to_asks : (cs : List ConstText) → names_in (checks_up_to next m cs) ≡ names_of m.check ++ names
  up_to_asks [] = ap (λ ns. names_of m.check ++ ns) (asks [])
  up_to_asks (c ∷ cs) = choice (stands_before c m.statement m.place) c cs (up_to_asks cs) refl

order_asks : (ms : List Checkpoint) (cs : List ConstText) → names_in (in_order ms cs) ≡ names_at ms
order_asks [] cs = literals_ask cs
order_asks (m ∷ ms) cs = up_to_asks (in_order ms) (names_at ms) (order_asks ms) m cs

brackets_ask : (t n : ℕ) (places : List ℕ) → names_at (map (bracket t n) places) ≡ []
brackets_ask t n [] = refl
brackets_ask t n (p ∷ ps) = brackets_ask t n ps

statement_asks : (n : ℕ) (s : StatementOut) → names_at (checkpoints_of n s) ≡ copied_file s
statement_asks n nothing = refl
statement_asks n (new_table t name columns) = refl
statement_asks n (new_index t c name) = refl
statement_asks n (new_rows t rows places) = brackets_ask t n places
statement_asks n (rows_from t name) = refl
statement_asks n (deletion s) = refl
statement_asks n (query s) = refl
statement_asks n (plan_of s) = refl

statements_ask : (n : ℕ) (ss : List StatementOut) → names_at (checkpoints_from n ss) ≡ copied_files ss
statements_ask n [] = refl
statements_ask n (s ∷ ss) =
    flat_map-append (λ (m : Checkpoint). names_of m.check) (checkpoints_of n s) (checkpoints_from (n + 1) ss)
    ∙ ap (λ ns. ns ++ names_at (checkpoints_from (n + 1) ss)) (statement_asks n s) ∙ ap (λ ns. copied_file s ++ ns) (statements_ask (n + 1) ss)

pub checks_ask : (out : ScriptOut) → names_in (checks_of out) ≡ copied_files out.statements
checks_ask out = order_asks (checkpoints_from 1 out.statements) out.consts ∙ statements_ask 1 out.statements

asks_both : (ns ms : List (List ℕ)) (a b c : Option (List (List ℕ))) → AsksForAll ns a b → AsksForAll ms b c → AsksForAll (ns ++ ms) a c
asks_both ns ms None b c first next = tt
asks_both ns ms (Some old) b c first next =
    let more : c ≡ Some ((old ++ ns) ++ ms) = subst (λ (o : Option (List (List ℕ))). AsksForAll ms o c) first next in
    more ∙ ap (λ (w : List (List ℕ)). Some w) (append_assoc old ns ms)

-- a part of an empty list is empty
middle_none : (xs ys zs : List (List ℕ)) → xs ++ (ys ++ zs) ≡ [] → ys ≡ []
middle_none [] [] zs none = refl
middle_none [] (y ∷ ys) zs none = cc
middle_none (x ∷ xs) ys zs none = cc

take_front : (xs ys zs : List (List ℕ)) (k : ℕ) → k ≤ length ys → take (length xs + k) (xs ++ (ys ++ zs)) ≡ xs ++ take k ys
take_front [] ys zs k le = ap (λ (n : ℕ). take n (ys ++ zs)) (omega arith) ∙ take-append-le k ys zs le
take_front (x ∷ xs) ys zs k le =
    let more : length (x ∷ xs) + k ≡ suc (length xs + k) = omega arith in
    ap (λ (n : ℕ). take n (x ∷ (xs ++ (ys ++ zs)))) more ∙ ap (λ (ws : List (List ℕ)). x ∷ ws) (take_front xs ys zs k le)

next_of : (first rest : List (List ℕ)) (name : List ℕ) → slice_get (first ++ (name ∷ rest)) (length first) ≡ Some name
next_of [] rest name = refl
next_of (x ∷ first) rest name = next_of first rest name

-- the names asked for grew by the first of these names, and then perhaps by the next one
module _ (first rest : List (List ℕ)) (name : List ℕ) (a b d : Option (List (List ℕ))) (so_far : AsksForAll first a b) where
  last_of : (k : ℕ) → k ≤ 1 → AsksForAll (take k (name ∷ [])) b d → IsAskedLast (first ++ name ∷ rest) (length first) (length first + k) a d name
  last_of k le next = record {
    there = next_of first rest name;
    asked = subst (λ (ns : List (List ℕ)). AsksForAll ns a d) (sym (take_front first (name ∷ []) rest k le)) (asks_both first (take k (name ∷ [])) a b d so_far next);
  }

  pub asked_last : AsksForAll (name ∷ []) b d → IsAskedLast (first ++ name ∷ rest) (length first) (length first + 1) a d name
  asked_last next = last_of 1 (omega arith) next

  none_or_one : (k : ℕ) → k ≤ 1 → AsksForAll (take k (name ∷ [])) b d
      → IsAskedLast (first ++ name ∷ rest) (length first) (length first) a d name ⊎ IsAskedLast (first ++ name ∷ rest) (length first) (length first + 1) a d name
  none_or_one zero le next = inl (subst (λ (n : ℕ). IsAskedLast (first ++ name ∷ rest) (length first) n a d name) (omega arith) (last_of zero le next))
  none_or_one (suc zero) le next = inr (last_of 1 le next)
  none_or_one (suc (suc k)) le next = absurd (omega arith)

  pub opened_last : AsksForSome (name ∷ []) b d → IsAskedLast (first ++ name ∷ rest) (length first) (length first) a d name ⊎ IsAskedLast (first ++ name ∷ rest) (length first) (length first + 1) a d name
  opened_last some = none_or_one some.0 some.1 some.2

-- the names of the checks up to one of them, and those after it
pub names_around : (first : List CheckParts) (c : CheckParts) (others : List CheckParts) → names_in (first ++ c ∷ others) ≡ names_in first ++ (names_of c ++ names_in others)
names_around first c others = flat_map-append names_of first (c ∷ others)

-- the checks of a list in order: the i-th is c
module _ (all : List Check) (i : ℕ) (c : Check) (lt : i < length all) (is : c ≡ get_or all i c) where
  abbrev first : List (List ℕ)
  first = names_in (map check_seen (take i all))

  -- the checks up to it, and all of them
  pub front_more : map check_seen (take (i + 1) all) ≡ map check_seen (take i all) ++ check_seen c ∷ []
  front_more = ap (map check_seen) (take_more all i c lt ∙ ap (λ x. take i all ++ x ∷ []) (sym is)) ∙ map-append check_seen (take i all) (c ∷ [])

  pub around : map check_seen all ≡ map check_seen (take i all) ++ check_seen c ∷ map check_seen (drop (i + 1) all)
  around =
      ap (map check_seen) (sym (take-append-drop i all) ∙ ap (λ ys. take i all ++ ys) (drop_more all i c lt ∙ ap (λ x. x ∷ drop (i + 1) all) (sym is)))
      ∙ map-append check_seen (take i all) (c ∷ drop (i + 1) all)

  first_more : names_in (map check_seen (take (i + 1) all)) ≡ first ++ names_of (check_seen c)
  first_more = ap names_in front_more ∙ names_around (map check_seen (take i all)) (check_seen c) [] ∙ ap (λ ns. first ++ ns) (append-nil (names_of (check_seen c)))

  parts : names_in (map check_seen all) ≡ first ++ (names_of (check_seen c) ++ names_in (map check_seen (drop (i + 1) all)))
  parts = ap names_in around ∙ names_around (map check_seen (take i all)) (check_seen c) (map check_seen (drop (i + 1) all))

  -- the files of the whole script are those of the check
  pub files_here : (told now : Option Contents) (files : Contents) → KeepsFiles told now → AreFilesFor (names_in (map check_seen all)) told files → AreFilesFor (names_of (check_seen c)) now files
  files_here told now files kept (inl is) = inl (subst (λ (o : Option Contents). KeepsFiles o now) is kept)
  files_here told now files kept (inr none) = inr (middle_none first (names_of (check_seen c)) (names_in (map check_seen (drop (i + 1) all))) (sym parts ∙ none))

  pub asked_on : (a b d : Option (List (List ℕ))) → AsksForAll first a b → AsksForAll (names_of (check_seen c)) b d → AsksForAll (names_in (map check_seen (take (i + 1) all))) a d
  asked_on a b d so_far next = subst (λ (ns : List (List ℕ)). AsksForAll ns a d) (sym first_more) (asks_both first (names_of (check_seen c)) a b d so_far next)

  pub asked_some : (a b d : Option (List (List ℕ))) → AsksForAll first a b → AsksForSome (names_of (check_seen c)) b d → AsksForSome (names_in (map check_seen all)) a d
  asked_some a b d so_far next =
      let k = next.0 in
      let few : length first + k ≤ length (names_in (map check_seen all)) = rw (parts, length-append, length-append) (let le = next.1 in omega arith) in
      let front : take (length first + k) (names_in (map check_seen all)) ≡ first ++ take k (names_of (check_seen c)) =
      ap (take (length first + k)) parts ∙ take_front first (names_of (check_seen c)) (names_in (map check_seen (drop (i + 1) all))) k next.1 in
      (length first + k, few, subst (λ (ns : List (List ℕ)). AsksForAll ns a d) (sym front) (asks_both first (take k (names_of (check_seen c))) a b d so_far next.2))

pub asked_all : (all : List Check) (i : ℕ) (a b : Option (List (List ℕ))) → length all ≤ i → AsksForAll (names_in (map check_seen (take i all))) a b → AsksForAll (names_in (map check_seen all)) a b
asked_all all i a b le asks = subst (λ (xs : List Check). AsksForAll (names_in (map check_seen xs)) a b) (take_all i all le) asks

pub all_some : (ns : List (List ℕ)) (a b : Option (List (List ℕ))) → AsksForAll ns a b → AsksForSome ns a b
all_some ns a b asks = (length ns, omega arith, subst (λ (ms : List (List ℕ)). AsksForAll ms a b) (sym (take_all (length ns) ns (omega arith))) asks)

pub asks_one : (name : List ℕ) (a b : Option (List (List ℕ))) → AsksFor name a b → AsksForAll (name ∷ []) a b
asks_one name None b asks = tt
asks_one name (Some old) b asks = asks

pub none_asked : (a : Option (List (List ℕ))) → AsksForAll [] a a
none_asked None = tt
none_asked (Some old) = ap (λ (ns : List (List ℕ)). Some ns) (sym (append-nil old))

pub script_asks : (cs : List CheckParts) (out : ScriptOut) (a b : Option (List (List ℕ))) → cs ≡ checks_of out → AsksForAll (names_in cs) a b → AsksForAll (copied_files out.statements) a b
script_asks cs out a b same asks = subst (λ (ns : List (List ℕ)). AsksForAll ns a b) (ap names_in same ∙ checks_ask out) asks

pub script_asks_some : (cs : List CheckParts) (out : ScriptOut) (a b : Option (List (List ℕ))) → cs ≡ checks_of out → AsksForSome (names_in cs) a b → AsksForSome (copied_files out.statements) a b
script_asks_some cs out a b same asks = subst (λ (ns : List (List ℕ)). AsksForSome ns a b) (ap names_in same ∙ checks_ask out) asks

pub script_files : (cs : List CheckParts) (out : ScriptOut) (told : Option Contents) (files : Contents) → cs ≡ checks_of out → AreFilesFor (copied_files out.statements) told files → AreFilesFor (names_in cs) told files
script_files cs out told files same are = subst (λ (ns : List (List ℕ)). AreFilesFor ns told files) (sym (ap names_in same ∙ checks_ask out)) are
