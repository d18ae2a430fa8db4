-- Scripts that differ only in CREATE INDEX statements load the same program.
use Rattle.std.{specs.Prelude.{Result}, specs.List.{AllZip, flat_map}}
use Rattle.std.proofs.Common.{◌≡◌, ◌∙◌, refl, sym, ap, ap₂, subst, ℕ, ℤ, ◌+◌, Bool, true, false, List, [], ◌∷◌, ◌++◌, append_assoc, append-nil, map, Option, Some, None, Ok, Err, nat_lt}
use Rattle.mob_outside.specs.Told.{Contents, file_of}
use Rattle.mob_value.specs.declared.value.Value.{Value}
use Rattle.mob_catalog.{specs.Constants.{IsConstant}, specs.Outcomes.{ConstantsHaveOneMeaning}}
use Rattle.mob_typed.{specs.declared.typed.ConstText.{ConstText}, specs.Statements.{ScriptOut, StatementOut, nothing, new_table, new_index, new_rows, rows_from, deletion, query, plan_of}}
use Rattle.mob_load.specs.Checks.{CheckParts, Checkpoint, bracket, checkpoints_from, checkpoints_of, checks_of, checks_up_to, file, in_order, literal, room, stands_before, table}
use Rattle.mob_load.specs.Loads.{ContinuesBy, Halt, Loaded, LoadedIsRead, Loads, LoadsCheck, LoadsFile, LoadsScript, ProgramHasValues, greatest_rows, loaded_row_count, nothing_loaded, one_row}
use Rattle.mob_load.{specs.Loads.{with_made_table, with_rows}, specs.Outcomes.{HasOneLoading}, specs.declared.program.Program.{Program}}
use Rattle.mob_laws.specs.IndexScripts.{DifferInIndexStatements, beside_indexes, unplaced_literal, without_indexes}

-- ---- checks without literals and places

abbrev bare_check : CheckParts → List CheckParts
bare_check (literal c) = []
bare_check (table columns) = table columns ∷ []
bare_check (room t n p) = room t 0 0 ∷ []
bare_check (file t name) = file t name ∷ []

abbrev bare_checks : List CheckParts → List CheckParts
bare_checks cs = flat_map bare_check cs

abbrev bare_points : List Checkpoint → List CheckParts
bare_points ms = flat_map (λ (m : Checkpoint). bare_check m.check) ms

-- the checks of a statement, without its number and its places
abbrev checks_in : StatementOut → List CheckParts
checks_in s = bare_points (checkpoints_of 0 s)

no_literals : (cs : List ConstText) → bare_checks (map literal cs) ≡ []
no_literals [] = refl
no_literals (c ∷ cs) = no_literals cs

module _ (next : List ConstText → List CheckParts) (behind : List CheckParts) (each : (cs : List ConstText) → bare_checks (next cs) ≡ behind) (m : Checkpoint) where
  choice : (b : Bool) (c : ConstText) (cs : List ConstText) → bare_checks (checks_up_to next m cs) ≡ bare_check m.check ++ behind → stands_before c m.statement m.place ≡ b → bare_checks (checks_up_to next m (c ∷ cs)) ≡ bare_check m.check ++ behind
  choice true c cs rest is = rw is rest
  choice false c cs rest is = rw is (ap (λ (xs : List CheckParts). bare_check m.check ++ xs) (each (c ∷ cs)))

  up_to_bare : (cs : List ConstText) → bare_checks (checks_up_to next m cs) ≡ bare_check m.check ++ behind
  up_to_bare [] = ap (λ (xs : List CheckParts). bare_check m.check ++ xs) (each [])
  up_to_bare (c ∷ cs) = choice (stands_before c m.statement m.place) c cs (up_to_bare cs) refl

order_bare : (ms : List Checkpoint) (cs : List ConstText) → bare_checks (in_order ms cs) ≡ bare_points ms
order_bare [] cs = no_literals cs
order_bare (m ∷ ms) cs = up_to_bare (in_order ms) (bare_points ms) (order_bare ms) m cs

points_both : (ms ns : List Checkpoint) → bare_points (ms ++ ns) ≡ bare_points ms ++ bare_points ns
points_both [] ns = refl
points_both (m ∷ ms) ns = ap (λ (xs : List CheckParts). bare_check m.check ++ xs) (points_both ms ns) ∙ sym (append_assoc (bare_check m.check) (bare_points ms) (bare_points ns))

brackets_same : (t n : ℕ) (places : List ℕ) → bare_points (map (bracket t n) places) ≡ bare_points (map (bracket t 0) (map (λ place. 0) places))
brackets_same t n [] = refl
brackets_same t n (p ∷ places) = ap (λ (xs : List CheckParts). room t 0 0 ∷ xs) (brackets_same t n places)

statement_same : (n : ℕ) (s : StatementOut) → bare_points (checkpoints_of n s) ≡ flat_map checks_in (beside_indexes s)
statement_same n nothing = refl
statement_same n (new_table t name columns) = refl
statement_same n (new_index t c name) = refl
statement_same n (new_rows t rows places) = brackets_same t n places ∙ sym (append-nil (bare_points (map (bracket t 0) (map (λ place. 0) places))))
statement_same n (rows_from t name) = refl
statement_same n (deletion q) = refl
statement_same n (query q) = refl
statement_same n (plan_of q) = refl

checks_both : (ss ts : List StatementOut) → flat_map checks_in (ss ++ ts) ≡ flat_map checks_in ss ++ flat_map checks_in ts
checks_both [] ts = refl
checks_both (s ∷ ss) ts = ap (λ (xs : List CheckParts). checks_in s ++ xs) (checks_both ss ts) ∙ sym (append_assoc (checks_in s) (flat_map checks_in ss) (flat_map checks_in ts))

statements_same : (n : ℕ) (ss : List StatementOut) → bare_points (checkpoints_from n ss) ≡ flat_map checks_in (without_indexes ss)
statements_same n [] = refl
statements_same n (s ∷ ss) =
    points_both (checkpoints_of n s) (checkpoints_from (n + 1) ss)
    ∙ ap₂ (λ (xs ys : List CheckParts). xs ++ ys) (statement_same n s) (statements_same (n + 1) ss)
    ∙ sym (checks_both (beside_indexes s) (without_indexes ss))

checks_bare : (out : ScriptOut) → bare_checks (checks_of out) ≡ flat_map checks_in (without_indexes out.statements)
checks_bare out = order_bare (checkpoints_from 1 out.statements) out.consts ∙ statements_same 1 out.statements

-- ---- what is loaded besides the literals

abbrev unread : Loaded → Loaded
unread l = record l { values = [] }

module _ (day : ℤ) (files : Contents) where
  room_bare : (t n p : ℕ) (l k : Loaded) (b : Bool) → nat_lt (loaded_row_count l t) greatest_rows ≡ b → Ok k ≡ one_row t n p l → Ok (unread k) ≡ one_row t 0 0 (unread l)
  room_bare t n p l k true is h =
      let e : Ok k ≡ Ok (with_rows l t 1) = rw is at h in
      let same : k ≡ with_rows l t 1 = cc e in
      rw is (ap (λ (m : Loaded). Ok (unread m)) same)
  room_bare t n p l k false is h = let e = rw is at h in absurd (cc e)

  file_bare : (t : ℕ) (name : List ℕ) (l k : Loaded) (bytes : Option (List ℕ)) → LoadsFile day t name l bytes (Ok k) → LoadsFile day t name (unread l) bytes (Ok (unread k))
  file_bare t name l k None h = absurd (cc h)
  file_bare t name l k (Some bytes) h = (h.0, h.1, ap unread h.2)

  check_bare : (c : CheckParts) (cs : List CheckParts) (l m : Loaded) (s : Result Loaded Halt) → LoadsCheck day files c l s → ContinuesBy (Loads day files cs) s (Ok m) → ((k : Loaded) → Loads day files cs k (Ok m) → Loads day files (bare_checks cs) (unread k) (Ok (unread m)))
      → Loads day files (bare_check c ++ bare_checks cs) (unread l) (Ok (unread m))
  check_bare c cs l m (Err halt) h goes others = absurd (cc goes)
  check_bare (literal c) cs l m (Ok k) h goes others = subst (λ (start : Loaded). Loads day files (bare_checks cs) start (Ok (unread m))) (ap unread h.2) (others k goes)
  check_bare (table columns) cs l m (Ok k) h goes others =
      let same : k ≡ with_made_table l columns = cc h in
      (Ok (unread k), ap (λ (n : Loaded). Ok (unread n)) same, others k goes)
  check_bare (room t n p) cs l m (Ok k) h goes others = (Ok (unread k), room_bare t n p l k (nat_lt (loaded_row_count l t) greatest_rows) refl h, others k goes)
  check_bare (file t name) cs l m (Ok k) h goes others = (Ok (unread k), file_bare t name l k (file_of name files) h, others k goes)

  loads_bare : (cs : List CheckParts) (l m : Loaded) → Loads day files cs l (Ok m) → Loads day files (bare_checks cs) (unread l) (Ok (unread m))
  loads_bare [] l m h = let same : m ≡ l = cc h in ap (λ (k : Loaded). Ok (unread k)) same
  loads_bare (c ∷ cs) l m h = check_bare c cs l m h.0 h.1 h.2 (λ k goes. loads_bare cs k m goes)

  -- what is loaded from two scripts besides the literals
  files_alike : HasOneLoading → (out others : ScriptOut) (l m : Loaded) → without_indexes out.statements ≡ without_indexes others.statements → Loads day files (checks_of out) nothing_loaded (Ok l) → Loads day files (checks_of others) nothing_loaded (Ok m) → l.files ≡ m.files
  files_alike one out others l m same h k =
      let checks : bare_checks (checks_of others) ≡ bare_checks (checks_of out) = checks_bare others ∙ ap (λ (ss : List StatementOut). flat_map checks_in ss) (sym same) ∙ sym (checks_bare out) in
      let there : Loads day files (bare_checks (checks_of out)) nothing_loaded (Ok (unread m)) = subst (λ (cs : List CheckParts). Loads day files cs nothing_loaded (Ok (unread m))) checks (loads_bare (checks_of others) nothing_loaded m k) in
      let e = one day files (bare_checks (checks_of out)) nothing_loaded (Ok (unread l)) (Ok (unread m)) (loads_bare (checks_of out) nothing_loaded l h) there in
      let loaded : unread l ≡ unread m = cc e in
      ap (λ (n : Loaded). n.files) loaded

-- ---- the literals

literals_bare : (day : ℤ) (cs : List ConstText) (vs : List Value) → AllZip (IsConstant day) cs vs → AllZip (IsConstant day) (map unplaced_literal cs) vs
literals_bare day [] [] h = h
literals_bare day [] (v ∷ vs) h = h
literals_bare day (c ∷ cs) [] h = h
literals_bare day (c ∷ cs) (v ∷ vs) h = (h.0, literals_bare day cs vs h.1)

module _ (meaning : ConstantsHaveOneMeaning) (read : LoadedIsRead) (values : ProgramHasValues) (one : HasOneLoading) where
  pub program_alike : (day : ℤ) (files : Contents) (out others : ScriptOut) (p q : Program) → DifferInIndexStatements out others → LoadsScript day files out (Ok p) → LoadsScript day files others (Ok q) → p ≡ q
  program_alike day files out others p q differ h k =
      let here : AllZip (IsConstant day) (map unplaced_literal out.consts) p.values = literals_bare day out.consts p.values (values day out p (read day files out p h)) in
      let there : AllZip (IsConstant day) (map unplaced_literal others.consts) q.values = literals_bare day others.consts q.values (values day others q (read day files others q k)) in
      let back : AllZip (IsConstant day) (map unplaced_literal out.consts) q.values = subst (λ (cs : List ConstText). AllZip (IsConstant day) cs q.values) (sym differ.literals) there in
      let literals : p.values ≡ q.values = meaning day (map unplaced_literal out.consts) p.values q.values here back in
      let rows : h.0.files ≡ k.0.files = files_alike day files one out others h.0 k.0 differ.statements h.1 k.1 in
      let files : p.files ≡ q.files = ap (λ (r : Program). r.files) h.2 ∙ rows ∙ sym (ap (λ (r : Program). r.files) k.2) in
      λ i. record { values = literals i; files = files i }
