-- The literals of a script and their values, one by one.
use Rattle.std.{specs.Prelude.{nat_lt}, specs.List.{AllByRecursion, AllZip}}
use Rattle.std.proofs.Common.{◌≡◌, ◌∙◌, refl, sym, ap, subst, Bool, true, false, ℕ, ℤ, ◌+◌, List, [], ◌∷◌, ◌++◌, map, Option, Some, None, Ok, append_assoc, append-nil}
use Rattle.mob_outside.specs.Told.{file_of}
use Rattle.mob_value.specs.declared.value.Value.{Value}
use Rattle.mob_catalog.specs.Constants.{IsConstant}
use Rattle.mob_typed.{specs.declared.typed.ConstText.{ConstText}, specs.Statements.{StatementOut}}
use Rattle.mob_load.specs.declared.program.Program.{Program}
use Rattle.mob_load.specs.Checks.{CheckParts, literal, table, room, file, Checkpoint, checkpoints_of, checkpoints_from, stands_before, checks_up_to, in_order, checks_of}
use Rattle.mob_load.specs.Loads.{Loaded, LoadsFile, ReadsCheck, ReadsChecks, literal_of, literals_in, one_row, greatest_rows, loaded_row_count, nothing_loaded, with_made_table, LooksAtLiterals}
use Rattle.mob_load.{specs.Loads.{ProgramHasValues}, proofs.EachCheckpoint.{each_checkpoint}}
use Rattle.mob_list.proofs.Each.{each_both}

-- checkpoints that are not literals
abbrev IsNoLiteral : Checkpoint → Type 0
IsNoLiteral m = literal_of m.check ≡ []

abbrev pub NoLiterals : List Checkpoint → Type 0
NoLiterals ms = AllByRecursion IsNoLiteral ms

literals_all : (cs : List ConstText) → literals_in (map literal cs) ≡ cs
literals_all [] = refl
literals_all (c ∷ cs) = ap (λ ds. c ∷ ds) (literals_all cs)

module _ (next : List ConstText → List CheckParts) (each : (cs : List ConstText) → literals_in (next cs) ≡ cs) (m : Checkpoint) (none : literal_of m.check ≡ []) where
  behind : (cs : List ConstText) → literal_of m.check ++ literals_in (next cs) ≡ cs
  behind cs = ap (λ ds. ds ++ literals_in (next cs)) none ∙ each cs

  choice : (b : Bool) (c : ConstText) (cs : List ConstText) → literals_in (checks_up_to next m cs) ≡ cs → stands_before c m.statement m.place ≡ b → literals_in (checks_up_to next m (c ∷ cs)) ≡ c ∷ cs
  choice true c cs rest is = rw is (ap (λ ds. c ∷ ds) rest)
  choice false c cs rest is = rw is (behind (c ∷ cs))

  up_to_literals : (cs : List ConstText) → literals_in (checks_up_to next m cs) ≡ cs
  up_to_literals [] = behind []
  up_to_literals (c ∷ cs) = choice (stands_before c m.statement m.place) c cs (up_to_literals cs) refl

order_literals : (ms : List Checkpoint) → NoLiterals ms → (cs : List ConstText) → literals_in (in_order ms cs) ≡ cs
order_literals [] none cs = literals_all cs
order_literals (m ∷ ms) none cs = up_to_literals (in_order ms) (order_literals ms none.1) m none.0 cs

no_checkpoints : (n : ℕ) (s : StatementOut) → NoLiterals (checkpoints_of n s)
no_checkpoints n s = each_checkpoint IsNoLiteral n (λ t p. refl) (λ t name. refl) s (λ t name columns is. refl)

pub no_all : (n : ℕ) (ss : List StatementOut) → NoLiterals (checkpoints_from n ss)
no_all n [] = tt
no_all n (s ∷ ss) = each_both IsNoLiteral (checkpoints_of n s) (checkpoints_from (n + 1) ss) (no_checkpoints n s) (no_all (n + 1) ss)

pub looked_at : LooksAtLiterals
looked_at out = order_literals (checkpoints_from 1 out.statements) (no_all 1 out.statements) out.consts

-- a row leaves the values unchanged
row_values : (b : Bool) (t n p : ℕ) (l k : Loaded) → nat_lt (loaded_row_count l t) greatest_rows ≡ b → Ok k ≡ one_row t n p l → k.values ≡ l.values
row_values true t n p l k test is = let same = rw test at is in cc
row_values false t n p l k test is = let same = rw test at is in cc

-- so does a file
file_values : (day : ℤ) (t : ℕ) (name : List ℕ) (l k : Loaded) (o : Option (List ℕ)) → LoadsFile day t name l o (Ok k) → k.values ≡ l.values
file_values day t name l k None h = absurd (cc)
file_values day t name l k (Some bytes) h = ap (λ (x : Loaded). x.values) h.2

-- the values that checks add to those so far
abbrev Adds : ℤ → List CheckParts → Loaded → Loaded → Type 0
Adds day cs l m = (vs : List Value) × AllZip (IsConstant day) (literals_in cs) vs × (m.values ≡ l.values ++ vs)

adds_on : (day : ℤ) (c : CheckParts) (cs : List CheckParts) (l k m : Loaded) → ReadsCheck day c l k → Adds day cs k m → Adds day (c ∷ cs) l m
adds_on day (literal c) cs l k m passes adds =
    (passes.1.0 ∷ adds.0, (passes.1.1, adds.1), adds.2 ∙ ap (λ (x : Loaded). x.values ++ adds.0) passes.1.2 ∙ append_assoc l.values (passes.1.0 ∷ []) adds.0)
adds_on day (table columns) cs l k m passes adds = let made = passes.1 in let same : k ≡ with_made_table l columns = cc in (adds.0, adds.1, adds.2 ∙ ap (λ (x : Loaded). x.values ++ adds.0) same)
adds_on day (room t n p) cs l k m passes adds = (adds.0, adds.1, adds.2 ∙ ap (λ (vs : List Value). vs ++ adds.0) (row_values (nat_lt (loaded_row_count l t) greatest_rows) t n p l k refl passes.1))
adds_on day (file t name) cs l k m passes adds = (adds.0, adds.1, adds.2 ∙ ap (λ (vs : List Value). vs ++ adds.0) (file_values day t name l k (file_of name passes.0) passes.1))

reads_add : (day : ℤ) (cs : List CheckParts) (l m : Loaded) → ReadsChecks day cs l m → Adds day cs l m
reads_add day [] l m is = ([], tt, ap (λ (x : Loaded). x.values) is ∙ sym (append-nil l.values))
reads_add day (c ∷ cs) l m h = adds_on day c cs l h.0 m h.1 (reads_add day cs h.0 m h.2)

pub program_values : ProgramHasValues
program_values day out p reads =
    let adds = reads_add day (checks_of out) nothing_loaded reads.0 reads.1 in
    subst (λ (cs : List ConstText). AllZip (IsConstant day) cs p.values) (looked_at out)
    (subst (λ (vs : List Value). AllZip (IsConstant day) (literals_in (checks_of out)) vs) (sym (ap (λ (q : Program). q.values) reads.2 ∙ adds.2)) adds.1)
