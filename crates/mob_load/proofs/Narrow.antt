-- The tables of a typed script have at most 64 columns.
use Rattle.std.{specs.List.{AllByRecursion}, specs.Prelude.{OnOk, slice_get}}
use Rattle.std.proofs.Common.{◌≡◌, sym, subst, arith, ℕ, zero, suc, ◌+◌, ◌≤◌, ◌<◌, List, [], ◌∷◌, ◌++◌, length, map, get_or, Result, Ok, Err}
use Rattle.mob_ast.specs.Trees.{StatementParts}
use Rattle.mob_typed.{specs.declared.typed.ConstText.{ConstText}, specs.Statements.{ColumnList, ScriptOut, StatementOut, new_table}}
use Rattle.mob_typing.{specs.Statements.{typed_script}, specs.WellTyped.{IsTypedStatement, tables_behind, AreTypedStatements}, proofs.WalkedScripts.{typing_gives_well_typed}}
use Rattle.mob_load.{specs.Checks.{check_seen, literal, Checkpoint, checkpoints_of, checkpoints_from, in_order, checks_of}, specs.declared.check.Check.{Check}}
use Rattle.mob_load.{specs.Loads.{Loaded, nothing_loaded, with_made_table as add_table, IsNarrow, AreNarrow, HasNarrow, columns_or_none}, proofs.EachCheck.{order_each}}
use Rattle.mob_load.proofs.EachCheckpoint.{each_checkpoint}
use Rattle.mob_list.proofs.Each.{each_both}

-- a new table has at most 64 columns
abbrev NarrowStatement : StatementOut → Type 0
NarrowStatement (new_table t name columns) = length columns ≤ 64
NarrowStatement _ = Unit {0}

statement_narrow : (tables : List ColumnList) (consts : List ConstText) (s : StatementOut) → IsTypedStatement tables consts s → NarrowStatement s
statement_narrow tables consts (new_table t name columns) h = h.narrow
statement_narrow tables consts _ h = tt

statements_narrow : (tables : List ColumnList) (consts : List ConstText) (ss : List StatementOut) → AreTypedStatements tables consts ss → AllByRecursion NarrowStatement ss
statements_narrow tables consts [] h = tt
statements_narrow tables consts (s ∷ ss) h = (statement_narrow tables consts s h.0, statements_narrow (tables_behind tables s) consts ss h.1)

-- the checks of narrow statements are narrow
abbrev IsNarrowCheckpoint : Checkpoint → Type 0
IsNarrowCheckpoint m = IsNarrow m.check

abbrev NarrowCheckpoints : List Checkpoint → Type 0
NarrowCheckpoints ms = AllByRecursion IsNarrowCheckpoint ms

any_literals : (cs : List ConstText) → AllByRecursion (λ c. IsNarrow (literal c)) cs
any_literals [] = tt
any_literals (c ∷ cs) = (tt, any_literals cs)

order_narrow : (ms : List Checkpoint) → NarrowCheckpoints ms → (cs : List ConstText) → AreNarrow (in_order ms cs)
order_narrow ms all cs = order_each IsNarrow ms all cs (any_literals cs)

checkpoints_narrow : (n : ℕ) (s : StatementOut) → NarrowStatement s → NarrowCheckpoints (checkpoints_of n s)
checkpoints_narrow n s narrow = each_checkpoint IsNarrowCheckpoint n (λ t p. tt) (λ t name. tt) s (λ t name columns is. subst NarrowStatement is narrow)

all_checkpoints_narrow : (n : ℕ) (ss : List StatementOut) → AllByRecursion NarrowStatement ss → NarrowCheckpoints (checkpoints_from n ss)
all_checkpoints_narrow n [] all = tt
all_checkpoints_narrow n (s ∷ ss) all = each_both IsNarrowCheckpoint (checkpoints_of n s) (checkpoints_from (n + 1) ss) (checkpoints_narrow n s all.0) (all_checkpoints_narrow (n + 1) ss all.1)

pub script_narrow : (ss : List StatementParts) (out : ScriptOut) → typed_script ss ≡ Ok out → AreNarrow (checks_of out)
script_narrow ss out is = order_narrow (checkpoints_from 1 out.statements) (all_checkpoints_narrow 1 out.statements (statements_narrow [] out.consts out.statements (typing_gives_well_typed ss out is))) out.consts

-- a check of a list of narrow checks
pub check_narrow : (all : List Check) (i : ℕ) (d : Check) → AreNarrow (map check_seen all) → i < length all → IsNarrow (check_seen (get_or all i d))
check_narrow [] i d narrow lt = absurd (omega arith)
check_narrow (c ∷ all) zero d narrow lt = narrow.0
check_narrow (c ∷ all) (suc i) d narrow lt = check_narrow all i d narrow.1 (omega arith)

-- a table of a list of narrow tables
pub columns_narrow : (tables : List ColumnList) (t : ℕ) → HasNarrow tables → length (columns_or_none (slice_get tables t)) ≤ 64
columns_narrow [] t all = omega arith
columns_narrow (columns ∷ others) zero all = all.0
columns_narrow (columns ∷ others) (suc t) all = columns_narrow others t all.1

-- one more narrow table
pub tables_more : (tables : List ColumnList) (columns : ColumnList) → length columns ≤ 64 → HasNarrow tables → HasNarrow (tables ++ columns ∷ [])
tables_more tables columns narrow all = each_both (λ (c : ColumnList). length c ≤ 64) tables (columns ∷ []) all (narrow, tt)

pub made_narrow : (l m : Loaded) (columns : ColumnList) → m ≡ add_table l columns → length columns ≤ 64 → HasNarrow l.tables → HasNarrow m.tables
made_narrow l m columns is narrow all = subst (λ (x : Loaded). HasNarrow x.tables) (sym is) (tables_more l.tables columns narrow all)

-- a consequence for a good result
pub ok_on : {A E P Q : Type 0} (r : Result A E) → (P → Q) → OnOk r P → OnOk r Q
ok_on (Ok x) f p = f p
ok_on (Err e) f p = tt

pub same_narrow : (old new : List ColumnList) → HasNarrow old → new ≡ old → HasNarrow new
same_narrow old new all same = subst HasNarrow (sym same) all

pub nothing_narrow : (l : Loaded) → l ≡ nothing_loaded → HasNarrow l.tables
nothing_narrow l is = subst (λ (x : Loaded). HasNarrow x.tables) (sym is) tt
