-- The columns that are listed so far.
use Rattle.std.{specs.Prelude.{slice_get}, proofs.Common.{◌≡◌, ◌∙◌, ◌≤◌, length, append-nil, ap, ℕ, ◌+◌, List, [], ◌∷◌, drop, sym, ◌++◌, append_assoc, Some, Result, Ok}, proofs.lemmas.List.{drop_all}}
use Rattle.mob_operators.specs.declared.operator.Op.TheVariants.{Column}
use Rattle.mob_ast.specs.declared.types.SqlType.{SqlType}
use Rattle.mob_typed.{specs.Statements.{ColumnList}, specs.Trees.{typed, none}, specs.Selects.{Output}}
use Rattle.mob_list.{specs.declared.fault.Fault.{Fault}, specs.declared.fault.Fault.TheVariants.{Because, NoMemory}}
use Rattle.mob_scope.{specs.Answers.{StopsTyping}, specs.declared.fault.Mistake.{Mistake}}
use Rattle.mob_expression.proofs.Lists.{drop_at}
use Rattle.mob_clauses.specs.Outputs.{columns_of_table}

abbrev pub good : {A : Type 0} → A → Result A Mistake
good x = Ok x

pub ok_same : {A : Type 0} (x y : A) → good x ≡ good y → x ≡ y
ok_same x y h = cc

pub column_more : (from k : ℕ) (columns : ColumnList) (name : List ℕ) (ty : SqlType) (p : ℕ) → slice_get columns k ≡ Some (name, ty)
    → columns_of_table from k (drop k columns) p ≡ (typed (Column from k) ty p none, name) ∷ columns_of_table from (k + 1) (drop (k + 1) columns) p
column_more from k columns name ty p h = ap (λ cs. columns_of_table from k cs p) (drop_at columns k (name, ty) h)

pub column_pushed : (from k j : ℕ) (columns : ColumnList) (name : List ℕ) (ty : SqlType) (p : ℕ) (before after : List Output) → slice_get columns k ≡ Some (name, ty) → good k ≡ good j
    → good (before ++ (typed (Column from j) ty p none, name) ∷ []) ≡ good after
    → before ++ columns_of_table from k (drop k columns) p ≡ after ++ columns_of_table from (k + 1) (drop (k + 1) columns) p
column_pushed from k j columns name ty p before after h number pushed =
    let rest = columns_of_table from (k + 1) (drop (k + 1) columns) p in
    ap (λ ys. before ++ ys) (column_more from k columns name ty p h) ∙ sym (append_assoc before ((typed (Column from k) ty p none, name) ∷ []) rest)
    ∙ ap (λ ys. ys ++ rest) (ap (λ i. before ++ (typed (Column from i) ty p none, name) ∷ []) (ok_same k j number) ∙ ok_same (before ++ (typed (Column from j) ty p none, name) ∷ []) after pushed)

pub columns_done : (from k : ℕ) (columns : ColumnList) (p : ℕ) (before : List Output) → length columns ≤ k → before ++ columns_of_table from k (drop k columns) p ≡ before
columns_done from k columns p before last = ap (λ cs. before ++ columns_of_table from k cs p) (drop_all k columns last) ∙ append-nil before

-- a fault of a step that refuses nothing is a failed allocation
pub still_free : {X Y : Type 0} (e : Fault Mistake) (x : X) (y : Y) → StopsTyping e (good x) → StopsTyping e (good y)
still_free (Because wrong) x y h = absurd (cc)
still_free NoMemory x y h = tt

-- one more item of a list
pub list_more : {A : Type 0} (xs : List A) (k : ℕ) (x : A) (before after : List A) → slice_get xs k ≡ Some x → after ≡ before ++ x ∷ [] → before ++ drop k xs ≡ after ++ drop (k + 1) xs
list_more xs k x before after h pushed =
    ap (λ ys. before ++ ys) (drop_at xs k x h) ∙ sym (append_assoc before (x ∷ []) (drop (k + 1) xs)) ∙ ap (λ ys. ys ++ drop (k + 1) xs) (sym pushed)
