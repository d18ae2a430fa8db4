-- Each value of an expression of a typed query is of the expression's type: a leaf reads a stored
-- value of it, and each operator has its row of the table.
use Rattle.std.{specs.Prelude.{◌≢◌, ◌==◌, ◌++◌, IfSome, IsTrue, pos, option_map, option_and_then, slice_get}, specs.List.{AllByRecursion, AllZip, flat_map, list_all}, specs.Option.{option_or}}
use Rattle.std.specs.Str.{bytes_eq}
use Rattle.std.proofs.Common.{◌≡◌, ◌∙◌, arith, nat_abs, refl, sym, ap, subst, inl, inr, true≢false, ℕ, zero, suc, List, [], ◌∷◌, map, Bool, true, false, cond, Option, Some, None}
use Rattle.mob_list.proofs.Each.{each_both, each_map, each_on}
use Rattle.mob_ratio.{specs.GcdLaws.{gcd_one_right}, specs.LowestLaws.{lowest_in}, specs.Order.{same}, specs.Ratio.{Ratio, whole, ◌+ℚ◌, neg_ℚ}, proofs.Clear.{whole-over}}
use Rattle.mob_ratio.{proofs.Field.{add_zero, sub_self}, proofs.Order.{same_exact}, proofs.RatioLemmas.{over-lowest}}
use Rattle.mob_ast.specs.declared.types.SqlType.{SqlType}
use Rattle.mob_operators.{specs.declared.operator.Spelling.{Spelling}, specs.declared.operator.Op.{Op}, specs.Lookup.{Line, answer_of, found_in, given, operator_named, same_form, takes}}
use Rattle.mob_operators.specs.Table.{table}
use Rattle.mob_typed.{specs.declared.typed.ConstText.{ConstText}, specs.Selects.{Output, TypedSelectParts}, specs.Statements.{ColumnList, deletion, query}}
use Rattle.mob_typed.specs.Trees.{TypedTree, typed, TypedTrees, none, more, type_of, arg_types}
use Rattle.mob_clauses.{specs.Conditions.{is_bool}, specs.Keys.{is_key}}
use Rattle.mob_expression.specs.Expressions.{can_cast_all}
use Rattle.mob_typing.specs.WellTyped.{AreOperated, FitsArguments, HasOperatorRow, IsBehindSigns, IsGroup, IsOperated, behind_minus, behind_plus, column_type, condition_alone, expressions_of}
use Rattle.mob_typing.specs.WellTyped.{is_division, the_number}
use Rattle.mob_value.{specs.Types.{is_of_type, read_as}, specs.Null.{value_or_null}, specs.declared.store.Table.{Table}, specs.declared.value.Value.{Value}}
use Rattle.mob_value.specs.declared.value.Value.TheVariants.{Null, Number}
use Rattle.mob_arith.specs.Sql.Arithmetic.{is_nil}
use Rattle.mob_ordinary.specs.Ordinary.{negated, unchanged}
use Rattle.mob_tuples.specs.Tuples.{no_row}
use Rattle.mob_catalog.{specs.Catalogue.{Catalogue}, specs.OwnTypes.{HasColumnTypes, IsValueOf}, specs.TypedTables.{HoldsTypedRows, HoldsTypedTables, head_columns}}
use Rattle.mob_catalog.specs.declared.catalog.TableHead.{TableHead}
use Rattle.mob_meaning.{specs.Evaluation.{stop_of}, specs.Operators.{OperatorGives}, specs.Scene.{Scene, column_value, leaf_value, row_of_number, scene}}
use Rattle.mob_meaning.specs.Values.{OperandsHaveValues, TreeHasValue}
use Rattle.mob_operands.{specs.Rows.{CastsHaveMeanings, DividesByOther, HasMeaning, RowsHaveMeanings, SettledIsTheValue}, proofs.Table.{each_line, line_passes, passes_on}}
use Rattle.mob_join.specs.TypedFor.{AllHaveDivisors, AllHaveStoredTypes, DividesByNumber, HasDivisors, HasStoredType, HasStoredTypes, IsNotZero, IsTypedFor}
use Rattle.mob_shell.specs.StoredTypes.{QueriesAreTyped}
use Rattle.mob_laws.specs.ExpressionTypes.{HasItsType, RunExpressionsHaveTheirTypes, TypedExpressionsHaveTheirTypes}
use Rattle.mob_ast.specs.declared.types.SqlType.TheVariants as sql
use Rattle.mob_operators.specs.declared.operator.Op.TheVariants as op
use Rattle.mob_meaning.specs.declared.terms.Terms.{Terms}
use Rattle.mob_shell.specs.Terms.{terms_of}

-- ---- the line that answers
-- what holds for each operator of each line, on the types that the line takes, holds for the
-- answers of the table
module _ (P : Op → SqlType → List SqlType → Type 0) (form : Spelling) (name : List ℕ) (ts : List SqlType) (literal : Bool) (o : Op) (ty : SqlType) where
  abbrev LineHas : Line → Type 0
  LineHas l = (us : List SqlType) (lit : Bool) (t : SqlType) → takes l us lit ≡ true → given l.gives us ≡ Some t → AllByRecursion (λ (n : List ℕ × Op). P n.1 t us) l.names

  abbrev Answer : Type 0
  Answer = Option (Op × SqlType)

  named : (t : SqlType) (ns : List (List ℕ × Op)) (p : Op) → AllByRecursion (λ (n : List ℕ × Op). P n.1 t ts) ns → operator_named ns name ≡ Some p → P p t ts
  named t [] p h e = absurd (cc)
  named t (n ∷ ns) p h e = by (bytes_eq n.0 name) e (named t ns p h.1)
    where
      by : (b : Bool) → cond b (Some n.1) (operator_named ns name) ≡ Some p → (operator_named ns name ≡ Some p → P p t ts) → P p t ts
      by true k rest = let is : n.1 ≡ p = cc in subst (λ x. P x t ts) is h.0
      by false k rest = rest k

  answered : (l : Line) → LineHas l → ◌≡◌ {A = Answer} (answer_of l form name ts literal) (Some (o, ty)) → P o ty ts
  answered l h e = by_form (same_form l.form form) e
    where
      by_given : (p : Op) (x : Option SqlType) → takes l ts literal ≡ true → operator_named l.names name ≡ Some p → given l.gives ts ≡ x → ◌≡◌ {A = Answer} (option_map (λ t. (p, t)) x) (Some (o, ty)) → P o ty ts
      by_given p None taken is gives k = absurd (cc)
      by_given p (Some t) taken is gives k =
          let both : ◌≡◌ {A = Op × SqlType} (p, t) (o, ty) = cc in
          let first = ap (λ (z : Op × SqlType). z.0) both in
          let second = ap (λ (z : Op × SqlType). z.1) both in
          subst (λ z. P z ty ts) first (subst (λ z. P p z ts) second (named t l.names p (h ts literal t taken gives) is))

      by_takes : (p : Op) (b : Bool) → takes l ts literal ≡ b → operator_named l.names name ≡ Some p → ◌≡◌ {A = Answer} (cond b (option_map (λ t. (p, t)) (given l.gives ts)) None) (Some (o, ty)) → P o ty ts
      by_takes p true taken is k = by_given p (given l.gives ts) taken is refl k
      by_takes p false taken is k = absurd (cc)

      by_name : (x : Option Op) → operator_named l.names name ≡ x → ◌≡◌ {A = Answer} (option_and_then (λ p. cond (takes l ts literal) (option_map (λ t. (p, t)) (given l.gives ts)) None) x) (Some (o, ty)) → P o ty ts
      by_name None is k = absurd (cc)
      by_name (Some p) is k = by_takes p (takes l ts literal) refl is k

      by_form : (b : Bool) → ◌≡◌ {A = Answer} (option_and_then (λ p. cond (takes l ts literal) (option_map (λ t. (p, t)) (given l.gives ts)) None) (cond b (operator_named l.names name) None)) (Some (o, ty)) → P o ty ts
      by_form true k = by_name (operator_named l.names name) refl k
      by_form false k = absurd (cc)

  found_has : (ls : List Line) → AllByRecursion LineHas ls → ◌≡◌ {A = Answer} (found_in ls form name ts literal) (Some (o, ty)) → P o ty ts
  found_has [] h e = absurd (cc)
  found_has (l ∷ ls) h e = by (answer_of l form name ts literal) refl e (found_has ls h.1)
    where
      by : (x : Answer) → answer_of l form name ts literal ≡ x → option_or x (found_in ls form name ts literal) ≡ Some (o, ty) → (◌≡◌ {A = Answer} (found_in ls form name ts literal) (Some (o, ty)) → P o ty ts) → P o ty ts
      by None is k rest = rest k
      by (Some a) is k rest = answered l h.0 (is ∙ k)

-- AND and OR take two bools, and give one
abbrev settles_bools : Op → SqlType → List SqlType → Bool
settles_bools op.And sql.Bool (sql.Bool ∷ sql.Bool ∷ []) = true
settles_bools op.And _ _ = false
settles_bools op.Or sql.Bool (sql.Bool ∷ sql.Bool ∷ []) = true
settles_bools op.Or _ _ = false
settles_bools _ _ _ = true

table_settles : list_all (line_passes settles_bools) table ≡ true
unfolding table
table_settles = refl

found_settles : (form : Spelling) (name : List ℕ) (ts : List SqlType) (literal : Bool) (o : Op) (ty : SqlType) → found_in table form name ts literal ≡ Some (o, ty) → settles_bools o ty ts ≡ true
found_settles form name ts literal o ty = found_has (λ p t us. settles_bools p t us ≡ true) form name ts literal o ty table
    (each_on (λ l. line_passes settles_bools l ≡ true) (LineHas (λ p t us. settles_bools p t us ≡ true) form name ts literal o ty) (λ l h us lit t. passes_on settles_bools l h us lit t) table (each_line settles_bools table table_settles))

-- ---- numbers other than 0
-- a value is not the number 0
abbrev IsNotNil : Value → Type 0
IsNotNil (Number q) = q ≢ whole (pos 0)
IsNotNil _ = Unit {0}

nil_num : (whole (pos 0)).num ≡ pos 0
nil_num = ap (λ (x : Ratio). x.num) (whole-over (pos 0)) ∙ (over-lowest (pos 0) 1 (lowest_in (pos 0) 1 (omega arith) (gcd_one_right (nat_abs (pos 0))))).0

not_nil_num : (q : Ratio) → q.num ≢ pos 0 → q ≢ whole (pos 0)
not_nil_num q h e = h (ap (λ (x : Ratio). x.num) e ∙ nil_num)

negative_not_nil : (q : Ratio) → q ≢ whole (pos 0) → neg_ℚ q ≢ whole (pos 0)
negative_not_nil q h e = h (sym (add_zero q) ∙ ap (λ x. q +ℚ x) (sym e) ∙ sub_self q)

negated_not_nil : (v : Value) → IsNotNil v → IsNotNil (negated v)
negated_not_nil (Number q) h = negative_not_nil q h
negated_not_nil _ h = tt

unchanged_not_nil : (v : Value) → IsNotNil v → IsNotNil (unchanged v)
unchanged_not_nil (Number q) h = h
unchanged_not_nil _ h = tt

read_not_nil : (ty : SqlType) (q : Ratio) → q ≢ whole (pos 0) → IsNotNil (read_as ty (Number q))
read_not_nil ty q h = by (is_of_type ty (Number q))
  where
    by : (b : Bool) → IsNotNil (cond b (Number q) Null)
    by true = h
    by false = tt

test_false : (q : Ratio) → q ≢ whole (pos 0) → is_nil q ≡ false
test_false q h = by (same q (whole (pos 0))) (same_exact q (whole (pos 0))).0
  where
    by : (b : Bool) → (IsTrue b → q ≡ whole (pos 0)) → b ≡ false
    by true k = absurd (h (k refl))
    by false k = refl

divides_by : (a b : Value) → IsNotNil b → DividesByOther op.Divide (a ∷ b ∷ [])
divides_by a (Number q) h = test_false q h
divides_by a _ h = tt

-- ---- values of a type
pub null_of : (ty : SqlType) → IsValueOf ty Null
null_of ty = record { form = refl; whole = tt }

read_of : (ty : SqlType) (v : Value) → IsValueOf ty v → IsValueOf ty (read_as ty v)
read_of ty v h = by (is_of_type ty v)
  where
    by : (b : Bool) → IsValueOf ty (cond b v Null)
    by true = h
    by false = null_of ty

-- if there is a value, it is of the type
abbrev HoldsOf : SqlType → Option Value → Type 0
HoldsOf ty o = (v : Value) → o ≡ Some v → IsValueOf ty v

stored_of : (ty : SqlType) (o : Option Value) → HoldsOf ty o → IsValueOf ty (read_as ty (value_or_null o))
stored_of ty None h = read_of ty Null (null_of ty)
stored_of ty (Some v) h = read_of ty v (h v refl)

no_value : (ty : SqlType) → HoldsOf ty None
no_value ty v e = absurd (cc)

module _ (k : ℕ) (ty : SqlType) where
  -- in a column of a row, of the rows of a table, and of the tables
  in_row : (columns : ColumnList) (row : List Value) (j : ℕ) → HasColumnTypes columns row → option_map (λ (c : List ℕ × SqlType). c.1) (slice_get columns j) ≡ Some ty → HoldsOf ty (slice_get row j)
  in_row [] row j h is = absurd (cc)
  in_row (c ∷ cs) [] j h is = absurd h
  in_row (c ∷ cs) (w ∷ ws) zero h is = λ v e. let type : c.1 ≡ ty = cc in let value : w ≡ v = cc in subst (IsValueOf ty) value (subst (λ t. IsValueOf t w) type h.0.own)
  in_row (c ∷ cs) (w ∷ ws) (suc j) h is = in_row cs ws j h.1 is

  in_rows : (columns : ColumnList) (rows : List (List Value)) (n : ℕ) → AllByRecursion (HasColumnTypes columns) rows → option_map (λ (c : List ℕ × SqlType). c.1) (slice_get columns k) ≡ Some ty
      → HoldsOf ty (option_and_then (λ (vs : List Value). slice_get vs k) (slice_get rows n))
  in_rows columns [] n h is = no_value ty
  in_rows columns (row ∷ rows) zero h is = in_row columns row k h.0 is
  in_rows columns (row ∷ rows) (suc n) h is = in_rows columns rows n h.1 is

  at_number : (columns : ColumnList) (rows : List (List Value)) (n : ℕ) → AllByRecursion (HasColumnTypes columns) rows → option_map (λ (c : List ℕ × SqlType). c.1) (slice_get columns k) ≡ Some ty
      → HoldsOf ty (option_and_then (λ (vs : List Value). slice_get vs k) (row_of_number rows n))
  at_number columns rows n h is = by (n == no_row)
    where
      by : (b : Bool) → HoldsOf ty (option_and_then (λ (vs : List Value). slice_get vs k) (cond b None (slice_get rows n)))
      by true = no_value ty
      by false = in_rows columns rows n h is

  at_row : (columns : ColumnList) (rows : List (List Value)) (o : Option ℕ) → AllByRecursion (HasColumnTypes columns) rows → option_map (λ (c : List ℕ × SqlType). c.1) (slice_get columns k) ≡ Some ty
      → HoldsOf ty (option_and_then (λ (vs : List Value). slice_get vs k) (option_and_then (row_of_number rows) o))
  at_row columns rows None h is = no_value ty
  at_row columns rows (Some n) h is = at_number columns rows n h is

  in_tables : (heads : List TableHead) (tables : List Table) (t : ℕ) (o : Option ℕ) → AllZip HoldsTypedRows heads tables → column_type (map head_columns heads) t k ≡ Some ty
      → HoldsOf ty (option_and_then (λ (vs : List Value). slice_get vs k) (option_and_then (λ (rows : List (List Value)). option_and_then (row_of_number rows) o) (option_map (λ (x : Table). x.rows) (slice_get tables t))))
  in_tables [] tables t o h is = absurd (cc)
  in_tables (x ∷ xs) [] t o h is = absurd h
  in_tables (x ∷ xs) (y ∷ ys) zero o h is = at_row x.columns y.rows o h.0 is
  in_tables (x ∷ xs) (y ∷ ys) (suc t) o h is = in_tables xs ys t o h.1 is

  in_place : (heads : List TableHead) (tables : List Table) (from : Option ℕ) (o : Option ℕ) → AllZip HoldsTypedRows heads tables → option_and_then (λ t. column_type (map head_columns heads) t k) from ≡ Some ty
      → HoldsOf ty (option_and_then (λ (vs : List Value). slice_get vs k) (option_and_then (λ (rows : List (List Value)). option_and_then (row_of_number rows) o) (option_and_then (λ (t : ℕ). option_map (λ (x : Table). x.rows) (slice_get tables t)) from)))
  in_place heads tables None o h is = absurd (cc)
  in_place heads tables (Some t) o h is = in_tables heads tables t o h is

-- a leaf, on any tuple
module _ (c : Catalogue) (typed_rows : HoldsTypedTables c) (from tuple : List ℕ) (terms : Terms) where
  pub leaf_of_type : (o : Op) (ty : SqlType) → HasStoredType c from o ty → IsValueOf ty (leaf_value (scene c.store from tuple terms) o ty)
  leaf_of_type (op.Const k) ty h = stored_of ty (slice_get c.store.consts k) (λ v e. let value : h.0 ≡ v = cc (sym h.1 ∙ e) in subst (IsValueOf ty) value h.2)
  leaf_of_type (op.Column f k) ty h = stored_of ty (column_value (scene c.store from tuple terms) f k) (in_place k ty c.heads c.store.tables (slice_get from f) (slice_get tuple f) typed_rows h)
  leaf_of_type _ ty h = null_of ty

-- ---- expressions
module _ (rows : RowsHaveMeanings) (casts : CastsHaveMeanings) (settled : SettledIsTheValue) where
  row_meant : (consts : List ConstText) (o : Op) (ty : SqlType) (args : TypedTrees) → HasOperatorRow consts o ty args → HasMeaning o ty (arg_types args)
  row_meant consts o ty args h = found_has HasMeaning h.form h.name (arg_types args) (is_division o) o ty table rows h.row

  row_settles : (consts : List ConstText) (o : Op) (ty : SqlType) (args : TypedTrees) → HasOperatorRow consts o ty args → settles_bools o ty (arg_types args) ≡ true
  row_settles consts o ty args h = found_settles h.form h.name (arg_types args) (is_division o) o ty h.row

  module _ (consts : List ConstText) (c : Catalogue) (typed_rows : HoldsTypedTables c) (from tuple : List ℕ) (terms : Terms) where
    abbrev here : Scene
    here = scene c.store from tuple terms

    leaf_alone : (o : Op) (ty : SqlType) (args : TypedTrees) (vs : List Value) (v : Value) → args ≡ none → OperandsHaveValues here (stop_of o) args vs → OperatorGives here o ty (arg_types args) vs v → v ≡ leaf_value here o ty
    leaf_alone o ty args vs v e has gives =
        let alone : vs ≡ [] = subst (λ a. OperandsHaveValues here (stop_of o) a vs) e has in
        subst (λ ws. OperatorGives here o ty (arg_types args) ws v) alone gives

    -- operands
    abbrev AllHaveTheirTypes : TypedTrees → Type 0
    AllHaveTheirTypes none = Unit {0}
    AllHaveTheirTypes (more t ts) = HasItsType here t × AllHaveTheirTypes ts

    each_given : (args : TypedTrees) (vs : List Value) → AllHaveTheirTypes args → OperandsHaveValues here None args vs → AllZip IsValueOf (arg_types args) vs
    each_given none vs h has = subst (AllZip IsValueOf []) (sym has) tt
    each_given (more e rest) [] h has = absurd has
    each_given (more e rest) (v ∷ vs) h (value, inl stopped) = absurd (true≢false (sym stopped.0))
    each_given (more e rest) (v ∷ vs) h (value, inr on) = (h.0 v value, each_given rest vs h.1 on.1)

    -- the value of a divisor is not 0
    one_given : (e : TypedTree) (vs : List Value) → OperandsHaveValues here None (more e none) vs → (x : Value) × TreeHasValue here e x × (vs ≡ x ∷ [])
    one_given e [] has = absurd has
    one_given e (v ∷ vs) (value, inl stopped) = absurd (true≢false (sym stopped.0))
    one_given e (v ∷ vs) (value, inr on) = (v, value, ap (λ z. v ∷ z) on.1)

    divisor_given : {t : TypedTree} → IsBehindSigns (IsNotZero c) t → (v : Value) → TreeHasValue here t v → IsNotNil v
    divisor_given (the_number {k} {p} {ty} is) v h =
        let leaf = leaf_alone (op.Const k) ty none h.0 v refl h.1 h.2 in
        let stored : leaf_value here (op.Const k) ty ≡ read_as ty (Number is.0) = ap (λ o. read_as ty (value_or_null o)) is.1 in
        subst IsNotNil (sym (leaf ∙ stored)) (read_not_nil ty is.0 (not_nil_num is.0 is.2))
    divisor_given (behind_minus {t} {ty} {p} b) v h =
        let x = one_given t h.0 h.1 in
        let gives : v ≡ negated x.0 = subst (λ ws. OperatorGives here op.Negate ty (type_of t ∷ []) ws v) x.2 h.2 in
        subst IsNotNil (sym gives) (negated_not_nil x.0 (divisor_given b x.0 x.1))
    divisor_given (behind_plus {t} {ty} {p} b) v h =
        let x = one_given t h.0 h.1 in
        let gives : v ≡ unchanged x.0 = subst (λ ws. OperatorGives here op.Same ty (type_of t ∷ []) ws v) x.2 h.2 in
        subst IsNotNil (sym gives) (unchanged_not_nil x.0 (divisor_given b x.0 x.1))

    divides : (args : TypedTrees) (vs : List Value) → DividesByNumber c args → OperandsHaveValues here None args vs → DividesByOther op.Divide vs
    divides (more a (more b none)) [] d has = absurd has
    divides (more a (more b none)) (x ∷ vs) d (value, inl stopped) = absurd (true≢false (sym stopped.0))
    divides (more a (more b none)) (x ∷ vs) d (value, inr on) =
        let y = one_given b vs on.1 in
        subst (λ ws. DividesByOther op.Divide (x ∷ ws)) (sym y.2) (divides_by x y.0 (divisor_given d y.0 y.1))
    divides none vs d has = absurd d
    divides (more a none) vs d has = absurd d
    divides (more a (more b (more e ts))) vs d has = absurd d

    -- AND and OR: one operand that decides them, or two
    module _ (o : Op) (stop : Bool) (is : stop_of o ≡ Some stop) where
      by_two : (ty : SqlType) (a b : TypedTree) → ty ≡ sql.Bool → type_of a ≡ sql.Bool → type_of b ≡ sql.Bool → HasMeaning o ty (type_of a ∷ type_of b ∷ []) → ((vs : List Value) → DividesByOther o vs) → HasItsType here a → HasItsType here b
          → (vs : List Value) (v : Value) → OperandsHaveValues here (stop_of o) (more a (more b none)) vs → OperatorGives here o ty (type_of a ∷ type_of b ∷ []) vs v → IsValueOf ty v
      by_two ty a b t ta tb meant free ha hb [] v has gives = absurd has
      by_two ty a b t ta tb meant free ha hb (x ∷ vs) v (value, inl stopped) gives =
          let alone = subst (λ ws. OperatorGives here o ty (type_of a ∷ type_of b ∷ []) (x ∷ ws) v) stopped.1 gives in
          let settles = settled here o ty (type_of a ∷ type_of b ∷ []) x v stopped.0 alone in
          subst (IsValueOf ty) (sym settles) (subst (λ u. IsValueOf u x) (ta ∙ sym t) (ha x value))
      by_two ty a b t ta tb meant free ha hb (x ∷ []) v (value, inr on) gives = absurd on.1
      by_two ty a b t ta tb meant free ha hb (x ∷ y ∷ vs) v (value, inr on) gives =
          let last : vs ≡ [] = elim on.1.1 [ inl s ↦ s.1 | inr r ↦ r.1 ] in
          let both = subst (λ ws. OperatorGives here o ty (type_of a ∷ type_of b ∷ []) (x ∷ y ∷ ws) v) last gives in
          (meant here (x ∷ y ∷ []) v (ha x value, (hb y on.1.0, tt)) (free (x ∷ y ∷ [])) both).own

    and_given : (ty : SqlType) (args : TypedTrees) → HasOperatorRow consts op.And ty args → AllHaveTheirTypes args → (vs : List Value) (v : Value) → OperandsHaveValues here (Some false) args vs → OperatorGives here op.And ty (arg_types args) vs v → IsValueOf ty v
    and_given ty args h has = by ty args (row_settles consts op.And ty args h) (row_meant consts op.And ty args h) has
      where
        by : (t : SqlType) (args : TypedTrees) → settles_bools op.And t (arg_types args) ≡ true → HasMeaning op.And t (arg_types args) → AllHaveTheirTypes args → (vs : List Value) (v : Value) → OperandsHaveValues here (Some false) args vs → OperatorGives here op.And t (arg_types args) vs v → IsValueOf t v
        by sql.Bool (more (typed oa sql.Bool pa xs) (more (typed ob sql.Bool pb ys) none)) s meant all = by_two op.And false refl sql.Bool (typed oa sql.Bool pa xs) (typed ob sql.Bool pb ys) refl refl refl meant (λ vs. tt) all.0 all.1.0
        by _ _ s meant all = absurd (true≢false (sym s))

    or_given : (ty : SqlType) (args : TypedTrees) → HasOperatorRow consts op.Or ty args → AllHaveTheirTypes args → (vs : List Value) (v : Value) → OperandsHaveValues here (Some true) args vs → OperatorGives here op.Or ty (arg_types args) vs v → IsValueOf ty v
    or_given ty args h has = by ty args (row_settles consts op.Or ty args h) (row_meant consts op.Or ty args h) has
      where
        by : (t : SqlType) (args : TypedTrees) → settles_bools op.Or t (arg_types args) ≡ true → HasMeaning op.Or t (arg_types args) → AllHaveTheirTypes args → (vs : List Value) (v : Value) → OperandsHaveValues here (Some true) args vs → OperatorGives here op.Or t (arg_types args) vs v → IsValueOf t v
        by sql.Bool (more (typed oa sql.Bool pa xs) (more (typed ob sql.Bool pb ys) none)) s meant all = by_two op.Or true refl sql.Bool (typed oa sql.Bool pa xs) (typed ob sql.Bool pb ys) refl refl refl meant (λ vs. tt) all.0 all.1.0
        by _ _ s meant all = absurd (true≢false (sym s))

    cast_given : (ty : SqlType) (args : TypedTrees) → can_cast_all (arg_types args) ty ≡ true → AllHaveTheirTypes args → (vs : List Value) (v : Value) → OperandsHaveValues here None args vs → OperatorGives here op.Cast ty (arg_types args) vs v → IsValueOf ty v
    cast_given ty none h all vs v has gives = absurd (true≢false (sym h))
    cast_given ty (more a none) h all vs v has gives = (casts (type_of a) ty h here vs v (each_given (more a none) vs all has) tt gives).own
    cast_given ty (more a (more b ts)) h all vs v has gives = absurd (true≢false (sym h))

    node_given : (o : Op) (ty : SqlType) (args : TypedTrees) → FitsArguments consts o ty args → (is_division o ≡ true → DividesByNumber c args) → HasStoredType c from o ty → AllHaveTheirTypes args
        → (vs : List Value) (v : Value) → OperandsHaveValues here (stop_of o) args vs → OperatorGives here o ty (arg_types args) vs v → IsValueOf ty v
    node_given (op.Const k) ty args fits d stored all vs v has gives = subst (IsValueOf ty) (sym (leaf_alone (op.Const k) ty args vs v fits has gives)) (leaf_of_type c typed_rows from tuple terms (op.Const k) ty stored)
    node_given (op.Column f k) ty args fits d stored all vs v has gives = subst (IsValueOf ty) (sym (leaf_alone (op.Column f k) ty args vs v fits has gives)) (leaf_of_type c typed_rows from tuple terms (op.Column f k) ty stored)
    node_given op.Null ty args fits d stored all vs v has gives = subst (IsValueOf ty) (sym (leaf_alone op.Null ty args vs v fits.1 has gives)) (null_of ty)
    node_given op.Cast ty args fits d stored all vs v has gives = cast_given ty args fits all vs v has gives
    node_given op.And ty args fits d stored all vs v has gives = and_given ty args fits all vs v has gives
    node_given op.Or ty args fits d stored all vs v has gives = or_given ty args fits all vs v has gives
    node_given op.Divide ty args fits d stored all vs v has gives = (row_meant consts op.Divide ty args fits here vs v (each_given args vs all has) (divides args vs (d refl) has) gives).own
    node_given o ty args fits d stored all vs v has gives = (row_meant consts o ty args fits here vs v (each_given args vs all has) tt gives).own

    mutual
      tree_given : (t : TypedTree) → IsOperated consts t → HasDivisors c t → HasStoredTypes c from t → HasItsType here t
      tree_given (typed o ty place args) h d s = λ v has. node_given o ty args h.0 d.0 s.0 (trees_given args h.1 d.1 s.1) has.0 v has.1 has.2

      trees_given : (ts : TypedTrees) → AreOperated consts ts → AllHaveDivisors c ts → AllHaveStoredTypes c from ts → AllHaveTheirTypes ts
      trees_given none h d s = tt
      trees_given (more t ts) h d s = (tree_given t h.0 d.0 s.0, trees_given ts h.1 d.1 s.1)

  -- ---- the expressions of a query
  module _ (c : Catalogue) (q : TypedSelectParts) (terms : Terms) (h : IsTypedFor c q) where
    abbrev Stored : TypedTree → Type 0
    Stored t = HasStoredTypes c q.from t

    condition_stored : (o : Option TypedTree) → IfSome o (λ t. Stored t × (is_bool (type_of t) ≡ true)) → AllByRecursion Stored (condition_alone o)
    condition_stored None k = tt
    condition_stored (Some t) k = (k.0, tt)

    ons_stored : (joins : List (Option TypedTree)) → AllByRecursion (λ on. IfSome on (λ t. Stored t × (is_bool (type_of t) ≡ true))) joins → AllByRecursion Stored (flat_map condition_alone joins)
    ons_stored [] k = tt
    ons_stored (on ∷ joins) k = each_both Stored (condition_alone on) (flat_map condition_alone joins) (condition_stored on k.0) (ons_stored joins k.1)

    all_stored : AllByRecursion Stored (expressions_of q)
    all_stored =
        let from_items = each_map (λ (o : Output). Stored o.0) Stored (λ o. o.0) (λ o g. g) q.items h.items in
        let from_ons = ons_stored q.joins h.joins.typed in
        let from_condition = condition_stored q.cond h.condition in
        let from_groups = each_on (λ t. Stored t × IsGroup t) Stored (λ t g. g.0) q.groups h.groups in
        let from_keys = each_map (λ (k : TypedTree × Bool). Stored k.0 × (q.grouped ≡ false → is_key (type_of k.0) ≡ true)) Stored (λ k. k.0) (λ k g. g.0) q.keys h.keys in
        each_both Stored (map (λ o. o.0) q.items) (flat_map condition_alone q.joins ++ (condition_alone q.cond ++ (q.groups ++ map (λ k. k.0) q.keys))) from_items
        (each_both Stored (flat_map condition_alone q.joins) (condition_alone q.cond ++ (q.groups ++ map (λ k. k.0) q.keys)) from_ons
        (each_both Stored (condition_alone q.cond) (q.groups ++ map (λ k. k.0) q.keys) from_condition
        (each_both Stored q.groups (map (λ k. k.0) q.keys) from_groups from_keys)))

    all_given : (tuple : List ℕ) (ts : List TypedTree) → AllByRecursion (IsOperated h.texts) ts → AllByRecursion (HasDivisors c) ts → AllByRecursion Stored ts → AllByRecursion (HasItsType (scene c.store q.from tuple terms)) ts
    all_given tuple [] o d s = tt
    all_given tuple (t ∷ ts) o d s = (tree_given h.texts c h.rows q.from tuple terms t o.0 d.0 s.0, all_given tuple ts o.1 d.1 s.1)

  pub typed_expressions : TypedExpressionsHaveTheirTypes
  typed_expressions c q terms tuple h = all_given c q terms h tuple (expressions_of q) h.operated h.divisors (all_stored c q terms h)

  pub run_expressions : QueriesAreTyped → RunExpressionsHaveTheirTypes
  run_expressions fit settings input count text run q tuple next = elim next [
    | inl is ↦ typed_expressions run.stands.catalogue q (terms_of settings) tuple (fit settings input count text run (query q) is)
    | inr is ↦ typed_expressions run.stands.catalogue q (terms_of settings) tuple (fit settings input count text run (deletion q) is).0
  ]
