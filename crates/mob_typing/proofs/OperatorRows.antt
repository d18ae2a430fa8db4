-- What the table of operators gives: no leaf and no cast; a division only by a number literal; and
-- for a sign before one argument an operator that keeps a number literal.
use Rattle.std.{specs.Prelude.{◌⊎◌, IfSome, not, option_map, option_and_then, codes}, specs.List.{list_all}, specs.Option.{option_or}, specs.Str.{bytes_eq}}
use Rattle.std.{proofs.Common.{◌≡◌, ◌∙◌, refl, sym, ap, subst, inl, inr, ℕ, List, [], ◌∷◌, Bool, true, false, cond, ◌&&◌, ◌||◌, Option, Some, None}, proofs.lemmas.Bool.{and_parts}}
use Rattle.std.proofs.lemmas.Slice.Eq.{bytes_eq-Decides}
use Rattle.std.proofs.Math.Bool.{and-false}
use Rattle.mob_ast.specs.declared.types.SqlType.{SqlType}
use Rattle.mob_operators.{specs.declared.operator.Spelling.{Spelling}, specs.declared.operator.Op.{Op}, specs.declared.table.Bond.{Bond}}
use Rattle.mob_operators.{specs.Lookup.{Line, operator_named, operator_in, same_form, types_fit, meets, takes, given, answer_of, found_in}, specs.Table.{table}}
use Rattle.mob_typed.{specs.Named.{reads_before, reads_from}, specs.declared.typed.ConstText.{ConstText}, specs.Trees.{TypedTree, typed, TypedTrees, none, more, typed_trees, types_of, arg_types}}
use Rattle.mob_typed.specs.Statements.{ColumnList}
use Rattle.mob_expression.specs.Expressions.{is_signed, can_cast_all}
use Rattle.mob_typing.{specs.WellTyped.{HasNamedType, IsNumberLiteral, behind_minus, behind_plus, is_division, HasDivisor, HasOperatorRow, FitsArguments}, proofs.Sound.{types_are}}
use Rattle.mob_ast.specs.declared.types.SqlType.TheVariants as sql
use Rattle.mob_operators.specs.declared.operator.Spelling.TheVariants as form
use Rattle.mob_operators.specs.declared.operator.Op.TheVariants as op
use Rattle.mob_operators.specs.declared.table.Bond.TheVariants as bond

-- an operator and its type
abbrev Answer : Type 0
Answer = Op × SqlType

-- a property of each operator that a line names is one of the operator that the line gives
module _ (P : Op → Bool) where
  abbrev Passes : Option Answer → Type 0
  Passes o = IfSome o (λ a. P a.0 ≡ true)

  named_pass : (ns : List (List ℕ × Op)) (name : List ℕ) → list_all (λ n. P n.1) ns ≡ true → IfSome (operator_named ns name) (λ o. P o ≡ true)
  named_pass [] name h = tt
  named_pass (n ∷ ns) name h =
      let parts = and_parts (P n.1) (list_all (λ m. P m.1) ns) h in
      by (bytes_eq n.0 name) parts.0 (named_pass ns name parts.1)
    where
      by : (b : Bool) → P n.1 ≡ true → IfSome (operator_named ns name) (λ o. P o ≡ true) → IfSome (cond b (Some n.1) (operator_named ns name)) (λ o. P o ≡ true)
      by true own others = own
      by false own others = others

  pub line_passes : (l : Line) (f : Spelling) (name : List ℕ) (ts : List SqlType) (literal : Bool) → list_all (λ n. P n.1) l.names ≡ true → Passes (answer_of l f name ts literal)
  line_passes l f name ts literal h = by (same_form l.form f) (operator_named l.names name) (named_pass l.names name h)
    where
      by_type : (o : Op) (t : Option SqlType) → P o ≡ true → Passes (option_map (λ ty. (o, ty)) t)
      by_type o None own = tt
      by_type o (Some ty) own = own

      by_test : (o : Op) (b : Bool) → P o ≡ true → Passes (cond b (option_map (λ ty. (o, ty)) (given l.gives ts)) None)
      by_test o true own = by_type o (given l.gives ts) own
      by_test o false own = tt

      by : (b : Bool) (o : Option Op) → IfSome o (λ x. P x ≡ true) → Passes (option_and_then (λ x. cond (takes l ts literal) (option_map (λ ty. (x, ty)) (given l.gives ts)) None) (cond b o None))
      by true None own = tt
      by true (Some o) own = by_test o (takes l ts literal) own
      by false o own = tt

-- a property of what each line gives is one of what the table gives
pub first_passes : (P : Op → Bool) (ls : List Line) (f : Spelling) (name : List ℕ) (ts : List SqlType) (literal : Bool) (each : Line → Bool) → ((l : Line) → each l ≡ true → Passes P (answer_of l f name ts literal)) → list_all each ls ≡ true → Passes P (found_in ls f name ts literal)
first_passes P [] f name ts literal each own h = tt
first_passes P (l ∷ ls) f name ts literal each own h =
    let parts = and_parts (each l) (list_all each ls) h in
    by (answer_of l f name ts literal) (own l parts.0) (first_passes P ls f name ts literal each own parts.1)
  where
    by : (o : Option Answer) → Passes P o → Passes P (found_in ls f name ts literal) → Passes P (option_or o (found_in ls f name ts literal))
    by None own others = others
    by (Some a) own others = own

-- an operator of the table is neither a leaf nor a cast
abbrev pub is_of_table : Op → Bool
is_of_table op.Null = false
is_of_table (op.Const k) = false
is_of_table (op.Column f k) = false
is_of_table op.Cast = false
is_of_table _ = true

abbrev line_is_of_table : Line → Bool
line_is_of_table l = list_all (λ n. is_of_table n.1) l.names

table_is_of_table : list_all line_is_of_table table ≡ true
unfolding table
table_is_of_table = refl

pub found_of_table : (f : Spelling) (name : List ℕ) (ts : List SqlType) (literal : Bool) → IfSome (found_in table f name ts literal) (λ a. is_of_table a.0 ≡ true)
found_of_table f name ts literal = first_passes is_of_table table f name ts literal line_is_of_table (λ l h. line_passes is_of_table l f name ts literal h) table_is_of_table

-- so it names nothing by a number, and it fits its arguments if it has its row
pub names_nothing : (tables : List ColumnList) (from : List ℕ) (cs : List ConstText) (o : Op) (ty : SqlType) → is_of_table o ≡ true → HasNamedType tables from cs o ty
names_nothing tables from cs (op.Const k) ty h = absurd (cc)
names_nothing tables from cs (op.Column f k) ty h = absurd (cc)
names_nothing tables from cs _ ty h = tt

pub reads_nothing : (first past : ℕ) (o : Op) → is_of_table o ≡ true → (reads_from first o ≡ true) × (reads_before past o ≡ true)
reads_nothing first past (op.Column f k) h = absurd (cc)
reads_nothing first past _ h = (refl, refl)

pub row_fits : (cs : List ConstText) (o : Op) (ty : SqlType) (args : TypedTrees) → is_of_table o ≡ true → HasOperatorRow cs o ty args → FitsArguments cs o ty args
row_fits cs (op.Const k) ty args h row = absurd (cc)
row_fits cs (op.Column f k) ty args h row = absurd (cc)
row_fits cs op.Null ty args h row = absurd (cc)
row_fits cs op.Cast ty args h row = absurd (cc)
row_fits cs _ ty args h row = row

-- a line that needs a number literal has only divisions, and every other line has none
abbrev not_division : Op → Bool
not_division o = not (is_division o)

abbrev asks_literal : Bond → Bool
asks_literal bond.ByLiteral = true
asks_literal _ = false

abbrev divides_by_literal : Line → Bool
divides_by_literal l = cond (asks_literal l.bond) (list_all (λ n. is_division n.1) l.names) (list_all (λ n. not_division n.1) l.names)

table_divides : list_all divides_by_literal table ≡ true
unfolding table
table_divides = refl

module _ (f : Spelling) (name : List ℕ) (ts : List SqlType) where
  -- the answer of a line, depending on whether it takes its arguments
  abbrev answer_by : Line → Bool → Option Answer
  answer_by l b = option_and_then (λ x. cond b (option_map (λ ty. (x, ty)) (given l.gives ts)) None) (operator_in l f name)

  untaken : (l : Line) → answer_by l false ≡ None
  untaken l = by (operator_in l f name)
    where
      by : (o : Option Op) → ◌≡◌ {A = Option Answer} (option_and_then (λ x. cond false (option_map (λ ty. (x, ty)) (given l.gives ts)) None) o) None
      by None = refl
      by (Some x) = refl

  -- without a literal a line that needs one gives nothing, and every other line gives the same as
  -- with one
  abbrev WithoutLiteral : Line → Type 0
  WithoutLiteral l = ((answer_of l f name ts false ≡ None) × Passes is_division (answer_of l f name ts true)) ⊎ ((answer_of l f name ts true ≡ answer_of l f name ts false) × Passes not_division (answer_of l f name ts false))

  without_literal : (l : Line) → divides_by_literal l ≡ true → WithoutLiteral l
  without_literal l h = by l.bond refl h
    where
      by : (b : Bond) → l.bond ≡ b → cond (asks_literal b) (list_all (λ n. is_division n.1) l.names) (list_all (λ n. not_division n.1) l.names) ≡ true → WithoutLiteral l
      by bond.ByLiteral is own = inl (ap (λ b. answer_by l (types_fit l.takes ts && meets b ts false)) is ∙ ap (answer_by l) (and-false (types_fit l.takes ts)) ∙ untaken l, line_passes is_division l f name ts true own)
      by bond.Free is own = inr (ap (λ b. answer_by l (types_fit l.takes ts && meets b ts true)) is ∙ sym (ap (λ b. answer_by l (types_fit l.takes ts && meets b ts false)) is), line_passes not_division l f name ts false own)
      by bond.OneMoving is own = inr (ap (λ b. answer_by l (types_fit l.takes ts && meets b ts true)) is ∙ sym (ap (λ b. answer_by l (types_fit l.takes ts && meets b ts false)) is), line_passes not_division l f name ts false own)
      by bond.SameType is own = inr (ap (λ b. answer_by l (types_fit l.takes ts && meets b ts true)) is ∙ sym (ap (λ b. answer_by l (types_fit l.takes ts && meets b ts false)) is), line_passes not_division l f name ts false own)

  -- without a literal no division is found
  found_without : (ls : List Line) → list_all divides_by_literal ls ≡ true → Passes not_division (found_in ls f name ts false)
  found_without ls h = first_passes not_division ls f name ts false divides_by_literal (λ l own. by l (without_literal l own)) h
    where
      by : (l : Line) → WithoutLiteral l → Passes not_division (answer_of l f name ts false)
      by l (inl w) = subst (Passes not_division) (sym w.0) tt
      by l (inr w) = w.1

  -- an operator other than a division is found without a literal if it is found with one
  abbrev AsWell : List Line → Answer → Type 0
  AsWell ls a = found_in ls f name ts true ≡ Some a → found_in ls f name ts false ≡ Some a

  found_with : (ls : List Line) → list_all divides_by_literal ls ≡ true → (a : Answer) → is_division a.0 ≡ false → AsWell ls a
  found_with [] h a other is = absurd (cc)
  found_with (l ∷ ls) h a other is =
      let parts = and_parts (divides_by_literal l) (list_all divides_by_literal ls) h in
      by (without_literal l parts.0) (found_with ls parts.1 a other)
    where
      off : (x : Option Answer) → Passes is_division x → AsWell ls a → option_or x (found_in ls f name ts true) ≡ Some a → found_in ls f name ts false ≡ Some a
      off None d rest so = rest so
      off (Some y) d rest so = let same : y ≡ a = cc in let division : is_division a.0 ≡ true = ap (λ (z : Answer). is_division z.0) (sym same) ∙ d in absurd (cc)

      on : (x : Option Answer) → AsWell ls a → option_or x (found_in ls f name ts true) ≡ Some a → option_or x (found_in ls f name ts false) ≡ Some a
      on None rest so = rest so
      on (Some y) rest so = so

      by : WithoutLiteral l → AsWell ls a → option_or (answer_of l f name ts false) (found_in ls f name ts false) ≡ Some a
      by (inl w) rest = ap (λ x. option_or x (found_in ls f name ts false)) w.0 ∙ off (answer_of l f name ts true) w.1 rest is
      by (inr w) rest = on (answer_of l f name ts false) rest (ap (λ x. option_or x (found_in ls f name ts true)) (sym w.0) ∙ is)

-- an operator that is found for typed operands has its row
pub has_row : (cs : List ConstText) (f : Spelling) (name : List ℕ) (ts : List TypedTree) (literal : Bool) (a : Op × SqlType) → found_in table f name (types_of ts) literal ≡ Some a
    → (literal ≡ true → is_division a.0 ≡ true → HasDivisor cs (typed_trees ts)) → HasOperatorRow cs a.0 a.1 (typed_trees ts)
has_row cs f name ts literal a is divisor = by literal (is_division a.0) refl refl
  where
    found_so : (b : Bool) → is_division a.0 ≡ b → found_in table f name (types_of ts) b ≡ Some a → found_in table f name (arg_types (typed_trees ts)) (is_division a.0) ≡ Some (a.0, a.1)
    found_so b own so = ap (λ tys. found_in table f name tys (is_division a.0)) (types_are ts) ∙ ap (found_in table f name (types_of ts)) own ∙ so

    by : (l d : Bool) → literal ≡ l → is_division a.0 ≡ d → HasOperatorRow cs a.0 a.1 (typed_trees ts)
    by true true given own = record { form = f; name = name; row = found_so true own (ap (found_in table f name (types_of ts)) (sym given) ∙ is); divisor = λ division. divisor given division }
    by true false given own =
        record { form = f; name = name; row = found_so false own (found_with f name (types_of ts) table table_divides a own (ap (found_in table f name (types_of ts)) (sym given) ∙ is)); divisor = λ division. absurd (cc) }
    by false d given own =
        let without : found_in table f name (types_of ts) false ≡ Some a = ap (found_in table f name (types_of ts)) (sym given) ∙ is in
        let other = subst (Passes not_division) without (found_without f name (types_of ts) table table_divides) in
        none_other d own other without
      where
        none_other : (b : Bool) → is_division a.0 ≡ b → not (is_division a.0) ≡ true → found_in table f name (types_of ts) false ≡ Some a → HasOperatorRow cs a.0 a.1 (typed_trees ts)
        none_other true so other without = absurd (cc)
        none_other false so other without = record { form = f; name = name; row = found_so false so without; divisor = λ division. absurd (cc) }

-- an operator that keeps a number or changes its sign
abbrev pub keeps_number : Op → Bool
keeps_number op.Negate = true
keeps_number op.Same = true
keeps_number _ = false

abbrev KeepsNumber : Option (Op × SqlType) → Type 0
KeepsNumber o = IfSome o (λ a. keeps_number a.0 ≡ true)

-- a `-` or `+` before one argument is such an operator, for every type
minus_keeps : (ty : SqlType) → KeepsNumber (found_in table form.Sign (codes "-") (ty ∷ []) false)
unfolding table
minus_keeps sql.Int = refl
minus_keeps sql.Numeric = refl
minus_keeps _ = tt

plus_keeps : (ty : SqlType) → KeepsNumber (found_in table form.Sign (codes "+") (ty ∷ []) false)
unfolding table
plus_keeps sql.Int = refl
plus_keeps sql.Numeric = refl
plus_keeps _ = tt

pub sign_keeps : (g : List ℕ) (ty : SqlType) → is_signed g ≡ true → KeepsNumber (found_in table form.Sign g (ty ∷ []) false)
sign_keeps g ty h = by (bytes_eq g (codes "-")) refl h
  where
    by : (b : Bool) → bytes_eq g (codes "-") ≡ b → (b || bytes_eq g (codes "+")) ≡ true → KeepsNumber (found_in table form.Sign g (ty ∷ []) false)
    by true minus h = subst (λ s. KeepsNumber (found_in table form.Sign s (ty ∷ []) false)) (sym ((bytes_eq-Decides g (codes "-")).0 minus)) (minus_keeps ty)
    by false other plus = subst (λ s. KeepsNumber (found_in table form.Sign s (ty ∷ []) false)) (sym ((bytes_eq-Decides g (codes "+")).0 plus)) (plus_keeps ty)

-- a number literal after such an operator is still one
pub behind_sign : (cs : List ConstText) (text : List ℕ) (t : TypedTree) (o : Op) (ty : SqlType) (p : ℕ) → keeps_number o ≡ true → IsNumberLiteral cs text t → IsNumberLiteral cs text (typed o ty p (more t none))
behind_sign cs text t op.Negate ty p h is = behind_minus is
behind_sign cs text t op.Same ty p h is = behind_plus is
behind_sign cs text t _ ty p h is = absurd (cc)

pub division_alone : (o : Op) → is_division o ≡ true → o ≡ op.Divide
division_alone op.Divide h = refl
division_alone _ h = absurd (cc)

-- each type is cast to itself
pub own_cast : (ty : SqlType) → can_cast_all (ty ∷ []) ty ≡ true
own_cast sql.Bool = refl
own_cast _ = refl
