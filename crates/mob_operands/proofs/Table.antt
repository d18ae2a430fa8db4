-- A property of each line of a table of operators is checked for all types that the line takes, one
-- by one, by computing.
use Rattle.std.{specs.Prelude.{◌||◌, not}, specs.List.{AllByRecursion, list_all}}
use Rattle.std.{proofs.Common.{◌≡◌, ℕ, Bool, true, false, true≢false, List, [], ◌∷◌, Option, Some, None, refl, sym, ap, subst, ◌∙◌}, proofs.lemmas.Bool.{and_parts}}
use Rattle.mob_ast.specs.declared.types.SqlType.{SqlType}
use Rattle.mob_operators.{specs.declared.operator.Op.{Op}, specs.declared.table.Bond.{Bond}, specs.Lookup.{Line, same_type, has_type, types_fit, meets, given, takes}}
use Rattle.mob_ast.specs.declared.types.SqlType.TheVariants as sql
use Rattle.mob_operators.specs.declared.table.Bond.TheVariants as bond

same_types : (a b : SqlType) → same_type a b ≡ true → a ≡ b
same_types sql.Bool sql.Bool h = refl
same_types sql.Int sql.Int h = refl
same_types sql.Numeric sql.Numeric h = refl
same_types sql.Text sql.Text h = refl
same_types sql.Moment sql.Moment h = refl
same_types sql.Point sql.Point h = refl
same_types sql.Polygon sql.Polygon h = refl
same_types sql.Span sql.Span h = refl
same_types sql.SpanSet sql.SpanSet h = refl
same_types sql.Box sql.Box h = refl
same_types sql.TBool sql.TBool h = refl
same_types sql.TInt sql.TInt h = refl
same_types sql.TFrac sql.TFrac h = refl
same_types sql.TText sql.TText h = refl
same_types sql.TPoint sql.TPoint h = refl
same_types _ _ h = absurd (true≢false (sym h))

-- a test that all types of a class pass
in_class : (class : List SqlType) (Q : SqlType → Bool) → list_all Q class ≡ true → (t : SqlType) → has_type class t ≡ true → Q t ≡ true
in_class [] Q h t e = absurd (true≢false (sym e))
in_class (x ∷ class) Q h t e = by (same_type x t) refl (λ k. in_class class Q (and_parts (Q x) (list_all Q class) h).1 t k)
  where
    by : (b : Bool) → same_type x t ≡ b → (has_type class t ≡ true → Q t ≡ true) → Q t ≡ true
    by true k rest = subst (λ z. Q z ≡ true) (same_types x t k) (and_parts (Q x) (list_all Q class) h).0
    by false k rest = rest (sym (ap (λ b. b || has_type class t) k) ∙ e)

-- a test of all types, one of each class
abbrev pub all_of : List (List SqlType) → (List SqlType → Bool) → Bool
all_of [] P = P []
all_of (class ∷ classes) P = list_all (λ t. all_of classes (λ ts. P (t ∷ ts))) class

fits_all : (classes : List (List SqlType)) (P : List SqlType → Bool) → all_of classes P ≡ true → (ts : List SqlType) → types_fit classes ts ≡ true → P ts ≡ true
fits_all [] P h [] e = h
fits_all [] P h (t ∷ ts) e = absurd (true≢false (sym e))
fits_all (class ∷ classes) P h [] e = absurd (true≢false (sym e))
fits_all (class ∷ classes) P h (t ∷ ts) e =
    let k = and_parts (has_type class t) (types_fit classes ts) e in
    fits_all classes (λ us. P (t ∷ us)) (in_class class (λ x. all_of classes (λ us. P (x ∷ us))) h t k.0) ts k.1

-- a test of an operator with the type of its result and the types of its operands
module _ (test : Op → SqlType → List SqlType → Bool) where
  abbrev names_pass : List (List ℕ × Op) → List SqlType → Option SqlType → Bool
  names_pass names ts None = true
  names_pass names ts (Some ty) = list_all (λ n. test n.1 ty ts) names

  abbrev types_pass : Line → List SqlType → Bool
  types_pass l ts = not (meets l.bond ts true) || names_pass l.names ts (given l.gives ts)

  abbrev pub line_passes : Line → Bool
  line_passes l = all_of l.takes (types_pass l)

  each_name : (names : List (List ℕ × Op)) (ty : SqlType) (ts : List SqlType) → list_all (λ n. test n.1 ty ts) names ≡ true → AllByRecursion (λ (n : List ℕ × Op). test n.1 ty ts ≡ true) names
  each_name [] ty ts h = tt
  each_name (n ∷ names) ty ts h = let k = and_parts (test n.1 ty ts) _ h in (k.0, each_name names ty ts k.1)

  by_literal : (b : Bond) (ts : List SqlType) (literal : Bool) → meets b ts literal ≡ true → meets b ts true ≡ true
  by_literal bond.Free ts literal h = refl
  by_literal bond.OneMoving ts literal h = h
  by_literal bond.SameType ts literal h = h
  by_literal bond.ByLiteral ts literal h = refl

  -- a line that passes does so on all types that it takes
  pub passes_on : (l : Line) → line_passes l ≡ true → (ts : List SqlType) (literal : Bool) (ty : SqlType) → takes l ts literal ≡ true → given l.gives ts ≡ Some ty → AllByRecursion (λ (n : List ℕ × Op). test n.1 ty ts ≡ true) l.names
  passes_on l h ts literal ty e g =
      let k = and_parts (types_fit l.takes ts) (meets l.bond ts literal) e in
      let p = fits_all l.takes (types_pass l) h ts k.0 in
      let q = ap (λ b. not b || names_pass l.names ts (given l.gives ts)) (by_literal l.bond ts literal k.1) in
      let r = ap (names_pass l.names ts) g in
      each_name l.names ty ts (sym r ∙ sym q ∙ p)

  pub each_line : (ls : List Line) → list_all line_passes ls ≡ true → AllByRecursion (λ l. line_passes l ≡ true) ls
  each_line [] h = tt
  each_line (l ∷ ls) h = let k = and_parts (line_passes l) (list_all line_passes ls) h in (k.0, each_line ls k.1)
