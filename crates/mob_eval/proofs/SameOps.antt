-- Two operators that `==` finds equal are equal.
use Rattle.std.{proofs.Common.{◌≡◌, ◌==◌, ◌&&◌, inl, inr, ℕ, Bool, true, false, List, [], ◌∷◌, refl, sym, ap, true≢false, rules}, proofs.lemmas.Bool.{and_parts}}
use Rattle.mob_ast.{specs.declared.types.Cmp.{Cmp}, specs.contracts.types.Cmp.{the_type as sign}}
use Rattle.mob_operators.{specs.declared.operator.Op.{Op}, specs.contracts.operator.Op.{enum, the_parts, as_values}}
use Rattle.mob_eval.proofs.Choosing.{same_if}
use denote.Struct.Field.{Field}
use denote.Struct.Values.{Values}
use denote.Enum.Declared.{Choice, values_one}
use denote.Enum.Compared.{Each, by}
use denote.Enum.Bare.{sameb, same_true}

-- for each variant with fields: if the test is true, the fields are equal
abbrev pub Tells : (Fss : List (List Field)) → Each Bool Fss → Type 0
Tells [] each = Unit {0}
Tells ([] ∷ Fss) each = Tells Fss each.1
Tells ((F ∷ Fs) ∷ Fss) each = ((x y : Values (F ∷ Fs)) → each.0 x y ≡ true → x ≡ y) × Tells Fss each.1

told : (Fss : List (List Field)) (each : Each Bool Fss) → Tells Fss each → (c d : Choice Fss) → by false false Fss each c d ≡ true → c ≡ d
told [] each tells c d h = absurd c
told ([] ∷ Fss) each tells (inl x) (inl y) h = refl
told ([] ∷ Fss) each tells (inl x) (inr y) h = absurd (true≢false (sym h))
told ([] ∷ Fss) each tells (inr x) (inl y) h = absurd (true≢false (sym h))
told ([] ∷ Fss) each tells (inr x) (inr y) h = ap inr (told Fss each.1 tells x y h)
told ((F ∷ Fs) ∷ Fss) each tells (inl x) (inl y) h = ap inl (tells.0 x y h)
told ((F ∷ Fs) ∷ Fss) each tells (inl x) (inr y) h = absurd (true≢false (sym h))
told ((F ∷ Fs) ∷ Fss) each tells (inr x) (inl y) h = absurd (true≢false (sym h))
told ((F ∷ Fs) ∷ Fss) each tells (inr x) (inr y) h = ap inr (told Fss each.1 tells.1 x y h)

-- of two values of an operator, each by the test of its variant's fields
pub same_op : (a b : Op) (each : Each Bool the_parts) → Tells the_parts each → by false false the_parts each (as_values a) (as_values b) ≡ true → a ≡ b
same_op a b each tells h = values_one enum a b (told the_parts each tells (as_values a) (as_values b) h)

-- ---- the fields of a variant

pub same_number : (x y : ℕ × Unit {0}) → (x.0 == y.0) ≡ true → x ≡ y
same_number x y h = let p = same_if x.0 y.0 h in λ i. (p i, tt)

pub same_sign : (x y : Cmp × Unit {0}) → sameb sign x.0 y.0 ≡ true → x ≡ y
same_sign x y h = let p = same_true sign (search rules) x.0 y.0 h in λ i. (p i, tt)

pub same_numbers : (x y : ℕ × (ℕ × Unit {0})) → ((x.0 == y.0) && (x.1.0 == y.1.0)) ≡ true → x ≡ y
same_numbers x y h =
    let both = and_parts (x.0 == y.0) (x.1.0 == y.1.0) h in
    let p = same_if x.0 y.0 both.0 in
    let q = same_if x.1.0 y.1.0 both.1 in
    λ i. (p i, (q i, tt))
