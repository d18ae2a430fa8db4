-- The numerals of texts are bounded.
use Rattle.std.{specs.Prelude.{IfSome}, proofs.Common.{◌≡◌, ℕ, suc, ◌+◌, ◌*◌, ◌^◌, ◌<◌, ◌≤◌, length, true, Option, Some, None, sym, subst, arith, rules, codes, inl, inr}, proofs.lemmas.Nat.{pow-add}}
use Rattle.std.{proofs.Math.Nat.{mul-le-mul_right}, proofs.lemmas.Int.Digits.{digits_value-lt}}
use Rattle.mob_language.specs.Language.{Text, Maybe, behind}
use Rattle.mob_numeral.{specs.declared.numeral.Figures.{Figures}, specs.declared.numeral.Exponent.{Exponent}, specs.declared.numeral.Tail.{Tail}}
use Rattle.mob_numeral.{specs.declared.numeral.Tail.TheVariants.{Over, Decimal}, specs.declared.numeral.Numeral.{Numeral}, specs.Figures.{are_few_digits, digits}}
use Rattle.mob_numeral.{specs.Number.{count_of, has_digits, is_power, exponent, tail, number}, specs.NumberValue.{value_in, IsSmall, IsTailSmall, IsBounded}, proofs.Digits.{all_digits}}
use Rattle.mob_numeral.proofs.Powers.{ten_le}

short : (ds : Text) → are_few_digits ds ≡ true → length ds ≤ 36
short ds e = search rules

pub digits_small : (text : Text) (f : Figures) → digits text f → IsSmall f
digits_small text f d =
    let ds = d.meant in
    subst IsSmall (sym d.is) (digits_value-lt 10 ds (all_digits ds d.said.said.each), short ds d.said.holds)

power_small : (e : Exponent) → is_power e ≡ true → e.size.value ≤ 18
power_small e h = search rules

exponent_small : (text : Text) (e : Exponent) → exponent text e → e.size.value ≤ 18
exponent_small text e h = subst (λ (x : Exponent). x.size.value ≤ 18) (sym h.is) (power_small h.meant.1 h.said.second.holds)

part_small : (text : Text) (o : Option Figures) → Maybe (behind (codes ".") digits) text o → IfSome o IsSmall
part_small text None h = tt
part_small text (Some f) h = subst IsSmall (sym h.is) (digits_small h.said.back h.meant.1 h.said.second)

raise_small : (text : Text) (o : Option Exponent) → Maybe exponent text o → IfSome o (λ e. e.size.value ≤ 18)
raise_small text None h = tt
raise_small text (Some e) h = exponent_small text e h

tail_small : (text : Text) (t : Tail) → tail text t → IsTailSmall t
tail_small text t h = elim h [
  | inl o ↦ subst IsTailSmall (sym o.is) (subst IsSmall (sym o.said.is) (digits_small o.said.said.back o.said.meant.1 o.said.said.second))
  | inr d ↦ subst IsTailSmall (sym d.is) (part_small d.said.front d.meant.0 d.said.first, raise_small d.said.back d.meant.1 d.said.second)
]

pub number_bounded : (text : Text) (n : Numeral) → number text n → IsBounded n
number_bounded text n h =
    let m = h.said in
    let d = digits_small m.said.second.front m.meant.1.0 m.said.second.first in
    let t = tail_small m.said.second.back m.meant.1.1 m.said.second.second in
    record {
      digits = subst (λ (x : Numeral). IsSmall x.digits) (sym m.is) d;
      tail = subst (λ (x : Numeral). IsTailSmall x.tail) (sym m.is) t;
      there = h.holds;
    }

pub small_lt : (f : Figures) → IsSmall f → f.value < 10 ^ 36
small_lt f h = let a = ten_le f.count 36 h.1 in omega (arith, a, h.0)

pub enough : (whole : Figures) (part : Option Figures) (e : Option Exponent) → has_digits whole (Decimal part e) ≡ true → whole.count + count_of part ≤ 36
enough whole part e h = search rules

pub bottom_positive : (whole denominator : Figures) → has_digits whole (Over denominator) ≡ true → 0 < denominator.value
bottom_positive whole denominator h = search rules

part_lt : (o : Option Figures) → IfSome o IsSmall → value_in o < 10 ^ count_of o
part_lt None h = omega arith
part_lt (Some f) h = h.0

pub joined_lt : (v c : ℕ) (part : Option Figures) → v < 10 ^ c → IfSome part IsSmall → c + count_of part ≤ 36 → v * 10 ^ count_of part + value_in part < 10 ^ 36
joined_lt v c part lt small le =
    let p = 10 ^ count_of part in
    let w = part_lt part small in
    let a : suc v * p ≤ 10 ^ c * p = mul-le-mul_right p lt in
    let b = pow-add 10 c (count_of part) in
    let d = ten_le (c + count_of part) 36 le in
    omega (arith, a, b, d, w)
