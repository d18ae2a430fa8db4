-- Numbers printed with leading zeros read back as themselves.
use Rattle.std.{specs.Prelude.{nat_eq}, specs.Fmt.{decimal}, specs.Str.Parse.{digits_value}}
use Rattle.std.{proofs.Common.{◌≡◌, ℕ, zero, suc, ◌+◌, ◌-◌, ◌^◌, ◌<◌, ◌≤◌, ◌++◌, length, replicate, true, refl, sym, ◌∙◌, arith, rules}, proofs.lemmas.Fmt.{decimal_is_IsNumeral}}
use Rattle.mob_language.specs.Language.{Text, Language, behind}
use Rattle.mob_numeral.{specs.Figures.{figures, digits, AreFigures}, proofs.Again.{are_figures, few_digits_test}, proofs.Powers.{ten_le}}
use Rattle.mob_scalar.{specs.Calendar.{has_count, fixed}, specs.MomentText.{padded}, proofs.Padding.{decimal_short}}

zeros_first : (z : ℕ) (ds : Text) → AreFigures ds → AreFigures (replicate z 48 ++ ds)
zeros_first zero ds h = h
zeros_first (suc z) ds h = (refl, zeros_first z ds h)

zeros_value : (z : ℕ) (ds : Text) → digits_value 10 (replicate z 48 ++ ds) ≡ digits_value 10 ds
zeros_value zero ds = refl
zeros_value (suc z) ds = zeros_value z ds

zeros_length : (z : ℕ) (ds : Text) → length (replicate z 48 ++ ds) ≡ z + length ds
zeros_length zero ds = omega arith
zeros_length (suc z) ds = let h = zeros_length z ds in omega (arith, h)

-- a number in k digits
pub record IsPadded (k n : ℕ) (text : Text) : Type 0 where
  pub figures : AreFigures text
  pub value : digits_value 10 text ≡ n
  pub count : length text ≡ k

pub padded_is : (k n : ℕ) → 1 ≤ k → k ≤ 6 → n < 10 ^ k → IsPadded k n (padded k n)
unfolding padded
padded_is k n one six h =
    let s = decimal_short k n one six h in
    let small : n < 2 ^ 64 = let a = ten_le k 6 six in omega (arith, a, h) in
    let is = decimal_is_IsNumeral n small in
    let z = k - length (decimal n) in
    let len = zeros_length z (decimal n) in
    record {
      figures = zeros_first z (decimal n) (are_figures (decimal n) is.0.1);
      value = zeros_value z (decimal n) ∙ is.1;
      count = omega (arith, len, s.most);
    }

pub padded_digits : (k n : ℕ) (text : Text) → k ≤ 36 → IsPadded k n text → digits text (figures text)
padded_digits k n text le h = record {
  meant = text;
  said = record { said = record { is = refl; each = h.figures }; holds = few_digits_test text (omega (arith, h.count, le)) };
  is = refl;
}

has_count_is : (k : ℕ) (text : Text) → length text ≡ k → has_count k (figures text) ≡ true
has_count_is k text e = same (length text) k e
  where
    same : (m n : ℕ) → m ≡ n → nat_eq m n ≡ true
    same m n e = search rules

pub fixed_said : (k n : ℕ) → 1 ≤ k → k ≤ 6 → n < 10 ^ k → fixed k (padded k n) n
fixed_said k n one six h =
    let p = padded_is k n one six h in
    record {
      meant = figures (padded k n);
      said = record { said = padded_digits k n (padded k n) (omega (arith, six)) p; holds = has_count_is k (padded k n) p.count };
      is = sym p.value;
    }

-- a text after a word
pub behind_said : {A : Type 0} {l : Language A} (word text : Text) (v : A) → l text v → behind word l (word ++ text) v
behind_said word text v said = record {
  meant = (tt, v);
  said = record { front = word; back = text; whole = refl; first = refl; second = said };
  is = refl;
}
