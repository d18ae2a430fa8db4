-- The value of a run of digits.
use Rattle.std.{specs.Int.{IsInRange}, specs.Char.{digit_value}, specs.Str.Parse.{digits_value, AllDigits}}
use Rattle.std.{proofs.Common.{◌≡◌, ℕ, zero, suc, ◌+◌, ◌-◌, ◌*◌, ◌^◌, ◌<◌, ◌≤◌, List, [], ◌∷◌, length, get_or, take, true, arith, rules}, proofs.lemmas.Str.{digit_value_digit}}
use Rattle.std.{proofs.lemmas.Int.Digits.{digits_value-lt, digits_value_more}, proofs.Math.Nat.{pow-le-pow_right}}
use Rattle.mob_list.proofs.Entries.{take_short}
use Rattle.mob_language.specs.Language.{is_digit}
use Rattle.mob_numeral.specs.Figures.{AreFigures}

pub digit_range : (c : ℕ) → is_digit c ≡ true → IsInRange 48 57 c
digit_range c e = search rules

pub digit_is : (c : ℕ) → is_digit c ≡ true → digit_value c + 48 ≡ c
digit_is c e = digit_value_digit c (digit_range c e)

digit_lt : (c : ℕ) → is_digit c ≡ true → digit_value c < 10
digit_lt c e = let h = digit_is c e in let k = digit_range c e in omega (arith, h, k)

pub all_digits : (ds : List ℕ) → AreFigures ds → AllDigits 10 ds
all_digits [] h = tt
all_digits (c ∷ cs) h = (digit_lt c h.0, all_digits cs h.1)

pub figures_take : (i : ℕ) (ds : List ℕ) → AreFigures ds → AreFigures (take i ds)
figures_take zero ds h = tt
figures_take (suc i) [] h = tt
figures_take (suc i) (c ∷ cs) h = (h.0, figures_take i cs h.1)

pub figure_at : (ds : List ℕ) (i : ℕ) → AreFigures ds → i < length ds → is_digit (get_or ds i 0) ≡ true
figure_at [] i h lt = absurd (omega arith)
figure_at (c ∷ cs) zero h lt = h.0
figure_at (c ∷ cs) (suc i) h lt = figure_at cs i h.1 (omega arith)

pub front_lt : (ds : List ℕ) (i k : ℕ) → AreFigures ds → i ≤ k → digits_value 10 (take i ds) < 10 ^ k
front_lt ds i k h le =
    let a = digits_value-lt 10 (take i ds) (all_digits (take i ds) (figures_take i ds h)) in
    let s = take_short i ds in
    let b : 10 ^ length (take i ds) ≤ 10 ^ k = pow-le-pow_right {n = 10} (omega arith) (omega (arith, s, le)) in
    omega (arith, a, b)

-- the value after one more digit
pub front_more : (ds : List ℕ) (i : ℕ) → AreFigures ds → i < length ds → digits_value 10 (take (i + 1) ds) ≡ digits_value 10 (take i ds) * 10 + (get_or ds i 0 - 48)
front_more ds i h lt = let a = digits_value_more 10 ds i lt in let b = digit_is (get_or ds i 0) (figure_at ds i h lt) in omega (arith, a, b)
