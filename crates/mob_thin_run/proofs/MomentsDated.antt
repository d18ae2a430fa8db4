-- The instant of a written moment is in the years 0001 to 9999.
use Rattle.std.{specs.Int.{int_div_euclid}, proofs.Common.{◌≡◌, ap, ◌∙◌, ◌*◌, ◌<◌, ℕ, ℤ, pos, ◌+ℤ◌, ◌-ℤ◌, ◌*ℤ◌, ◌<ℤ◌, ◌≤ℤ◌, arith}, proofs.lemmas.Int.{ints}}
use Rattle.mob_ratio.{specs.Ratio.{over, whole, ◌+ℚ◌}, proofs.Floors.{quotient_from, quotient_until}, proofs.IntRing.{le_cancel, linear, lt_cancel, lt_times, products}, proofs.RatioLemmas.{den_pos, over-add, over-cross}}
use Rattle.mob_language.specs.Language.{Text}
use Rattle.mob_scalar.{specs.declared.stamp.Stamp.{Stamp}, specs.Moment.{instant, is_year_second, moment, seconds}, specs.MomentText.{HasDate, second_of, whole_seconds}}
use Rattle.mob_scalar.proofs.MomentBounds.{moment_small}

-- ---- the greatest whole number at most this
le_lt : (a b c : ℤ) → a ≤ℤ b → b <ℤ c → a <ℤ c
le_lt a b c h k = omega (arith, ints)

between : (n m : ℤ) → n <ℤ (m +ℤ pos 1) → m <ℤ (n +ℤ pos 1) → n ≡ m
between n m h k = omega (arith, ints)

floor_is : (a n : ℤ) (k : ℕ) → 0 < k → (n *ℤ pos k) ≤ℤ a → a <ℤ ((n +ℤ pos 1) *ℤ pos k) → int_div_euclid a (pos k) ≡ n
floor_is a n k some from until =
    let m = int_div_euclid a (pos k) in
    between m n
    (lt_cancel m (n +ℤ pos 1) k (le_lt (m *ℤ pos k) a ((n +ℤ pos 1) *ℤ pos k) (quotient_from a k some) until))
    (lt_cancel n (m +ℤ pos 1) k (le_lt (n *ℤ pos k) a ((m +ℤ pos 1) *ℤ pos k) from (quotient_until a k some)))

-- ---- a whole number of seconds and a part of one
-- n + r/d with r below d, in lowest terms, has the whole number n
from_parts : (n z : ℤ) (r d k : ℕ) → 0 < d → z *ℤ pos d ≡ (n *ℤ pos d +ℤ pos r) *ℤ pos k → (n *ℤ pos k) ≤ℤ z
from_parts n z r d k some e =
    le_cancel (n *ℤ pos k) z d some (let e' = simp products at e in simp products (omega (arith, linear, e')))

until_parts : (n z : ℤ) (r d k : ℕ) → 0 < k → r < d → z *ℤ pos d ≡ (n *ℤ pos d +ℤ pos r) *ℤ pos k → z <ℤ ((n +ℤ pos 1) *ℤ pos k)
until_parts n z r d k some below e =
    let below' : pos r <ℤ pos d = omega (arith, ints) in
    let more = simp products at (lt_times (pos r) (pos d) k some below') in
    let e' = simp products at e in
    lt_cancel z ((n +ℤ pos 1) *ℤ pos k) d (simp products (omega (arith, linear, e', more)))

seconds_whole : (n : ℤ) (r d : ℕ) → r < d → whole_seconds (whole n +ℚ over (pos r) d) ≡ n
unfolding whole
seconds_whole n r d below =
    let some : 0 < d = omega (arith, below) in
    let top = n *ℤ pos d +ℤ pos r *ℤ pos 1 in
    let q = over top (1 * d) in
    let one : 0 < 1 * d = omega (arith, some) in
    let cross : q.num *ℤ pos d ≡ (n *ℤ pos d +ℤ pos r) *ℤ pos q.den = let c = over-cross top (1 * d) one in crossed q.num n r d q.den c in
    ap whole_seconds (over-add n (pos r) 1 d (omega arith) some) ∙ floor_is q.num n q.den (den_pos q) (from_parts n q.num r d q.den some cross) (until_parts n q.num r d q.den (den_pos q) below cross)
  where
    crossed : (z n : ℤ) (r d k : ℕ) → z *ℤ pos (1 * d) ≡ (n *ℤ pos d +ℤ pos r *ℤ pos 1) *ℤ pos k → z *ℤ pos d ≡ (n *ℤ pos d +ℤ pos r) *ℤ pos k
    crossed z n r d k c = let c' = simp products at c in simp products (omega (arith, linear, c'))

less : (a b : ℤ) → a -ℤ b +ℤ b ≡ a
less a b = omega (arith, ints)

-- the second of the instant of a moment is that of the moment
second_is : (day : ℤ) (s : Stamp) → s.clock.part.numerator < s.clock.part.denominator → second_of day (instant day s) ≡ seconds s
unfolding instant
second_is day s below =
    ap (λ z. z +ℤ day *ℤ pos 86400) (seconds_whole (seconds s -ℤ day *ℤ pos 86400) s.clock.part.numerator s.clock.part.denominator below) ∙ less (seconds s) (day *ℤ pos 86400)

pub moment_dated : (day : ℤ) (text : Text) (s : Stamp) → moment text s → HasDate day (instant day s)
moment_dated day text s said = ap is_year_second (second_is day s (moment_small text s said).below) ∙ said.holds
