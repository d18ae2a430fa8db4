-- Whole numbers compare like integers.
use Rattle.std.{specs.Cmp.{int_ranks}, specs.Ordering.{int_cmp, MatchOrdering}, specs.declared.cmp.Ordering.{Ordering}, specs.declared.cmp.Ordering.TheVariants.{Less, Equal, Greater}}
use Rattle.std.proofs.Common.{◌≡◌, ◌<ℤ◌, ℤ, refl, sym, ap, ◌∙◌, subst, arith}
use Rattle.mob_ratio.{specs.Ratio.{Ratio, over, whole, ◌<ℚ◌}, proofs.RatioLemmas.{over-self}, proofs.Clear.{whole-over, same_lt}, proofs.Order.{lt-before, before-back, before-self}}
use Rattle.mob_slice.specs.Ranks.{compare_ratio}

-- a fraction with the denominator 1
pub is_whole : (q : Ratio) → q.den ≡ 1 → q ≡ whole q.num
is_whole q h = sym (over-self q) ∙ ap (over q.num) h ∙ sym (whole-over q.num)

-- one comparison of the parts gives the order
pub compared_once : (a b : Ratio) (o : Ordering) → MatchOrdering o (a <ℚ b) (a ≡ b) (b <ℚ a) → o ≡ compare_ratio a b
compared_once a b Less h = sym (rw (lt-before a b h) refl)
compared_once a b Equal h = sym (subst (λ z. compare_ratio a z ≡ Equal) h (rw (before-self a) refl))
compared_once a b Greater h = sym (rw (before-back b a (lt-before b a h), lt-before b a h) refl)

less_whole : (m n : ℤ) → m <ℤ n → whole m <ℚ whole n
less_whole m n h = rw (whole-over m, whole-over n) ((same_lt m n 1 (omega arith)).1 h)

pub whole_order : (m n : ℤ) → int_cmp m n ≡ compare_ratio (whole m) (whole n)
whole_order m n = compared_once (whole m) (whole n) (int_cmp m n) (by (int_cmp m n) (int_ranks m n))
  where
    by : (o : Ordering) → MatchOrdering o (m <ℤ n) (m ≡ n) (n <ℤ m) → MatchOrdering o (whole m <ℚ whole n) (whole m ≡ whole n) (whole n <ℚ whole m)
    by Less h = less_whole m n h
    by Equal h = ap whole h
    by Greater h = less_whole n m h
