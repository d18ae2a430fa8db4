-- The sign of a linear function at an instant, from the instant at which it changes.
use Rattle.std.{specs.Prelude.{◌≡◌, Bool, true, false, cond, not, ◌&&◌, ◌||◌, Some, None, refl}, specs.declared.cmp.Ordering.{Ordering}, specs.declared.cmp.Ordering.TheVariants.{Less, Equal, Greater}}
use Rattle.std.{specs.Ordering.{is_eq}, proofs.Common.{arith, ap, sym, ◌∙◌, true≢false}, proofs.Math.Bool.{or-true}}
use Rattle.mob_ratio.{specs.Ratio.{Ratio}, specs.Order.{before, same}, specs.Sign.{nil, sign_of, opposite, root_at, sign_on}, proofs.Order.{before-self, before-back, before-neither}}
use Rattle.mob_span.specs.Span.{SpanOf, has}
use Rattle.mob_cells.{specs.declared.linear.Ends.{Ends}, specs.Roots.{IsLevel, root_of, function_at}, specs.Cells.{instant_span, is_cell_of, NoneWithin}, proofs.Keeps.{kept}}
use Rattle.mob_cells.proofs.SignsAt.{first_side, second_side, no_side}
use Rattle.mob_clip.specs.Signs.{changing_at, changing_sign, ends_change}

-- ---- the instant as a cell
cell_at : (s : SpanOf) (t : Ratio) → has s t ≡ true → is_cell_of s (instant_span t) ≡ true
cell_at s t h = grind (arith, h, before-self t)

none_at : (r t : Ratio) → NoneWithin r (instant_span t)
none_at r t = grind (arith, before-back t r)

point_has : (t : Ratio) → has (instant_span t) t ≡ true
point_has t = rw (before-self t) refl

at_instant : (s : SpanOf) (f : Ends) (t : Ratio) → IsLevel s f → has s t ≡ true → sign_of (function_at s f t) ≡ sign_on f.at_lower f.at_upper s.lower s.upper t t
at_instant s f t l h = kept f.at_lower f.at_upper s (instant_span t) l (cell_at s t h) (λ o. none_at (root_at f.at_lower f.at_upper s.lower s.upper) t) t (point_has t)

-- ---- a root strictly inside
pub some_change : (s : SpanOf) (f : Ends) (r t : Ratio) → IsLevel s f → root_of s f ≡ Some r → has s t ≡ true → changing_at (sign_of f.at_lower) (Some r) (sign_of f.at_upper) t ≡ sign_of (function_at s f t)
some_change s f r t l e h = by (before t r) refl (before r t) refl ∙ sym (at_instant s f t l h)
  where
    by : (a : Bool) → before t r ≡ a → (b : Bool) → before r t ≡ b → cond a (sign_of f.at_lower) (cond b (sign_of f.at_upper) Equal) ≡ sign_on f.at_lower f.at_upper s.lower s.upper t t
    by true p b q = first_side s f r t t e p
    by false p true q = second_side s f r t t e p q
    by false p false q = no_side s f r t t e p q

-- ---- no root
not_opposite : (s : SpanOf) (f : Ends) → root_of s f ≡ None → (b : Bool) → opposite f.at_lower f.at_upper ≡ b → b ≡ false
not_opposite s f e true o = absurd (some_none (root_at f.at_lower f.at_upper s.lower s.upper) (sym (ap (λ b. cond b (Some (root_at f.at_lower f.at_upper s.lower s.upper)) None) o) ∙ e))
  where
    some_none : (x : Ratio) → Some x ≡ None → ⊥
    some_none x e = cc
not_opposite s f e false o = refl

on_ends : (f0 f1 l u t : Ratio) → opposite f0 f1 ≡ false → sign_on f0 f1 l u t t ≡ cond (same t l) (sign_of f0) (cond (same t u) (sign_of f1) (cond (same f0 nil) (sign_of f1) (sign_of f0)))
unfolding sign_on
on_ends f0 f1 l u t o = rw o refl

zero_sign : (q : Ratio) → same q nil ≡ is_eq (sign_of q)
unfolding sign_of same
zero_sign q = cases (before q nil) (before nil q)
  where
    cases : (a b : Bool) → (not a && not b) ≡ is_eq (cond a Less (cond b Greater Equal))
    cases true b = refl
    cases false true = refl
    cases false false = refl

-- two signs that are not opposite, neither of which is Equal, are equal
signs_by : (a b c d : Bool) → ((a && d) || (b && c)) ≡ false → is_eq (cond a Less (cond b Greater Equal)) ≡ false → is_eq (cond c Less (cond d Greater Equal)) ≡ false → cond a Less (cond b Greater Equal) ≡ cond c Less (cond d Greater Equal)
signs_by false false c d h p q = absurd (true≢false p)
signs_by a b false false h p q = absurd (true≢false q)
signs_by true b c true h p q = absurd (true≢false h)
signs_by true b true false h p q = refl
signs_by false true true d h p q = absurd (true≢false (sym (or-true (false && d)) ∙ h))
signs_by false true false true h p q = refl

same_sign : (f0 f1 : Ratio) → opposite f0 f1 ≡ false → is_eq (sign_of f0) ≡ false → is_eq (sign_of f1) ≡ false → sign_of f0 ≡ sign_of f1
unfolding sign_of opposite
same_sign f0 f1 h p q = signs_by (before f0 nil) (before nil f0) (before f1 nil) (before nil f1) h p q

less_equal : Less ≡ Equal → ⊥
less_equal e = cc

greater_equal : Greater ≡ Equal → ⊥
greater_equal e = cc

less_greater : Less ≡ Greater → ⊥
less_greater e = cc

three : {A : Type 0} (x : A) (a b c : Bool) → x ≡ cond a x (cond b x (cond c x x))
three x true b c = refl
three x false true c = refl
three x false false true = refl
three x false false false = refl

-- the change by the signs at the ends, if tl says that t is after the lower end and tu that it is
-- before the upper one
ends_by : (o u : Ordering) (tl tu : Bool) → (tl ≡ false → tu ≡ false → o ≡ u) → (is_eq o ≡ false → is_eq u ≡ false → o ≡ u) → (s : SpanOf) (t : Ratio) → before t s.lower ≡ false → before s.lower t ≡ tl → before t s.upper ≡ tu → before s.upper t ≡ false
    → changing_sign (ends_change s o u) t ≡ cond (not tl) o (cond (not tu) u (cond (is_eq o) u o))
ends_by Equal Equal tl tu short one s t a b c d = three Equal (not tl) (not tu) true
ends_by Equal Less true true short one s t a b c d = rw (a, b) refl
ends_by Equal Less true false short one s t a b c d = rw (a, b) refl
ends_by Equal Less false tu short one s t a b c d = rw (a, b) refl
ends_by Equal Greater true true short one s t a b c d = rw (a, b) refl
ends_by Equal Greater true false short one s t a b c d = rw (a, b) refl
ends_by Equal Greater false tu short one s t a b c d = rw (a, b) refl
ends_by Less Equal tl true short one s t a b c d = rw c (by tl)
  where
    by : (tl : Bool) → Less ≡ cond (not tl) Less (cond false Equal (cond false Equal Less))
    by true = refl
    by false = refl
ends_by Less Equal true false short one s t a b c d = rw (c, d) refl
ends_by Less Equal false false short one s t a b c d = absurd (less_equal (short refl refl))
ends_by Greater Equal tl true short one s t a b c d = rw c (by tl)
  where
    by : (tl : Bool) → Greater ≡ cond (not tl) Greater (cond false Equal (cond false Equal Greater))
    by true = refl
    by false = refl
ends_by Greater Equal true false short one s t a b c d = rw (c, d) refl
ends_by Greater Equal false false short one s t a b c d = absurd (greater_equal (short refl refl))
ends_by Less Less tl tu short one s t a b c d = three Less (not tl) (not tu) false
ends_by Greater Greater tl tu short one s t a b c d = three Greater (not tl) (not tu) false
ends_by Less Greater tl tu short one s t a b c d = absurd (less_greater (one refl refl))
ends_by Greater Less tl tu short one s t a b c d = absurd (less_greater (sym (one refl refl)))

-- if t is at both ends, the span is one instant
short_span : (s : SpanOf) (t : Ratio) → before t s.lower ≡ false → before s.lower t ≡ false → before t s.upper ≡ false → before s.upper t ≡ false → before s.lower s.upper ≡ false
short_span s t a b c d = let e : t ≡ s.lower = before-neither t s.lower a b in let k : t ≡ s.upper = before-neither t s.upper c d in rw (← e, ← k) (before-self t)

lower_side : (s : SpanOf) (t : Ratio) → has s t ≡ true → before t s.lower ≡ false
lower_side s t h = grind (arith, h, before-back s.lower t)

upper_side : (s : SpanOf) (t : Ratio) → has s t ≡ true → before s.upper t ≡ false
upper_side s t h = grind (arith, h, before-back t s.upper)

same_side : (x t : Ratio) → before t x ≡ false → same t x ≡ not (before x t)
unfolding same
same_side x t h = rw h refl

same_other : (x t : Ratio) → before x t ≡ false → same t x ≡ not (before t x)
unfolding same
same_other x t h = rw h (and_true (not (before t x)))
  where
    and_true : (b : Bool) → (b && true) ≡ b
    and_true true = refl
    and_true false = refl

pub none_change : (s : SpanOf) (f : Ends) (t : Ratio) → IsLevel s f → root_of s f ≡ None → has s t ≡ true → changing_sign (ends_change s (sign_of f.at_lower) (sign_of f.at_upper)) t ≡ sign_of (function_at s f t)
none_change s f t l e h =
    let o = not_opposite s f e (opposite f.at_lower f.at_upper) refl in
    let a = lower_side s t h in
    let d = upper_side s t h in
    ends_by (sign_of f.at_lower) (sign_of f.at_upper) (before s.lower t) (before t s.upper) (λ b c. ap sign_of (l (short_span s t a b c d))) (same_sign f.at_lower f.at_upper o) s t a refl refl d
    ∙ sym (ap (λ z. cond z (sign_of f.at_lower) (cond (not (before t s.upper)) (sign_of f.at_upper) (cond (is_eq (sign_of f.at_lower)) (sign_of f.at_upper) (sign_of f.at_lower)))) (same_side s.lower t a))
    ∙ sym (ap (λ z. cond (same t s.lower) (sign_of f.at_lower) (cond z (sign_of f.at_upper) (cond (is_eq (sign_of f.at_lower)) (sign_of f.at_upper) (sign_of f.at_lower)))) (same_other s.upper t d))
    ∙ sym (ap (λ z. cond (same t s.lower) (sign_of f.at_lower) (cond (same t s.upper) (sign_of f.at_upper) (cond z (sign_of f.at_upper) (sign_of f.at_lower)))) (zero_sign f.at_lower))
    ∙ sym (on_ends f.at_lower f.at_upper s.lower s.upper t o)
    ∙ sym (at_instant s f t l h)
