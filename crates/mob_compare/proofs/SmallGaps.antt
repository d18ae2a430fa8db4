-- Small gaps decide as the gaps that they stand for.
use Rattle.std.{specs.Prelude.{◌≡◌, ◌⊎◌, Bool, true, false, cond, not, ◌&&◌, ◌||◌, ◌^◌, ◌<◌, ℤ, pos, negsuc, nat_abs, refl}, specs.declared.cmp.Ordering.{Ordering}, specs.declared.cmp.Ordering.TheVariants.{Less, Equal, Greater}}
use Rattle.std.proofs.Common.{arith, ap, sym, ◌∙◌, subst, inl, inr, true≢false}
use Rattle.mob_ratio.{specs.Gcd.{gcd, gcd_steps}, specs.GcdLaws.{gcd_one_right}, specs.LowestLaws.{lowest_in}, specs.Ratio.{Ratio, inverse, over, turned, whole, ◌*ℚ◌, ◌/ℚ◌}, specs.Order.{before, same}, specs.Sign.{nil, opposite, sign_of}}
use Rattle.mob_ratio.{proofs.Divide.{over-pos}, proofs.Order.{before-back, before-self}, proofs.RatioLemmas.{over-lowest}}
use Rattle.mob_frac.specs.Fits.{Fits, ratio}
use Rattle.mob_span.specs.Span.{SpanOf}
use Rattle.mob_slice.{specs.declared.comparison.Gaps.{Gaps}, specs.declared.comparison.Gaps.TheVariants.{Constant, One, Two}}
use Rattle.mob_cells.{specs.declared.differences.EndGaps.{EndGaps}, specs.declared.linear.Ends.{Ends}}
use Rattle.mob_compare.{specs.Met.{gaps_meet, line_between, one_meets, two_meet}, specs.Small.{AreDecidedAlike, small, twice, last_small}, specs.Taken.{takes_inside, is_nil_line, nil_inside}}

-- ---- integers
whole_parts : (n : ℤ) → ((whole n).num ≡ n) × ((whole n).den ≡ 1)
unfolding whole
whole_parts n = over-lowest n 1 (lowest_in n 1 (omega arith) (gcd_one_right (nat_abs n)))

pub ratio_whole : (n : ℤ) → ratio n (pos 1) ≡ whole n
unfolding whole
ratio_whole n = sym (over-pos n 1 (omega arith))

pub ratio_fits : (n : ℤ) → nat_abs n < 2 ^ 62 → Fits (ratio n (pos 1))
ratio_fits n h = let p = whole_parts n in subst Fits (sym (ratio_whole n)) (record { num_fits = rw p.0 h; den_fits = rw p.1 (omega arith) })

-- ---- signs
-- x has the sign of q
pub record IsAlike (x q : Ratio) : Type 0 where
  pub below : before x nil ≡ before q nil
  pub above : before nil x ≡ before nil q
  pub none : same x nil ≡ same q nil

by_tests : (x q : Ratio) → before x nil ≡ before q nil → before nil x ≡ before nil q → IsAlike x q
unfolding same
by_tests x q h k = record { below = h; above = k; none = rw (h, k) refl }

small_below : (before (whole (negsuc 0)) nil ≡ true) × (before nil (whole (negsuc 0)) ≡ false)
unfolding before whole over gcd gcd_steps
small_below = (refl, refl)

small_above : (before (whole (pos 1)) nil ≡ false) × (before nil (whole (pos 1)) ≡ true)
unfolding before whole over gcd gcd_steps
small_above = (refl, refl)

twice_below : (before (whole (negsuc 1)) nil ≡ true) × (before nil (whole (negsuc 1)) ≡ false)
unfolding before whole over gcd gcd_steps
twice_below = (refl, refl)

twice_above : (before (whole (pos 2)) nil ≡ false) × (before nil (whole (pos 2)) ≡ true)
unfolding before whole over gcd gcd_steps
twice_above = (refl, refl)

alike_by : (q : Ratio) (make : Ordering → Ratio) → (before (make Less) nil ≡ true) × (before nil (make Less) ≡ false) → make Equal ≡ nil → (before (make Greater) nil ≡ false) × (before nil (make Greater) ≡ true) → (a b : Bool) → before q nil ≡ a → before nil q ≡ b → IsAlike (make (cond a Less (cond b Greater Equal))) q
alike_by q make l e g true b ea eb = by_tests (make Less) q (l.0 ∙ sym ea) (l.1 ∙ sym (before-back q nil ea))
alike_by q make l e g false true ea eb = by_tests (make Greater) q (g.0 ∙ sym ea) (g.1 ∙ sym eb)
alike_by q make l e g false false ea eb = by_tests (make Equal) q (ap (λ z. before z nil) e ∙ before-self nil ∙ sym ea) (ap (λ z. before nil z) e ∙ before-self nil ∙ sym eb)

small_alike : (q : Ratio) → IsAlike (small (sign_of q)) q
unfolding sign_of
small_alike q = alike_by q small small_below refl small_above (before q nil) (before nil q) refl refl

twice_alike : (q : Ratio) → IsAlike (twice (sign_of q)) q
unfolding sign_of
twice_alike q = alike_by q twice twice_below refl twice_above (before q nil) (before nil q) refl refl

last_alike : (shared : Bool) (q : Ratio) → IsAlike (last_small shared (sign_of q)) q
last_alike true q = small_alike q
last_alike false q = twice_alike q

-- ---- roots
opposite_alike : (x y f g : Ratio) → IsAlike x f → IsAlike y g → opposite x y ≡ opposite f g
unfolding opposite
opposite_alike x y f g h k = rw (h.below, h.above, k.below, k.above) refl

abbrev AreOpposite : Ordering → Ordering → Type 0
AreOpposite o p = ((o ≡ Less) × (p ≡ Greater)) ⊎ ((o ≡ Greater) × (p ≡ Less))

opposite_signs : (f g : Ratio) → opposite f g ≡ true → AreOpposite (sign_of f) (sign_of g)
unfolding opposite sign_of
opposite_signs f g h = by (before f nil) (before nil f) (before g nil) (before nil g) (before-back f nil) (before-back g nil) h
  where
    by : (a b c d : Bool) → (a ≡ true → b ≡ false) → (c ≡ true → d ≡ false) → ((a && d) || (b && c)) ≡ true → AreOpposite (cond a Less (cond b Greater Equal)) (cond c Less (cond d Greater Equal))
    by true true c d x y e = absurd (true≢false (x refl))
    by true false true true x y e = absurd (true≢false (y refl))
    by true false true false x y e = absurd (true≢false (sym e))
    by true false false true x y e = inl (refl, refl)
    by true false false false x y e = absurd (true≢false (sym e))
    by false true true true x y e = absurd (true≢false (y refl))
    by false true true false x y e = inr (refl, refl)
    by false true false d x y e = absurd (true≢false (sym e))
    by false false c d x y e = absurd (true≢false (sym e))

-- with opposite signs in both, the small ratios are equal exactly if the root is shared
ratios : (shared : Bool) → (same (small Less /ℚ small Greater) (small Less /ℚ last_small shared Greater) ≡ shared) × (same (small Less /ℚ small Greater) (small Greater /ℚ last_small shared Less) ≡ shared) × (same (small Greater /ℚ small Less) (small Less /ℚ last_small shared Greater) ≡ shared) × (same (small Greater /ℚ small Less) (small Greater /ℚ last_small shared Less) ≡ shared)
unfolding same before whole over gcd gcd_steps ◌*ℚ◌ inverse turned
ratios true = (refl, refl, refl, refl)
ratios false = (refl, refl, refl, refl)

ratios_by : (shared : Bool) (a b c d : Ordering) → AreOpposite a b → AreOpposite c d → same (small a /ℚ small b) (small c /ℚ last_small shared d) ≡ shared
ratios_by shared a b c d (inl h) (inl k) = rw (h.0, h.1, k.0, k.1) (ratios shared).0
ratios_by shared a b c d (inl h) (inr k) = rw (h.0, h.1, k.0, k.1) (ratios shared).1
ratios_by shared a b c d (inr h) (inl k) = rw (h.0, h.1, k.0, k.1) (ratios shared).2
ratios_by shared a b c d (inr h) (inr k) = rw (h.0, h.1, k.0, k.1) (ratios shared).3

-- ---- decisions
one_by : (test : Ordering → Bool) (s : SpanOf) (x y f g : Ratio) → IsAlike x f → IsAlike y g → opposite x y ≡ opposite f g → one_meets test s (line_between x y) ≡ one_meets test s (line_between f g)
one_by test s x y f g h k o = rw (h.below, h.above, h.none, k.below, k.above, k.none, o) refl

one_is : (test : Ordering → Bool) (s : SpanOf) (f g x y : Ratio) → IsAlike x f → IsAlike y g → one_meets test s (line_between x y) ≡ one_meets test s (line_between f g)
one_is test s f g x y h k = one_by test s x y f g h k (opposite_alike x y f g h k)

pub one_alike : (f g x y : Ratio) (o p : Ordering) → o ≡ sign_of f → p ≡ sign_of g → x ≡ small o → y ≡ small p → AreDecidedAlike (One f) (One g) (record { at_lower = One x; at_upper = One y })
one_alike f g x y o p eo ep ex ey =
    let h = subst (λ z. IsAlike z f) (sym (ex ∙ ap small eo)) (small_alike f) in
    let k = subst (λ z. IsAlike z g) (sym (ey ∙ ap small ep)) (small_alike g) in
    record { alike = λ test s. one_is test s f g x y h k }

-- the tests of nil_inside: with opposite signs in both, the ratios decide
inside_by : (o n p m r q : Bool) → ((o && p) ≡ true → r ≡ q) → ((o || n) && (p || m) && (n || m || r)) ≡ ((o || n) && (p || m) && (n || m || q))
inside_by true n true m r q h = rw (h refl) refl
inside_by true n false true r q h = grind arith
inside_by true n false false r q h = grind arith
inside_by false true p m r q h = grind arith
inside_by false false p m r q h = refl

two_by : (test : Ordering → Bool) (s : SpanOf) (x w y z f e g h : Ratio) → IsAlike x f → IsAlike w e → IsAlike y g → IsAlike z h → nil_inside (line_between x y) (line_between w z) ≡ nil_inside (line_between f g) (line_between e h) → two_meet test s (line_between x y) (line_between w z) ≡ two_meet test s (line_between f g) (line_between e h)
two_by test s x w y z f e g h hx hw hy hz inside = rw (inside, hx.below, hx.above, hx.none, hw.below, hw.above, hw.none, hy.below, hy.above, hy.none, hz.below, hz.above, hz.none) refl

both_left : (a b : Bool) → (a && b) ≡ true → a ≡ true
both_left true b h = refl
both_left false b h = h

both_right : (a b : Bool) → (a && b) ≡ true → b ≡ true
both_right true b h = h
both_right false b h = absurd (true≢false (sym h))

nil_inside_by : (x w y z f e g h : Ratio) → IsAlike x f → IsAlike w e → IsAlike y g → IsAlike z h → ((opposite f g && opposite e h) ≡ true → same (x /ℚ y) (w /ℚ z) ≡ same (f /ℚ g) (e /ℚ h)) → nil_inside (line_between x y) (line_between w z) ≡ nil_inside (line_between f g) (line_between e h)
nil_inside_by x w y z f e g h hx hw hy hz k =
    rw (opposite_alike x y f g hx hy, opposite_alike w z e h hw hz, hx.none, hw.none, hy.none, hz.none)
    (inside_by (opposite f g) (same f nil && same g nil) (opposite e h) (same e nil && same h nil) (same (x /ℚ y) (w /ℚ z)) (same (f /ℚ g) (e /ℚ h)) k)

shared_by : (f e g h x w y z : Ratio) (shared : Bool) → x ≡ small (sign_of f) → w ≡ small (sign_of e) → y ≡ small (sign_of g) → z ≡ last_small shared (sign_of h) → opposite f g ≡ true → opposite e h ≡ true → same (x /ℚ y) (w /ℚ z) ≡ shared
shared_by f e g h x w y z shared ex ew ey ez o p = rw (ex, ew, ey, ez) (ratios_by shared (sign_of f) (sign_of g) (sign_of e) (sign_of h) (opposite_signs f g o) (opposite_signs e h p))

pub two_alike : (f e g h x w y z : Ratio) (o p q r : Ordering) (shared : Bool) → shared ≡ (opposite f g && opposite e h && same (f /ℚ g) (e /ℚ h)) → o ≡ sign_of f → p ≡ sign_of e → q ≡ sign_of g → r ≡ sign_of h → x ≡ small o → w ≡ small p → y ≡ small q → z ≡ last_small shared r
    → AreDecidedAlike (Two f e) (Two g h) (record { at_lower = Two x w; at_upper = Two y z })
two_alike f e g h x w y z o p q r shared es eo ep eq er mx mw my mz =
    let ex = mx ∙ ap small eo in
    let ew = mw ∙ ap small ep in
    let ey = my ∙ ap small eq in
    let ez = mz ∙ ap (last_small shared) er in
    let hx = subst (λ t. IsAlike t f) (sym ex) (small_alike f) in
    let hw = subst (λ t. IsAlike t e) (sym ew) (small_alike e) in
    let hy = subst (λ t. IsAlike t g) (sym ey) (small_alike g) in
    let hz = subst (λ t. IsAlike t h) (sym ez) (last_alike shared h) in
    let inside = nil_inside_by x w y z f e g h hx hw hy hz (λ m. shared_by f e g h x w y z shared ex ew ey ez (both_left (opposite f g) (opposite e h) m) (both_right (opposite f g) (opposite e h) m) ∙ es ∙ rw (both_left (opposite f g) (opposite e h) m, both_right (opposite f g) (opposite e h) m) refl) in
    record { alike = λ test s. two_by test s x w y z f e g h hx hw hy hz inside }

-- gaps that are not of one kind
none_alike : (f g : Gaps) (ends : EndGaps) → ends.at_lower ≡ Constant → ((test : Ordering → Bool) (s : SpanOf) → test Equal ≡ gaps_meet test s f g) → AreDecidedAlike f g ends
none_alike f g ends e h = record { alike = λ test s. ap (λ z. gaps_meet test s z ends.at_upper) e ∙ h test s }

pub steady_alike : (g : Gaps) (ends : EndGaps) → ends.at_lower ≡ Constant → AreDecidedAlike Constant g ends
steady_alike g ends e = none_alike Constant g ends e (λ test s. refl)

pub one_steady : (x : Ratio) (ends : EndGaps) → ends.at_lower ≡ Constant → AreDecidedAlike (One x) Constant ends
one_steady x ends e = none_alike (One x) Constant ends e (λ test s. refl)

pub one_two : (x y z : Ratio) (ends : EndGaps) → ends.at_lower ≡ Constant → AreDecidedAlike (One x) (Two y z) ends
one_two x y z ends e = none_alike (One x) (Two y z) ends e (λ test s. refl)

pub two_steady : (x y : Ratio) (ends : EndGaps) → ends.at_lower ≡ Constant → AreDecidedAlike (Two x y) Constant ends
two_steady x y ends e = none_alike (Two x y) Constant ends e (λ test s. refl)

pub two_one : (x y z : Ratio) (ends : EndGaps) → ends.at_lower ≡ Constant → AreDecidedAlike (Two x y) (One z) ends
two_one x y z ends e = none_alike (Two x y) (One z) ends e (λ test s. refl)
