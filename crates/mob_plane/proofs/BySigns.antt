-- Signs decide membership in a polygon.
use Rattle.std.{specs.Prelude.{◌≡◌, refl, Bool, true, false, cond, not, ◌&&◌, ◌||◌, ℕ, zero, suc, ◌%◌, ◌<◌, nat_eq, List, [], ◌∷◌, length}, specs.List.{list_any, filter}}
use Rattle.std.{specs.declared.cmp.Ordering.{Ordering}, specs.declared.cmp.Ordering.TheVariants.{Less, Greater}, specs.Ordering.{is_lt, is_gt}, proofs.Common.{arith, sym, ap, ◌∙◌}}
use Rattle.std.{proofs.Math.Nat.{suc-mod}, proofs.Math.Bool.{or-false}}
use Rattle.mob_ratio.{specs.Ratio.{Ratio, ◌-ℚ◌}, specs.Order.{before}, specs.Sign.{sign_of, nil}, proofs.Order.{before-back, before-from}, proofs.Signs.{lt_sign, gt_sign, eq_sign, lt_diff, gt_diff}}
use Rattle.mob_plane.{specs.Turns.{turn}, specs.Rings.{all_edges}, specs.Membership.{lies_between, lies_on, is_one_alone, passes_height, crossing_at, passes_right, is_odd, inside}}
use Rattle.mob_plane.{specs.EdgeWise.{signs_at, signs_to, is_between, is_on, crosses, some_on, odd_cross, inside_by, same_order}, specs.declared.point.Point.{Point}}
use Rattle.mob_plane.{proofs.Crossings.{rising_crossing, falling_crossing}, proofs.DifferenceSigns.{side_below, side_above}}

-- ---- the meaning of a sign

-- ---- a point on an edge

between_cases : (a a' b b' : Bool) → (a ≡ true → a' ≡ false) → (b ≡ true → b' ≡ false) → ((not a && not b') || (not b && not a')) ≡ (not (a && b) && not (a' && b'))
between_cases a a' b b' h k = grind (arith, h, k)

between_is : (x y q : Ratio) → lies_between x y q ≡ is_between (sign_of (q -ℚ x)) (sign_of (q -ℚ y))
between_is x y q = between_cases (before q x) (before x q) (before q y) (before y q) (before-back q x) (before-back q y) ∙ rw (lt_diff q x, lt_diff q y, gt_diff q x, gt_diff q y) refl

pub on_is : (a b p : Point) → lies_on p (a, b) ≡ is_on (signs_at p a b)
on_is a b p = rw (eq_sign (turn a b p), ← between_is a.x b.x p.x, ← between_is a.y b.y p.y) refl

-- ---- an edge to the right

crosses_cases : (ya yb left right far : Bool) → (ya ≡ true → yb ≡ false → far ≡ right) → (yb ≡ true → ya ≡ false → far ≡ left) → (is_one_alone ya yb && far) ≡ ((ya && (not yb && right)) || (yb && (not ya && left)))
crosses_cases true true left right far f g = refl
crosses_cases true false left right far f g = f refl refl ∙ sym (or-false right)
crosses_cases false true left right far f g = g refl refl
crosses_cases false false left right far f g = refl

pub right_is : (a b p : Point) → passes_right p (a, b) ≡ crosses (signs_at p a b)
right_is a b p =
    crosses_cases (before p.y a.y) (before p.y b.y) (before nil (turn a b p)) (before (turn a b p) nil) (before p.x (crossing_at (a, b) p.y))
    (λ h k. falling_crossing a b p (before-from b.y p.y a.y k h))
    (λ h k. rising_crossing a b p (before-from a.y p.y b.y k h))
    ∙ rw (lt_diff p.y a.y, lt_diff p.y b.y, lt_sign (turn a b p), gt_sign (turn a b p)) refl

rises_by : (ya yb : Bool) (up o : Ordering) (far : Bool) → is_one_alone ya yb ≡ true → (ya ≡ true → yb ≡ false → (up ≡ Less) × (far ≡ is_lt o)) → (yb ≡ true → ya ≡ false → (up ≡ Greater) × (far ≡ is_gt o)) → far ≡ same_order up o
rises_by true true up o far e f g = absurd cc
rises_by true false up o far e f g = (f refl refl).1 ∙ ap (λ z. same_order z o) (sym (f refl refl).0)
rises_by false true up o far e f g = (g refl refl).1 ∙ ap (λ z. same_order z o) (sym (g refl refl).0)
rises_by false false up o far e f g = absurd cc

pub right_turn : (a b p : Point) → passes_height p (a, b) ≡ true → before p.x (crossing_at (a, b) p.y) ≡ same_order (sign_of (b.y -ℚ a.y)) (sign_of (turn a b p))
right_turn a b p e =
    rises_by (before p.y a.y) (before p.y b.y) (sign_of (b.y -ℚ a.y)) (sign_of (turn a b p)) (before p.x (crossing_at (a, b) p.y)) e
    (λ h k. let d = before-from b.y p.y a.y k h in (sym (side_below b.y a.y d), falling_crossing a b p d ∙ sym (lt_sign (turn a b p))))
    (λ h k. let d = before-from a.y p.y b.y k h in (sym (side_above b.y a.y (before-back a.y b.y d) d), rising_crossing a b p d ∙ sym (gt_sign (turn a b p))))

-- ---- all edges

some_is : (es : List (Point × Point)) (p : Point) → list_any (lies_on p) es ≡ some_on (signs_to es p)
some_is [] p = refl
some_is (e ∷ es) p = rw (on_is e.0 e.1 p, some_is es p) refl

odd_cases : (r : ℕ) → r < 2 → nat_eq (suc r % 2) 1 ≡ not (nat_eq r 1)
odd_cases zero h = refl
odd_cases (suc zero) h = refl
odd_cases (suc (suc r)) h = absurd (omega arith)

odd_suc : (n : ℕ) → is_odd (suc n) ≡ not (is_odd n)
odd_suc n = ap (λ z. nat_eq z 1) (suc-mod n 2) ∙ odd_cases (n % 2) (omega arith)

odd_more : (b : Bool) (n : ℕ) → is_odd (cond b (suc n) n) ≡ is_one_alone b (is_odd n)
odd_more true n = odd_suc n
odd_more false n = refl

length_more : (b : Bool) (e : Point × Point) (es : List (Point × Point)) → length (cond b (e ∷ es) es) ≡ cond b (suc (length es)) (length es)
length_more true e es = refl
length_more false e es = refl

odd_is : (es : List (Point × Point)) (p : Point) → is_odd (length (filter (passes_right p) es)) ≡ odd_cross (signs_to es p)
odd_is [] p = refl
odd_is (e ∷ es) p =
    ap is_odd (length_more (passes_right p e) e (filter (passes_right p) es))
    ∙ odd_more (passes_right p e) (length (filter (passes_right p) es))
    ∙ ap (λ z. is_one_alone z (is_odd (length (filter (passes_right p) es)))) (right_is e.0 e.1 p)
    ∙ ap (is_one_alone (crosses (signs_at p e.0 e.1))) (odd_is es p)

pub inside_signs : (rings : List (List Point)) (p : Point) → inside rings p ≡ inside_by (signs_to (all_edges rings) p)
inside_signs rings p = rw (some_is (all_edges rings) p, odd_is (all_edges rings) p) refl

-- points with the same positions relative to all edges are both inside, or both outside
pub inside-same : (rings : List (List Point)) (p q : Point) → signs_to (all_edges rings) p ≡ signs_to (all_edges rings) q → inside rings p ≡ inside rings q
inside-same rings p q e = inside_signs rings p ∙ ap inside_by e ∙ sym (inside_signs rings q)
