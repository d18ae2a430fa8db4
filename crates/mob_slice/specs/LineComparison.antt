-- Lines satisfy the laws of comparisons: two numbers compare as their difference compares with 0,
-- and two points are equal if both of their differences are 0.
use Rattle.std.{specs.Prelude.{◌≡◌, Bool, true, false, not, cond, ◌&&◌, refl}, specs.Cmp.{Equal-is}, specs.declared.cmp.Ordering.TheVariants.{Less, Equal}, proofs.Common.{ap, sym, ◌∙◌, true≢false}}
use Rattle.mob_ratio.{specs.Ratio.{Ratio, ◌-ℚ◌}, specs.Order.{same}, specs.Sign.{nil, sign_of}, proofs.Field.{sub_self}, proofs.Order.{same_exact, same_truth}}
use Rattle.mob_ratio.proofs.Signs.{sign_nil, sign-diff, line_at-diff}
use Rattle.mob_plane.{specs.Points.{same_point, same_point_exact}, specs.declared.point.Point.{Point}}
use Rattle.mob_slice.{specs.Comparison.{MayAsk, relates_gaps, IsComparison}, specs.Lines.{line_value_of, plane_value_of}, specs.RankLaws.{ranking_ratio}, specs.Ranks.{holds, compare_ratio}}
use Rattle.mob_slice.{specs.declared.comparison.Gaps.{Gaps}, specs.declared.comparison.Gaps.TheVariants.{One, Two}, specs.declared.comparison.Rel.{Rel}}
use Rattle.mob_slice.{specs.declared.comparison.Rel.TheVariants.{Eq, Ne, Lt, Le, Gt, Ge}, specs.declared.line.Line.{Line}, specs.declared.line.PlaneLine.{PlaneLine}}

-- the ordinary comparison of two numbers, and their gap
abbrev pub number_relates : Rel → Ratio → Ratio → Bool
number_relates rel a b = holds rel (compare_ratio a b)

abbrev pub number_gaps : Ratio → Ratio → Gaps
number_gaps a b = One (a -ℚ b)

pub line_comparison : IsComparison {C = Line} {B = Ratio} false true line_value_of (λ c. c.from) (λ c. c.to) number_relates number_gaps
line_comparison = record {
  equal = λ x y. (λ h. (ranking_ratio.level x y).0 ((Equal-is (compare_ratio x y)).0 h), λ e. (Equal-is (compare_ratio x y)).1 ((ranking_ratio.level x y).1 e));
  unequal = λ x y. refl;
  constant = λ x y. (λ h. cc, λ h. absurd (true≢false (sym h)));
  by_signs = λ f rel x y asked. ap (holds rel) (sign-diff x y);
  linear = λ f c d l u t. ap One (line_at-diff c.from c.to d.from d.to l u t);
}

-- whether two points are equal, or not equal: they have no order, and allow no other comparison
abbrev pub point_relates : Rel → Point → Point → Bool
point_relates Eq a b = same_point a b
point_relates Ne a b = not (same_point a b)
point_relates Lt a b = false
point_relates Le a b = false
point_relates Gt a b = false
point_relates Ge a b = false

-- their gaps, by coordinate
abbrev pub point_gaps : Point → Point → Gaps
point_gaps a b = Two (a.x -ℚ b.x) (a.y -ℚ b.y)

-- two numbers are equal if their difference is 0
same_by_gap : (a b : Ratio) → same a b ≡ same (a -ℚ b) nil
same_by_gap a b = same_truth (same a b) (same (a -ℚ b) nil)
    (λ h. (same_exact (a -ℚ b) nil).1 (ap (λ z. z -ℚ b) ((same_exact a b).0 h) ∙ sub_self b))
    (λ h. (same_exact a b).1 ((ranking_ratio.level a b).0 (sign-diff a b ∙ ap sign_of ((same_exact (a -ℚ b) nil).0 h) ∙ sign_nil)))

equal_by : (b : Bool) → b ≡ holds Eq (cond b Equal Less)
equal_by true = refl
equal_by false = refl

unequal_by : (b : Bool) → not b ≡ holds Ne (cond b Equal Less)
unequal_by true = refl
unequal_by false = refl

points_by_gaps : (a b : Point) → same_point a b ≡ (same (a.x -ℚ b.x) nil && same (a.y -ℚ b.y) nil)
points_by_gaps a b = ap (λ z. z && same a.y b.y) (same_by_gap a.x b.x) ∙ ap (λ z. same (a.x -ℚ b.x) nil && z) (same_by_gap a.y b.y)

point_signs : (rel : Rel) (a b : Point) → MayAsk false rel → point_relates rel a b ≡ relates_gaps rel (point_gaps a b)
point_signs Eq a b h = points_by_gaps a b ∙ equal_by _
point_signs Ne a b h = ap not (points_by_gaps a b) ∙ unequal_by _
point_signs Lt a b h = absurd (true≢false (sym h))
point_signs Le a b h = absurd (true≢false (sym h))
point_signs Gt a b h = absurd (true≢false (sym h))
point_signs Ge a b h = absurd (true≢false (sym h))

pub plane_comparison : IsComparison {C = PlaneLine} {B = Point} false false plane_value_of (λ c. c.from) (λ c. c.to) point_relates point_gaps
plane_comparison = record {
  equal = λ x y. (λ h. (same_point_exact x y).0 h, λ e. (same_point_exact x y).1 e);
  unequal = λ x y. refl;
  constant = λ x y. (λ h. cc, λ h. absurd (true≢false (sym h)));
  by_signs = λ f rel x y asked. point_signs rel x y asked;
  linear = λ f c d l u t.
      let p = line_at-diff c.from.x c.to.x d.from.x d.to.x l u t in
      let q = line_at-diff c.from.y c.to.y d.from.y d.to.y l u t in
      λ i. Two (p i) (q i);
}
