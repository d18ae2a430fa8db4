-- The cover of a run, slice by slice.
use Rattle.std.specs.Prelude.{◌≡◌, true, ℕ, ◌+◌, ◌<◌, ◌≤◌, List, [], ◌∷◌, length, take, drop}
use Rattle.mob_ratio.specs.Order.{smaller, greater}
use Rattle.mob_span.specs.Span.{SpanOf, has_instant}
use Rattle.mob_span.specs.Neighbours.{is_clear, joined}
use Rattle.mob_slice.specs.declared.line.PlaneLine.{PlaneLine}
use Rattle.mob_slice.specs.declared.slice.Slice.{Slice}
use Rattle.mob_legs.specs.Covers.{CoversRun}
use Rattle.mob_legs.specs.declared.covers.Cover.{Cover}

-- the cover of the slice with the number k alone
abbrev pub first_cover : Slice PlaneLine → ℕ → Cover
first_cover s k = record {
  span = s.span;
  xmin = smaller s.course.from.x s.course.to.x;
  xmax = greater s.course.from.x s.course.to.x;
  ymin = smaller s.course.from.y s.course.to.y;
  ymax = greater s.course.from.y s.course.to.y;
  start = k;
  count = 1;
}

-- a cover with one more slice
abbrev pub with_slice : Cover → Slice PlaneLine → Cover
with_slice c s = record {
  span = joined c.span s.span;
  xmin = smaller c.xmin (smaller s.course.from.x s.course.to.x);
  xmax = greater c.xmax (greater s.course.from.x s.course.to.x);
  ymin = smaller c.ymin (smaller s.course.from.y s.course.to.y);
  ymax = greater c.ymax (greater s.course.from.y s.course.to.y);
  start = c.start;
  count = c.count + 1;
}

-- the span begins as the first of the slices
abbrev pub Begins : SpanOf → List (Slice PlaneLine) → Type 0
Begins r [] = ⊥
Begins r (s ∷ slices) = (r.lower ≡ s.span.lower) × (r.lower_inc ≡ s.span.lower_inc)

-- the span is over before the first of the slices begins
abbrev pub IsClearBefore : SpanOf → List (Slice PlaneLine) → Type 0
IsClearBefore r [] = Unit {0}
IsClearBefore r (s ∷ slices) = is_clear r s.span ≡ true

-- the cover of a run at the start of the slices, the first of which has the number k
pub record IsCoverOn (k : ℕ) (slices : List (Slice PlaneLine)) (c : Cover) : Type 0 where
  pub start : c.start ≡ k
  pub some : 0 < c.count
  pub count : c.count ≤ length slices
  pub runs : CoversRun c (take c.count slices)
  pub has : has_instant c.span ≡ true
  pub begins : Begins c.span slices
  pub after : IsClearBefore c.span (drop c.count slices)
