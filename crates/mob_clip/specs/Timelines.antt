-- Values that change at some instants.
use Rattle.std.{specs.Prelude.{◌≡◌, cond, List, [], ◌∷◌}, specs.List.{AllByRecursion}}
use Rattle.mob_ratio.{specs.Ratio.{Ratio}, specs.Order.{before}}
use Rattle.mob_frac.specs.Formula.{AllFit}
use Rattle.mob_span.specs.Span.{SpanOf}
use Rattle.mob_clip.{specs.declared.timeline.Change.{Change}, specs.declared.timeline.Timeline.{Timeline}}

-- x before the first change; after each change, its `after` value
abbrev pub step_at : {T : Type 0} → T → List (Change T) → Ratio → T
step_at x [] t = x
step_at x (c ∷ rest) t = cond (before t c.at) x (cond (before c.at t) (step_at c.after rest t) c.there)

abbrev pub timeline_at : {T : Type 0} → Timeline T → Ratio → T
timeline_at s t = step_at s.first s.changes.items t

-- the parts of a formula fit at the instant of each change
abbrev pub ChangesFit : {T : Type 0} → (Ratio → List Ratio) → List (Change T) → Type 0
ChangesFit parts changes = AllByRecursion (λ c. AllFit (parts c.at)) changes

-- a property of all parts of a formula that fit at both ends of the span
abbrev pub WhereEndsFit : SpanOf → ((Ratio → List Ratio) → Type 0) → Type 0
WhereEndsFit s Holds = (parts : Ratio → List Ratio) → AllFit (parts s.lower) → AllFit (parts s.upper) → Holds parts

-- a change of one walk, while the other keeps its value; and two changes at the same instant
abbrev pub mixed_left : {T : Type 0} → (T → T → T) → Change T → T → Change T
mixed_left mix x right = record { at = x.at; there = mix x.there right; after = mix x.after right }

abbrev pub mixed_right : {T : Type 0} → (T → T → T) → T → Change T → Change T
mixed_right mix left y = record { at = y.at; there = mix left y.there; after = mix left y.after }

abbrev pub mixed_both : {T : Type 0} → (T → T → T) → Change T → Change T → Change T
mixed_both mix x y = record { at = x.at; there = mix x.there y.there; after = mix x.after y.after }

-- The change c is the next of two walks, which have the values left and right before it, and left'
-- and right' after it: if the rest is the two walks mixed, so is the whole.
pub record IsNextChange {T : Type 0} (mix : T → T → T) (left right : T) (xs ys : List (Change T)) (c : Change T) (left' right' : T) (xs' ys' : List (Change T)) : Type 0 where
  pub whole : (rest : List (Change T)) (t : Ratio) → step_at (mix left' right') rest t ≡ mix (step_at left' xs' t) (step_at right' ys' t) → step_at (mix left right) (c ∷ rest) t ≡ mix (step_at left xs t) (step_at right ys t)
  pub after : c.after ≡ mix left' right'
  pub fit : (parts : Ratio → List Ratio) → ChangesFit parts xs → ChangesFit parts ys → AllFit (parts c.at) × ChangesFit parts xs' × ChangesFit parts ys'
