-- Spans whose printed text reads back.
use Rattle.std.specs.Prelude.{List, [], ◌∷◌, ℤ}
use Rattle.mob_scalar.specs.MomentText.{IsDated}
use Rattle.mob_span.specs.Span.{SpanOf}

-- both ends fit, and are in the years 0001 to 9999
pub record HasDatedEnds (day : ℤ) (s : SpanOf) : Type 0 where
  pub lower : IsDated day s.lower
  pub upper : IsDated day s.upper

-- the same for each of the spans
abbrev pub HaveDatedEnds : ℤ → List SpanOf → Type 0
HaveDatedEnds day [] = Unit {0}
HaveDatedEnds day (s ∷ set) = HasDatedEnds day s × HaveDatedEnds day set
