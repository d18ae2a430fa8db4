-- The formulas of a restriction by time.
use Rattle.std.specs.Prelude.{List, [], ◌∷◌}
use Rattle.mob_ratio.specs.Ratio.{Ratio}
use Rattle.mob_span.{specs.Span.{SpanOf}, specs.Meets.{PieceOf}}
use Rattle.mob_slice.{specs.Sides.{at_ends}, specs.Cut.{slice_parts}, specs.Entries.{Entry}, specs.declared.slice.Slice.{Slice}, specs.declared.formula.Formula.TheVariants.{F1}}

-- the single entry of a slice and a span that share an instant: F1 at the two cuts
abbrev pub entry_of_cut : {C : Type 0} → (C → Ratio → Ratio → Ratio → List Ratio) → PieceOf (Slice C) SpanOf → List Entry
entry_of_cut parts p = record { formula = F1; parts = at_ends (slice_parts parts p.left) p.span } ∷ []
