-- Operations on two operands that are computed from the limits of their slices.
use Rattle.std.specs.Prelude.{List, [], ◌∷◌, ◌++◌}
use Rattle.mob_ratio.specs.Ratio.{Ratio}
use Rattle.mob_span.specs.Meets.{PieceOf}
use Rattle.mob_slice.{specs.Sides.{SideOf, side_at, side_parts, at_ends}, specs.Entries.{Entry}, specs.declared.formula.Formula.TheVariants.{F1, F2}}

-- The entries on one piece of an operation that is computed from the limits: F1 of the two operands
-- at the ends of the piece, then F2 there, whose parts for two values are `parts`.
abbrev pub entries_at_ends : {A X B Y : Type 0} → (A → Ratio → Ratio → Ratio → X) → (A → Ratio → Ratio → Ratio → List Ratio) → (B → Ratio → Ratio → Ratio → Y) → (B → Ratio → Ratio → Ratio → List Ratio) → (X → Y → List Ratio) → PieceOf (SideOf A X) (SideOf B Y) → List Entry
entries_at_ends value lines value' lines' parts p =
    record { formula = F1; parts = at_ends (side_parts lines p.left) p.span ++ at_ends (side_parts lines' p.right) p.span }
    ∷ record { formula = F2; parts = at_ends (λ t. parts (side_at value p.left t) (side_at value' p.right t)) p.span }
    ∷ []
