-- The entries of the signs with `#` in the wide mode: the instants inside each piece at which the
-- truth changes. Those with `?` and `%` give a truth value and have no entry.
use Rattle.std.specs.Prelude.{Bool, List, [], Option, Some}
use Rattle.mob_ratio.specs.Ratio.{Ratio}
use Rattle.mob_span.specs.Meets.{PieceOf}
use Rattle.mob_slice.{specs.Entries.{Entry}, specs.LineComparison.{number_gaps, number_relates, point_gaps, point_relates}, specs.Lines.{line_value_of, plane_value_of}, specs.Modes.{entry_given}, specs.Sides.{SideOf, side_at}}
use Rattle.mob_slice.{specs.declared.comparison.Gaps.{Gaps}, specs.declared.comparison.Rel.{Rel}}
use Rattle.mob_cells.{specs.Changes.{changes_inside}, specs.Gaps.{gap_ends, piece_gaps}}
use Rattle.mob_ast.{specs.declared.types.SqlType.{SqlType}, specs.declared.types.Cmp.{Cmp}}
use Rattle.mob_value.{specs.declared.value.Value.{Value}, specs.Pairs.{entries_on, plane_pair}, specs.Lines.{line_pair}, specs.Relations.{rel_of}}
use Rattle.mob_ast.specs.declared.types.SqlType.TheVariants as sql
use Rattle.mob_ast.specs.declared.types.Cmp.TheVariants as cmp

-- the instants inside a piece at which a relation of the two sides begins or ceases to hold
abbrev pub sign_changes : {C B : Type 0} → (C → Ratio → Ratio → Ratio → B) → (B → B → Gaps) → (B → B → Bool) → PieceOf (SideOf C B) (SideOf C B) → List Ratio
sign_changes value gaps relates p =
    changes_inside (λ t. relates (side_at value p.left t) (side_at value p.right t)) p.span (gap_ends (piece_gaps value gaps p p.span.lower) (piece_gaps value gaps p p.span.upper))

-- the entry of `#` on a piece
abbrev pub given_changes : {C B : Type 0} → (C → Ratio → Ratio → Ratio → B) → (B → B → Gaps) → (B → B → Bool) → PieceOf (SideOf C B) (SideOf C B) → List Entry
given_changes value gaps relates p = entry_given (sign_changes value gaps relates p)

-- the entries of `#` on operands with this common type; steps have none
abbrev pub wide_order_entries : Rel → Option SqlType → Value → Value → List Entry
wide_order_entries r (Some sql.TFrac) a b = entries_on (given_changes line_value_of number_gaps (number_relates r)) (line_pair a b)
wide_order_entries r _ a b = []

abbrev pub wide_any_entries : Rel → Option SqlType → Value → Value → List Entry
wide_any_entries r (Some sql.TPoint) a b = entries_on (given_changes plane_value_of point_gaps (point_relates r)) (plane_pair a b)
wide_any_entries r met a b = wide_order_entries r met a b

abbrev pub wide_sign_entries : Cmp → Option SqlType → Value → Value → List Entry
wide_sign_entries cmp.Eq met a b = wide_any_entries (rel_of cmp.Eq) met a b
wide_sign_entries cmp.Ne met a b = wide_any_entries (rel_of cmp.Ne) met a b
wide_sign_entries c met a b = wide_order_entries (rel_of c) met a b
