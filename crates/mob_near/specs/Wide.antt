-- The entries of nearness in the two modes.
use Rattle.std.{specs.Prelude.{◌≡◌, List, [], ◌∷◌, Option, Some, None, Result, MatchResult}, specs.List.{flat_map}}
use Rattle.mob_ratio.specs.Ratio.{Ratio}
use Rattle.mob_frac.specs.Fits.{Fits}
use Rattle.mob_list.{specs.Faults.{OnCause}, specs.declared.fault.Fault.{Fault}}
use Rattle.mob_slice.{specs.Entries.{Entry}, specs.Modes.{by_mode, entry_given}, specs.declared.formula.Formula.{Formula}, specs.declared.formula.Formula.TheVariants.{Given}}
use Rattle.mob_slice.specs.declared.mode.Mode.{Mode}
use Rattle.mob_cells.specs.Roots.{as_list}
use Rattle.mob_legs.specs.Legs.{PointPiece, piece_approach, nearest_of}
use Rattle.mob_near.specs.Entries.{entries_of_within, entries_of_approach}

-- whether two points come within a distance: in the wide mode nothing has to fit
abbrev pub within_entries_in : Mode → Ratio → List PointPiece → List Entry
within_entries_in mode d ps = by_mode mode (entries_of_within d ps) []

-- the least of the approaches on the pieces; none if there is no piece
abbrev pub least_approach : List PointPiece → Option Ratio
least_approach [] = None
least_approach (p ∷ ps) = Some (nearest_of (least_approach ps) (piece_approach p))

-- the nearest approach: in the wide mode the number that is given has to fit, once for all pieces
abbrev pub approach_entries_in : Mode → List PointPiece → List Entry
approach_entries_in mode ps = by_mode mode (flat_map entries_of_approach ps) (entry_given (as_list (least_approach ps)))

-- the number, if it fits, or else the fault that it does not
abbrev pub IsGivenOf : Ratio → Result (Option Ratio) (Fault Formula) → Type 0
IsGivenOf m r = MatchResult r (λ o. (o ≡ Some m) × Fits m) (OnCause (λ f. (f ≡ Given) × (¬ Fits m)))
