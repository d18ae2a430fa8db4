-- eDwithin and nearestApproachSquared: how near two points come, at least one of which moves.
use Rattle.std.specs.Prelude.{◌≡◌, Bool, Option}
use Rattle.mob_ratio.specs.Ratio.{Ratio}
use Rattle.mob_plane.specs.declared.point.Point.{Point}
use Rattle.mob_slice.specs.Lines.{plane_value_of}
use Rattle.mob_lift.specs.Sometime.{IsEver}
use Rattle.mob_value.{specs.declared.value.Value.{Value}, specs.declared.value.Value.TheVariants.{Null, Number}, specs.Pairs.{OnOperands, plane_pair}, specs.Moving.{OverTime, or_nothing}}
use Rattle.mob_value.specs.Truths.{known}
use Rattle.mob_near.{specs.Approaches.{IsApproach}, specs.Distances.{are_within}}

-- whether a test of two points holds at some instant at which both are defined; NULL if there is no
-- such instant
abbrev pub IsEverValue : (Point → Point → Bool) → OverTime Point → OverTime Point → Value → Type 0
IsEverValue test left right v = (answer : Option Bool) × IsEver test left right answer × (v ≡ known answer)

-- eDwithin: whether the two are at most a distance apart at some instant at which both are defined;
-- NULL if there is no such instant
abbrev pub IsEverWithin : Value → Value → Value → Value → Type 0
IsEverWithin a b (Number d) v = OnOperands plane_value_of plane_value_of (plane_pair a b) (IsEverValue (are_within d)) v
IsEverWithin a b _ v = v ≡ Null

-- the greatest lower bound of the square of their distance; NULL if they are never both defined
abbrev pub IsApproachValue : OverTime Point → OverTime Point → Value → Type 0
IsApproachValue left right v = (answer : Option Ratio) × IsApproach left right answer × (v ≡ or_nothing Number answer)

-- nearestApproachSquared
abbrev pub IsNearestApproach : Value → Value → Value → Type 0
IsNearestApproach a b v = OnOperands plane_value_of plane_value_of (plane_pair a b) IsApproachValue v
