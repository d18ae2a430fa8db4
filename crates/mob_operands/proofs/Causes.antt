-- A well-typed key over stored values asks for all rows only if an expression has a fault or the
-- box cannot be expanded.
use Rattle.std.{specs.Prelude.{◌⊎◌, Bool, ◌&&◌, fold, Option, None, Some}, proofs.Common.{◌≡◌, ◌≢◌, inl, inr, true, false, true≢false, List, [], ◌∷◌, Ok, refl, sym, subst, arith}}
use Rattle.mob_ratio.specs.Ratio.{Ratio}
use Rattle.mob_frac.specs.Formula.{AllFit}
use Rattle.mob_plane.{specs.Corners.{all_points, AreCorners, widened}, specs.Rings.{are_sound}, specs.declared.point.Point.{Point as PointOf}, specs.declared.rectangle.Corners.{Corners}}
use Rattle.mob_plane.proofs.Widening.{are_corners}
use Rattle.mob_stbox.{specs.Boxes.{BoxOf}, specs.Expansion.{expanded, parts_of_expansion}}
use Rattle.mob_typed.specs.Trees.{TypedTree}
use Rattle.mob_value.{specs.Types.{is_of_type}, specs.declared.value.Value.{Value}, specs.declared.value.Value.TheVariants.{Null, Number, Point, Polygon, Box, MovingPoint}}
use Rattle.mob_meets.specs.Covers.{box_between, IsLookedForBy}
use Rattle.mob_plan.specs.Keys.{overlap_key, within_key, inside_key}
use Rattle.mob_eval.{specs.declared.keys.Probe.{Probe}, specs.declared.keys.Probe.TheVariants.{Everything}, specs.Keys.{ByBox, AsksForMeeting, AsksForWider, UnlessNull, AsksBy, asked_of}}
use Rattle.mob_meaning.{specs.Scene.{Scene}, specs.Evaluation.{TreeEvaluatesTo}}
use Rattle.mob_operands.specs.Boxes.{IsAsStored, IsEitherOf, HasItsTypes, HasFault, HasLaterFault, DoesNotExpand, EverythingHasACause}
use Rattle.mob_ast.specs.declared.types.SqlType.TheVariants as sql

never_both : (b : Bool) → (b && false) ≡ true → ⊥
never_both true h = true≢false (sym h)
never_both false h = true≢false (sym h)

-- sound rings have a least and a greatest corner
ring_corners : (rings : List (List PointOf)) → are_sound rings ≡ true → (least : PointOf) × (greatest : PointOf) × AreCorners (all_points rings) least greatest
ring_corners [] h = absurd (true≢false (sym h))
ring_corners ([] ∷ rings) h = absurd (never_both _ h)
ring_corners ((p ∷ ps) ∷ rings) h =
    let points : List PointOf = all_points ((p ∷ ps) ∷ rings) in
    let made : Corners = fold widened (record { least = p; greatest = p }) points in
    (made.least, made.greatest, are_corners p points made (0, omega (arith), refl) refl)

-- a stored value of these types that is not NULL is searched for by a box
abbrev HasOne : Value → Type 0
HasOne v = (b : BoxOf) × IsLookedForBy v b

box_one : (v : Value) → v ≢ Null → is_of_type sql.Box v ≡ true → HasOne v
box_one Null n h = absurd (n refl)
box_one (Box b) n h = (b, refl)
box_one _ n h = absurd (true≢false (sym h))

point_one : (v : Value) → v ≢ Null → is_of_type sql.Point v ≡ true → HasOne v
point_one Null n h = absurd (n refl)
point_one (Point p) n h = (box_between p p, refl)
point_one _ n h = absurd (true≢false (sym h))

moving_one : (v : Value) → v ≢ Null → is_of_type sql.TPoint v ≡ true → IsAsStored v → HasOne v
moving_one Null n h k = absurd (n refl)
moving_one (MovingPoint a) n h k = k
moving_one _ n h k = absurd (true≢false (sym h))

polygon_one : (v : Value) → v ≢ Null → is_of_type sql.Polygon v ≡ true → IsAsStored v → HasOne v
polygon_one Null n h k = absurd (n refl)
polygon_one (Polygon rings) n h k = let c = ring_corners rings k in (box_between c.0 c.1, (k, c.0, c.1, c.2, refl))
polygon_one _ n h k = absurd (true≢false (sym h))

overlap_one : (v : Value) → v ≢ Null → IsEitherOf sql.Box sql.TPoint v → HasOne v
overlap_one v n h = by h.form
  where
    by : (is_of_type sql.Box v ≡ true) ⊎ (is_of_type sql.TPoint v ≡ true) → HasOne v
    by (inl k) = box_one v n k
    by (inr k) = moving_one v n k h.stored

within_one : (v : Value) → v ≢ Null → IsEitherOf sql.Point sql.TPoint v → HasOne v
within_one v n h = by h.form
  where
    by : (is_of_type sql.Point v ≡ true) ⊎ (is_of_type sql.TPoint v ≡ true) → HasOne v
    by (inl k) = point_one v n k
    by (inr k) = moving_one v n k h.stored

inside_one : (v : Value) → v ≢ Null → IsEitherOf sql.Polygon sql.Polygon v → HasOne v
inside_one v n h = by h.form
  where
    by : (is_of_type sql.Polygon v ≡ true) ⊎ (is_of_type sql.Polygon v ≡ true) → HasOne v
    by (inl k) = polygon_one v n k h.stored
    by (inr k) = polygon_one v n k h.stored

-- NULL asks for no rows, so what asks for all rows is not NULL
not_null : (v : Value) (row : Value → Probe → Type 0) → UnlessNull v row Everything → v ≢ Null
not_null Null row h e = absurd (cc h)
not_null v row h e = absurd (cc e)

unless : (v : Value) (row : Value → Probe → Type 0) → UnlessNull v row Everything → row v Everything
unless Null row h = absurd (cc h)
unless v row h = h

-- a value with a box asks for what meets it, so never for all rows
meeting_never : (v : Value) → HasOne v → ByBox v AsksForMeeting Everything → ⊥
meeting_never v one (inl h) = absurd (let e = h.2 in cc e)
meeting_never v one (inr h) = h.0 one.0 one.1

never_of : (o : Option BoxOf) → Everything ≡ asked_of o → ⊥
never_of None h = absurd (cc h)
never_of (Some b) h = absurd (cc h)

-- an expanded box that asks for all rows has a side that does not fit
wider_unfit : (w : Value) (b : BoxOf) → w ≢ Null → is_of_type sql.Numeric w ≡ true → AsksForWider w b Everything → (d : Ratio) × (w ≡ Number d) × (AllFit (parts_of_expansion b d) → ⊥)
wider_unfit Null b n k h = absurd (n refl)
wider_unfit (Number d) b n k (inl h) = (d, refl, h.0)
wider_unfit (Number d) b n k (inr h) = absurd (never_of (expanded b d) h.1)
wider_unfit _ b n k h = absurd (true≢false (sym k))

near_unfit : (s : Scene) (e d : TypedTree) (v w : Value) → TreeEvaluatesTo s e (Ok v) → TreeEvaluatesTo s d (Ok w) → HasOne v → w ≢ Null → is_of_type sql.Numeric w ≡ true → ByBox v (AsksForWider w) Everything → DoesNotExpand s e d
near_unfit s e d v w is by one n k (inl h) =
    let x = wider_unfit w h.0 n k h.2 in
    record { value = v; is_value = is; box = h.0; is_box = h.1; distance = x.0; is_distance = subst (λ z. TreeEvaluatesTo s d (Ok z)) x.1 by; unfit = x.2 }
near_unfit s e d v w is by one n k (inr h) = absurd (h.0 one.0 one.1)

-- a distance after a value that is not NULL
abbrev ByDistance : Scene → TypedTree → Value → Probe → Type 0
ByDistance s d v = AsksBy s d (λ w. ByBox v (AsksForWider w))

within_cause : (s : Scene) (e d : TypedTree) (v : Value) → HasItsTypes s (within_key e d) → TreeEvaluatesTo s e (Ok v) → v ≢ Null → ByDistance s d v Everything → HasLaterFault s e d ⊎ DoesNotExpand s e d
within_cause s e d v types is n (inl h) = inl (v, is, n, (h.0, h.1))
within_cause s e d v types is n (inr h) =
    let row : Value → Probe → Type 0 = λ w. ByBox v (AsksForWider w) in
    inr (near_unfit s e d v h.0 is h.1 (within_one v n (types.0 v is)) (not_null h.0 row h.2) (types.1 h.0 h.1) (unless h.0 row h.2))

meeting_cause : (s : Scene) (e : TypedTree) → ((v : Value) → TreeEvaluatesTo s e (Ok v) → v ≢ Null → HasOne v) → AsksBy s e (λ v. ByBox v AsksForMeeting) Everything → HasFault s e
meeting_cause s e one (inl h) = (h.0, h.1)
meeting_cause s e one (inr h) =
    let row : Value → Probe → Type 0 = λ v. ByBox v AsksForMeeting in
    absurd (meeting_never h.0 (one h.0 h.1 (not_null h.0 row h.2)) (unless h.0 row h.2))

pub everything_has_a_cause : EverythingHasACause
everything_has_a_cause s (overlap_key e) types h = meeting_cause s e (λ v is n. overlap_one v n (types v is)) h
everything_has_a_cause s (inside_key e) types h = meeting_cause s e (λ v is n. inside_one v n (types v is)) h
everything_has_a_cause s (within_key e d) types (inl h) = inl (h.0, h.1)
everything_has_a_cause s (within_key e d) types (inr h) = inr (within_cause s e d h.0 types h.1 (not_null h.0 (ByDistance s d) h.2) (unless h.0 (ByDistance s d) h.2))
