-- The approach of one row.
use Rattle.std.{specs.Prelude.{Result, Ok, Err, IfOk, IfErr, unwrap_or}, specs.List.{flat_map}, proofs.Common.{◌≡◌, ℕ, List, Option, Some, None, sym, ap, ◌∙◌, subst}}
use Rattle.mob_ratio.specs.Ratio.{Ratio}
use Rattle.mob_slice.{specs.Entries.{IsFirst}, specs.Lines.{plane_value_of}, specs.Sides.{Slices, given_at, pieces}, specs.declared.formula.Formula.{Formula}}
use Rattle.mob_near.{specs.Approaches.{IsApproach}, specs.Entries.{entries_of_approach}, proofs.OneApproach.{approach_once}}
use Rattle.mob_knn.{specs.Nearest.{TripOf, Asked, IsTrip, HasApproach}, specs.Steps.{IsOnly, HasUnfitPart}}

-- one trip is in a row
inner : Option (Option TripOf) → Option TripOf
inner None = None
inner (Some o) = o

trip_in : Option TripOf → TripOf → TripOf
trip_in None t = t
trip_in (Some t) u = t

pub one_trip : (trips : List (Option TripOf)) (row : ℕ) (a b : TripOf) → IsTrip trips row a → IsTrip trips row b → a ≡ b
unfolding inner trip_in
one_trip trips row a b h k = ap (λ o. trip_in (inner o) a) (sym h ∙ k)

pub one_approach : (trips : List (Option TripOf)) (asked : Asked) (row : ℕ) (m n : Ratio) → HasApproach trips asked row m → HasApproach trips asked row n → m ≡ n
one_approach trips asked row m n h k =
    let e = one_trip trips row h.0 k.0 h.1 k.1 in
    let i = subst (λ v. IsApproach (given_at plane_value_of (Slices v)) (given_at plane_value_of asked) (Some m)) e h.2 in
    ap (λ o. unwrap_or o m) (approach_once _ _ (Some m) (Some n) i k.2)

only_of : (trips : List (Option TripOf)) (asked : Asked) (row : ℕ) (trip : TripOf) (o : Option Ratio) → IsTrip trips row trip → IsApproach (given_at plane_value_of (Slices trip)) (given_at plane_value_of asked) o → IsOnly (HasApproach trips asked row) o
only_of trips asked row trip None h k = λ m i. k (subst (λ v. IsApproach (given_at plane_value_of (Slices v)) (given_at plane_value_of asked) (Some m)) (one_trip trips row i.0 trip i.1 h) i.2).0
only_of trips asked row trip (Some m) h k = (trip, h, k)

pub only_there : (trips : List (Option TripOf)) (asked : Asked) (row : ℕ) (trip : TripOf) (r : Result (Option Ratio) Formula) → IsTrip trips row trip → IfOk r (λ o. IsApproach (given_at plane_value_of (Slices trip)) (given_at plane_value_of asked) o)
    → IfOk r (λ o. IsOnly (HasApproach trips asked row) o)
only_there trips asked row trip (Ok o) h k = only_of trips asked row trip o h k
only_there trips asked row trip (Err e) h k = tt

pub only_unfit : (trips : List (Option TripOf)) (asked : Asked) (row : ℕ) (trip : TripOf) (r : Result (Option Ratio) Formula) → IsTrip trips row trip → IfErr r (λ p. IsFirst (flat_map entries_of_approach (pieces (Slices trip) asked)) (Some p))
    → IfErr r (λ p. HasUnfitPart trips asked row p)
only_unfit trips asked row trip (Ok o) h k = tt
only_unfit trips asked row trip (Err e) h k = (trip, h, k)
