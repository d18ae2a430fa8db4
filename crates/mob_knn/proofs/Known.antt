-- Facts about trips, from the boxes of their entries.
use Rattle.std.specs.Prelude.{cond, Contains, sum_by, ◌==◌, IfSome}
use Rattle.std.proofs.Common.{◌≡◌, inl, inr, ℕ, zero, suc, ◌+◌, ◌<◌, ◌≤◌, Bool, true, false, List, [], ◌∷◌, Option, Some, None, arith, refl, sym, ap, ◌∙◌, subst}
use Rattle.std.proofs.lemmas.List.Sums.{sum_by-cons}
use Rattle.mob_ratio.{specs.Ratio.{Ratio}, proofs.Order.{not-up_to-le, smaller_left, greater_right}}
use Rattle.mob_plane.specs.declared.point.Point.{Point}
use Rattle.mob_slice.{specs.Lines.{plane_value_of}, specs.Sides.{Slices, Base, given_at}}
use Rattle.mob_stbox.{specs.Areas.{InArea, area_between}, specs.Boxes.{BoxOf, InBox, contains}}
use Rattle.mob_list.proofs.Entries.{first_in, later_in, none_in, which_in}
use Rattle.mob_rtree_nodes.{specs.Tree.{EntryOf}, specs.Reach.{Branch}}
use Rattle.mob_value.{specs.ValueBoxes.{IsBoxOf}, proofs.ValueBoxes.{one_value_box}}
use Rattle.mob_meets.specs.Covers.{Covers}
use Rattle.mob_knn.{specs.Gaps.{gap_of, gap_reaches}, specs.Nearest.{TripOf, Asked, IsTrip, HasApproach, AreBoxes, AreOfTrips, IsAskedBox}, proofs.Bounds.{approach_reaches, covers_over}}
use Rattle.mob_knn.{proofs.Lists.{in_same, same_back}, proofs.Rows.{one_trip, one_approach}, proofs.Searching.{IsKnown}}
use borrow.Author.Tests.{eqb-true}

-- ---- the entries of trips

record HasEntry (trips : List (Option TripOf)) (i : ℕ) (e : EntryOf) : Type 0 where
  pub place : ℕ
  pub is : e.1 ≡ i + place
  pub trip : TripOf
  pub there : IsTrip trips place trip
  pub its : IsBoxOf trip e.0

later_entry : (o : Option TripOf) (trips : List (Option TripOf)) (i : ℕ) (e : EntryOf) → HasEntry trips (i + 1) e → HasEntry (o ∷ trips) i e
later_entry o trips i e h = record { place = suc h.place; is = let f = h.is in omega (arith, f); trip = h.trip; there = h.there; its = h.its }

entry_of_trip : (i : ℕ) (trips : List (Option TripOf)) (made : List EntryOf) → AreBoxes i trips made → (e : EntryOf) → Contains made e → HasEntry trips i e
entry_of_trip i [] made h e c = absurd (none_in e (subst (λ l. Contains l e) h c))
entry_of_trip i (None ∷ trips) made h e c = later_entry None trips i e (entry_of_trip (i + 1) trips made h e c)
entry_of_trip i (Some trip ∷ trips) made h e c = elim (which_in (h.0, i) h.1 e (subst (λ l. Contains l e) h.3 c)) [
  | inl f ↦ subst (λ z. HasEntry (Some trip ∷ trips) i z) f (record { place = 0; is = omega arith; trip = trip; there = refl; its = h.2 })
  | inr j ↦ later_entry (Some trip) trips i e (entry_of_trip (i + 1) trips h.1 h.4 e j)
]

record HasBoxAt (made : List EntryOf) (row : ℕ) : Type 0 where
  pub box : BoxOf
  pub there : Contains made (box, row)

entry_there : (i : ℕ) (trips : List (Option TripOf)) (made : List EntryOf) → AreBoxes i trips made → (place : ℕ) (trip : TripOf) → IsTrip trips place trip → (row : ℕ) → row ≡ i + place → HasBoxAt made row
entry_there i [] made h place trip t row e = absurd cc
entry_there i (None ∷ trips) made h zero trip t row e = absurd cc
entry_there i (None ∷ trips) made h (suc place) trip t row e = entry_there (i + 1) trips made h place trip t row (omega (arith, e))
entry_there i (Some u ∷ trips) made h zero trip t row e = record { box = h.0; there = subst (λ l. Contains l (h.0, row)) (sym h.3) (subst (λ z. Contains {X = EntryOf} ((h.0, z) ∷ h.1) (h.0, row)) (let f : row ≡ i = omega (arith, e) in f) (first_in (h.0, row) h.1)) }
entry_there i (Some u ∷ trips) made h (suc place) trip t row e =
    let v = entry_there (i + 1) trips h.1 h.4 place trip t row (omega (arith, e)) in
    record { box = v.box; there = subst (λ l. Contains l (v.box, row)) (sym h.3) (later_in (h.0, i) h.1 (v.box, row) v.there) }

abbrev at_row : ℕ → EntryOf → ℕ
at_row row e = cond (e.1 == row) 1 0

-- rows before i have no entry, and each row has at most one
few_at : (row i : ℕ) (trips : List (Option TripOf)) (made : List EntryOf) → AreBoxes i trips made → (sum_by (at_row row) made ≤ 1) × (row < i → sum_by (at_row row) made ≡ 0)
few_at row i [] made h = let e : ◌≡◌ {A = ℕ} (sum_by (at_row row) made) 0 = ap (λ l. sum_by (at_row row) l) h in (omega (arith, e), λ lt. e)
few_at row i (None ∷ trips) made h = let k = few_at row (i + 1) trips made h in (k.0, λ lt. k.1 (omega (arith, lt)))
few_at row i (Some trip ∷ trips) made h = by_row (few_at row (i + 1) trips h.1 h.4) (i == row) refl
  where
    total : sum_by (at_row row) made ≡ at_row row (h.0, i) + sum_by (at_row row) h.1
    total = ap (λ l. sum_by (at_row row) l) h.3 ∙ sum_by-cons (at_row row) (h.0, i) h.1

    by_row : (sum_by (at_row row) h.1 ≤ 1) × (row < i + 1 → sum_by (at_row row) h.1 ≡ 0) → (t : Bool) → (i == row) ≡ t → (sum_by (at_row row) made ≤ 1) × (row < i → sum_by (at_row row) made ≡ 0)
    by_row k true e =
        let f : i ≡ row = eqb-true i row e in
        let g : ◌≡◌ {A = ℕ} (at_row row (h.0, i)) 1 = ap (λ t. cond t 1 0) e in
        let z = k.1 (omega (arith, f)) in
        (omega (arith, total, g, z), λ lt. absurd (omega (arith, lt, f)))
    by_row k false e =
        let g : ◌≡◌ {A = ℕ} (at_row row (h.0, i)) 0 = ap (λ t. cond t 1 0) e in
        let a = k.0 in
        (omega (arith, total, g, a), λ lt. (let z = k.1 (omega (arith, lt)) in omega (arith, total, g, z)))

-- ---- what is asked for

pub asked_once : (asked : Asked) (b c : BoxOf) → IsAskedBox asked b → IsAskedBox asked c → b ≡ c
asked_once (Slices v) b c h k = one_value_box v b c h k
asked_once (Base p) b c h k = h ∙ sym k

in_itself : (p : Point) → InArea (area_between p p) p
in_itself p = record {
  from_west = not-up_to-le _ _ (smaller_left p.x p.x);
  to_east = not-up_to-le _ _ (greater_right p.x p.x);
  from_south = not-up_to-le _ _ (smaller_left p.y p.y);
  to_north = not-up_to-le _ _ (greater_right p.y p.y);
}

pub asked_covers : (asked : Asked) (q : BoxOf) → IsAskedBox asked q → Covers (given_at plane_value_of asked) q
asked_covers (Slices v) q h = h.has
asked_covers (Base p) q h = λ t. subst (λ b. IfSome (Some p) (λ z. InBox b t z)) (sym h) (record { in_space = in_itself p; in_time = tt })

-- ---- together

entry_known : (trips : List (Option TripOf)) (entries : List EntryOf) → AreOfTrips trips entries → (e : EntryOf) → Contains entries e → (trip : TripOf) × IsTrip trips e.1 trip × IsBoxOf trip e.0
entry_known trips entries of e c =
    let h = entry_of_trip 0 trips of.0 of.1 e (in_same entries of.0 e of.2 c) in
    let f : e.1 ≡ h.place = let g = h.is in omega (arith, g) in
    (h.trip, subst (λ z. IsTrip trips z h.trip) (sym f) h.there, h.its)

pub entry_box : (trips : List (Option TripOf)) (entries : List EntryOf) → AreOfTrips trips entries → (b : BoxOf) (row : ℕ) (trip : TripOf) → Contains entries (b, row) → IsTrip trips row trip → IsBoxOf trip b
entry_box trips entries of b row trip c t = let h = entry_known trips entries of (b, row) c in subst (λ v. IsBoxOf v b) (one_trip trips row h.0 trip h.1 t) h.2

trips_bound : (trips : List (Option TripOf)) (asked : Asked) (q : BoxOf) (entries : List EntryOf) → AreOfTrips trips entries → IsAskedBox asked q
    → (b : BoxOf) (e : EntryOf) → Contains entries e → contains b e.0 ≡ true → (m : Ratio) → HasApproach trips asked e.1 m → gap_reaches (gap_of b q) m ≡ true
trips_bound trips asked q entries of its b e c over m h =
    let i = entry_box trips entries of e.0 e.1 h.0 c h.1 in
    approach_reaches (given_at plane_value_of (Slices h.0)) (given_at plane_value_of asked) b q m (covers_over (given_at plane_value_of (Slices h.0)) b e.0 over i.has) (asked_covers asked q its) h.2

nowhere : BoxOf
nowhere = record { space = None; time = None }

pub trips_known : (bs : List Branch) (root : Option ℕ) (trips : List (Option TripOf)) (asked : Asked) (q : BoxOf) (entries : List EntryOf) → AreOfTrips trips entries → IsAskedBox asked q → IsKnown bs root entries (HasApproach trips asked) q
unfolding nowhere contains gap_of
trips_known bs root trips asked q entries of its = record {
  bound = trips_bound trips asked q entries of its;
  above = λ row m h. let e = entry_there 0 trips of.0 of.1 row h.0 h.1 row (omega arith) in trips_bound trips asked q entries of its nowhere (e.box, row) (in_same of.0 entries (e.box, row) (same_back entries of.0 of.2) e.there) refl m h;
  one = one_approach trips asked;
  every = λ row m h. let e = entry_there 0 trips of.0 of.1 row h.0 h.1 row (omega arith) in (e.box, in_same of.0 entries (e.box, row) (same_back entries of.0 of.2) e.there);
  once = λ row. let a = of.2 (at_row row) in let b = (few_at row 0 trips of.0 of.1).0 in omega (arith, a, b);
}
