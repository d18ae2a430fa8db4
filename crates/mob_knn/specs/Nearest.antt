-- The nearest rows of a list of trips, and the promises of a search for them.
use Rattle.std.specs.Prelude.{◌≡◌, ◌⊎◌, ℕ, ◌+◌, ◌<◌, ◌≤◌, ◌==◌, Bool, true, false, cond, ◌&&◌, ◌||◌, List, [], ◌∷◌, ◌++◌, Option, Some, None, Contains, length, nat_lt, slice_get, count_by}
use Rattle.std.specs.List.{AllByRecursion, flat_map}
use Rattle.mob_ratio.{specs.Ratio.{Ratio}, specs.Order.{before, same, up_to}}
use Rattle.mob_plane.specs.declared.point.Point.{Point}
use Rattle.mob_slice.{specs.Entries.{IsFirst}, specs.Lines.{plane_value_of}, specs.Sides.{OperandOf, Slices, Base, given_at, pieces}, specs.declared.formula.Formula.{Formula}}
use Rattle.mob_slice.{specs.declared.line.PlaneLine.{PlaneLine}, specs.declared.slice.Slice.{Slice}}
use Rattle.mob_stbox.specs.Boxes.{BoxOf}
use Rattle.mob_rtree_nodes.specs.Tree.{AreSame, EntryOf}
use Rattle.mob_near.{specs.Approaches.{IsApproach}, specs.Entries.{entries_of_approach}}
use Rattle.mob_value.specs.ValueBoxes.{IsBoxOf}
use Rattle.mob_meets.specs.Covers.{box_between}
use Rattle.mob_knn.{specs.Gaps.{gap_of}, specs.declared.gaps.kind.Gap.{Gap}, specs.declared.gaps.kind.Gap.TheVariants.{Apart, AtLeast}}

-- a trip; a row may have none
abbrev pub TripOf : Type 0
TripOf = List (Slice PlaneLine)

abbrev pub Asked : Type 0
Asked = OperandOf PlaneLine Point

-- the row has this trip
abbrev pub IsTrip : List (Option TripOf) → ℕ → TripOf → Type 0
IsTrip trips row trip = slice_get trips row ≡ Some (Some trip)

-- it has one, and the square of its nearest approach to what is asked for is m
abbrev pub HasApproach : List (Option TripOf) → Asked → ℕ → Ratio → Type 0
HasApproach trips asked row m = (trip : TripOf) × IsTrip trips row trip × IsApproach (given_at plane_value_of (Slices trip)) (given_at plane_value_of asked) (Some m)

-- a row with its approach is before another: by the approach, then by the row
abbrev pub nearer : ℕ × Ratio → ℕ × Ratio → Bool
nearer a b = before a.1 b.1 || (same a.1 b.1 && nat_lt a.0 b.0)

-- each is before all later ones
abbrev pub IsRising : List (ℕ × Ratio) → Type 0
IsRising [] = Unit {0}
IsRising (r ∷ rs) = AllByRecursion (λ s. nearer r s ≡ true) rs × IsRising rs

-- The first k of all rows that have an approach, in this order: each has its approach, they are
-- sorted, and each row with an approach is among them, unless there are k, which all come before
-- it.
pub record AreFirstRows (has : ℕ → Ratio → Type 0) (k : ℕ) (rs : List (ℕ × Ratio)) : Type 0 where
  pub each : AllByRecursion (λ r. has r.0 r.1) rs
  pub rising : IsRising rs
  pub few : length rs ≤ k
  pub full : (row : ℕ) (m : Ratio) → has row m → Contains rs (row, m) ⊎ ((length rs ≡ k) × AllByRecursion (λ r. nearer r (row, m) ≡ true) rs)

-- all rows that have an approach, each with it, in this order
pub record AreAllRows (has : ℕ → Ratio → Type 0) (all : List (ℕ × Ratio)) : Type 0 where
  pub each : AllByRecursion (λ r. has r.0 r.1) all
  pub rising : IsRising all
  pub every : (row : ℕ) (m : Ratio) → has row m → Contains all (row, m)

abbrev pub AreNearest : List (Option TripOf) → Asked → ℕ → List (ℕ × Ratio) → Type 0
AreNearest trips asked k rs = AreFirstRows (HasApproach trips asked) k rs

-- ---- the index

-- an entry for each trip: its box, with the number of its row; the first row has the number i
abbrev pub AreBoxes : ℕ → List (Option TripOf) → List EntryOf → Type 0
AreBoxes i [] entries = entries ≡ []
AreBoxes i (None ∷ trips) entries = AreBoxes (i + 1) trips entries
AreBoxes i (Some trip ∷ trips) entries = (b : BoxOf) × (rest : List EntryOf) × IsBoxOf trip b × (entries ≡ (b, i) ∷ rest) × AreBoxes (i + 1) trips rest

-- the entry of one trip is added at the end, if the row has one
abbrev pub IsBoxPut : Option TripOf → ℕ → List EntryOf → List EntryOf → Type 0
IsBoxPut None row old new = new ≡ old
IsBoxPut (Some trip) row old new = (b : BoxOf) × IsBoxOf trip b × (new ≡ old ++ (b, row) ∷ [])

-- these are such entries, in any order
abbrev pub AreOfTrips : List (Option TripOf) → List EntryOf → Type 0
AreOfTrips trips held = (entries : List EntryOf) × AreBoxes 0 trips entries × AreSame held entries

-- the box of what is asked for: a moving point's own, or the point itself, at all times
abbrev pub IsAskedBox : Asked → BoxOf → Type 0
IsAskedBox (Slices v) b = IsBoxOf v b
IsAskedBox (Base p) b = b ≡ box_between p p

-- ---- what a search may cost

-- how far an answer reaches: to the approach of its last row if it has k rows, else without bound
abbrev pub last_approach : List (ℕ × Ratio) → Option Ratio
last_approach [] = None
last_approach (r ∷ []) = Some r.1
last_approach (r ∷ s ∷ rs) = last_approach (s ∷ rs)

abbrev pub reach_of : ℕ → List (ℕ × Ratio) → Option Ratio
reach_of k rs = cond (length rs == k) (last_approach rs) None

-- a gap is at most that
abbrev pub lies_within : Option Ratio → Gap → Bool
lies_within reach Apart = false
lies_within None (AtLeast g) = true
lies_within (Some m) (AtLeast g) = up_to g m

-- how many rows have a gap at most that
abbrev pub count_within : Option Ratio → BoxOf → List EntryOf → ℕ
count_within reach q entries = count_by (λ e. lies_within reach (gap_of e.0 q)) entries

-- ---- why there may be no answer

-- fewer than k rows have an approach below g
abbrev pub HasFewBelow : (ℕ → Ratio → Type 0) → ℕ → Ratio → Type 0
HasFewBelow has k g = (near : List ℕ) × (length near < k) × ((row : ℕ) (m : Ratio) → has row m → before m g ≡ true → Contains near row)

-- The row has a trip, and this is the first formula of its nearest approach with a part that does
-- not fit. The gap between its box and the asked box is some g, and fewer than k rows have an
-- approach below g.
pub record IsPassed (trips : List (Option TripOf)) (asked : Asked) (k row : ℕ) (formula : Formula) : Type 0 where
  pub trip : TripOf
  pub there : IsTrip trips row trip
  pub unfit : IsFirst (flat_map entries_of_approach (pieces (Slices trip) asked)) (Some formula)
  pub box : BoxOf
  pub its : IsBoxOf trip box
  pub asked_box : BoxOf
  pub asked_its : IsAskedBox asked asked_box
  pub gap : Ratio
  pub far : gap_of box asked_box ≡ AtLeast gap
  pub below : HasFewBelow (HasApproach trips asked) k gap
