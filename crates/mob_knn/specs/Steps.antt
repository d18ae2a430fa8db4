-- The steps of a search.
use Rattle.std.{specs.Prelude.{◌≡◌, ℕ, ◌+◌, List, [], ◌∷◌, ◌++◌, Option, Some, None, MatchOption}, specs.List.{flat_map}, specs.List.Sorted.{IsPermutation}}
use Rattle.mob_ratio.specs.Ratio.{Ratio}
use Rattle.mob_slice.{specs.Entries.{IsFirst}, specs.Sides.{Slices, pieces}, specs.declared.formula.Formula.{Formula}}
use Rattle.mob_stbox.specs.Boxes.{BoxOf}
use Rattle.mob_rtree_nodes.specs.Reach.{Branch, IsReachedNode, children}
use Rattle.mob_near.specs.Entries.{entries_of_approach}
use Rattle.mob_knn.{specs.declared.waiting.Waiting.{Waiting}, specs.declared.waiting.WaitingKind.{WaitingKind}, specs.declared.waiting.WaitingKind.TheVariants.{Node, Entry, Answer}}
use Rattle.mob_knn.{specs.Nearest.{TripOf, Asked, IsTrip}, specs.Waits.{waits_of}}

-- the value, if there is one
abbrev pub IsOnly : (Ratio → Type 0) → Option Ratio → Type 0
IsOnly has o = MatchOption o ((m : Ratio) → has m → ⊥) has

-- a waiting node is reached from the root
abbrev pub IsReachedIn : List Branch → Option ℕ → WaitingKind → Type 0
IsReachedIn bs root (Node n) = IsReachedNode bs root n
IsReachedIn bs root (Entry row) = Unit {0}
IsReachedIn bs root (Answer row) = Unit {0}

abbrev pub found_answer : ℕ → Option Ratio → List Waiting
found_answer row None = []
found_answer row (Some m) = record { key = m; what = Answer row } ∷ []

-- the waiting items, the rows found, and the number of steps taken
pub record State : Type 0 where
  pub heap : List Waiting
  pub found : List (ℕ × Ratio)
  pub steps : ℕ

-- The next state, after `first` is taken: a node is opened, an entry is evaluated, or an answer is
-- added.
pub record IsOpened (bs : List Branch) (q : BoxOf) (key : Ratio) (n : ℕ) (old new : State) : Type 0 where
  pub heap : IsPermutation (waits_of key q (children bs n) ++ old.heap) new.heap
  pub found : new.found ≡ old.found
  pub steps : new.steps ≡ old.steps

pub record IsMeasured (has : ℕ → Ratio → Type 0) (row : ℕ) (old new : State) : Type 0 where
  pub answer : Option Ratio
  pub only : IsOnly (has row) answer
  pub heap : IsPermutation (found_answer row answer ++ old.heap) new.heap
  pub found : new.found ≡ old.found
  pub steps : new.steps ≡ old.steps + 1

pub record IsRowAnswered (key : Ratio) (row : ℕ) (old new : State) : Type 0 where
  pub heap : new.heap ≡ old.heap
  pub found : new.found ≡ old.found ++ (row, key) ∷ []
  pub steps : new.steps ≡ old.steps

abbrev pub IsAdvanced : List Branch → BoxOf → (ℕ → Ratio → Type 0) → Ratio → WaitingKind → State → State → Type 0
IsAdvanced bs q has key (Node n) old new = IsOpened bs q key n old new
IsAdvanced bs q has key (Entry row) old new = IsMeasured has row old new
IsAdvanced bs q has key (Answer row) old new = IsRowAnswered key row old new

-- a fault at an entry
abbrev pub HasUnfitPart : List (Option TripOf) → Asked → ℕ → Formula → Type 0
HasUnfitPart trips asked row formula = (trip : TripOf) × IsTrip trips row trip × IsFirst (flat_map entries_of_approach (pieces (Slices trip) asked)) (Some formula)

abbrev pub IsEntry : WaitingKind → ℕ → Type 0
IsEntry what row = what ≡ Entry row
