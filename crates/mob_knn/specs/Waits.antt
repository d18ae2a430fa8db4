-- The items of a search, and the order in which they are taken.
use Rattle.std.{specs.Prelude.{ℕ, List, [], ◌∷◌}, specs.Cmp.{IsTotalOrder, nat_cmp_total, on_total, back_total, then_total}, specs.List.{flat_map}, specs.Ordering.{nat_cmp, then_cmp, on, flip_args}}
use Rattle.std.specs.declared.cmp.Ordering.{Ordering}
use Rattle.mob_ratio.{specs.Ratio.{Ratio}, specs.Order.{greater}}
use Rattle.mob_slice.{specs.Ranks.{compare_ratio}, specs.RankLaws.{ranking_ratio}}
use Rattle.mob_stbox.specs.Boxes.{BoxOf}
use Rattle.mob_rtree_nodes.{specs.Tree.{Kid, EntryOf}, specs.Reach.{Branch, entries_under}, specs.declared.node.Child.{Child}}
use Rattle.mob_rtree_nodes.specs.declared.node.Child.TheVariants.{Node as NodeChild, Entry as EntryChild}
use Rattle.mob_knn.{specs.Gaps.{gap_of}, specs.declared.gaps.kind.Gap.{Gap}, specs.declared.gaps.kind.Gap.TheVariants.{Apart, AtLeast}, specs.declared.waiting.Waiting.{Waiting}}
use Rattle.mob_knn.{specs.declared.waiting.WaitingKind.{WaitingKind}, specs.declared.waiting.WaitingKind.TheVariants.{Node, Entry, Answer}}

abbrev pub rank_of : WaitingKind → ℕ
rank_of (Node n) = 0
rank_of (Entry row) = 1
rank_of (Answer row) = 2

abbrev pub waiting_number : WaitingKind → ℕ
waiting_number (Node n) = n
waiting_number (Entry row) = row
waiting_number (Answer row) = row

-- by the key, then nodes and entries before answers, then by the number
abbrev pub first_cmp : Waiting → Waiting → Ordering
first_cmp = then_cmp (on (λ w. w.key) compare_ratio) (then_cmp (on (λ w. rank_of w.what) nat_cmp) (on (λ w. waiting_number w.what) nat_cmp))

-- the greatest is taken first
abbrev pub waiting_cmp : Waiting → Waiting → Ordering
waiting_cmp = flip_args first_cmp

pub waiting_total : IsTotalOrder waiting_cmp
waiting_total = back_total (then_total (on_total (λ w. w.key) ranking_ratio.total) (then_total (on_total (λ w. rank_of w.what) nat_cmp_total) (on_total (λ w. waiting_number w.what) nat_cmp_total)))

-- a child of a node as an item
abbrev pub what_of : Child → WaitingKind
what_of (NodeChild n) = Node n
what_of (EntryChild row) = Entry row

-- the item for a child of a node, below which no approach is less than floor: none if the child is
-- apart from what is asked for
abbrev pub waits_by : Ratio → Kid → Gap → List Waiting
waits_by floor kid Apart = []
waits_by floor kid (AtLeast g) = record { key = greater floor g; what = what_of kid.1 } ∷ []

abbrev pub waits_at : Ratio → BoxOf → Kid → List Waiting
waits_at floor q kid = waits_by floor kid (gap_of kid.0 q)

abbrev pub waits_of : Ratio → BoxOf → List Kid → List Waiting
waits_of floor q kids = flat_map (waits_at floor q) kids

-- the waiting entries, if these are the boxes of the rows
abbrev pub entries_in : List Branch → (ℕ → BoxOf) → WaitingKind → List EntryOf
entries_in bs box_at (Node n) = entries_under bs n
entries_in bs box_at (Entry row) = (box_at row, row) ∷ []
entries_in bs box_at (Answer row) = []

-- the waiting answers
abbrev pub answers_at : Waiting → WaitingKind → List (ℕ × Ratio)
answers_at w (Node n) = []
answers_at w (Entry row) = []
answers_at w (Answer row) = (row, w.key) ∷ []
