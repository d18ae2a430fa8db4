-- The size of a search: a number that decreases with each step.
use Rattle.std.{specs.Prelude.{Contains, sum_by, get_or, All}, specs.List.Sorted.{IsPermutation}}
use Rattle.std.{proofs.Common.{◌≡◌, ℕ, zero, suc, ◌+◌, ◌<◌, ◌≤◌, true, List, [], ◌∷◌, ◌++◌, length, Option, Some, None, arith, refl, sym, ap, ◌∙◌, subst}, proofs.lemmas.List.Elements.{All-contains}}
use Rattle.std.{proofs.lemmas.List.Sorted.{sum_by-IsPermutation}, proofs.lemmas.List.Sums.{sum_by-append, sum_by-cons}}
use Rattle.mob_ratio.{specs.Ratio.{Ratio}, specs.Order.{greater}}
use Rattle.mob_stbox.specs.Boxes.{BoxOf}
use Rattle.mob_list.proofs.Entries.{first_in, later_in}
use Rattle.mob_rtree_nodes.{specs.Tree.{Kid, target, is_kind}, specs.Reach.{Branch, IsSpread, children, branch_height}, specs.declared.node.Child.TheVariants.{Node as NodeChild, Entry as EntryChild}}
use Rattle.mob_knn.{specs.Gaps.{gap_of}, specs.declared.gaps.kind.Gap.{Gap}, specs.declared.gaps.kind.Gap.TheVariants.{Apart, AtLeast}, specs.declared.waiting.Waiting.{Waiting}}
use Rattle.mob_knn.{specs.declared.waiting.WaitingKind.{WaitingKind}, specs.declared.waiting.WaitingKind.TheVariants.{Node, Entry, Answer}, specs.Steps.{found_answer, State, IsAdvanced}}
use Rattle.mob_knn.specs.Waits.{what_of, waits_by, waits_at, waits_of}

-- a node of height h, with all that is below it
pub node_size : List Branch → ℕ → ℕ → ℕ
node_size bs zero n = suc (sum_by (λ (k : Kid). 2) (children bs n))
node_size bs (suc h) n = suc (sum_by (λ (k : Kid). node_size bs h (target k.1)) (children bs n))

abbrev pub what_size : List Branch → WaitingKind → ℕ
what_size bs (Node n) = node_size bs (branch_height bs n) n
what_size bs (Entry row) = 2
what_size bs (Answer row) = 1

abbrev pub size : List Branch → List Waiting → ℕ
size bs ws = sum_by (λ w. what_size bs w.what) ws

sum_each : {A : Type 0} (f g : A → ℕ) (xs : List A) → ((x : A) → Contains xs x → f x ≡ g x) → sum_by f xs ≡ sum_by g xs
sum_each f g [] h = refl
sum_each f g (x ∷ xs) h =
    let a = sum_by-cons f x xs in
    let b = sum_by-cons g x xs in
    let c = h x (first_in x xs) in
    let d = sum_each f g xs (λ y i. h y (later_in x xs y i)) in
    omega (arith, a, b, c, d)

module _ (bs : List Branch) where
  abbrev kid_size : Kid → ℕ
  kid_size kid = what_size bs (what_of kid.1)

  waits_size : (floor : Ratio) (kid : Kid) (G : Gap) → size bs (waits_by floor kid G) ≤ kid_size kid
  waits_size floor kid Apart = omega arith
  waits_size floor kid (AtLeast g) = let c = sum_by-cons (λ (w : Waiting). what_size bs w.what) (record { key = greater floor g; what = what_of kid.1 }) [] in omega (arith, c)

  all_waits_size : (floor : Ratio) (q : BoxOf) (kids : List Kid) → size bs (waits_of floor q kids) ≤ sum_by kid_size kids
  all_waits_size floor q [] = omega arith
  all_waits_size floor q (kd ∷ kids) =
      let a = sum_by-append (λ (w : Waiting). what_size bs w.what) (waits_at floor q kd) (waits_of floor q kids) in
      let b = waits_size floor kd (gap_of kd.0 q) in
      let c = all_waits_size floor q kids in
      let d = sum_by-cons kid_size kd kids in
      omega (arith, a, b, c, d)

  leaf_kid : (kid : Kid) → is_kind 0 kid.1 ≡ true → kid_size kid ≡ 2
  leaf_kid (b, NodeChild m) h = absurd cc
  leaf_kid (b, EntryChild row) h = refl

  inner_kid : (h : ℕ) (n : ℕ) (kid : Kid) → is_kind (suc h) kid.1 ≡ true → Contains (children bs n) kid → ((i m : ℕ) (b : BoxOf) → i < length (children bs n) → (b, NodeChild m) ≡ get_or (children bs n) i (b, NodeChild m) → branch_height bs m + 1 ≡ suc h) → kid_size kid ≡ node_size bs h (target kid.1)
  inner_kid h n (b, NodeChild m) k c lower = let e = lower c.0 m b c.1 (sym c.2) in ap (λ z. node_size bs z m) (let f : branch_height bs m ≡ h = omega (arith, e) in f)
  inner_kid h n (b, EntryChild row) k c lower = absurd cc

  node_by : (n h : ℕ) → branch_height bs n ≡ h → IsSpread bs n → suc (sum_by kid_size (children bs n)) ≡ node_size bs h n
  unfolding node_size
  node_by n zero e s = ap suc (sum_each kid_size (λ k. 2) (children bs n) (λ kid c. leaf_kid kid (All-contains (λ (k : Kid). is_kind 0 k.1 ≡ true) (children bs n) kid (subst (λ z. All (λ (k : Kid). is_kind z k.1 ≡ true) (children bs n)) e s.kind) c)))
  node_by n (suc h) e s = ap suc (sum_each kid_size (λ k. node_size bs h (target k.1)) (children bs n) (λ kid c.
      inner_kid h n kid (All-contains (λ (k : Kid). is_kind (suc h) k.1 ≡ true) (children bs n) kid (subst (λ z. All (λ (k : Kid). is_kind z k.1 ≡ true) (children bs n)) e s.kind) c) c (λ i m b lt f. s.one_lower i m b lt f ∙ e)))

  answer_size : (row : ℕ) (o : Option Ratio) → size bs (found_answer row o) ≤ 1
  answer_size row None = omega arith
  answer_size row (Some m) = let c = sum_by-cons (λ (w : Waiting). what_size bs w.what) (record { key = m; what = Answer row }) [] in omega (arith, c)

  -- each step decreases it
  pub falls : (q : BoxOf) (has : ℕ → Ratio → Type 0) (first : Waiting) (heap rest : List Waiting) (found : List (ℕ × Ratio)) (ticks : ℕ) (new : State) → IsPermutation heap (first ∷ rest)
      → ((n : ℕ) → first.what ≡ Node n → IsSpread bs n) → IsAdvanced bs q has first.key first.what (record { heap = rest; found = found; steps = ticks }) new → size bs new.heap < size bs heap
  falls q has first heap rest found ticks new pop spread how = by_what first.what refl spread how
    where
      f : Waiting → ℕ
      f w = what_size bs w.what

      before : size bs heap ≡ what_size bs first.what + size bs rest
      before = sym (sum_by-IsPermutation f heap (first ∷ rest) pop) ∙ sum_by-cons f first rest

      by_what : (what : WaitingKind) → first.what ≡ what → ((n : ℕ) → what ≡ Node n → IsSpread bs n) → IsAdvanced bs q has first.key what (record { heap = rest; found = found; steps = ticks }) new → size bs new.heap < size bs heap
      by_what (Node n) e s h =
          let a = sum_by-IsPermutation f (waits_of first.key q (children bs n) ++ rest) new.heap h.heap in
          let b = sum_by-append f (waits_of first.key q (children bs n)) rest in
          let c = all_waits_size first.key q (children bs n) in
          let d = node_by n (branch_height bs n) refl (s n refl) in
          let g = ap (what_size bs) e in
          omega (arith, before, a, b, c, d, g)
      by_what (Entry row) e s h =
          let a = sum_by-IsPermutation f (found_answer row h.answer ++ rest) new.heap h.heap in
          let b = sum_by-append f (found_answer row h.answer) rest in
          let c = answer_size row h.answer in
          let g = ap (what_size bs) e in
          omega (arith, before, a, b, c, g)
      by_what (Answer row) e s h =
          let a = ap (size bs) h.heap in
          let g = ap (what_size bs) e in
          omega (arith, before, a, g)
