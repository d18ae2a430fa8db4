-- A search from its start to its ends.
use Rattle.std.{specs.Prelude.{Contains}, specs.List.Sorted.{IsPermutation}, specs.BinaryHeap.{IsUpperBound}}
use Rattle.std.{proofs.Common.{◌≡◌, inl, inr, ℕ, ◌<◌, true, List, [], ◌∷◌, length, length-append, Option, Some, arith, refl, sym, ap, ◌∙◌, subst}, proofs.lemmas.List.Sums.{sum_by-append}}
use Rattle.mob_ratio.{specs.Ratio.{Ratio}, specs.Order.{up_to}, specs.Sign.{nil}, proofs.Order.{up_to-self}}
use Rattle.mob_stbox.specs.Boxes.{BoxOf}
use Rattle.mob_slice.specs.declared.formula.Formula.{Formula}
use Rattle.mob_list.proofs.Entries.{none_in, which_in}
use Rattle.mob_rtree_nodes.{specs.Tree.{AreSame, EntryOf}, specs.Reach.{Branch, IsSpread, is_root, entries_under}}
use Rattle.mob_knn.{specs.declared.waiting.Waiting.{Waiting}, specs.declared.waiting.WaitingKind.{WaitingKind}, specs.declared.waiting.WaitingKind.TheVariants.{Node, Entry, Answer}}
use Rattle.mob_knn.{specs.Nearest.{TripOf, Asked, HasApproach, AreFirstRows, AreOfTrips, IsAskedBox, IsPassed}, specs.Steps.{State, IsAdvanced, IsEntry, IsReachedIn, HasUnfitPart}}
use Rattle.mob_knn.{specs.Waits.{waiting_cmp, entries_in, answers_at}, proofs.Known.{entry_box, trips_known}, proofs.Lists.{box_in, flat_permuted, in_before}, proofs.Orders.{next_each}}
use Rattle.mob_knn.proofs.Searching.{IsKnown, IsHeld, IsSearching, IsPopped, IsDone, opened, looked, told, told_last, unfit_gap, unfit_entry}

module _ {bs : List Branch} {root : Option ℕ} {entries : List EntryOf} {has : ℕ → Ratio → Type 0} {q : BoxOf} (known : IsKnown bs root entries has q) where
  none_in_empty : (k : ℕ) → entries ≡ [] → AreFirstRows has k []
  none_in_empty k e = record {
    each = tt;
    rising = tt;
    few = omega arith;
    full = λ row m h. let b = known.every row m h in absurd (none_in (b.0, row) (subst (λ l. Contains l (b.0, row)) e b.1));
  }

  pub none_found : (k : ℕ) (rs : List (ℕ × Ratio)) → entries ≡ [] → rs ≡ [] → AreFirstRows has k rs
  none_found k rs e f = subst (λ z. AreFirstRows has k z) (sym f) (none_in_empty k e)

  begun : (k start n : ℕ) (heap : List Waiting) → 0 < k → root ≡ Some n → AreSame (entries_under bs n) entries → IsPermutation (record { key = nil; what = Node n } ∷ []) heap
      → IsSearching bs root entries has q k start (record { heap = heap; found = []; steps = start })
  begun k start n heap some at under perm = record {
    gone = [];
    tried = [];
    floor = nil;
    same = λ g.
        let a = flat_permuted g (λ (w : Waiting). entries_in bs (box_in q entries) w.what) (record { key = nil; what = Node n } ∷ []) heap perm in
        let b = sum_by-append g (entries_under bs n) [] in
        let c = under g in
        omega (arith, a, b, c);
    none = λ e c. absurd (none_in e c);
    answered = λ e c. absurd (none_in e c);
    held = λ w c. elim (which_in (record { key = nil; what = Node n }) [] w (in_before (record { key = nil; what = Node n } ∷ []) heap w perm c)) [
      | inl e ↦ subst (λ (z : Waiting). (up_to nil z.key ≡ true) × IsHeld bs root entries has q z.key z.what) e (up_to-self nil, ((0, is_root at), λ e c m h. known.above e.1 m h))
      | inr i ↦ absurd (none_in w i)
    ];
    near = λ e c. absurd (none_in e c);
    real = λ o c. absurd (none_in o c);
    rising = tt;
    later = λ o c. absurd (none_in o c);
    once = λ f. let a = flat_permuted (λ (o : ℕ × Ratio). f o.0) (λ (w : Waiting). answers_at w w.what) (record { key = nil; what = Node n } ∷ []) heap perm in omega (arith, a);
    few = some;
    steps = omega arith;
  }

  pub begun_from : (k start n : ℕ) (key : Ratio) (none heap : List Waiting) (found : List (ℕ × Ratio)) → 0 < k → root ≡ Some n → AreSame (entries_under bs n) entries → key ≡ nil → none ≡ [] → found ≡ []
      → IsPermutation (record { key = key; what = Node n } ∷ none) heap → IsSearching bs root entries has q k start (record { heap = heap; found = found; steps = start })
  begun_from k start n key none heap found some at under ek en ef perm =
      subst (λ z. IsSearching bs root entries has q k start (record { heap = heap; found = z; steps = start })) (sym ef)
      (begun k start n heap some at under (subst (λ z. IsPermutation (record { key = nil; what = Node n } ∷ z) heap) en (subst (λ z. IsPermutation (record { key = z; what = Node n } ∷ none) heap) ek perm)))

  module _ {k start : ℕ} {s : State} (old : IsSearching bs root entries has q k start s) {first : Waiting} {rest : List Waiting} (taken : IsPermutation s.heap (first ∷ rest)) (top : IsUpperBound waiting_cmp first rest) where
    popped : IsPopped bs root entries has q s.heap first rest
    popped = record { taken = taken; next = next_each first rest top }

    pub reached : IsReachedIn bs root first.what
    reached = by_what first.what (old.held first (in_before s.heap (first ∷ rest) first taken (0, omega arith, refl))).1
      where
        by_what : (what : WaitingKind) → IsHeld bs root entries has q first.key what → IsReachedIn bs root what
        by_what (Node n) h = h.0
        by_what (Entry row) h = tt
        by_what (Answer row) h = tt

    module _ (new : State) (spread : (n : ℕ) → first.what ≡ Node n → IsSpread bs n) (how : IsAdvanced bs q has first.key first.what (record { heap = rest; found = s.found; steps = s.steps }) new) where
      pub next_state : (length new.found ≡ k → ⊥) → IsSearching bs root entries has q k start new
      next_state ne = by_what first.what refl how
        where
          by_what : (what : WaitingKind) → first.what ≡ what → IsAdvanced bs q has first.key what (record { heap = rest; found = s.found; steps = s.steps }) new → IsSearching bs root entries has q k start new
          by_what (Node n) e h = opened bs root entries has q known k start s old first rest popped n e (spread n e) new h
          by_what (Entry row) e h = looked bs root entries has q known k start s old first rest popped row e new h
          by_what (Answer row) e h =
              let a = ap length h.found ∙ length-append s.found ((row, first.key) ∷ []) in
              let b = old.few in
              told bs root entries has q known k start s old first rest popped row e new h (omega (arith, a, b, ne))

      pub last_state : length new.found ≡ k → IsDone bs root entries has q k start new.found new.steps
      last_state full = by_what first.what refl how
        where
          by_what : (what : WaitingKind) → first.what ≡ what → IsAdvanced bs q has first.key what (record { heap = rest; found = s.found; steps = s.steps }) new → IsDone bs root entries has q k start new.found new.steps
          by_what (Node n) e h = let a = ap length h.found in let b = old.few in absurd (omega (arith, a, b, full))
          by_what (Entry row) e h = let a = ap length h.found in let c = old.few in absurd (omega (arith, a, c, full))
          by_what (Answer row) e h = told_last bs root entries has q known k start s old first rest popped row e new h full

-- a part does not fit
pub unfit_row : {bs : List Branch} {root : Option ℕ} (entries : List EntryOf) (trips : List (Option TripOf)) (asked : Asked) (q : BoxOf) → AreOfTrips trips entries → IsAskedBox asked q
    → {k start : ℕ} {s : State} → IsSearching bs root entries (HasApproach trips asked) q k start s → {first : Waiting} {rest : List Waiting} → IsPermutation s.heap (first ∷ rest) → IsUpperBound waiting_cmp first rest
    → (row : ℕ) (formula : Formula) → IsEntry first.what row × HasUnfitPart trips asked row formula → IsPassed trips asked k row formula
unfit_row {bs} {root} entries trips asked q of its {k} {start} {s} old {first} {rest} taken top row formula h =
    let known = trips_known bs root trips asked q entries of its in
    let pop : IsPopped bs root entries (HasApproach trips asked) q s.heap first rest = record { taken = taken; next = next_each first rest top } in
    let g = unfit_gap bs root entries (HasApproach trips asked) q known k start s old first rest pop row h.0 in
    let c = unfit_entry bs root entries (HasApproach trips asked) q known k start s old first rest pop row h.0 in
    record {
      trip = h.1.0;
      there = h.1.1;
      unfit = h.1.2;
      box = box_in q entries row;
      its = entry_box trips entries of (box_in q entries row) row h.1.0 c h.1.1;
      asked_box = q;
      asked_its = its;
      gap = g.0;
      far = g.1;
      below = g.2;
    }
