-- The results of calls on the pieces of the walk, taken together.
use Rattle.std.{specs.Prelude.{◌≡◌, ◌⊎◌, Bool, true, false, cond, refl, List, [], ◌∷◌, ◌++◌, Option, Some, None, option_map, MatchOption, Result, Ok, Err}, specs.List.{AllByRecursion}}
use Rattle.std.{specs.Iterator.{Yields, Drains}, proofs.Common.{ap, sym, ◌∙◌, subst, inl, inr, ⊎_elim}}
use Rattle.mob_list.{specs.declared.fault.Fault.{Fault}, specs.declared.fault.Fault.TheVariants.{Because}, proofs.Each.{each_both}}
use Rattle.mob_ratio.specs.Ratio.{Ratio}
use Rattle.mob_frac.specs.Formula.{AllFit}
use Rattle.mob_span.{specs.Span.{has, has_instant}, specs.Meets.{PieceOf, shared_pieces}, specs.Pieces.{PiecesAreClear, piece_at}}
use Rattle.mob_slice.{specs.Course.{IsCourse}, specs.Cut.{slice_value, slice_parts}, specs.Parts.{IsPairFit}, specs.Sides.{at_ends}, specs.Slices.{value_at}, specs.declared.slice.Slice.{Slice}}
use Rattle.mob_slice.{specs.declared.part.One.{One}, specs.declared.part.Pair.{Pair}, specs.declared.formula.Formula.{Formula}, specs.declared.formula.Formula.TheVariants.{F1}}
use Rattle.mob_slice.{specs.Piecewise.{AreGivenInOrder, IsPiecewise, IsFirstFailure}, proofs.Cuts.{all_both, all_first, all_second}, proofs.LookUps.{value_by}, proofs.Options.{none_some, same_some}}
use Rattle.mob_lift.specs.Common.{pair_of}
use Rattle.mob_shares.{specs.Cuts.{CutOf, wholes, entry_at, shared_cuts}, specs.Sharing.{next_share, behind_piece, both_of}, specs.declared.shares.Share.{Share}}
use Rattle.mob_shares.{specs.declared.shares.Share.TheVariants.{Left, Right, Both}, specs.declared.shares.Shares.{Shares}}
use Rattle.mob_shares.specs.Shares.{rest_of, share_of, share_span, CanShare, IsShared, GivesShare, HoldsShare}
use Rattle.mob_shares.{specs.Taken.{one_of, IsShareGiven, piece_parts, IsAnswered, IsRefused, AreTaken, IsFirstRefused}, proofs.Sides.{cut_span, entry_whole}, proofs.Rows.{shared_whole}}
use Rattle.mob_shares.{proofs.Steps.{IsStep}, proofs.Ends.{left_ends, right_ends, none_left, none_right}, proofs.Heads.{next_heads, both_not, AtCuts, at_behind}, proofs.Walked.{Walk, step_of}}

pub pair_fit : {C B : Type 0} (start end : C → B) (p : Pair C C) → HoldsShare start end (share_of (Both p)) → IsPairFit start end start end p
pair_fit start end p h = record { in_left = h.0.1; in_right = h.1.1; left = h.0.0; right = h.1.0 }

module _ {C B V : Type 0} (value : C → Ratio → Ratio → Ratio → B) (start end : C → B) (parts : C → Ratio → Ratio → Ratio → List Ratio) (items : V → List (Slice C)) (returns : Pair C C → Result V (Fault Formula) → Type 0) (gives : Share C → V → Type 0)
    (gave : (p : Share C) (x : V) → gives p x → HoldsShare start end (share_of p) × IsShareGiven value start end parts items returns p (Ok x)) where
  -- the value of cuts at an instant
  abbrev cut_value : List (CutOf (Slice C)) → Ratio → Option B
  cut_value v u = option_map (λ s. slice_value value s u) (entry_at v u)

  abbrev TakenBy : List (CutOf (Slice C)) → List (CutOf (Slice C)) → Ratio → Option B → Type 0
  TakenBy v w u o = MatchOption (piece_at (λ q. q.span) (shared_cuts v w) u) (o ≡ one_of (cut_value v u) (cut_value w u)) (λ q. (x : V) × IsAnswered start end returns q (Ok x) × (o ≡ value_at value (items x) u))

  taken_alone : (v w : List (CutOf (Slice C))) (u : Ratio) (o : Option B) → piece_at (λ q. q.span) (shared_cuts v w) u ≡ None → o ≡ one_of (cut_value v u) (cut_value w u) → TakenBy v w u o
  taken_alone v w u o h k = subst (λ z. MatchOption z (o ≡ one_of (cut_value v u) (cut_value w u)) (λ q. (x : V) × IsAnswered start end returns q (Ok x) × (o ≡ value_at value (items x) u))) (sym h) k

  taken_both : (v w : List (CutOf (Slice C))) (u : Ratio) (o : Option B) (q : PieceOf (Slice C) (Slice C)) → piece_at (λ q. q.span) (shared_cuts v w) u ≡ Some q → ((x : V) × IsAnswered start end returns q (Ok x) × (o ≡ value_at value (items x) u)) → TakenBy v w u o
  taken_both v w u o q h k = subst (λ z. MatchOption z (o ≡ one_of (cut_value v u) (cut_value w u)) (λ q. (x : V) × IsAnswered start end returns q (Ok x) × (o ≡ value_at value (items x) u))) (sym h) k

  taken_here : (v w v' w' : List (CutOf (Slice C))) (p : Share C) (u : Ratio) (o : Option B) → IsStep v w (share_of p) v' w' → has (share_span p) u ≡ true → ((x : V) × gives p x × (o ≡ value_at value (items x) u)) → TakenBy v w u o
  taken_here v w v' w' (Left l) u o step i h =
      let here = step.here u i in
      taken_alone v w u o (none_right v w u here.1)
      (h.2 ∙ (gave (Left l) h.0 h.1).1.0.values u i ∙ sym (ap (λ z. one_of (option_map (λ s. slice_value value s u) z) (cut_value w u)) here.0))
  taken_here v w v' w' (Right r) u o step i h =
      let here = step.here u i in
      taken_alone v w u o (none_left v w u here.0)
      (h.2 ∙ (gave (Right r) h.0 h.1).1.0.values u i ∙ sym (ap (λ z. one_of (option_map (λ s. slice_value value s u) z) (cut_value w u)) here.0 ∙ ap (λ z. option_map (λ s. slice_value value s u) z) here.1))
  taken_here v w v' w' (Both p) u o step i h =
      taken_both v w u o (pair_of p)
      (ap (λ z. piece_at (λ q. q.span) z u) step.shared ∙ ap (λ b. cond b (Some (pair_of p)) (piece_at (λ q. q.span) (shared_cuts v' w') u)) i)
      (h.0, (p, refl, pair_fit start end p (gave (Both p) h.0 h.1).0, (gave (Both p) h.0 h.1).1), h.2)

  taken_later : (v w v' w' : List (CutOf (Slice C))) (p : Share C) (u : Ratio) (o : Option B) → IsStep v w (share_of p) v' w' → has (share_span p) u ≡ false → TakenBy v' w' u o → TakenBy v w u o
  taken_later v w v' w' p u o step i h =
      let gone = step.gone u i in
      let at : piece_at (λ q. q.span) (shared_cuts v w) u ≡ piece_at (λ q. q.span) (shared_cuts v' w') u = ap (λ z. piece_at (λ q. q.span) z u) step.shared ∙ both_not (share_of p) (shared_cuts v' w') u i in
      let old : one_of (cut_value v' u) (cut_value w' u) ≡ one_of (cut_value v u) (cut_value w u) = ap (λ z. one_of (option_map (λ s. slice_value value s u) z) (cut_value w' u)) gone.0 ∙ ap (λ z. one_of (cut_value v u) (option_map (λ s. slice_value value s u) z)) gone.1 in
      subst (λ z. MatchOption z (o ≡ one_of (cut_value v u) (cut_value w u)) (λ q. (x : V) × IsAnswered start end returns q (Ok x) × (o ≡ value_at value (items x) u))) (sym at)
      (subst (λ z. MatchOption (piece_at (λ q. q.span) (shared_cuts v' w') u) (o ≡ z) (λ q. (x : V) × IsAnswered start end returns q (Ok x) × (o ≡ value_at value (items x) u))) old h)

  -- at each instant the walk has the result of the piece there
  taken_from : (xs : List (Share C)) (s t : Shares C) → CanShare s → Walk s xs t → rest_of t.lefts ≡ [] → rest_of t.rights ≡ [] → (u : Ratio) (o : Option B) → MatchOption (piece_at share_span xs u) (o ≡ None) (λ p. (x : V) × gives p x × (o ≡ value_at value (items x) u)) → TakenBy (rest_of s.lefts) (rest_of s.rights) u o
  taken_from [] s t can y l r u o h =
      let l' : rest_of s.lefts ≡ [] = ap (λ z. rest_of z.lefts) y ∙ l in
      let r' : rest_of s.rights ≡ [] = ap (λ z. rest_of z.rights) y ∙ r in
      subst (λ z. TakenBy z (rest_of s.rights) u o) (sym l') (subst (λ z. TakenBy [] z u o) (sym r') h)
  taken_from (p ∷ xs) s t can y l r u o h = by (has (share_span p) u) refl h (taken_from xs y.0 t (step_of s y.0 p can y.1).clear y.2 l r u o)
    where
      by : (b : Bool) → has (share_span p) u ≡ b → MatchOption (cond b (Some p) (piece_at share_span xs u)) (o ≡ None) (λ p. (x : V) × gives p x × (o ≡ value_at value (items x) u)) → (MatchOption (piece_at share_span xs u) (o ≡ None) (λ p. (x : V) × gives p x × (o ≡ value_at value (items x) u)) → TakenBy (rest_of y.0.lefts) (rest_of y.0.rights) u o) → TakenBy (rest_of s.lefts) (rest_of s.rights) u o
      by true i k f = taken_here (rest_of s.lefts) (rest_of s.rights) (rest_of y.0.lefts) (rest_of y.0.rights) p u o (step_of s y.0 p can y.1) i k
      by false i k f = taken_later (rest_of s.lefts) (rest_of s.rights) (rest_of y.0.lefts) (rest_of y.0.rights) p u o (step_of s y.0 p can y.1) i (f k)

  module _ (fit : (p : Pair C C) (x : V) → HoldsShare start end (share_of (Both p)) → has_instant p.span ≡ true → returns p (Ok x) → AllFit (piece_parts parts (pair_of p))) where
    abbrev Answered : PieceOf (Slice C) (Slice C) → V → Type 0
    Answered q x = AllFit (piece_parts parts q) × IsAnswered start end returns q (Ok x)

    answered_both : (p : Pair C C) (x : V) → gives (Both p) x → has_instant p.span ≡ true → Answered (pair_of p) x
    answered_both p x g i = (fit p x (gave (Both p) x g).0 i (gave (Both p) x g).1, (p, refl, pair_fit start end p (gave (Both p) x g).0, (gave (Both p) x g).1))

    -- every shared piece has a result
    answered_from : (xs : List (Share C)) (s t : Shares C) (slices : List (Slice C)) → CanShare s → Walk s xs t → rest_of t.lefts ≡ [] → AreGivenInOrder items gives xs slices → AllByRecursion (λ q. AllFit (piece_parts parts q) × ((x : V) × IsAnswered start end returns q (Ok x))) (shared_cuts (rest_of s.lefts) (rest_of s.rights))
    answered_from [] s t slices can y l h =
        let l' : rest_of s.lefts ≡ [] = ap (λ z. rest_of z.lefts) y ∙ l in
        subst (λ z. AllByRecursion (λ q. AllFit (piece_parts parts q) × ((x : V) × IsAnswered start end returns q (Ok x))) (shared_cuts z (rest_of s.rights))) (sym l') tt
    answered_from (p ∷ xs) s t slices can y l h =
        let step = step_of s y.0 p can y.1 in
        subst (λ z. AllByRecursion (λ q. AllFit (piece_parts parts q) × ((x : V) × IsAnswered start end returns q (Ok x))) z) (sym step.shared)
        (each_both (λ q. AllFit (piece_parts parts q) × ((x : V) × IsAnswered start end returns q (Ok x))) (both_of (share_of p)) (shared_cuts (rest_of y.0.lefts) (rest_of y.0.rights)) (by p h.0 h.2 step.some) (answered_from xs y.0 t h.1 step.clear y.2 l h.3))
      where
        by : (p : Share C) (x : V) → gives p x → has_instant (share_span p) ≡ true → AllByRecursion (λ q. AllFit (piece_parts parts q) × ((x : V) × IsAnswered start end returns q (Ok x))) (both_of (share_of p))
        by (Left o) x g i = tt
        by (Right o) x g i = tt
        by (Both p) x g i = let a = answered_both p x g i in ((a.0, (x, a.1)), tt)

    -- the parts of F1 at an instant
    abbrev At : Slice C → Ratio → Type 0
    At s t = AllFit (slice_parts parts s t)

    ends_of : (o : One C) (x : V) → IsShareGiven value start end parts items returns (Left o) (Ok x) → At o.slice.now o.span.upper
    ends_of o x h = ⊎_elim (λ m. all_second (slice_parts parts o.slice.now o.span.lower) (slice_parts parts o.slice.now o.span.upper) m.0) (λ m. none_some F1 m.1) h.1

    pair_left : (p : Pair C C) → AllFit (piece_parts parts (pair_of p)) → At p.left.now p.span.upper
    pair_left p h = all_second (slice_parts parts p.left.now p.span.lower) (slice_parts parts p.left.now p.span.upper) (all_first (at_ends (slice_parts parts p.left.now) p.span) (at_ends (slice_parts parts p.right.now) p.span) h)

    pair_right : (p : Pair C C) → AllFit (piece_parts parts (pair_of p)) → At p.right.now p.span.upper
    pair_right p h = all_second (slice_parts parts p.right.now p.span.lower) (slice_parts parts p.right.now p.span.upper) (all_second (at_ends (slice_parts parts p.left.now) p.span) (at_ends (slice_parts parts p.right.now) p.span) h)

    -- the results keep the cuts fitting
    cuts_left : (v w : List (CutOf (Slice C))) (p : Share C) (x : V) → next_share v w ≡ Some (share_of p) → has_instant (share_span p) ≡ true → gives p x → AtCuts At v → AtCuts At (behind_piece (share_span p) (share_of p).left v)
    cuts_left v w (Left o) x e i g a = at_behind At v o.span o.slice.now (next_heads v w (share_of (Left o)) e).0 (ends_of o x (gave (Left o) x g).1) a
    cuts_left v w (Right o) x e i g a = a
    cuts_left v w (Both p) x e i g a = at_behind At v p.span p.left.now (next_heads v w (share_of (Both p)) e).0 (pair_left p (answered_both p x g i).0) a

    cuts_right : (v w : List (CutOf (Slice C))) (p : Share C) (x : V) → next_share v w ≡ Some (share_of p) → has_instant (share_span p) ≡ true → gives p x → AtCuts At w → AtCuts At (behind_piece (share_span p) (share_of p).right w)
    cuts_right v w (Left o) x e i g a = a
    cuts_right v w (Right o) x e i g a = at_behind At w o.span o.slice.now (next_heads v w (share_of (Right o)) e).1 (ends_of o x (gave (Right o) x g).1) a
    cuts_right v w (Both p) x e i g a = at_behind At w p.span p.right.now (next_heads v w (share_of (Both p)) e).1 (pair_right p (answered_both p x g i).0) a

    module _ (f : Formula) (fails : Share C → Type 0)
        (failed : (p : Share C) → fails p → HoldsShare start end (share_of p) × IsShareGiven value start end parts items returns p (Err (Because f)))
        (judged : (p : Pair C C) → HoldsShare start end (share_of (Both p)) → returns p (Err (Because f)) → ((f ≡ F1) × (¬ AllFit (piece_parts parts (pair_of p)))) ⊎ AllFit (piece_parts parts (pair_of p))) where
      abbrev Refused : List (PieceOf (Slice C) (Slice C)) → Type 0
      Refused ps = IsFirstFailure Answered (IsRefused start end parts returns f) ps

      alone_fails : (o : One C) → IsShareGiven value start end parts items returns (Left o) (Err (Because f)) → (f ≡ F1) × (¬ AllFit (at_ends (slice_parts parts o.slice.now) o.span))
      alone_fails o h = ⊎_elim (λ m. none_some f (sym m.1)) (λ m. (same_some m.1, m.0)) h

      fails_left : (v w : List (CutOf (Slice C))) (o : One C) → PiecesAreClear cut_span w → AtCuts At v → next_share v w ≡ Some (share_of (Left o)) → IsShareGiven value start end parts items returns (Left o) (Err (Because f)) → Refused (shared_cuts v w)
      fails_left v w o k a e h =
          let bad = alone_fails o h in
          let ends = left_ends At v w k a o.span o.slice.now e in
          ⊎_elim
          (λ m. absurd (bad.1 (all_both (slice_parts parts o.slice.now o.span.lower) (slice_parts parts o.slice.now o.span.upper) ends.0 m)))
          (λ m. subst Refused (sym m.3) (inl (inl (bad.0, λ all. bad.1 (all_both (slice_parts parts o.slice.now o.span.lower) (slice_parts parts o.slice.now o.span.upper) ends.0 (subst (λ z. At o.slice.now z) m.4 (all_first (slice_parts parts o.slice.now m.0.lower) (slice_parts parts o.slice.now m.0.upper) (all_first (at_ends (slice_parts parts o.slice.now) m.0) (at_ends (slice_parts parts m.1) m.0) all))))))))
          ends.1

      fails_right : (v w : List (CutOf (Slice C))) (o : One C) → PiecesAreClear cut_span v → AtCuts At w → next_share v w ≡ Some (share_of (Right o)) → IsShareGiven value start end parts items returns (Right o) (Err (Because f)) → Refused (shared_cuts v w)
      fails_right v w o k a e h =
          let bad = alone_fails o h in
          let ends = right_ends At v w k a o.span o.slice.now e in
          ⊎_elim
          (λ m. absurd (bad.1 (all_both (slice_parts parts o.slice.now o.span.lower) (slice_parts parts o.slice.now o.span.upper) ends.0 m)))
          (λ m. subst Refused (sym m.3) (inl (inl (bad.0, λ all. bad.1 (all_both (slice_parts parts o.slice.now o.span.lower) (slice_parts parts o.slice.now o.span.upper) ends.0 (subst (λ z. At o.slice.now z) m.4 (all_first (slice_parts parts o.slice.now m.0.lower) (slice_parts parts o.slice.now m.0.upper) (all_second (at_ends (slice_parts parts m.1) m.0) (at_ends (slice_parts parts o.slice.now) m.0) all))))))))
          ends.1

      fails_both : (p : Pair C C) (rest : List (PieceOf (Slice C) (Slice C))) → HoldsShare start end (share_of (Both p)) → returns p (Err (Because f)) → Refused (pair_of p ∷ rest)
      fails_both p rest h r = ⊎_elim (λ m. inl (inl m)) (λ m. inl (inr (m, (p, refl, pair_fit start end p h, r)))) (judged p h r)

      -- the first piece of the walk on which a call failed is the first shared piece that fails
      refused_from : (xs : List (Share C)) (s t : Shares C) → CanShare s → AtCuts At (rest_of s.lefts) → AtCuts At (rest_of s.rights) → Walk s xs t → IsFirstFailure gives fails xs → Refused (shared_cuts (rest_of s.lefts) (rest_of s.rights))
      refused_from [] s t can l r y h = absurd h
      refused_from (p ∷ xs) s t can l r y h = ⊎_elim (λ m. first p y.1 (step_of s y.0 p can y.1) (failed p m)) (λ m. later p m.0 m.1 y.1 (step_of s y.0 p can y.1) (λ a b. refused_from xs y.0 t (step_of s y.0 p can y.1).clear a b y.2 m.2)) h
        where
          first : (p : Share C) → IsShared s p y.0 → IsStep (rest_of s.lefts) (rest_of s.rights) (share_of p) (rest_of y.0.lefts) (rest_of y.0.rights) → HoldsShare start end (share_of p) × IsShareGiven value start end parts items returns p (Err (Because f)) → Refused (shared_cuts (rest_of s.lefts) (rest_of s.rights))
          first (Left o) i step k = fails_left (rest_of s.lefts) (rest_of s.rights) o can.1 l i.next k.1
          first (Right o) i step k = fails_right (rest_of s.lefts) (rest_of s.rights) o can.0 r i.next k.1
          first (Both p) i step k = subst Refused (sym step.shared) (fails_both p (shared_cuts (rest_of y.0.lefts) (rest_of y.0.rights)) k.0 k.1)

          later : (p : Share C) (x : V) → gives p x → IsShared s p y.0 → IsStep (rest_of s.lefts) (rest_of s.rights) (share_of p) (rest_of y.0.lefts) (rest_of y.0.rights) → (AtCuts At (rest_of y.0.lefts) → AtCuts At (rest_of y.0.rights) → Refused (shared_cuts (rest_of y.0.lefts) (rest_of y.0.rights))) → Refused (shared_cuts (rest_of s.lefts) (rest_of s.rights))
          later p x g i step k =
              let rest = k (subst (AtCuts At) (sym i.left) (cuts_left (rest_of s.lefts) (rest_of s.rights) p x i.next step.some g l)) (subst (AtCuts At) (sym i.right) (cuts_right (rest_of s.lefts) (rest_of s.rights) p x i.next step.some g r)) in
              subst Refused (sym step.shared) (behind_it p x g step.some rest)
            where
              behind_it : (p : Share C) (x : V) → gives p x → has_instant (share_span p) ≡ true → Refused (shared_cuts (rest_of y.0.lefts) (rest_of y.0.rights)) → Refused (both_of (share_of p) ++ shared_cuts (rest_of y.0.lefts) (rest_of y.0.rights))
              behind_it (Left o) x g i h = h
              behind_it (Right o) x g i h = h
              behind_it (Both p) x g i h = inr (x, answered_both p x g i, h)

-- The merge of two whole values.
module _ {C B V : Type 0} {steady copies : Bool} {value : C → Ratio → Ratio → Ratio → B} {start end : C → B} {can_make : B → B → Type 0} {make : B → B → C} {continues : C → C → Ratio → Ratio → Ratio → Bool} {parts : C → Ratio → Ratio → Ratio → List Ratio} (laws : IsCourse steady copies value start end can_make make continues parts) (items : V → List (Slice C)) (returns : Pair C C → Result V (Fault Formula) → Type 0) (gives : Share C → V → Type 0)
    (gave : (p : Share C) (x : V) → gives p x → HoldsShare start end (share_of p) × IsShareGiven value start end parts items returns p (Ok x))
    (s : Shares C) (v w : List (Slice C)) (can : CanShare s) (left : rest_of s.lefts ≡ wholes (λ s. s.span) v) (right : rest_of s.rights ≡ wholes (λ s. s.span) w) where
  shared_is : shared_cuts (rest_of s.lefts) (rest_of s.rights) ≡ shared_pieces (λ s. s.span) (λ s. s.span) v w
  shared_is = ap (λ z. shared_cuts z (rest_of s.rights)) left ∙ ap (λ z. shared_cuts (wholes (λ s. s.span) v) z) right ∙ shared_whole (λ s. s.span) (λ s. s.span) v w

  whole_value : (cs : List (CutOf (Slice C))) (v : List (Slice C)) → cs ≡ wholes (λ s. s.span) v → (u : Ratio) → option_map (λ s. slice_value value s u) (entry_at cs u) ≡ value_at value v u
  whole_value cs v e u = ap (λ z. option_map (λ s. slice_value value s u) (entry_at z u)) e ∙ ap (λ z. option_map (λ s. slice_value value s u) z) (entry_whole (λ s. s.span) v u) ∙ sym (value_by value v u)

  whole_cuts : (v : List (Slice C)) → AtCuts (λ s t. AllFit (slice_parts parts s t)) (wholes (λ s. s.span) v)
  whole_cuts [] = tt
  whole_cuts (x ∷ v) = ((subst AllFit (sym (laws.lower_parts x.course x.span.lower x.span.upper)) tt, subst AllFit (sym (laws.upper_parts x.course x.span.lower x.span.upper)) tt), whole_cuts v)

  module _ (fit : (p : Pair C C) (x : V) → HoldsShare start end (share_of (Both p)) → has_instant p.span ≡ true → returns p (Ok x) → AllFit (piece_parts parts (pair_of p))) where
    pub are_taken : {W : Type 0} (list : W → List (Slice C)) (all : W) → ((ps : List (Share C)) × Drains GivesShare s ps × IsPiecewise value start end share_span items gives ps (list all)) → AreTaken value start end parts items returns v w (list all)
    are_taken list all h =
        let walk = h.1.1 in
        record {
          answered = subst (λ z. AllByRecursion (λ q. AllFit (piece_parts parts q) × ((x : V) × IsAnswered start end returns q (Ok x))) z) shared_is (answered_from value start end parts items returns gives gave fit h.0 s walk.0 (list all) can walk.1 walk.2.0 h.2.made);
          values = λ u.
              subst (λ z. MatchOption (piece_at (λ q. q.span) z u) (value_at value (list all) u ≡ one_of (value_at value v u) (value_at value w u)) (λ q. (x : V) × IsAnswered start end returns q (Ok x) × (value_at value (list all) u ≡ value_at value (items x) u))) shared_is
              (subst (λ z. MatchOption (piece_at (λ q. q.span) (shared_cuts (rest_of s.lefts) (rest_of s.rights)) u) (value_at value (list all) u ≡ z) (λ q. (x : V) × IsAnswered start end returns q (Ok x) × (value_at value (list all) u ≡ value_at value (items x) u)))
              (ap (λ z. one_of z (option_map (λ s. slice_value value s u) (entry_at (rest_of s.rights) u))) (whole_value (rest_of s.lefts) v left u) ∙ ap (λ z. one_of (value_at value v u) z) (whole_value (rest_of s.rights) w right u))
              (taken_from value start end parts items returns gives gave h.0 s walk.0 can walk.1 walk.2.0 walk.2.1 u (value_at value (list all) u) (h.2.at_each u)));
        }

    pub first_refused : (f : Formula) (fails : Share C → Type 0)
        → ((p : Share C) → fails p → HoldsShare start end (share_of p) × IsShareGiven value start end parts items returns p (Err (Because f)))
        → ((p : Pair C C) → HoldsShare start end (share_of (Both p)) → returns p (Err (Because f)) → ((f ≡ F1) × (¬ AllFit (piece_parts parts (pair_of p)))) ⊎ AllFit (piece_parts parts (pair_of p)))
        → ((ps : List (Share C)) × (t : Shares C) × Yields GivesShare s ps t × IsFirstFailure gives fails ps) → IsFirstRefused start end parts returns v w f
    first_refused f fails failed judged h =
        subst (λ z. IsFirstFailure {V = V} (λ q x. AllFit (piece_parts parts q) × IsAnswered start end returns q (Ok x)) (IsRefused start end parts returns f) z) shared_is
        (refused_from value start end parts items returns gives gave fit f fails failed judged h.0 s h.1 can (subst (AtCuts (λ s t. AllFit (slice_parts parts s t))) (sym left) (whole_cuts v)) (subst (AtCuts (λ s t. AllFit (slice_parts parts s t))) (sym right) (whole_cuts w)) h.2 h.3)
