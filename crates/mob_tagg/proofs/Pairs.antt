-- The meaning, for a piece, of a call on a pair.
use Rattle.std.{specs.Prelude.{◌≡◌, Bool, true, List, [], ◌∷◌, Result, Ok}, specs.List.{AllByRecursion}, proofs.Common.{sym, subst}}
use Rattle.mob_ratio.specs.Ratio.{Ratio}
use Rattle.mob_frac.specs.Formula.{AllFit}
use Rattle.mob_span.{specs.Meets.{PieceOf}, specs.Span.{has_instant}, specs.Neighbours.{is_inside}, proofs.Insides.{inside_self}}
use Rattle.mob_slice.{specs.Cut.{slice_parts}, specs.Look.{IsLookFault}, specs.Sides.{at_ends}, specs.declared.slice.Slice.{Slice}, specs.declared.part.Pair.{Pair}}
use Rattle.mob_slice.{specs.declared.formula.Formula.TheVariants.{F1}, specs.Parts.{IsPairFit}, specs.Pieces.{AreInside}, specs.Slices.{IsSound, IsRisingInTime}}
use Rattle.mob_slice.{specs.declared.formula.Formula.{Formula}, proofs.Cuts.{all_both, all_first, all_second}, proofs.Orders.{all_sound}}
use Rattle.mob_list.{specs.Faults.{OnCause}, specs.declared.fault.Fault.{Fault}, specs.declared.fault.Fault.TheVariants.{Because, NoMemory}}
use Rattle.mob_lift.specs.Common.{pair_of}
use Rattle.mob_shares.{specs.Taken.{piece_parts, AreFull, IsShareGiven}, specs.Shares.{share_of, share_span, HoldsShare}, specs.declared.shares.Share.{Share}}
use Rattle.mob_shares.{specs.declared.shares.Share.TheVariants.{Left, Right, Both}, specs.Cuts.{CutOf, wholes}, proofs.Together.{pair_fit}, proofs.Walked.{AreOf}, proofs.Sides.{wholes_of}}

module _ {C : Type 0} (parts : C → Ratio → Ratio → Ratio → List Ratio) (q : PieceOf (Slice C) (Slice C)) where
  abbrev lefts : List Ratio
  lefts = at_ends (slice_parts parts q.left) q.span

  abbrev rights : List Ratio
  rights = at_ends (slice_parts parts q.right) q.span

  pub left_unfit : (copies : Bool) (f : Fault Formula) → IsLookFault copies lefts f → OnCause (λ f. (f ≡ F1) × (¬ AllFit (piece_parts parts q))) f
  left_unfit copies (Because f) h = (h.0, λ k. h.1 (all_first lefts rights k))
  left_unfit copies NoMemory h = tt

  pub right_unfit : (copies : Bool) (f : Fault Formula) → IsLookFault copies rights f → OnCause (λ f. (f ≡ F1) × (¬ AllFit (piece_parts parts q))) f
  right_unfit copies (Because f) h = (h.0, λ k. h.1 (all_second lefts rights k))
  right_unfit copies NoMemory h = tt

  pub both_fit : AllFit lefts → AllFit rights → AllFit (piece_parts parts q)
  both_fit h k = all_both lefts rights h k

-- the result on a piece of the walk is ordered and lies in the piece
pub share_sound : {C B V : Type 0} (value : C → Ratio → Ratio → Ratio → B) (start end : C → B) (parts : C → Ratio → Ratio → Ratio → List Ratio) (items : V → List (Slice C)) (returns : Pair C C → Result V (Fault Formula) → Type 0) (x : V)
    → ((p : Pair C C) → has_instant p.span ≡ true → IsPairFit start end start end p → returns p (Ok x) → AreFull value start end p.span (items x) × AllFit (piece_parts parts (pair_of p)))
    → (p : Share C) → has_instant (share_span p) ≡ true → HoldsShare start end (share_of p) → IsShareGiven value start end parts items returns p (Ok x) → IsRisingInTime start end (items x) × AreInside (share_span p) (items x)
share_sound value start end parts items returns x f (Left o) i h k = (k.0.ordered, k.0.inside)
share_sound value start end parts items returns x f (Right o) i h k = (k.0.ordered, k.0.inside)
share_sound value start end parts items returns x f (Both p) i h k = let a = f p i (pair_fit start end p h) k in (a.0.ordered, a.0.inside)

pub wholes_are : {C B : Type 0} (start end : C → B) (cs : List (CutOf (Slice C))) (v : List (Slice C)) → cs ≡ wholes (λ s. s.span) v → IsRisingInTime start end v → AreOf start end cs
wholes_are {C = C} start end cs v e h = subst (AreOf start end) (sym e) (wholes_of (λ s. s.span) (IsSound start end) v (each v (all_sound start end v h)))
  where
    each : (v : List (Slice C)) → AllByRecursion (IsSound start end) v → AllByRecursion (λ s. IsSound start end s × (is_inside s.span s.span ≡ true)) v
    each [] h = tt
    each (s ∷ v) h = ((h.0, inside_self s.span), each v h.1)
