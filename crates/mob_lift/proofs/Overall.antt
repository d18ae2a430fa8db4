-- The result of an operator on all pieces of two operands.
use Rattle.std.{specs.Prelude.{◌≡◌, true, ◌||◌, List, map, Some, None, option_map, Result, Err, IfOk, refl}, specs.List.{flat_map}, specs.Iterator.{Yields, Drains, YieldsFirstBy}}
use Rattle.std.{proofs.Common.{ap, sym, ◌∙◌, subst}, proofs.lemmas.Result.{IfOk-weaker}}
use Rattle.mob_ratio.specs.Ratio.{Ratio}
use Rattle.mob_span.{specs.Span.{SpanOf}, specs.Meets.{PieceOf}, specs.Pieces.{piece_at}}
use Rattle.mob_slice.{specs.Sides.{SideOf, OperandOf, has_slices, pieces, piece_of}, specs.Entries.{Entry, IsFirst, IsJudged}, specs.declared.slice.Slice.{Slice}, specs.declared.side.Piece.{Piece}}
use Rattle.mob_slice.{specs.declared.formula.Formula.{Formula}, specs.Piecewise.{IsPiecewise, IsFirstFailure}, proofs.Yielded.{drained}}
use Rattle.mob_list.{specs.declared.fault.Fault.{Fault}, specs.declared.fault.Fault.TheVariants.{Because}}
use Rattle.mob_lift.{specs.Given.{AreOn, on_sides, AreLifted}, proofs.PieceLaws.{map_at, twice, pieces_value}, proofs.Pointwise.{mapped_at}, proofs.Judged.{judged}}

module _ {A X B Y D Z V : Type 0} (value : A → Ratio → Ratio → Ratio → X) (value' : B → Ratio → Ratio → Ratio → Y) (result : D → Ratio → Ratio → Ratio → Z) (start end : D → Z) (items : V → List (Slice D)) (op : X → Y → Z) where
  abbrev span : Piece A B X Y → SpanOf
  span p = p.span

  lifted_values : (a : OperandOf A X) (b : OperandOf B Y) → (has_slices a || has_slices b) ≡ true → (gives : Piece A B X Y → V → Type 0) (ps : List (Piece A B X Y)) (slices : List (Slice D)) → pieces a b ≡ map piece_of ps
      → ((p : Piece A B X Y) (v : V) → gives p v → AreOn result start end (on_sides value value' op (piece_of p)) p.span (items v))
      → IsPiecewise result start end span items gives ps slices → AreLifted value value' result start end op a b slices
  lifted_values a b m gives ps slices e gave h = record {
    ordered = h.ordered;
    values = λ t.
        let f : PieceOf (SideOf A X) (SideOf B Y) → Z = λ q. on_sides value value' op q t in
        mapped_at h (λ p t. on_sides value value' op (piece_of p) t) (λ p v t k i. (gave p v i).values t k) t
        ∙ sym (ap (option_map f) (map_at span (λ q. q.span) piece_of (λ p. refl) ps t) ∙ twice piece_of f (piece_at span ps t))
        ∙ ap (λ qs. option_map f (piece_at (λ q. q.span) qs t)) (sym e)
        ∙ pieces_value op value value' a b m t;
  }

  -- If the closure returned the operation on each piece, or the formula of the first entry of that
  -- piece that does not fit, the whole is the operation on the two operands, judged by the entries
  -- of all pieces. An operator has to know these two facts of its closure.
  pub whole : (entries : PieceOf (SideOf A X) (SideOf B Y) → List Entry) {I W : Type 0} (rest : I → List (PieceOf (SideOf A X) (SideOf B Y))) (list : W → List (Slice D)) (walk : I) (a : OperandOf A X) (b : OperandOf B Y) → (has_slices a || has_slices b) ≡ true → rest walk ≡ pieces a b → (gives : Piece A B X Y → V → Type 0) (fails : Formula → Piece A B X Y → Type 0) (r : Result W (Fault Formula))
      → ((p : Piece A B X Y) (v : V) → gives p v → AreOn result start end (on_sides value value' op (piece_of p)) p.span (items v) × IsFirst (entries (piece_of p)) None)
      → ((f : Formula) (p : Piece A B X Y) → fails f p → IsFirst (entries (piece_of p)) (Some f))
      → IfOk r (λ all. (ps : List (Piece A B X Y)) × Drains (YieldsFirstBy piece_of rest) walk ps × IsPiecewise result start end span items gives ps (list all))
      → ((f : Formula) → r ≡ Err (Because f) → (ps : List (Piece A B X Y)) × (t : I) × Yields (YieldsFirstBy piece_of rest) walk ps t × IsFirstFailure gives (fails f) ps)
      → IfOk r (λ all. AreLifted value value' result start end op a b (list all)) × IsJudged (flat_map entries (pieces a b)) r
  whole entries rest list walk a b m e gives fails r gave failed h k = (
    IfOk-weaker r _ _ (λ all n. lifted_values a b m gives n.0 (list all) (sym e ∙ drained piece_of rest walk n.0 n.1) (λ p v i. (gave p v i).0) n.2) h,
    subst (λ qs. IsJudged (flat_map entries qs) r) e
        (judged piece_of rest items gives fails entries walk r (λ p v i. (gave p v i).1) failed
        (IfOk-weaker r _ _ (λ all n. (n.0, n.1, list all, n.2.made)) h) k),
  )
