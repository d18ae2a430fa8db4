-- The piece of two operands that has an instant, and the operands there.
use Rattle.std.{specs.Prelude.{◌≡◌, ◌⊎◌, ◌||◌, Bool, true, false, cond, List, [], ◌∷◌, Option, Some, None, option_map, refl}, proofs.Common.{ap, sym, ◌∙◌, inl, inr}}
use Rattle.mob_ratio.specs.Ratio.{Ratio}
use Rattle.mob_span.{specs.Span.{SpanOf, has}, specs.Pieces.{PiecesAreClear, piece_at}, specs.Meets.{PieceOf}, proofs.Insides.{clear_has}, proofs.Shared.{AreAllClear, all_after}}
use Rattle.mob_slice.{specs.Operands.{map_both}, specs.Sides.{SideOf, OperandOf, side_at, pieces, given_at, has_slices}, proofs.Options.{none_some, same_some}}
use Rattle.mob_lift.{specs.Sometime.{HaveCommon}, proofs.PieceLaws.{pieces_value}}

-- ---- parts of time in order
module _ {P : Type 0} (span : P → SpanOf) where
  none_after : (q : SpanOf) (ps : List P) (t : Ratio) → AreAllClear span q ps → has q t ≡ true → piece_at span ps t ≡ None
  none_after q [] t a h = refl
  none_after q (p ∷ ps) t a h = ap (λ b. cond b (Some p) (piece_at span ps t)) (clear_has q (span p) t a.0 h) ∙ none_after q ps t a.1 h

  not_here : (p : P) (ps : List P) (t : Ratio) (q : P) → PiecesAreClear span (p ∷ ps) → piece_at span ps t ≡ Some q → (b : Bool) → has (span p) t ≡ b → has (span p) t ≡ false
  not_here p ps t q c e true h = none_some q (sym (none_after (span p) ps t (all_after span p ps c) h) ∙ e)
  not_here p ps t q c e false h = h

  -- the first part, or a later one, has the instant
  pub first_at : (p : P) (ps : List P) (t : Ratio) → has (span p) t ≡ true → piece_at span (p ∷ ps) t ≡ Some p
  first_at p ps t h = ap (λ b. cond b (Some p) (piece_at span ps t)) h

  pub later_at : (p : P) (ps : List P) (t : Ratio) (q : P) → PiecesAreClear span (p ∷ ps) → piece_at span ps t ≡ Some q → piece_at span (p ∷ ps) t ≡ Some q
  later_at p ps t q c e = ap (λ b. cond b (Some p) (piece_at span ps t)) (not_here p ps t q c e (has (span p) t) refl) ∙ e

  which_by : (p : P) (ps : List P) (t : Ratio) (q : P) (b : Bool) → has (span p) t ≡ b → cond b (Some p) (piece_at span ps t) ≡ Some q → ((has (span p) t ≡ true) × (p ≡ q)) ⊎ (piece_at span ps t ≡ Some q)
  which_by p ps t q true h e = inl (h, same_some e)
  which_by p ps t q false h e = inr e

  pub which_at : (p : P) (ps : List P) (t : Ratio) (q : P) → piece_at span (p ∷ ps) t ≡ Some q → ((has (span p) t ≡ true) × (p ≡ q)) ⊎ (piece_at span ps t ≡ Some q)
  which_at p ps t q e = which_by p ps t q (has (span p) t) refl e

-- ---- two operands
abbrev pair : {X Y : Type 0} → X → Y → X × Y
pair x y = (x, y)

both_some : {X Y : Type 0} (a : Option X) (b : Option Y) (x : X) (y : Y) → map_both pair a b ≡ Some (x, y) → (a ≡ Some x) × (b ≡ Some y)
both_some None b x y e = none_some (x, y) e
both_some (Some u) None x y e = none_some (x, y) e
both_some {X} {Y} (Some u) (Some v) x y e =
    let h : (u, v) ≡ (x, y) = same_some e in
    (ap (λ (p : X × Y). Some p.0) h, ap (λ (p : X × Y). Some p.1) h)

mapped_some : {A B : Type 0} (f : A → B) (o : Option A) (z : B) → option_map f o ≡ Some z → (a : A) × (o ≡ Some a) × (f a ≡ z)
mapped_some f None z e = none_some z e
mapped_some f (Some a) z e = (a, refl, same_some e)

module _ {A X B Y : Type 0} (value : A → Ratio → Ratio → Ratio → X) (value' : B → Ratio → Ratio → Ratio → Y) (a : OperandOf A X) (b : OperandOf B Y) (m : (has_slices a || has_slices b) ≡ true) where
  abbrev left : Ratio → Option X
  left t = given_at value a t

  abbrev right : Ratio → Option Y
  right t = given_at value' b t

  abbrev sides : Ratio → PieceOf (SideOf A X) (SideOf B Y) → X × Y
  sides t p = (side_at value p.left t, side_at value' p.right t)

  -- the operands at an instant of a piece
  pub there : (t : Ratio) (p : PieceOf (SideOf A X) (SideOf B Y)) → piece_at (λ q. q.span) (pieces a b) t ≡ Some p → (left t ≡ Some (side_at value p.left t)) × (right t ≡ Some (side_at value' p.right t))
  there t p e = both_some (left t) (right t) (side_at value p.left t) (side_at value' p.right t) (sym (pieces_value pair value value' a b m t) ∙ ap (option_map (sides t)) e)

  -- each common instant is in a piece
  pub found : (t : Ratio) (x : X) (y : Y) → left t ≡ Some x → right t ≡ Some y → (p : PieceOf (SideOf A X) (SideOf B Y)) × (piece_at (λ q. q.span) (pieces a b) t ≡ Some p) × (sides t p ≡ (x, y))
  found t x y e f = mapped_some (sides t) (piece_at (λ q. q.span) (pieces a b) t) (x, y) (pieces_value pair value value' a b m t ∙ ap (λ o. map_both pair o (right t)) e ∙ ap (λ o. map_both pair (Some x) o) f)

  -- without pieces no instant is common, and each instant of the first piece is common
  pub no_common : pieces a b ≡ [] → HaveCommon left right → ⊥
  no_common e h = let w = found h.0 h.1 h.2 h.3 h.4 in none_some w.0 (sym (ap (λ ps. piece_at (λ q. q.span) ps h.0) e) ∙ w.1)

  pub common_by : (ps : List (PieceOf (SideOf A X) (SideOf B Y))) (p : PieceOf (SideOf A X) (SideOf B Y)) (t : Ratio) → pieces a b ≡ p ∷ ps → has p.span t ≡ true → HaveCommon left right
  common_by ps p t e h = let w = there t p (ap (λ l. piece_at (λ q. q.span) l t) e ∙ first_at (λ q. q.span) p ps t h) in (t, side_at value p.left t, side_at value' p.right t, w.0, w.1, tt)
