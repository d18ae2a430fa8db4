-- Lemmas on the pieces of two operands.
use Rattle.std.{specs.Prelude.{◌≡◌, Bool, true, false, cond, ◌||◌, Option, Some, None, option_map, List, [], ◌∷◌, map, refl}, specs.Option.{option_zip}, proofs.Common.{ap, sym, ◌∙◌, true≢false}}
use Rattle.mob_ratio.specs.Ratio.{Ratio}
use Rattle.mob_span.{specs.Span.{SpanOf, has}, specs.Meets.{PieceOf, shared_pieces}, specs.Pieces.{piece_at}, proofs.MeetLaws.{meets_at, sides}}
use Rattle.mob_slice.{specs.Slices.{value_at}, specs.Operands.{map_both}, specs.Cut.{slice_value}, specs.Sides.{SideOf, Moves, Stays, OperandOf, Slices, Base, pieces, side_at, has_slices, given_at}}
use Rattle.mob_slice.{specs.declared.slice.Slice.{Slice}, proofs.LookUps.{value_by}}

-- a list of pieces made from others on the same spans
module _ {P Q : Type 0} (span : P → SpanOf) (span' : Q → SpanOf) (f : P → Q) (same : (p : P) → span' (f p) ≡ span p) where
  pub map_at : (ps : List P) (t : Ratio) → piece_at span' (map f ps) t ≡ option_map f (piece_at span ps t)
  map_at [] t = refl
  map_at (p ∷ ps) t = ap (λ b. cond b (Some (f p)) (piece_at span' (map f ps) t)) (ap (λ r. has r t) (same p)) ∙ ap (λ o. cond (has (span p) t) (Some (f p)) o) (map_at ps t) ∙ by (has (span p) t)
    where
      by : (b : Bool) → cond b (Some (f p)) (option_map f (piece_at span ps t)) ≡ option_map f (cond b (Some p) (piece_at span ps t))
      by true = refl
      by false = refl

pub twice : {A B C : Type 0} (f : A → B) (g : B → C) (o : Option A) → option_map g (option_map f o) ≡ option_map (λ x. g (f x)) o
twice f g None = refl
twice f g (Some x) = refl

module _ {X Y Z : Type 0} (op : X → Y → Z) where
  pub both_map : {A B : Type 0} (f : A → X) (g : B → Y) (a : Option A) (b : Option B) → option_map (λ (p : A × B). op (f p.0) (g p.1)) (option_zip a b) ≡ map_both op (option_map f a) (option_map g b)
  both_map f g None b = refl
  both_map f g (Some a) None = refl
  both_map f g (Some a) (Some b) = refl

  beside_right : {A : Type 0} (f : A → X) (y : Y) (o : Option A) → option_map (λ s. op (f s) y) o ≡ map_both op (option_map f o) (Some y)
  beside_right f y None = refl
  beside_right f y (Some s) = refl

  beside_left : {B : Type 0} (g : B → Y) (x : X) (o : Option B) → option_map (λ s. op x (g s)) o ≡ map_both op (Some x) (option_map g o)
  beside_left g x None = refl
  beside_left g x (Some s) = refl

  module _ {A B : Type 0} (value : A → Ratio → Ratio → Ratio → X) (value' : B → Ratio → Ratio → Ratio → Y) where
    -- the operation on the two sides of a piece
    abbrev pub sides_value : Ratio → PieceOf (SideOf A X) (SideOf B Y) → Z
    sides_value t p = op (side_at value p.left t) (side_at value' p.right t)

    -- The operation on the sides of the piece at an instant is that on the two operands there.
    pub pieces_value : (a : OperandOf A X) (b : OperandOf B Y) → (has_slices a || has_slices b) ≡ true → (t : Ratio) → option_map (sides_value t) (piece_at (λ p. p.span) (pieces a b) t) ≡ map_both op (given_at value a t) (given_at value' b t)
    pieces_value (Slices v) (Slices w) m t =
        let f : PieceOf (Slice A) (Slice B) → PieceOf (SideOf A X) (SideOf B Y) = λ p. record { span = p.span; left = Moves p.left; right = Moves p.right } in
        let h : Slice A × Slice B → Z = λ p. op (slice_value value p.0 t) (slice_value value' p.1 t) in
        let ps = shared_pieces (λ s. s.span) (λ s. s.span) v w in
        ap (option_map (sides_value t)) (map_at (λ p. p.span) (λ p. p.span) f (λ p. refl) ps t)
        ∙ twice f (sides_value t) (piece_at (λ p. p.span) ps t)
        ∙ sym (twice (sides (λ s. s.span) (λ s. s.span)) h (piece_at (λ p. p.span) ps t))
        ∙ ap (option_map h) (meets_at (λ s. s.span) (λ s. s.span) v w t)
        ∙ both_map (λ s. slice_value value s t) (λ s. slice_value value' s t) (piece_at (λ s. s.span) v t) (piece_at (λ s. s.span) w t)
        ∙ ap (λ o. map_both op o (option_map (λ s. slice_value value' s t) (piece_at (λ s. s.span) w t))) (sym (value_by value v t))
        ∙ ap (λ o. map_both op (value_at value v t) o) (sym (value_by value' w t))
    pieces_value (Slices v) (Base b) m t =
        let f : Slice A → PieceOf (SideOf A X) (SideOf B Y) = λ s. record { span = s.span; left = Moves s; right = Stays b } in
        ap (option_map (sides_value t)) (map_at (λ s. s.span) (λ p. p.span) f (λ s. refl) v t)
        ∙ twice f (sides_value t) (piece_at (λ s. s.span) v t)
        ∙ beside_right (λ s. slice_value value s t) b (piece_at (λ s. s.span) v t)
        ∙ ap (λ o. map_both op o (Some b)) (sym (value_by value v t))
    pieces_value (Base a) (Slices w) m t =
        let f : Slice B → PieceOf (SideOf A X) (SideOf B Y) = λ s. record { span = s.span; left = Stays a; right = Moves s } in
        ap (option_map (sides_value t)) (map_at (λ s. s.span) (λ p. p.span) f (λ s. refl) w t)
        ∙ twice f (sides_value t) (piece_at (λ s. s.span) w t)
        ∙ beside_left (λ s. slice_value value' s t) a (piece_at (λ s. s.span) w t)
        ∙ ap (λ o. map_both op (Some a) o) (sym (value_by value' w t))
    pieces_value (Base a) (Base b) m t = absurd (true≢false (sym m))
