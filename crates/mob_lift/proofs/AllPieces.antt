-- A comparison holds at some instant of two operands exactly if it does on some piece.
use Rattle.std.{specs.Prelude.{◌≡◌, ◌⊎◌, ◌↔◌, ◌||◌, Bool, true, false, List, [], ◌∷◌, Option, Some, None, refl}, specs.List.{AllByRecursion}, proofs.Common.{ap, sym, ◌∙◌, subst, true≢false, inl, inr}, proofs.lemmas.Bool.{or_right}}
use Rattle.mob_ratio.specs.Ratio.{Ratio}
use Rattle.mob_span.{specs.Span.{SpanOf, has}, specs.Pieces.{PiecesAreClear, piece_at}, specs.Meets.{PieceOf}, proofs.SpanLemmas.{some_instant}}
use Rattle.mob_slice.{specs.Sides.{SideOf, OperandOf, side_at, pieces, given_at, has_slices}, proofs.Options.{none_some}}
use Rattle.mob_lift.{specs.Sometime.{IsSometime, IsEver, either}, proofs.Walking.{walked}, proofs.PieceAt.{first_at, later_at, which_at, there, found, no_common, common_by}}

-- ---- the instants of the pieces
module _ {P : Type 0} (span : P → SpanOf) (holds : P → Ratio → Bool) (meets : P → Bool) where
  -- the piece that has the instant passes there
  abbrev pub PassesAt : List P → Ratio → Type 0
  PassesAt ps t = (p : P) × (piece_at span ps t ≡ Some p) × (holds p t ≡ true)

  abbrev pub IsExactOn : P → Type 0
  IsExactOn p = (meets p ≡ true) ↔ ((t : Ratio) × (has (span p) t ≡ true) × (holds p t ≡ true))

  or_cases : (a b : Bool) → (a || b) ≡ true → (a ≡ true) ⊎ (b ≡ true)
  or_cases true b h = inl refl
  or_cases false b h = inr h

  -- the answer is true exactly if it was before or a piece passes at some instant
  abbrev pub IsSaid : Bool → Bool → List P → Type 0
  IsSaid b a ps = (b ≡ true) ↔ ((a ≡ true) ⊎ ((t : Ratio) × PassesAt ps t))

  said_from : (a : Bool) (p : P) (ps : List P) (t : Ratio) → IsExactOn p → PassesAt (p ∷ ps) t → (((a || meets p) ≡ true) ⊎ ((t : Ratio) × PassesAt ps t))
  said_from a p ps t e m = elim (which_at span p ps t m.0 m.1) [
    | inl k ↦ inl (or_right a (meets p) (e.1 (t, k.0, subst (λ z. holds z t ≡ true) (sym k.1) m.2)))
    | inr k ↦ inr (t, (m.0, k, m.2))
  ]

  said_to : (a : Bool) (p : P) (ps : List P) → PiecesAreClear span (p ∷ ps) → IsExactOn p → ((a || meets p) ≡ true) ⊎ ((t : Ratio) × PassesAt ps t) → (a ≡ true) ⊎ ((t : Ratio) × PassesAt (p ∷ ps) t)
  said_to a p ps c e (inl h) = elim (or_cases a (meets p) h) [
    | inl k ↦ inl k
    | inr k ↦ let m = e.0 k in inr (m.0, (p, first_at span p ps m.0 m.1, m.2))
  ]
  said_to a p ps c e (inr m) = inr (m.0, (m.1.0, later_at span p ps m.0 m.1.0 c m.1.1, m.1.2))

  said_back : (a : Bool) (p : P) (ps : List P) → IsExactOn p → (a ≡ true) ⊎ ((t : Ratio) × PassesAt (p ∷ ps) t) → ((a || meets p) ≡ true) ⊎ ((t : Ratio) × PassesAt ps t)
  said_back a p ps e (inl h) = inl (rw h refl)
  said_back a p ps e (inr m) = said_from a p ps m.0 e m.1

  nothing_said : (a : Bool) → (a ≡ true) ⊎ ((t : Ratio) × PassesAt [] t) → a ≡ true
  nothing_said a (inl h) = h
  nothing_said a (inr m) = none_some m.1.0 m.1.1

  pub walked_says : (ps : List P) → PiecesAreClear span ps → AllByRecursion IsExactOn ps → (a : Bool) → (b : Bool) × (walked either meets (Some a) ps ≡ Some b) × IsSaid b a ps
  walked_says [] c e a = (a, refl, (λ h. inl h, nothing_said a))
  walked_says (p ∷ ps) c e a =
      let k = walked_says ps c.2 e.1 (a || meets p) in
      (k.0, k.1, (λ h. said_to a p ps c e.0 (k.2.0 h), λ m. k.2.1 (said_back a p ps e.0 m)))

-- ---- two operands
module _ {A X B Y : Type 0} (value : A → Ratio → Ratio → Ratio → X) (value' : B → Ratio → Ratio → Ratio → Y) (a : OperandOf A X) (b : OperandOf B Y) (m : (has_slices a || has_slices b) ≡ true) where
  abbrev left : Ratio → Option X
  left t = given_at value a t

  abbrev right : Ratio → Option Y
  right t = given_at value' b t

  module _ (op : X → Y → Bool) (meets : PieceOf (SideOf A X) (SideOf B Y) → Bool) where
    abbrev holds : PieceOf (SideOf A X) (SideOf B Y) → Ratio → Bool
    holds p t = op (side_at value p.left t) (side_at value' p.right t)

    to_sometime : (t : Ratio) → PassesAt (λ q. q.span) holds meets (pieces a b) t → IsSometime (λ x y. op x y ≡ true) left right
    to_sometime t h = let w = there value value' a b m t h.0 h.1 in (t, side_at value h.0.left t, side_at value' h.0.right t, w.0, w.1, h.2)

    from_sometime : IsSometime (λ x y. op x y ≡ true) left right → (t : Ratio) × PassesAt (λ q. q.span) holds meets (pieces a b) t
    from_sometime h =
        let w = found value value' a b m h.0 h.1 h.2 h.3 h.4 in
        (h.0, (w.0, w.1, ap (λ (z : X × Y). op z.0 z.1) w.2 ∙ h.5))

    ever_by : (all : List (PieceOf (SideOf A X) (SideOf B Y))) → pieces a b ≡ all → PiecesAreClear (λ q. q.span) all → AllByRecursion (IsExactOn (λ q. q.span) holds meets) all → IsEver op left right (walked either meets None all)
    ever_by [] e c x = no_common value value' a b m e
    ever_by (p ∷ ps) e c x =
        let k = walked_says (λ q. q.span) holds meets ps c.2 x.1 (meets p) in
        let i = some_instant p.span c.0 in
        subst (λ o. IsEver op left right o) (sym k.1) (
          common_by value value' a b m ps p i.0 e i.1,
          (
            λ h. let w = said_to (λ q. q.span) holds meets false p ps c x.0 (k.2.0 h) in sometime_of w,
            λ h. k.2.1 (said_back (λ q. q.span) holds meets false p ps x.0 (inr (subst (λ l. (t : Ratio) × PassesAt (λ q. q.span) holds meets l t) e (from_sometime h)))),
          ),
        )
      where
        sometime_of : (false ≡ true) ⊎ ((t : Ratio) × PassesAt (λ q. q.span) holds meets (p ∷ ps) t) → IsSometime (λ x y. op x y ≡ true) left right
        sometime_of (inl h) = absurd (true≢false (sym h))
        sometime_of (inr w) = let u = subst (λ l. (t : Ratio) × PassesAt (λ q. q.span) holds meets l t) (sym e) w in to_sometime u.0 u.1

    -- if each piece is exact, the answer over all of them is that of all common instants
    pub is_ever : PiecesAreClear (λ q. q.span) (pieces a b) → AllByRecursion (IsExactOn (λ q. q.span) holds meets) (pieces a b) → IsEver op left right (walked either meets None (pieces a b))
    is_ever c x = ever_by (pieces a b) refl c x
