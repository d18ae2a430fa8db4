-- The result of a call of the walk.
use Rattle.std.{specs.Prelude.{◌≡◌, Bool, true, false, cond, List, [], ◌∷◌, Option, Some, None, ◌<◌, refl}, specs.Iterator.{MakesProgress}, proofs.Common.{ap, sym, ◌∙◌, subst}}
use Rattle.mob_span.{specs.Span.{SpanOf, has_instant}, specs.Meet.{meet_of}, specs.Pieces.{PiecesAreClear}, specs.Remainders.{front_of}}
use Rattle.mob_shares.{specs.Cuts.{CutOf, head_of}, specs.Sharing.{ShareOf, next_share, most_shares}, specs.declared.shares.Share.{Share}, specs.declared.shares.Shares.{Shares}}
use Rattle.mob_shares.{specs.Shares.{rest_of, share_of, CanShare, IsShared, shares_left}, proofs.Steps.{next_step, next_fewer}}

module _ {X : Type 0} where
  -- a list by its first entry
  pub is_empty : (v : List X) → None ≡ head_of v → v ≡ []
  is_empty [] e = refl
  is_empty (x ∷ v) e = cc

  abbrev pub HasHead : X → List X → Type 0
  HasHead x v = (rest : List X) × (v ≡ x ∷ rest)

  pub has_head : (v : List X) (x : X) → Some x ≡ head_of v → HasHead x v
  has_head [] x e = cc
  has_head (y ∷ v) x e = (v, ap (λ z. z ∷ v) (sym (same x y e)))
    where
      same : (x y : X) → Some x ≡ Some y → x ≡ y
      same x y e = cc

module _ {X : Type 0} where
  pub alone_left : (v w : List (CutOf X)) (c : CutOf X) → Some c ≡ head_of v → None ≡ head_of w → next_share v w ≡ Some (record { span = c.span; left = Some c.of; right = None })
  alone_left v w c e f = let h = has_head v c e in ap (λ z. next_share z w) h.1 ∙ ap (λ z. next_share (c ∷ h.0) z) (is_empty w f)

  pub alone_right : (v w : List (CutOf X)) (d : CutOf X) → None ≡ head_of v → Some d ≡ head_of w → next_share v w ≡ Some (record { span = d.span; left = None; right = Some d.of })
  alone_right v w d e f = let h = has_head w d f in ap (λ z. next_share z w) (is_empty v e) ∙ ap (λ z. next_share [] z) h.1

  pub none_left : (v w : List (CutOf X)) → None ≡ head_of v → None ≡ head_of w → None ≡ next_share v w
  none_left v w e f = sym (ap (λ z. next_share z w) (is_empty v e) ∙ ap (λ z. next_share [] z) (is_empty w f))

  -- the piece with which two lists begin is that of their first cuts
  pub of_heads : (v w : List (CutOf X)) (c d : CutOf X) → Some c ≡ head_of v → Some d ≡ head_of w → next_share v w ≡ next_share (c ∷ []) (d ∷ [])
  of_heads v w c d e f = ap (λ z. next_share z w) (has_head v c e).1 ∙ ap (λ z. next_share (c ∷ (has_head v c e).0) z) (has_head w d f).1

  -- the first cut of a list in order of time has an instant
  pub some_head : (v : List (CutOf X)) (c : CutOf X) → Some c ≡ head_of v → PiecesAreClear (λ c. c.span) v → has_instant c.span ≡ true
  some_head v c e h = (subst (PiecesAreClear (λ c. c.span)) (has_head v c e).1 h).0

  -- if no piece comes, nothing is left
  pub nothing_left : (v w : List (CutOf X)) → None ≡ next_share v w → (v ≡ []) × (w ≡ [])
  nothing_left [] [] e = (refl, refl)
  nothing_left (c ∷ cs) [] e = cc
  nothing_left [] (d ∷ ds) e = cc
  nothing_left (c ∷ cs) (d ∷ ds) e = by _ _ _ (has_instant (front_of c.span d.span)) (has_instant (front_of d.span c.span)) e
    where
      by : {A R : Type 0} (x y z : A) (a b : Bool) → None ≡ cond {A = Option A} a (Some x) (cond {A = Option A} b (Some y) (Some z)) → R
      by x y z true b e = cc
      by x y z false true e = cc
      by x y z false false e = cc

  module _ (c d : CutOf X) where
    -- the three pieces with which both may begin
    abbrev chosen : Bool → Bool → Option (ShareOf X X)
    chosen a b =
        cond a (Some (record { span = front_of c.span d.span; left = Some c.of; right = None }))
        (cond b (Some (record { span = front_of d.span c.span; left = None; right = Some d.of }))
        (Some (record { span = meet_of c.span d.span; left = Some c.of; right = Some d.of })))

    pub front_left : (s : SpanOf) → s ≡ front_of c.span d.span → has_instant s ≡ true → next_share (c ∷ []) (d ∷ []) ≡ Some (record { span = s; left = Some c.of; right = None })
    front_left s i h =
        ap (λ a. chosen a (has_instant (front_of d.span c.span))) (subst (λ z. has_instant z ≡ true) i h)
        ∙ ap (λ z. Some (record { span = z; left = Some c.of; right = None })) (sym i)

    module _ (n : has_instant (front_of c.span d.span) ≡ false) where
      pub front_right : (s : SpanOf) → s ≡ front_of d.span c.span → has_instant s ≡ true → next_share (c ∷ []) (d ∷ []) ≡ Some (record { span = s; left = None; right = Some d.of })
      front_right s i h =
          ap (λ a. chosen a (has_instant (front_of d.span c.span))) n
          ∙ ap (chosen false) (subst (λ z. has_instant z ≡ true) i h)
          ∙ ap (λ z. Some (record { span = z; left = None; right = Some d.of })) (sym i)

      pub meet_both : has_instant (front_of d.span c.span) ≡ false → (s : SpanOf) → s ≡ meet_of c.span d.span → next_share (c ∷ []) (d ∷ []) ≡ Some (record { span = s; left = Some c.of; right = Some d.of })
      meet_both m s i =
          ap (λ a. chosen a (has_instant (front_of d.span c.span))) n
          ∙ ap (chosen false) m
          ∙ ap (λ z. Some (record { span = z; left = Some c.of; right = Some d.of })) (sym i)

-- after a call that returned the next piece the walk can continue, and fewer pieces are left
pub goes_on : {C : Type 0} (s t : Shares C) (p : Share C) → CanShare s → IsShared s p t → MakesProgress CanShare shares_left s (Some p) t
goes_on s t p can h =
    let step = next_step (rest_of s.lefts) (rest_of s.rights) can.0 can.1 (share_of p) h.next in
    let go : CanShare t = (subst (PiecesAreClear (λ c. c.span)) (sym h.left) step.clear.0, subst (PiecesAreClear (λ c. c.span)) (sym h.right) step.clear.1) in
    let less : most_shares (rest_of t.lefts) (rest_of t.rights) < most_shares (rest_of s.lefts) (rest_of s.rights) = rw (h.left, h.right) (next_fewer (rest_of s.lefts) (rest_of s.rights) (share_of p) h.next) in
    record { on = λ z. (go, tt, less); keeps = go; rests = λ z. tt }
