-- Kept tuples have one first fault, or none.
use Rattle.std.{specs.List.{AllZip}, specs.Prelude.{◌≡◌, Bool, refl, List, [], ◌∷◌, ◌++◌, Option, Some, None, Result, Ok, Err}, proofs.Common.{ap, ap₂, sym, ◌∙◌, subst, inl, inr}}
use Rattle.std.proofs.lemmas.Option.{same_Some}
use Rattle.mob_slice.proofs.Options.{none_some}
use Rattle.mob_tagg.specs.Rows.{IsAddedTo, IsItem, IsTuple, earlier, IsRowFault}

module _ {T I V F : Type 0} (evaluates : T → I → Result V F → Type 0) (adds : I → List V → V → Option F → Type 0)
    (one_value : (t : T) (i : I) (r s : Result V F) → evaluates t i r → evaluates t i s → r ≡ s)
    (one_adding : (i : I) (ws : List V) (v : V) (f g : Option F) → adds i ws v f → adds i ws v g → f ≡ g) where
  abbrev the_ok : V → Result V F
  the_ok v = Ok v

  abbrev the_err : F → Result V F
  the_err f = Err f

  ok_same : (v w : V) → the_ok v ≡ the_ok w → v ≡ w
  ok_same v w e = cc

  err_same : (f g : F) → the_err f ≡ the_err g → f ≡ g
  err_same f g e = cc

  ok_err : {R : Type 0} (v : V) (f : F) → the_ok v ≡ the_err f → R
  ok_err v f e = cc

  one_made : (i : I) (ts : List T) (xs ys : List V) → AllZip (λ s v. evaluates s i (Ok v)) ts xs → AllZip (λ s v. evaluates s i (Ok v)) ts ys → xs ≡ ys
  one_made i [] [] [] h k = refl
  one_made i [] [] (y ∷ ys) h k = absurd k
  one_made i [] (x ∷ xs) ys h k = absurd h
  one_made i (t ∷ ts) [] ys h k = absurd h
  one_made i (t ∷ ts) (x ∷ xs) [] h k = absurd k
  one_made i (t ∷ ts) (x ∷ xs) (y ∷ ys) h k = ap₂ (λ a b. a ∷ b) (ok_same x y (one_value t i (Ok x) (Ok y) h.0 k.0)) (one_made i ts xs ys h.1 k.1)

  one_added : (group : List T) (t : T) (i : I) (o p : Option F) → IsAddedTo evaluates adds group t i o → IsAddedTo evaluates adds group t i p → o ≡ p
  one_added group t i o p h k =
      let v = ok_same h.0 k.0 (one_value t i (Ok h.0) (Ok k.0) h.1 k.1) in
      let ws = one_made i group h.2.0 k.2.0 h.2.1 k.2.1 in
      one_adding i k.2.0 k.0 o p (subst (λ z. adds i z k.0 o) ws (subst (λ z. adds i h.2.0 z o) v h.2.2)) k.2.2

  one_item : (group : List T) (t : T) (i : I) (o p : Option F) → IsItem evaluates adds group t i o → IsItem evaluates adds group t i p → o ≡ p
  one_item group t i (Some f) (Some g) (inl h) (inl k) = ap Some (err_same f g (one_value t i (Err f) (Err g) h k))
  one_item group t i (Some f) (Some g) (inl h) (inr k) = ok_err k.0 f (one_value t i (Ok k.0) (Err f) k.1 h)
  one_item group t i (Some f) (Some g) (inr h) (inl k) = ok_err h.0 g (one_value t i (Ok h.0) (Err g) h.1 k)
  one_item group t i (Some f) (Some g) (inr h) (inr k) = one_added group t i (Some f) (Some g) h k
  one_item group t i (Some f) None (inl h) k = ok_err k.0 f (one_value t i (Ok k.0) (Err f) k.1 h)
  one_item group t i (Some f) None (inr h) k = one_added group t i (Some f) None h k
  one_item group t i None (Some g) h (inl k) = ok_err h.0 g (one_value t i (Ok h.0) (Err g) h.1 k)
  one_item group t i None (Some g) h (inr k) = one_added group t i None (Some g) h k
  one_item group t i None None h k = refl

  one_tuple : (group : List T) (t : T) (items : List I) (o p : Option F) → IsTuple evaluates adds group t items o → IsTuple evaluates adds group t items p → o ≡ p
  one_tuple group t [] o p h k = h ∙ sym k
  one_tuple group t (i ∷ items) o p (inl h) (inl k) = h.2 ∙ one_item group t i (Some h.0) (Some k.0) h.1 k.1 ∙ sym k.2
  one_tuple group t (i ∷ items) o p (inl h) (inr k) = none_some h.0 (one_item group t i None (Some h.0) k.0 h.1)
  one_tuple group t (i ∷ items) o p (inr h) (inl k) = none_some k.0 (one_item group t i None (Some k.0) h.0 k.1)
  one_tuple group t (i ∷ items) o p (inr h) (inr k) = one_tuple group t items o p h.1 k.1

  pub one_row_fault : (same_group : T → T → Bool) (items : List I) (before ts : List T) (o p : Option (T × F)) → IsRowFault evaluates adds same_group items before ts o → IsRowFault evaluates adds same_group items before ts p → o ≡ p
  one_row_fault same_group items before [] o p h k = h ∙ sym k
  one_row_fault same_group items before (t ∷ ts) o p (inl h) (inl k) = h.2 ∙ ap (λ z. Some (t, z)) (same_Some h.0 k.0 (one_tuple (earlier same_group before t) t items (Some h.0) (Some k.0) h.1 k.1)) ∙ sym k.2
  one_row_fault same_group items before (t ∷ ts) o p (inl h) (inr k) = none_some h.0 (one_tuple (earlier same_group before t) t items None (Some h.0) k.0 h.1)
  one_row_fault same_group items before (t ∷ ts) o p (inr h) (inl k) = none_some k.0 (one_tuple (earlier same_group before t) t items None (Some k.0) h.0 k.1)
  one_row_fault same_group items before (t ∷ ts) o p (inr h) (inr k) = one_row_fault same_group items (before ++ t ∷ []) ts o p h.1 k.1
