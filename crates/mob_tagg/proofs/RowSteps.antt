-- Kept tuples one by one: those so far have no fault.
use Rattle.std.{specs.Prelude.{Bool, refl, List, [], ◌∷◌, ◌++◌, Option, Some, None, Result}, proofs.Common.{sym, subst, inl, inr, append_assoc, append-nil}}
use Rattle.mob_slice.proofs.Options.{none_some}
use Rattle.mob_tagg.specs.Rows.{IsTuple, earlier, IsRowFault}

module _ {T I V F : Type 0} (evaluates : T → I → Result V F → Type 0) (adds : I → List V → V → Option F → Type 0) (same_group : T → T → Bool) where
  -- one more tuple after tuples without a fault
  pub none_more : (items : List I) (before ts : List T) (t : T) → IsRowFault evaluates adds same_group items before ts None → IsTuple evaluates adds (earlier same_group (before ++ ts) t) t items None → IsRowFault evaluates adds same_group items before (ts ++ t ∷ []) None
  none_more items before [] t h k = inr (subst (λ z. IsTuple evaluates adds (earlier same_group z t) t items None) (append-nil before) k, refl)
  none_more items before (u ∷ ts) t (inl h) k = none_some (u, h.0) h.2
  none_more items before (u ∷ ts) t (inr h) k = inr (h.0, none_more items (before ++ u ∷ []) ts t h.1 (subst (λ z. IsTuple evaluates adds (earlier same_group z t) t items None) (sym (append_assoc before (u ∷ []) ts)) k))

  -- a tuple with a fault after tuples without one
  pub fault_at : (items : List I) (before ts : List T) (t : T) (rest : List T) (f : F) → IsRowFault evaluates adds same_group items before ts None → IsTuple evaluates adds (earlier same_group (before ++ ts) t) t items (Some f) → IsRowFault evaluates adds same_group items before (ts ++ t ∷ rest) (Some (t, f))
  fault_at items before [] t rest f h k = inl (f, subst (λ z. IsTuple evaluates adds (earlier same_group z t) t items (Some f)) (append-nil before) k, refl)
  fault_at items before (u ∷ ts) t rest f (inl h) k = none_some (u, h.0) h.2
  fault_at items before (u ∷ ts) t rest f (inr h) k = inr (h.0, fault_at items (before ++ u ∷ []) ts t rest f h.1 (subst (λ z. IsTuple evaluates adds (earlier same_group z t) t items (Some f)) (sym (append_assoc before (u ∷ []) ts)) k))
