-- The first fault of a grouped query is on one of the tuples, in one of its columns.
use Rattle.std.{specs.List.{Contains}, specs.Prelude.{Bool, List, [], ◌∷◌, ◌++◌, Option, Some, Result}, proofs.Common.{◌≡◌, sym, subst, inl, inr, refl, append_assoc}, proofs.lemmas.Option.{none-some, same_Some}}
use Rattle.mob_list.proofs.Entries.{first_in, later_in}
use Rattle.mob_tagg.specs.Rows.{IsItem, IsTuple, earlier, IsRowFault}

module _ {T I V F : Type 0} (evaluates : T → I → Result V F → Type 0) (adds : I → List V → V → Option F → Type 0) (same_group : T → T → Bool) (items : List I) where
  -- the item with the first fault of a tuple
  abbrev FailsIn : List T → T → F → List I → Type 0
  FailsIn group t f among = (i : I) × Contains among i × IsItem evaluates adds group t i (Some f)

  item_fails : (group : List T) (t : T) (f : F) (among : List I) → IsTuple evaluates adds group t among (Some f) → FailsIn group t f among
  item_fails group t f [] h = absurd (none-some f (sym h))
  item_fails group t f (i ∷ among) (inl h) = (i, first_in i among, subst (λ g. IsItem evaluates adds group t i (Some g)) (sym (same_Some f h.0 h.2)) h.1)
  item_fails group t f (i ∷ among) (inr h) = let later = item_fails group t f among h.1 in (later.0, later_in i among later.0 later.1, later.2)

  -- a fault in an item of a tuple, with those before it
  pub record FailsAt (all : List T) (at : T × F) : Type 0 where
    pub before : List T
    pub behind : List T
    pub in_order : all ≡ before ++ at.0 ∷ behind
    pub item : I
    pub stands : Contains items item
    pub fails : IsItem evaluates adds (earlier same_group before at.0) at.0 item (Some at.1)

  pub tuple_fails : (before ts : List T) (at : T × F) → IsRowFault evaluates adds same_group items before ts (Some at) → FailsAt (before ++ ts) at
  tuple_fails before [] at h = absurd (none-some at (sym h))
  tuple_fails before (t ∷ ts) at (inl h) =
      let own = item_fails (earlier same_group before t) t h.0 items h.1 in
      subst (FailsAt (before ++ t ∷ ts)) (sym (same_Some at (t, h.0) h.2)) (record { before = before; behind = ts; in_order = refl; item = own.0; stands = own.1; fails = own.2 })
  tuple_fails before (t ∷ ts) at (inr h) = subst (λ all. FailsAt all at) (append_assoc before (t ∷ []) ts) (tuple_fails (before ++ t ∷ []) ts at h.1)
