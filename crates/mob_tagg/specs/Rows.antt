-- The first fault of a grouped query on the tuples that it keeps.
use Rattle.std.{specs.Prelude.{◌≡◌, ◌⊎◌, Bool, List, [], ◌∷◌, ◌++◌, Option, Some, None, filter, Result, Ok, Err}, specs.List.{AllZip}}

-- those of these tuples that are in the group of t; `same_group` says whether two tuples are in the
-- same group
abbrev pub earlier : {T : Type 0} → (T → T → Bool) → List T → T → List T
earlier same_group before t = filter (same_group t) before

-- `evaluates` gives the argument of an item on a tuple, as a value or a fault. `adds` gives the
-- fault, if any, of adding a value of an item to the aggregate of the values before it. NULL is one
-- of the values: an aggregate skips it by itself.
module _ {T I V F : Type 0} (evaluates : T → I → Result V F → Type 0) (adds : I → List V → V → Option F → Type 0) where
  -- the values of the argument of an item on these tuples
  abbrev pub AreValues : List T → I → List V → Type 0
  AreValues group i vs = AllZip (λ t v. evaluates t i (Ok v)) group vs

  -- the value of the argument on a tuple is added to those on the earlier tuples of its group, with
  -- this fault or none
  abbrev pub IsAddedTo : List T → T → I → Option F → Type 0
  IsAddedTo group t i first = (v : V) × evaluates t i (Ok v) × ((vs : List V) × AreValues group i vs × adds i vs v first)

  -- an item on a tuple, after the earlier ones of its group: the fault of its argument, or else
  -- that of the addition, or none
  abbrev pub IsItem : List T → T → I → Option F → Type 0
  IsItem group t i (Some f) = evaluates t i (Err f) ⊎ IsAddedTo group t i (Some f)
  IsItem group t i None = IsAddedTo group t i None

  -- the items of a tuple in order: the first fault, or none
  abbrev pub IsTuple : List T → T → List I → Option F → Type 0
  IsTuple group t [] first = first ≡ None
  IsTuple group t (i ∷ items) first = ((f : F) × IsItem group t i (Some f) × (first ≡ Some f)) ⊎ (IsItem group t i None × IsTuple group t items first)

  -- The kept tuples in order: the first with a fault, and that fault; or none. The tuples of
  -- `before` come before all of them.
  abbrev pub IsRowFault : (T → T → Bool) → List I → List T → List T → Option (T × F) → Type 0
  IsRowFault same_group items before [] first = first ≡ None
  IsRowFault same_group items before (t ∷ ts) first = ((f : F) × IsTuple (earlier same_group before t) t items (Some f) × (first ≡ Some (t, f))) ⊎ (IsTuple (earlier same_group before t) t items None × IsRowFault same_group items (before ++ t ∷ []) ts first)

  -- Adding a value of the item on this kept tuple has this fault: the cause of an error, whether or
  -- not it is the first.
  abbrev pub Adds : (T → T → Bool) → List T → T → I → F → Type 0
  Adds same_group before t i f = IsAddedTo (earlier same_group before t) t i (Some f)
