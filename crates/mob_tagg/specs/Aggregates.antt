-- The aggregate of a list of temporal values, instant by instant.
use Rattle.std.{specs.Prelude.{◌≡◌, Bool, pos, List, [], ◌∷◌, ◌++◌, length, Option, Some, None, MatchOption}, specs.List.{list_any, list_all}}
use Rattle.mob_ratio.specs.Ratio.{Ratio, whole, ◌+ℚ◌}
use Rattle.mob_slice.{specs.Slices.{value_at, IsNormal}, specs.declared.slice.Slice.{Slice}}
use Rattle.mob_tagg.specs.United.{AreUnited}

-- the values of a list of options that exist, in order
abbrev pub put_there : {B : Type 0} → Option B → List B → List B
put_there None xs = xs
put_there (Some x) xs = x ∷ xs

-- The values of a list at the instant t, in order, without those that are undefined there. `there`
-- gives a value at an instant.
abbrev pub values_at : {V B : Type 0} → (V → Ratio → Option B) → List V → Ratio → List B
values_at there [] t = []
values_at there (v ∷ vs) t = put_there (there v t) (values_at there vs t)

-- f of a list of values, if it is not empty
abbrev pub made_of : {B Z : Type 0} → (List B → Z) → List B → Option Z
made_of f [] = None
made_of f (x ∷ xs) = Some (f (x ∷ xs))

-- The aggregate f of a list of values over time. At each instant it is undefined if no value of the
-- list is defined there, and otherwise f of those that are. It is None exactly if no instant is
-- left. `result`, `start`, `end` and `continues` are those of the course of the result, which is
-- the normal one.
abbrev pub IsAggregate : {V B D Z : Type 0} → (V → Ratio → Option B) → (D → Ratio → Ratio → Ratio → Z) → (D → Z) → (D → Z) → (D → D → Ratio → Ratio → Ratio → Bool) → (List B → Z) → List V → Option (List (Slice D)) → Type 0
IsAggregate there result start end continues f vs r = MatchOption r ((t : Ratio) → values_at there vs t ≡ []) (λ w. IsNormal start end continues w × ((t : Ratio) → value_at result w t ≡ made_of f (values_at there vs t)))

-- the sum of numbers
abbrev pub total : List Ratio → Ratio
total [] = whole (pos 0)
total (x ∷ xs) = x +ℚ total xs

-- the number of values
abbrev pub count : {B : Type 0} → List B → Ratio
count xs = whole (pos (length xs))

-- all values are true, and at least one is
abbrev pub all_hold : List Bool → Bool
all_hold xs = list_all (λ x. x) xs

abbrev pub some_holds : List Bool → Bool
some_holds xs = list_any (λ x. x) xs

-- f of two concatenated lists is the operation on f of each, if neither is empty
abbrev pub JoinsBy : {B Z : Type 0} → (Z → Z → Z) → (List B → Z) → Type 0
JoinsBy {B} op f = (x : B) (xs : List B) (y : B) (ys : List B) → f ((x ∷ xs) ++ y ∷ ys) ≡ op (f (x ∷ xs)) (f (y ∷ ys))

-- The aggregates of two lists, united by such an operation, are the aggregate of both. A fold is
-- the case of a single value in the second list; any tree works too.
abbrev pub AggregatesJoin : {V B D Z : Type 0} → (V → Ratio → Option B) → (D → Ratio → Ratio → Ratio → Z) → (D → Z) → (D → Z) → (D → D → Ratio → Ratio → Ratio → Bool) → Type 0
AggregatesJoin {V} {B} {D} {Z} there result start end continues = (op : Z → Z → Z) (f : List B → Z) → JoinsBy op f → (vs ws : List V) (r s u : List (Slice D)) → IsAggregate there result start end continues f vs (Some r) → IsAggregate there result start end continues f ws (Some s) → IsNormal start end continues u → AreUnited result op r s u → IsAggregate there result start end continues f (vs ++ ws) (Some u)

-- a list has one aggregate, or none
abbrev pub OneAggregate : {V B D Z : Type 0} → (V → Ratio → Option B) → (D → Ratio → Ratio → Ratio → Z) → (D → Z) → (D → Z) → (D → D → Ratio → Ratio → Ratio → Bool) → Type 0
OneAggregate {V} {B} {D} {Z} there result start end continues = (f : List B → Z) (vs : List V) (r s : Option (List (Slice D))) → IsAggregate there result start end continues f vs r → IsAggregate there result start end continues f vs s → r ≡ s
