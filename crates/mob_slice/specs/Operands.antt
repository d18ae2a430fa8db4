-- Values that change in steps, and operations on two operands that both have a value.
use Rattle.std.specs.Prelude.{◌≡◌, List, [], Option, Some, None, MatchOption}
use Rattle.mob_ratio.specs.Ratio.{Ratio}
use Rattle.mob_slice.{specs.Slices.{value_at}, specs.declared.slice.Slice.{Slice}, specs.declared.steady.Steady.{Steady}}

-- the one value of a steady course, at every instant and at both ends
abbrev pub steady_value : {B : Type 0} → Steady B → Ratio → Ratio → Ratio → B
steady_value c lower upper t = c.value

abbrev pub steady_limit : {B : Type 0} → Steady B → B
steady_limit c = c.value

-- and no formula
abbrev pub steady_parts : {B : Type 0} → Steady B → Ratio → Ratio → Ratio → List Ratio
steady_parts c lower upper t = []

-- the operation on two values, if both exist
abbrev pub map_both : {X Y Z : Type 0} → (X → Y → Z) → Option X → Option Y → Option Z
map_both f None y = None
map_both f (Some x) None = None
map_both f (Some x) (Some y) = Some (f x y)

-- At each instant, the value of an operator is the operation on the two operands. The result is
-- none exactly if at no instant both have a value. `value` is that of the course of the result.
abbrev pub IsPointwise : {C X Y Z : Type 0} → (C → Ratio → Ratio → Ratio → Z) → (X → Y → Z) → (Ratio → Option X) → (Ratio → Option Y) → Option (List (Slice C)) → Type 0
IsPointwise value op left right r = MatchOption r ((t : Ratio) → map_both op (left t) (right t) ≡ None) (λ v. (t : Ratio) → value_at value v t ≡ map_both op (left t) (right t))
