-- Whether a comparison holds at some instant at which two operands both have a value, or at every
-- such instant.
use Rattle.std.specs.Prelude.{◌≡◌, ◌↔◌, Bool, true, ◌||◌, Option, Some, None, ⊤}
use Rattle.mob_ratio.specs.Ratio.{Ratio}

-- at some instant both have a value, and P holds for the two
abbrev pub IsSometime : {X Y : Type 0} → (X → Y → Type 0) → (Ratio → Option X) → (Ratio → Option Y) → Type 0
IsSometime {X} {Y} P left right = (t : Ratio) × (x : X) × (y : Y) × (left t ≡ Some x) × (right t ≡ Some y) × P x y

-- at some instant both have a value
abbrev pub HaveCommon : {X Y : Type 0} → (Ratio → Option X) → (Ratio → Option Y) → Type 0
HaveCommon left right = IsSometime (λ x y. ⊤) left right

-- The answer is true exactly if the comparison holds at some common instant. It is None exactly if
-- no instant is common.
abbrev pub IsEver : {X Y : Type 0} → (X → Y → Bool) → (Ratio → Option X) → (Ratio → Option Y) → Option Bool → Type 0
IsEver op left right None = HaveCommon left right → ⊥
IsEver op left right (Some b) = HaveCommon left right × ((b ≡ true) ↔ IsSometime (λ x y. op x y ≡ true) left right)

-- The answer is true exactly if the comparison holds at every common instant. It is None exactly if
-- no instant is common.
abbrev pub IsAlways : {X Y : Type 0} → (X → Y → Bool) → (Ratio → Option X) → (Ratio → Option Y) → Option Bool → Type 0
IsAlways op left right None = HaveCommon left right → ⊥
IsAlways {X} {Y} op left right (Some b) = HaveCommon left right × ((b ≡ true) ↔ ((t : Ratio) (x : X) (y : Y) → left t ≡ Some x → right t ≡ Some y → op x y ≡ true))

-- the answer so far, or the answer of one more piece
abbrev pub either : Option Bool → Bool → Bool
either None b = b
either (Some a) b = a || b
