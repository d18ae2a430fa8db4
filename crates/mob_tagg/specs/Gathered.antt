-- Values united two by two.
use Rattle.std.specs.Prelude.{◌≡◌, List, [], ◌∷◌, Option, Some, None}
use Rattle.mob_ratio.specs.Ratio.{Ratio}
use Rattle.mob_slice.{specs.Slices.{value_at}, specs.declared.slice.Slice.{Slice}}
use Rattle.mob_tagg.{specs.United.{united_by}, specs.declared.parts.Part.{Part}}

abbrev pub IsAssociative : {B : Type 0} → (B → B → B) → Type 0
IsAssociative {B} op = (x y z : B) → op (op x y) z ≡ op x (op y z)

-- all values that exist, united from the front
abbrev pub united_all : {B : Type 0} → (B → B → B) → List (Option B) → Option B
united_all op [] = None
united_all op (o ∷ os) = united_by op o (united_all op os)

-- the values of the parts at the instant t, in order
abbrev pub gathered_parts : {C B : Type 0} → (C → Ratio → Ratio → Ratio → B) → List (Part C B) → Ratio → List (Option B)
gathered_parts value [] t = []
gathered_parts value (p ∷ ps) t = value_at value p.value t ∷ gathered_parts value ps t

-- and their union
abbrev pub united_parts : {C B : Type 0} → (B → B → B) → (C → Ratio → Ratio → Ratio → B) → List (Part C B) → Ratio → Option B
united_parts op value ps t = united_all op (gathered_parts value ps t)

abbrev pub whole_at : {C B : Type 0} → (C → Ratio → Ratio → Ratio → B) → Option (List (Slice C)) → Ratio → Option B
whole_at value None t = None
whole_at value (Some v) t = value_at value v t
