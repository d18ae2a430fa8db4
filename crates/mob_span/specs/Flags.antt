-- Equality of booleans, such as the inclusion flags of spans.
use Rattle.std.{specs.Prelude.{◌≡◌, Bool, true, false, IsTrue, ◌↔◌, refl, not}, proofs.Common.{sym}}

-- two booleans are equal
abbrev pub same_bool : Bool → Bool → Bool
same_bool true b = b
same_bool false b = not b

pub same_bool_exact : (a b : Bool) → IsTrue (same_bool a b) ↔ (a ≡ b)
same_bool_exact true true = (λ h. refl, λ h. refl)
same_bool_exact true false = (λ h. sym h, λ h. sym h)
same_bool_exact false true = (λ h. h, λ h. cc)
same_bool_exact false false = (λ h. refl, λ h. refl)
