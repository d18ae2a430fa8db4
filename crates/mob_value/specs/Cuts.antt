-- Rows that one list holds, one after the other.
use Rattle.std.specs.Prelude.{◌≡◌, ◌≤◌, ◌-◌, ℕ, zero, suc, List, [], ◌∷◌, drop, take}

-- The list, cut at these places. They count from a position `start` before its front. Items after
-- the last place are left out.
abbrev pub cut : {A : Type 0} → ℕ → List ℕ → List A → List (List A)
cut start [] items = []
cut start (end ∷ ends) items = take (end - start) items ∷ cut end ends (drop (end - start) items)

-- the places are sorted, from `start` on, and the last one is `end`
abbrev pub AreCuts : ℕ → List ℕ → ℕ → Type 0
AreCuts start [] end = start ≡ end
AreCuts start (place ∷ places) end = (start ≤ place) × AreCuts place places end

-- the place at which the piece with this number begins
abbrev pub start_at : ℕ → List ℕ → ℕ → ℕ
start_at start ends zero = start
start_at start [] (suc number) = start
start_at start (end ∷ ends) (suc number) = start_at end ends number
