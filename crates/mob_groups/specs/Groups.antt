-- The groups of a list of entries by their keys.
use Rattle.std.{specs.Prelude.{Bool, cond, not, ℕ, List, [], ◌∷◌, map, filter}, specs.List.{position_or_len}}

-- the keys without those equal to an earlier one, in order
abbrev pub first_keys : {K : Type 0} → (K → K → Bool) → List K → List K
first_keys same [] = []
first_keys same (k ∷ ks) = k ∷ filter (λ j. not (same k j)) (first_keys same ks)

-- the entries of a key, in order
abbrev pub members : {K X : Type 0} → (K → K → Bool) → K → List (K × X) → List X
members same k entries = map (λ e. e.1) (filter (λ e. same k e.0) entries)

-- The groups in the order of their first entries: for each key its entries.
abbrev pub groups_of : {K X : Type 0} → (K → K → Bool) → List (K × X) → List (List X)
groups_of same entries = map (λ k. members same k entries) (first_keys same (map (λ e. e.0) entries))

-- Without keys there is one group of all entries, even if there are none.
abbrev pub groups_by : {K X : Type 0} → Bool → (K → K → Bool) → List (K × X) → List (List X)
groups_by keyed same entries = cond keyed (groups_of same entries) (map (λ e. e.1) entries ∷ [])

-- the number of the group of a key, from 0, in the order of the first entries of the groups
abbrev pub group_number : {K : Type 0} → (K → K → Bool) → List K → K → ℕ
group_number same keys k = position_or_len (same k) (first_keys same keys)
