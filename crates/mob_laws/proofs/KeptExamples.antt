-- A worked example of the tuples that a query keeps. Two tables have two rows each, and the second
-- is left-joined. ON is true for the row 1 of the first table with the row 0 of the second, and for
-- no others; WHERE is true if the row of the first table is 0. The tuples are (0, no row) and (1,
-- 0), and the first of them is kept.
use Rattle.std.specs.List.{Contains}
use Rattle.std.proofs.Common.{◌≡◌, ◌∙◌, ◌==◌, ◌&&◌, arith, inl, inr, refl, sym, ap, subst, get_or, zero, suc, ℕ, true, Option, Some, None, List, [], ◌∷◌, ◌++◌, slice_get, take}
use Rattle.mob_list.proofs.Entries.{first_in, later_in, none_in, which_in}
use Rattle.mob_tuples.{specs.Tuples.{no_row}, specs.Visits.{Conditions, Meeting, on_at}}
use Rattle.mob_join.specs.KeptTuples.{AreThoseThatMeet, IsEntryOf, IsTupleOfFrom}

abbrev second_joined : Conditions
second_joined = record { joined = λ place. place == 1; filtered = true }

abbrev IsTrue : Option ℕ → List ℕ → Type 0
IsTrue None tuple = get_or tuple 0 9 ≡ 0
IsTrue (Some place) tuple = (get_or tuple 0 9 == 1 && get_or tuple 1 9 == 0) ≡ true

abbrev met : Meeting
met visit = IsTrue visit.on visit.tuple

abbrev two : ℕ → List ℕ
two table = 0 ∷ 1 ∷ []

abbrev IsPair : List ℕ → Type 0
IsPair tuple = IsTupleOfFrom second_joined met two (7 ∷ 8 ∷ []) tuple

-- the row 0 of the first table has no row of the second
alone : IsPair (0 ∷ no_row ∷ [])
alone = record { count = refl; entries = entries }
  where
    entries : (place table entry : ℕ) → slice_get (7 ∷ 8 ∷ []) place ≡ Some table → slice_get (0 ∷ no_row ∷ []) place ≡ Some entry → IsEntryOf (place == 1) (λ row. met (on_at place (take place (0 ∷ no_row ∷ []) ++ row ∷ []))) (0 ∷ 1 ∷ []) entry
    entries zero table entry t e = subst (Contains (0 ∷ 1 ∷ [])) (cc e) (first_in 0 (1 ∷ []))
    entries (suc zero) table entry t e = let same : entry ≡ no_row = cc e in inr (same, λ row stands hit. absurd (cc hit))
    entries (suc (suc place)) table entry t e = absurd (cc t)

-- and the row 1 with the row 0
joined : IsPair (1 ∷ 0 ∷ [])
joined = record { count = refl; entries = entries }
  where
    entries : (place table entry : ℕ) → slice_get (7 ∷ 8 ∷ []) place ≡ Some table → slice_get (1 ∷ 0 ∷ []) place ≡ Some entry → IsEntryOf (place == 1) (λ row. met (on_at place (take place (1 ∷ 0 ∷ []) ++ row ∷ []))) (0 ∷ 1 ∷ []) entry
    entries zero table entry t e = subst (Contains (0 ∷ 1 ∷ [])) (cc e) (later_in 0 (1 ∷ []) 1 (first_in 1 []))
    entries (suc zero) table entry t e = let same : 0 ≡ entry = cc e in subst (λ z. IsEntryOf true (λ row. met (on_at 1 (1 ∷ row ∷ []))) (0 ∷ 1 ∷ []) z) same (inl (first_in 0 (1 ∷ []), refl))
    entries (suc (suc place)) table entry t e = absurd (cc t)

-- a tuple whose first row is 0 has no row of the second table
only : (tuple : List ℕ) → IsPair tuple → get_or tuple 0 9 ≡ 0 → tuple ≡ 0 ∷ no_row ∷ []
only [] h first = absurd (omega (arith, h.count))
only (x ∷ []) h first = absurd (omega (arith, h.count))
only (x ∷ y ∷ z ∷ tuple) h first = absurd (omega (arith, h.count))
only (x ∷ y ∷ []) h first = by (h.entries 1 8 y refl refl)
  where
    by : IsEntryOf true (λ row. met (on_at 1 (x ∷ row ∷ []))) (0 ∷ 1 ∷ []) y → (x ∷ y ∷ []) ≡ 0 ∷ no_row ∷ []
    by (inl k) = let none = subst (λ z. (z == 1 && y == 0) ≡ true) first k.1 in absurd (cc none)
    by (inr k) = ap (λ z. z ∷ y ∷ []) first ∙ ap (λ z. 0 ∷ z ∷ []) k.0

kept : AreThoseThatMeet second_joined met two (7 ∷ 8 ∷ []) ((0 ∷ no_row ∷ []) ∷ [])
kept = record {
  tuples = λ tuple. (
    λ among. elim (which_in (0 ∷ no_row ∷ []) [] tuple among) [
      | inl e ↦ subst (λ z. IsPair z × (get_or z 0 9 ≡ 0)) e (alone, refl)
      | inr k ↦ absurd (none_in tuple k)
    ],
    λ meets. subst (Contains ((0 ∷ no_row ∷ []) ∷ [])) (sym (only tuple meets.0 meets.1)) (first_in (0 ∷ no_row ∷ []) []),
  );
  rising = (tt, tt);
}
