-- Kept tuples consist of live rows.
use Rattle.std.{specs.Prelude.{Option, is_some}, proofs.Common.{◌≡◌, ◌+◌, arith, inl, inr, refl, subst, suc, ℕ, Bool, true, false, List, [], ◌∷◌, Some, length, slice_get}}
use Rattle.mob_list.proofs.Entries.{all_by_each}
use Rattle.mob_typed.{specs.Selects.{TypedSelectParts, on_of}, specs.Trees.{TypedTree}}
use Rattle.mob_catalog.specs.Catalogue.{Catalogue, live_rows}
use Rattle.mob_join.{specs.KeptTuples.{IsEntryOf}, specs.Query.{IsTupleOf}}
use Rattle.mob_shell.specs.ReadAsStored.{AreLiveRows, IsLiveRow, IsLiveTuple}
use Rattle.mob_laws.specs.KeptTuples.{KeptTuplesAreLive}
use Rattle.mob_meaning.specs.declared.terms.Terms.{Terms}

-- an entry of a tuple is a live row, or no row of a left-joined table
entry_live : (c : Catalogue) (joins : List (Option TypedTree)) (place table entry : ℕ) (OnIsTrue : ℕ → Type 0) → IsEntryOf (is_some (on_of joins place)) OnIsTrue (live_rows c table) entry → IsLiveRow c joins place table entry
entry_live c joins place table entry OnIsTrue h = by (is_some (on_of joins place)) refl h
  where
    by : (b : Bool) → is_some (on_of joins place) ≡ b → IsEntryOf b OnIsTrue (live_rows c table) entry → IsLiveRow c joins place table entry
    by false is h = inl h
    by true is (inl h) = inl h.0
    by true is (inr h) = inr (is, h.0)

rows_live : (c : Catalogue) (joins : List (Option TypedTree)) (first : ℕ) (tables entries : List ℕ) → length entries ≡ length tables
    → ((place table entry : ℕ) → slice_get tables place ≡ Some table → slice_get entries place ≡ Some entry → IsLiveRow c joins (first + place) table entry) → AreLiveRows c joins first tables entries
rows_live c joins first [] [] n h = tt
rows_live c joins first [] (e ∷ entries) n h = absurd (omega (arith, n))
rows_live c joins first (t ∷ tables) [] n h = absurd (omega (arith, n))
rows_live c joins first (t ∷ tables) (e ∷ entries) n h = (
  subst (λ k. IsLiveRow c joins k t e) here (h 0 t e refl refl),
  rows_live c joins (first + 1) tables entries (omega (arith, n)) (λ place table entry at is. subst (λ k. IsLiveRow c joins k table entry) (behind place) (h (suc place) table entry at is)),
)
  where
    here : first + 0 ≡ first
    here = omega arith

    behind : (place : ℕ) → first + suc place ≡ (first + 1) + place
    behind place = omega arith

tuple_live : (q : TypedSelectParts) (c : Catalogue) (terms : Terms) (tuple : List ℕ) → IsTupleOf q c terms tuple → IsLiveTuple c q.joins q.from tuple
tuple_live q c terms tuple h = rows_live c q.joins 0 q.from tuple h.count (λ place table entry at is. subst (λ k. IsLiveRow c q.joins k table entry) (counted place) (entry_live c q.joins place table entry _ (h.entries place table entry at is)))
  where
    counted : (place : ℕ) → place ≡ 0 + place
    counted place = omega arith

pub kept_live : KeptTuplesAreLive
kept_live q c terms kept h = all_by_each (IsLiveTuple c q.joins q.from) kept (λ tuple among. tuple_live q c terms tuple ((h.1.tuples tuple).0 among).0)
