-- A query is grouped by the values of its columns of GROUP BY.
use Rattle.std.{specs.Prelude.{◌≡◌, ◌↔◌, ℕ, List, Some, true, slice_get}, specs.List.{AllByRecursion}}
use Rattle.mob_typed.{specs.Selects.{TypedSelectParts}, specs.Statements.{query}}
use Rattle.mob_catalog.specs.Catalogue.{Catalogue}
use Rattle.mob_join.specs.TypedFor.{IsTypedFor}
use Rattle.mob_tail.{specs.Groups.{same_group}, specs.GroupLaws.{HasSameValue}}
use Rattle.mob_arguments.specs.declared.options.Settings.{Settings}
use Rattle.mob_shell.{specs.Inputs.{Input}, specs.Program.{WritesFirst}, specs.ReadAsStored.{IsLiveTuple}}
use Rattle.mob_meaning.specs.declared.terms.Terms.{Terms}
use Rattle.mob_shell.specs.Terms.{terms_of}

-- two tuples are in one group exactly if each column of GROUP BY has the same value on both, where
-- NULL equals NULL
abbrev pub IsGroupedByValues : Catalogue → TypedSelectParts → Terms → List ℕ → List ℕ → Type 0
IsGroupedByValues c q terms t u = (same_group q c.store terms t u ≡ true) ↔ AllByRecursion (HasSameValue q c.store terms t u) q.groups

-- This holds for rows of the tables of a catalogue for which the query is typed.
abbrev pub TypedQueriesGroupByValues : Type 0
TypedQueriesGroupByValues = (c : Catalogue) (q : TypedSelectParts) (terms : Terms) (t u : List ℕ) → IsTypedFor c q → IsLiveTuple c q.joins q.from t → IsLiveTuple c q.joins q.from u → IsGroupedByValues c q terms t u

-- It holds for the next query of a run.
abbrev pub QueriesGroupByValues : Type 0
QueriesGroupByValues = (settings : Settings) (input : Input) (count : ℕ) (text : List ℕ) (run : WritesFirst settings input count text) (q : TypedSelectParts) (t u : List ℕ)
    → slice_get run.out.statements count ≡ Some (query q) → IsLiveTuple run.stands.catalogue q.joins q.from t → IsLiveTuple run.stands.catalogue q.joins q.from u → IsGroupedByValues run.stands.catalogue q (terms_of settings) t u
