-- The tuples that a query keeps, on which the SELECTs and the DELETEs of a run work: the tuples of
-- rows for which WHERE is true.
use Rattle.std.{specs.Prelude.{◌≡◌, ℕ, List, Some, Ok, slice_get}, specs.List.{AllByRecursion}}
use Rattle.mob_typed.{specs.Selects.{TypedSelectParts}, specs.Statements.{deletion, query}}
use Rattle.mob_catalog.specs.Catalogue.{Catalogue, with_deleted}
use Rattle.mob_join.{specs.Deleted.{first_rows}, specs.Query.{AreTuplesThatMeet, FailsOn, IsKept, IsMetAt, conditions}, specs.TypedFor.{IsTypedFor}}
use Rattle.mob_plan.specs.Plans.{planned}
use Rattle.mob_probes.specs.Rows.{StepGives}
use Rattle.mob_tuples.{specs.Kept.{AreClean}, specs.Ranges.{AreAllVisits}}
use Rattle.mob_records.specs.AnswerText.{answer_text}
use Rattle.mob_tail.{specs.Answers.{IsAnswerOnKept}, specs.AnswerTexts.{answer_names}}
use Rattle.mob_arguments.specs.declared.options.Settings.{Settings}
use Rattle.mob_shell.{specs.Deletes.{IsDeleted, deleted_table}, specs.Inputs.{Input}, specs.Program.{WritesFirst}, specs.ReadAsStored.{IsLiveTuple}, specs.Runs.{StatementWrites}}
use Rattle.mob_meaning.specs.declared.terms.Terms.{Terms}
use Rattle.mob_shell.specs.Terms.{terms_of}

-- A query keeps exactly the tuples of its tables for which WHERE is true, each once, in order:
-- `AreThoseThatMeet` of mob_join says it tuple by tuple, and entry by entry.
abbrev pub KeptTuplesMeet : Type 0
KeptTuplesMeet = (q : TypedSelectParts) (c : Catalogue) (terms : Terms) (kept : List (List ℕ)) → IsKept q c terms (Ok kept) → AreTuplesThatMeet q c terms kept

-- And a query that is typed for the tables, as each query of a run is, keeps these if no visit of
-- its plan has a fault.
abbrev pub TuplesThatMeetAreKept : Type 0
TuplesThatMeetAreKept = (q : TypedSelectParts) (c : Catalogue) (terms : Terms) (kept : List (List ℕ)) → IsTypedFor c q → AreTuplesThatMeet q c terms kept
    → AreClean (FailsOn q c terms) (AreAllVisits (conditions q) (IsMetAt q c terms) (StepGives c q.from terms) (planned q c.indexed)) → IsKept q c terms (Ok kept)

-- There is one such list.
abbrev pub TuplesThatMeetAreOneList : Type 0
TuplesThatMeetAreOneList = (q : TypedSelectParts) (c : Catalogue) (terms : Terms) (kept others : List (List ℕ)) → AreTuplesThatMeet q c terms kept → AreTuplesThatMeet q c terms others → kept ≡ others

-- Each of them consists of live rows. So what holds for the expressions of a query on such tuples,
-- for example that they read each value as it is stored, holds for them on each kept tuple.
abbrev pub KeptTuplesAreLive : Type 0
KeptTuplesAreLive = (q : TypedSelectParts) (c : Catalogue) (terms : Terms) (kept : List (List ℕ)) → IsKept q c terms (Ok kept) → AllByRecursion (IsLiveTuple c q.joins q.from) kept

-- The next SELECT of a run writes its answer on the tuples of its tables, as they are then, for
-- which WHERE is true.
abbrev pub SelectsAnswerOnTuples : Type 0
SelectsAnswerOnTuples = (settings : Settings) (input : Input) (count : ℕ) (text : List ℕ) (run : WritesFirst settings input count text) (q : TypedSelectParts) (answer : List ℕ)
    → slice_get run.out.statements count ≡ Some (query q) → StatementWrites (terms_of settings) run.stands (query q) answer
    → (kept : List (List ℕ)) × (rows : List (List (List ℕ))) × AreTuplesThatMeet q run.stands.catalogue (terms_of settings) kept × IsAnswerOnKept q run.stands.catalogue.store (terms_of settings) kept (Ok rows)
    × (answer ≡ answer_text (answer_names q) rows)

-- The next DELETE of a run removes the rows of such tuples, and changes nothing else.
abbrev pub DeletesTakeTuples : Type 0
DeletesTakeTuples = (settings : Settings) (input : Input) (count : ℕ) (text : List ℕ) (run : WritesFirst settings input count text) (q : TypedSelectParts) (left : Catalogue)
    → slice_get run.out.statements count ≡ Some (deletion q) → IsDeleted q run.stands.catalogue (terms_of settings) left
    → (kept : List (List ℕ)) × AreTuplesThatMeet q run.stands.catalogue (terms_of settings) kept × (left ≡ with_deleted (deleted_table q) (first_rows kept) run.stands.catalogue)
