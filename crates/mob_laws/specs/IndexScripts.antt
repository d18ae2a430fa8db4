-- Scripts that differ in CREATE INDEX statements, and their answers.
use Rattle.std.{specs.Prelude.{◌≡◌, ℕ, List, [], ◌∷◌, ◌++◌, Bool, map, option_map}, specs.List.{AllByRecursion, concat, flat_map}}
use Rattle.mob_typed.{specs.declared.typed.Agg.{Agg}, specs.declared.typed.ConstText.{ConstText}, specs.Trees.{TypedTree, typed, TypedTrees, none, more}, specs.Selects.{Output, TypedSelectParts}}
use Rattle.mob_typed.specs.Statements.{ScriptOut, StatementOut, nothing, new_table, new_index, new_rows, rows_from, deletion, query, plan_of}
use Rattle.mob_arguments.specs.declared.options.Settings.{Settings}
use Rattle.mob_accept.specs.Accepts.{IsAccepted}
use Rattle.mob_load.specs.declared.program.Program.{Program}
use Rattle.mob_shell.{specs.Inputs.{Input}, specs.Program.{IsProgram, ProgramWrites}, specs.Runs.{RunState, RunsStatement, begin}, specs.SameAnswers.{DifferInWorkers}}
use Rattle.mob_meaning.specs.declared.terms.Terms.{Terms}
use Rattle.mob_shell.specs.Terms.{terms_of}

-- ---- without places

-- an expression with 0 for the place of each operator
abbrev mutual
  pub unplaced : TypedTree → TypedTree
  unplaced (typed o ty place args) = typed o ty 0 (all_unplaced args)

  pub all_unplaced : TypedTrees → TypedTrees
  all_unplaced none = none
  all_unplaced (more e es) = more (unplaced e) (all_unplaced es)

abbrev pub unplaced_output : Output → Output
unplaced_output o = (unplaced o.0, o.1)

abbrev pub unplaced_key : TypedTree × Bool → TypedTree × Bool
unplaced_key k = (unplaced k.0, k.1)

abbrev pub unplaced_aggregate : Agg → Agg
unplaced_aggregate a = record a { place = 0 }

-- a SELECT with 0 for each place in it
abbrev pub unplaced_select : TypedSelectParts → TypedSelectParts
unplaced_select q = record q {
  items = map unplaced_output q.items;
  joins = map (option_map unplaced) q.joins;
  cond = option_map unplaced q.cond;
  groups = map unplaced q.groups;
  aggs = map (option_map unplaced_aggregate) q.aggs;
  keys = map unplaced_key q.keys;
}

-- a statement with 0 for each place in it
abbrev pub unplaced_statement : StatementOut → StatementOut
unplaced_statement nothing = nothing
unplaced_statement (new_table t name columns) = new_table t name columns
unplaced_statement (new_index t c name) = new_index t c name
unplaced_statement (new_rows t rows places) = new_rows t rows (map (λ place. 0) places)
unplaced_statement (rows_from t name) = rows_from t name
unplaced_statement (deletion q) = deletion (unplaced_select q)
unplaced_statement (query q) = query (unplaced_select q)
unplaced_statement (plan_of q) = plan_of (unplaced_select q)

-- a literal without its place: its type and its text
abbrev pub unplaced_literal : ConstText → ConstText
unplaced_literal c = record c { statement = 0; place = 0 }

-- ---- scripts that differ in their indexes

-- a statement without its places; none if it makes an index or is empty
abbrev pub beside_indexes : StatementOut → List StatementOut
beside_indexes nothing = []
beside_indexes (new_index t c name) = []
beside_indexes s = unplaced_statement s ∷ []

-- the statements of a script without CREATE INDEX and empty ones, and without their places
abbrev pub without_indexes : List StatementOut → List StatementOut
without_indexes ss = flat_map beside_indexes ss

-- Typed scripts that differ in their CREATE INDEX statements alone: the others are the same, in the
-- same order, and so are the literals. Their places may differ, since what a CREATE INDEX adds to
-- the text moves all that follows it, and so may empty statements. These two do:
--
--     CREATE TABLE t (id int, trip tgeompoint);
--     COPY t FROM 'trips.csv' WITH (FORMAT csv, HEADER);
--     SELECT count(*) FROM t WHERE trip && STBOX 'STBOX X((0,0),(10,10))';
--
--     CREATE TABLE t (id int, trip tgeompoint);
--     CREATE INDEX by_trip ON t USING GIST (trip);
--     COPY t FROM 'trips.csv' WITH (FORMAT csv, HEADER);
--     SELECT count(*) FROM t WHERE trip && STBOX 'STBOX X((0,0),(10,10))';
pub record DifferInIndexStatements (one other : ScriptOut) : Type 0 where
  pub statements : without_indexes one.statements ≡ without_indexes other.statements
  pub literals : map unplaced_literal one.consts ≡ map unplaced_literal other.consts

-- Inputs whose scripts are accepted and differ like this, over the same files.
pub record DifferInIndexesOnly (one other : Input) : Type 0 where
  pub out : ScriptOut
  pub others : ScriptOut
  pub first : IsAccepted one.script out
  pub second : IsAccepted other.script others
  pub scripts : DifferInIndexStatements out others
  pub files : one.files ≡ other.files

-- ---- their answers

-- the answer of a statement that writes this text: that of a SELECT is the text, and no other
-- statement has one
abbrev pub answer_in : StatementOut → List ℕ → List (List ℕ)
answer_in (query q) text = text ∷ []
answer_in _ text = []

-- The statements run one after another from the state of a run, and these are the texts of the
-- answers of their SELECTs, in order.
abbrev pub Answered : Terms → RunState → List StatementOut → List (List ℕ) → Type 0
Answered terms s [] answers = answers ≡ []
Answered terms s (x ∷ xs) answers = (t : RunState) × (text : List ℕ) × (rest : List (List ℕ)) × RunsStatement terms s x t text × Answered terms t xs rest × (answers ≡ answer_in x text ++ rest)

-- All statements of a program run, and these are the answers of its SELECTs.
pub record ProgramAnswers (settings : Settings) (input : Input) (answers : List (List ℕ)) : Type 0 where
  pub out : ScriptOut
  pub program : Program
  pub is : IsProgram settings input out program
  pub answered : Answered (terms_of settings) (begin program) out.statements answers

-- a statement that is not an EXPLAIN
abbrev pub IsNoExplain : StatementOut → Type 0
IsNoExplain (plan_of q) = ⊥
IsNoExplain _ = Unit {0}

-- an accepted script without EXPLAIN
pub record HasNoExplain (script : List ℕ) : Type 0 where
  pub out : ScriptOut
  pub accepted : IsAccepted script out
  pub none : AllByRecursion IsNoExplain out.statements

-- ---- the laws

-- A program that writes a text has answers of its SELECTs. If its script has no EXPLAIN, the text
-- is these, one after another.
abbrev pub WrittenIsAnswered : Type 0
WrittenIsAnswered = (settings : Settings) (input : Input) (text : List ℕ) → ProgramWrites settings input text
    → (answers : List (List ℕ)) × ProgramAnswers settings input answers × (HasNoExplain input.script → text ≡ concat answers)

-- Programs that differ only in CREATE INDEX statements, and perhaps in the number of workers, give
-- the same answers, one by one, if all statements of both run.
abbrev pub IndexesChangeNoAnswer : Type 0
IndexesChangeNoAnswer = (settings others : Settings) → DifferInWorkers settings others → (one other : Input) → DifferInIndexesOnly one other
    → (answers more : List (List ℕ)) → ProgramAnswers settings one answers → ProgramAnswers others other more → answers ≡ more

-- So they write the same text if one of them, and so the other, has no EXPLAIN.
abbrev pub IndexesWriteTheSame : Type 0
IndexesWriteTheSame = (settings others : Settings) → DifferInWorkers settings others → (one other : Input) → DifferInIndexesOnly one other → HasNoExplain one.script
    → (text more : List ℕ) → ProgramWrites settings one text → ProgramWrites others other more → text ≡ more
