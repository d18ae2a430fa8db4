-- The number of workers and the indexes change no answer.
use Rattle.std.specs.Prelude.{◌≡◌, ℕ, List, Ok}
use Rattle.mob_arguments.specs.declared.options.Settings.{Settings}
use Rattle.mob_typed.specs.Selects.{TypedSelectParts}
use Rattle.mob_catalog.specs.Catalogue.{Catalogue}
use Rattle.mob_join.specs.Query.{IsKept}
use Rattle.mob_ending.specs.declared.ending.Ending.{Ending}
use Rattle.mob_shell.{specs.Answers.{QueryAnswers}, specs.Deletes.{IsDeleted}, specs.Ending.{IsDue}, specs.Inputs.{Input, IsInputOf, Seen}, specs.Program.{ProgramWrites}}
use Rattle.mob_meaning.specs.declared.terms.Terms.{Terms}

-- settings that differ only in the number of workers: they have the same epoch, the same demo and
-- the same mode
pub record DifferInWorkers (one other : Settings) : Type 0 where
  pub epoch : one.epoch ≡ other.epoch
  pub demo : one.demo ≡ other.demo
  pub wide : one.wide ≡ other.wide

-- such settings read the same input
abbrev pub WorkersReadTheSame : Type 0
WorkersReadTheSame = (one other : Settings) → DifferInWorkers one other → (s : Seen) (input : Input) → IsInputOf one s input → IsInputOf other s input

-- and they ask for the same endings on it, with the same answers, places and formulas
abbrev pub WorkersEndTheSame : Type 0
WorkersEndTheSame = (one other : Settings) → DifferInWorkers one other → (input : Input) (ending : Ending) → IsDue one input ending → IsDue other input ending

-- the text of all statements is the same
abbrev pub WorkersWriteTheSame : Type 0
WorkersWriteTheSame = (one other : Settings) → DifferInWorkers one other → (input : Input) (text : List ℕ) → ProgramWrites one input text → ProgramWrites other input text

-- catalogues that differ only in their indexes: they have the same store, and the same tables with
-- the same live rows
pub record DifferInIndexes (one other : Catalogue) : Type 0 where
  pub store : one.store ≡ other.store
  pub heads : one.heads ≡ other.heads

-- if a query keeps tuples on both of them, without a fault, they are the same
abbrev pub IndexesKeepTheSame : Type 0
IndexesKeepTheSame = (select : TypedSelectParts) (one other : Catalogue) (terms : Terms) (kept others : List (List ℕ)) → DifferInIndexes one other → IsKept select one terms (Ok kept) → IsKept select other terms (Ok others) → kept ≡ others

-- if a DELETE has no fault on either of them, they still differ only in their indexes after it: the
-- same rows are deleted
abbrev pub IndexesDeleteTheSame : Type 0
IndexesDeleteTheSame = (select : TypedSelectParts) (one other : Catalogue) (terms : Terms) (left others : Catalogue) → DifferInIndexes one other → IsDeleted select one terms left → IsDeleted select other terms others → DifferInIndexes left others

-- if a query has an answer on both of them, it is the same
abbrev pub IndexesAnswerTheSame : Type 0
IndexesAnswerTheSame = (select : TypedSelectParts) (one other : Catalogue) (terms : Terms) (rows others : List (List (List ℕ))) → DifferInIndexes one other → QueryAnswers select one terms (Ok rows) → QueryAnswers select other terms (Ok others) → rows ≡ others
