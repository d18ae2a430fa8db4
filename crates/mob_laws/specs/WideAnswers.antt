-- `--wide` changes no answer: where a run ends well without it, a run with it has the same answers.
use Rattle.std.specs.Prelude.{◌≡◌, ℕ, List, true, false}
use Rattle.mob_arguments.specs.declared.options.Settings.{Settings}
use Rattle.mob_ending.specs.declared.ending.Ending.TheVariants.{Done}
use Rattle.mob_shell.{specs.Ending.{IsDue}, specs.Inputs.{Input, IsInputOf, Seen}, specs.Program.{ProgramWrites}}

-- the second settings ask for the wide mode and the first do not; the number of workers may differ
-- too
pub record AsksForWide (one other : Settings) : Type 0 where
  pub epoch : one.epoch ≡ other.epoch
  pub demo : one.demo ≡ other.demo
  pub without : one.wide ≡ false
  pub asks : other.wide ≡ true

-- they read the same input
abbrev pub WideReadsTheSame : Type 0
WideReadsTheSame = (one other : Settings) → AsksForWide one other → (s : Seen) (input : Input) → IsInputOf one s input → IsInputOf other s input

-- a text that the program writes without the option, it writes with it
abbrev pub WideWritesTheSame : Type 0
WideWritesTheSame = (one other : Settings) → AsksForWide one other → (input : Input) (text : List ℕ) → ProgramWrites one input text → ProgramWrites other input text

-- So where all answers are due without it they are due with it. A run with the option then ends
-- with them, or out of memory, or at a fault of what it reads and writes.
abbrev pub WideEndsTheSame : Type 0
WideEndsTheSame = (one other : Settings) → AsksForWide one other → (input : Input) → IsDue one input Done → IsDue other input Done
