-- Loading has one outcome.
use Rattle.std.specs.Prelude.{◌≡◌, ℤ, List, Result}
use Rattle.mob_outside.specs.Told.{Contents}
use Rattle.mob_typed.specs.Statements.{ScriptOut}
use Rattle.mob_load.{specs.Checks.{CheckParts}, specs.Loads.{Halt, Loaded, Loads, LoadsScript}, specs.declared.program.Program.{Program}}

-- checks read one thing from a start, or have one first failure
abbrev pub HasOneLoading : Type 0
HasOneLoading = (day : ℤ) (files : Contents) (checks : List CheckParts) (start : Loaded) (r q : Result Loaded Halt) → Loads day files checks start r → Loads day files checks start q → r ≡ q

-- a script has one program or one refusal
abbrev pub LoadsOneProgram : Type 0
LoadsOneProgram = (day : ℤ) (files : Contents) (out : ScriptOut) (r q : Result Program Halt) → LoadsScript day files out r → LoadsScript day files out q → r ≡ q
