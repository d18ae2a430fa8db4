-- The result of a step that changes what it is lent.
use Rattle.std.specs.Prelude.{Result, Ok, Err}

-- what was lent is now this, or the step failed
abbrev pub made_in : {A E : Type 0} → Result (Unit {0}) E → A → Result A E
made_in (Ok u) a = Ok a
made_in (Err e) a = Err e
