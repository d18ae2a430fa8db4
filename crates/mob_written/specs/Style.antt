-- How temporal values print, given an epoch.
use Rattle.std.specs.Prelude.{ℤ}
use Rattle.mob_language.specs.Language.{Text}
use Rattle.mob_scalar.specs.MomentText.{moment_text}
use Rattle.mob_slice.specs.CourseOf.{CourseOf}
use Rattle.mob_written.specs.Printed.{Style}

-- values print as their own text, and moments are counted from the epoch day
abbrev pub style_of : {C B : Type 0} → CourseOf C B → (B → Text) → ℤ → Style C B
style_of course text day = record { course = course; value_text = text; moment_text = moment_text day }
