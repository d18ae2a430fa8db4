-- Which texts denote a number other than 0.
use Rattle.std.specs.Prelude.{◌≡◌, ◌≢◌, Ok, pos, true}
use Rattle.mob_ratio.specs.Ratio.{Ratio}
use Rattle.mob_language.{specs.Language.{Text}, specs.NonZero.{has_figure}}
use Rattle.mob_numeral.{specs.declared.numeral.Numeral.{Numeral}, specs.Verdict.{Lit, TextForm}}

-- if a text of this form has a digit other than 0 before any exponent and any slash, its number is
-- not 0
abbrev pub FiguresAreNonZero : TextForm Numeral Ratio → Type 0
FiguresAreNonZero form = (text : Text) (q : Ratio) → has_figure text ≡ true → Lit form text (Ok q) → q.num ≢ pos 0
