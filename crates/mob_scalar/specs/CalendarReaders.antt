-- The readers of the languages of dates.
use Rattle.std.specs.Prelude.{ℕ, codes}
use Rattle.mob_language.specs.Readers.{TextReader, then_at, means_at, text_where, behind_at}
use Rattle.mob_scalar.{specs.declared.civil.Civil.{Civil}, specs.Calendar.{has_count, number_in, civil_of, is_civil}}
use Rattle.mob_numeral.specs.NumberReaders.{digits_at}

unfoldable pub fixed_at : ℕ → TextReader ℕ
fixed_at k = means_at number_in (text_where (has_count k) digits_at)

unfoldable pub dash_at : TextReader ℕ
dash_at = behind_at (codes "-") (fixed_at 2)

unfoldable pub date_at : TextReader Civil
date_at = text_where is_civil (means_at civil_of (then_at (fixed_at 4) (then_at dash_at dash_at)))
