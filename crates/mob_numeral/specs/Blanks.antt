-- At least one blank.
use Rattle.std.specs.Prelude.{Bool, length, nat_lt}
use Rattle.mob_language.{specs.Language.{Text, Language, Means, Where, ManyOf, is_blank}, specs.Readers.{TextReader, means_at, text_where, many_at}}

abbrev pub is_some_text : Text → Bool
is_some_text text = nat_lt 0 (length text)

-- at least one blank
abbrev pub some_blanks : Language (Unit {0})
some_blanks = Means (λ (c : Text). tt) (Where is_some_text (ManyOf is_blank))

unfoldable pub some_blanks_at : TextReader Unit
some_blanks_at = means_at (λ (c : Text). tt) (text_where is_some_text (many_at is_blank))
