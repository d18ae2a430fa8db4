-- The reader of at least one blank is exact.
use Rattle.std.proofs.Common.{◌≡◌, [], true, sym, subst, ◌∙◌}
use Rattle.mob_language.{specs.Language.{Text, Where, ManyOf, is_blank}, proofs.Exact.{Exact, Stops, means_exact, where_exact, many_exact}, proofs.Heads.{HasByte, means_byte}}
use Rattle.mob_numeral.specs.Blanks.{is_some_text, some_blanks, some_blanks_at}

pub some_blanks_exact : Exact some_blanks some_blanks_at (Stops is_blank)
unfolding some_blanks_at
some_blanks_exact = means_exact (λ (c : Text). tt) (where_exact is_some_text (many_exact is_blank))

pub some_blanks_byte : HasByte some_blanks
some_blanks_byte = means_byte (λ (c : Text). tt) some_byte
  where
    none : is_some_text [] ≡ true → ⊥
    none h = absurd cc

    some_byte : HasByte (Where is_some_text (ManyOf is_blank))
    some_byte text v said e = none (subst (λ (t : Text). is_some_text t ≡ true) (sym said.said.is ∙ e) said.holds)
