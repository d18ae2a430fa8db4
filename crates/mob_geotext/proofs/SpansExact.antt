-- The readers of spans and of span sets accept exactly their texts.
use Rattle.std.proofs.Common.{ℤ, [], ◌++◌, sym, subst, refl}
use Rattle.mob_language.{specs.Language.{◌▷◌, Separated, blanks, is_blank, in_middle, within_blanks}, specs.Readers.{then_at, separated_at, within_blanks_at}}
use Rattle.mob_language.proofs.Exact.{Exact, Any, then_exact, means_exact, regrouped}
use Rattle.mob_language.proofs.Heads.{NoHead, HasByte, byte_stops, means_head, byte_head, word_then_head, means_byte, then_byte, word_byte, then_byte_stops, IsEnd, within_exact}
use Rattle.mob_language.proofs.Lists.{separated_exact}
use Rattle.mob_scalar.{specs.Brackets.{comma, closing, comma_at, closing_at}, specs.Moments.{moment_value, moment_value_at}, proofs.MomentExact.{Closes}}
use Rattle.mob_scalar.proofs.WholeTexts.{moment_value_exact, moment_value_blank, moment_value_byte}
use Rattle.mob_scalar.proofs.BracketsExact.{comma_exact, opening_exact, closing_exact, comma_byte, opening_blank, opening_byte, list_head, list_byte, comma_closes, closing_ends, open_brace_exact}
use Rattle.mob_scalar.proofs.BracketsExact.{close_brace_exact, close_brace_ends, NoComma}
use Rattle.mob_geotext.specs.Spans.{span_said, noted_span, noted_spans, noted_span_at, noted_spans_at}

-- ---- a span

end_exact : (day : ℤ) → Exact (moment_value day ▷ closing) (then_at (moment_value_at day) closing_at) Any
end_exact day = then_exact (moment_value_exact day) closing_exact (λ text rest c said after. (closing_ends text rest c said).closes)

comma_end_exact : (day : ℤ) → Exact (comma ▷ (moment_value day ▷ closing)) (then_at comma_at (then_at (moment_value_at day) closing_at)) Any
comma_end_exact day = then_byte_stops comma_exact (end_exact day) (byte_head closing (moment_value_blank day) (moment_value_byte day)) (then_byte closing (moment_value_byte day))

ends_exact : (day : ℤ) → Exact (moment_value day ▷ (comma ▷ (moment_value day ▷ closing))) (then_at (moment_value_at day) (then_at comma_at (then_at (moment_value_at day) closing_at))) Any
ends_exact day = then_exact (moment_value_exact day) (comma_end_exact day)
    (λ text rest v said after. subst Closes (sym (regrouped text said.front said.back rest said.whole)) (comma_closes said.front (said.back ++ rest) said.first))

pub span_exact : (day : ℤ) → Exact (noted_span day) (noted_span_at day) Any
unfolding noted_span_at
span_exact day = means_exact span_said (then_byte_stops opening_exact (ends_exact day)
    (byte_head (comma ▷ (moment_value day ▷ closing)) (moment_value_blank day) (moment_value_byte day))
    (then_byte (comma ▷ (moment_value day ▷ closing)) (moment_value_byte day)))

pub span_blank : (day : ℤ) → NoHead (noted_span day) is_blank
span_blank day = means_head (byte_head (moment_value day ▷ (comma ▷ (moment_value day ▷ closing))) opening_blank opening_byte)

pub span_byte : (day : ℤ) → HasByte (noted_span day)
span_byte day = means_byte span_said (then_byte (moment_value day ▷ (comma ▷ (moment_value day ▷ closing))) opening_byte)

pub spans_exact : (day : ℤ) → Exact (within_blanks (noted_span day)) (within_blanks_at (noted_span_at day)) IsEnd
spans_exact day = within_exact (span_exact day) (span_blank day) (span_byte day) (λ bs each. tt)

-- ---- spans in braces

listed_exact : (day : ℤ) → Exact (Separated (noted_span day) comma) (separated_at (noted_span_at day) comma_at) NoComma
listed_exact day = separated_exact (span_exact day) comma_exact comma_byte
    (λ rest after. (after, tt))
    (λ y rest said. tt)
    (λ x rest s said. byte_stops is_blank x rest (span_blank day x s said) (span_byte day x s said))

listed_blank : (day : ℤ) → NoHead (Separated (noted_span day) comma) is_blank
listed_blank day = list_head (noted_span day) comma is_blank (span_blank day) (span_byte day)

listed_byte : (day : ℤ) → HasByte (Separated (noted_span day) comma)
listed_byte day = list_byte (noted_span day) comma (span_byte day)

braced_exact : (day : ℤ) → Exact (noted_spans day) (noted_spans_at day) Any
unfolding noted_spans_at
braced_exact day = means_exact in_middle (then_byte_stops open_brace_exact
    (then_exact (listed_exact day) close_brace_exact (λ text rest v said after. (close_brace_ends text rest v said).no_comma))
    (byte_head _ (listed_blank day) (listed_byte day)) (then_byte _ (listed_byte day)))

braced_blank : (day : ℤ) → NoHead (noted_spans day) is_blank
braced_blank day = means_head (byte_head _ (word_then_head 123 [] is_blank refl) (then_byte blanks (word_byte 123 [])))

braced_byte : (day : ℤ) → HasByte (noted_spans day)
braced_byte day = means_byte in_middle (then_byte _ (then_byte blanks (word_byte 123 [])))

pub span_sets_exact : (day : ℤ) → Exact (within_blanks (noted_spans day)) (within_blanks_at (noted_spans_at day)) IsEnd
span_sets_exact day = within_exact (braced_exact day) (braced_blank day) (braced_byte day) (λ bs each. tt)
