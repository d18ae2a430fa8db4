-- The texts of spans of time and of span sets, and their forms.
--
-- A span is an opening bracket, two moments with a comma between them, and a closing bracket; a
-- square bracket includes its end. A span set is one or more spans in braces, with commas between
-- them. The spans may overlap and be in any order. Blanks may be beside each of these signs, and at
-- both ends.
use Rattle.std.{specs.Prelude.{◌≡◌, ℕ, List, length, Bool, true, false, ◌&&◌, cond, nat_eq, nat_lt, Option, Some, None, is_some, MatchOption, ℤ}, specs.List.{list_all}}
use Rattle.mob_ratio.specs.Ratio.{Ratio}
use Rattle.mob_language.{specs.Language.{Language, ◌▷◌, Means, Separated, in_middle, within_blanks}, specs.Readers.{TextReader, ◌>>=◌, then_at, means_at, separated_at}}
use Rattle.mob_span.{specs.Span.{SpanOf, has_instant}, specs.Sets.{IsSpanSet, in_some}}
use Rattle.mob_numeral.specs.Verdict.{TextForm}
use Rattle.mob_scalar.{specs.Brackets.{comma, opening, closing, within_braces, comma_at, opening_at, closing_at, open_brace_at, close_brace_at}, specs.Moments.{moment_value, moment_value_at}}
use Rattle.mob_scalar.specs.Traverse.{traverse}
use Rattle.mob_geotext.specs.declared.noted.NotedSpan.{NotedSpan}

abbrev pub span_said : ℕ × (Option Ratio × (Unit {0} × (Option Ratio × ℕ))) → NotedSpan
span_said v = record { lower = v.1.0; upper = v.1.1.1.0; lower_inc = nat_eq v.0 91; upper_inc = nat_eq v.1.1.1.1 93 }

-- a span, with its ends counted from this day
abbrev pub noted_span : ℤ → Language NotedSpan
noted_span day = Means span_said (opening ▷ (moment_value day ▷ (comma ▷ (moment_value day ▷ closing))))

-- spans in braces
abbrev pub noted_spans : ℤ → Language (List NotedSpan)
noted_spans day = within_braces (Separated (noted_span day) comma)

-- both ends fit
abbrev pub has_ends : NotedSpan → Bool
has_ends s = is_some s.lower && is_some s.upper

-- the span of the text, if both ends fit
abbrev pub bounds_of : NotedSpan → Option SpanOf
bounds_of s = s.lower >>= λ a. s.upper >>= λ b. Some (record { lower = a; upper = b; lower_inc = s.lower_inc; upper_inc = s.upper_inc })

-- the form of spans; a span is unsound if it has no instant
abbrev pub spans : ℤ → TextForm NotedSpan SpanOf
spans day = record {
  shape = within_blanks (noted_span day);
  long = λ s. ⊥;
  large = λ s. has_ends s ≡ false;
  unsound = λ s. MatchOption (bounds_of s) ⊥ (λ r. has_instant r ≡ false);
  means = λ s r. bounds_of s ≡ Some r;
}

-- more than 100,000 ends
abbrev pub has_many_ends : List NotedSpan → Bool
has_many_ends ss = nat_lt 50000 (length ss)

-- The form of span sets. A set is unsound if one of its spans has no instant. Its value is the set
-- of the instants in any of its spans.
abbrev pub span_sets : ℤ → TextForm (List NotedSpan) (List SpanOf)
span_sets day = record {
  shape = within_blanks (noted_spans day);
  long = λ ss. has_many_ends ss ≡ true;
  large = λ ss. list_all has_ends ss ≡ false;
  unsound = λ ss. MatchOption (traverse bounds_of ss) ⊥ (λ rs. list_all has_instant rs ≡ false);
  means = λ ss set. MatchOption (traverse bounds_of ss) ⊥ (λ rs. IsSpanSet set × ((t : Ratio) → in_some set t ≡ in_some rs t));
}

-- ---- the readers of these languages

unfoldable pub noted_span_at : ℤ → TextReader NotedSpan
noted_span_at day = means_at span_said (then_at opening_at (then_at (moment_value_at day) (then_at comma_at (then_at (moment_value_at day) closing_at))))

unfoldable pub noted_spans_at : ℤ → TextReader (List NotedSpan)
noted_spans_at day = means_at in_middle (then_at open_brace_at (then_at (separated_at (noted_span_at day) comma_at) close_brace_at))

-- ---- what the code makes of them

-- a span, if it has an instant
abbrev pub bounded : SpanOf → Option SpanOf
bounded r = cond (has_instant r) (Some r) None

-- the span of the text, if both ends fit and it has an instant
abbrev pub sound_span : NotedSpan → Option SpanOf
sound_span s = bounds_of s >>= bounded
