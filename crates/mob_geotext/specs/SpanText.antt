-- The printed texts of spans and span sets.
use Rattle.std.specs.Prelude.{List, ◌++◌, map, cond, codes, ℤ}
use Rattle.mob_language.specs.Language.{Text}
use Rattle.mob_scalar.{specs.Brackets.{with_commas, in_braces}, specs.MomentText.{moment_text}}
use Rattle.mob_span.specs.Span.{SpanOf}

-- two moments, separated by a comma and a space, between brackets that are square if an end is
-- included
abbrev pub span_text : ℤ → SpanOf → Text
span_text day s = cond s.lower_inc (codes "[") (codes "(") ++ (moment_text day s.lower ++ (codes ", " ++ (moment_text day s.upper ++ cond s.upper_inc (codes "]") (codes ")"))))

-- the spans in braces, separated by commas and spaces
abbrev pub span_set_text : ℤ → List SpanOf → Text
span_set_text day set = in_braces (with_commas (map (span_text day) set))
