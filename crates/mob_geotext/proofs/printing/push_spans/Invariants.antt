use Rattle.std.proofs.Common.{◌≡◌, ◌++◌, drop, string_bytes}
use Rattle.mob_scalar.specs.Brackets.{more_texts}
use Rattle.mob_geotext.specs.SpanText.{span_text}
use Rattle.mob_geotext.proofs.printing.push_spans.Given as goal

-- the text written so far, and the text still to be written
abbrev pub invariant-loop-next : goal.invariant-loop-next
invariant-loop-next l = string_bytes l.into ++ more_texts (span_text l.epoch) (drop l.next-index l.rest) ≡ string_bytes l.initial.into ++ more_texts (span_text l.epoch) l.rest
