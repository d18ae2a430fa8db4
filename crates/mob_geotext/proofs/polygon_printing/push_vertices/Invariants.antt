use Rattle.std.proofs.Common.{◌≡◌, ◌++◌, drop, string_bytes}
use Rattle.mob_geotext.{specs.PolygonText.{vertex_text}, proofs.JoinedWritten.{more_joined}}
use Rattle.mob_geotext.proofs.polygon_printing.push_vertices.Given as goal

-- the text written so far, and the text still to be written
abbrev pub invariant-loop-next : goal.invariant-loop-next
invariant-loop-next l = string_bytes l.into ++ more_joined vertex_text (drop l.next-index l.rest) ≡ string_bytes l.initial.into ++ more_joined vertex_text l.rest
