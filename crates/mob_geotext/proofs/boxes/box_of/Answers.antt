use Rattle.std.proofs.Common.{rules, ◌∙◌, sym, ap, ◌≡◌}
use Rattle.mob_geotext.{specs.Boxes.{area_of, box_in_both, sound_box}, specs.Spans.{bounds_of, sound_span}, proofs.BoxesRead.{both_sound}}
use Rattle.mob_geotext.proofs.boxes.box_of.Goals as goal

pub returns-in-Both : goal.returns-in-Both
returns-in-Both c =
    let made : c.box_in_both.result ≡ box_in_both (area_of c.in-Both.corners) (sound_span c.in-Both.span) = search rules in
    record { value = made ∙ both_sound (area_of c.in-Both.corners) (bounds_of c.in-Both.span) ∙ ap sound_box (sym c.in-Both.is) }
