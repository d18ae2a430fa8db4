use Rattle.std.proofs.Common.{sym, ◌∙◌}
use Rattle.mob_geotext.proofs.BoxesRead.{no_box, large_box, unsound_box, box_read}
use Rattle.mob_geotext.proofs.boxes.read_stbox.Goals as goal

pub returns-in-None-clause-reading : goal.returns-in-None-clause-reading
returns-in-None-clause-reading c = no_box c.args.epoch.now c.args.text.now c.as_bytes.result.now c.as_bytes.ensures.value c.in-None.ensures.value

pub returns-then-not-has_sides-clause-reading : goal.returns-then-not-has_sides-clause-reading
returns-then-not-has_sides-clause-reading c = large_box c.args.epoch.now c.args.text.now c.as_bytes.result.now c.in-Some.noted c.as_bytes.ensures.value c.in-Some.ensures.value (sym c.has_sides.ensures.value ∙ c.if-not-has_sides.true)

pub returns-in-Some-box_of-clause-reading : goal.returns-in-Some-box_of-clause-reading
returns-in-Some-box_of-clause-reading c = box_read c.args.epoch.now c.args.text.now c.as_bytes.result.now c.in-Some.noted c.as_bytes.ensures.value c.in-Some.ensures.value c.in-Some-box_of.found (sym c.has_sides.ensures.value ∙ c.if-not-has_sides.false) c.in-Some-box_of.ensures.value

pub returns-in-None-box_of-clause-reading : goal.returns-in-None-box_of-clause-reading
returns-in-None-box_of-clause-reading c = unsound_box c.args.epoch.now c.args.text.now c.as_bytes.result.now c.in-Some.noted c.as_bytes.ensures.value c.in-Some.ensures.value (sym c.has_sides.ensures.value ∙ c.if-not-has_sides.false) c.in-None-box_of.ensures.value
