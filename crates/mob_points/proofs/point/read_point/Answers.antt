use Rattle.mob_points.proofs.PointsExact.{no_point, large_point, point_read}
use Rattle.mob_points.proofs.point.read_point.Goals as goal

pub returns-in-None-clause-reading : goal.returns-in-None-clause-reading
returns-in-None-clause-reading c = no_point c.args.text.now c.as_bytes.result.now c.as_bytes.ensures.value c.in-None.ensures.value

pub returns-in-Some-None-clause-reading : goal.returns-in-Some-None-clause-reading
returns-in-Some-None-clause-reading c = large_point c.args.text.now c.as_bytes.result.now c.as_bytes.ensures.value (rw c.in-Some-None.field-0-is at c.in-Some-None.ensures.value)

pub returns-in-Some-Some-clause-reading : goal.returns-in-Some-Some-clause-reading
returns-in-Some-Some-clause-reading c = point_read c.args.text.now c.as_bytes.result.now c.in-Some-Some.point c.as_bytes.ensures.value (rw c.in-Some-Some.field-0-is at c.in-Some-Some.ensures.value)
