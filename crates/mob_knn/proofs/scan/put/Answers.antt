use Rattle.std.proofs.Common.{◌∙◌, ap, take}
use Rattle.mob_knn.proofs.Scanning.{put_by_place}
use Rattle.mob_knn.proofs.scan.put.Goals as goal

pub returns : goal.returns
returns c = record { put = c.truncate.ensures.items ∙ ap (take c.args.k) (c.in_ok-insert.ensures.items ∙ put_by_place (c.args.row, c.args.m) c.args.best.now.items c.in_ok-place.place (rw c.as_slice.ensures.value at c.in_ok-place.ensures.place)) }
