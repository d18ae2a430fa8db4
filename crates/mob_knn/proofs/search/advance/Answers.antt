use Rattle.std.{specs.BinaryHeap.{heap_items}, proofs.Common.{rules, refl}}
use Rattle.mob_slice.specs.Sides.{operand_of}
use Rattle.mob_knn.{specs.Nearest.{HasApproach}, proofs.Advance.{looked_advanced}}
use Rattle.mob_knn.proofs.search.advance.Goals as goal

pub returns-in-Entry-clause-ok : goal.returns-in-Entry-clause-ok
returns-in-Entry-clause-ok g c =
    looked_advanced c.args.tree.now.nodes c.args.area.now (HasApproach c.args.trips.now (operand_of c.args.asked.now)) c.args.first.now.key c.args.first.now.what c.in-Entry.row c.look.result
    (record { heap = heap_items c.args.heap.now; found = c.args.found.now.items; steps = c.args.steps.now })
    (record { heap = heap_items c.look.new.heap; found = c.args.found.now.items; steps = c.look.new.steps })
    (search rules) c.look.ensures.looked refl c.look.ensures.steps
