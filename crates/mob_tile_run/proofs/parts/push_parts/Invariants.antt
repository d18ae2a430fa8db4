use Rattle.std.{specs.Vec.Iter.{into_iter_items, into_iter_len}, proofs.Common.{◌≡◌, ◌++◌, length, map}}
use Rattle.mob_tile_run.specs.TileTexts.{part_fields}
use Rattle.mob_tile_run.proofs.parts.push_parts.Given as goal

abbrev pub invariant-loop-part : goal.invariant-loop-part
invariant-loop-part l = record {
  goes : goal.iterator-loop-part.can_next l.part-iterator;
  ends : goal.iterator-loop-part.is_finite l.part-iterator;
  counted : into_iter_len l.part-iterator ≡ length (into_iter_items l.part-iterator);
  done : l.records ++ map (part_fields l.epoch l.ids l.row) (into_iter_items l.part-iterator) ≡ l.initial.records ++ map (part_fields l.epoch l.ids l.row) l.fn.parts.items;
}
