use Rattle.std.proofs.Common.{sym, ◌∙◌}
use Rattle.mob_plane.specs.Rings.{rings_of}
use Rattle.mob_geotext.proofs.PolygonsRead.{no_polygon, long_polygon, large_polygon, unsound_polygon, polygon_read}
use Rattle.mob_geotext.proofs.polygons.read_polygon.Goals as goal

pub returns-in-Ok-None : goal.returns-in-Ok-None
returns-in-Ok-None c = record { reading = no_polygon c.args.text.now c.as_bytes.result.now c.as_bytes.ensures.value (rw c.in-Ok-None.field-0-is at c.in-Ok-None.ensures.read) }

pub returns-then-has_many_points : goal.returns-then-has_many_points
returns-then-has_many_points c = record { reading = long_polygon c.args.text.now c.as_bytes.result.now c.in-Ok-Some.rings c.as_bytes.ensures.value (rw c.in-Ok-Some.field-0-is at c.in-Ok-Some.ensures.read) (rw c.as_slice.ensures.same at (sym c.has_many_points.ensures.value ∙ c.if-has_many_points.true)) }

pub returns-in-Ok-None-fitting_rings : goal.returns-in-Ok-None-fitting_rings
returns-in-Ok-None-fitting_rings c = record {
  reading = large_polygon c.args.text.now c.as_bytes.result.now c.in-Ok-Some.rings c.as_bytes.ensures.value (rw c.in-Ok-Some.field-0-is at c.in-Ok-Some.ensures.read)
      (rw c.as_slice.ensures.same at (sym c.has_many_points.ensures.value ∙ c.if-has_many_points.false))
      (rw (c.as_slice-2.ensures.same, c.in-Ok-None-fitting_rings.field-0-is) at c.in-Ok-None-fitting_rings.ensures.made);
}

pub returns-in-Ok : goal.returns-in-Ok
returns-in-Ok c = record {
  reading = polygon_read c.args.text.now c.as_bytes.result.now c.in-Ok-Some.rings c.as_bytes.ensures.value (rw c.in-Ok-Some.field-0-is at c.in-Ok-Some.ensures.read)
      (rings_of c.in-Ok-Some-fitting_rings.fitting.items) c.in-Ok.polygon
      (rw c.as_slice.ensures.same at (sym c.has_many_points.ensures.value ∙ c.if-has_many_points.false))
      (rw (c.as_slice-2.ensures.same, c.in-Ok-Some-fitting_rings.field-0-is) at c.in-Ok-Some-fitting_rings.ensures.made)
      (sym c.in-Ok.ensures.sound) c.in-Ok.ensures.made;
}

pub returns : goal.returns
returns c = record {
  reading = unsound_polygon c.args.text.now c.as_bytes.result.now c.in-Ok-Some.rings c.as_bytes.ensures.value (rw c.in-Ok-Some.field-0-is at c.in-Ok-Some.ensures.read)
      (rings_of c.in-Ok-Some-fitting_rings.fitting.items)
      (rw c.as_slice.ensures.same at (sym c.has_many_points.ensures.value ∙ c.if-has_many_points.false))
      (rw (c.as_slice-2.ensures.same, c.in-Ok-Some-fitting_rings.field-0-is) at c.in-Ok-Some-fitting_rings.ensures.made)
      (sym c.in-Err-new.ensures.sound);
}
