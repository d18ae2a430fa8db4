use Rattle.std.proofs.Common.{◌∙◌, sym, ap, Some}
use Rattle.mob_slice.proofs.LookUps.{inside_found, found_value, found_parts, missing_value, missing_parts}
use Rattle.mob_slice.proofs.moving.Moving.value_at.Goals as goal

pub at-requires : goal.at-requires
at-requires g c = record { inside = inside_found c.args.t.now c.args.self.now c.in-Some.slice.now c.in-Some.ensures.slice }

pub returns-in-Ok : goal.returns-in-Ok
returns-in-Ok g c =
    record {
      value = (
        ap Some c.in-Ok.ensures.value.0 ∙ sym (found_value g.C.Course.value_of c.args.t.now c.args.self.now c.in-Some.slice.now c.in-Some.ensures.slice),
        rw (found_parts g.C.Course.parts_of c.args.t.now c.args.self.now c.in-Some.slice.now c.in-Some.ensures.slice) c.in-Ok.ensures.value.1,
      );
    }

pub returns-in-Err : goal.returns-in-Err
returns-in-Err g c = record { value = rw (found_parts g.C.Course.parts_of c.args.t.now c.args.self.now c.in-Some.slice.now c.in-Some.ensures.slice) c.in-Err.ensures.value }

pub returns-in-None : goal.returns-in-None
returns-in-None g c = record { value = (sym (missing_value g.C.Course.value_of c.args.t.now c.args.self.now c.in-None.ensures.slice), rw (missing_parts g.C.Course.parts_of c.args.t.now c.args.self.now c.in-None.ensures.slice) tt) }
