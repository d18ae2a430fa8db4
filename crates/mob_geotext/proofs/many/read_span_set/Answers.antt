use Rattle.std.proofs.Common.{sym, ◌∙◌}
use Rattle.mob_geotext.proofs.SetsRead.{no_set, long_set, large_set, unsound_set, set_read}
use Rattle.mob_geotext.proofs.many.read_span_set.Goals as goal

pub returns-in-Ok-None : goal.returns-in-Ok-None
returns-in-Ok-None c = record { reading = no_set c.args.epoch.now c.args.text.now c.as_bytes.result.now c.as_bytes.ensures.value (rw c.in-Ok-None.field-0-is at c.in-Ok-None.ensures.read) }

pub returns-then-has_many_ends : goal.returns-then-has_many_ends
returns-then-has_many_ends c = record { reading = long_set c.args.epoch.now c.args.text.now c.as_bytes.result.now c.in-Ok-Some.noted c.as_bytes.ensures.value (rw c.in-Ok-Some.field-0-is at c.in-Ok-Some.ensures.read) (rw c.as_slice.ensures.same at (sym c.has_many_ends.ensures.value ∙ c.if-has_many_ends.true)) }

pub returns-then-not-all_have_ends : goal.returns-then-not-all_have_ends
returns-then-not-all_have_ends c = record {
  reading = large_set c.args.epoch.now c.args.text.now c.as_bytes.result.now c.in-Ok-Some.noted c.as_bytes.ensures.value (rw c.in-Ok-Some.field-0-is at c.in-Ok-Some.ensures.read)
      (rw c.as_slice.ensures.same at (sym c.has_many_ends.ensures.value ∙ c.if-has_many_ends.false)) (rw c.as_slice-2.ensures.same at (sym c.all_have_ends.ensures.value ∙ c.if-not-all_have_ends.true));
}

pub returns-in-Ok-None-spans_of : goal.returns-in-Ok-None-spans_of
returns-in-Ok-None-spans_of c = record {
  reading = unsound_set c.args.epoch.now c.args.text.now c.as_bytes.result.now c.in-Ok-Some.noted c.as_bytes.ensures.value (rw c.in-Ok-Some.field-0-is at c.in-Ok-Some.ensures.read)
      (rw c.as_slice.ensures.same at (sym c.has_many_ends.ensures.value ∙ c.if-has_many_ends.false)) (rw c.as_slice-2.ensures.same at (sym c.all_have_ends.ensures.value ∙ c.if-not-all_have_ends.false))
      (rw (c.into_vec.ensures.same, c.in-Ok-None-spans_of.field-0-is) at c.in-Ok-None-spans_of.ensures.made);
}

pub returns-in-Ok : goal.returns-in-Ok
returns-in-Ok c = record {
  reading = set_read c.args.epoch.now c.args.text.now c.as_bytes.result.now c.in-Ok-Some.noted c.as_bytes.ensures.value (rw c.in-Ok-Some.field-0-is at c.in-Ok-Some.ensures.read)
      c.in-Ok-Some-spans_of.spans.items c.in-Ok.set (rw c.as_slice.ensures.same at (sym c.has_many_ends.ensures.value ∙ c.if-has_many_ends.false)) (rw c.as_slice-2.ensures.same at (sym c.all_have_ends.ensures.value ∙ c.if-not-all_have_ends.false))
      (rw (c.into_vec.ensures.same, c.in-Ok-Some-spans_of.field-0-is) at c.in-Ok-Some-spans_of.ensures.made) c.in-Ok.ensures.normal c.in-Ok.ensures.same;
}
