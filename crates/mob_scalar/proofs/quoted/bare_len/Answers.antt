use Rattle.std.proofs.Common.{sym, ◌∙◌, refl, arith}
use Rattle.mob_scalar.{specs.Quoted.{is_plain}, proofs.BareLemmas.{blank_more, other_more, nothing_trimmed}}
use Rattle.mob_numeral.proofs.Runs.{split_more}
use Rattle.mob_scalar.proofs.quoted.bare_len.Goals as goal

pub loop-i-init : goal.loop-i-init
loop-i-init c = record { within = omega arith; split = refl; ends = nothing_trimmed }

pub loop-i-preserved-then-not-is_blank : goal.loop-i-preserved-then-not-is_blank
loop-i-preserved-then-not-is_blank c = record {
  within = omega arith;
  split = split_more is_plain c.args.bytes.now c.loop-i.i c.loop-i-test.true (sym c.if-not-is_plain.ensures.value) c.loop-i.invariant.split;
  ends = other_more c.args.bytes.now c.loop-i.i c.loop-i-test.true (sym c.if-not-is_blank.ensures.test);
}

pub loop-i-preserved : goal.loop-i-preserved
loop-i-preserved c = record {
  within = omega arith;
  split = split_more is_plain c.args.bytes.now c.loop-i.i c.loop-i-test.true (sym c.if-not-is_plain.ensures.value) c.loop-i.invariant.split;
  ends = blank_more c.args.bytes.now c.loop-i.i c.loop-i-test.true (sym c.if-not-is_blank.ensures.test) ∙ c.loop-i.invariant.ends;
}
