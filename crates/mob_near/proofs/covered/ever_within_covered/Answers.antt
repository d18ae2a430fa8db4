use Rattle.std.{specs.Prelude.{Some, true}, proofs.Common.{rules, sym, ◌∙◌}}
use Rattle.mob_slice.{specs.Lines.{plane_value_of}, specs.Slices.{value_at}}
use Rattle.mob_near.{proofs.Answering.{never_within, ever_within_by}, proofs.Stretches.{common_is, hit_ever, none_ever}}
use Rattle.mob_near.proofs.covered.ever_within_covered.Goals as goal

pub returns-then-is_before : goal.returns-then-is_before
returns-then-is_before c = record { value = never_within c.args.d.now (value_at plane_value_of c.args.a.now) (value_at plane_value_of c.args.b.now) c.have_common.result c.never.result (common_is c.args.a.now c.args.b.now c.requires.left.order c.requires.right.order c.have_common.result c.have_common.ensures.value) (search rules) c.never.ensures.value }

pub returns-then-near : goal.returns-then-near
returns-then-near c = record { value = ever_within_by c.args.d.now (value_at plane_value_of c.args.a.now) (value_at plane_value_of c.args.b.now) c.in_ok-square.square (Some true) (search rules) c.in_ok-square.ensures.value (hit_ever c.args.a.now c.args.b.now c.requires.left.order c.requires.right.order c.in_ok-square.square c.args.d.now c.in_ok-square.ensures.value (sym c.if-near.true ∙ c.in_ok-near.ensures.value)) }

pub returns : goal.returns
returns c = record { value = ever_within_by c.args.d.now (value_at plane_value_of c.args.a.now) (value_at plane_value_of c.args.b.now) c.in_ok-square.square c.never-2.result (search rules) c.in_ok-square.ensures.value (none_ever c.args.a.now c.args.b.now c.requires.left.order c.requires.right.order c.in_ok-square.square c.args.d.now c.have_common-2.result c.never-2.result c.in_ok-square.ensures.value (sym c.if-near.false ∙ c.in_ok-near.ensures.value) c.have_common-2.ensures.value c.never-2.ensures.value) }
