use Rattle.std.{specs.Prelude.{Some}, proofs.Common.{rules}}
use Rattle.mob_stbox.proofs.BoxLaws.{an_area}
use Rattle.mob_value.proofs.value_box.slice_box.Goals as goal

pub unreachable-requires : goal.unreachable-requires
unreachable-requires c = an_area c.between-area.result (Some c.args.slice.now.span) c.between-area.ensures.area (c.new.ensures.none.0 (search rules))
