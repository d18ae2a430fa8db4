use Rattle.std.proofs.Common.{◌≡◌, [], ◌∷◌, ◌++◌, ap, ◌∙◌}
use Rattle.mob_slice.specs.Cut.{slice_value}
use Rattle.mob_cells.proofs.TurnCells.{held_cut, nothing_kept, part_kept, within_of}
use Rattle.mob_cells.proofs.turned.kept_on_cell.Goals as goal

pub returns-then-not-same_bool : goal.returns-then-not-same_bool
returns-then-not-same_bool g c =
    record {
      kept = nothing_kept g.C.Course.value_of g.C.Course.start_of g.C.Course.end_of c.args.slice.now c.args.turning.now c.args.cuts.now c.args.cell.now c.args.want c.same_bool.result c.turned_on-flag.result c.requires.cuts c.requires.cell c.turned_on-flag.ensures.value c.same_bool.ensures.value
          c.new.result.items c.if-not-same_bool.true c.new.ensures.items;
    }

pub part_on-requires-clause-within : goal.part_on-requires-clause-within
part_on-requires-clause-within g c = within_of c.args.slice.now.span c.args.cuts.now c.args.cell.now c.requires.cell

pub part_on-requires-clause-lower : goal.part_on-requires-clause-lower
part_on-requires-clause-lower g c = held_cut c.args.slice.now.span c.args.turning.now.turn c.args.cuts.now c.args.cell.now.lower (λ t. slice_value g.C.Course.value_of c.args.slice.now t ≡ c.args.x.now) c.requires.cuts c.requires.held c.requires.cell.lower

pub part_on-requires-clause-upper : goal.part_on-requires-clause-upper
part_on-requires-clause-upper g c = held_cut c.args.slice.now.span c.args.turning.now.turn c.args.cuts.now c.args.cell.now.upper (λ t. slice_value g.C.Course.value_of c.args.slice.now t ≡ c.args.x.now) c.requires.cuts c.requires.held c.requires.cell.upper

pub returns : goal.returns
returns g c =
    record {
      kept = part_kept g.C.Course.value_of g.C.Course.start_of g.C.Course.end_of c.args.slice.now c.args.turning.now c.args.cuts.now c.args.cell.now c.args.want c.same_bool.result c.turned_on-flag.result c.requires.cuts c.requires.cell c.turned_on-flag.ensures.value c.same_bool.ensures.value
          c.push.new.self.items c.in_ok-part.part c.if-not-same_bool.false (c.in_ok-push.ensures.items ∙ ap (λ z. z ++ c.in_ok-part.part ∷ []) c.new-parts.ensures.items) c.in_ok-part.ensures.part;
    }
