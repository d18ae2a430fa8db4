use Rattle.std.proofs.Common.{◌≡◌, map, take}
use Rattle.mob_typed.specs.Trees.{typed_of}
use Rattle.mob_literal.specs.Fields.{field_text}
use Rattle.mob_eval.specs.Views.{scene_of}
use Rattle.mob_tail.specs.Groups.{column_on}
use Rattle.mob_tail.proofs.grouping.fields_on.Given as goal

abbrev pub invariant-loop-column : goal.invariant-loop-column
invariant-loop-column l = l.fields.items ≡ map (λ g. field_text l.view.terms.now.epoch (column_on (scene_of l.view) g)) (map typed_of (take l.column-index l.columns))
