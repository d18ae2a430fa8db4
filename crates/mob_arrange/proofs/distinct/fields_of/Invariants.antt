use Rattle.std.proofs.Common.{◌≡◌, drop, map, take}
use Rattle.mob_literal.specs.Fields.{field_text}
use Rattle.mob_arrange.specs.TextsSeen.{strings_of}
use Rattle.mob_arrange.proofs.distinct.fields_of.Given as goal

abbrev pub invariant-loop-number : goal.invariant-loop-number
invariant-loop-number l = strings_of l.texts ≡ take l.number (map (field_text l.printer.epoch.now) (drop l.printer.keys l.row))
