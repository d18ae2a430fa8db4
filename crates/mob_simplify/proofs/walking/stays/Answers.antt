use Rattle.std.proofs.Common.{rules}
use Rattle.mob_simplify.proofs.walking.stays.Goals as goal

pub passes-requires : goal.passes-requires
passes-requires c = record { square = c.requires.square; between = rw (c.start_of.ensures.value, c.end_of.ensures.value) (c.requires.between (search rules)) }
