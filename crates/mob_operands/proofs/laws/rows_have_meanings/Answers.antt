use Rattle.mob_operands.{proofs.Casts.{casts_have_meanings}, proofs.Meanings.{rows_have_meanings, settled_is_the_value}, proofs.Nulls.{null_gives_null}}
use Rattle.mob_operands.proofs.laws.rows_have_meanings.Goals as goal

pub returns : goal.returns
returns c = record { rows = rows_have_meanings; casts = casts_have_meanings; null = null_gives_null; settled = settled_is_the_value }
