use Rattle.std.proofs.Common.{◌≤◌, length, sym, subst}
use Rattle.mob_scalar.proofs.BareLemmas.{bare_cut, bare_found, bare_not}
use Rattle.mob_scalar.proofs.quoted.bare_at.Goals as goal

pub split_at-requires : goal.split_at-requires
split_at-requires c = subst (λ n. n ≤ length c.args.bytes.now) (sym c.bare_len.ensures.value) (bare_cut c.args.bytes.now).within

pub returns-then-is_bare : goal.returns-then-is_bare
returns-then-is_bare c = record { value = bare_found c.args.bytes.now c.split_at.result.0.now c.split_at.result.1.now c.bare_len.result c.bare_len.ensures.value c.split_at.ensures.front c.split_at.ensures.back (sym c.if-is_bare.ensures.value) }

pub returns-else-is_bare : goal.returns-else-is_bare
returns-else-is_bare c = record { value = bare_not c.args.bytes.now c.split_at.result.0.now c.bare_len.result c.bare_len.ensures.value c.split_at.ensures.front (sym c.if-is_bare.ensures.value) }
