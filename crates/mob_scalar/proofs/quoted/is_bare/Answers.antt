use Rattle.std.proofs.Common.{◌<◌, length, refl, rules}
use Rattle.mob_scalar.proofs.BareLemmas.{begins_at, ends_at}
use Rattle.mob_scalar.proofs.quoted.is_bare.Goals as goal

pub returns-then-not-is_blank : goal.returns-then-not-is_blank
returns-then-not-is_blank c =
    let some : 0 < length c.args.value.now = search rules in
    record { value = rw (begins_at c.args.value.now some, ends_at c.args.value.now some, ← c.if-not-is_blank.ensures.test, c.is_blank-then-not-is_blank.ensures.test) refl }
