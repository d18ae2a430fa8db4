use Rattle.std.proofs.Common.{◌≡◌, ◌-◌, suc, length, IfOk, option_map}
use Rattle.mob_language.{specs.Readers.{TextReader, items_at, separated_at}, proofs.Lists.{with_front}}
use Rattle.mob_scalar.specs.Brackets.{comma_at}
use Rattle.mob_scalar.proofs.brackets.separated_at.Given as goal

-- the members read so far, and those still to be read
abbrev pub invariant-loop : goal.invariant-loop
invariant-loop g l = (reader : TextReader _) → ((text : _) (found : _) → goal.F-post g l.fn.member_at text found → IfOk found (λ o. option_map (λ x. (x.0, x.1.now)) o ≡ reader text.now)) → with_front l.members.items (items_at (suc (length l.fn.bytes) - l.counter) reader comma_at l.rest) ≡ separated_at reader comma_at l.fn.bytes
