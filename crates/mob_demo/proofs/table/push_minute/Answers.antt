use Rattle.std.{proofs.Common.{◌≡◌, ◌++◌, arith, codes, refl, string_bytes}, proofs.lemmas.Grind.{common_steps}}
use Rattle.mob_demo.{specs.Demo.{minute_text}, proofs.Positions.{minute_written}}
use Rattle.mob_demo.proofs.table.push_minute.Goals as goal

pub returns : goal.returns
returns c =
    let end : string_bytes c.push_two_digits-2.new.into ++ codes ":00+00" ≡ string_bytes c.args.into.now ++ minute_text c.args.minute =
    minute_written c.args.minute (string_bytes c.args.into.now) (string_bytes c.push_str.new.self) (string_bytes c.push_two_digits.new.into) (string_bytes c.push_str-2.new.self)
    (string_bytes c.push_two_digits-2.new.into) _
    c.in_ok-push_str.ensures.bytes c.in_ok-push_two_digits.ensures.digits c.in_ok-push_str-2.ensures.bytes c.in_ok-push_two_digits-2.ensures.digits refl in
    grind (arith, common_steps, end)
