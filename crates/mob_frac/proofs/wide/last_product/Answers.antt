use Rattle.std.{proofs.Common.{◌^◌, sym}, proofs.lemmas.Nat.{mul-mod}}
use Rattle.mob_frac.proofs.wide.last_product.Goals as goal

pub returns : goal.returns
returns c = record { value = sym (mul-mod c.args.a c.args.b (2 ^ 64)) }
