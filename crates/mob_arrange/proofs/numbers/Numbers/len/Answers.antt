use Rattle.std.{proofs.Common.{◌∙◌, length, ap, sym}, proofs.lemmas.List.{length-map}}
use Rattle.mob_value.specs.declared.value.Value.TheVariants.{Number}
use Rattle.mob_arrange.proofs.numbers.Numbers.len.Goals as goal

pub returns : goal.returns
returns c = record { count = sym (length-map c.as_slice.result.now Number) ∙ ap length c.as_slice.ensures.same }
