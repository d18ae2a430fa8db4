use Rattle.std.{proofs.Common.{ap, ◌∙◌, map, length}, proofs.lemmas.Result.{IfOk-weaker}}
use Rattle.mob_groups.specs.Groups.{first_keys, group_number}
use Rattle.mob_tail.{specs.Groups.{same_texts}, proofs.KeysSeen.{numbers_seen, firsts_seen}}
use Rattle.mob_tail.proofs.grouping.numbers_of.Goals as goal

pub returns : goal.returns
returns c = record {
  numbers = IfOk-weaker c.numbered.result _ _ (λ r e. e ∙ numbers_seen c.in_ok-all.all.items ∙ ap (λ z. map (group_number same_texts z) z) c.in_ok-all.ensures.same) c.numbered.ensures.numbers;
  groups = IfOk-weaker c.numbered.result _ _ (λ r e. e ∙ firsts_seen c.in_ok-all.all.items ∙ ap (λ z. length (first_keys same_texts z)) c.in_ok-all.ensures.same) c.numbered.ensures.groups;
}
