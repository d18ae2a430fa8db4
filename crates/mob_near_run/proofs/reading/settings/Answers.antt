use Rattle.std.{specs.Prelude.{option_map, map, string_bytes, Ok}, proofs.Common.{refl, sym, subst, ap, ◌∙◌, codes}}
use Rattle.mob_literal.specs.SqlText.{SaysAs}
use Rattle.mob_arguments.{specs.Arguments.{IsCount, IsEpoch, IsRequired, option_value}, proofs.Readings.{one_day}}
use Rattle.mob_near_run.{specs.CommandLine.{near_command, target_type, target_value}, proofs.Targets.{one_text}}
use Rattle.mob_near_run.proofs.reading.settings.Goals as goal

pub returns-in_default-count_of-clause-refused : goal.returns-in_default-count_of-clause-refused
returns-in_default-count_of-clause-refused c = λ _ s says.
    let count = rw c.in-Some.is at c.in_ok-values.ensures.count in
    c.in_default-count_of.ensures.none refl s.k (subst (λ o. IsRequired (IsCount 1000) o s.k) (sym count) says.count)

pub returns-in_default-2-clause-refused : goal.returns-in_default-2-clause-refused
returns-in_default-2-clause-refused c = λ _ s says.
    let words = map string_bytes c.args.words.now in
    let to = rw c.in-Some.is at c.in_ok-values.ensures.to in
    let epoch = rw c.in-Some.is at c.in_ok-values.ensures.epoch in
    let refused = rw c.in_default-2.is at c.in_ok-to.ensures.refused in
    let day = one_day (option_value near_command (codes "epoch") words) s.epoch c.in-Some-epoch_of.epoch says.day (subst (λ o. IsEpoch o c.in-Some-epoch_of.epoch) epoch c.in-Some-epoch_of.ensures.some) in
    let text = one_text (option_value near_command (codes "to") words) says.text c.in-Some-to.text.now says.to (sym to ∙ ap (option_map (λ s. s.now)) c.in-Some-to.is) in
    refused refl s.to (subst (λ d. SaysAs (target_type c.in-Some-to.text.now) d c.in-Some-to.text.now (Ok (target_value s.to))) day (subst (λ x. SaysAs (target_type x) s.epoch x (Ok (target_value s.to))) text says.says))
