-- Kept tuples have one answer or one fault.
use Rattle.std.specs.Prelude.{ℕ, List}
use Rattle.mob_typed.specs.Selects.{TypedSelectParts}
use Rattle.mob_value.specs.declared.store.Store.{Store}
use Rattle.mob_meaning.specs.Outcomes.{IsOne}
use Rattle.mob_tail.specs.Answers.{IsAnswerOnKept}
use Rattle.mob_meaning.specs.declared.terms.Terms.{Terms}

abbrev pub HasOneQueryAnswer : Type 0
HasOneQueryAnswer = (select : TypedSelectParts) (store : Store) (terms : Terms) (kept : List (List ℕ)) → IsOne (IsAnswerOnKept select store terms kept)
