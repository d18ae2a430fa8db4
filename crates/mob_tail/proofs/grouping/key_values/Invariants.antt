use Rattle.std.proofs.Common.{◌≡◌, ◌++◌, List, ℕ, map, drop}
use Rattle.mob_typed.specs.Selects.{select_seen, key_seen}
use Rattle.mob_tail.{specs.GroupedAnswers.{keys_from}, specs.GroupSteps.{first_of}}
use Rattle.mob_tail.proofs.grouping.key_values.Given as goal

abbrev pub invariant-loop-number : goal.invariant-loop-number
invariant-loop-number l =
    (tuples : List (List ℕ)) → l.first ≡ first_of tuples
    → l.values.items ++ keys_from (select_seen l.select) l.store l.terms tuples l.columns l.number (map key_seen (drop l.number l.keys)) ≡ keys_from (select_seen l.select) l.store l.terms tuples l.columns 0 (map key_seen l.keys)
