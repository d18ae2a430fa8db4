use Rattle.std.{specs.List.{position_or_len}, specs.Vec.Iter.{into_iter_items}, proofs.Common.{rules, ◌≡◌, ◌++◌, ◌∷◌, [], length, sym, ap, ap₂, ◌∙◌, append_assoc, append-nil}}
use Rattle.std.proofs.lemmas.List.{nil_from_length}
use Rattle.mob_list.proofs.Entries.{counted_down}
use Rattle.mob_groups.proofs.Numbers.{with_keys, with_key, numbers_on, keys_of_all, numbers_of_all}
use Rattle.mob_groups.proofs.numbering.numbered.Goals as goal

pub loop-key-init : goal.loop-key-init
loop-key-init g c =
    let none : c.new-firsts.result.keys ≡ [] = c.new-firsts.ensures.empty in
    let all : into_iter_items c.into_iter-key-iterator.result ≡ c.args.keys.items = search rules in
    record {
      goes = tt;
      ends = tt;
      counted = search rules;
      numbers = ap₂ (λ a b. a ++ numbers_on g.K.PartialEq.eq b (into_iter_items c.into_iter-key-iterator.result)) c.new-numbers.ensures.items none ∙ ap (numbers_on g.K.PartialEq.eq []) all;
      keys = ap (λ b. with_keys g.K.PartialEq.eq b (into_iter_items c.into_iter-key-iterator.result)) none ∙ ap (with_keys g.K.PartialEq.eq []) all;
    }

pub loop-key-preserved : goal.loop-key-preserved
loop-key-preserved g c =
    let at = c.loop-key in
    let left = c.in-Some.ensures.steps.0 in
    let rest = into_iter_items c.next.new.self in
    let next : c.insert_full.new.self.keys ≡ with_key g.K.PartialEq.eq at.firsts.keys c.in-Some.key = c.in_ok-number.ensures.keys in
    let number : c.in_ok-number.number ≡ position_or_len (g.K.PartialEq.eq c.in-Some.key) at.firsts.keys = c.in_ok-number.ensures.index in
    record {
      goes = tt;
      ends = tt;
      counted = counted_down _ _ _ _ _ left c.in-Some.ensures.steps.1 at.invariant.counted;
      numbers = ap₂ (λ a b. a ++ numbers_on g.K.PartialEq.eq b rest) (c.in_ok-push.ensures.items ∙ ap (λ n. at.numbers.items ++ n ∷ []) number) next ∙ append_assoc at.numbers.items (position_or_len (g.K.PartialEq.eq c.in-Some.key) at.firsts.keys ∷ []) (numbers_on g.K.PartialEq.eq (with_key g.K.PartialEq.eq at.firsts.keys c.in-Some.key) rest) ∙ ap (λ z. at.numbers.items ++ numbers_on g.K.PartialEq.eq at.firsts.keys z) (sym left) ∙ at.invariant.numbers;
      keys = ap (λ b. with_keys g.K.PartialEq.eq b rest) next ∙ ap (with_keys g.K.PartialEq.eq at.firsts.keys) (sym left) ∙ at.invariant.keys;
    }

pub returns : goal.returns
returns g c =
    let at = c.loop-key in
    let none : into_iter_items at.key-iterator ≡ [] = nil_from_length _ (sym at.invariant.counted ∙ c.in-None.ensures.steps.0) in
    record {
      numbers = sym (append-nil at.numbers.items) ∙ ap (λ z. at.numbers.items ++ numbers_on g.K.PartialEq.eq at.firsts.keys z) (sym none) ∙ at.invariant.numbers ∙ numbers_of_all g.K.PartialEq.eq g.met.K.Eq.laws c.args.keys.items;
      groups = c.len.ensures.len ∙ ap length (ap (with_keys g.K.PartialEq.eq at.firsts.keys) (sym none) ∙ at.invariant.keys ∙ keys_of_all g.K.PartialEq.eq g.met.K.Eq.laws c.args.keys.items);
    }
