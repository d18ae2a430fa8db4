use Rattle.std.proofs.Common.{◌≡◌, true, false, subst, IfSome, MatchOption}
use Rattle.mob_span.specs.Span.{has_instant}
use Rattle.mob_shares.proofs.Begins.{is_back}
use Rattle.mob_shares.proofs.shares.back_of_longer.Goals as goal

pub returns-clause-ends : goal.returns-clause-ends
returns-clause-ends c = subst (λ z. IfSome c.new.result (λ p. p ≡ z)) (is_back c.args.first.now c.args.span.now _ _ _ _ c.upper.ensures.value c.upper-2.ensures.value c.upper_inc.ensures.value c.upper_inc-2.ensures.value c.upper.ensures.some c.requires.together) c.new.ensures.ends

pub returns-clause-test : goal.returns-clause-test
returns-clause-test c = subst (λ z. MatchOption c.new.result (has_instant z ≡ false) (λ p. has_instant p ≡ true)) (is_back c.args.first.now c.args.span.now _ _ _ _ c.upper.ensures.value c.upper-2.ensures.value c.upper_inc.ensures.value c.upper_inc-2.ensures.value c.upper.ensures.some c.requires.together) c.new.ensures.test
