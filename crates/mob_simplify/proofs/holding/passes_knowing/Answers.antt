use Rattle.std.proofs.Common.{rules, ◌≡◌, [], ◌∷◌, ◌++◌, sym}
use Rattle.mob_ratio.proofs.Order.{before-trans}
use Rattle.mob_simplify.proofs.Sifting.{by_held, until_more}
use Rattle.mob_simplify.proofs.holding.passes_knowing.Goals as goal

pub is_sure-requires : goal.is_sure-requires
is_sure-requires c = record { after = before-trans c.args.p.now.instant c.args.here.now.instant c.args.n.now.instant c.requires.long c.requires.until }

pub returns-then-is_sure-clause-between : goal.returns-then-is_sure-clause-between
returns-then-is_sure-clause-between c =
    let put : c.push.new.self.items ≡ c.args.held.now.items ++ c.args.here.now ∷ [] = search rules in
    until_more c.args.p.now.instant c.args.here.now c.args.held.now.items c.push.new.self.items c.requires.long put c.requires.between

pub returns-then-is_sure-clause-value : goal.returns-then-is_sure-clause-value
returns-then-is_sure-clause-value c between alike sure = sym (sure c.args.n.now c.requires.until (c.is_sure.ensures.sure c.if-is_sure.true))

pub returns-clause-value : goal.returns-clause-value
returns-clause-value c between alike sure = by_held c.args.limit.now.distance c.args.p.now c.args.here.now.instant c.tested.new.held.items _ between c.args.n.now c.in_ok-pass.pass c.requires.until c.in_ok-pass.ensures.alike alike c.in_ok-pass.ensures.value
