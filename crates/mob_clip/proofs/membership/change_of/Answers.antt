use Rattle.std.proofs.Common.{sym, ◌∙◌}
use Rattle.mob_clip.proofs.Changing.{some_change, none_change}
use Rattle.mob_clip.proofs.membership.change_of.Goals as goal

pub returns-in-Some-clause-signs : goal.returns-in-Some-clause-signs
returns-in-Some-clause-signs c = λ t h. rw (c.sign_of-lower.ensures.sign, c.sign_of-upper.ensures.sign) (some_change c.args.span.now c.args.placed.now.ends c.in-Some.r t c.requires.placed.level (sym c.requires.placed.root ∙ c.in-Some.is) h)

pub returns-in-None-clause-signs : goal.returns-in-None-clause-signs
returns-in-None-clause-signs c = λ t h. rw (c.without_root.ensures.change, c.sign_of-lower.ensures.sign, c.sign_of-upper.ensures.sign) (none_change c.args.span.now c.args.placed.now.ends t c.requires.placed.level (sym c.requires.placed.root ∙ c.in-None.is) h)
