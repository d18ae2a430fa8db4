use Rattle.std.proofs.Common.{sym, true≢false, ◌∙◌}
use Rattle.mob_shares.{specs.Shares.{cut_of}, proofs.Begins.{begin_back, none_front}, proofs.Next.{front_left, front_right, meet_both}, proofs.Spans.{share_some}}
use Rattle.mob_shares.proofs.shares.first_share.Goals as goal

pub returns-then-begin_together : goal.returns-then-begin_together
returns-then-begin_together g c =
    let together = c.begin_together.ensures.together c.if-begin_together.true in
    record { next = meet_both (cut_of c.args.left.now) (cut_of c.args.right.now) (none_front _ _ together) (none_front _ _ (begin_back _ _ together)) c.shorter-span.result c.shorter-span.ensures.meet }

pub returns-in-Some : goal.returns-in-Some
returns-in-Some g c = record { next = front_left (cut_of c.args.left.now) (cut_of c.args.right.now) c.in-Some.span c.in-Some.ensures.ends c.in-Some.ensures.test }

pub returns-in-Some-front : goal.returns-in-Some-front
returns-in-Some-front g c = record { next = front_right (cut_of c.args.left.now) (cut_of c.args.right.now) c.in_default.ensures.test c.in-Some-front.span c.in-Some-front.ensures.ends c.in-Some-front.ensures.test }

pub unreachable-requires : goal.unreachable-requires
unreachable-requires g c = true≢false (sym (share_some c.args.left.now.span c.args.right.now.span c.requires.left c.requires.right c.in_default.ensures.test c.in_default-front.ensures.test) ∙ c.in_default-meet.ensures.test)

pub returns : goal.returns
returns g c = record { next = meet_both (cut_of c.args.left.now) (cut_of c.args.right.now) c.in_default.ensures.test c.in_default-front.ensures.test c.in-Some-meet.span c.in-Some-meet.ensures.ends }
