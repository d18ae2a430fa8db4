use Rattle.std.proofs.Common.{sym, ◌∙◌}
use Rattle.mob_shares.{specs.Shares.{rest_of}, proofs.Next.{alone_left, alone_right, none_left, of_heads, some_head}}
use Rattle.mob_shares.proofs.shares.Shares.peek.Goals as goal

pub returns-in_default-first : goal.returns-in_default-first
returns-in_default-first g c = record { next = none_left (rest_of c.args.self.now.lefts) (rest_of c.args.self.now.rights) c.in_default.ensures.first c.in_default-first.ensures.first }

pub returns-in_default : goal.returns-in_default
returns-in_default g c = record { next = sym (alone_right (rest_of c.args.self.now.lefts) (rest_of c.args.self.now.rights) _ c.in_default.ensures.first c.in-Some-first.ensures.first) }

pub returns-in_default-first-2 : goal.returns-in_default-first-2
returns-in_default-first-2 g c = record { next = sym (alone_left (rest_of c.args.self.now.lefts) (rest_of c.args.self.now.rights) _ c.in-Some.ensures.first c.in_default-first-2.ensures.first) }

pub first_share-requires : goal.first_share-requires
first_share-requires g c = record {
  left = some_head (rest_of c.args.self.now.lefts) _ c.in-Some.ensures.first c.requires.can.0;
  right = some_head (rest_of c.args.self.now.rights) _ c.in-Some-first-2.ensures.first c.requires.can.1;
}

pub returns : goal.returns
returns g c = record { next = sym (of_heads (rest_of c.args.self.now.lefts) (rest_of c.args.self.now.rights) _ _ c.in-Some.ensures.first c.in-Some-first-2.ensures.first ∙ c.first_share.ensures.next) }
