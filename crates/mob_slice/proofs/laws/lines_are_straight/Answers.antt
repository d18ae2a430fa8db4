use Rattle.mob_ratio.proofs.LineAt.{line_at-is}
use Rattle.mob_slice.proofs.laws.lines_are_straight.Goals as goal

pub returns : goal.returns
returns c = record {
  numbers = λ d l u t h. line_at-is d.from d.to l u t h;
  points = λ d l u t h. (line_at-is d.from.x d.to.x l u t h, line_at-is d.from.y d.to.y l u t h);
}
