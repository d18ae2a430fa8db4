use Rattle.std.{proofs.Common.{◌∙◌, ap, map, refl}, proofs.lemmas.Simd.{map-map}}
use Rattle.mob_lift.{specs.Common.{common_left}, specs.Ones.{ones_left}, specs.Pieces.{both_move, left_moves, right_moves}, proofs.Beside.{map_clear, both_hold, left_holds, right_holds}}
use Rattle.mob_lift.proofs.walks.pieces.Pieces.new.Goals as goal

pub returns-in-Moving-b-clause-clear : goal.returns-in-Moving-b-clause-clear
returns-in-Moving-b-clause-clear g c = map_clear (λ p. p.span) (λ p. p.span) both_move (λ p. refl) (common_left c.new.result) c.new.ensures.clear

pub returns-in-Moving-b-clause-hold : goal.returns-in-Moving-b-clause-hold
returns-in-Moving-b-clause-hold g c = both_hold g.A.Course.start_of g.A.Course.end_of g.B.Course.start_of g.B.Course.end_of (common_left c.new.result) c.new.ensures.hold

pub returns-in-Fixed-b-clause-all : goal.returns-in-Fixed-b-clause-all
returns-in-Fixed-b-clause-all g c = rw (c.in-Moving.is, c.in-Fixed-b.is) (ap (map (left_moves c.in-Fixed-b.base.now)) c.new-in-Fixed-b.ensures.all ∙ map-map (left_moves c.in-Fixed-b.base.now) (λ s. (s.span, s)) c.in-Moving.left.now)

pub returns-in-Fixed-b-clause-clear : goal.returns-in-Fixed-b-clause-clear
returns-in-Fixed-b-clause-clear g c = map_clear (λ p. p.0) (λ p. p.span) (left_moves c.in-Fixed-b.base.now) (λ p. refl) (ones_left c.new-in-Fixed-b.result) c.new-in-Fixed-b.ensures.clear

pub returns-in-Fixed-b-clause-hold : goal.returns-in-Fixed-b-clause-hold
returns-in-Fixed-b-clause-hold g c = left_holds g.A.Course.start_of g.A.Course.end_of g.B.Course.start_of g.B.Course.end_of c.in-Fixed-b.base.now (ones_left c.new-in-Fixed-b.result) c.new-in-Fixed-b.ensures.hold

pub returns-in-Moving-b-2-clause-all : goal.returns-in-Moving-b-2-clause-all
returns-in-Moving-b-2-clause-all g c = rw (c.in-Fixed.is, c.in-Moving-b-2.is) (ap (map (right_moves c.in-Fixed.base.now)) c.new-in-Moving-b-2.ensures.all ∙ map-map (right_moves c.in-Fixed.base.now) (λ s. (s.span, s)) c.in-Moving-b-2.right.now)

pub returns-in-Moving-b-2-clause-clear : goal.returns-in-Moving-b-2-clause-clear
returns-in-Moving-b-2-clause-clear g c = map_clear (λ p. p.0) (λ p. p.span) (right_moves c.in-Fixed.base.now) (λ p. refl) (ones_left c.new-in-Moving-b-2.result) c.new-in-Moving-b-2.ensures.clear

pub returns-in-Moving-b-2-clause-hold : goal.returns-in-Moving-b-2-clause-hold
returns-in-Moving-b-2-clause-hold g c = right_holds g.A.Course.start_of g.A.Course.end_of g.B.Course.start_of g.B.Course.end_of c.in-Fixed.base.now (ones_left c.new-in-Moving-b-2.result) c.new-in-Moving-b-2.ensures.hold
