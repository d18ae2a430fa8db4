use Rattle.std.proofs.Common.{pos, sym, subst}
use Rattle.mob_ratio.{specs.Ratio.{whole, ◌<ℚ◌}, proofs.Order.{before-lt}}
use Rattle.mob_frac.{proofs.PartsOfLines.{inner_last}, proofs.Roughs.{apart_above}}
use Rattle.mob_frac.proofs.interpolation.roughly_within.Goals as goal

pub over-requires : goal.over-requires
over-requires c = record { above = subst (λ z. whole (pos 0) <ℚ z) (sym c.in_ok-b.ensures.value.0) (apart_above c.args.l.now c.args.u.now (before-lt _ _ c.requires.long)) }

pub returns : goal.returns
returns c = record { value = inner_last _ _ _ _ _ _ c.in_ok-a.a c.in_ok-b.b c.in_ok-q.q c.in_ok-c.c c.in_ok-e.e c.requires.long c.in_ok-a.ensures.value c.in_ok-b.ensures.value c.in_ok-q.ensures.value c.in_ok-c.ensures.value c.in_ok-e.ensures.value c.added_to.ensures.exact }
