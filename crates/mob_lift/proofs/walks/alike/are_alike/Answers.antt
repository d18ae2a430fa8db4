use Rattle.std.proofs.Common.{◌∙◌, sym}
use Rattle.mob_ratio.proofs.Order.{same_exact}
use Rattle.mob_lift.proofs.walks.alike.are_alike.Goals as goal

pub returns : goal.returns
returns g c = record {
  alike = λ h. record {
    lower = sym c.lower.ensures.value ∙ (same_exact c.lower.result.now c.lower-2.result.now).0 (sym c.is_same.ensures.value ∙ c.if-not-is_same.false) ∙ c.lower-2.ensures.value;
    upper = sym c.upper.ensures.value ∙ (same_exact c.upper.result.now c.upper-2.result.now).0 (sym c.is_same-2.ensures.value ∙ c.if-not-is_same-2.false) ∙ c.upper-2.ensures.value;
    course = g.met.C.Course.laws.by_ends c.args.a.now.course c.args.b.now.course
        (sym c.start.ensures.limit ∙ c.same.ensures.exact.0 c.if-not-same.false ∙ c.start-2.ensures.limit)
        (sym c.end.ensures.limit ∙ c.same-2.ensures.exact.0 h ∙ c.end-2.ensures.limit);
  };
}
