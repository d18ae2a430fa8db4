use Rattle.std.{specs.Prelude.{◌≡◌}, proofs.Common.{◌∙◌, sym, subst}}
use Rattle.mob_ratio.proofs.Order.{same_exact}
use Rattle.mob_near.specs.Known.{SquaredOf}
use Rattle.mob_near.proofs.known.is_squared.Goals as goal

pub returns : goal.returns
returns c =
    record {
      value = λ e. subst (λ (z : SquaredOf). (z.x ≡ c.args.x.now) × (z.y ≡ c.args.y.now)) c.squared.view_is (
        (same_exact c.squared.inside.x c.args.x.now).0 (sym c.is_same.ensures.value ∙ c.if-not-is_same.false),
        (same_exact c.squared.inside.y c.args.y.now).0 (sym c.is_same-2.ensures.value ∙ e),
      );
    }
