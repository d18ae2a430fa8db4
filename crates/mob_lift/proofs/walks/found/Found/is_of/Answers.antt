use Rattle.std.proofs.Common.{◌∙◌, sym, subst}
use Rattle.mob_ratio.proofs.Order.{same_exact}
use Rattle.mob_lift.{specs.Found.{FoundOf, IsFoundOn}, proofs.Kept.{same_found}}
use Rattle.mob_lift.proofs.walks.found.Found.is_of.Goals as goal

pub returns : goal.returns
returns g c =
    let s = c.args.slice.now in
    let t = c.args.t.now in
    let f : FoundOf _ = record { slice = c.self.inside.slice; at = c.self.inside.at; value = c.self.inside.value } in
    record {
      value = λ e. subst (λ (z : FoundOf _). IsFoundOn g.C.Course.value_of g.C.Course.end_of g.C.Course.parts_of s t z.value) c.self.view_is (same_found g.C.Course.value_of g.C.Course.end_of g.C.Course.parts_of f s t c.self.invariant ((same_exact f.at t).0 (sym c.is_same.ensures.value ∙ c.if-not-is_same.false)) (c.are_alike.ensures.alike e));
    }
