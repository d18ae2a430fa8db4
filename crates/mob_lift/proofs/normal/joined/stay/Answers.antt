use Rattle.std.proofs.Common.{rules, ◌≡◌, true, false, not, Bool, refl, sym}
use Rattle.mob_lift.proofs.Joins.{join_kept}
use Rattle.mob_lift.proofs.normal.joined.stay.Goals as goal

no_truth : (b : Bool) → not b ≡ true → b ≡ false
no_truth false h = refl
no_truth true h = sym h

pub returns : goal.returns
returns g c = record {
  stay = λ h. join_kept g.met.C.Course.laws c.args.left.now c.args.right.now c.requires.left_sound c.requires.right_sound c.requires.clear (search rules) (search rules) (c.is_double.ensures.double (no_truth c.is_double.result h));
}
