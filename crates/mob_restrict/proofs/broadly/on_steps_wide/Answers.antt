use Rattle.mob_slice.specs.declared.comparison.Rel.TheVariants.{Eq}
use Rattle.mob_restrict.proofs.{ToOne.{steady_first}, Widely.{kept_alike}}
use Rattle.mob_restrict.proofs.broadly.on_steps_wide.Goals as goal

pub returns : goal.returns
returns g c = record { kept = kept_alike g.C.Course.value_of g.C.Course.parts_of g.C.Compared.gaps_of (g.C.Compared.relation Eq) c.args.value.now c.args.want c.args.slice.now g.C.Course.start_of g.C.Course.end_of (λ v. v.items) (steady_first g.met.C.Course.laws g.met.C.Compared.laws c.args.slice.now c.requires.sound c.args.value.now c.requires.steady) c.on_steps.result c.on_steps.ensures.kept }
