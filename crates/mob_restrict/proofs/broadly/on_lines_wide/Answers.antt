use Rattle.mob_slice.specs.declared.comparison.Rel.TheVariants.{Eq}
use Rattle.mob_restrict.proofs.Widely.{kept_narrow}
use Rattle.mob_restrict.proofs.broadly.on_lines_wide.Goals as goal

pub returns-in-Ok : goal.returns-in-Ok
returns-in-Ok g c = record { kept = kept_narrow g.C.Course.value_of g.C.Course.parts_of g.C.Compared.gaps_of (g.C.Compared.relation Eq) c.args.value.now c.args.want c.args.slice.now c.in-Ok.kept.items c.in-Ok.ensures.kept }
