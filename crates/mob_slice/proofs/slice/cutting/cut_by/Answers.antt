use Rattle.std.proofs.Common.{refl}
use Rattle.mob_slice.{specs.Cut.{slice_parts}, proofs.Cuts.{first_fault}}
use Rattle.mob_slice.proofs.slice.cutting.cut_by.Goals as goal

pub cut_from-requires : goal.cut_from-requires
cut_from-requires g c = let looked = rw c.in-Ok.is at c.requires.looked in record { holds = c.requires.holds; from = looked.0; fits = looked.1 }

pub returns-in-Err : goal.returns-in-Err
returns-in-Err g c = record { slice = first_fault (slice_parts g.C.Course.parts_of c.args.slice.now) c.args.span.now g.C.Course.copy_allocates _ _ refl (rw c.in-Err.is at c.requires.looked) }
