use Rattle.std.{specs.List.{flat_map}, proofs.Common.{arith, ◌+◌, drop, refl}, proofs.Math.ListN.{drop_of_length-le}, proofs.lemmas.Result.{err_from_is_err_and}}
use Rattle.mob_list.{proofs.Each.{each_get}, proofs.Entries.{drop_read}}
use Rattle.mob_slice.{specs.Cut.{slice_parts}, specs.Lines.{plane_parts_of}, specs.declared.formula.Formula.TheVariants.{F1}}
use Rattle.mob_cells.proofs.Making.{read_of}
use Rattle.mob_clip.{specs.Roots.{IsBetweenEnds}, proofs.Listing.{checking_step, checking_fails, checking_end, fault_of_all}}
use Rattle.mob_clip.proofs.roots.all_fit.Goals as goal

pub fits_at-requires : goal.fits_at-requires
fits_at-requires c =
    let xs = c.args.roots.now in
    let i = c.loop-r.r-index in
    record { within = each_get (IsBetweenEnds c.args.slice.now.span) xs i c.r-item.result c.requires.within (read_of xs xs i c.r-item.result refl (omega arith) c.r-item.is) }

pub returns-in_err-fits_at : goal.returns-in_err-fits_at
returns-in_err-fits_at c =
    let p = err_from_is_err_and c.from_residual.result c.from_residual.ensures.1 in
    let at = c.loop-r in
    let xs = c.args.roots.now in
    let r = c.r-item.result in
    let parts = slice_parts plane_parts_of c.args.slice.now in
    record { fits = rw (p.1, p.2) (fault_of_all F1 (parts r) (flat_map parts xs) c.in_err-fits_at.field-0.0 c.in_err-fits_at.ensures.fits (λ n. checking_fails parts xs (drop at.r-index xs) (drop (at.r-index + 1) xs) r (drop_read xs at.r-index r (omega arith) c.r-item.is) n at.invariant)) }

pub loop-r-preserved : goal.loop-r-preserved
loop-r-preserved c =
    let at = c.loop-r in
    let xs = c.args.roots.now in
    let r = c.r-item.result in
    checking_step (slice_parts plane_parts_of c.args.slice.now) xs (drop at.r-index xs) (drop (at.r-index + 1) xs) r (drop_read xs at.r-index r (omega arith) c.r-item.is) c.in_ok-fits_at.ensures.fits at.invariant

pub returns : goal.returns
returns c =
    let at = c.loop-r in
    let xs = c.args.roots.now in
    record { fits = checking_end (slice_parts plane_parts_of c.args.slice.now) xs (drop at.r-index xs) (drop_of_length-le xs c.loop-r-test.false) at.invariant }
