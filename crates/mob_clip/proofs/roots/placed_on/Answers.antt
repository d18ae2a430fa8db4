use Rattle.std.{proofs.Common.{rules, ◌≡◌, map}, proofs.lemmas.Result.{err_from_is_err_and}}
use Rattle.mob_clip.{specs.Roots.{place_edge}, proofs.Judging.{all_known, besides_fail, turned_fail, placed_fail, cuts_fail, none_fails, are_ways, level_ways, are_placed}}
use Rattle.mob_clip.proofs.roots.placed_on.Goals as goal

pub returns-in_err-besides : goal.returns-in_err-besides
returns-in_err-besides c =
    let p = err_from_is_err_and c.from_residual.result c.from_residual.ensures.1 in
    record { placed = rw (p.1, p.2) (besides_fail c.args.edges.now c.args.slice.now c.requires.sound c.in_err-besides.field-0.0 c.in_err-besides.ensures.made) }

pub turned-requires : goal.turned-requires
turned-requires c = record { known = all_known c.args.slice.now.course.from c.args.slice.now.course.to c.args.edges.now c.as_slice.result.now (search rules) c.in_ok-besides.ensures.made.1 }

pub returns-in_err-turned : goal.returns-in_err-turned
returns-in_err-turned c =
    let p = err_from_is_err_and c.from_residual-in_err-turned.result c.from_residual-in_err-turned.ensures.1 in
    record { placed = rw (p.1, p.2) (turned_fail c.args.edges.now c.args.slice.now c.requires.sound c.as_slice.result.now (search rules) c.in_ok-besides.ensures.made.1 c.in_err-turned.field-0.0 c.in_err-turned.ensures.made) }

pub placed-requires : goal.placed-requires
placed-requires c =
    let es = c.args.edges.now in
    let s = c.args.slice.now in
    let gs = c.as_slice-2.result.now in
    record { level = level_ways es s c.requires.sound gs (are_ways es s c.requires.sound c.as_slice.result.now (search rules) gs (search rules)) }

pub returns-in_err-placed : goal.returns-in_err-placed
returns-in_err-placed c =
    let p = err_from_is_err_and c.from_residual-in_err-placed.result c.from_residual-in_err-placed.ensures.1 in
    record { placed = rw (p.1, p.2) (placed_fail c.args.edges.now c.args.slice.now c.requires.sound c.as_slice.result.now (search rules) c.in_ok-besides.ensures.made.1 c.in_ok-turned.ensures.made.1 c.as_slice-2.result.now (search rules) c.in_err-placed.field-0.0 c.in_err-placed.ensures.made) }

pub roots_fit-requires : goal.roots_fit-requires
roots_fit-requires c =
    let es = c.args.edges.now in
    let s = c.args.slice.now in
    let gs = c.as_slice-2.result.now in
    let l : c.as_slice-3.result.now ≡ map (place_edge s.span) gs = search rules in
    record { placed = are_placed s.span gs c.as_slice-3.result.now l (level_ways es s c.requires.sound gs (are_ways es s c.requires.sound c.as_slice.result.now (search rules) gs (search rules))) }

pub returns-in_err-roots_fit : goal.returns-in_err-roots_fit
returns-in_err-roots_fit c =
    let p = err_from_is_err_and c.from_residual-in_err-roots_fit.result c.from_residual-in_err-roots_fit.ensures.1 in
    record { placed = rw (p.1, p.2) (cuts_fail c.args.edges.now c.args.slice.now c.requires.sound c.as_slice.result.now (search rules) c.in_ok-besides.ensures.made.1 c.in_ok-turned.ensures.made.1 c.as_slice-2.result.now (search rules) c.in_ok-placed.ensures.made.1 c.as_slice-3.result.now (search rules) c.in_err-roots_fit.field-0.0 c.in_err-roots_fit.ensures.fits) }

pub returns : goal.returns
returns c =
    let ps = c.in_ok-placed.placed.items in
    let n : c.as_slice-3.result.now ≡ ps = search rules in
    record { placed = none_fails c.args.edges.now c.args.slice.now c.requires.sound c.as_slice.result.now (search rules) c.in_ok-besides.ensures.made.1 c.in_ok-turned.ensures.made.1 c.as_slice-2.result.now (search rules) c.in_ok-placed.ensures.made.1 ps (search rules) (rw n at c.in_ok-roots_fit.ensures.fits) }
