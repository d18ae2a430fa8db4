use Rattle.std.proofs.Common.{ap, ◌∙◌}
use Rattle.mob_slice.specs.declared.comparison.Rel.TheVariants.{Eq}
use Rattle.mob_cells.specs.Coordinates.{as_gaps}
use Rattle.mob_cells.proofs.PieceTurns.{equal_turn, level_piece, turning_piece}
use Rattle.mob_restrict.{specs.Values.{slice_gaps}, proofs.Widely.{beside, beside_holds, turned_kept}}
use Rattle.mob_restrict.proofs.broadly.on_broad_lines.Goals as goal

pub turning_on-requires : goal.turning_on-requires
turning_on-requires g c =
    let s = c.args.slice.now in
    let x = c.args.value.now in
    let first = c.in_ok-first.ensures.gaps ∙ ap (slice_gaps g.C.Course.value_of g.C.Compared.gaps_of x s) c.lower.ensures.value in
    let last = c.in_ok-last.ensures.gaps ∙ ap (slice_gaps g.C.Course.value_of g.C.Compared.gaps_of x s) c.upper.ensures.value in
    record { level = level_piece g.C.Course.value_of g.C.Compared.gaps_of (beside s x) (as_gaps c.in_ok-first.first) (as_gaps c.in_ok-last.last) c.requires.sound.some first last }

pub kept_wide-requires-clause-inside : goal.kept_wide-requires-clause-inside
kept_wide-requires-clause-inside g c = c.in_ok-turning.ensures.turning.inside

pub kept_wide-requires-clause-held : goal.kept_wide-requires-clause-held
kept_wide-requires-clause-held g c =
    let s = c.args.slice.now in
    let x = c.args.value.now in
    let first = c.in_ok-first.ensures.gaps ∙ ap (slice_gaps g.C.Course.value_of g.C.Compared.gaps_of x s) c.lower.ensures.value in
    let last = c.in_ok-last.ensures.gaps ∙ ap (slice_gaps g.C.Course.value_of g.C.Compared.gaps_of x s) c.upper.ensures.value in
    let results = turning_piece g.C.Course.value_of g.C.Compared.gaps_of (beside s x) (as_gaps c.in_ok-first.first) (as_gaps c.in_ok-last.last) Eq c.in_ok-turning.turning first last c.in_ok-turning.ensures.turning in
    equal_turn g.met.C.Course.laws g.met.C.Compared.laws (beside s x) (beside_holds g.C.Course.start_of g.C.Course.end_of s x c.requires.sound) c.requires.sound.some c.requires.moves c.in_ok-turning.turning Eq results

pub returns : goal.returns
returns g c =
    let s = c.args.slice.now in
    let x = c.args.value.now in
    let first = c.in_ok-first.ensures.gaps ∙ ap (slice_gaps g.C.Course.value_of g.C.Compared.gaps_of x s) c.lower.ensures.value in
    let last = c.in_ok-last.ensures.gaps ∙ ap (slice_gaps g.C.Course.value_of g.C.Compared.gaps_of x s) c.upper.ensures.value in
    let results = turning_piece g.C.Course.value_of g.C.Compared.gaps_of (beside s x) (as_gaps c.in_ok-first.first) (as_gaps c.in_ok-last.last) Eq c.in_ok-turning.turning first last c.in_ok-turning.ensures.turning in
    record { kept = turned_kept g.met.C.Course.laws g.met.C.Compared.laws (λ v. v.items) c.kept_wide.result c.args.want s x c.in_ok-turning.turning c.requires.moves c.requires.sound results c.kept_wide.ensures.kept }
