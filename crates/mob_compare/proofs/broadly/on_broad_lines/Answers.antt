use Rattle.std.proofs.Common.{ap, ◌∙◌}
use Rattle.mob_slice.specs.Sides.{piece_of}
use Rattle.mob_cells.specs.Coordinates.{as_gaps}
use Rattle.mob_cells.{specs.Gaps.{piece_gaps}, proofs.PieceTurns.{level_piece}}
use Rattle.mob_compare.proofs.AtEach.{turned_given}
use Rattle.mob_compare.proofs.broadly.on_broad_lines.Goals as goal

pub turning_on-requires : goal.turning_on-requires
turning_on-requires g c =
    let p = piece_of c.args.piece.now in
    let first = c.in_ok-first.ensures.gaps ∙ ap (piece_gaps g.C.Course.value_of g.C.Compared.gaps_of p) c.lower.ensures.value in
    let last = c.in_ok-last.ensures.gaps ∙ ap (piece_gaps g.C.Course.value_of g.C.Compared.gaps_of p) c.upper.ensures.value in
    record { level = level_piece g.C.Course.value_of g.C.Compared.gaps_of p (as_gaps c.in_ok-first.first) (as_gaps c.in_ok-last.last) c.lower.ensures.some first last }

pub flagged_wide-requires : goal.flagged_wide-requires
flagged_wide-requires g c = record { inside = c.in_ok-turning.ensures.turning.inside }

pub returns : goal.returns
returns g c =
    let p = piece_of c.args.piece.now in
    let first = c.in_ok-first.ensures.gaps ∙ ap (piece_gaps g.C.Course.value_of g.C.Compared.gaps_of p) c.lower.ensures.value in
    let last = c.in_ok-last.ensures.gaps ∙ ap (piece_gaps g.C.Course.value_of g.C.Compared.gaps_of p) c.upper.ensures.value in
    record { given = turned_given g.met.C.Course.laws g.met.C.Compared.laws (λ v. v.items) c.flagged_wide.result p c.args.rel c.in_ok-turning.turning (as_gaps c.in_ok-first.first) (as_gaps c.in_ok-last.last) c.requires.moves c.requires.asked c.requires.holds c.lower.ensures.some first last c.in_ok-turning.ensures.turning c.flagged_wide.ensures.flags }
