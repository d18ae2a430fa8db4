-- The lines of the table file, as a loop adds them.
use Rattle.std.{specs.List.{range_with_len}, proofs.Common.{◌≡◌, ◌∙◌, ◌<◌, ◌≤◌, ◌+◌, ◌-◌, ◌++◌, ℕ, ap, sym, flat_map, codes, append_assoc, append-nil, arith}}
use Rattle.mob_language.specs.Language.{Text}
use Rattle.mob_demo.{specs.Demo.{demo_file_text, line_text}, proofs.Ranges.{range_begins, range_over}}

-- the lines of the ships from this one on
abbrev pub lines_from : ℕ → ℕ → Text
lines_from ship ships = flat_map line_text (range_with_len ship (ships + 1 - ship))

pub no_line_yet : (ships : ℕ) (now : Text) → now ≡ codes "id,trip\n" → now ++ lines_from 1 ships ≡ demo_file_text ships
unfolding demo_file_text
no_line_yet ships now is =
    let e : ships + 1 - 1 ≡ ships = omega arith in
    ap (λ (t : Text). t ++ lines_from 1 ships) is ∙ ap (λ n. codes "id,trip\n" ++ flat_map line_text (range_with_len 1 n)) e

pub one_line_more : (ship ships : ℕ) (old now whole : Text) → ship < ships + 1 → now ≡ old ++ line_text ship
    → old ++ lines_from ship ships ≡ whole → now ++ lines_from (ship + 1) ships ≡ whole
one_line_more ship ships old now whole within added is =
    ap (λ (t : Text). t ++ lines_from (ship + 1) ships) added
    ∙ append_assoc old (line_text ship) (lines_from (ship + 1) ships)
    ∙ ap (λ rest. old ++ flat_map line_text rest) (sym (range_begins ship (ships + 1) within))
    ∙ is

pub all_lines : (ship ships : ℕ) (now whole : Text) → ships + 1 ≤ ship → now ++ lines_from ship ships ≡ whole → now ≡ whole
all_lines ship ships now whole over is =
    sym (append-nil now) ∙ ap (λ rest. now ++ flat_map line_text rest) (sym (range_over ship (ships + 1) over)) ∙ is
