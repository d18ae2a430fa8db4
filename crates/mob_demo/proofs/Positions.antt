-- The positions of a ship, as a loop adds them.
use Rattle.std.{specs.List.{range_with_len}, proofs.Common.{◌≡◌, ◌∙◌, ◌<◌, ◌≤◌, ◌+◌, ◌-◌, ◌/◌, ◌%◌, ◌++◌, [], ℕ, ap, sym, refl, codes, length, append_assoc, arith}}
use Rattle.mob_language.specs.Language.{Text}
use Rattle.mob_scalar.{specs.Brackets.{more_texts}, specs.MomentText.{padded}, proofs.CommasWritten.{commas_done}}
use Rattle.mob_demo.{specs.Demo.{minute_text, position_text, positions_text}, proofs.Ranges.{range_begins, range_over}}

-- five texts, one after another
five_written : (old a b c d now p q r s t : Text) → a ≡ old ++ p → b ≡ a ++ q → c ≡ b ++ r → d ≡ c ++ s → now ≡ d ++ t → now ≡ old ++ (p ++ (q ++ (r ++ (s ++ t))))
five_written old a b c d now p q r s t first second third fourth fifth = fifth ∙ rw (fourth, third, second, first) (simp append_assoc)

pub minute_written : (minute : ℕ) (old a b c d now : Text) → a ≡ old ++ codes "2001-01-01 " → b ≡ a ++ padded 2 (minute / 60) → c ≡ b ++ codes ":"
    → d ≡ c ++ padded 2 (minute % 60) → now ≡ d ++ codes ":00+00" → now ≡ old ++ minute_text minute
unfolding minute_text
minute_written minute old a b c d now first second third fourth fifth =
    five_written old a b c d now (codes "2001-01-01 ") (padded 2 (minute / 60)) (codes ":") (padded 2 (minute % 60)) (codes ":00+00") first second third fourth fifth

-- the positions from a minute on, each after a comma
abbrev pub positions_from : ℕ → ℕ → Text
positions_from minute ship = more_texts (position_text ship) (range_with_len minute (61 - minute))

pub one_position_more : (minute ship : ℕ) (old comma now whole : Text) → minute < 61 → comma ≡ old ++ codes ", " → now ≡ comma ++ position_text ship minute
    → old ++ positions_from minute ship ≡ whole → now ++ positions_from (minute + 1) ship ≡ whole
one_position_more minute ship old comma now whole within behind added is =
    let rest = positions_from (minute + 1) ship in
    let here = position_text ship minute in
    ap (λ (t : Text). t ++ rest) added ∙ ap (λ (t : Text). (t ++ here) ++ rest) behind
    ∙ ap (λ (t : Text). t ++ rest) (append_assoc old (codes ", ") here) ∙ append_assoc old (codes ", " ++ here) rest
    ∙ ap (λ left. old ++ more_texts (position_text ship) left) (sym (range_begins minute 61 within))
    ∙ is

pub all_positions : (minute ship : ℕ) (old started now : Text) → 61 ≤ minute → started ≡ old ++ position_text ship 0
    → now ++ positions_from minute ship ≡ started ++ positions_from 1 ship → now ≡ old ++ positions_text ship
unfolding positions_text
all_positions minute ship old started now over start is =
    let none : now ++ [] ≡ now ++ positions_from minute ship = ap (λ left. now ++ more_texts (position_text ship) left) (sym (range_over minute 61 over)) in
    let sixty : length (range_with_len 1 60) ≡ 60 = refl in
    commas_done (position_text ship) (range_with_len 0 61) 0 (range_with_len 1 60) 60 old started now refl (omega arith) start (none ∙ is)
