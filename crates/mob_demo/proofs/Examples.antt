-- Positions of the demo's first ship, as printed.
use Rattle.std.{proofs.Common.{◌≡◌, ◌∙◌, ◌++◌, ap, refl, codes, arith}, proofs.lemmas.Fmt.{decimal_digit}}
use Rattle.mob_language.specs.Language.{Text}
use Rattle.mob_scalar.specs.MomentText.{padded}
use Rattle.mob_demo.{specs.Demo.{minute_text, position_text, ship_x, ship_y}, specs.Examples.{FirstPositions}, proofs.Digits.{one_padded, three_digits}}

no_hour : padded 2 0 ≡ codes "00"
no_hour = one_padded 0 (omega arith) ∙ ap (λ (t : Text). codes "0" ++ t) (decimal_digit 0 (omega arith))

one_minute : padded 2 1 ≡ codes "01"
one_minute = one_padded 1 (omega arith) ∙ ap (λ (t : Text). codes "0" ++ t) (decimal_digit 1 (omega arith))

-- a position from the texts of its numbers
abbrev text_of : Text → Text → Text → Text → Text
text_of x y hour minute =
    codes "POINT(" ++ (x ++ (codes " " ++ (y ++ (codes ")@" ++ (codes "2001-01-01 " ++ (hour ++ (codes ":" ++ (minute ++ codes ":00+00"))))))))

same_text : (x u y v h i m n : Text) → x ≡ u → y ≡ v → h ≡ i → m ≡ n → text_of x y h m ≡ text_of u v i n
same_text x u y v h i m n a b c d = rw (a, b, c, d) refl

begins : position_text 1 0 ≡ codes "POINT(173 311)@2001-01-01 00:00:00+00"
unfolding position_text minute_text ship_x ship_y
begins = same_text _ _ _ _ _ _ _ _ (three_digits 173 (omega arith) (omega arith)) (three_digits 311 (omega arith) (omega arith)) no_hour no_hour

goes_on : position_text 1 1 ≡ codes "POINT(196 331)@2001-01-01 00:01:00+00"
unfolding position_text minute_text ship_x ship_y
goes_on = same_text _ _ _ _ _ _ _ _ (three_digits 196 (omega arith) (omega arith)) (three_digits 331 (omega arith) (omega arith)) no_hour one_minute

pub first_positions : FirstPositions
first_positions = record { begins = begins; goes_on = goes_on }
