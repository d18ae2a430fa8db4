-- Examples, worked by hand: which texts are boxes, and which box each denotes.
use Rattle.std.{specs.Prelude.{is_some}, proofs.Common.{◌≡◌, true, pos, Option, None, codes, refl}}
use Rattle.mob_language.{specs.Language.{Text}, specs.Readers.{all_of, within_blanks_at}}
use Rattle.mob_numeral.{specs.Blanks.{some_blanks_at}, specs.Fitting.{number_value_at}}
use Rattle.mob_numeral.specs.NumberReaders.{numeral_at, sign_at, digits_at, tail_at, over_at, decimal_at, point_at, exponent_at, power_at}
use Rattle.mob_points.specs.Points.{close_bracket_at}
use Rattle.mob_scalar.specs.Brackets.{comma_at}
use Rattle.mob_geotext.{specs.declared.boxes.NotedBox.{NotedBox}, specs.Boxes.{open_bracket_at, corner_at, corners_at, space_alone_at, space_and_time_at, time_alone_at, with_space_at, written_box_at}}

abbrev read : Text → Option NotedBox
read text = all_of (within_blanks_at (written_box_at (pos 0))) text

-- mixed letter case, and blanks beside each bracket and comma and at both ends
in_full : is_some (read (codes " stbox  x ( ( 2 , -1/2 ) , ( 0 , 3 ) ) ")) ≡ true
unfolding written_box_at with_space_at time_alone_at space_and_time_at space_alone_at corners_at corner_at open_bracket_at close_bracket_at comma_at some_blanks_at number_value_at numeral_at sign_at digits_at tail_at over_at decimal_at point_at exponent_at power_at
in_full = refl

-- a blank must follow the word
no_blank : read (codes "STBOXX((0,0),(1,1))") ≡ None
unfolding written_box_at some_blanks_at
no_blank = refl

-- no blank may be between X and T
parted : read (codes "STBOX X T(((0,0),(1,1)),[2001-01-01,2001-01-02])") ≡ None
unfolding written_box_at with_space_at time_alone_at space_and_time_at space_alone_at some_blanks_at
parted = refl

-- one corner does not make a box
one_corner : read (codes "STBOX X((0,0))") ≡ None
unfolding written_box_at with_space_at time_alone_at space_and_time_at space_alone_at corners_at corner_at open_bracket_at close_bracket_at comma_at some_blanks_at number_value_at numeral_at sign_at digits_at tail_at over_at decimal_at point_at exponent_at power_at
one_corner = refl

-- a box has no SRID
other_system : read (codes "SRID=0;STBOX X((0,0),(1,1))") ≡ None
unfolding written_box_at
other_system = refl
