-- The printed text of a tfrac or a tgeompoint reads back as that value: no part of it can be taken
-- for a prefix.
use Rattle.std.proofs.Common.{ℕ, ℤ, List, [], Bool, true, false, Option, Some, Ok, refl, rules}
use Rattle.mob_ratio.{specs.Ratio.{Ratio}, specs.Order.{same}, proofs.Order.{same_exact}}
use Rattle.mob_frac.specs.Fits.{Fits}
use Rattle.mob_language.{specs.Language.{Text, is_digit, is_number_sign, is_exponent_letter}, proofs.Heads.{Apart}}
use Rattle.mob_plane.{specs.Points.{same_point, same_point_exact}, specs.declared.point.Point.{Point}}
use Rattle.mob_slice.{specs.declared.slice.Slice.{Slice}, specs.declared.line.Line.{Line}, specs.declared.line.PlaneLine.{PlaneLine}, specs.CourseOf.{CourseOf, line_course, plane_course}}
use Rattle.mob_slice.{specs.LineLaws.{line_laws}, specs.PlaneLaws.{plane_laws}}
use Rattle.mob_numeral.{specs.Fitting.{number_value}, specs.NumberText.{number_text}, specs.Verdict.{Lit}, proofs.Again.{number_plain}, proofs.Fitted.{number_value_said}}
use Rattle.mob_numeral.proofs.WholeTexts.{number_head, number_byte}
use Rattle.mob_points.{specs.Points.{point_value}, specs.PointText.{point_text}, proofs.PointsAgain.{point_plain, unreferenced}}
use Rattle.mob_written.{specs.Prefix.{admitted, begins_prefix}, specs.Printed.{moving_text}, specs.Style.{style_of}, specs.Values.{any_value}, proofs.Small.{false_true}}
use Rattle.mob_literal.{specs.Readable.{IsReadable, PointFits}, specs.Sound.{literals}, proofs.Begun.{IsBegun, begun_said, begun_stops, readable_begun}, proofs.BehindPrefixes.{prefix_signs}}
use Rattle.mob_literal.{proofs.Drawn.{IsLawful, lawful}, proofs.MovingAgain.{moving_again}}

-- a printed value reads back without a prefix if the text of none of its values begins as a prefix
-- does
again_alone : {C B : Type 0} (course : CourseOf C B) → IsLawful course → (day : ℤ) (value : Text → Option B → Type 0) (text : B → Text) (IsWritten : B → Type 0) (has_srid : Bool)
    → ((v : B) → IsWritten v → value (text v) (Some v))
    → ((v : B) → IsWritten v → IsBegun (begins_prefix (admitted course.steady has_srid)) (text v))
    → (slices : List (Slice C)) → IsReadable course day text IsWritten slices
    → Lit (literals day has_srid value any_value course) (moving_text (style_of course text day) slices) (Ok slices)
again_alone course laws day value text IsWritten has_srid say begun slices r =
    moving_again course laws day value text IsWritten any_value say (λ v w. refl) slices r has_srid [] [] refl
    (begun_stops (begins_prefix (admitted course.steady has_srid)) (moving_text (style_of course text day) slices) (readable_begun (begins_prefix (admitted course.steady has_srid)) (prefix_signs (admitted course.steady has_srid)) begun slices r))
    (λ h. absurd (false_true h))

-- ---- a tfrac

abbrev is_i : ℕ → Bool
is_i c = begins_prefix (admitted false false) c

sign_apart : Apart is_number_sign is_i
sign_apart c e = search rules

digit_apart : Apart is_digit is_i
digit_apart c e = search rules

exponent_apart : Apart is_exponent_letter is_i
exponent_apart c e = search rules

number_begun : (q : Ratio) → Fits q → IsBegun is_i (number_text q)
number_begun q h = let n = number_plain q h in begun_said is_i (number_head is_i sign_apart digit_apart refl refl exponent_apart) number_byte (number_text q) n.0 n.1

pub lines_again : (day : ℤ) (v : List (Slice Line)) → IsReadable line_course day number_text Fits v → Lit (literals day false number_value any_value line_course) (moving_text (style_of line_course number_text day) v) (Ok v)
lines_again day = again_alone line_course (lawful same same_exact line_laws) day number_value number_text Fits false number_value_said number_begun

-- ---- a tgeompoint

point_said : (p : Point) → PointFits p → point_value (point_text p) (Some p)
point_said p h = unreferenced (point_text p) (Some p) (point_plain p h.x_fits h.y_fits)

point_begun : (p : Point) → PointFits p → IsBegun (begins_prefix (admitted false true)) (point_text p)
point_begun p h = record { first = 80; rest = _; is = refl; other = refl }

pub plane_lines_again : (day : ℤ) (v : List (Slice PlaneLine)) → IsReadable plane_course day point_text PointFits v → Lit (literals day true point_value any_value plane_course) (moving_text (style_of plane_course point_text day) v) (Ok v)
plane_lines_again day = again_alone plane_course (lawful same_point same_point_exact plane_laws) day point_value point_text PointFits true point_said point_begun
