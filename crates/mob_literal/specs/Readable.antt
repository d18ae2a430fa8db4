-- When the printed text of a point, a span, a span set, a box or a temporal value reads back as
-- that value.
use Rattle.std.{specs.Prelude.{◌≡◌, ◌≢◌, ◌+◌, ◌≤◌, ℕ, ℤ, List, [], ◌∷◌, length, Contains, Bool, true, Option, Some}, specs.Str.{is_utf8}}
use Rattle.mob_ratio.specs.Ratio.{Ratio}
use Rattle.mob_frac.specs.Fits.{Fits}
use Rattle.mob_geotext.{specs.BoxText.{HasDatedSides}, specs.Printable.{HasDatedEnds, HaveDatedEnds}}
use Rattle.mob_language.{specs.Language.{Text}, proofs.Exact.{Stops}}
use Rattle.mob_plane.specs.declared.point.Point.{Point}
use Rattle.mob_scalar.specs.MomentText.{IsDated}
use Rattle.mob_slice.{specs.declared.slice.Slice.{Slice}, specs.CourseOf.{CourseOf}, specs.Slices.{IsNormal}}
use Rattle.mob_span.{specs.Span.{SpanOf, has_instant}, specs.Sets.{IsSpanSet}}
use Rattle.mob_stbox.specs.Boxes.{BoxOf, is_box}
use Rattle.mob_written.{specs.declared.written.Prefixes.{Prefixes}, specs.Prefix.{begins_prefix}, specs.Printed.{Style, neighbour_groups, instants_of}, specs.Style.{style_of}}

-- the number of instants that the groups print
abbrev pub instants_in : {C B : Type 0} → Style C B → List (List (Slice C)) → ℕ
instants_in style [] = 0
instants_in style (group ∷ groups) = length (instants_of style group) + instants_in style groups

-- A value in normal form, whose values can be written, whose instants are in the years 0001 to
-- 9999, and which prints at most 100,000 of them.
pub record IsReadable {C B : Type 0} (course : CourseOf C B) (day : ℤ) (text : B → Text) (IsWritten : B → Type 0) (slices : List (Slice C)) : Type 0 where
  pub normal : IsNormal course.start course.end course.continues slices
  pub starts : (s : Slice C) → Contains slices s → IsWritten (course.start s.course)
  pub ends : (s : Slice C) → Contains slices s → IsWritten (course.end s.course)
  pub lowers : (s : Slice C) → Contains slices s → IsDated day s.span.lower
  pub uppers : (s : Slice C) → Contains slices s → IsDated day s.span.upper
  pub short : instants_in (style_of course text day) (neighbour_groups course slices) ≤ 100000

-- each slice ends with the value with which it starts, so step interpolation changes nothing
abbrev pub AreLevel : {C B : Type 0} → CourseOf C B → List (Slice C) → Type 0
AreLevel course slices = (s : Slice _) → Contains slices s → course.start s.course ≡ course.end s.course

-- the printed text of the value reads back as that value, which the type has, and does not begin
-- with the first letter of a prefix
pub record IsReadAgain {B : Type 0} (value : Text → Option B → Type 0) (text : B → Text) (has_value : B → Bool) (prefixes : Prefixes) (v : B) : Type 0 where
  pub read : value (text v) (Some v)
  pub of_type : has_value v ≡ true
  pub begun : Stops (begins_prefix prefixes) (text v)

-- every bool
abbrev pub AnyTruth : Bool → Type 0
AnyTruth b = Unit {0}

-- a whole number that fits
pub record IsInt (q : Ratio) : Type 0 where
  pub fits : Fits q
  pub is_whole : q.den ≡ 1

-- both coordinates fit
pub record PointFits (p : Point) : Type 0 where
  pub x_fits : Fits p.x
  pub y_fits : Fits p.y

-- the span has an instant, and its ends are in the years 0001 to 9999
pub record IsReadableSpan (day : ℤ) (s : SpanOf) : Type 0 where
  pub some : has_instant s ≡ true
  pub dated : HasDatedEnds day s

-- The spans are a span set that has an instant and at most 100,000 ends, which are in the years
-- 0001 to 9999.
pub record IsReadableSet (day : ℤ) (spans : List SpanOf) : Type 0 where
  pub normal : IsSpanSet spans
  pub some : spans ≢ []
  pub short : length spans ≤ 50000
  pub dated : HaveDatedEnds day spans

-- The box has a dimension, each least coordinate is at most the greatest one, and its span has an
-- instant. Its coordinates fit, and the ends of its span are in the years 0001 to 9999.
pub record IsReadableBox (day : ℤ) (b : BoxOf) : Type 0 where
  pub stands : is_box b ≡ true
  pub dated : HasDatedSides day b

-- the text is UTF-8, as all text is
abbrev pub IsText : Text → Type 0
IsText v = is_utf8 v ≡ true
