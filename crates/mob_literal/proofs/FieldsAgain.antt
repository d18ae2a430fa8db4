-- The field of a value reads back as that value.
use Rattle.std.{specs.Prelude.{nat_eq, is_some, ◌&&◌, ◌||◌}, proofs.Common.{◌≡◌, ℕ, ℤ, List, [], ◌∷◌, Bool, true, false, cond, Option, Some, None, refl, sym, subst, true≢false, Ok, rules}}
use Rattle.std.proofs.lemmas.Bool.{and_parts as both, eqb-true}
use Rattle.mob_ratio.specs.Ratio.{Ratio}
use Rattle.mob_frac.specs.Fits.{Fits}
use Rattle.mob_geotext.{specs.BoxText.{box_text, dimensions_text}, specs.PolygonText.{polygon_text}, specs.SpanText.{span_text, span_set_text}}
use Rattle.mob_language.{specs.Language.{Text, is_digit, is_number_sign, is_exponent_letter}, proofs.Heads.{Apart}}
use Rattle.mob_plane.specs.declared.point.Point.{Point}
use Rattle.mob_points.specs.PointText.{point_text}
use Rattle.mob_span.specs.Span.{SpanOf}
use Rattle.mob_stbox.{specs.Boxes.{BoxOf, is_box, area_stands, span_stands}, specs.declared.area.Area.{Area}}
use Rattle.mob_slice.{specs.declared.slice.Slice.{Slice}, specs.CourseOf.{CourseOf}}
use Rattle.mob_ast.specs.declared.types.SqlType.{SqlType}
use Rattle.mob_value.specs.declared.value.Value.{Value}
use Rattle.mob_numeral.{specs.NumberText.{number_text}, proofs.Again.{number_plain}, proofs.WholeTexts.{number_head, number_byte}}
use Rattle.mob_scalar.{specs.MomentText.{moment_text, IsDated}, specs.Truth.{truth_text}, specs.Quoted.{quoted_text}, proofs.MomentAgain.{moment_plain}, proofs.WholeTexts.{moment_head, moment_byte}}
use Rattle.mob_written.{specs.Printed.{moving_text}, specs.Style.{style_of}}
use Rattle.mob_literal.{specs.Readable.{IsReadable}, specs.SqlReadable.{IsReadableAs}, specs.SqlText.{SaysAs}}
use Rattle.mob_literal.specs.Fields.{is_null_text, is_empty, is_null_field, doubled, undoubled, text_of_field, field_text}
use Rattle.mob_literal.{proofs.Begun.{IsBegun, IsNoSign, begun_front, begun_said, bracket_begun, readable_begun}, proofs.SqlAgain.{value_again}}
use Rattle.mob_ast.specs.declared.types.SqlType.TheVariants as sql
use Rattle.mob_value.specs.declared.value.Value.TheVariants as value

-- ---- texts that do not begin with a backslash

abbrev is_backslash : ℕ → Bool
is_backslash c = nat_eq c 92

abbrev IsPlain : Text → Type 0
IsPlain text = IsBegun is_backslash text

sign_plain : Apart is_number_sign is_backslash
sign_plain c e = search rules

digit_plain : Apart is_digit is_backslash
digit_plain c e = search rules

e_plain : Apart is_exponent_letter is_backslash
e_plain c e = search rules

truth_is_plain : (b : Bool) → IsPlain (truth_text b)
truth_is_plain true = record { first = 116; rest = []; is = refl; other = refl }
truth_is_plain false = record { first = 102; rest = []; is = refl; other = refl }

number_is_plain : (q : Ratio) → Fits q → IsPlain (number_text q)
number_is_plain q h = let n = number_plain q h in begun_said is_backslash (number_head is_backslash sign_plain digit_plain refl refl e_plain) number_byte (number_text q) n.0 n.1

moment_is_plain : (day : ℤ) (t : Ratio) → IsDated day t → IsPlain (moment_text day t)
moment_is_plain day t d = let m = moment_plain day t d.fits d.dated in begun_said is_backslash (moment_head is_backslash digit_plain) moment_byte (moment_text day t) m.0 m.1

quoted_is_plain : (v : Text) → IsPlain (quoted_text v)
unfolding quoted_text
quoted_is_plain v = record { first = 34; rest = _; is = refl; other = refl }

no_backslash : IsNoSign is_backslash
no_backslash = record { brace = refl; included = refl; left_out = refl }

first_value : {C B : Type 0} {course : CourseOf C B} {day : ℤ} {text : B → Text} {IsWritten : B → Type 0} → ((v : B) → IsWritten v → IsPlain (text v)) → (slices : List (Slice C)) → IsReadable course day text IsWritten slices → IsPlain (moving_text (style_of course text day) slices)
first_value plain slices r = readable_begun is_backslash no_backslash plain slices r

-- ---- points, polygons, spans, span sets and boxes

point_is_plain : (p : Point) → IsPlain (point_text p)
point_is_plain p = record { first = 80; rest = _; is = refl; other = refl }

polygon_is_plain : (rings : List (List Point)) → IsPlain (polygon_text rings)
polygon_is_plain rings = record { first = 80; rest = _; is = refl; other = refl }

dimensions_are_plain : (day : ℤ) (space : Option Area) (time : Option SpanOf) → (is_some space || is_some time) ≡ true → IsPlain (dimensions_text day space time)
dimensions_are_plain day (Some a) None h = record { first = 83; rest = _; is = refl; other = refl }
dimensions_are_plain day None (Some s) h = record { first = 83; rest = _; is = refl; other = refl }
dimensions_are_plain day (Some a) (Some s) h = record { first = 83; rest = _; is = refl; other = refl }
dimensions_are_plain day None None h = absurd (true≢false (sym h))

box_is_plain : (day : ℤ) (b : BoxOf) → is_box b ≡ true → IsPlain (box_text day b)
box_is_plain day b h = dimensions_are_plain day b.space b.time (both (is_some b.space || is_some b.time) (area_stands b.space && span_stands b.time) h).0

span_is_plain : (day : ℤ) (s : SpanOf) → IsPlain (span_text day s)
span_is_plain day s = begun_front is_backslash _ _ (bracket_begun is_backslash no_backslash s.lower_inc)

set_is_plain : (day : ℤ) (spans : List SpanOf) → IsPlain (span_set_text day spans)
set_is_plain day spans = record { first = 123; rest = _; is = refl; other = refl }

-- ---- fields

-- a field that is not NULL in any column
plain_null : (text : Text) → IsPlain text → (is_empty text ≡ false) × (is_null_text text ≡ false)
plain_null text p =
    let other : nat_eq p.first 92 ≡ false = p.other in
    subst (λ (t : Text). (is_empty t ≡ false) × (is_null_text t ≡ false)) (sym p.is) (refl, rw other refl)

not_null : (text : Text) → IsPlain text → cond (is_empty text) true (is_null_text text) ≡ false
not_null text p = let n = plain_null text p in rw (n.0, n.1) refl

doubled_null : (t : Text) → is_null_text (doubled t) ≡ false
unfolding doubled
doubled_null [] = refl
doubled_null (c ∷ cs) = by_byte (nat_eq c 92) refl
  where
    by_byte : (b : Bool) → nat_eq c 92 ≡ b → is_null_text (cond b (92 ∷ c ∷ cs) (c ∷ cs)) ≡ false
    by_byte true e = rw (eqb-true c 92 e) refl
    by_byte false e = rw e refl

doubled_again : (t : Text) → undoubled (doubled t) ≡ t
unfolding doubled undoubled
doubled_again [] = refl
doubled_again (c ∷ cs) = by_byte (nat_eq c 92) refl
  where
    by_byte : (b : Bool) → nat_eq c 92 ≡ b → undoubled (cond b (92 ∷ c ∷ cs) (c ∷ cs)) ≡ c ∷ cs
    by_byte true e = rw e refl
    by_byte false e = rw e refl

-- the field denotes the value: it is not NULL, and its text is read as the value
pub record SaysField (type : SqlType) (day : ℤ) (field : Text) (v : Value) : Type 0 where
  pub there : is_null_field type field ≡ false
  pub says : SaysAs type day (text_of_field type field) (Ok v)

pub field_again : (type : SqlType) (day : ℤ) (v : Value) → IsReadableAs type day v → SaysField type day (field_text day v) v
field_again sql.Bool day (value.Bool b) h = record { there = not_null _ (truth_is_plain b); says = value_again sql.Bool day (value.Bool b) h }
field_again sql.Int day (value.Number q) h = record { there = not_null _ (number_is_plain q h.fits); says = value_again sql.Int day (value.Number q) h }
field_again sql.Numeric day (value.Number q) h = record { there = not_null _ (number_is_plain q h); says = value_again sql.Numeric day (value.Number q) h }
field_again sql.Text day (value.Text t) h = record { there = doubled_null t; says = subst (λ (x : Text). SaysAs sql.Text day x (Ok (value.Text t))) (sym (doubled_again t)) (value_again sql.Text day (value.Text t) h) }
field_again sql.Moment day (value.Moment t) h = record { there = not_null _ (moment_is_plain day t h); says = value_again sql.Moment day (value.Moment t) h }
field_again sql.Point day (value.Point p) h = record { there = not_null _ (point_is_plain p); says = value_again sql.Point day (value.Point p) h }
field_again sql.Polygon day (value.Polygon rings) h = record { there = not_null _ (polygon_is_plain rings); says = value_again sql.Polygon day (value.Polygon rings) h }
field_again sql.Span day (value.Span s) h = record { there = not_null _ (span_is_plain day s); says = value_again sql.Span day (value.Span s) h }
field_again sql.SpanSet day (value.SpanSet v) h = record { there = not_null _ (set_is_plain day v); says = value_again sql.SpanSet day (value.SpanSet v) h }
field_again sql.Box day (value.Box b) h = record { there = not_null _ (box_is_plain day b h.stands); says = value_again sql.Box day (value.Box b) h }
field_again sql.TBool day (value.MovingBool v) h = record { there = not_null _ (first_value (λ b w. truth_is_plain b) v h); says = value_again sql.TBool day (value.MovingBool v) h }
field_again sql.TInt day (value.MovingInt v) h = record { there = not_null _ (first_value (λ q w. number_is_plain q w.fits) v h); says = value_again sql.TInt day (value.MovingInt v) h }
field_again sql.TFrac day (value.MovingFrac v) h = record { there = not_null _ (first_value (λ q w. number_is_plain q w) v h); says = value_again sql.TFrac day (value.MovingFrac v) h }
field_again sql.TText day (value.MovingText v) h = record { there = not_null _ (first_value (λ t w. quoted_is_plain t) v h); says = value_again sql.TText day (value.MovingText v) h }
field_again sql.TPoint day (value.MovingPoint v) h = record { there = not_null _ (first_value (λ p w. point_is_plain p) v h); says = value_again sql.TPoint day (value.MovingPoint v) h }
field_again type day v h = absurd h

pub null_again : (type : SqlType) (day : ℤ) → is_null_field type (field_text day value.Null) ≡ true
null_again sql.Text day = refl
null_again type day = refl
