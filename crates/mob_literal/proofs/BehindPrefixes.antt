-- A printed temporal value reads back as itself after each of the prefixes that its type admits.
use Rattle.std.{specs.Prelude.{nat_eq, Contains}, specs.Char.{to_ascii_lowercase}, proofs.Common.{◌≡◌, ℕ, ℤ, List, [], ◌∷◌, ◌++◌, Bool, true, false, Option, Some, Ok, refl, sym, ap, subst, ◌∙◌}}
use Rattle.std.proofs.lemmas.Bool.{and_right, or_parts}
use Rattle.mob_language.{specs.Language.{Text, Language}, proofs.Exact.{Stops}, proofs.Heads.{stops_less, HasByte}}
use Rattle.mob_list.proofs.Entries.{first_in}
use Rattle.mob_slice.{specs.declared.slice.Slice.{Slice}, specs.CourseOf.{CourseOf}}
use Rattle.mob_numeral.specs.Verdict.{Lit}
use Rattle.mob_written.{specs.declared.written.Prefixes.{Prefixes}, specs.Prefix.{Prefix, interpolation, reference, without_text, ArePrefixes, admitted, remaining, says_step, is_first, begins_prefix}}
use Rattle.mob_written.{specs.declared.written.Literal.{Literal}, specs.Literal.{Prefixed, literal}, specs.Printed.{moving_text}, specs.Style.{style_of}, proofs.Small.{false_true}}
use Rattle.mob_literal.{specs.Readable.{AreLevel, IsReadAgain, IsReadable}, specs.Sound.{literals}, proofs.Drawn.{IsLawful}, proofs.Begun.{IsBegun, IsNoSign, begun_by, begun_stops, moving_begun}}
use Rattle.mob_literal.proofs.MovingAgain.{moving_again}

none_first : (letter c : ℕ) → is_first letter false c ≡ false
none_first letter c = and_right (nat_eq (to_ascii_lowercase c) letter) false refl

-- fewer prefixes have fewer first letters
fewer_first : (p : Prefix) (a : Prefixes) (c : ℕ) → begins_prefix a c ≡ false → begins_prefix (without_text p a) c ≡ false
fewer_first interpolation a c h = let k = or_parts (is_first 105 a.step c) (is_first 115 a.srid c) h in rw (none_first 105 c, k.1) refl
fewer_first reference a c h = let k = or_parts (is_first 105 a.step c) (is_first 115 a.srid c) h in rw (k.0, none_first 115 c) refl

left_first : (before : List Prefix) (a : Prefixes) (c : ℕ) → begins_prefix a c ≡ false → begins_prefix (remaining a before) c ≡ false
left_first [] a c h = h
left_first (p ∷ before) a c h = left_first before (without_text p a) c (fewer_first p a c h)

pub prefix_signs : (a : Prefixes) → IsNoSign (begins_prefix a)
prefix_signs a = record { brace = refl; included = refl; left_out = refl }

pub behind_prefixes : {C B : Type 0} (course : CourseOf C B) → IsLawful course → (day : ℤ) (has_srid : Bool) (value : Language (Option B)) → HasByte value → (text : B → Text) (has_value : B → Bool)
    → (slices : List (Slice C)) → IsReadable course day text (IsReadAgain value text has_value (admitted course.steady has_srid)) slices
    → (before : List Prefix) (front : Text) → ArePrefixes (admitted course.steady has_srid) front before → (says_step before ≡ true → AreLevel course slices)
    → Lit (literals day has_srid value has_value course) (front ++ moving_text (style_of course text day) slices) (Ok slices)
behind_prefixes {C} {B} course laws day has_srid value byte text has_value slices r before front are level =
    moving_again course laws day value text (IsReadAgain value text has_value (admitted course.steady has_srid)) has_value (λ v w. w.read) (λ v w. w.of_type) slices r has_srid before front are stops level
  where
    begun : (s : Slice C) (rest : List (Slice C)) → slices ≡ s ∷ rest → IsBegun (begins_prefix (admitted course.steady has_srid)) (text (course.start s.course))
    begun s rest e =
        let is : IsReadAgain value text has_value (admitted course.steady has_srid) (course.start s.course) = subst (λ (xs : List (Slice C)). ((x : Slice C) → Contains xs x → IsReadAgain value text has_value (admitted course.steady has_srid) (course.start x.course)) → IsReadAgain value text has_value (admitted course.steady has_srid) (course.start s.course)) (sym e) (λ f. f s (first_in s rest)) r.starts in
        begun_by (begins_prefix (admitted course.steady has_srid)) (text (course.start s.course)) is.begun (byte (text (course.start s.course)) (Some (course.start s.course)) is.read)

    stops : Stops (begins_prefix (remaining (admitted course.steady has_srid) before)) (moving_text (style_of course text day) slices)
    stops = stops_less (begins_prefix (admitted course.steady has_srid)) (begins_prefix (remaining (admitted course.steady has_srid) before)) (left_first before (admitted course.steady has_srid)) (moving_text (style_of course text day) slices)
        (begun_stops (begins_prefix (admitted course.steady has_srid)) (moving_text (style_of course text day) slices) (moving_begun (begins_prefix (admitted course.steady has_srid)) (prefix_signs (admitted course.steady has_srid)) (style_of course text day) slices begun))

-- if no prefix is admitted, the literal has none
pub record IsBare {A : Type 0} (entry : Text → A → Type 0) (text : Text) (v : Literal A) : Type 0 where
  pub alone : literal entry text v.sequences
  pub unsaid : v.says_step ≡ false

pub bare : {A : Type 0} (entry : Text → A → Type 0) (text : Text) (v : Literal A) → Prefixed (admitted true false) entry text v → IsBare entry text v
bare {A} entry text v p = by_said p.said p.prefixes p.step
  where
    by_said : (said : List Prefix) → ArePrefixes (admitted true false) p.front said → v.says_step ≡ says_step said → IsBare entry text v
    by_said [] are step = record { alone = subst (λ (t : Text). literal entry t v.sequences) (sym (p.whole ∙ ap (λ (t : Text). t ++ p.back) are)) p.sequences; unsaid = step }
    by_said (interpolation ∷ said) are step = absurd (false_true are.3)
    by_said (reference ∷ said) are step = absurd (false_true are.3)
