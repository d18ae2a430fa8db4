-- The printed text of a temporal value reads back as that value.
use Rattle.std.{specs.Prelude.{◌↔◌, IsTrue, Contains, MatchOption, not, nat_eq, nat_lt}, specs.Char.{to_ascii_lowercase}, specs.List.{list_all}}
use Rattle.std.{proofs.Common.{◌≡◌, ℕ, ℤ, ◌+◌, ◌≤◌, List, [], ◌∷◌, ◌++◌, length, map, Bool, true, false, Option, Some, Ok, refl, sym, ap, subst, ◌∙◌, arith, inl}, proofs.lemmas.List.{length-map}}
use Rattle.std.proofs.lemmas.Bool.{and_parts as both, and_right, not-true as not_true}
use Rattle.mob_ratio.{specs.Ratio.{Ratio}, specs.Order.{same}, proofs.Order.{same_exact}}
use Rattle.mob_slice.{specs.Sameness.{same_bytes, same_bytes_exact}, specs.declared.slice.Slice.{Slice}, specs.declared.steady.Steady.{Steady}, specs.CourseOf.{CourseOf, steady_course}}
use Rattle.mob_slice.{specs.SteadyLaws.{steady_laws}, specs.Slices.{OfHead, IsClearOf, AreNormal, IsNormalPair, value_at}}
use Rattle.mob_language.{specs.Language.{Text}, proofs.Exact.{Stops}}
use Rattle.mob_numeral.{specs.Verdict.{Lit}, specs.NumberText.{number_text}, specs.Fitting.{number_value}, proofs.Fitted.{number_value_said}}
use Rattle.mob_scalar.{specs.Truth.{truth_text}, specs.Quoted.{quoted_text}, specs.Traverse.{traverse}, proofs.TruthAgain.{truth_plain}, proofs.BracketsSaid.{moment_said}}
use Rattle.mob_list.proofs.Entries.{all_by_each}
use Rattle.mob_span.specs.Flags.{same_bool, same_bool_exact}
use Rattle.mob_written.{specs.declared.written.Written.{Written}, specs.declared.written.Sequence.{Sequence}, specs.Printed.{is_long, neighbour_groups, instants_of, moving_text}}
use Rattle.mob_written.{specs.Style.{style_of}, specs.Values.{any_value, is_whole_number, truth_value, quoted_value}, specs.Prefix.{Prefix, ArePrefixes, admitted, remaining, says_step, begins_prefix}}
use Rattle.mob_written.proofs.Small.{false_true, some_none}
use Rattle.mob_literal.{specs.Sound.{instant_count, written_of, fitting_sequence, fitting_all, is_sound, Defines, literals, steps}, specs.Sequences.{is_step}}
use Rattle.mob_literal.{specs.Readable.{AreLevel, IsReadable, instants_in, AnyTruth, IsInt, IsText}, proofs.Drawn.{IsLawful, lawful}, proofs.FlatLemmas.{flat, Ordered, IsFlat, is_flat}}
use Rattle.mob_literal.proofs.GroupSlices.{start_of, more, sequence_of, are_groups, joined, IsKept, AreKept, HasAll, is_short, sound_groups, flat_values}
use Rattle.mob_literal.proofs.GroupTexts.{note, noted_of_group, printed_literal, written_text, IsSliceSaid, AreSaid, ArePoints, instants_are, printed_said}

-- ---- the numbers of the sequences fit, and there are as many instants as are printed

noted_fits : {B : Type 0} (is : List (Written B)) → traverse written_of (map note is) ≡ Some is
noted_fits [] = refl
noted_fits (i ∷ is) = rw (noted_fits is) refl

module _ {C B : Type 0} (course : CourseOf C B) where
  group_fits : (group : List (Slice C)) → fitting_sequence (noted_of_group course group) ≡ Some (sequence_of course group)
  group_fits [] = refl
  group_fits (s ∷ group) = rw (noted_fits (more course s group)) refl

  groups_fit : (groups : List (List (Slice C))) → fitting_all (map (noted_of_group course) groups) ≡ Some (map (sequence_of course) groups)
  groups_fit [] = refl
  groups_fit (group ∷ groups) = rw (group_fits group, groups_fit groups) refl

  -- ---- the slices one by one

  normal_ordered : (slices : List (Slice C)) → AreNormal course.start course.end course.continues slices → Ordered course slices
  normal_ordered [] n = tt
  normal_ordered (s ∷ rest) n = (n.0, head rest n.1, normal_ordered rest n.2)
    where
      head : (rest : List (Slice C)) → OfHead (IsNormalPair course.start course.end course.continues) s rest → OfHead IsClearOf s rest
      head [] h = tt
      head (r ∷ rest) h = h.in_order

  all_points : (slices : List (Slice C)) → Ordered course slices → list_all (λ (s : Slice C). not (is_long s)) slices ≡ true → ArePoints slices
  all_points [] n h = tt
  all_points (s ∷ rest) n h =
      let a = both (not (is_long s)) (list_all (λ (r : Slice C). not (is_long r)) rest) h in
      let short = not_true (is_long s) a.0 in
      let i = is_short s.span.lower s.span.upper s.span.lower_inc s.span.upper_inc n.0.some short in
      ((short, i.lower, i.upper), all_points rest n.2 a.1)

count_is : {C B : Type 0} (course : CourseOf C B) (day : ℤ) (value : Text → Option B → Type 0) (text : B → Text) (groups : List (List (Slice C))) → instant_count (map (noted_of_group course) groups) ≡ instants_in (style_of course text day) groups
count_is course day value text [] = refl
count_is course day value text ([] ∷ groups) = ap (λ (n : ℕ). 0 + n) (count_is course day value text groups)
count_is {C} {B} course day value text ((s ∷ group) ∷ groups) =
    ap (λ (n : ℕ). n + instant_count (map (noted_of_group course) groups)) (sym one)
    ∙ ap (λ (n : ℕ). length (instants_of (style_of course text day) (s ∷ group)) + n) (count_is course day value text groups)
  where
    one : length (instants_of (style_of course text day) (s ∷ group)) ≡ length (map note (start_of course s ∷ more course s group))
    one = ap length (instants_are course day value text s group) ∙ length-map (start_of course s ∷ more course s group) (written_text course day value text) ∙ sym (length-map (start_of course s ∷ more course s group) note)

not_long : (count : ℕ) → count ≤ 100000 → nat_lt 100000 count ≡ true → ⊥
not_long count h e = absurd (grind (arith, h, e))

-- under step interpolation each slice ends with the value with which it starts
kept_of : {C B : Type 0} (course : CourseOf C B) → IsLawful course → (said : Bool) (slices : List (Slice C)) → (said ≡ true → AreLevel course slices) → (s : Slice C) → Contains slices s → is_step course.steady said ≡ true → course.start s.course ≡ course.end s.course
kept_of course laws true slices level s c h = level refl s c
kept_of course laws false slices level s c h = laws.one_end h s.course

not_step : (steady said : Bool) → is_step steady said ≡ false → steady ≡ false
not_step steady true h = absurd cc
not_step steady false h = h

pub moving_again : {C B : Type 0} (course : CourseOf C B) → IsLawful course → (day : ℤ) (value : Text → Option B → Type 0) (text : B → Text) (IsWritten : B → Type 0) (has_value : B → Bool)
    → ((v : B) → IsWritten v → value (text v) (Some v))
    → ((v : B) → IsWritten v → has_value v ≡ true)
    → (slices : List (Slice C)) → IsReadable course day text IsWritten slices
    → (has_srid : Bool) (before : List Prefix) (front : Text) → ArePrefixes (admitted course.steady has_srid) front before
    → Stops (begins_prefix (remaining (admitted course.steady has_srid) before)) (moving_text (style_of course text day) slices)
    → (says_step before ≡ true → AreLevel course slices)
    → Lit (literals day has_srid value has_value course) (front ++ moving_text (style_of course text day) slices) (Ok slices)
moving_again {C} {B} course laws day value text IsWritten has_value say has slices r has_srid before front are stops level =
    let step = is_step course.steady (says_step before) in
    let moves = not_step course.steady (says_step before) in
    let kept : AreKept has_value course laws step moves slices = all_by_each (IsKept has_value course laws step moves) slices (λ s c. kept_of course laws (says_step before) slices level s c) in
    let ordered = normal_ordered course slices r.normal.chained in
    let groups = neighbour_groups course slices in
    let g = are_groups course slices in
    let said : AreSaid course day value text slices = all_by_each (IsSliceSaid course day value text) slices (λ s c. record { start_value = say (course.start s.course) (r.starts s c); end_value = say (course.end s.course) (r.ends s c); lower_said = moment_said day s.span.lower (r.lowers s c); upper_said = moment_said day s.span.upper (r.uppers s c) }) in
    let values : HasAll has_value course laws step moves slices = all_by_each (λ (s : Slice C). (has_value (course.start s.course) ≡ true) × (has_value (course.end s.course) ≡ true)) slices (λ s c. (has (course.start s.course) (r.starts s c), has (course.end s.course) (r.ends s c))) in
    let in_groups : Ordered course (joined groups) = subst (Ordered course) (sym g.whole) ordered in
    let kept_groups : AreKept has_value course laws step moves (joined groups) = subst (AreKept has_value course laws step moves) (sym g.whole) kept in
    let sound : is_sound has_value course step (map (sequence_of course) groups) ≡ true = sound_groups has_value course laws step moves groups g.together in_groups kept_groups (subst (HasAll has_value course laws step moves) (sym g.whole) values) in
    let its : IsFlat course step (map (sequence_of course) groups) (flat course step (map (sequence_of course) groups)) = is_flat has_value course laws step moves (map (sequence_of course) groups) sound in
    let same_values : (t : Ratio) → value_at course.value (flat course step (map (sequence_of course) groups)) t ≡ value_at course.value slices t = λ t. flat_values has_value course laws step moves groups g.together in_groups kept_groups t ∙ ap (λ (x : List (Slice C)). value_at course.value x t) g.whole in
    let defined : Defines course step (map (sequence_of course) groups) slices = record { normal = r.normal; same = λ t v. ((λ e. (its.same t v).0 (same_values t ∙ e)), (λ l. sym (same_values t) ∙ (its.same t v).1 l)) } in
    let fit = groups_fit course groups in (
      printed_literal course day value text before slices,
      printed_said course day value text (admitted course.steady has_srid) before front slices are stops r.normal.some said (all_points course slices ordered),
      (λ e. not_long (instant_count (map (noted_of_group course) groups)) (subst (λ (n : ℕ). n ≤ 100000) (sym (count_is course day value text groups)) r.short) e),
      (λ e. some_none (map (sequence_of course) groups) (sym fit ∙ e)),
      (λ e. false_true (sym (subst (λ (o : Option (List (Sequence (Written B)))). MatchOption o ⊥ (λ qs. is_sound has_value course step qs ≡ false)) fit e) ∙ sound)),
      subst (λ (o : Option (List (Sequence (Written B)))). MatchOption o ⊥ (λ qs. Defines course step qs slices)) (sym fit) defined,
    )

-- the laws of step values
pub steady_lawful : {B : Type 0} (is_same : B → B → Bool) → ((a b : B) → IsTrue (is_same a b) ↔ (a ≡ b)) → IsLawful (steady_course is_same)
steady_lawful is_same exact = lawful is_same exact (steady_laws false is_same exact)

-- nothing comes before the literals of step values
nothing_begins : (rest : Text) → Stops (begins_prefix (admitted true false)) rest
nothing_begins [] = tt
nothing_begins (c ∷ cs) = rw (and_right (nat_eq (to_ascii_lowercase c) 105) false refl, and_right (nat_eq (to_ascii_lowercase c) 115) false refl) refl

bare_again : {B : Type 0} (is_same : B → B → Bool) → ((a b : B) → IsTrue (is_same a b) ↔ (a ≡ b)) → (day : ℤ) (value : Text → Option B → Type 0) (text : B → Text) (IsWritten : B → Type 0) (has_value : B → Bool)
    → ((v : B) → IsWritten v → value (text v) (Some v))
    → ((v : B) → IsWritten v → has_value v ≡ true)
    → (slices : List (Slice (Steady B))) → IsReadable (steady_course is_same) day text IsWritten slices
    → Lit (steps day value has_value is_same) (moving_text (style_of (steady_course is_same) text day) slices) (Ok slices)
bare_again is_same exact day value text IsWritten has_value say has slices r =
    moving_again (steady_course is_same) (steady_lawful is_same exact) day value text IsWritten has_value say has slices r false [] [] refl (nothing_begins _) (λ h. absurd (false_true h))

-- ---- the values of each type

truth_said : (b : Bool) → AnyTruth b → truth_value (truth_text b) (Some b)
truth_said b h = record { meant = b; said = truth_plain b; is = refl }

number_said : (q : Ratio) → IsInt q → number_value (number_text q) (Some q)
number_said q h = number_value_said q h.fits

whole_test : (q : Ratio) → IsInt q → is_whole_number q ≡ true
whole_test q h = rw h.is_whole refl

text_said : (v : Text) → IsText v → quoted_value (quoted_text v) (Some v)
text_said v h = record { meant = v; said = record { said = inl refl; holds = h }; is = refl }

pub truths_again : (day : ℤ) (v : List (Slice (Steady Bool))) → IsReadable (steady_course same_bool) day truth_text AnyTruth v → Lit (steps day truth_value any_value same_bool) (moving_text (style_of (steady_course same_bool) truth_text day) v) (Ok v)
truths_again day = bare_again same_bool same_bool_exact day truth_value truth_text AnyTruth any_value truth_said (λ b h. refl)

pub numbers_again : (day : ℤ) (v : List (Slice (Steady Ratio))) → IsReadable (steady_course same) day number_text IsInt v → Lit (steps day number_value is_whole_number same) (moving_text (style_of (steady_course same) number_text day) v) (Ok v)
numbers_again day = bare_again same same_exact day number_value number_text IsInt is_whole_number number_said whole_test

pub texts_again : (day : ℤ) (v : List (Slice (Steady Text))) → IsReadable (steady_course same_bytes) day quoted_text IsText v → Lit (steps day quoted_value any_value same_bytes) (moving_text (style_of (steady_course same_bytes) quoted_text day) v) (Ok v)
texts_again day = bare_again same_bytes same_bytes_exact day quoted_value quoted_text IsText any_value text_said (λ v h. refl)
