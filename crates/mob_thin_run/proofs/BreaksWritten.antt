-- The breaks of a trip that was read are at written instants and places: the instants are in the
-- years 0001 to 9999, and all their numbers fit.
use Rattle.std.{specs.Prelude.{◌≡◌, ◌∷◌, ◌++◌, ◌^◌, [], ℤ, Bool, true, false, cond, List, map, nat_lt, nat_abs, Option, Some, None, MatchOption, Ok, refl}, specs.List.{AllByRecursion}}
use Rattle.std.{proofs.Common.{sym, ◌∙◌, subst, inl, inr}, proofs.lemmas.Bool.{and_parts}}
use Rattle.mob_ratio.specs.Ratio.{Ratio}
use Rattle.mob_frac.specs.Fits.{Fits}
use Rattle.mob_language.{specs.Language.{Text, Language, Separated}, specs.Readers.{◌>>=◌}, proofs.Exact.{bind_some}}
use Rattle.mob_numeral.{specs.Fitting.{fits, fitting, number_value}, specs.NumberValue.{numeral_value}, specs.Verdict.{Lit}}
use Rattle.mob_plane.{specs.Points.{same_point, same_point_exact}, specs.declared.point.Point.{Point}}
use Rattle.mob_points.specs.Points.{coordinates, point_value, written_point}
use Rattle.mob_scalar.{specs.Brackets.{comma}, specs.Moment.{instant, moment}, specs.MomentText.{HasDate, IsDated}, specs.Traverse.{traverse}, specs.declared.stamp.Stamp.{Stamp}}
use Rattle.mob_slice.{specs.CourseOf.{plane_course}, specs.Lines.{plane_value_of}, specs.PlaneLaws.{plane_laws}, specs.Slices.{value_at}, specs.declared.line.PlaneLine.{PlaneLine}}
use Rattle.mob_slice.specs.declared.slice.Slice.{Slice}
use Rattle.mob_written.{specs.Literal.{alone, literal, set_members, noted, sequence, temporal}, specs.Prefix.{admitted}, specs.Values.{any_value}, specs.declared.written.Literal.{Literal}}
use Rattle.mob_written.{specs.declared.written.Noted.{Noted}, specs.declared.written.Prefixes.{Prefixes}, specs.declared.written.Sequence.{Sequence}, specs.declared.written.Written.{Written}}
use Rattle.mob_literal.{specs.Readable.{PointFits}, specs.Sequences.{is_step}, specs.Slices.{slices_of, stretch}, specs.Sound.{Defines, fitting_all, fitting_sequence, is_sound, literals, written_of}}
use Rattle.mob_literal.{proofs.Drawn.{lawful}, proofs.FlatLemmas.{flat, is_flat}, proofs.OneReading.{one_option}}
use Rattle.mob_simplify.{specs.Breaks.{start_of, end_of}, specs.BreaksOf.{HaveBreaks}, specs.declared.breaks.Break.{Break}, proofs.Tidied.{normal_breaks}}
use Rattle.mob_thin_run.proofs.MomentsDated.{moment_dated}
use borrow.Author.Tests.{ltb-true}

-- ---- the parts of a literal
-- each entry of each sequence satisfies P
abbrev AllEntries : {A : Type 0} → (A → Type 0) → List (Sequence A) → Type 0
AllEntries P qs = AllByRecursion (λ q. AllByRecursion P q.instants) qs

module _ {A : Type 0} (entry : Language A) (P : A → Type 0) (each : (text : Text) (a : A) → entry text a → P a) where
  in_list : (text : Text) (xs : List A) → Separated entry comma text xs → AllByRecursion P xs
  in_list text [] said = absurd said
  in_list text (x ∷ []) said = (each text x said, tt)
  in_list text (x ∷ y ∷ xs) said = (each said.0 x said.4, in_list said.2 (y ∷ xs) said.6)

  in_sequence : (text : Text) (q : Sequence A) → sequence entry text q → AllByRecursion P q.instants
  in_sequence text q said = subst (λ (x : Sequence A). AllByRecursion P x.instants) (sym said.is) (in_list said.said.second.front said.meant.1.0 said.said.second.first)

  in_sequences : (text : Text) (qs : List (Sequence A)) → Separated (sequence entry) comma text qs → AllEntries P qs
  in_sequences text [] said = absurd said
  in_sequences text (q ∷ []) said = (in_sequence text q said, tt)
  in_sequences text (q ∷ r ∷ qs) said = (in_sequence said.0 q said.4, in_sequences said.2 (r ∷ qs) said.6)

  in_alone : (is : List A) → AllByRecursion P is → AllEntries P (map alone is)
  in_alone [] h = tt
  in_alone (i ∷ is) h = ((h.0, tt), in_alone is h.1)

  in_members : (text : Text) (qs : List (Sequence A)) → set_members entry text qs → AllEntries P qs
  in_members text qs said = elim said [
    | inl s ↦ in_sequences text qs s
    | inr i ↦ subst (λ (x : List (Sequence A)). AllEntries P x) (sym i.is) (in_alone i.meant (in_list text i.meant i.said))
  ]

  in_literal : (text : Text) (qs : List (Sequence A)) → literal entry text qs → AllEntries P qs
  in_literal text qs said = elim said [
    | inl b ↦ subst (λ (x : List (Sequence A)). AllEntries P x) (sym b.is) (in_members b.said.second.front b.meant.1.0 b.said.second.first)
    | inr o ↦ elim o [
      | inl s ↦ subst (λ (x : List (Sequence A)). AllEntries P x) (sym s.is) (in_sequence text s.meant s.said, tt)
      | inr i ↦ subst (λ (x : List (Sequence A)). AllEntries P x) (sym i.is) ((each text i.meant i.said, tt), tt)
    ]
  ]

  in_temporal : (prefixes : Prefixes) (text : Text) (s : Literal A) → temporal prefixes entry text s → AllEntries P s.sequences
  in_temporal prefixes text s said =
      let p = said.said.second.first in
      subst (λ (x : Literal A). AllEntries P x.sequences) (sym said.is) (in_literal p.back said.meant.1.0.sequences p.sequences)

-- ---- a written point
-- if there is a point, its coordinates fit
abbrev HasFitting : Option Point → Type 0
HasFitting o = (p : Point) → o ≡ Some p → PointFits p

one_some : {A : Type 0} (p q : A) → ◌≡◌ {A = Option A} (Some p) (Some q) → p ≡ q
one_some p q e = cc

of_test : (q : Ratio) → fits q ≡ true → Fits q
unfolding fits
of_test q h =
    let b = and_parts (nat_lt (nat_abs q.num) (2 ^ 62)) (nat_lt q.den (2 ^ 62)) h in
    record { num_fits = ltb-true (nat_abs q.num) (2 ^ 62) b.0; den_fits = ltb-true q.den (2 ^ 62) b.1 }

fits_by : (x q : Ratio) (b : Bool) → fits x ≡ b → ◌≡◌ {A = Option Ratio} (cond b (Some x) None) (Some q) → Fits q
fits_by x q true e h = subst Fits (one_some x q h) (of_test x e)
fits_by x q false e h = absurd cc

number_fits : (text : Text) (o : Option Ratio) → number_value text o → (q : Ratio) → o ≡ Some q → Fits q
number_fits text o said q e = fits_by (numeral_value said.meant) q (fits (numeral_value said.meant)) refl (sym said.is ∙ e)

coordinates_fit : (text : Text) (o : Option Point) → coordinates text o → HasFitting o
coordinates_fit text o said p e =
    let x = said.meant.0 in
    let y = said.meant.1.1.0 in
    let a = bind_some x (λ (a : Ratio). y >>= λ (b : Ratio). Some (record { x = a; y = b })) p (sym said.is ∙ e) in
    let b = bind_some y (λ (b : Ratio). Some (record { x = a.0; y = b })) p a.2 in
    let h : PointFits (record { x = a.0; y = b.0 }) = record {
      x_fits = number_fits said.said.front x said.said.first a.0 a.1;
      y_fits = number_fits said.said.second.second.front y said.said.second.second.first b.0 b.1;
    } in
    subst PointFits (one_some (record { x = a.0; y = b.0 }) p b.2) h

written_fits : (text : Text) (o : Option Point) → written_point text o → HasFitting o
written_fits text o said p e = coordinates_fit said.said.second.back said.meant.1.1 said.said.second.second p (sym said.is ∙ e)

value_fits : (text : Text) (o : Option Point) → point_value text o → HasFitting o
value_fits text o said p e = written_fits said.said.back said.meant.1 said.said.second p (sym said.is ∙ e)

-- ---- a point at a written instant
-- if there is an instant, it fits and is in these years
abbrev IsDatedThere : ℤ → Option Ratio → Type 0
IsDatedThere day o = (t : Ratio) → o ≡ Some t → IsDated day t

dated_by : (day : ℤ) (x t : Ratio) (b : Bool) → fits x ≡ b → HasDate day x → ◌≡◌ {A = Option Ratio} (cond b (Some x) None) (Some t) → IsDated day t
dated_by day x t true e dated h = subst (IsDated day) (one_some x t h) (record { fits = of_test x e; dated = dated })
dated_by day x t false e dated h = absurd cc

instant_dated : (day : ℤ) (text : Text) (s : Stamp) → moment text s → IsDatedThere day (fitting (instant day s))
instant_dated day text s said t e = dated_by day (instant day s) t (fits (instant day s)) refl (moment_dated day text s said) e

-- each of these
record IsNotedThere (day : ℤ) (n : Noted Point) : Type 0 where
  value : HasFitting n.value
  instant : IsDatedThere day n.instant

noted_there : (day : ℤ) (text : Text) (n : Noted Point) → noted day point_value text n → IsNotedThere day n
noted_there day text n said = subst (IsNotedThere day) (sym said.is) (record {
  value = value_fits said.said.front said.meant.0 said.said.first;
  instant = instant_dated day said.said.second.back said.meant.1.1 said.said.second.second;
})

-- ---- the numbers fit
traversed : {A C : Type 0} (f : A → Option C) (P : A → Type 0) (Q : C → Type 0) → ((a : A) (c : C) → P a → f a ≡ Some c → Q c) → (xs : List A) (ys : List C) → AllByRecursion P xs → traverse f xs ≡ Some ys → AllByRecursion Q ys
traversed {A} {C} f P Q each [] ys h e = subst (λ (z : List C). AllByRecursion Q z) (one_some [] ys e) tt
traversed {A} {C} f P Q each (x ∷ xs) ys h e =
    let a = bind_some (f x) (λ y. traverse f xs >>= λ zs. Some (y ∷ zs)) ys e in
    let b = bind_some (traverse f xs) (λ zs. Some (a.0 ∷ zs)) ys a.2 in
    subst (λ (z : List C). AllByRecursion Q z) (one_some (a.0 ∷ b.0) ys b.2) (each x a.0 h.0 a.1, traversed f P Q each xs b.0 h.1 b.1)

-- the instant of a break is in the years 0001 to 9999, and all its numbers fit
pub record IsWritable (day : ℤ) (b : Break) : Type 0 where
  pub dated : IsDated day b.instant
  pub fits : PointFits b.place

module _ (day : ℤ) where
  record Fit (w : Written Point) : Type 0 where
    dated : IsDated day w.instant
    fits : PointFits w.value

  one_fits : (n : Noted Point) (w : Written Point) → IsNotedThere day n → written_of n ≡ Some w → Fit w
  one_fits n w h e =
      let a = bind_some n.value (λ (v : Point). n.instant >>= λ (t : Ratio). Some (record { value = v; instant = t })) w e in
      let b = bind_some n.instant (λ (t : Ratio). Some (record { value = a.0; instant = t })) w a.2 in
      subst Fit (one_some (record { value = a.0; instant = b.0 }) w b.2) (record { dated = h.instant b.0 b.1; fits = h.value a.0 a.1 })

  sequence_fits : (n : Sequence (Noted Point)) (q : Sequence (Written Point)) → AllByRecursion (IsNotedThere day) n.instants → fitting_sequence n ≡ Some q → AllByRecursion Fit q.instants
  sequence_fits n q h e =
      let c = bind_some (traverse written_of n.instants) (λ (is : List (Written Point)). Some (record { lower_inc = n.lower_inc; instants = is; upper_inc = n.upper_inc })) q e in
      subst (λ (x : Sequence (Written Point)). AllByRecursion Fit x.instants) (one_some (record { lower_inc = n.lower_inc; instants = c.0; upper_inc = n.upper_inc }) q c.2)
      (traversed written_of (IsNotedThere day) Fit one_fits n.instants c.0 h c.1)

  -- ---- the slices of the sequences
  at_once : (i : Written Point) → Fit i → IsWritable day (record { instant = i.instant; place = i.value })
  at_once i h = record { dated = h.dated; fits = h.fits }

  stretch_fits : (step lower : Bool) (i j : Written Point) → Fit i → Fit j → IsWritable day (start_of (stretch plane_course step lower i j)) × IsWritable day (end_of (stretch plane_course step lower i j))
  stretch_fits true lower i j h k = (at_once i h, record { dated = k.dated; fits = h.fits })
  stretch_fits false lower i j h k = (at_once i h, at_once j k)

  slices_fit : (step lower : Bool) (is : List (Written Point)) (upper : Bool) → AllByRecursion Fit is → HaveBreaks (IsWritable day) (slices_of plane_course step lower is upper)
  slices_fit step lower [] upper h = tt
  slices_fit step lower (i ∷ []) true h = ((at_once i h.0, at_once i h.0), tt)
  slices_fit step lower (i ∷ []) false h = tt
  slices_fit step lower (i ∷ j ∷ is) upper h = (stretch_fits step lower i j h.0 h.1.0, slices_fit step true (j ∷ is) upper h.1)

  breaks_append : (P : Break → Type 0) (v w : List (Slice PlaneLine)) → HaveBreaks P v → HaveBreaks P w → HaveBreaks P (v ++ w)
  breaks_append P [] w h k = k
  breaks_append P (s ∷ v) w h k = (h.0, breaks_append P v w h.1 k)

  flat_fits : (step : Bool) (qs : List (Sequence (Written Point))) → AllEntries Fit qs → HaveBreaks (IsWritable day) (flat plane_course step qs)
  unfolding flat
  flat_fits step [] h = tt
  flat_fits step (q ∷ qs) h = breaks_append (IsWritable day) (slices_of plane_course step q.lower_inc q.instants q.upper_inc) (flat plane_course step qs) (slices_fit step q.lower_inc q.instants q.upper_inc h.0) (flat_fits step qs h.1)

  -- ---- the normal slices that they define
  not_refused : (b : Bool) → ((b ≡ false) → ⊥) → b ≡ true
  not_refused true h = refl
  not_refused false h = absurd (h refl)

  defined_fit : (step : Bool) (qs : List (Sequence (Written Point))) (slices : List (Slice PlaneLine)) → AllEntries Fit qs → is_sound any_value plane_course step qs ≡ true → Defines plane_course step qs slices → HaveBreaks (IsWritable day) slices
  defined_fit step qs slices h sound defines =
      let f = is_flat any_value plane_course (lawful same_point same_point_exact plane_laws) step (λ e. refl) qs sound in
      normal_breaks (IsWritable day) (flat plane_course step qs) slices f.ordered defines.normal.chained
      (λ t. one_option (value_at plane_value_of slices t) (value_at plane_value_of (flat plane_course step qs) t) (λ v. (λ e. (f.same t v).1 ((defines.same t v).0 e), λ e. (defines.same t v).1 ((f.same t v).0 e))))
      (flat_fits step qs h)

  fit_by : (step : Bool) (s : List (Sequence (Noted Point))) (o : Option (List (Sequence (Written Point)))) (slices : List (Slice PlaneLine)) → AllEntries (IsNotedThere day) s → fitting_all s ≡ o
      → (MatchOption o ⊥ (λ qs. is_sound any_value plane_course step qs ≡ false) → ⊥) → MatchOption o ⊥ (λ qs. Defines plane_course step qs slices) → HaveBreaks (IsWritable day) slices
  fit_by step s None slices h e sound defines = absurd defines
  fit_by step s (Some qs) slices h e sound defines = defined_fit step qs slices (traversed fitting_sequence (λ n. AllByRecursion (IsNotedThere day) n.instants) (λ q. AllByRecursion Fit q.instants) sequence_fits s qs h e) (not_refused _ sound) defines

  pub breaks_written : (text : Text) (slices : List (Slice PlaneLine)) → Lit (literals day true point_value any_value plane_course) text (Ok slices) → HaveBreaks (IsWritable day) slices
  breaks_written text slices (written, shape, short, fits, sound, means) =
      fit_by (is_step plane_course.steady written.says_step) written.sequences (fitting_all written.sequences) slices (in_temporal (noted day point_value) (IsNotedThere day) (noted_there day) (admitted plane_course.steady true) text written shape) refl sound means
