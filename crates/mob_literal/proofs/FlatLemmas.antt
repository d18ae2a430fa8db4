-- The slices of sound sequences, one sequence after another.
use Rattle.std.{specs.Prelude.{◌&&◌, ◌||◌, not, ◌↔◌, slice_get}, specs.List.{list_all}}
use Rattle.std.proofs.Common.{◌≡◌, true≢false, suc, ◌-◌, List, [], ◌∷◌, ◌++◌, length, Bool, true, false, cond, Option, Some, None, refl, sym, subst, ◌∙◌, arith, option_map, inl, inr}
use Rattle.std.proofs.lemmas.Bool.{and_parts as both}
use Rattle.mob_span.{specs.Span.{has}, proofs.FirstOf.{or_else}}
use Rattle.mob_language.specs.Readers.{◌>>=◌}
use Rattle.mob_ratio.{specs.Ratio.{Ratio}, specs.Order.{before, up_to}, proofs.Order.{before-self}}
use Rattle.mob_list.proofs.Entries.{first_in, later_in, none_in, which_in}
use Rattle.mob_slice.{specs.declared.slice.Slice.{Slice}, specs.CourseOf.{CourseOf}, specs.Slices.{IsSound, IsRisingInTime, IsClearOf, OfHead, value_at}}
use Rattle.mob_lift.{proofs.Regions.{is_left, left_has, left_clear, in_left}, proofs.Runs.{value_at-append}}
use Rattle.mob_written.{specs.declared.written.Written.{Written}, specs.declared.written.Sequence.{Sequence}}
use Rattle.mob_literal.{specs.Sequences.{rises, SequenceAt}, specs.Slices.{slices_of, made, stretch, instant_slice, arrives}}
use Rattle.mob_literal.{specs.Sound.{ends_level, is_closed_alone, is_sound_sequence, clear_ends, is_before, are_in_order, is_sound, LitAt}, specs.Flat.{made_sequence, made_all}}
use Rattle.mob_literal.{proofs.Drawn.{IsLawful}, proofs.SequenceLemmas.{slices_sequence, sequence_slices}}

-- ---- a sequence has slices exactly if it is sound

made_tail : {C B : Type 0} (course : CourseOf C B) (step : Bool) (i j : Written B) (is : List (Written B)) (upper : Bool) → made course step (arrives course step i.value j.value) true (j ∷ is) upper ≡ cond (rises (j ∷ is) && (upper || ends_level course step (i ∷ j ∷ is))) (Some (slices_of course step true (j ∷ is) upper)) None
made_tail {C} {B} course step i j [] upper = by_end upper (arrives course step i.value j.value)
  where
    by_end : (u l : Bool) → cond u (Some (instant_slice course true j ∷ [])) (cond l (Some []) None) ≡ cond (true && (u || l)) (Some (cond u (instant_slice course true j ∷ []) [])) None
    by_end true l = refl
    by_end false true = refl
    by_end false false = refl
made_tail {C} {B} course step i j (k ∷ is) upper = by_order (before j.instant k.instant) (rises (k ∷ is)) (upper || ends_level course step (j ∷ k ∷ is)) (made_tail course step j k is upper)
  where
    by_order : (b up end : Bool) → made course step (arrives course step j.value k.value) true (k ∷ is) upper ≡ cond (up && end) (Some (slices_of course step true (k ∷ is) upper)) None → cond b (option_map (λ (slices : List (Slice C)). stretch course step true j k ∷ slices) (made course step (arrives course step j.value k.value) true (k ∷ is) upper)) None ≡ cond ((b && up) && end) (Some (stretch course step true j k ∷ slices_of course step true (k ∷ is) upper)) None
    by_order true true true h = rw h refl
    by_order true true false h = rw h refl
    by_order true false end h = rw h refl
    by_order false up end h = refl

made_is : {C B : Type 0} (course : CourseOf C B) (step : Bool) (lower : Bool) (is : List (Written B)) (upper : Bool) → made course step false lower is upper ≡ cond (rises is && (is_closed_alone lower upper is && (upper || ends_level course step is))) (Some (slices_of course step lower is upper)) None
made_is course step lower [] true = refl
made_is course step lower [] false = refl
made_is course step true (i ∷ []) true = refl
made_is course step true (i ∷ []) false = refl
made_is course step false (i ∷ []) true = refl
made_is course step false (i ∷ []) false = refl
made_is {C} {B} course step lower (i ∷ j ∷ is) upper = by_order (before i.instant j.instant) (rises (j ∷ is)) (upper || ends_level course step (i ∷ j ∷ is)) (made_tail course step i j is upper)
  where
    by_order : (b up end : Bool) → made course step (arrives course step i.value j.value) true (j ∷ is) upper ≡ cond (up && end) (Some (slices_of course step true (j ∷ is) upper)) None → cond b (option_map (λ (slices : List (Slice C)). stretch course step lower i j ∷ slices) (made course step (arrives course step i.value j.value) true (j ∷ is) upper)) None ≡ cond ((b && up) && (true && end)) (Some (stretch course step lower i j ∷ slices_of course step true (j ∷ is) upper)) None
    by_order true true true h = rw h refl
    by_order true true false h = rw h refl
    by_order true false end h = rw h refl
    by_order false up end h = refl

abbrev slices_in : {C B : Type 0} → CourseOf C B → Bool → Sequence (Written B) → List (Slice C)
slices_in course step q = slices_of course step q.lower_inc q.instants q.upper_inc

sequence_is : {C B : Type 0} (has_value : B → Bool) (course : CourseOf C B) (step : Bool) (q : Sequence (Written B)) → made_sequence has_value course step q ≡ cond (is_sound_sequence has_value course step q) (Some (slices_in course step q)) None
sequence_is {C} {B} has_value course step q = by_values (list_all (λ (i : Written B). has_value i.value) q.instants) (rises q.instants && (is_closed_alone q.lower_inc q.upper_inc q.instants && (q.upper_inc || ends_level course step q.instants))) (made_is course step q.lower_inc q.instants q.upper_inc)
  where
    by_values : (a b : Bool) → made course step false q.lower_inc q.instants q.upper_inc ≡ cond b (Some (slices_in course step q)) None → cond a (made course step false q.lower_inc q.instants q.upper_inc) None ≡ cond (a && b) (Some (slices_in course step q)) None
    by_values true b h = h
    by_values false b h = refl

-- the slices of all sequences
unfoldable pub flat : {C B : Type 0} → CourseOf C B → Bool → List (Sequence (Written B)) → List (Slice C)
flat course step [] = []
flat course step (q ∷ qs) = slices_in course step q ++ flat course step qs

pub all_is : {C B : Type 0} (has_value : B → Bool) (course : CourseOf C B) (step : Bool) (qs : List (Sequence (Written B))) → made_all has_value course step qs ≡ cond (list_all (is_sound_sequence has_value course step) qs) (Some (flat course step qs)) None
unfolding flat
all_is has_value course step [] = refl
all_is {C} {B} has_value course step (q ∷ qs) = by_sound (is_sound_sequence has_value course step q) (list_all (is_sound_sequence has_value course step) qs) (sequence_is has_value course step q) (all_is has_value course step qs)
  where
    by_sound : (a b : Bool) → made_sequence has_value course step q ≡ cond a (Some (slices_in course step q)) None → made_all has_value course step qs ≡ cond b (Some (flat course step qs)) None
        → (made_sequence has_value course step q >>= λ slices. made_all has_value course step qs >>= λ rest. Some (slices ++ rest)) ≡ cond (a && b) (Some (slices_in course step q ++ flat course step qs)) None
    by_sound true true h k = rw (h, k) refl
    by_sound true false h k = rw (h, k) refl
    by_sound false b h k = rw h refl

-- ---- the slices are ordered

pub sound_stretch : {C B : Type 0} (course : CourseOf C B) (step : Bool) (lower : Bool) (i j : Written B) → before i.instant j.instant ≡ true → IsSound course.start course.end (stretch course step lower i j)
sound_stretch course step lower i j h = record { some = rw h refl; level = λ e. absurd (true≢false (sym h ∙ e)) }

pub sound_point : {C B : Type 0} (course : CourseOf C B) → IsLawful course → (i : Written B) → IsSound course.start course.end (instant_slice course true i)
sound_point course laws i = record { some = grind (arith, before-self i.instant); level = λ e. laws.level_start i.value ∙ sym (laws.level_end i.value) }

-- the slice begins after the last of the instants
abbrev AfterLast : {C B : Type 0} → Bool → List (Written B) → Slice C → Type 0
AfterLast upper [] r = Unit {0}
AfterLast upper (i ∷ []) r = (before i.instant r.span.lower || (up_to i.instant r.span.lower && not (upper && r.span.lower_inc))) ≡ true
AfterLast upper (i ∷ j ∷ is) r = AfterLast upper (j ∷ is) r

abbrev TailAfter : {C B : Type 0} → Bool → List (Written B) → List (Slice C) → Type 0
TailAfter upper is [] = Unit {0}
TailAfter upper is (r ∷ rest) = AfterLast upper is r

abbrev starts : {B : Type 0} → Bool → List (Written B) → Bool
starts lower [] = true
starts lower (i ∷ []) = lower
starts lower (i ∷ j ∷ is) = true

clear_next : {C B : Type 0} (course : CourseOf C B) (step lower upper : Bool) (i j : Written B) (is : List (Written B)) (tail : List (Slice C)) → TailAfter upper (j ∷ is) tail → OfHead IsClearOf (stretch course step lower i j) (slices_of course step true (j ∷ is) upper ++ tail)
clear_next course step lower true i j [] tail h = grind (arith, before-self j.instant)
clear_next course step lower false i j [] [] h = tt
clear_next course step lower false i j [] (r ∷ rest) h = h
clear_next course step lower upper i j (k ∷ is) tail h = grind (arith, before-self j.instant)

head_point : {C B : Type 0} (course : CourseOf C B) (i : Written B) (tail : List (Slice C)) → TailAfter true (i ∷ []) tail → OfHead IsClearOf (instant_slice course true i) tail
head_point course i [] h = tt
head_point course i (r ∷ rest) h = h

tail_of : {C B : Type 0} (upper : Bool) (i j : Written B) (is : List (Written B)) (tail : List (Slice C)) → TailAfter upper (i ∷ j ∷ is) tail → TailAfter upper (j ∷ is) tail
tail_of upper i j is [] h = tt
tail_of upper i j is (r ∷ rest) h = h

ordered_then : {C B : Type 0} (course : CourseOf C B) → IsLawful course → (step lower : Bool) (is : List (Written B)) (upper : Bool) (tail : List (Slice C)) → rises is ≡ true → starts lower is ≡ true → TailAfter upper is tail → IsRisingInTime course.start course.end tail → IsRisingInTime course.start course.end (slices_of course step lower is upper ++ tail)
ordered_then course laws step lower [] upper tail up first after ordered = ordered
ordered_then course laws step true (i ∷ []) true tail up first after ordered = (sound_point course laws i, head_point course i tail after, ordered)
ordered_then course laws step false (i ∷ []) true tail up first after ordered = absurd cc
ordered_then course laws step lower (i ∷ []) false tail up first after ordered = ordered
ordered_then {C} {B} course laws step lower (i ∷ j ∷ is) upper tail up first after ordered =
    let r = both (before i.instant j.instant) (rises (j ∷ is)) up in
    let later = tail_of upper i j is tail after in
    (sound_stretch course step lower i j r.0, clear_next course step lower upper i j is tail later, ordered_then course laws step true (j ∷ is) upper tail r.1 (on is) later ordered)
  where
    on : (is : List (Written B)) → starts true (j ∷ is) ≡ true
    on [] = refl
    on (k ∷ is) = refl

-- the last of the instants, by its position
after_last : {C B : Type 0} (upper lower : Bool) (is : List (Written B)) (j : Written B) (r : Slice C) → r.span.lower ≡ j.instant → r.span.lower_inc ≡ lower → clear_ends upper lower (slice_get is (length is - 1)) (Some j) ≡ true → AfterLast upper is r
after_last upper lower [] j r e k h = tt
after_last upper lower (i ∷ []) j r e k h = rw (e, k) h
after_last {C} {B} upper lower (i ∷ i2 ∷ is) j r e k h = after_last upper lower (i2 ∷ is) j r e k (subst (λ (o : Option (Written B)). clear_ends upper lower o (Some j) ≡ true) next h)
  where
    next : slice_get (i ∷ i2 ∷ is) (length (i ∷ i2 ∷ is) - 1) ≡ slice_get (i2 ∷ is) (length (i2 ∷ is) - 1)
    next =
        let a : length (i ∷ i2 ∷ is) - 1 ≡ suc (length is) = omega arith in
        let b : length (i2 ∷ is) - 1 ≡ length is = omega arith in
        rw (a, b) refl

none_clear : {B : Type 0} (upper lower : Bool) (o : Option (Written B)) → clear_ends upper lower o None ≡ true → ⊥
none_clear upper lower (Some i) h = absurd cc
none_clear upper lower None h = absurd cc

tail_after : {C B : Type 0} (course : CourseOf C B) (step : Bool) (q r : Sequence (Written B)) (rest : List (Slice C)) → is_before q r ≡ true → is_closed_alone r.lower_inc r.upper_inc r.instants ≡ true → TailAfter q.upper_inc q.instants (slices_in course step r ++ rest)
tail_after {C} {B} course step q r rest h closed = by_instants r.lower_inc r.instants r.upper_inc h closed
  where
    by_instants : (lower : Bool) (is : List (Written B)) (upper : Bool) → clear_ends q.upper_inc lower (slice_get q.instants (length q.instants - 1)) (slice_get is 0) ≡ true → is_closed_alone lower upper is ≡ true → TailAfter q.upper_inc q.instants (slices_of course step lower is upper ++ rest)
    by_instants lower [] upper h closed = absurd (none_clear q.upper_inc lower (slice_get q.instants (length q.instants - 1)) h)
    by_instants lower (j ∷ []) true h closed = after_last q.upper_inc lower q.instants j (instant_slice course lower j) refl refl h
    by_instants lower (j ∷ []) false h closed = absurd (never lower closed)
      where
        never : (l : Bool) → (l && false) ≡ true → ⊥
        never true e = absurd cc
        never false e = absurd cc
    by_instants lower (j ∷ k ∷ is) upper h closed = after_last q.upper_inc lower q.instants j (stretch course step lower j k) refl refl h

-- the properties of a sound sequence
record IsSoundIn {B : Type 0} (q : Sequence (Written B)) : Type 0 where
  up : rises q.instants ≡ true
  closed : is_closed_alone q.lower_inc q.upper_inc q.instants ≡ true
  first : starts q.lower_inc q.instants ≡ true

sound_in : {C B : Type 0} (has_value : B → Bool) (course : CourseOf C B) (step : Bool) (q : Sequence (Written B)) → is_sound_sequence has_value course step q ≡ true → IsSoundIn q
sound_in {C} {B} has_value course step q h =
    let a = both (list_all (λ (i : Written B). has_value i.value) q.instants) (rises q.instants && (is_closed_alone q.lower_inc q.upper_inc q.instants && (q.upper_inc || ends_level course step q.instants))) h in
    let b = both (rises q.instants) (is_closed_alone q.lower_inc q.upper_inc q.instants && (q.upper_inc || ends_level course step q.instants)) a.1 in
    let c = both (is_closed_alone q.lower_inc q.upper_inc q.instants) (q.upper_inc || ends_level course step q.instants) b.1 in
    record { up = b.0; closed = c.0; first = begins q.lower_inc q.instants q.upper_inc c.0 }
  where
    begins : (lower : Bool) (is : List (Written B)) (upper : Bool) → is_closed_alone lower upper is ≡ true → starts lower is ≡ true
    begins lower [] upper e = refl
    begins lower (i ∷ []) upper e = (both lower upper e).0
    begins lower (i ∷ j ∷ is) upper e = refl

flat_ordered : {C B : Type 0} (has_value : B → Bool) (course : CourseOf C B) → IsLawful course → (step : Bool) (qs : List (Sequence (Written B))) → are_in_order qs ≡ true → list_all (is_sound_sequence has_value course step) qs ≡ true → IsRisingInTime course.start course.end (flat course step qs)
unfolding flat
flat_ordered has_value course laws step [] order sound = tt
flat_ordered has_value course laws step (q ∷ []) order sound =
    let s = sound_in has_value course step q (both (is_sound_sequence has_value course step q) true sound).0 in
    ordered_then course laws step q.lower_inc q.instants q.upper_inc [] s.up s.first tt tt
flat_ordered has_value course laws step (q ∷ r ∷ qs) order sound =
    let a = both (is_sound_sequence has_value course step q) (list_all (is_sound_sequence has_value course step) (r ∷ qs)) sound in
    let b = both (is_sound_sequence has_value course step r) (list_all (is_sound_sequence has_value course step) qs) a.1 in
    let o = both (is_before q r) (are_in_order (r ∷ qs)) order in
    let s = sound_in has_value course step q a.0 in
    ordered_then course laws step q.lower_inc q.instants q.upper_inc (flat course step (r ∷ qs)) s.up s.first (tail_after course step q r (flat course step qs) o.0 (sound_in has_value course step r b.0).closed) (flat_ordered has_value course laws step (r ∷ qs) o.1 a.1)

-- ---- the slices have the values of the sequences

module _ {C B : Type 0} (course : CourseOf C B) where
  abbrev pub Ordered : List (Slice C) → Type 0
  Ordered slices = IsRisingInTime course.start course.end slices

  none_left : (t : Ratio) (b : Slice C) (rest : List (Slice C)) → Ordered (b ∷ rest) → is_left t b.span ≡ true → value_at course.value (b ∷ rest) t ≡ None
  none_left t b [] n h = rw (left_has t b.span h) refl
  none_left t b (c ∷ rest) n h = rw (left_has t b.span h) (none_left t c rest n.2 (left_clear t b.span c.span n.0.some h n.1))

  none_behind : (t : Ratio) (s : Slice C) (rest : List (Slice C)) → Ordered (s ∷ rest) → has s.span t ≡ true → value_at course.value rest t ≡ None
  none_behind t s [] n h = refl
  none_behind t s (c ∷ rest) n h = none_left t c rest n.2 (in_left s.span c.span t n.1 h)

  none_before : (t : Ratio) (v : B) (xs ys : List (Slice C)) → Ordered (xs ++ ys) → value_at course.value ys t ≡ Some v → value_at course.value xs t ≡ None
  none_before t v [] ys n h = refl
  none_before t v (x ∷ xs) ys n h = by_has (has x.span t) refl (none_before t v xs ys n.2 h)
    where
      by_has : (b : Bool) → has x.span t ≡ b → value_at course.value xs t ≡ None → value_at course.value (x ∷ xs) t ≡ None
      by_has false e others = rw e others
      by_has true e others =
          let behind = none_behind t x (xs ++ ys) n e in
          let inside = value_at-append course.value xs ys t in
          absurd (some_none (value_at course.value xs t) (rw h at (sym inside ∙ behind)))
        where
          some_none : (o : Option B) → or_else o (Some v) ≡ None → ⊥
          some_none None e = absurd cc
          some_none (Some x) e = absurd cc

  pub ordered_rest : (xs ys : List (Slice C)) → Ordered (xs ++ ys) → Ordered ys
  ordered_rest [] ys n = n
  ordered_rest (x ∷ xs) ys n = ordered_rest xs ys n.2

  flat_lit : (laws : IsLawful course) (has_value : B → Bool) (step : Bool) → (step ≡ false → course.steady ≡ false) → (qs : List (Sequence (Written B))) (t : Ratio) (v : B) → list_all (is_sound_sequence has_value course step) qs ≡ true → value_at course.value (flat course step qs) t ≡ Some v → LitAt course step qs t v
  unfolding flat
  flat_lit laws has_value step moves [] t v sound h = absurd cc
  flat_lit laws has_value step moves (q ∷ qs) t v sound h =
      let a = both (is_sound_sequence has_value course step q) (list_all (is_sound_sequence has_value course step) qs) sound in
      let s = sound_in has_value course step q a.0 in
      by_first (value_at course.value (slices_in course step q) t) refl (sym (value_at-append course.value (slices_in course step q) (flat course step qs) t) ∙ h) s.up (flat_lit laws has_value step moves qs t v a.1)
    where
      by_first : (o : Option B) → value_at course.value (slices_in course step q) t ≡ o → or_else o (value_at course.value (flat course step qs) t) ≡ Some v → rises q.instants ≡ true → (value_at course.value (flat course step qs) t ≡ Some v → LitAt course step qs t v) → LitAt course step (q ∷ qs) t v
      by_first (Some w) e k up others = record { by = q; listed = first_in q qs; at = slices_sequence course laws step q.lower_inc q.instants q.upper_inc t v up (e ∙ k) }
      by_first None e k up others = let l = others k in record { by = l.by; listed = later_in q qs l.by l.listed; at = l.at }

  lit_flat : (laws : IsLawful course) (has_value : B → Bool) (step : Bool) → (step ≡ false → course.steady ≡ false) → (qs : List (Sequence (Written B))) (t : Ratio) (v : B) → list_all (is_sound_sequence has_value course step) qs ≡ true → Ordered (flat course step qs) → (l : LitAt course step qs t v) → value_at course.value (flat course step qs) t ≡ Some v
  unfolding flat
  lit_flat laws has_value step moves [] t v sound ordered l = absurd (none_in l.by l.listed)
  lit_flat laws has_value step moves (q ∷ qs) t v sound ordered l =
      let a = both (is_sound_sequence has_value course step q) (list_all (is_sound_sequence has_value course step) qs) sound in
      let s = sound_in has_value course step q a.0 in
      elim (which_in q qs l.by l.listed) [
        | inl same ↦
            let here = sequence_slices course laws step moves q.lower_inc q.instants q.upper_inc t v s.up (subst (λ (x : Sequence (Written B)). SequenceAt course step x.lower_inc x.instants x.upper_inc t v) (sym same) l.at) in
            value_at-append course.value (slices_in course step q) (flat course step qs) t ∙ rw here refl
        | inr later ↦
            let there = lit_flat laws has_value step moves qs t v a.1 (ordered_rest (slices_in course step q) (flat course step qs) ordered) (record { by = l.by; listed = later; at = l.at }) in
            let none = none_before t v (slices_in course step q) (flat course step qs) ordered there in
            value_at-append course.value (slices_in course step q) (flat course step qs) t ∙ rw (none, there) refl
      ]

-- the slices of sound sequences are ordered and have the values of the sequences
pub record IsFlat {C B : Type 0} (course : CourseOf C B) (step : Bool) (qs : List (Sequence (Written B))) (slices : List (Slice C)) : Type 0 where
  pub ordered : IsRisingInTime course.start course.end slices
  pub same : (t : Ratio) (v : B) → (value_at course.value slices t ≡ Some v) ↔ LitAt course step qs t v

pub is_flat : {C B : Type 0} (has_value : B → Bool) (course : CourseOf C B) → IsLawful course → (step : Bool) → (step ≡ false → course.steady ≡ false) → (qs : List (Sequence (Written B))) → is_sound has_value course step qs ≡ true → IsFlat course step qs (flat course step qs)
is_flat has_value course laws step moves qs h =
    let a = both (are_in_order qs) (list_all (is_sound_sequence has_value course step) qs) h in
    let o = flat_ordered has_value course laws step qs a.0 a.1 in
    record { ordered = o; same = λ t v. (flat_lit course laws has_value step moves qs t v a.1, lit_flat course laws has_value step moves qs t v a.1 o) }
