-- The answers of the reader of temporal values.
use Rattle.std.{specs.Prelude.{◌&&◌, ◌||◌, MatchOption}, specs.List.{list_all}}
use Rattle.std.{proofs.Common.{◌≡◌, ℕ, ℤ, List, [], ◌∷◌, ◌++◌, map, Bool, true, false, cond, Option, Some, None, Ok, Err, refl, sym, ap, subst, ◌∙◌, inl, inr}, proofs.lemmas.Bool.{and_parts as both}}
use Rattle.mob_ratio.specs.Ratio.{Ratio}
use Rattle.mob_language.{specs.Language.{Text, Language, Separated}, specs.Readers.{TextReader, ◌>>=◌, all_of}, proofs.Exact.{is_said, not_said, bind_some}}
use Rattle.mob_numeral.{specs.Verdict.{Lit}, specs.declared.fault.ReadText.{ReadText}, specs.declared.fault.ReadText.TheVariants.{NotText, Limit, TooLarge, Unsound, NoMemory}}
use Rattle.mob_slice.{specs.declared.slice.Slice.{Slice}, specs.CourseOf.{CourseOf}, specs.Slices.{value_at, IsNormal}}
use Rattle.mob_written.{specs.declared.written.Written.{Written}, specs.declared.written.Noted.{Noted}, specs.declared.written.Sequence.{Sequence}, specs.declared.written.Literal.{Literal}}
use Rattle.mob_written.{specs.declared.written.Prefixes.{Prefixes}, specs.Prefix.{admitted}, specs.Literal.{noted, sequence, alone, set_members, literal, temporal, noted_at, temporal_at}}
use Rattle.mob_written.{specs.ValueText.{IsValueText}, proofs.LiteralExact.{noted_entry, temporal_exact}, proofs.Small.{false_true, cons_nil, some_none}}
use Rattle.mob_scalar.{specs.Brackets.{comma}, specs.Traverse.{traverse}}
use Rattle.mob_literal.{specs.Sequences.{is_step, rises}, specs.Slices.{slices_of}}
use Rattle.mob_literal.specs.Sound.{is_over_limit, written_of, fitting_sequence, fitting_all, is_closed_alone, is_sound_sequence, ends_level, are_in_order, is_sound, Defines, fitting_literal}
use Rattle.mob_literal.{specs.Sound.{written_literals, literals}, specs.Flat.{made_all}, proofs.Drawn.{IsLawful}, proofs.FlatLemmas.{flat, all_is, IsFlat, is_flat}}

abbrev some : {A : Type 0} → A → Option A
some x = Some x

abbrev is_some_list : {A : Type 0} → List A → Bool
is_some_list [] = false
is_some_list (x ∷ xs) = true

-- the first sequence has an instant
abbrev is_full : {A : Type 0} → List (Sequence A) → Bool
is_full [] = false
is_full (q ∷ qs) = is_some_list q.instants

list_some : {A : Type 0} (l : Language A) (s : Language (Unit {0})) (text : Text) (xs : List A) → Separated l s text xs → is_some_list xs ≡ true
list_some l s text [] said = absurd said
list_some l s text (x ∷ xs) said = refl

sequence_some : {A : Type 0} (entry : Language A) (text : Text) (q : Sequence A) → sequence entry text q → is_some_list q.instants ≡ true
sequence_some {A} entry text q said = subst (λ (x : Sequence A). is_some_list x.instants ≡ true) (sym said.is) (list_some entry comma said.said.second.front said.meant.1.0 said.said.second.first)

sequences_full : {A : Type 0} (entry : Language A) (text : Text) (qs : List (Sequence A)) → Separated (sequence entry) comma text qs → is_full qs ≡ true
sequences_full entry text [] said = absurd said
sequences_full entry text (q ∷ []) said = sequence_some entry text q said
sequences_full entry text (q ∷ r ∷ qs) said = sequence_some entry said.0 q said.4

alone_full : {A : Type 0} (is : List A) → is_some_list is ≡ true → is_full (map alone is) ≡ true
alone_full [] h = h
alone_full (i ∷ is) h = refl

members_full : {A : Type 0} (entry : Language A) (text : Text) (qs : List (Sequence A)) → set_members entry text qs → is_full qs ≡ true
members_full {A} entry text qs said = elim said [
  | inl s ↦ sequences_full entry text qs s
  | inr i ↦ subst (λ (x : List (Sequence A)). is_full x ≡ true) (sym i.is) (alone_full i.meant (list_some entry comma text i.meant i.said))
]

literal_full : {A : Type 0} (entry : Language A) (text : Text) (qs : List (Sequence A)) → literal entry text qs → is_full qs ≡ true
literal_full {A} entry text qs said = elim said [
  | inl b ↦ subst (λ (x : List (Sequence A)). is_full x ≡ true) (sym b.is) (members_full entry b.said.second.front b.meant.1.0 b.said.second.first)
  | inr o ↦ elim o [
    | inl s ↦ subst (λ (x : List (Sequence A)). is_full x ≡ true) (sym s.is) (sequence_some entry text s.meant s.said)
    | inr i ↦ subst (λ (x : List (Sequence A)). is_full x ≡ true) (sym i.is) refl
  ]
]

temporal_full : {A : Type 0} (prefixes : Prefixes) (entry : Text → A → Type 0) (text : Text) (s : Literal A) → temporal prefixes entry text s → is_full s.sequences ≡ true
temporal_full {A} prefixes entry text s said =
    let p = said.said.second.first in
    subst (λ (x : Literal A). is_full x.sequences ≡ true) (sym said.is) (literal_full entry p.back said.meant.1.0.sequences p.sequences)

-- if the numbers fit, there are as many afterwards
traverse_some : {A C : Type 0} (f : A → Option C) (xs : List A) (ys : List C) → is_some_list xs ≡ true → traverse f xs ≡ Some ys → is_some_list ys ≡ true
traverse_some f [] ys h e = absurd (false_true h)
traverse_some {A} {C} f (x ∷ xs) ys h e =
    let a = bind_some (f x) (λ y. traverse f xs >>= λ zs. Some (y ∷ zs)) ys e in
    let b = bind_some (traverse f xs) (λ zs. Some (a.0 ∷ zs)) ys a.2 in
    subst (λ (z : List C). is_some_list z ≡ true) (one (a.0 ∷ b.0) ys b.2) refl
  where
    one : (p q : List C) → ◌≡◌ {A = Option (List C)} (Some p) (Some q) → p ≡ q
    one p q e = cc

fitting_full : {B : Type 0} (s : List (Sequence (Noted B))) (qs : List (Sequence (Written B))) → is_full s ≡ true → fitting_all s ≡ Some qs → is_full qs ≡ true
fitting_full [] qs h e = absurd (false_true h)
fitting_full {B} (n ∷ ns) qs h e =
    let a = bind_some (fitting_sequence n) (λ y. traverse fitting_sequence ns >>= λ zs. Some (y ∷ zs)) qs e in
    let b = bind_some (traverse fitting_sequence ns) (λ zs. Some (a.0 ∷ zs)) qs a.2 in
    let c = bind_some (traverse written_of n.instants) (λ is. Some (record { lower_inc = n.lower_inc; instants = is; upper_inc = n.upper_inc })) a.0 a.1 in
    let full : is_some_list a.0.instants ≡ true = subst (λ (q : Sequence (Written B)). is_some_list q.instants ≡ true) (same _ a.0 c.2) (traverse_some written_of n.instants c.0 h c.1) in
    subst (λ (z : List (Sequence (Written B))). is_full z ≡ true) (one (a.0 ∷ b.0) qs b.2) full
  where
    one : (p q : List (Sequence (Written B))) → ◌≡◌ {A = Option (List (Sequence (Written B)))} (Some p) (Some q) → p ≡ q
    one p q e = cc

    same : (p q : Sequence (Written B)) → ◌≡◌ {A = Option (Sequence (Written B))} (Some p) (Some q) → p ≡ q
    same p q e = cc

sequence_slices : {C B : Type 0} (course : CourseOf C B) (step lower : Bool) (is : List (Written B)) (upper : Bool) (rest : List (Slice C)) → is_some_list is ≡ true → is_closed_alone lower upper is ≡ true → slices_of course step lower is upper ++ rest ≡ [] → ⊥
sequence_slices course step lower [] upper rest h k e = absurd cc
sequence_slices course step lower (i ∷ []) true rest h k e = cons_nil _ _ e
sequence_slices course step true (i ∷ []) false rest h k e = absurd cc
sequence_slices course step false (i ∷ []) false rest h k e = absurd cc
sequence_slices course step lower (i ∷ j ∷ is) upper rest h k e = cons_nil _ _ e

flat_some : {C B : Type 0} (has_value : B → Bool) (course : CourseOf C B) (step : Bool) (qs : List (Sequence (Written B))) → is_full qs ≡ true → is_sound has_value course step qs ≡ true → flat course step qs ≡ [] → ⊥
unfolding flat
flat_some has_value course step [] full sound e = absurd cc
flat_some {C} {B} has_value course step (q ∷ qs) full sound e =
    let a = both (are_in_order (q ∷ qs)) (list_all (is_sound_sequence has_value course step) (q ∷ qs)) sound in
    let b = both (is_sound_sequence has_value course step q) (list_all (is_sound_sequence has_value course step) qs) a.1 in
    let c = both (list_all (λ (i : Written B). has_value i.value) q.instants) (rises q.instants && (is_closed_alone q.lower_inc q.upper_inc q.instants && (q.upper_inc || ends_level course step q.instants))) b.0 in
    let d = both (rises q.instants) (is_closed_alone q.lower_inc q.upper_inc q.instants && (q.upper_inc || ends_level course step q.instants)) c.1 in
    let f = both (is_closed_alone q.lower_inc q.upper_inc q.instants) (q.upper_inc || ends_level course step q.instants) d.1 in
    sequence_slices course step q.lower_inc q.instants q.upper_inc (flat course step qs) full f.0 e

-- the sequences of a literal if its numbers fit
fitting_is : {B : Type 0} (s : Literal (Noted B)) (w : Literal (Written B)) → fitting_literal s ≡ Some w → (fitting_all s.sequences ≡ Some w.sequences) × (s.says_step ≡ w.says_step)
fitting_is {B} s w e =
    let a = bind_some (fitting_all s.sequences) (λ qs. Some (record { says_step = s.says_step; sequences = qs })) w e in
    let is : ◌≡◌ {A = Literal (Written B)} (record { says_step = s.says_step; sequences = a.0 }) w = same _ w a.2 in
    (a.1 ∙ ap (λ (x : Literal (Written B)). Some x.sequences) is, ap (λ (x : Literal (Written B)). x.says_step) is)
  where
    same : (p q : Literal (Written B)) → ◌≡◌ {A = Option (Literal (Written B))} (Some p) (Some q) → p ≡ q
    same p q e = cc

-- the case in which they do not all fit
fitting_none : {B : Type 0} (s : Literal (Noted B)) → ◌≡◌ {A = Option (Literal (Written B))} None (fitting_literal s) → ◌≡◌ {A = Option (List (Sequence (Written B)))} (fitting_all s.sequences) None
fitting_none {B} s e = by_fit (fitting_all s.sequences) e
  where
    by_fit : (o : Option (List (Sequence (Written B)))) → ◌≡◌ {A = Option (Literal (Written B))} None (o >>= λ qs. Some (record { says_step = s.says_step; sequences = qs })) → o ≡ None
    by_fit None e = refl
    by_fit (Some qs) e = absurd cc

module _ {B : Type 0} (day : ℤ) (prefixes : Prefixes) {value : List ℕ → Option B → Type 0} {reader : TextReader (Option B)} {F : List ℕ → Type 0} (law : IsValueText value reader F) where
  shape_is : (text bytes : Text) (s : Literal (Noted B)) → bytes ≡ text → Some s ≡ all_of (temporal_at prefixes (noted_at day reader)) bytes → temporal prefixes (noted day value) text s
  shape_is text bytes s e h = is_said (temporal_exact prefixes (noted_entry day law)) text bytes s e h

  pub no_text : (text bytes : Text) → bytes ≡ text → ◌≡◌ {A = Option (Literal (Noted B))} None (all_of (temporal_at prefixes (noted_at day reader)) bytes) → Lit (written_literals day prefixes value) text (Err NotText)
  no_text text bytes e h = λ s said. not_said (temporal_exact prefixes (noted_entry day law)) refl text bytes s e h said

  pub too_long : (text bytes : Text) (s : Literal (Noted B)) → bytes ≡ text → Some s ≡ all_of (temporal_at prefixes (noted_at day reader)) bytes → is_over_limit s.sequences ≡ true → Lit (written_literals day prefixes value) text (Err Limit)
  too_long text bytes s e h long = (s, shape_is text bytes s e h, long)

  pub too_large : (text bytes : Text) (s : Literal (Noted B)) → bytes ≡ text → Some s ≡ all_of (temporal_at prefixes (noted_at day reader)) bytes → is_over_limit s.sequences ≡ false → ◌≡◌ {A = Option (Literal (Written B))} None (fitting_literal s) → Lit (written_literals day prefixes value) text (Err TooLarge)
  too_large text bytes s e h short none = (s, shape_is text bytes s e h, (λ k. false_true (sym short ∙ k)), fitting_none s none)

  pub all_fit : (text bytes : Text) (s : Literal (Noted B)) (w : Literal (Written B)) → bytes ≡ text → Some s ≡ all_of (temporal_at prefixes (noted_at day reader)) bytes → is_over_limit s.sequences ≡ false → some w ≡ fitting_literal s → Lit (written_literals day prefixes value) text (Ok w)
  all_fit text bytes s w e h short fits = (s, shape_is text bytes s e h, (λ k. false_true (sym short ∙ k)), (λ k. some_none w.sequences (sym (fitting_is s w (sym fits)).0 ∙ k)), (λ k. k), sym fits)

chosen : {A : Type 0} (b : Bool) (x y : A) → some x ≡ cond b (some y) None → (b ≡ true) × (x ≡ y)
chosen true x y e = (refl, cc)
chosen false x y e = absurd cc

refused : {A : Type 0} (b : Bool) (y : A) → ◌≡◌ {A = Option A} None (cond b (some y) None) → b ≡ false
refused true y e = absurd cc
refused false y e = refl

module _ {C B : Type 0} (day : ℤ) (has_srid : Bool) (value : List ℕ → Option B → Type 0) (has_value : B → Bool) (course : CourseOf C B) (text : Text) where
  -- the text has this literal, and its numbers fit
  abbrev pub IsRead : Literal (Written B) → Type 0
  IsRead w = Lit (written_literals day (admitted course.steady has_srid) value) text (Ok w)

  abbrev steps_in : Literal (Written B) → Bool
  steps_in w = is_step course.steady w.says_step

  pub same_fault : (fault : ReadText) → Lit (written_literals day (admitted course.steady has_srid) value) text (Err fault) → Lit (literals day has_srid value has_value course) text (Err fault)
  same_fault NotText h = h
  same_fault Limit h = h
  same_fault TooLarge h = h
  same_fault Unsound h = absurd h.4
  same_fault NoMemory h = h

  pub unsound_is : (w : Literal (Written B)) → IsRead w → is_sound has_value course (steps_in w) w.sequences ≡ false → Lit (literals day has_srid value has_value course) text (Err Unsound)
  unsound_is w f h =
      let k = fitting_is f.0 w f.5 in
      let here : is_sound has_value course (is_step course.steady f.0.says_step) w.sequences ≡ false = subst (λ (b : Bool). is_sound has_value course (is_step course.steady b) w.sequences ≡ false) (sym k.1) h in
      (f.0, f.1, f.2, f.3, subst (λ (o : Option (List (Sequence (Written B)))). MatchOption o ⊥ (λ qs. is_sound has_value course (is_step course.steady f.0.says_step) qs ≡ false)) (sym k.0) here)

  pub not_sound : (w : Literal (Written B)) → IsRead w → are_in_order w.sequences ≡ true → ◌≡◌ {A = Option (List (Slice C))} None (made_all has_value course (steps_in w) w.sequences) → Lit (literals day has_srid value has_value course) text (Err Unsound)
  not_sound w f order h =
      let none = refused (list_all (is_sound_sequence has_value course (steps_in w)) w.sequences) (flat course (steps_in w) w.sequences) (h ∙ all_is has_value course (steps_in w) w.sequences) in
      unsound_is w f (rw (order, none) refl)

  -- the slices were made
  pub record IsMadeOf (w : Literal (Written B)) (slices : List (Slice C)) : Type 0 where
    pub read : IsRead w
    pub sound : is_sound has_value course (steps_in w) w.sequences ≡ true
    pub are : slices ≡ flat course (steps_in w) w.sequences
    pub flat_so : IsFlat course (steps_in w) w.sequences slices

  moves : (w : Literal (Written B)) → steps_in w ≡ false → course.steady ≡ false
  moves w h = by_word w.says_step h
    where
      by_word : (b : Bool) → is_step course.steady b ≡ false → course.steady ≡ false
      by_word true e = absurd cc
      by_word false e = e

  pub made_of : IsLawful course → (w : Literal (Written B)) (slices : List (Slice C)) → IsRead w → are_in_order w.sequences ≡ true → some slices ≡ made_all has_value course (steps_in w) w.sequences → IsMadeOf w slices
  made_of laws w slices f order h =
      let c = chosen (list_all (is_sound_sequence has_value course (steps_in w)) w.sequences) slices (flat course (steps_in w) w.sequences) (h ∙ all_is has_value course (steps_in w) w.sequences) in
      let sound : is_sound has_value course (steps_in w) w.sequences ≡ true = rw (order, c.0) refl in
      record { read = f; sound = sound; are = c.1; flat_so = subst (IsFlat course (steps_in w) w.sequences) (sym c.1) (is_flat has_value course laws (steps_in w) (moves w) w.sequences sound) }

  pub defined : (w : Literal (Written B)) (slices v : List (Slice C)) → IsMadeOf w slices
      → IsNormal course.start course.end course.continues v
      → ((t : Ratio) → value_at course.value v t ≡ value_at course.value slices t)
      → Lit (literals day has_srid value has_value course) text (Ok v)
  defined w slices v m normal kept =
      let f = m.read in
      let k = fitting_is f.0 w f.5 in
      let d : Defines course (steps_in w) w.sequences v = record {
        normal = normal;
        same = λ t x. ((λ e. (m.flat_so.same t x).0 (sym (kept t) ∙ e)), (λ l. kept t ∙ (m.flat_so.same t x).1 l));
      } in
      let here : Defines course (is_step course.steady f.0.says_step) w.sequences v = subst (λ (b : Bool). Defines course (is_step course.steady b) w.sequences v) (sym k.1) d in
      let sound : is_sound has_value course (is_step course.steady f.0.says_step) w.sequences ≡ true = subst (λ (b : Bool). is_sound has_value course (is_step course.steady b) w.sequences ≡ true) (sym k.1) m.sound in (
        f.0,
        f.1,
        f.2,
        f.3,
        (λ e. false_true (sym (subst (λ (o : Option (List (Sequence (Written B)))). MatchOption o ⊥ (λ qs. is_sound has_value course (is_step course.steady f.0.says_step) qs ≡ false)) k.0 e) ∙ sound)),
        subst (λ (o : Option (List (Sequence (Written B)))). MatchOption o ⊥ (λ qs. Defines course (is_step course.steady f.0.says_step) qs v)) (sym k.0) here,
      )

  pub some_slices : (w : Literal (Written B)) (slices : List (Slice C)) → IsMadeOf w slices → slices ≡ [] → ⊥
  some_slices w slices m none =
      let f = m.read in
      flat_some has_value course (steps_in w) w.sequences (fitting_full f.0.sequences w.sequences (temporal_full (admitted course.steady has_srid) (noted day value) text f.0 f.1) (fitting_is f.0 w f.5).0) m.sound (sym m.are ∙ none)
