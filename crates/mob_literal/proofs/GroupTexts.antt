-- The printed text of slices is a literal with the sequences of their groups.
use Rattle.std.{specs.Prelude.{◌&&◌, not, nat_eq}, specs.List.{AllByRecursion, list_all}}
use Rattle.std.proofs.Common.{◌≡◌, ℤ, List, [], ◌∷◌, ◌++◌, map, codes, Bool, true, false, cond, Option, Some, refl, sym, ap, subst, ◌∙◌, append_assoc, inl, inr}
use Rattle.mob_list.proofs.Each.{each_parts}
use Rattle.mob_ratio.{specs.Ratio.{Ratio}, specs.Order.{same}}
use Rattle.mob_language.{specs.Language.{Text, Separated}, proofs.Exact.{Stops}, proofs.Heads.{within_said}}
use Rattle.mob_scalar.{specs.MomentText.{moment_text}, specs.Brackets.{comma, with_commas}, proofs.BracketsSaid.{opening_said, closing_said, Each, listed_said, within_braces_said, IsMomentSaid}}
use Rattle.mob_slice.{specs.declared.slice.Slice.{Slice}, specs.CourseOf.{CourseOf}}
use Rattle.mob_written.{specs.declared.written.Written.{Written}, specs.declared.written.Noted.{Noted}, specs.declared.written.Sequence.{Sequence}, specs.declared.written.Literal.{Literal}}
use Rattle.mob_written.{specs.declared.written.Prefixes.{Prefixes}, specs.Prefix.{Prefix, ArePrefixes, remaining, says_step, begins_prefix}}
use Rattle.mob_written.specs.Literal.{at_sign, noted, sequence, set_members, alone, literal, temporal}
use Rattle.mob_written.specs.Printed.{Style, is_long, takes_up, neighbour_groups, put_in_group, instant_text, instants_of, start_text, opening_text, closing_text, group_text, groups_text, set_text}
use Rattle.mob_written.{specs.Printed.{moving_text}, specs.Style.{style_of}, proofs.Small.{false_true}}
use Rattle.mob_literal.proofs.GroupSlices.{start_of, end_of, more, upper_of, sequence_of, AllHoldTogether, are_groups, joined}

-- ---- the printed sign

at_said : at_sign (codes "@") tt
at_said = record {
  meant = ([], (tt, []));
  said = record { front = []; back = codes "@"; whole = refl; first = record { is = refl; each = tt }; second = record { front = codes "@"; back = []; whole = refl; first = refl; second = record { is = refl; each = tt } } };
  is = refl;
}

bracketed_said : {A : Type 0} (entry : Text → A → Type 0) (lower upper : Bool) (inner : Text) (is : List A) → Separated entry comma inner is
    → sequence entry (cond lower (codes "[") (codes "(") ++ (inner ++ cond upper (codes "]") (codes ")"))) (record { lower_inc = lower; instants = is; upper_inc = upper })
bracketed_said {A} entry lower upper inner is h = record {
  meant = (cond lower 91 40, (is, cond upper 93 41));
  said = record {
    front = cond lower (codes "[") (codes "(");
    back = inner ++ cond upper (codes "]") (codes ")");
    whole = refl;
    first = opening_said lower;
    second = record { front = inner; back = cond upper (codes "]") (codes ")"); whole = refl; first = h; second = closing_said upper };
  };
  is = by_ends lower upper;
} where
  by_ends : (lower upper : Bool) → ◌≡◌ {A = Sequence A} (record { lower_inc = lower; instants = is; upper_inc = upper }) (record { lower_inc = nat_eq (cond lower 91 40) 91; instants = is; upper_inc = nat_eq (cond upper 93 41) 93 })
  by_ends true true = refl
  by_ends true false = refl
  by_ends false true = refl
  by_ends false false = refl

-- ---- printed values and moments

abbrev pub note : {B : Type 0} → Written B → Noted B
note w = record { value = Some w.value; instant = Some w.instant }

-- the sequence of a group, as read
abbrev pub noted_of_group : {C B : Type 0} → CourseOf C B → List (Slice C) → Sequence (Noted B)
noted_of_group course group = record { lower_inc = (sequence_of course group).lower_inc; instants = map note (sequence_of course group).instants; upper_inc = (sequence_of course group).upper_inc }

-- a slice of a single instant, which both ends include
abbrev pub IsPoint : {C : Type 0} → Slice C → Type 0
IsPoint s = (is_long s ≡ false) × (s.span.lower_inc ≡ true) × (s.span.upper_inc ≡ true)

abbrev pub ArePoints : {C : Type 0} → List (Slice C) → Type 0
ArePoints slices = AllByRecursion IsPoint slices

module _ {C B : Type 0} (course : CourseOf C B) (day : ℤ) (value : Text → Option B → Type 0) (text : B → Text) where
  -- the printed parts of a slice are read
  pub record IsSliceSaid (s : Slice C) : Type 0 where
    pub start_value : value (text (course.start s.course)) (Some (course.start s.course))
    pub end_value : value (text (course.end s.course)) (Some (course.end s.course))
    pub lower_said : IsMomentSaid day s.span.lower
    pub upper_said : IsMomentSaid day s.span.upper

  abbrev pub AreSaid : List (Slice C) → Type 0
  AreSaid slices = AllByRecursion IsSliceSaid slices

  abbrev pub style : Style C B
  style = style_of course text day

  abbrev entry : Text → Noted B → Type 0
  entry = noted day value

  abbrev pub written_text : Written B → Text
  written_text w = instant_text style w.value w.instant

  noted_said : (v : B) (t : Ratio) → value (text v) (Some v) → IsMomentSaid day t → entry (instant_text style v t) (record { value = Some v; instant = Some t })
  noted_said v t h m = record {
    meant = (Some v, (tt, m.stamp));
    said = record {
      front = text v;
      back = codes "@" ++ moment_text day t;
      whole = append_assoc (text v) (codes "@") (moment_text day t);
      first = h;
      second = record { front = codes "@"; back = moment_text day t; whole = refl; first = at_said; second = m.said };
    };
    is = ap (λ (o : Option Ratio). record { value = Some v; instant = o }) (sym m.fits);
  }

  abbrev EachWritten : List (Written B) → Type 0
  EachWritten is = Each entry written_text note is

  start_said : (s : Slice C) → IsSliceSaid s → entry (written_text (start_of course s)) (note (start_of course s))
  start_said s h = noted_said (course.start s.course) s.span.lower h.start_value h.lower_said

  end_said : (s : Slice C) → IsSliceSaid s → entry (written_text (end_of course s)) (note (end_of course s))
  end_said s h = noted_said (course.end s.course) s.span.upper h.end_value h.upper_said

  -- ---- a group

  more_said : (s : Slice C) (group tail : List (Slice C)) → AreSaid (s ∷ (group ++ tail)) → EachWritten (more course s group)
  more_said s [] tail h = by_length (is_long s)
    where
      by_length : (long : Bool) → EachWritten (cond long (end_of course s ∷ []) [])
      by_length true = (end_said s h.0, tt)
      by_length false = tt
  more_said s (r ∷ group) tail h = (start_said r h.1.0, more_said r group tail h.1)

  pub instants_are : (s : Slice C) (group : List (Slice C)) → instants_of style (s ∷ group) ≡ map written_text (start_of course s ∷ more course s group)
  instants_are s [] = by_length (is_long s)
    where
      by_length : (long : Bool) → start_text style s ∷ cond long (written_text (end_of course s) ∷ []) [] ≡ map written_text (start_of course s ∷ cond long (end_of course s ∷ []) [])
      by_length true = refl
      by_length false = refl
  instants_are s (r ∷ group) = ap (λ (x : List Text). start_text style s ∷ x) (instants_are r group)

  closing_is : (s : Slice C) (group : List (Slice C)) → closing_text (s ∷ group) ≡ cond (upper_of course s group) (codes "]") (codes ")")
  closing_is s [] = refl
  closing_is s (r ∷ group) = closing_is r group

  group_said : (s : Slice C) (group tail : List (Slice C)) → AreSaid (s ∷ (group ++ tail)) → sequence entry (group_text style (s ∷ group)) (noted_of_group course (s ∷ group))
  group_said s group tail h =
      let inner : Separated entry comma (with_commas (map written_text (start_of course s ∷ more course s group))) (map note (start_of course s ∷ more course s group)) =
      listed_said entry written_text note (start_of course s) (more course s group) (start_said s h.0, more_said s group tail h) in
      let said = bracketed_said entry s.span.lower_inc (upper_of course s group) (with_commas (map written_text (start_of course s ∷ more course s group))) (map note (start_of course s ∷ more course s group)) inner in
      let is : group_text style (s ∷ group) ≡ cond s.span.lower_inc (codes "[") (codes "(") ++ (with_commas (map written_text (start_of course s ∷ more course s group)) ++ cond (upper_of course s group) (codes "]") (codes ")")) =
      append_assoc (opening_text (s ∷ group)) (with_commas (instants_of style (s ∷ group))) (closing_text (s ∷ group))
      ∙ ap (λ (x : List Text). opening_text (s ∷ group) ++ (with_commas x ++ closing_text (s ∷ group))) (instants_are s group)
      ∙ ap (λ (x : Text). opening_text (s ∷ group) ++ (with_commas (map written_text (start_of course s ∷ more course s group)) ++ x)) (closing_is s group) in
      subst (λ (x : Text). sequence entry x (noted_of_group course (s ∷ group))) (sym is) said

  groups_said : (groups : List (List (Slice C))) → AllHoldTogether course groups → AreSaid (joined groups) → Each (sequence entry) (group_text style) (noted_of_group course) groups
  groups_said [] together h = tt
  groups_said ([] ∷ groups) together h = absurd together
  groups_said ((s ∷ group) ∷ groups) together h = (group_said s group (joined groups) h, groups_said groups together.1 (each_parts IsSliceSaid (s ∷ group) (joined groups) h).1)

  -- ---- groups, alone or in braces

  groups_literal : (groups : List (List (Slice C))) → (groups ≡ [] → ⊥) → Each (sequence entry) (group_text style) (noted_of_group course) groups → literal entry (groups_text style groups) (map (noted_of_group course) groups)
  groups_literal [] some h = absurd (some refl)
  groups_literal (group ∷ []) some h = inr (inl (record { meant = noted_of_group course group; said = h.0; is = refl }))
  groups_literal (group ∷ next ∷ groups) some h =
      inl (within_braces_said {l = set_members entry} (with_commas (map (group_text style) (group ∷ next ∷ groups))) (map (noted_of_group course) (group ∷ next ∷ groups)) (inl (listed_said (sequence entry) (group_text style) (noted_of_group course) group (next ∷ groups) h)))

  -- ---- single instants

  abbrev lone : Slice C → List (Slice C)
  lone s = s ∷ []

  point_groups : (slices : List (Slice C)) → ArePoints slices → neighbour_groups course slices ≡ map lone slices
  point_groups [] h = refl
  point_groups (s ∷ []) h = refl
  point_groups (s ∷ r ∷ rest) h = ap (put_in_group course s) (point_groups (r ∷ rest) h.1) ∙ ends (same s.span.upper r.span.lower) r.span.lower_inc s.span.upper_inc (takes_up course s.course r.course) h.0.2
    where
      ends : (a b c d : Bool) → c ≡ true → cond ((a && (b && not c)) && d) ((s ∷ r ∷ []) ∷ map lone rest) ((s ∷ []) ∷ (r ∷ []) ∷ map lone rest) ≡ (s ∷ []) ∷ (r ∷ []) ∷ map lone rest
      ends true true true d e = refl
      ends true false true d e = refl
      ends false b c d e = refl
      ends a b false d e = absurd (false_true e)

  abbrev start_note : Slice C → Noted B
  start_note s = note (start_of course s)

  lone_is : (s : Slice C) → IsPoint s → noted_of_group course (lone s) ≡ alone (start_note s)
  lone_is s h = rw (h.0, h.1, h.2) refl

  points_are : (slices : List (Slice C)) → ArePoints slices → map (noted_of_group course) (map lone slices) ≡ map alone (map start_note slices)
  points_are [] h = refl
  points_are (s ∷ rest) h = ap (λ (q : Sequence (Noted B)). q ∷ map (noted_of_group course) (map lone rest)) (lone_is s h.0) ∙ ap (λ (qs : List (Sequence (Noted B))). alone (start_note s) ∷ qs) (points_are rest h.1)

  starts_said : (slices : List (Slice C)) → AreSaid slices → Each entry (start_text style) start_note slices
  starts_said [] h = tt
  starts_said (s ∷ rest) h = (start_said s h.0, starts_said rest h.1)

  set_literal : (slices : List (Slice C)) → (slices ≡ [] → ⊥) → AreSaid slices → literal entry (set_text style slices) (map alone (map start_note slices))
  set_literal [] some h = absurd (some refl)
  set_literal (s ∷ []) some h = inr (inr (record { meant = start_note s; said = start_said s h.0; is = refl }))
  set_literal (s ∷ r ∷ rest) some h =
      inl (within_braces_said {l = set_members entry} (with_commas (map (start_text style) (s ∷ r ∷ rest))) (map alone (map start_note (s ∷ r ∷ rest)))
      (inr (record { meant = map start_note (s ∷ r ∷ rest); said = listed_said entry (start_text style) start_note s (r ∷ rest) (starts_said (s ∷ r ∷ rest) h); is = refl })))

  -- ---- all of a text

  groups_some : (slices : List (Slice C)) → (slices ≡ [] → ⊥) → neighbour_groups course slices ≡ [] → ⊥
  groups_some slices some e = some (sym (are_groups course slices).whole ∙ ap joined e)

  -- the literal that the groups of the slices print, after prefixes
  abbrev pub printed_literal : List Prefix → List (Slice C) → Literal (Noted B)
  printed_literal before slices = record { says_step = says_step before; sequences = map (noted_of_group course) (neighbour_groups course slices) }

  pub printed_said : (prefixes : Prefixes) (before : List Prefix) (front : Text) (slices : List (Slice C)) → ArePrefixes prefixes front before → Stops (begins_prefix (remaining prefixes before)) (moving_text style slices)
      → (slices ≡ [] → ⊥) → AreSaid slices → (list_all (λ (s : Slice C). not (is_long s)) slices ≡ true → ArePoints slices) → temporal prefixes entry (front ++ moving_text style slices) (printed_literal before slices)
  printed_said prefixes before front slices are stops some said points = within_said (front ++ moving_text style slices) (printed_literal before slices) (record {
    front = front;
    back = moving_text style slices;
    whole = refl;
    said = before;
    prefixes = are;
    behind = stops;
    sequences = by_lengths (list_all (λ (s : Slice C). not (is_long s)) slices) points;
    step = refl;
  })
    where
      by_lengths : (set : Bool) → (set ≡ true → ArePoints slices) → literal entry (cond set (set_text style slices) (groups_text style (neighbour_groups course slices))) (map (noted_of_group course) (neighbour_groups course slices))
      by_lengths true p =
          let are : map (noted_of_group course) (neighbour_groups course slices) ≡ map alone (map start_note slices) = ap (map (noted_of_group course)) (point_groups slices (p refl)) ∙ points_are slices (p refl) in
          subst (λ (qs : List (Sequence (Noted B))). literal entry (set_text style slices) qs) (sym are) (set_literal slices some said)
      by_lengths false p =
          let g = are_groups course slices in
          groups_literal (neighbour_groups course slices) (groups_some slices some) (groups_said (neighbour_groups course slices) g.together (subst AreSaid (sym g.whole) said))
