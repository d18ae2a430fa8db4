-- The written instants of the groups of slices: they are sound sequences, and define the values of
-- the slices.
use Rattle.std.{specs.Prelude.{◌&&◌, ◌||◌, not, slice_get}, specs.List.{AllByRecursion, list_all}}
use Rattle.std.proofs.Common.{◌≡◌, suc, ◌-◌, List, [], ◌∷◌, ◌++◌, length, map, Bool, true, false, cond, Option, Some, None, refl, sym, ap, subst, ◌∙◌, arith, inl, inr, ◌⊎◌}
use Rattle.std.proofs.lemmas.Bool.{and_parts as both, and_from as and, not-true as not_true}
use Rattle.mob_list.proofs.Each.{each_parts}
use Rattle.mob_span.{specs.Span.{has, has_instant}, proofs.FirstOf.{or_else}}
use Rattle.mob_ratio.{specs.Ratio.{Ratio}, specs.Order.{before, up_to, same}, proofs.Order.{before-back, before-neither, same_exact}}
use Rattle.mob_slice.{specs.declared.slice.Slice.{Slice}, specs.CourseOf.{CourseOf}, specs.Slices.{value_at}}
use Rattle.mob_lift.proofs.Runs.{value_at-append}
use Rattle.mob_written.{specs.declared.written.Written.{Written}, specs.declared.written.Sequence.{Sequence}, specs.Printed.{is_long, takes_up, shares_group, neighbour_groups, put_in_group}}
use Rattle.mob_written.proofs.Small.{false_true}
use Rattle.mob_literal.{specs.Sequences.{rises}, specs.Slices.{slices_of, stretch, drawn}, specs.Sound.{ends_level, is_closed_alone, is_sound_sequence, clear_ends, is_before, are_in_order, is_sound}}
use Rattle.mob_literal.{proofs.Drawn.{IsLawful, drawn_again, arrives_again}, proofs.FlatLemmas.{flat, Ordered, ordered_rest}}

-- the slices of all groups
abbrev pub joined : {C : Type 0} → List (List (Slice C)) → List (Slice C)
joined [] = []
joined (group ∷ groups) = group ++ joined groups

module _ {C B : Type 0} (course : CourseOf C B) where
  abbrev pub start_of : Slice C → Written B
  start_of s = record { value = course.start s.course; instant = s.span.lower }

  abbrev pub end_of : Slice C → Written B
  end_of s = record { value = course.end s.course; instant = s.span.upper }

  -- the instants after the start of s, if the slices `group` follow s in its group
  abbrev pub more : Slice C → List (Slice C) → List (Written B)
  more s [] = cond (is_long s) (end_of s ∷ []) []
  more s (r ∷ group) = start_of r ∷ more r group

  abbrev pub upper_of : Slice C → List (Slice C) → Bool
  upper_of s [] = s.span.upper_inc
  upper_of s (r ∷ group) = upper_of r group

  -- the sequence that a group prints
  abbrev pub sequence_of : List (Slice C) → Sequence (Written B)
  sequence_of [] = record { lower_inc = true; instants = []; upper_inc = true }
  sequence_of (s ∷ group) = record { lower_inc = s.span.lower_inc; instants = start_of s ∷ more s group; upper_inc = upper_of s group }

  -- each slice shares its group with the next
  abbrev pub HoldTogether : Slice C → List (Slice C) → Type 0
  HoldTogether s [] = Unit {0}
  HoldTogether s (r ∷ group) = (shares_group course s r ≡ true) × HoldTogether r group

  abbrev pub AllHoldTogether : List (List (Slice C)) → Type 0
  AllHoldTogether [] = Unit {0}
  AllHoldTogether ([] ∷ groups) = ⊥
  AllHoldTogether ((s ∷ group) ∷ groups) = HoldTogether s group × AllHoldTogether groups

  -- ---- the groups are those of the slices, in order

  pub record AreGroups (slices : List (Slice C)) (groups : List (List (Slice C))) : Type 0 where
    pub together : AllHoldTogether groups
    pub whole : joined groups ≡ slices

  put_groups : (s : Slice C) (rest : List (Slice C)) (groups : List (List (Slice C))) → AreGroups rest groups → AreGroups (s ∷ rest) (put_in_group course s groups)
  put_groups s rest [] g = record { together = (tt, tt); whole = ap (λ (x : List (Slice C)). s ∷ x) g.whole }
  put_groups s rest ([] ∷ groups) g = absurd g.together
  put_groups s rest ((r ∷ group) ∷ groups) g = by_next (shares_group course s r) refl
    where
      by_next : (on : Bool) → shares_group course s r ≡ on → AreGroups (s ∷ rest) (cond on ((s ∷ r ∷ group) ∷ groups) ((s ∷ []) ∷ (r ∷ group) ∷ groups))
      by_next true h = record { together = ((h, g.together.0), g.together.1); whole = ap (λ (x : List (Slice C)). s ∷ x) g.whole }
      by_next false h = record { together = (tt, g.together); whole = ap (λ (x : List (Slice C)). s ∷ x) g.whole }

  pub are_groups : (slices : List (Slice C)) → AreGroups slices (neighbour_groups course slices)
  are_groups [] = record { together = tt; whole = refl }
  are_groups (s ∷ rest) = put_groups s rest (neighbour_groups course rest) (are_groups rest)

-- ---- one slice, over plain variables

split_test : (a p q : Bool) → (p ≡ true → q ≡ false) → (p ≡ false → q ≡ false → a ≡ true) → (a && (p || (true && not q))) ≡ ((a && (p || (false && not q))) || ((q || (true && not p)) && (p || (true && not q))))
split_test true true true f g = absurd (false_true (sym (f refl)))
split_test true true false f g = refl
split_test true false true f g = refl
split_test true false false f g = refl
split_test false true true f g = absurd (false_true (sym (f refl)))
split_test false true false f g = refl
split_test false false true f g = refl
split_test false false false f g = absurd (false_true (g refl refl))

begun : (included : Bool) (l u t : Ratio) → before l u ≡ true → u ≡ t → (before l t || (included && up_to l t)) ≡ true
begun included l u t h e = rw (subst (λ (x : Ratio). before l x ≡ true) e h) refl

-- a span with its upper end has the instants of the span without it, and that end
split_has : (l u t : Ratio) (included : Bool) → before l u ≡ true
    → has (record { lower = l; upper = u; lower_inc = included; upper_inc = true }) t
    ≡ (has (record { lower = l; upper = u; lower_inc = included; upper_inc = false }) t || has (record { lower = u; upper = u; lower_inc = true; upper_inc = true }) t)
split_has l u t included h = split_test (before l t || (included && up_to l t)) (before t u) (before u t) (before-back t u) (λ p q. begun included l u t h (before-neither u t q p))

-- two alternatives in order, whose values are equal if only the second test passes
choose : {A : Type 0} (a b : Bool) (x y : A) (o : Option A) → (a ≡ false → b ≡ true → y ≡ x) → cond a (Some x) (cond b (Some y) o) ≡ cond (a || b) (Some x) o
choose true b x y o h = refl
choose {A} false true x y o h = ap (λ (z : A). Some z) (h refl refl)
choose false false x y o h = refl

-- the one instant of a point
at_point : (u t : Ratio) → has (record { lower = u; upper = u; lower_inc = true; upper_inc = true }) t ≡ true → t ≡ u
at_point u t h = by_order (before t u) (before u t) refl refl h
  where
    by_order : (a b : Bool) → before t u ≡ a → before u t ≡ b → ((b || (true && not a)) && (a || (true && not b))) ≡ true → t ≡ u
    by_order true true e f k = absurd (false_true (sym (before-back t u e) ∙ f))
    by_order true false e f k = absurd cc
    by_order false true e f k = absurd cc
    by_order false false e f k = before-neither t u e f

module _ {C B : Type 0} (course : CourseOf C B) (laws : IsLawful course) where
  abbrev written : B → Ratio → Written B
  written v t = record { value = v; instant = t }

  abbrev slice_on : Ratio → Ratio → Bool → Bool → C → Slice C
  slice_on l u lower_inc upper_inc c = record { span = record { lower = l; upper = u; lower_inc = lower_inc; upper_inc = upper_inc }; course = c }

  -- the two written instants of a slice give the values of that slice
  long_value : (step : Bool) (l u t : Ratio) (lower upper : Bool) (c : C) → before l u ≡ true → drawn course step (course.start c) (course.end c) ≡ c
      → value_at course.value (slices_of course step lower (written (course.start c) l ∷ written (course.end c) u ∷ []) upper) t ≡ value_at course.value (slice_on l u lower upper c ∷ []) t
  long_value step l u t lower true c h e =
      ap (λ (k : C). cond (has (slice_on l u lower false c).span t) (Some (course.value k l u t)) (cond (has (slice_on u u true true c).span t) (Some (course.value (course.make (course.end c) (course.end c)) u u t)) None)) e
      ∙ choose (has (slice_on l u lower false c).span t) (has (slice_on u u true true c).span t) (course.value c l u t) (course.value (course.make (course.end c) (course.end c)) u u t) None
      (λ none here. laws.level (course.end c) u u t ∙ sym (ap (λ (x : Ratio). course.value c l u x) (at_point u t here) ∙ laws.at_upper c l u h))
      ∙ ap (λ (b : Bool). cond b (Some (course.value c l u t)) None) (sym (split_has l u t lower h))
  long_value step l u t lower false c h e =
      ap (λ (k : C). cond (has (slice_on l u lower false c).span t) (Some (course.value k l u t)) None) e

  short_value : (step : Bool) (l u t : Ratio) (lower upper : Bool) (c : C) → lower ≡ true → upper ≡ true → l ≡ u
      → value_at course.value (slices_of course step lower (written (course.start c) l ∷ []) upper) t ≡ value_at course.value (slice_on l u lower upper c ∷ []) t
  short_value step l u t true true c k h e =
      by_has (has (slice_on l l true true c).span t) refl
      ∙ ap (λ (x : Ratio). value_at course.value (slice_on l x true true c ∷ []) t) e
    where
      by_has : (b : Bool) → has (slice_on l l true true c).span t ≡ b → cond b (Some (course.value (course.make (course.start c) (course.start c)) l l t)) None ≡ cond b (Some (course.value c l l t)) None
      by_has true here = ap (λ (x : B). Some x) (laws.level (course.start c) l l t ∙ sym (ap (λ (x : Ratio). course.value c l l x) (at_point l t here) ∙ laws.at_lower c l l))
      by_has false here = refl
  short_value step l u t true false c k h e = absurd (false_true h)
  short_value step l u t false upper c k h e = absurd (false_true k)

-- a slice of a single instant includes it
pub record IsShort (l u : Ratio) (lower_inc upper_inc : Bool) : Type 0 where
  pub lower : lower_inc ≡ true
  pub upper : upper_inc ≡ true
  pub one : l ≡ u

pub is_short : (l u : Ratio) (lower upper : Bool) → has_instant (record { lower = l; upper = u; lower_inc = lower; upper_inc = upper }) ≡ true → before l u ≡ false → IsShort l u lower upper
is_short l u lower upper h short =
    let a : ((lower && upper) && up_to l u) ≡ true = subst (λ (b : Bool). (b || ((lower && upper) && up_to l u)) ≡ true) short h in
    let b = both (lower && upper) (up_to l u) a in
    let c = both lower upper b.0 in
    record { lower = c.0; upper = c.1; one = before-neither l u short (not_true (before u l) b.1) }

-- a slice that has an instant but excludes its upper end is longer than one instant
is_open : (l u : Ratio) (lower : Bool) → has_instant (record { lower = l; upper = u; lower_inc = lower; upper_inc = false }) ≡ true → before l u ≡ true
is_open l u lower h = by_order (before l u) lower h
  where
    by_order : (b lower : Bool) → (b || ((lower && false) && up_to l u)) ≡ true → b ≡ true
    by_order true lower h = refl
    by_order false true h = absurd cc
    by_order false false h = absurd cc

-- ---- a group is a sound sequence with the values of its slices

module _ {C B : Type 0} (has_value : B → Bool) (course : CourseOf C B) (laws : IsLawful course) (step : Bool) (moves : step ≡ false → course.steady ≡ false) where
  -- under step interpolation the slice ends with the value with which it starts
  abbrev pub IsKept : Slice C → Type 0
  IsKept s = step ≡ true → course.start s.course ≡ course.end s.course

  abbrev pub AreKept : List (Slice C) → Type 0
  AreKept slices = AllByRecursion IsKept slices

  abbrev LevelEnds : Written B → List (Written B) → Type 0
  LevelEnds i [] = ⊥
  LevelEnds i (j ∷ js) = ends_level course step (i ∷ j ∷ js) ≡ true

  -- the group s ∷ group, if `rest` is written after the start of s
  record IsGroup (s : Slice C) (group : List (Slice C)) (rest : List (Written B)) (upper : Bool) : Type 0 where
    up : rises (start_of course s ∷ rest) ≡ true
    closed : is_closed_alone s.span.lower_inc upper (start_of course s ∷ rest) ≡ true
    level : (upper ≡ true) ⊎ LevelEnds (start_of course s) rest
    values : (t : Ratio) → value_at course.value (slices_of course step s.span.lower_inc (start_of course s ∷ rest) upper) t ≡ value_at course.value (s ∷ group) t

  single : (s : Slice C) → has_instant s.span ≡ true → IsKept s → IsGroup s [] (more course s []) s.span.upper_inc
  single s some kept = by_length (is_long s) refl
    where
      again : drawn course step (course.start s.course) (course.end s.course) ≡ s.course
      again = drawn_again course laws step moves s.course (course.end s.course) kept (λ h. refl)

      by_length : (long : Bool) → is_long s ≡ long → IsGroup s [] (cond long (end_of course s ∷ []) []) s.span.upper_inc
      by_length true h = record {
        up = rw h refl;
        closed = refl;
        level = inr (arrives_again course laws step s.course kept);
        values = λ t. long_value course laws step s.span.lower s.span.upper t s.span.lower_inc s.span.upper_inc s.course h again;
      }
      by_length false h =
          let i = is_short s.span.lower s.span.upper s.span.lower_inc s.span.upper_inc some h in
          record {
            up = refl;
            closed = rw (i.lower, i.upper) refl;
            level = inl i.upper;
            values = λ t. short_value course laws step s.span.lower s.span.upper t s.span.lower_inc s.span.upper_inc s.course i.lower i.upper i.one;
          }

  -- the properties of a slice that shares its group with the next one
  record GoesOn (s r : Slice C) : Type 0 where
    at : s.span.upper ≡ r.span.lower
    next : r.span.lower_inc ≡ true
    open_end : s.span.upper_inc ≡ false
    long : before s.span.lower s.span.upper ≡ true
    again : drawn course step (course.start s.course) (course.start r.course) ≡ s.course

  meets_start : (s r : Slice C) → takes_up course s.course r.course ≡ true → step ≡ false → course.start r.course ≡ course.end s.course
  meets_start s r h own = sym ((laws.exact (course.end s.course) (course.start r.course)).0 (subst (λ (b : Bool). (b || course.is_same (course.end s.course) (course.start r.course)) ≡ true) (moves own) h))

  going_on : (s r : Slice C) → has_instant s.span ≡ true → IsKept s → shares_group course s r ≡ true → GoesOn s r
  going_on s r some kept h =
      let p = both (same s.span.upper r.span.lower && (r.span.lower_inc && not s.span.upper_inc)) (takes_up course s.course r.course) h in
      let a = both (same s.span.upper r.span.lower) (r.span.lower_inc && not s.span.upper_inc) p.0 in
      let b = both r.span.lower_inc (not s.span.upper_inc) a.1 in
      let o = not_true s.span.upper_inc b.1 in
      record {
        at = (same_exact s.span.upper r.span.lower).0 a.0;
        next = b.0;
        open_end = o;
        long = is_open s.span.lower s.span.upper s.span.lower_inc (subst (λ (x : Bool). has_instant (record { lower = s.span.lower; upper = s.span.upper; lower_inc = s.span.lower_inc; upper_inc = x }) ≡ true) o some);
        again = drawn_again course laws step moves s.course (course.start r.course) kept (meets_start s r p.1);
      }

  more_level : (i j : Written B) (rest : List (Written B)) → LevelEnds j rest → LevelEnds i (j ∷ rest)
  more_level i j [] h = absurd h
  more_level i j (k ∷ rest) h = h

  extended : (s r : Slice C) (group : List (Slice C)) (rest : List (Written B)) (upper : Bool) → GoesOn s r → IsGroup r group rest upper → IsGroup s (r ∷ group) (start_of course r ∷ rest) upper
  extended s r group rest upper g h = record {
    up = rw (subst (λ (x : Ratio). before s.span.lower x ≡ true) g.at g.long, h.up) refl;
    closed = refl;
    level = elim h.level [ inl u ↦ inl u | inr l ↦ inr (more_level (start_of course s) (start_of course r) rest l) ];
    values = λ t.
        let first : has (stretch course step s.span.lower_inc (start_of course s) (start_of course r)).span t ≡ has s.span t =
        ap (λ (x : Ratio). has (record { lower = s.span.lower; upper = x; lower_inc = s.span.lower_inc; upper_inc = false }) t) (sym g.at)
        ∙ ap (λ (x : Bool). has (record { lower = s.span.lower; upper = s.span.upper; lower_inc = s.span.lower_inc; upper_inc = x }) t) (sym g.open_end) in
        let its : course.value (drawn course step (course.start s.course) (course.start r.course)) s.span.lower r.span.lower t ≡ course.value s.course s.span.lower s.span.upper t =
        ap (λ (c : C). course.value c s.span.lower r.span.lower t) g.again
        ∙ ap (λ (x : Ratio). course.value s.course s.span.lower x t) (sym g.at) in
        let others : value_at course.value (slices_of course step true (start_of course r ∷ rest) upper) t ≡ value_at course.value (r ∷ group) t =
        subst (λ (x : Bool). value_at course.value (slices_of course step x (start_of course r ∷ rest) upper) t ≡ value_at course.value (r ∷ group) t) g.next (h.values t) in
        ap (λ (b : Bool). cond b (Some (course.value (drawn course step (course.start s.course) (course.start r.course)) s.span.lower r.span.lower t)) (value_at course.value (slices_of course step true (start_of course r ∷ rest) upper) t)) first
        ∙ ap (λ (x : B). cond (has s.span t) (Some x) (value_at course.value (slices_of course step true (start_of course r ∷ rest) upper) t)) its
        ∙ ap (λ (o : Option B). cond (has s.span t) (Some (course.value s.course s.span.lower s.span.upper t)) o) others;
  }

  group_is : (s : Slice C) (group tail : List (Slice C)) → HoldTogether course s group → Ordered course (s ∷ (group ++ tail)) → AreKept (s ∷ (group ++ tail)) → IsGroup s group (more course s group) (upper_of course s group)
  group_is s [] tail run ordered kept = single s ordered.0.some kept.0
  group_is s (r ∷ group) tail run ordered kept = extended s r group (more course r group) (upper_of course r group) (going_on s r ordered.0.some kept.0 run.0) (group_is r group tail run.1 ordered.2 kept.1)

  level_test : (upper : Bool) (i : Written B) (rest : List (Written B)) → (upper ≡ true) ⊎ LevelEnds i rest → (upper || ends_level course step (i ∷ rest)) ≡ true
  level_test true i rest h = refl
  level_test false i [] h = refl
  level_test false i (j ∷ rest) h = elim h [ inl e ↦ absurd (false_true e) | inr l ↦ l ]

  -- the type has the value of each slice
  abbrev pub HasAll : List (Slice C) → Type 0
  HasAll slices = AllByRecursion (λ (s : Slice C). (has_value (course.start s.course) ≡ true) × (has_value (course.end s.course) ≡ true)) slices

  has_more : (s : Slice C) (group tail : List (Slice C)) → HasAll (s ∷ (group ++ tail)) → list_all (λ (i : Written B). has_value i.value) (start_of course s ∷ more course s group) ≡ true
  has_more s [] tail h = by_length (is_long s)
    where
      by_length : (long : Bool) → list_all (λ (i : Written B). has_value i.value) (start_of course s ∷ cond long (end_of course s ∷ []) []) ≡ true
      by_length true = rw (h.0.0, h.0.1) refl
      by_length false = rw h.0.0 refl
  has_more s (r ∷ group) tail h = rw (h.0.0, has_more r group tail h.1) refl

  sound_group : (s : Slice C) (group tail : List (Slice C)) → HoldTogether course s group → Ordered course (s ∷ (group ++ tail)) → AreKept (s ∷ (group ++ tail)) → HasAll (s ∷ (group ++ tail)) → is_sound_sequence has_value course step (sequence_of course (s ∷ group)) ≡ true
  sound_group s group tail run ordered kept values =
      let g = group_is s group tail run ordered kept in
      let end : (upper_of course s group || ends_level course step (start_of course s ∷ more course s group)) ≡ true = level_test (upper_of course s group) (start_of course s) (more course s group) g.level in
      and _ _ (has_more s group tail values) (and _ _ g.up (and _ _ g.closed end))

  all_sound : (groups : List (List (Slice C))) → AllHoldTogether course groups → Ordered course (joined groups) → AreKept (joined groups) → HasAll (joined groups) → list_all (is_sound_sequence has_value course step) (map (sequence_of course) groups) ≡ true
  all_sound [] together ordered kept values = refl
  all_sound ([] ∷ groups) together ordered kept values = absurd together
  all_sound ((s ∷ group) ∷ groups) together ordered kept values =
      and _ _ (sound_group s group (joined groups) together.0 ordered kept values)
      (all_sound groups together.1 (ordered_rest course (s ∷ group) (joined groups) ordered) (each_parts IsKept (s ∷ group) (joined groups) kept).1 (each_parts (λ (x : Slice C). (has_value (course.start x.course) ≡ true) × (has_value (course.end x.course) ≡ true)) (s ∷ group) (joined groups) values).1)

  -- ---- the groups are in order

  last_next : (i j : Written B) (is : List (Written B)) → slice_get (i ∷ j ∷ is) (length (i ∷ j ∷ is) - 1) ≡ slice_get (j ∷ is) (length (j ∷ is) - 1)
  last_next i j is =
      let a : length (i ∷ j ∷ is) - 1 ≡ suc (length is) = omega arith in
      let b : length (j ∷ is) - 1 ≡ length is = omega arith in
      rw (a, b) refl

  clear_group : (s : Slice C) (group : List (Slice C)) (r : Slice C) (tail : List (Slice C)) → Ordered course (s ∷ (group ++ r ∷ tail)) → clear_ends (upper_of course s group) r.span.lower_inc (slice_get (start_of course s ∷ more course s group) (length (start_of course s ∷ more course s group) - 1)) (Some (start_of course r)) ≡ true
  clear_group s [] r tail ordered = by_length (is_long s) refl
    where
      by_length : (long : Bool) → is_long s ≡ long → clear_ends s.span.upper_inc r.span.lower_inc (slice_get (start_of course s ∷ cond long (end_of course s ∷ []) []) (length (start_of course s ∷ cond long (end_of course s ∷ []) []) - 1)) (Some (start_of course r)) ≡ true
      by_length true h = ordered.1
      by_length false h =
          let i = is_short s.span.lower s.span.upper s.span.lower_inc s.span.upper_inc ordered.0.some h in
          subst (λ (x : Ratio). (before x r.span.lower || (up_to x r.span.lower && not (s.span.upper_inc && r.span.lower_inc))) ≡ true) (sym i.one) ordered.1
  clear_group s (q ∷ group) r tail ordered =
      subst (λ (o : Option (Written B)). clear_ends (upper_of course q group) r.span.lower_inc o (Some (start_of course r)) ≡ true) (sym (last_next (start_of course s) (start_of course q) (more course q group))) (clear_group q group r tail ordered.2)

  in_order : (groups : List (List (Slice C))) → AllHoldTogether course groups → Ordered course (joined groups) → are_in_order (map (sequence_of course) groups) ≡ true
  in_order [] together ordered = refl
  in_order (group ∷ []) together ordered = refl
  in_order ([] ∷ next ∷ groups) together ordered = absurd together
  in_order ((s ∷ group) ∷ [] ∷ groups) together ordered = absurd together.1
  in_order ((s ∷ group) ∷ (r ∷ next) ∷ groups) together ordered =
      let first : is_before (sequence_of course (s ∷ group)) (sequence_of course (r ∷ next)) ≡ true = clear_group s group r (next ++ joined groups) ordered in
      and _ _ first (in_order ((r ∷ next) ∷ groups) together.1 (ordered_rest course (s ∷ group) (joined ((r ∷ next) ∷ groups)) ordered))

  -- ---- the sequences have the values of the slices

  pub flat_values : (groups : List (List (Slice C))) → AllHoldTogether course groups → Ordered course (joined groups) → AreKept (joined groups) → (t : Ratio) → value_at course.value (flat course step (map (sequence_of course) groups)) t ≡ value_at course.value (joined groups) t
  unfolding flat
  flat_values [] together ordered kept t = refl
  flat_values ([] ∷ groups) together ordered kept t = absurd together
  flat_values ((s ∷ group) ∷ groups) together ordered kept t =
      let g = group_is s group (joined groups) together.0 ordered kept in
      let others = flat_values groups together.1 (ordered_rest course (s ∷ group) (joined groups) ordered) (each_parts IsKept (s ∷ group) (joined groups) kept).1 t in
      value_at-append course.value (slices_of course step s.span.lower_inc (start_of course s ∷ more course s group) (upper_of course s group)) (flat course step (map (sequence_of course) groups)) t
      ∙ ap (λ (o : Option B). or_else o (value_at course.value (flat course step (map (sequence_of course) groups)) t)) (g.values t)
      ∙ ap (λ (o : Option B). or_else (value_at course.value (s ∷ group) t) o) others
      ∙ sym (value_at-append course.value (s ∷ group) (joined groups) t)

  pub sound_groups : (groups : List (List (Slice C))) → AllHoldTogether course groups → Ordered course (joined groups) → AreKept (joined groups) → HasAll (joined groups) → is_sound has_value course step (map (sequence_of course) groups) ≡ true
  sound_groups groups together ordered kept values = and _ _ (in_order groups together ordered) (all_sound groups together ordered kept values)
