-- The slices of a sequence have the values of the sequence.
use Rattle.std.{specs.Prelude.{Contains, ◌&&◌, ◌||◌}, proofs.Common.{◌≡◌, List, [], ◌∷◌, Bool, true, false, cond, Option, Some, None, refl, sym, ap, subst, ◌∙◌, arith, inl, inr, ◌⊎◌}}
use Rattle.std.proofs.lemmas.Bool.{and_parts as both, and_from as and}
use Rattle.mob_ratio.{specs.Ratio.{Ratio}, specs.Order.{before, up_to}, proofs.Order.{before-back, up_to-self, before-up_to, up_to-trans, up_to-both, up_to-not-after}}
use Rattle.mob_list.proofs.Entries.{first_in, later_in, none_in, which_in}
use Rattle.mob_span.specs.Span.{has}
use Rattle.mob_slice.{specs.Slices.{value_at}, specs.CourseOf.{CourseOf}}
use Rattle.mob_written.specs.declared.written.Written.{Written}
use Rattle.mob_literal.{specs.Sequences.{SequenceAt, IsValueFrom, IsNextAfter, reaches_to, rises}, specs.Slices.{slices_of, stretch, instant_slice, drawn}, proofs.Drawn.{IsLawful}}

reaches_upto : (included : Bool) (a b : Ratio) → reaches_to included a b ≡ true → up_to a b ≡ true
reaches_upto true a b h = grind (arith, h, before-back a b)
reaches_upto false a b h = grind (arith, h, before-back a b)

before_reaches : (included : Bool) (a b : Ratio) → before a b ≡ true → reaches_to included a b ≡ true
before_reaches true a b h = rw h refl
before_reaches false a b h = rw h refl

upto_reaches : (a b : Ratio) → up_to a b ≡ true → reaches_to true a b ≡ true
upto_reaches a b h = grind (arith, h)

-- the first of the instants is not later than any other
rise_first : {B : Type 0} (j : Written B) (is : List (Written B)) (k : Written B) → rises (j ∷ is) ≡ true → Contains (j ∷ is) k → up_to j.instant k.instant ≡ true
rise_first {B} j [] k up h = elim (which_in j [] k h) [
  | inl e ↦ subst (λ (x : Written B). up_to j.instant x.instant ≡ true) e (up_to-self j.instant)
  | inr n ↦ absurd (none_in k n)
]
rise_first {B} j (i ∷ is) k up h = elim (which_in j (i ∷ is) k h) [
  | inl e ↦ subst (λ (x : Written B). up_to j.instant x.instant ≡ true) e (up_to-self j.instant)
  | inr n ↦
      let r = both (before j.instant i.instant) (rises (i ∷ is)) up in
      up_to-trans j.instant i.instant k.instant (reaches_upto false j.instant i.instant (before_reaches false j.instant i.instant r.0)) (rise_first i is k r.1 n)
]

-- the instants after the first are later than it
rise_strictly : {B : Type 0} (j : Written B) (is : List (Written B)) (k : Written B) → rises (j ∷ is) ≡ true → Contains is k → before j.instant k.instant ≡ true
rise_strictly j [] k up h = absurd (none_in k h)
rise_strictly j (i ∷ is) k up h =
    let r = both (before j.instant i.instant) (rises (i ∷ is)) up in
    before-up_to j.instant i.instant k.instant r.0 (rise_first i is k r.1 h)

-- the value of one slice before others
looked : {A : Type 0} (test : Bool) (x : A) (o : Option A) (v : A) → cond test (Some x) o ≡ Some v → ((test ≡ true) × (x ≡ v)) ⊎ ((test ≡ false) × (o ≡ Some v))
looked true x o v h = inl (refl, cc)
looked false x o v h = inr (refl, h)

module _ {C B : Type 0} (course : CourseOf C B) (laws : IsLawful course) where
  -- ---- one value

  point_value : (step : Bool) (instants : List (Written B)) (i : Written B) (t : Ratio) (v : B) → i.instant ≡ t → i.value ≡ v → IsValueFrom course step instants i t v
  point_value true instants i t v e h = h
  point_value false instants i t v e h = inl (record { instant = e; value = h })

  drawn_value : (step : Bool) (instants : List (Written B)) (i j : Written B) (t : Ratio) (v : B) → IsNextAfter instants t j → course.value (drawn course step i.value j.value) i.instant j.instant t ≡ v → IsValueFrom course step instants i t v
  drawn_value true instants i j t v next e = sym (laws.level i.value i.instant j.instant t) ∙ e
  drawn_value false instants i j t v next e = inr (record { to = j; next = next; value = e })

  -- with one more instant before the others, which is not later than t
  value_with : (step : Bool) (i : Written B) (is : List (Written B)) (by : Written B) (t : Ratio) (v : B) → up_to i.instant t ≡ true → IsValueFrom course step is by t v → IsValueFrom course step (i ∷ is) by t v
  value_with true i is by t v a h = h
  value_with false i is by t v a h = elim h [
    | inl w ↦ inl w
    | inr o ↦ inr (record {
      to = o.to;
      next = record {
        listed = later_in i is o.to o.next.listed;
        later = o.next.later;
        first = λ k c b. elim (which_in i is k c) [
          | inl same ↦ absurd (up_to-not-after i.instant t a (subst (λ (x : Written B). before t x.instant ≡ true) (sym same) b))
          | inr there ↦ o.next.first k there b
        ];
      };
      value = o.value;
    })
  ]

  -- the same without that instant
  value_without : (step : Bool) (i : Written B) (is : List (Written B)) (by : Written B) (t : Ratio) (v : B) → up_to i.instant t ≡ true → IsValueFrom course step (i ∷ is) by t v → IsValueFrom course step is by t v
  value_without true i is by t v a h = h
  value_without false i is by t v a h = elim h [
    | inl w ↦ inl w
    | inr o ↦ elim (which_in i is o.to o.next.listed) [
      | inl same ↦ absurd (up_to-not-after i.instant t a (subst (λ (x : Written B). before t x.instant ≡ true) (sym same) o.next.later))
      | inr there ↦ inr (record { to = o.to; next = record { listed = there; later = o.next.later; first = λ k c b. o.next.first k (later_in i is k c) b }; value = o.value })
    ]
  ]

  -- the value from the last instant on
  value_of_last : (step : Bool) (i : Written B) (t : Ratio) (v : B) → up_to i.instant t ≡ true → IsValueFrom course step (i ∷ []) i t v → i.value ≡ v
  value_of_last true i t v a h = h
  value_of_last false i t v a h = elim h [
    | inl w ↦ w.value
    | inr o ↦ elim (which_in i [] o.to o.next.listed) [
      | inl same ↦ absurd (up_to-not-after i.instant t a (subst (λ (x : Written B). before t x.instant ≡ true) (sym same) o.next.later))
      | inr n ↦ absurd (none_in o.to n)
    ]
  ]

  -- the value between the first instant and the second
  value_of_first : (step : Bool) → (step ≡ false → course.steady ≡ false) → (i j : Written B) (is : List (Written B)) (t : Ratio) (v : B) → rises (i ∷ j ∷ is) ≡ true → up_to i.instant t ≡ true → before t j.instant ≡ true → IsValueFrom course step (i ∷ j ∷ is) i t v → course.value (drawn course step i.value j.value) i.instant j.instant t ≡ v
  value_of_first true moves i j is t v up a b h = laws.level i.value i.instant j.instant t ∙ h
  value_of_first false moves i j is t v up a b h = elim h [
    | inl w ↦
        ap (λ (x : Ratio). course.value (course.make i.value j.value) i.instant j.instant x) (sym w.instant)
        ∙ laws.at_lower (course.make i.value j.value) i.instant j.instant
        ∙ laws.moves_from (moves refl) i.value j.value
        ∙ w.value
    | inr o ↦
        let to_is : j ≡ o.to = second o.to o.next.listed o.next.later (o.next.first j (later_in i (j ∷ is) j (first_in j is)) b) in
        ap (λ (x : Written B). course.value (course.make i.value x.value) i.instant x.instant t) to_is ∙ o.value
  ]
    where
      second : (k : Written B) → Contains (i ∷ j ∷ is) k → before t k.instant ≡ true → up_to k.instant j.instant ≡ true → j ≡ k
      second k c later first = elim (which_in i (j ∷ is) k c) [
        | inl same ↦ absurd (up_to-not-after i.instant t a (subst (λ (x : Written B). before t x.instant ≡ true) (sym same) later))
        | inr there ↦ elim (which_in j is k there) [
          | inl same ↦ same
          | inr behind ↦
              let r = both (before i.instant j.instant) (rises (j ∷ is)) up in
              absurd (up_to-not-after k.instant j.instant first (rise_strictly j is k r.1 behind))
        ]
      ]

  -- ---- from slices to the sequence

  -- the span of the last instant
  point_within : (step lower upper : Bool) (i : Written B) (t : Ratio) (v : B) → reaches_to lower i.instant t ≡ true → up_to t i.instant ≡ true → upper ≡ true → i.value ≡ v → SequenceAt course step lower (i ∷ []) upper t v
  point_within step lower upper i t v a b u e = record {
    within = record {
      begun = (i, first_in i [], a);
      not_ended = (i, first_in i [], rw u (upto_reaches t i.instant b));
    };
    by = i;
    last = record {
      listed = first_in i [];
      not_later = reaches_upto lower i.instant t a;
      last = λ j h k. elim (which_in i [] j h) [
        | inl same ↦ subst (λ (x : Written B). up_to x.instant i.instant ≡ true) same (up_to-self i.instant)
        | inr n ↦ absurd (none_in j n)
      ];
    };
    value = point_value step (i ∷ []) i t v (up_to-both i.instant t (reaches_upto lower i.instant t a) b) e;
  }

  -- from the first instant to the second
  first_stretch : (step lower upper : Bool) (i j : Written B) (is : List (Written B)) (t : Ratio) (v : B) → rises (i ∷ j ∷ is) ≡ true → reaches_to lower i.instant t ≡ true → before t j.instant ≡ true → course.value (drawn course step i.value j.value) i.instant j.instant t ≡ v → SequenceAt course step lower (i ∷ j ∷ is) upper t v
  first_stretch step lower upper i j is t v up a b e =
      let r = both (before i.instant j.instant) (rises (j ∷ is)) up in
      record {
        within = record {
          begun = (i, first_in i (j ∷ is), a);
          not_ended = (j, later_in i (j ∷ is) j (first_in j is), before_reaches upper t j.instant b);
        };
        by = i;
        last = record {
          listed = first_in i (j ∷ is);
          not_later = reaches_upto lower i.instant t a;
          last = λ k h n. elim (which_in i (j ∷ is) k h) [
            | inl same ↦ subst (λ (x : Written B). up_to x.instant i.instant ≡ true) same (up_to-self i.instant)
            | inr later ↦ absurd (up_to-not-after j.instant t (up_to-trans j.instant k.instant t (rise_first j is k r.1 later) n) b)
          ];
        };
        value = drawn_value step (i ∷ j ∷ is) i j t v (record {
          listed = later_in i (j ∷ is) j (first_in j is);
          later = b;
          first = λ k h n. elim (which_in i (j ∷ is) k h) [
            | inl same ↦ absurd (up_to-not-after i.instant t (reaches_upto lower i.instant t a) (subst (λ (x : Written B). before t x.instant ≡ true) (sym same) n))
            | inr later ↦ rise_first j is k r.1 later
          ];
        }) e;
      }

  -- from the second instant on
  later_stretch : (step lower upper : Bool) (i j : Written B) (is : List (Written B)) (t : Ratio) (v : B) → rises (i ∷ j ∷ is) ≡ true → SequenceAt course step true (j ∷ is) upper t v → SequenceAt course step lower (i ∷ j ∷ is) upper t v
  later_stretch step lower upper i j is t v up s =
      let r = both (before i.instant j.instant) (rises (j ∷ is)) up in
      let begun = s.within.begun in
      let end = s.within.not_ended in
      let from : before i.instant begun.0.instant ≡ true = before-up_to i.instant j.instant begun.0.instant r.0 (rise_first j is begun.0 r.1 begun.1) in
      let after : before i.instant t ≡ true = before-up_to i.instant begun.0.instant t from (reaches_upto true begun.0.instant t begun.2) in
      record {
        within = record {
          begun = (i, first_in i (j ∷ is), before_reaches lower i.instant t after);
          not_ended = (end.0, later_in i (j ∷ is) end.0 end.1, end.2);
        };
        by = s.by;
        last = record {
          listed = later_in i (j ∷ is) s.by s.last.listed;
          not_later = s.last.not_later;
          last = λ k h n. elim (which_in i (j ∷ is) k h) [
            | inl same ↦
                let at_i : up_to i.instant s.by.instant ≡ true = reaches_upto false i.instant s.by.instant (before_reaches false i.instant s.by.instant (before-up_to i.instant j.instant s.by.instant r.0 (rise_first j is s.by r.1 s.last.listed))) in
                subst (λ (x : Written B). up_to x.instant s.by.instant ≡ true) same at_i
            | inr later ↦ s.last.last k later n
          ];
        };
        value = value_with step i (j ∷ is) s.by t v (reaches_upto false i.instant t (before_reaches false i.instant t after)) s.value;
      }

  pub slices_sequence : (step lower : Bool) (is : List (Written B)) (upper : Bool) (t : Ratio) (v : B) → rises is ≡ true → value_at course.value (slices_of course step lower is upper) t ≡ Some v → SequenceAt course step lower is upper t v
  slices_sequence step lower [] upper t v up h = absurd cc
  slices_sequence step lower (i ∷ []) true t v up h = elim (looked (has (instant_slice course lower i).span t) (course.value (course.make i.value i.value) i.instant i.instant t) None v h) [
    | inl s ↦ let b = both (reaches_to lower i.instant t) (before t i.instant || (true && up_to t i.instant)) s.0 in point_within step lower true i t v b.0 (reaches_upto true t i.instant b.1) refl (sym (laws.level i.value i.instant i.instant t) ∙ s.1)
    | inr n ↦ absurd (none_some v n.1)
  ]
    where
      none_some : {A : Type 0} (v : A) → ◌≡◌ {A = Option A} None (Some v) → ⊥
      none_some v e = absurd cc
  slices_sequence step lower (i ∷ []) false t v up h = absurd cc
  slices_sequence step lower (i ∷ j ∷ is) upper t v up h = elim (looked (has (stretch course step lower i j).span t) (course.value (drawn course step i.value j.value) i.instant j.instant t) (value_at course.value (slices_of course step true (j ∷ is) upper) t) v h) [
    | inl s ↦
        let b = both (reaches_to lower i.instant t) (before t j.instant || (false && up_to t j.instant)) s.0 in
        first_stretch step lower upper i j is t v up b.0 (only (before t j.instant) b.1) s.1
    | inr n ↦ later_stretch step lower upper i j is t v up (slices_sequence step true (j ∷ is) upper t v (both (before i.instant j.instant) (rises (j ∷ is)) up).1 n.1)
  ]
    where
      only : (a : Bool) → (a || false) ≡ true → a ≡ true
      only true e = refl
      only false e = e

  -- ---- from the sequence to slices

  -- an instant at which a sequence of one instant has a value
  only_one : (step lower upper : Bool) (i : Written B) (t : Ratio) (v : B) → SequenceAt course step lower (i ∷ []) upper t v → (reaches_to lower i.instant t ≡ true) × (reaches_to upper t i.instant ≡ true) × (up_to i.instant t ≡ true) × (i.value ≡ v)
  only_one step lower upper i t v s =
      let after = is_it (λ (x : Written B). up_to x.instant t ≡ true) s.by s.last.listed s.last.not_later in (
        is_it (λ (x : Written B). reaches_to lower x.instant t ≡ true) s.within.begun.0 s.within.begun.1 s.within.begun.2,
        is_it (λ (x : Written B). reaches_to upper t x.instant ≡ true) s.within.not_ended.0 s.within.not_ended.1 s.within.not_ended.2,
        after,
        value_of_last step i t v after (is_it (λ (x : Written B). IsValueFrom course step (i ∷ []) x t v) s.by s.last.listed s.value),
      )
    where
      is_it : (P : Written B → Type 0) (x : Written B) → Contains (i ∷ []) x → P x → P i
      is_it P x h p = elim (which_in i [] x h) [
        | inl same ↦ subst P (sym same) p
        | inr n ↦ absurd (none_in x n)
      ]

  has_point : (lower : Bool) (i : Written B) (t : Ratio) → reaches_to lower i.instant t ≡ true → up_to t i.instant ≡ true → has (instant_slice course lower i).span t ≡ true
  has_point lower i t a b = and (reaches_to lower i.instant t) (before t i.instant || (true && up_to t i.instant)) a (upto_reaches t i.instant b)

  has_stretch : (step lower : Bool) (i j : Written B) (t : Ratio) → reaches_to lower i.instant t ≡ true → before t j.instant ≡ true → has (stretch course step lower i j).span t ≡ true
  has_stretch step lower i j t a b = and (reaches_to lower i.instant t) (before t j.instant || (false && up_to t j.instant)) a (before_reaches false t j.instant b)

  not_stretch : (step lower : Bool) (i j : Written B) (t : Ratio) → up_to j.instant t ≡ true → has (stretch course step lower i j).span t ≡ false
  not_stretch step lower i j t h = grind (arith, h)

  later_sequence : (step lower upper : Bool) (i j : Written B) (is : List (Written B)) (t : Ratio) (v : B) → rises (i ∷ j ∷ is) ≡ true → (s : SequenceAt course step lower (i ∷ j ∷ is) upper t v) → Contains (j ∷ is) s.by → SequenceAt course step true (j ∷ is) upper t v
  later_sequence step lower upper i j is t v up s here =
      let r = both (before i.instant j.instant) (rises (j ∷ is)) up in
      let from_j : up_to j.instant t ≡ true = up_to-trans j.instant s.by.instant t (rise_first j is s.by r.1 here) s.last.not_later in
      let from_i : up_to i.instant t ≡ true = reaches_upto false i.instant t (before_reaches false i.instant t (before-up_to i.instant j.instant t r.0 from_j)) in
      let end = s.within.not_ended in
      record {
        within = record {
          begun = (s.by, here, upto_reaches s.by.instant t s.last.not_later);
          not_ended = elim (which_in i (j ∷ is) end.0 end.1) [
            | inl same ↦
                let back : up_to t i.instant ≡ true = reaches_upto upper t i.instant (subst (λ (x : Written B). reaches_to upper t x.instant ≡ true) (sym same) end.2) in
                absurd (up_to-not-after j.instant i.instant (up_to-trans j.instant t i.instant from_j back) r.0)
            | inr later ↦ (end.0, later, end.2)
          ];
        };
        by = s.by;
        last = record { listed = here; not_later = s.last.not_later; last = λ k h n. s.last.last k (later_in i (j ∷ is) k h) n };
        value = value_without step i (j ∷ is) s.by t v from_i s.value;
      }

  -- if the first instant is the last one up to t, the second is later than t
  first_ends : (step lower upper : Bool) (i j : Written B) (is : List (Written B)) (t : Ratio) (v : B) → rises (i ∷ j ∷ is) ≡ true → (s : SequenceAt course step lower (i ∷ j ∷ is) upper t v) → i ≡ s.by → before t j.instant ≡ true
  first_ends step lower upper i j is t v up s same =
      let r = both (before i.instant j.instant) (rises (j ∷ is)) up in
      by_order r.0 (before t j.instant) refl
    where
      by_order : before i.instant j.instant ≡ true → (b : Bool) → before t j.instant ≡ b → before t j.instant ≡ true
      by_order first true e = e
      by_order first false e =
          let reached : up_to j.instant t ≡ true = rw e refl in
          let at_by : up_to j.instant s.by.instant ≡ true = s.last.last j (later_in i (j ∷ is) j (first_in j is)) reached in
          absurd (up_to-not-after j.instant i.instant (subst (λ (x : Written B). up_to j.instant x.instant ≡ true) (sym same) at_by) first)

  -- the sequence has begun at its first instant
  first_begins : (step lower upper : Bool) (i j : Written B) (is : List (Written B)) (t : Ratio) (v : B) → rises (i ∷ j ∷ is) ≡ true → (s : SequenceAt course step lower (i ∷ j ∷ is) upper t v) → before t j.instant ≡ true → reaches_to lower i.instant t ≡ true
  first_begins step lower upper i j is t v up s ends =
      let r = both (before i.instant j.instant) (rises (j ∷ is)) up in
      let begun = s.within.begun in
      elim (which_in i (j ∷ is) begun.0 begun.1) [
        | inl same ↦ subst (λ (x : Written B). reaches_to lower x.instant t ≡ true) (sym same) begun.2
        | inr later ↦ absurd (up_to-not-after j.instant t (up_to-trans j.instant begun.0.instant t (rise_first j is begun.0 r.1 later) (reaches_upto lower begun.0.instant t begun.2)) ends)
      ]

  pub sequence_slices : (step : Bool) → (step ≡ false → course.steady ≡ false) → (lower : Bool) (is : List (Written B)) (upper : Bool) (t : Ratio) (v : B) → rises is ≡ true → SequenceAt course step lower is upper t v → value_at course.value (slices_of course step lower is upper) t ≡ Some v
  sequence_slices step moves lower [] upper t v up s = absurd (none_in s.by s.last.listed)
  sequence_slices step moves lower (i ∷ []) true t v up s =
      let o = only_one step lower true i t v s in
      rw (has_point lower i t o.0 (reaches_upto true t i.instant o.1)) (ap (λ (x : B). Some x) (laws.level i.value i.instant i.instant t ∙ o.3))
  sequence_slices step moves lower (i ∷ []) false t v up s =
      let o = only_one step lower false i t v s in
      absurd (up_to-not-after i.instant t o.2 (only (before t i.instant) o.1))
    where
      only : (a : Bool) → (a || false) ≡ true → a ≡ true
      only true e = refl
      only false e = e
  sequence_slices step moves lower (i ∷ j ∷ is) upper t v up s =
      elim (which_in i (j ∷ is) s.by s.last.listed) [
        | inl same ↦
            let ends = first_ends step lower upper i j is t v up s same in
            let begins = first_begins step lower upper i j is t v up s ends in
            let from = subst (λ (x : Written B). IsValueFrom course step (i ∷ j ∷ is) x t v) (sym same) s.value in
            rw (has_stretch step lower i j t begins ends) (ap (λ (x : B). Some x) (value_of_first step moves i j is t v up (reaches_upto lower i.instant t begins) ends from))
        | inr here ↦
            let r = both (before i.instant j.instant) (rises (j ∷ is)) up in
            let from_j : up_to j.instant t ≡ true = up_to-trans j.instant s.by.instant t (rise_first j is s.by r.1 here) s.last.not_later in
            rw (not_stretch step lower i j t from_j) (sequence_slices step moves true (j ∷ is) upper t v r.1 (later_sequence step lower upper i j is t v up s here))
      ]
