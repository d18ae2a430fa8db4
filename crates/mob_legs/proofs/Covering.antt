-- The cover of a run, slice by slice, and all covers, run by run.
use Rattle.std.specs.Prelude.{◌≡◌, ◌≢◌, true, ℕ, zero, suc, ◌+◌, ◌<◌, ◌≤◌, List, [], ◌∷◌, ◌++◌, length, take, drop, slice_range, ◌-◌, Result, Ok, Err, IfOk, refl}
use Rattle.std.specs.List.{AllByRecursion}
use Rattle.std.proofs.Common.{arith, ap, sym, ◌∙◌, subst, add-one, append_assoc, append-nil, length-drop, take_all}
use Rattle.mob_list.proofs.Each.{each_on, each_more}
use Rattle.mob_plane.specs.declared.point.Point.{Point}
use Rattle.mob_ratio.proofs.Order.{up_to-trans, smaller_left, smaller_right, greater_left, greater_right}
use Rattle.mob_span.specs.Span.{SpanOf, has_instant}
use Rattle.mob_span.specs.Neighbours.{is_clear, joined}
use Rattle.mob_span.specs.Pieces.{PiecesAreClear}
use Rattle.mob_span.proofs.Hulls.{through_some, wider, holds_later}
use Rattle.mob_span.proofs.Insides.{inside_self}
use Rattle.mob_slice.specs.declared.line.PlaneLine.{PlaneLine}
use Rattle.mob_slice.specs.declared.slice.Slice.{Slice}
use Rattle.mob_slice.specs.Lines.{plane_continued}
use Rattle.mob_slice.specs.Slices.{IsNormal, IsRisingInTime}
use Rattle.mob_slice.proofs.Orders.{ordered, ordered-clear}
use Rattle.mob_legs.specs.Covers.{IsCovered, CoversSlice, CoversRun, AreRunsFrom, AreCoversOf}
use Rattle.mob_legs.specs.Covering.{IsCoverOn, Begins, IsClearBefore, first_cover, with_slice}
use Rattle.mob_legs.specs.declared.covers.Cover.{Cover}

-- ---- the first entries of a list
take_more : {X : Type 0} (n : ℕ) (xs : List X) (x : X) (more : List X) → drop n xs ≡ x ∷ more → (take (suc n) xs ≡ take n xs ++ x ∷ []) × (drop (suc n) xs ≡ more)
take_more zero [] x more e = absurd (cc e)
take_more zero (y ∷ ys) x more e = (cc e, cc e)
take_more (suc n) [] x more e = absurd (cc e)
take_more (suc n) (y ∷ ys) x more e = let h = take_more n ys x more e in (ap (λ z. y ∷ z) h.0, h.1)

take_next : {X : Type 0} (n : ℕ) (xs : List X) (x : X) (more : List X) → drop n xs ≡ x ∷ more → (take (n + 1) xs ≡ take n xs ++ x ∷ []) × (drop (n + 1) xs ≡ more)
take_next n xs x more e = rw add-one (take_more n xs x more e)

room_for : {X : Type 0} (n : ℕ) (xs : List X) (x : X) (more : List X) → drop n xs ≡ x ∷ more → suc n ≤ length xs
room_for zero [] x more e = absurd (cc e)
room_for zero (y ∷ ys) x more e = omega arith
room_for (suc n) [] x more e = absurd (cc e)
room_for (suc n) (y ∷ ys) x more e = let h = room_for n ys x more e in omega (arith, h)

-- ---- one more slice
wide_point : (c : Cover) (s : Slice PlaneLine) (p : Point) → IsCovered c p → IsCovered (with_slice c s) p
wide_point c s p h = record {
  from_left = up_to-trans _ c.xmin p.x (smaller_left c.xmin _) h.from_left;
  to_right = up_to-trans p.x c.xmax _ h.to_right (greater_left c.xmax _);
  from_low = up_to-trans _ c.ymin p.y (smaller_left c.ymin _) h.from_low;
  to_high = up_to-trans p.y c.ymax _ h.to_high (greater_left c.ymax _);
}

module _ (c : Cover) (s : Slice PlaneLine) (clear : is_clear c.span s.span ≡ true) (some : has_instant c.span ≡ true) (more_some : has_instant s.span ≡ true) where
  still : (r : Slice PlaneLine) → CoversSlice c r → CoversSlice (with_slice c s) r
  still r h = record { start = wide_point c s r.course.from h.start; end = wide_point c s r.course.to h.end; inside = wider c.span s.span r.span clear more_some h.inside }

  new : CoversSlice (with_slice c s) s
  new = record {
    start = record {
      from_left = up_to-trans _ _ s.course.from.x (smaller_right c.xmin _) (smaller_left s.course.from.x s.course.to.x);
      to_right = up_to-trans s.course.from.x _ _ (greater_left s.course.from.x s.course.to.x) (greater_right c.xmax _);
      from_low = up_to-trans _ _ s.course.from.y (smaller_right c.ymin _) (smaller_left s.course.from.y s.course.to.y);
      to_high = up_to-trans s.course.from.y _ _ (greater_left s.course.from.y s.course.to.y) (greater_right c.ymax _);
    };
    end = record {
      from_left = up_to-trans _ _ s.course.to.x (smaller_right c.xmin _) (smaller_right s.course.from.x s.course.to.x);
      to_right = up_to-trans s.course.to.x _ _ (greater_right s.course.from.x s.course.to.x) (greater_right c.xmax _);
      from_low = up_to-trans _ _ s.course.to.y (smaller_right c.ymin _) (smaller_right s.course.from.y s.course.to.y);
      to_high = up_to-trans s.course.to.y _ _ (greater_right s.course.from.y s.course.to.y) (greater_right c.ymax _);
    };
    inside = holds_later c.span s.span clear some more_some;
  }

not_empty : {X : Type 0} (xs : List X) (x : X) → (xs ++ x ∷ []) ≢ []
not_empty [] x e = cc e
not_empty (y ∷ ys) x e = cc e

begins_still : (r q : SpanOf) (slices : List (Slice PlaneLine)) → q.lower ≡ r.lower → q.lower_inc ≡ r.lower_inc → Begins r slices → Begins q slices
begins_still r q [] e f h = h
begins_still r q (s ∷ slices) e f h = (e ∙ h.0, f ∙ h.1)

before_next : (r : SpanOf) (s : Slice PlaneLine) (more : List (Slice PlaneLine)) → PiecesAreClear (λ z. z.span) (s ∷ more) → IsClearBefore (joined r s.span) more
before_next r s [] h = tt
before_next r s (z ∷ more) h = h.1

pub first_is : (k : ℕ) (s : Slice PlaneLine) (more : List (Slice PlaneLine)) → PiecesAreClear (λ z. z.span) (s ∷ more) → IsCoverOn k (s ∷ more) (first_cover s k)
first_is k s more h = record {
  start = refl;
  some = omega arith;
  count = omega arith;
  runs = record {
    some = (λ e. cc e);
    each = (
      record {
        start = record { from_left = smaller_left s.course.from.x s.course.to.x; to_right = greater_left s.course.from.x s.course.to.x; from_low = smaller_left s.course.from.y s.course.to.y; to_high = greater_left s.course.from.y s.course.to.y };
        end = record { from_left = smaller_right s.course.from.x s.course.to.x; to_right = greater_right s.course.from.x s.course.to.x; from_low = smaller_right s.course.from.y s.course.to.y; to_high = greater_right s.course.from.y s.course.to.y };
        inside = inside_self s.span;
      },
      tt,
    );
  };
  has = h.0;
  begins = (refl, refl);
  after = first_after s more h;
}
  where
    first_after : (s : Slice PlaneLine) (more : List (Slice PlaneLine)) → PiecesAreClear (λ z. z.span) (s ∷ more) → IsClearBefore s.span more
    first_after s [] h = tt
    first_after s (z ∷ more) h = h.1

pub more_is : (k : ℕ) (all : List (Slice PlaneLine)) (c : Cover) (s : Slice PlaneLine) (more : List (Slice PlaneLine)) → drop c.count all ≡ s ∷ more → PiecesAreClear (λ z. z.span) (s ∷ more) → IsCoverOn k all c → IsCoverOn k all (with_slice c s)
more_is k all c s more e clear h =
    let at : is_clear c.span s.span ≡ true = subst (IsClearBefore c.span) e h.after in
    let t = take_next c.count all s more e in
    let room = room_for c.count all s more e in
    record {
      start = h.start;
      some = omega arith;
      count = omega (arith, room);
      runs = subst (CoversRun (with_slice c s)) (sym t.0) (record { some = not_empty (take c.count all) s; each = each_more (CoversSlice (with_slice c s)) (take c.count all) s (each_on (CoversSlice c) (CoversSlice (with_slice c s)) (still c s at h.has clear.0) (take c.count all) h.runs.each) (new c s at h.has clear.0) });
      has = through_some c.span s.span at h.has clear.0;
      begins = begins_still c.span (joined c.span s.span) all refl refl h.begins;
      after = subst (IsClearBefore (joined c.span s.span)) (sym t.1) (before_next c.span s more clear);
    }

-- ---- run by run
-- the covers are those of the slices from the number k on
abbrev BeginAlike : List Cover → List (Slice PlaneLine) → Type 0
BeginAlike [] slices = Unit {0}
BeginAlike (c ∷ covers) slices = Begins c.span slices

pub record AreCoversFrom (k : ℕ) (slices : List (Slice PlaneLine)) (covers : List Cover) : Type 0 where
  pub runs : AreRunsFrom k slices covers
  pub clear : PiecesAreClear (λ c. c.span) covers
  pub alike : BeginAlike covers slices

-- with the covers of the slices from the number k on, these are the covers of all
pub record IsCovering (all slices : List (Slice PlaneLine)) (k : ℕ) (covers : List Cover) : Type 0 where
  pub go : (more : List Cover) → AreCoversFrom k slices more → AreCoversFrom 0 all (covers ++ more)

clear_by : (r q : SpanOf) (slices : List (Slice PlaneLine)) → IsClearBefore r slices → Begins q slices → is_clear r q ≡ true
clear_by r q [] h b = absurd b
clear_by r q (s ∷ slices) h b = rw (b.0, b.1) h

clear_from : (c : Cover) (slices : List (Slice PlaneLine)) (more : List Cover) → has_instant c.span ≡ true → IsClearBefore c.span slices → BeginAlike more slices → PiecesAreClear (λ c. c.span) more → PiecesAreClear (λ c. c.span) (c ∷ more)
clear_from c slices [] h b a p = (h, tt, tt)
clear_from c slices (e ∷ more) h b a p = (h, clear_by c.span e.span slices b a, p)

next_from : (k : ℕ) (slices : List (Slice PlaneLine)) (c : Cover) (more : List Cover) → IsCoverOn k slices c → AreCoversFrom (k + c.count) (drop c.count slices) more → AreCoversFrom k slices (c ∷ more)
next_from k slices c more h m = record {
  runs = (h.start, h.count, h.runs, m.runs);
  clear = clear_from c (drop c.count slices) more h.has h.after m.alike m.clear;
  alike = h.begins;
}

pub covering_start : (all : List (Slice PlaneLine)) → IsCovering all all 0 []
covering_start all = record { go = λ more h. h }

pub covering_step : (all slices : List (Slice PlaneLine)) (k : ℕ) (covers : List Cover) (c : Cover) → IsCoverOn k slices c → IsCovering all slices k covers → IsCovering all (drop c.count slices) (k + c.count) (covers ++ c ∷ [])
covering_step all slices k covers c h g = record { go = λ more m. subst (AreCoversFrom 0 all) (sym (append_assoc covers (c ∷ []) more)) (g.go (c ∷ more) (next_from k slices c more h m)) }

covering_end : (all slices : List (Slice PlaneLine)) (k : ℕ) (covers : List Cover) → slices ≡ [] → IsRisingInTime (λ c. c.from) (λ c. c.to) all → IsCovering all slices k covers → AreCoversOf all covers
covering_end all slices k covers e order g =
    let f = subst (AreCoversFrom 0 all) (append-nil covers) (g.go [] (record { runs = e; clear = tt; alike = tt })) in
    record { order = order; runs = f.runs; clear = f.clear }

pub range_left : (n : ℕ) (slices : List (Slice PlaneLine)) → slice_range slices n (length slices) ≡ drop n slices
range_left n slices = take_all (length slices - n) (drop n slices) (omega (arith, length-drop n slices))

-- what is left of slices in order is in order
pub clear_drop : (n : ℕ) (slices : List (Slice PlaneLine)) → PiecesAreClear (λ z. z.span) slices → PiecesAreClear (λ z. z.span) (drop n slices)
clear_drop zero slices h = h
clear_drop (suc n) [] h = tt
clear_drop (suc n) (s ∷ slices) h = clear_drop n slices h.2

-- ---- the two loops
-- the cover of the slices before the rest
pub record IsExtending (k : ℕ) (all rest : List (Slice PlaneLine)) (c : Cover) : Type 0 where
  pub at : drop c.count all ≡ rest
  pub clear : PiecesAreClear (λ z. z.span) rest
  pub cover : IsCoverOn k all c

pub extending_start : (k : ℕ) (s : Slice PlaneLine) (more : List (Slice PlaneLine)) (c : Cover) → c ≡ first_cover s k → PiecesAreClear (λ z. z.span) (s ∷ more) → IsExtending k (s ∷ more) more c
extending_start k s more c e h = rw e (record { at = refl; clear = h.2; cover = first_is k s more h })

pub extending_step : (k : ℕ) (all rest more : List (Slice PlaneLine)) (c d : Cover) (s : Slice PlaneLine) → rest ≡ s ∷ more → d ≡ with_slice c s → IsExtending k all rest c → IsExtending k all more d
extending_step k all rest more c d s e f h =
    let at = h.at ∙ e in
    let clear = subst (PiecesAreClear (λ z. z.span)) e h.clear in
    rw f (record { at = (take_next c.count all s more at).1; clear = clear.2; cover = more_is k all c s more at clear h.cover })

pub extending_few : (k : ℕ) (s : Slice PlaneLine) (more rest : List (Slice PlaneLine)) (c : Cover) → IsExtending k (s ∷ more) rest c → c.count ≤ length more + 1
extending_few k s more rest c h = let few = h.cover.count in omega (arith, few)

-- before a slice of the rest
pub extending_clear : (k : ℕ) (all rest more : List (Slice PlaneLine)) (c : Cover) (s : Slice PlaneLine) → rest ≡ s ∷ more → IsExtending k all rest c → (has_instant c.span ≡ true) × (has_instant s.span ≡ true) × (is_clear c.span s.span ≡ true)
extending_clear k all rest more c s e h = (h.cover.has, (subst (PiecesAreClear (λ z. z.span)) e h.clear).0, subst (IsClearBefore c.span) (h.at ∙ e) h.cover.after)

-- the covers of the slices before the rest
pub record IsMakingRuns (all rest : List (Slice PlaneLine)) (k : ℕ) (covers : List Cover) : Type 0 where
  pub clear : PiecesAreClear (λ z. z.span) rest
  pub count : k + length rest ≡ length all
  pub covering : IsCovering all rest k covers

pub making_start : (all : List (Slice PlaneLine)) → IsRisingInTime (λ c. c.from) (λ c. c.to) all → IsMakingRuns all all 0 []
making_start all h = record { clear = ordered-clear (λ c. c.from) (λ c. c.to) all h; count = omega arith; covering = covering_start all }

pub making_step : (all rest : List (Slice PlaneLine)) (k : ℕ) (covers : List Cover) (c : Cover) → IsCoverOn k rest c → IsMakingRuns all rest k covers → IsMakingRuns all (drop c.count rest) (k + c.count) (covers ++ c ∷ [])
making_step all rest k covers c h m =
    let left = length-drop c.count rest in
    let few = h.count in
    let total = m.count in
    record { clear = clear_drop c.count rest m.clear; count = omega (arith, left, few, total); covering = covering_step all rest k covers c h m.covering }

-- one more run, with what the loop makes of it
pub making_next : (all rest more next : List (Slice PlaneLine)) (first : Slice PlaneLine) (k n : ℕ) (covers made : List Cover) (c : Cover) → rest ≡ first ∷ more → IsCoverOn k (first ∷ more) c → made ≡ covers ++ c ∷ [] → n ≡ c.count → next ≡ slice_range rest n (length rest) → IsMakingRuns all rest k covers → IsMakingRuns all next (k + n) made
making_next all rest more next first k n covers made c e h f g i m =
    let on : IsCoverOn k rest c = subst (λ l. IsCoverOn k l c) (sym e) h in
    let left : next ≡ drop c.count rest = i ∙ ap (λ z. slice_range rest z (length rest)) g ∙ range_left c.count rest in
    let step = making_step all rest k covers c on m in
    subst (λ l. IsMakingRuns all l (k + n) made) (sym left) (subst (λ l. IsMakingRuns all (drop c.count rest) (k + n) l) (sym f) (subst (λ z. IsMakingRuns all (drop c.count rest) (k + z) (covers ++ c ∷ [])) (sym g) step))

pub making_room : (all rest more next : List (Slice PlaneLine)) (first : Slice PlaneLine) (k n : ℕ) (covers made : List Cover) (c : Cover) → rest ≡ first ∷ more → IsCoverOn k (first ∷ more) c → made ≡ covers ++ c ∷ [] → n ≡ c.count → next ≡ slice_range rest n (length rest) → IsMakingRuns all rest k covers → (k + n) + length next ≡ length all
making_room all rest more next first k n covers made c e h f g i m = (making_next all rest more next first k n covers made c e h f g i m).count

-- the count of a cover of the rest
pub few_left : (rest more : List (Slice PlaneLine)) (first : Slice PlaneLine) (n : ℕ) → rest ≡ first ∷ more → n ≤ length more + 1 → n ≤ length rest
few_left rest more first n e h = rw e (omega (arith, h))

fewer_left : (k : ℕ) (rest : List (Slice PlaneLine)) (c : Cover) → IsCoverOn k rest c → length (drop c.count rest) < length rest
fewer_left k rest c h = let left = length-drop c.count rest in let few = h.count in let some = h.some in omega (arith, left, few, some)

pub fewer_next : (rest more next : List (Slice PlaneLine)) (first : Slice PlaneLine) (k n : ℕ) (c : Cover) → rest ≡ first ∷ more → IsCoverOn k (first ∷ more) c → n ≡ c.count → next ≡ slice_range rest n (length rest) → length next < length rest
fewer_next rest more next first k n c e h g i =
    let on : IsCoverOn k rest c = subst (λ l. IsCoverOn k l c) (sym e) h in
    let left : next ≡ drop c.count rest = i ∙ ap (λ z. slice_range rest z (length rest)) g ∙ range_left c.count rest in
    subst (λ l. length l < length rest) (sym left) (fewer_left k rest c on)

pub making_end : (all rest : List (Slice PlaneLine)) (k : ℕ) (covers : List Cover) → rest ≡ [] → IsRisingInTime (λ c. c.from) (λ c. c.to) all → IsMakingRuns all rest k covers → AreCoversOf all covers
making_end all rest k covers e order m = covering_end all rest k covers e order m.covering

-- normal slices are in order of time
pub rising_as : (v x : List (Slice PlaneLine)) → x ≡ v → IsNormal (λ c. c.from) (λ c. c.to) plane_continued v → IsRisingInTime (λ c. c.from) (λ c. c.to) x
rising_as v x e h = subst (IsRisingInTime (λ c. c.from) (λ c. c.to)) (sym e) (ordered (λ c. c.from) (λ c. c.to) plane_continued v h.chained)

pub made_as : {E : Type 0} (v x : List (Slice PlaneLine)) (r : Result (List Cover) E) → x ≡ v → IfOk r (AreCoversOf x) → IfOk r (AreCoversOf v)
made_as v x (Ok c) e h = subst (λ z. AreCoversOf z c) e h
made_as v x (Err f) e h = tt
