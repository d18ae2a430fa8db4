-- The simplified moving point has only breaks of the point, and prints no more instants.
use Rattle.std.specs.Prelude.{◌≡◌, ◌≢◌, ◌≤◌, ◌+◌, ◌⊎◌, Bool, true, false, cond, ◌&&◌, not, List, [], ◌∷◌, ◌++◌, refl}
use Rattle.std.{proofs.Common.{arith, ap, sym, ◌∙◌, subst, inl, inr, true≢false, append_assoc, append-nil}, proofs.lemmas.Bool.{and_parts}}
use Rattle.mob_ratio.{specs.Ratio.{Ratio}, specs.Order.{before, same}, proofs.Order.{same_exact}}
use Rattle.mob_plane.specs.Points.{same_point, same_point_exact}
use Rattle.mob_span.{specs.Neighbours.{Meets, joined, without_upper, with_lower}, specs.Span.{SpanOf}}
use Rattle.mob_lift.{specs.Joined.{IsJoin}, proofs.Joins.{join_one, join_two, join_kept}, proofs.Runs.{step_normal, step_ordered, step_keeps}, proofs.Unique.{unique}}
use Rattle.mob_slice.{specs.Lines.{plane_value_of, plane_continued}, specs.PlaneLaws.{plane_laws}, specs.Slices.{OfHead, AreNormal, IsClearOf}, specs.declared.line.PlaneLine.{PlaneLine}}
use Rattle.mob_slice.specs.declared.slice.Slice.{Slice}
use Rattle.mob_simplify.{specs.Breaks.{start_of, end_of, passes_within}, specs.BreaksOf.{HaveBreaks, IsBreakOf, followed, instants_by, printed_instants}, specs.Thinned.{IsThin}}
use Rattle.mob_simplify.{specs.Walk.{continues_run, stays, leg_over, legs_along, all_legs}, specs.declared.breaks.Break.{Break}, proofs.Along.{going}}
use Rattle.mob_simplify.{proofs.Answering.{IsNormalLines, At, legs_ordered}, proofs.OneRuns.{same_values}, proofs.Ordered.{AreOrderedLines, IsSoundLine, some_along}}

abbrev AreNormalLines : List (Slice PlaneLine) → Type 0
AreNormalLines v = AreNormal (λ c. c.from) (λ c. c.to) plane_continued v

abbrev IsLineJoin : Slice PlaneLine → Slice PlaneLine → List (Slice PlaneLine) → Slice PlaneLine → Type 0
IsLineJoin s r done last = IsJoin plane_value_of (λ c. c.from) (λ c. c.to) plane_continued s r done last

-- ---- how many instants slices print
-- r starts as s does
record StartsAs (s r : Slice PlaneLine) : Type 0 where
  lower : r.span.lower ≡ s.span.lower
  inc : r.span.lower_inc ≡ s.span.lower_inc
  from : r.course.from ≡ s.course.from

starts_itself : (s : Slice PlaneLine) → StartsAs s s
starts_itself s = record { lower = refl; inc = refl; from = refl }

starts_on : (s r : Slice PlaneLine) (v : List (Slice PlaneLine)) → StartsAs s r → OfHead StartsAs r v → OfHead StartsAs s v
starts_on s r [] h k = tt
starts_on s r (q ∷ v) h k = record { lower = k.lower ∙ h.lower; inc = k.inc ∙ h.inc; from = k.from ∙ h.from }

followed_alike : (a r : Slice PlaneLine) (rest v : List (Slice PlaneLine)) → v ≢ [] → OfHead StartsAs r v → followed a v ≡ followed a (r ∷ rest)
followed_alike a r rest [] some h = absurd (some refl)
followed_alike a r rest (x ∷ v) some h = rw (h.lower, h.inc, h.from) refl

least_one : (s : Slice PlaneLine) (b : Bool) → 1 ≤ instants_by s b
least_one s true = omega arith
least_one s false = omega arith

two_by : (b c : Bool) → cond b 1 (1 + cond c 1 0) ≤ 2
two_by true c = omega arith
two_by false true = omega arith
two_by false false = omega arith

most_two : (s : Slice PlaneLine) (b : Bool) → instants_by s b ≤ 2
most_two s b = two_by b (before s.span.lower s.span.upper)

-- ---- the normal slices of two neighbours
meets_or : (s r : SpanOf) (a u l : Bool) → same s.upper r.lower ≡ a → s.upper_inc ≡ u → r.lower_inc ≡ l → Meets s r ⊎ (Meets s r → ⊥)
meets_or s r false u l e f g = inr (λ m. true≢false (sym ((same_exact s.upper r.lower).1 m.at_one) ∙ e))
meets_or s r true true true e f g = inr (λ m. true≢false (sym f ∙ m.in_one ∙ ap not g))
meets_or s r true true false e f g = inl (record { at_one = (same_exact s.upper r.lower).0 e; in_one = f ∙ sym (ap not g) })
meets_or s r true false true e f g = inl (record { at_one = (same_exact s.upper r.lower).0 e; in_one = f ∙ sym (ap not g) })
meets_or s r true false false e f g = inr (λ m. true≢false (sym (m.in_one ∙ ap not g) ∙ f))

join_apart : (s r : Slice PlaneLine) → IsSoundLine s → IsSoundLine r → IsClearOf s r → (Meets s.span r.span → ⊥) → IsLineJoin s r (s ∷ []) r
join_apart s r ss sr clear m = record {
  keeps = λ t. refl;
  chained = (ss, record { in_order = clear; apart = λ k. absurd (m k); given_late = λ k. absurd (m k); own_value = λ k. absurd (m k) }, (sr, tt, tt));
  front = λ p sp n. n;
  back = λ q k. k;
}

-- ---- all of them
-- P holds for each break of the slices
module _ (P : Break → Type 0) where
  -- normal slices in place of s and the rest, after o
  record IsTidied (o : List (Slice PlaneLine)) (s : Slice PlaneLine) (rest : List (Slice PlaneLine)) : Type 0 where
    made : List (Slice PlaneLine)
    some : made ≢ []
    normal : AreNormalLines (o ++ made)
    same : (t : Ratio) → At (o ++ made) t ≡ At (o ++ s ∷ rest) t
    alike : OfHead StartsAs s made
    breaks : HaveBreaks P (s ∷ rest) → HaveBreaks P made
    count : printed_instants made ≤ printed_instants (s ∷ rest)

  abbrev Tidies : List (Slice PlaneLine) → Type 0
  Tidies rest = (o : List (Slice PlaneLine)) (s : Slice PlaneLine) → AreNormalLines (o ++ s ∷ []) → AreOrderedLines (s ∷ rest) → IsTidied o s rest

  module _ (o : List (Slice PlaneLine)) (s r : Slice PlaneLine) (rest : List (Slice PlaneLine)) (n : AreNormalLines (o ++ s ∷ [])) (h : AreOrderedLines (s ∷ r ∷ rest)) (on : Tidies rest) where
    -- they become one
    one_made : (m : Slice PlaneLine) → IsLineJoin s r [] m → StartsAs s m → start_of m ≡ start_of s → end_of m ≡ end_of r → IsTidied o s (r ∷ rest)
    one_made m j a e f =
        let k = on o m (step_normal o [] o s r m (sym (append-nil o)) n j) (step_ordered [] rest s r m h j) in
        let c = k.count in
        let most = most_two m (followed m rest) in
        let one = least_one s (followed s (r ∷ rest)) in
        let other = least_one r (followed r rest) in
        record {
          made = k.made;
          some = k.some;
          normal = k.normal;
          same = λ t. k.same t ∙ step_keeps o [] o rest s r m (sym (append-nil o)) j t;
          alike = starts_on s m k.made a k.alike;
          breaks = λ b. k.breaks ((subst P (sym e) b.0.0, subst P (sym f) b.1.0.1), b.1.1);
          count = omega (arith, c, most, one, other);
        }

    -- they stay two
    two_made : (a b : Slice PlaneLine) → IsLineJoin s r (a ∷ []) b → StartsAs s a → start_of a ≡ start_of s → end_of a ≡ end_of s → start_of b ≡ start_of r → end_of b ≡ end_of r
        → instants_by a (followed a (b ∷ rest)) ≤ instants_by s (followed s (r ∷ rest)) → printed_instants (b ∷ rest) ≤ printed_instants (r ∷ rest) → IsTidied o s (r ∷ rest)
    two_made a b j alike ea fa eb fb less later =
        let k = on (o ++ a ∷ []) b (step_normal o (a ∷ []) (o ++ a ∷ []) s r b refl n j) (step_ordered (a ∷ []) rest s r b h j) in
        let c = k.count in
        let own : instants_by a (followed a k.made) ≤ instants_by s (followed s (r ∷ rest)) = subst (λ z. instants_by a z ≤ instants_by s (followed s (r ∷ rest))) (sym (followed_alike a b rest k.made k.some k.alike)) less in
        record {
          made = a ∷ k.made;
          some = λ e. cc;
          normal = subst AreNormalLines (append_assoc o (a ∷ []) k.made) k.normal;
          same = λ t. ap (λ z. At z t) (sym (append_assoc o (a ∷ []) k.made)) ∙ k.same t ∙ step_keeps o (a ∷ []) (o ++ a ∷ []) rest s r b refl j t;
          alike = alike;
          breaks = λ p. ((subst P (sym ea) p.0.0, subst P (sym fa) p.0.1), k.breaks ((subst P (sym eb) p.1.0.0, subst P (sym fb) p.1.0.1), p.1.1));
          count = omega (arith, c, own, later);
        }

    kept_made : IsLineJoin s r (s ∷ []) r → IsTidied o s (r ∷ rest)
    kept_made j = two_made s r j (starts_itself s) refl refl refl refl (omega arith) (omega arith)

    -- the instant that they share goes to the second
    moved_alike : (tail : List (Slice PlaneLine)) → printed_instants (record { span = with_lower r.span; course = r.course } ∷ tail) ≡ printed_instants (r ∷ tail)
    moved_alike [] = refl
    moved_alike (q ∷ tail) = refl

    not_over : (a b c : Bool) → s.span.upper_inc ≡ true → (a && (b && not s.span.upper_inc) && c) ≡ false
    not_over a b c inc = grind (arith, inc)

    two_of : (b c : Bool) → b ≡ false → c ≡ true → cond b 1 (1 + cond c 1 0) ≡ 2
    two_of b c e f = rw (e, f) refl

    moved_made : Meets s.span r.span → plane_continued s.course r.course s.span.lower s.span.upper r.span.upper ≡ false → s.span.upper_inc ≡ true → before s.span.lower s.span.upper ≡ true → s.course.to ≡ r.course.from → IsTidied o s (r ∷ rest)
    moved_made m c inc long e =
        let a : Slice PlaneLine = record { span = without_upper s.span; course = s.course } in
        let b : Slice PlaneLine = record { span = with_lower r.span; course = r.course } in
        let two = two_of (followed s (r ∷ rest)) (before s.span.lower s.span.upper) (not_over (same s.span.upper r.span.lower) r.span.lower_inc (same_point s.course.to r.course.from) inc) long in
        let most = most_two a (followed a (b ∷ rest)) in
        two_made a b (join_two plane_laws s r h.0 h.2.0 m c inc long e) (record { lower = refl; inc = refl; from = refl }) refl refl refl refl (omega (arith, two, most)) (let k = moved_alike rest in omega (arith, k))

    -- whichever case it is
    made_by : Meets s.span r.span ⊎ (Meets s.span r.span → ⊥) → (c u l p : Bool) → plane_continued s.course r.course s.span.lower s.span.upper r.span.upper ≡ c → s.span.upper_inc ≡ u → before s.span.lower s.span.upper ≡ l → same_point s.course.to r.course.from ≡ p → IsTidied o s (r ∷ rest)
    made_by (inr m) c u l p ec eu el ep = kept_made (join_apart s r h.0 h.2.0 h.1 m)
    made_by (inl m) true u l p ec eu el ep = one_made (record { span = joined s.span r.span; course = record { from = s.course.from; to = r.course.to } }) (join_one plane_laws s r h.0 h.2.0 m ec) (record { lower = refl; inc = refl; from = refl }) refl refl
    made_by (inl m) false true true true ec eu el ep = moved_made m ec eu el ((same_point_exact s.course.to r.course.from).0 ep)
    made_by (inl m) false false l p ec eu el ep = kept_made (join_kept plane_laws s r h.0 h.2.0 h.1 m ec (λ i k e. true≢false (sym i ∙ eu)))
    made_by (inl m) false true false p ec eu el ep = kept_made (join_kept plane_laws s r h.0 h.2.0 h.1 m ec (λ i k e. true≢false (sym k ∙ el)))
    made_by (inl m) false true true false ec eu el ep = kept_made (join_kept plane_laws s r h.0 h.2.0 h.1 m ec (λ i k e. true≢false (sym ((same_point_exact s.course.to r.course.from).1 e) ∙ ep)))

  tidy : (rest : List (Slice PlaneLine)) → Tidies rest
  tidy [] o s n h = record { made = s ∷ []; some = λ e. cc; normal = n; same = λ t. refl; alike = starts_itself s; breaks = λ b. b; count = omega arith }
  tidy (r ∷ rest) o s n h = made_by o s r rest n h (tidy rest) (meets_or s.span r.span _ _ _ refl refl refl) _ _ _ _ refl refl refl refl

-- ---- the normal slices with the values of ordered ones
-- they have only breaks of v, and print no more instants
record IsOf (P : Break → Type 0) (v slices : List (Slice PlaneLine)) : Type 0 where
  breaks : HaveBreaks P v → HaveBreaks P slices
  count : printed_instants slices ≤ printed_instants v

normal_of : (P : Break → Type 0) (v slices : List (Slice PlaneLine)) → AreOrderedLines v → AreNormalLines slices → ((t : Ratio) → At slices t ≡ At v t) → IsOf P v slices
normal_of P [] slices o n same =
    let is : [] ≡ slices = unique plane_laws [] slices tt n (λ t. sym (same t)) in
    record { breaks = λ b. subst (HaveBreaks P) is b; count = subst (λ z. printed_instants z ≤ 0) is (omega arith) }
normal_of P (s ∷ rest) slices o n same =
    let k = tidy P rest [] s (o.0, tt, tt) o in
    let is : k.made ≡ slices = unique plane_laws k.made slices k.normal n (λ t. k.same t ∙ sym (same t)) in
    record { breaks = λ b. subst (HaveBreaks P) is (k.breaks b); count = subst (λ z. printed_instants z ≤ printed_instants (s ∷ rest)) is k.count }

-- what holds for all breaks of the ordered slices holds for theirs
pub normal_breaks : (P : Break → Type 0) (v slices : List (Slice PlaneLine)) → AreOrderedLines v → AreNormalLines slices → ((t : Ratio) → At slices t ≡ At v t) → HaveBreaks P v → HaveBreaks P slices
normal_breaks P v slices o n same = (normal_of P v slices o n same).breaks

-- ---- the straight courses between kept breaks
cond_breaks : (P : Break → Type 0) (b : Bool) (v w : List (Slice PlaneLine)) → HaveBreaks P v → HaveBreaks P w → HaveBreaks P (cond b v w)
cond_breaks P true v w h k = h
cond_breaks P false v w h k = k

less_by : (f b c : Bool) → (b ≡ true → c ≡ true) → cond f 1 (1 + cond b 1 0) ≤ cond f 1 (1 + cond c 1 0)
less_by true b c h = omega arith
less_by false false c h = omega arith
less_by false true c h = let k = h refl in rw k (omega arith)

module _ (d : Ratio) where
  breaks_along : (P : Break → Type 0) (s : Slice PlaneLine) (between : List Break) (l : Slice PlaneLine) (rest : List (Slice PlaneLine)) → P (start_of s) → P (end_of l) → HaveBreaks P rest → HaveBreaks P (legs_along d s between l rest)
  breaks_along P s between l [] a b h = ((a, b), tt)
  breaks_along P s between l (r ∷ rest) a b h =
      cond_breaks P (stays d s (between ++ start_of r ∷ []) l r) (legs_along d s (between ++ start_of r ∷ []) r rest) (leg_over s l ∷ legs_along d r [] r rest)
      (breaks_along P s (between ++ start_of r ∷ []) r rest a h.0.1 h.1) ((a, b), breaks_along P r [] r rest h.0.0 h.0.1 h.1)

  leg_breaks : (P : Break → Type 0) (slices : List (Slice PlaneLine)) → HaveBreaks P slices → HaveBreaks P (all_legs d slices)
  leg_breaks P [] h = tt
  leg_breaks P (s ∷ rest) h = breaks_along P s [] s rest h.0.0 h.0.1 h.1

  cond_starts : (s : Slice PlaneLine) (b : Bool) (v w : List (Slice PlaneLine)) → OfHead StartsAs s v → OfHead StartsAs s w → OfHead StartsAs s (cond b v w)
  cond_starts s true v w h k = h
  cond_starts s false v w h k = k

  starts_along : (s : Slice PlaneLine) (between : List Break) (l : Slice PlaneLine) (rest : List (Slice PlaneLine)) → OfHead StartsAs s (legs_along d s between l rest)
  starts_along s between l [] = record { lower = refl; inc = refl; from = refl }
  starts_along s between l (r ∷ rest) =
      cond_starts s (stays d s (between ++ start_of r ∷ []) l r) (legs_along d s (between ++ start_of r ∷ []) r rest) (leg_over s l ∷ legs_along d r [] r rest)
      (starts_along s (between ++ start_of r ∷ []) r rest) (record { lower = refl; inc = refl; from = refl })

  -- if the straight course is longer than an instant, so is the slice at whose end it ends
  abbrev IsLate : Slice PlaneLine → Slice PlaneLine → Type 0
  IsLate s l = before s.span.lower l.span.upper ≡ true → before l.span.lower l.span.upper ≡ true

  count_by : (s : Slice PlaneLine) (between : List Break) (l r : Slice PlaneLine) (rest : List (Slice PlaneLine)) → IsLate s l
      → (IsLate s r → printed_instants (legs_along d s (between ++ start_of r ∷ []) r rest) ≤ printed_instants (r ∷ rest))
      → printed_instants (legs_along d r [] r rest) ≤ printed_instants (r ∷ rest)
      → (b : Bool) → stays d s (between ++ start_of r ∷ []) l r ≡ b → printed_instants (cond b (legs_along d s (between ++ start_of r ∷ []) r rest) (leg_over s l ∷ legs_along d r [] r rest)) ≤ printed_instants (l ∷ r ∷ rest)
  count_by s between l r rest late on new true e =
      let k = on (λ h. (going l r (and_parts (continues_run l r) (passes_within d (start_of s) (between ++ start_of r ∷ []) (end_of r)) e).0).next_long) in
      omega (arith, k)
  count_by s between l r rest late on new false e =
      let legs = legs_along d r [] r rest in
      let own : instants_by (leg_over s l) (followed (leg_over s l) legs) ≤ instants_by l (followed l (r ∷ rest)) =
      subst (λ z. instants_by (leg_over s l) z ≤ instants_by l (followed l (r ∷ rest))) (sym (followed_alike (leg_over s l) r rest legs (some_along d r [] r rest) (starts_along r [] r rest)))
      (less_by (followed l (r ∷ rest)) (before s.span.lower l.span.upper) (before l.span.lower l.span.upper) late) in
      omega (arith, own, new)

  count_along : (s : Slice PlaneLine) (between : List Break) (l : Slice PlaneLine) (rest : List (Slice PlaneLine)) → IsLate s l → printed_instants (legs_along d s between l rest) ≤ printed_instants (l ∷ rest)
  count_along s between l [] late = let k = less_by false (before s.span.lower l.span.upper) (before l.span.lower l.span.upper) late in omega (arith, k)
  count_along s between l (r ∷ rest) late =
      count_by s between l r rest late (λ k. count_along s (between ++ start_of r ∷ []) r rest k) (count_along r [] r rest (λ k. k)) (stays d s (between ++ start_of r ∷ []) l r) refl

  leg_count : (slices : List (Slice PlaneLine)) → printed_instants (all_legs d slices) ≤ printed_instants slices
  leg_count [] = omega arith
  leg_count (s ∷ rest) = count_along s [] s rest (λ k. k)

  -- ---- the simplified moving point
  of_all : (P : Break → Type 0) (slices thin : List (Slice PlaneLine)) → IsNormalLines slices → IsThin d slices thin → IsOf P (all_legs d slices) thin
  of_all P slices thin n h = normal_of P (all_legs d slices) thin (legs_ordered d slices n) h.normal.chained (same_values d slices thin h)

-- what holds for all breaks of the point holds for its breaks
pub thin_breaks : (P : Break → Type 0) (d : Ratio) (slices thin : List (Slice PlaneLine)) → IsNormalLines slices → IsThin d slices thin → HaveBreaks P slices → HaveBreaks P thin
thin_breaks P d slices thin n h b = (of_all d P slices thin n h).breaks (leg_breaks d P slices b)

some_break : (P : Break → Type 0) (slices : List (Slice PlaneLine)) → ((b : Break) → IsBreakOf slices b → P b) → HaveBreaks P slices
some_break P [] h = tt
some_break P (s ∷ rest) h = ((h (start_of s) (inl (inl refl)), h (end_of s) (inl (inr refl))), some_break P rest (λ b k. h b (inr k)))

pub breaks_of_it : (d : Ratio) (slices thin : List (Slice PlaneLine)) → IsNormalLines slices → IsThin d slices thin → HaveBreaks (IsBreakOf slices) thin
breaks_of_it d slices thin n h = thin_breaks (IsBreakOf slices) d slices thin n h (some_break (IsBreakOf slices) slices (λ b k. k))

-- it prints no more instants
pub thin_prints : (d : Ratio) (slices thin : List (Slice PlaneLine)) → IsNormalLines slices → IsThin d slices thin → printed_instants thin ≤ printed_instants slices
thin_prints d slices thin n h = let k = (of_all d (λ b. Unit {0}) slices thin n h).count in let l = leg_count d slices in omega (arith, k, l)
