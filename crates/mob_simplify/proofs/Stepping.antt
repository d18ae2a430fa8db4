-- The walk of the wide mode, step by step.
use Rattle.std.{specs.Prelude.{◌≡◌, Bool, true, false, ◌&&◌, List, [], ◌∷◌, ◌++◌, refl}, specs.List.{AllByRecursion}, proofs.Common.{ap, sym, ◌∙◌, subst}}
use Rattle.mob_list.proofs.Each.{each_on}
use Rattle.mob_ratio.{specs.Ratio.{Ratio}, specs.Order.{before, up_to}, proofs.Order.{before-weak, up_to-before}}
use Rattle.mob_span.specs.Span.{has_instant}
use Rattle.mob_slice.{specs.declared.line.PlaneLine.{PlaneLine}, specs.declared.slice.Slice.{Slice}}
use Rattle.mob_simplify.{specs.Breaks.{start_of, end_of, passes_within}, specs.Skips.{AreSure, DecideAlike, IsInCircle, IsKnownBetween, has_velocity, is_sure, velocities_near}, specs.Walk.{continues_run, stays, leg_over, all_legs}}
use Rattle.mob_simplify.{specs.declared.breaks.Break.{Break}, specs.declared.velocities.Sure.{Sure}, specs.declared.velocities.Sure.TheVariants.{All}, proofs.InTurn.{IsWithin}}
use Rattle.mob_simplify.{proofs.Along.{IsMaking, IsReached, going, making_start, making_stays, making_breaks, making_end}, proofs.Sifting.{alike_more, known_nothing, sure_more}}

-- the slice does not continue the run
pub not_going : (d : Ratio) (s l r : Slice PlaneLine) (between : List Break) → continues_run l r ≡ false → false ≡ stays d s between l r
not_going d s l r between h = sym (ap (λ z. z && passes_within d (start_of s) between (end_of r)) h)

-- ---- the slice r continues the run of l, which began with s
module _ (d : Ratio) (s l r : Slice PlaneLine) (goes : continues_run l r ≡ true) (order : up_to s.span.lower l.span.lower ≡ true) where
  rises : before l.span.lower r.span.lower ≡ true
  rises = let k = going l r goes in subst (λ z. before l.span.lower z ≡ true) k.at_one k.first_long

  pub after_start : before s.span.lower r.span.lower ≡ true
  after_start = up_to-before s.span.lower l.span.lower r.span.lower order rises

  pub before_end : before r.span.lower r.span.upper ≡ true
  before_end = (going l r goes).next_long

  pub held_before : (held : List Break) → AllByRecursion (IsReached s.span.lower l.span.lower) held → AllByRecursion (IsWithin s.span.lower r.span.lower) held
  held_before = each_on (IsReached s.span.lower l.span.lower) (IsWithin s.span.lower r.span.lower) (λ b w. (w.0, up_to-before b.instant l.span.lower r.span.lower w.1 rises))

  module _ (h : Ratio) (sure more : Sure) (inside : IsInCircle h d) (narrow : (x y : Ratio) → is_sure more x y ≡ true → is_sure sure x y ≡ true) (near : (x y : Ratio) → is_sure more x y ≡ true → has_velocity (velocities_near h (start_of s) (start_of r)) x y ≡ true) (held between : List Break) (known : IsKnownBetween d (start_of s) l.span.lower between held sure) where
    wide_alike : DecideAlike d (start_of s) r.span.lower (held ++ start_of r ∷ []) (between ++ start_of r ∷ [])
    wide_alike = alike_more d (start_of s) l.span.lower (start_of r) (before-weak l.span.lower r.span.lower rises) held between known.alike

    wide_sure : AreSure d (start_of s) r.span.lower (between ++ start_of r ∷ []) more
    wide_sure = sure_more d (start_of s) l.span.lower (start_of r) (before-weak l.span.lower r.span.lower rises) h between sure more after_start inside narrow near known.all_near

    pub next_value : (pass : Bool) → ((wide : List Break) → DecideAlike d (start_of s) r.span.lower (held ++ start_of r ∷ []) wide → AreSure d (start_of s) r.span.lower wide more → pass ≡ passes_within d (start_of s) wide (end_of r))
        → pass ≡ stays d s (between ++ start_of r ∷ []) l r
    next_value pass told = told (between ++ start_of r ∷ []) wide_alike wide_sure ∙ sym (ap (λ z. z && passes_within d (start_of s) (between ++ start_of r ∷ []) (end_of r)) goes)

    pub next_known : (now : List Break) → DecideAlike d (start_of s) r.span.lower now (held ++ start_of r ∷ []) → IsKnownBetween d (start_of s) r.span.lower (between ++ start_of r ∷ []) now more
    next_known now same = record { alike = λ n later. same n later ∙ wide_alike n later; all_near = wide_sure }

-- ---- the loop
-- the slices before the rest are walked; what is held, and what is sure, know the breaks between
pub record IsSkipping (d : Ratio) (all : List (Slice PlaneLine)) (s : Slice PlaneLine) (held : List Break) (sure : Sure) (l : Slice PlaneLine) (rest legs : List (Slice PlaneLine)) : Type 0 where
  pub between : List Break
  pub making : IsMaking d all s between l rest legs
  pub known : IsKnownBetween d (start_of s) l.span.lower between held sure
  pub reached : AllByRecursion (IsReached s.span.lower l.span.lower) held

none_held : (l u : Ratio) (held : List Break) → held ≡ [] → AllByRecursion (IsReached l u) held
none_held l u held e = subst (AllByRecursion (IsReached l u)) (sym e) tt

pub skipping_start : (d : Ratio) (s : Slice PlaneLine) (rest all legs : List (Slice PlaneLine)) (held : List Break) → all ≡ s ∷ rest → has_instant s.span ≡ true → held ≡ [] → legs ≡ [] → IsSkipping d all s held All s rest legs
skipping_start d s rest all legs held e h k n = record {
  between = [];
  making = subst (λ z. IsMaking d all s [] s rest z) (sym n) (making_start d s rest all e h);
  known = known_nothing d (start_of s) s.span.lower held All k refl;
  reached = none_held s.span.lower s.span.lower held k;
}

module _ (d : Ratio) (all : List (Slice PlaneLine)) (s : Slice PlaneLine) (held : List Break) (sure : Sure) (l : Slice PlaneLine) (rest legs : List (Slice PlaneLine)) (m : IsSkipping d all s held sure l rest legs) where
  pub skipping_stays : (r : Slice PlaneLine) (later : List (Slice PlaneLine)) (now : List Break) (more : Sure) (stay : Bool) → rest ≡ r ∷ later → true ≡ stay
      → ((between : List Break) → IsKnownBetween d (start_of s) l.span.lower between held sure → stay ≡ stays d s (between ++ start_of r ∷ []) l r)
      → (stay ≡ true → (between : List Break) → IsKnownBetween d (start_of s) l.span.lower between held sure → IsKnownBetween d (start_of s) r.span.lower (between ++ start_of r ∷ []) now more)
      → (stay ≡ true → AllByRecursion (IsReached s.span.lower r.span.lower) now)
      → IsSkipping d all s now more r later legs
  skipping_stays r later now more stay e t value known reached = record {
    between = m.between ++ start_of r ∷ [];
    making = making_stays d all s m.between l rest legs m.making r later e (t ∙ value m.between m.known);
    known = known (sym t) m.between m.known;
    reached = reached (sym t);
  }

  pub skipping_breaks : (r : Slice PlaneLine) (later out : List (Slice PlaneLine)) (now : List Break) (stay : Bool) → rest ≡ r ∷ later → false ≡ stay → out ≡ legs ++ leg_over s l ∷ [] → now ≡ []
      → ((between : List Break) → IsKnownBetween d (start_of s) l.span.lower between held sure → stay ≡ stays d s (between ++ start_of r ∷ []) l r) → has_instant r.span ≡ true
      → IsSkipping d all r now All r later out
  skipping_breaks r later out now stay e t o n value i = record {
    between = [];
    making = making_breaks d all s m.between l rest legs m.making r later e out o (t ∙ value m.between m.known) i;
    known = known_nothing d (start_of r) r.span.lower now All n refl;
    reached = none_held r.span.lower r.span.lower now n;
  }

  pub skipping_end : rest ≡ [] → legs ++ leg_over s l ∷ [] ≡ all_legs d all
  skipping_end e = making_end d all s m.between l rest legs m.making e
