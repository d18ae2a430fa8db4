-- The walk along the slices, step by step.
use Rattle.std.{specs.Prelude.{◌≡◌, Bool, true, false, cond, ◌&&◌, List, [], ◌∷◌, ◌++◌, Option, Some, None, refl}, specs.List.{AllByRecursion}}
use Rattle.std.proofs.Common.{arith, ap, sym, ◌∙◌, subst, append_assoc}
use Rattle.mob_ratio.{specs.Ratio.{Ratio}, specs.Order.{before, up_to, same}, proofs.Order.{same_exact, up_to-self, up_to-trans, before-weak, up_to-before}}
use Rattle.mob_span.specs.Span.{has_instant}
use Rattle.mob_list.{specs.Faults.{OnCause}, specs.declared.fault.Fault.{Fault}, specs.declared.fault.Fault.TheVariants.{Because, NoMemory}, proofs.Each.{each_on, each_both}}
use Rattle.mob_slice.{specs.Entries.{Entry, IsFirst}, specs.declared.formula.Formula.{Formula}, specs.declared.line.PlaneLine.{PlaneLine}, specs.declared.slice.Slice.{Slice}}
use Rattle.mob_slice.proofs.JoinedFirsts.{first_joined, first_front}
use Rattle.mob_simplify.{specs.Breaks.{start_of, end_of}, specs.Tests.{tests_within}, specs.Walk.{continues_run, stays, leg_over, legs_along, tests_along, all_legs, all_tests}}
use Rattle.mob_simplify.{specs.declared.breaks.Break.{Break}, proofs.InTurn.{IsWithin}}

-- what it takes to continue a run
pub record IsGoing (s r : Slice PlaneLine) : Type 0 where
  pub first_long : before s.span.lower s.span.upper ≡ true
  pub next_long : before r.span.lower r.span.upper ≡ true
  pub at_one : s.span.upper ≡ r.span.lower

pub going : (s r : Slice PlaneLine) → continues_run s r ≡ true → IsGoing s r
unfolding continues_run
going s r h =
    let k : same s.span.upper r.span.lower ≡ true = grind (arith, h) in
    record { first_long = grind (arith, h); next_long = grind (arith, h); at_one = (same_exact s.span.upper r.span.lower).0 k }

-- an instant is reached after l, and u is not before it
abbrev pub IsReached : Ratio → Ratio → Break → Type 0
IsReached l u b = (before l b.instant ≡ true) × (up_to b.instant u ≡ true)

-- the legs of the slices before the rest are made
pub record IsMaking (d : Ratio) (all : List (Slice PlaneLine)) (s : Slice PlaneLine) (between : List Break) (l : Slice PlaneLine) (rest legs : List (Slice PlaneLine)) : Type 0 where
  pub made : legs ++ legs_along d s between l rest ≡ all_legs d all
  pub order : up_to s.span.lower l.span.lower ≡ true
  pub within : AllByRecursion (IsReached s.span.lower l.span.lower) between
  pub some : has_instant (leg_over s l).span ≡ true

pub making_start : (d : Ratio) (s : Slice PlaneLine) (rest all : List (Slice PlaneLine)) → all ≡ s ∷ rest → has_instant s.span ≡ true → IsMaking d all s [] s rest []
making_start d s rest all e h = subst (λ a. IsMaking d a s [] s rest []) (sym e) (record { made = refl; order = up_to-self s.span.lower; within = tt; some = h })

module _ (d : Ratio) (all : List (Slice PlaneLine)) (s : Slice PlaneLine) (between : List Break) (l : Slice PlaneLine) (rest legs : List (Slice PlaneLine)) (m : IsMaking d all s between l rest legs) where
  module _ (r : Slice PlaneLine) (later : List (Slice PlaneLine)) (e : rest ≡ r ∷ later) where
    abbrev wide : List Break
    wide = between ++ start_of r ∷ []

    -- the breaks in `between` are between the kept break and the start of the next
    within_next : continues_run l r ≡ true → AllByRecursion (IsReached s.span.lower r.span.lower) wide
    within_next g =
        let k = going l r g in
        let up : up_to l.span.lower r.span.lower ≡ true = subst (λ z. up_to l.span.lower z ≡ true) k.at_one (before-weak l.span.lower l.span.upper k.first_long) in
        each_both (IsReached s.span.lower r.span.lower) between (start_of r ∷ [])
        (each_on (IsReached s.span.lower l.span.lower) (IsReached s.span.lower r.span.lower) (λ b w. (w.0, up_to-trans b.instant l.span.lower r.span.lower w.1 up)) between m.within)
        ((up_to-before s.span.lower l.span.lower r.span.lower m.order (subst (λ z. before l.span.lower z ≡ true) k.at_one k.first_long), up_to-self r.span.lower), tt)

    pub within_end : continues_run l r ≡ true → AllByRecursion (IsWithin s.span.lower r.span.upper) wide
    within_end g = each_on (IsReached s.span.lower r.span.lower) (IsWithin s.span.lower r.span.upper) (λ b w. (w.0, up_to-before b.instant r.span.lower r.span.upper w.1 (going l r g).next_long)) wide (within_next g)

    made_on : (b : Bool) → b ≡ stays d s wide l r → legs ++ cond b (legs_along d s wide r later) (leg_over s l ∷ legs_along d r [] r later) ≡ all_legs d all
    made_on b h = ap (λ z. legs ++ cond z (legs_along d s wide r later) (leg_over s l ∷ legs_along d r [] r later)) h ∙ ap (λ z. legs ++ legs_along d s between l z) (sym e) ∙ m.made

    going_by : (b c : Bool) → true ≡ (b && c) → b ≡ true
    going_by true c h = refl
    going_by false c h = sym h

    pub making_stays : true ≡ stays d s wide l r → IsMaking d all s wide r later legs
    making_stays h =
        let g = going_by _ _ h in
        let k = going l r g in
        let up : up_to s.span.lower r.span.lower ≡ true = up_to-trans s.span.lower l.span.lower r.span.lower m.order (subst (λ z. up_to l.span.lower z ≡ true) k.at_one (before-weak l.span.lower l.span.upper k.first_long)) in
        record {
          made = made_on true h;
          order = up;
          within = within_next g;
          some = let w = up_to-before s.span.lower r.span.lower r.span.upper up k.next_long in grind (arith, w);
        }

    pub making_breaks : (out : List (Slice PlaneLine)) → out ≡ legs ++ leg_over s l ∷ [] → false ≡ stays d s wide l r → has_instant r.span ≡ true → IsMaking d all r [] r later out
    making_breaks out o h i = record {
      made = ap (λ z. z ++ legs_along d r [] r later) o ∙ append_assoc legs (leg_over s l ∷ []) (legs_along d r [] r later) ∙ made_on false h;
      order = up_to-self r.span.lower;
      within = tt;
      some = i;
    }

  pub making_end : rest ≡ [] → legs ++ leg_over s l ∷ [] ≡ all_legs d all
  making_end e = ap (λ z. legs ++ legs_along d s between l z) (sym e) ∙ m.made

-- the slices before the rest are walked
pub record IsWalking (d : Ratio) (all : List (Slice PlaneLine)) (s : Slice PlaneLine) (between : List Break) (l : Slice PlaneLine) (rest legs : List (Slice PlaneLine)) : Type 0 where
  pub making : IsMaking d all s between l rest legs
  pub firsts : (f : Option Formula) → IsFirst (tests_along d s between l rest) f → IsFirst (all_tests d all) f

pub walking_start : (d : Ratio) (s : Slice PlaneLine) (rest all : List (Slice PlaneLine)) → all ≡ s ∷ rest → has_instant s.span ≡ true → IsWalking d all s [] s rest []
walking_start d s rest all e h = subst (λ a. IsWalking d a s [] s rest []) (sym e) (record { making = making_start d s rest (s ∷ rest) refl h; firsts = λ f k. k })

module _ (d : Ratio) (all : List (Slice PlaneLine)) (s : Slice PlaneLine) (between : List Break) (l : Slice PlaneLine) (rest legs : List (Slice PlaneLine)) (m : IsWalking d all s between l rest legs) where
  module _ (r : Slice PlaneLine) (later : List (Slice PlaneLine)) (e : rest ≡ r ∷ later) where
    abbrev next : List Break
    next = between ++ start_of r ∷ []

    abbrev front : List Entry
    front = cond (continues_run l r) (tests_within d (start_of s) next (end_of r)) []

    abbrev behind : Bool → List Entry
    behind b = cond b (tests_along d s next r later) (tests_along d r [] r later)

    firsts_on : (b : Bool) → b ≡ stays d s next l r → IsFirst front None → (f : Option Formula) → IsFirst (behind b) f → IsFirst (all_tests d all) f
    firsts_on b h fit f k = m.firsts f (subst (λ z. IsFirst (tests_along d s between l z) f) (sym e) (first_joined front (behind (stays d s next l r)) f fit (subst (λ z. IsFirst (behind z) f) h k)))

    walking_fails : (f : Formula) → IsFirst front (Some f) → IsFirst (all_tests d all) (Some f)
    walking_fails f bad = m.firsts (Some f) (subst (λ z. IsFirst (tests_along d s between l z) (Some f)) (sym e) (first_front front (behind (stays d s next l r)) f bad))

    -- a fault at the next slice is a fault of all
    pub walking_refused : (e : Fault Formula) → OnCause (λ f. IsFirst front (Some f)) e → OnCause (λ f. IsFirst (all_tests d all) (Some f)) e
    walking_refused (Because f) bad = walking_fails f bad
    walking_refused NoMemory bad = tt

    pub walking_stays : true ≡ stays d s next l r → IsFirst front None → IsWalking d all s next r later legs
    walking_stays h fit = record { making = making_stays d all s between l rest legs m.making r later e h; firsts = firsts_on true h fit }

    pub walking_breaks : (out : List (Slice PlaneLine)) → out ≡ legs ++ leg_over s l ∷ [] → false ≡ stays d s next l r → IsFirst front None → has_instant r.span ≡ true → IsWalking d all r [] r later out
    walking_breaks out o h fit i = record { making = making_breaks d all s between l rest legs m.making r later e out o h i; firsts = firsts_on false h fit }

  pub walking_end : rest ≡ [] → (legs ++ leg_over s l ∷ [] ≡ all_legs d all) × IsFirst (all_tests d all) None
  walking_end e = (making_end d all s between l rest legs m.making e, m.firsts None (subst (λ z. IsFirst (tests_along d s between l z) None) (sym e) refl))
