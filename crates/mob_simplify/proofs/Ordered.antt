-- The result of the walk is ordered if its slices are.
use Rattle.std.{specs.Prelude.{◌≡◌, ◌≢◌, Bool, true, false, cond, List, [], ◌∷◌, ◌++◌, refl}, proofs.Common.{arith, sym, ◌∙◌, subst, true≢false}, proofs.lemmas.Bool.{and_parts}}
use Rattle.mob_ratio.{specs.Ratio.{Ratio}, specs.Order.{before, up_to}, proofs.Order.{up_to-self, up_to-trans, before-weak, up_to-before}}
use Rattle.mob_slice.{specs.Slices.{OfHead, IsSound, IsClearOf, IsRisingInTime}, specs.declared.line.PlaneLine.{PlaneLine}, specs.declared.slice.Slice.{Slice}}
use Rattle.mob_simplify.{specs.Breaks.{start_of, end_of, passes_within}, specs.Walk.{continues_run, stays, leg_over, legs_along, all_legs}, specs.declared.breaks.Break.{Break}, proofs.Along.{going}}

abbrev pub IsSoundLine : Slice PlaneLine → Type 0
IsSoundLine s = IsSound (λ c. c.from) (λ c. c.to) s

abbrev pub AreOrderedLines : List (Slice PlaneLine) → Type 0
AreOrderedLines slices = IsRisingInTime (λ c. c.from) (λ c. c.to) slices

sound_by : (s l : Slice PlaneLine) → before s.span.lower l.span.upper ≡ true → IsSoundLine (leg_over s l)
sound_by s l h = record { some = grind (arith, h); level = λ k. absurd (true≢false (sym h ∙ k)) }

module _ (d : Ratio) where
  -- a slice that is before r is before the legs that begin with r
  head_step : (q s : Slice PlaneLine) (legs legs' : List (Slice PlaneLine)) (l : Slice PlaneLine) → IsClearOf q s → OfHead IsClearOf q legs → (b : Bool) → OfHead IsClearOf q (cond b legs (leg_over s l ∷ legs'))
  head_step q s legs legs' l h k true = k
  head_step q s legs legs' l h k false = h

  clear_head : (q s : Slice PlaneLine) (between : List Break) (l : Slice PlaneLine) (rest : List (Slice PlaneLine)) → IsClearOf q s → OfHead IsClearOf q (legs_along d s between l rest)
  clear_head q s between l [] h = h
  clear_head q s between l (r ∷ rest) h = head_step q s (legs_along d s (between ++ start_of r ∷ []) r rest) (legs_along d r [] r rest) l h (clear_head q s (between ++ start_of r ∷ []) r rest h) (stays d s (between ++ start_of r ∷ []) l r)

  step_ordered : (s : Slice PlaneLine) (between : List Break) (l r : Slice PlaneLine) (rest : List (Slice PlaneLine)) → up_to s.span.lower l.span.lower ≡ true → IsSoundLine (leg_over s l) → IsClearOf l r → AreOrderedLines (r ∷ rest)
      → (up_to s.span.lower r.span.lower ≡ true → IsSoundLine (leg_over s r) → AreOrderedLines (legs_along d s (between ++ start_of r ∷ []) r rest))
      → AreOrderedLines (legs_along d r [] r rest)
      → (b : Bool) → stays d s (between ++ start_of r ∷ []) l r ≡ b → AreOrderedLines (cond b (legs_along d s (between ++ start_of r ∷ []) r rest) (leg_over s l ∷ legs_along d r [] r rest))
  step_ordered s between l r rest up sound clear o on new true e =
      let g = going l r (and_parts (continues_run l r) (passes_within d (start_of s) (between ++ start_of r ∷ []) (end_of r)) e).0 in
      let low : up_to s.span.lower r.span.lower ≡ true = up_to-trans s.span.lower l.span.lower r.span.lower up (subst (λ z. up_to l.span.lower z ≡ true) g.at_one (before-weak l.span.lower l.span.upper g.first_long)) in
      on low (sound_by s r (up_to-before s.span.lower r.span.lower r.span.upper low g.next_long))
  step_ordered s between l r rest up sound clear o on new false e = (sound, clear_head (leg_over s l) r [] r rest clear, new)

  pub ordered_along : (s : Slice PlaneLine) (between : List Break) (l : Slice PlaneLine) (rest : List (Slice PlaneLine)) → up_to s.span.lower l.span.lower ≡ true → IsSoundLine (leg_over s l) → AreOrderedLines (l ∷ rest) → AreOrderedLines (legs_along d s between l rest)
  ordered_along s between l [] up sound o = (sound, tt, tt)
  ordered_along s between l (r ∷ rest) up sound o =
      step_ordered s between l r rest up sound o.1 o.2
      (λ low k. ordered_along s (between ++ start_of r ∷ []) r rest low k o.2)
      (ordered_along r [] r rest (up_to-self r.span.lower) o.2.0 o.2)
      (stays d s (between ++ start_of r ∷ []) l r) refl

  pub all_ordered : (slices : List (Slice PlaneLine)) → AreOrderedLines slices → AreOrderedLines (all_legs d slices)
  all_ordered [] o = tt
  all_ordered (s ∷ rest) o = ordered_along s [] s rest (up_to-self s.span.lower) o.0 o

  some_step : (legs legs' : List (Slice PlaneLine)) (l : Slice PlaneLine) → legs ≢ [] → (b : Bool) → cond b legs (l ∷ legs') ≢ []
  some_step legs legs' l h true = h
  some_step legs legs' l h false = λ e. cc

  pub some_along : (s : Slice PlaneLine) (between : List Break) (l : Slice PlaneLine) (rest : List (Slice PlaneLine)) → legs_along d s between l rest ≢ []
  some_along s between l [] = λ e. cc
  some_along s between l (r ∷ rest) = some_step (legs_along d s (between ++ start_of r ∷ []) r rest) (legs_along d r [] r rest) (leg_over s l) (some_along s (between ++ start_of r ∷ []) r rest) (stays d s (between ++ start_of r ∷ []) l r)

  pub all_some : (slices : List (Slice PlaneLine)) → slices ≢ [] → all_legs d slices ≢ []
  all_some [] h = h
  all_some (s ∷ rest) h = some_along s [] s rest
