-- Look-ups in a list of slices at one instant.
use Rattle.std.{specs.Prelude.{◌≡◌, Bool, true, false, cond, List, [], ◌∷◌, Option, Some, None, option_map, refl}, proofs.Common.{ap, ◌∙◌, subst, true≢false}, proofs.lemmas.Option.{same_Some}}
use Rattle.mob_ratio.specs.Ratio.{Ratio}
use Rattle.mob_span.{specs.Span.{has}, specs.Pieces.{piece_at}, proofs.SpanLemmas.{some_instant}}
use Rattle.mob_slice.{specs.Cut.{slice_value, slice_parts}, specs.Instants.{slice_at, parts_there, parts_at}, specs.Slices.{value_at, IsNormal}, specs.declared.slice.Slice.{Slice}}

-- the value at t is that of the slice at t
pub value_by : {C B : Type 0} (value : C → Ratio → Ratio → Ratio → B) (v : List (Slice C)) (t : Ratio) → value_at value v t ≡ option_map (λ s. slice_value value s t) (piece_at (λ s. s.span) v t)
value_by value [] t = refl
value_by value (s ∷ v) t = ap (cond (has s.span t) (Some (slice_value value s t))) (value_by value v t) ∙ by (has s.span t)
  where
    by : (b : Bool) → cond b (Some (slice_value value s t)) (option_map (λ s. slice_value value s t) (piece_at (λ s. s.span) v t)) ≡ option_map (λ s. slice_value value s t) (cond b (Some s) (piece_at (λ s. s.span) v t))
    by true = refl
    by false = refl

-- a normal list has a value at some instant
pub some_value : {C B : Type 0} {start end : C → B} {continues : C → C → Ratio → Ratio → Ratio → Bool} (value : C → Ratio → Ratio → Ratio → B) (v : List (Slice C)) → IsNormal start end continues v → (t : Ratio) × (y : B) × (value_at value v t ≡ Some y)
some_value value [] n = absurd (n.some refl)
some_value value (s ∷ v) n = let m = some_instant s.span n.chained.0.some in (m.0, value s.course s.span.lower s.span.upper m.0, rw m.1 refl)

some_is : {X : Type 0} (x : X) (o : Option X) → o ≡ Some x → o ≡ None → true ≡ false
some_is x o e n = cc

inside_by : {C : Type 0} (t : Ratio) (r : Slice C) (rest : List (Slice C)) (s : Slice C) (b : Bool) → has r.span t ≡ b → (slice_at rest t ≡ Some s → has s.span t ≡ true) → cond b (Some r) (slice_at rest t) ≡ Some s → has s.span t ≡ true
inside_by {C} t r rest s true h f e = subst (λ (z : Slice C). has z.span t ≡ true) (same_Some r s e) h
inside_by t r rest s false h f e = f e

-- the slice that is found has the instant
pub inside_found : {C : Type 0} (t : Ratio) (slices : List (Slice C)) (s : Slice C) → slice_at slices t ≡ Some s → has s.span t ≡ true
inside_found t [] s e = absurd (true≢false (some_is s None e refl))
inside_found t (r ∷ rest) s e = inside_by t r rest s (has r.span t) refl (inside_found t rest s) e

module _ {C B : Type 0} (value : C → Ratio → Ratio → Ratio → B) (t : Ratio) (slices : List (Slice C)) where
  pub found_value : (s : Slice C) → slice_at slices t ≡ Some s → value_at value slices t ≡ Some (slice_value value s t)
  found_value s e = value_by value slices t ∙ ap (option_map (λ (s : Slice C). slice_value value s t)) e

  pub missing_value : slice_at slices t ≡ None → value_at value slices t ≡ None
  missing_value e = value_by value slices t ∙ ap (option_map (λ (s : Slice C). slice_value value s t)) e

  -- so the value is defined exactly if a slice is found
  pub where_found : (s : Slice C) → slice_at slices t ≡ Some s → (true ≡ false → value_at value slices t ≡ None) × (value_at value slices t ≡ None → true ≡ false)
  where_found s e = (λ h. absurd (true≢false h), λ n. some_is (slice_value value s t) (value_at value slices t) (found_value s e) n)

  pub where_missing : slice_at slices t ≡ None → (false ≡ false → value_at value slices t ≡ None) × (value_at value slices t ≡ None → false ≡ false)
  where_missing e = (λ h. missing_value e, λ n. refl)

module _ {C : Type 0} (parts : C → Ratio → Ratio → Ratio → List Ratio) (t : Ratio) (slices : List (Slice C)) where
  pub found_parts : (s : Slice C) → slice_at slices t ≡ Some s → parts_at parts slices t ≡ slice_parts parts s t
  found_parts s e = ap (λ o. parts_there parts t o) e

  pub missing_parts : slice_at slices t ≡ None → parts_at parts slices t ≡ []
  missing_parts e = ap (λ o. parts_there parts t o) e
