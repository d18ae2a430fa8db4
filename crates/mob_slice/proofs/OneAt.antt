-- The slice of an ordered list at one instant.
use Rattle.std.{specs.Prelude.{◌≡◌, ◌⊎◌, Bool, true, false, cond, List, [], ◌∷◌, Some, Contains, refl}, proofs.Common.{ap, sym, ◌∙◌, subst, inl, inr, true≢false}, proofs.lemmas.Option.{same_Some}}
use Rattle.mob_ratio.specs.Ratio.{Ratio}
use Rattle.mob_list.proofs.Entries.{first_in, later_in, none_in, which_in}
use Rattle.mob_span.{specs.Span.{SpanOf, has}, proofs.Insides.{clear_has}, proofs.Shared.{AreAllClear, all_after}}
use Rattle.mob_slice.{specs.Instants.{slice_at, OneSliceAt}, specs.Slices.{IsRisingInTime}, specs.declared.slice.Slice.{Slice}, proofs.LookUps.{inside_found}, proofs.Orders.{ordered-clear}}

module _ {C B : Type 0} (start end : C → B) (t : Ratio) where
  -- no later slice has t if one does
  none_later : (q : SpanOf) (v : List (Slice C)) (s : Slice C) → AreAllClear (λ (r : Slice C). r.span) q v → has q t ≡ true → Contains v s → has s.span t ≡ true → ⊥
  none_later q [] s a h c k = none_in s c
  none_later q (r ∷ v) s a h c k = elim (which_in r v s c) [
    | inl e ↦ true≢false (sym k ∙ ap (λ (z : Slice C). has z.span t) (sym e) ∙ clear_has q r.span t a.0 h)
    | inr d ↦ none_later q v s a.1 h d k
  ]

  held_by : (r : Slice C) (v : List (Slice C)) (s : Slice C) (b : Bool) → has r.span t ≡ b → AreAllClear (λ (z : Slice C). z.span) r.span v → (Contains v s → slice_at v t ≡ Some s) → ((r ≡ s) ⊎ Contains v s) → has s.span t ≡ true → cond b (Some r) (slice_at v t) ≡ Some s
  held_by r v s true h a f (inl e) k = ap Some e
  held_by r v s true h a f (inr c) k = absurd (none_later r.span v s a h c k)
  held_by r v s false h a f (inl e) k = absurd (true≢false (sym k ∙ ap (λ (z : Slice C). has z.span t) (sym e) ∙ h))
  held_by r v s false h a f (inr c) k = f c

  held : (v : List (Slice C)) → IsRisingInTime start end v → (s : Slice C) → Contains v s → has s.span t ≡ true → slice_at v t ≡ Some s
  held [] o s c k = absurd (none_in s c)
  held (r ∷ v) o s c k = held_by r v s (has r.span t) refl (all_after (λ (z : Slice C). z.span) r v (ordered-clear start end (r ∷ v) o)) (λ d. held v o.2 s d k) (which_in r v s c) k

  among_by : (r : Slice C) (v : List (Slice C)) (s : Slice C) (b : Bool) → (slice_at v t ≡ Some s → Contains v s) → cond b (Some r) (slice_at v t) ≡ Some s → Contains (r ∷ v) s
  among_by r v s true f e = subst (λ z. Contains (r ∷ v) z) (same_Some r s e) (first_in r v)
  among_by r v s false f e = later_in r v s (f e)

  among : (v : List (Slice C)) (s : Slice C) → slice_at v t ≡ Some s → Contains v s
  among [] s e = cc
  among (r ∷ v) s e = among_by r v s (has r.span t) (among v s) e

pub one_slice_at : {C B : Type 0} (start end : C → B) → OneSliceAt start end
one_slice_at start end v o t s = (
  λ e. (among start end t v s e, inside_found t v s e),
  λ h. held start end t v o s h.0 h.1,
)
