-- The instants at which a temporal value is defined.
use Rattle.std.{specs.Prelude.{◌≡◌, Bool, true, false, cond, ◌||◌, Some, List, [], ◌∷◌, ◌++◌, map, refl, ℕ, ◌≤◌, length, is_some}, proofs.Common.{ap, sym, ◌∙◌, append-nil, drop}}
use Rattle.std.proofs.lemmas.List.{drop_all}
use Rattle.mob_ratio.specs.Ratio.{Ratio}
use Rattle.mob_span.{specs.Span.{SpanOf, has}, specs.Sets.{in_some}}
use Rattle.mob_slice.{specs.Slices.{value_at}, specs.declared.slice.Slice.{Slice}}

-- the spans of a list of slices
abbrev pub spans_of : {C : Type 0} → List (Slice C) → List SpanOf
spans_of v = map (λ s. s.span) v

-- they have exactly the instants at which the value is defined
pub spans_at : {C B : Type 0} (value : C → Ratio → Ratio → Ratio → B) (v : List (Slice C)) (t : Ratio) → in_some (spans_of v) t ≡ is_some (value_at value v t)
spans_at value [] t = refl
spans_at value (s ∷ v) t = ap (λ b. has s.span t || b) (spans_at value v t) ∙ by (has s.span t)
  where
    by : (b : Bool) → (b || is_some (value_at value v t)) ≡ is_some (cond b (Some (value s.course s.span.lower s.span.upper t)) (value_at value v t))
    by true = refl
    by false = refl

-- at the end of the walk, all spans are taken
pub all_taken : {C : Type 0} (v w : List (Slice C)) (o : List SpanOf) (i : ℕ) → v ≡ w → length v ≤ i → o ++ spans_of (drop i v) ≡ spans_of v → o ≡ spans_of w
all_taken v w o i e h k =
    let none : drop i v ≡ [] = drop_all i v h in
    let all : o ++ [] ≡ spans_of v = ap (λ z. o ++ spans_of z) (sym none) ∙ k in
    sym (append-nil o) ∙ all ∙ ap spans_of e
