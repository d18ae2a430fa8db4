use Rattle.std.{specs.Prelude.{◌≡◌, Bool, cond, Some, List, [], ◌∷◌, ◌++◌, refl}, proofs.Common.{ap, sym, ◌∙◌, subst, append_assoc}}
use Rattle.mob_span.{specs.Span.{has}, proofs.FirstOf.{or_else, cond-or_else}, proofs.Chained.{chained-append, chained-last}}
use Rattle.mob_ratio.specs.Ratio.{Ratio}
use Rattle.mob_slice.{specs.Slices.{value_at, OfHead, IsClearOf, IsSound, IsNormalPair, AreNormal, IsRisingInTime}, specs.declared.slice.Slice.{Slice}}
use Rattle.mob_lift.specs.Joined.{IsJoin}

pub value_at-append : {C B : Type 0} (value : C → Ratio → Ratio → Ratio → B) (xs ys : List (Slice C)) (t : Ratio) → value_at value (xs ++ ys) t ≡ or_else (value_at value xs t) (value_at value ys t)
value_at-append value [] ys t = refl
value_at-append value (x ∷ xs) ys t = ap (λ o. cond (has x.span t) (Some (value x.course x.span.lower x.span.upper t)) o) (value_at-append value xs ys t) ∙ cond-or_else (has x.span t) _ _ _

clear_more : {C : Type 0} (r l : Slice C) (rest : List (Slice C)) → ((q : Slice C) → IsClearOf r q → IsClearOf l q) → OfHead IsClearOf r rest → OfHead IsClearOf l rest
clear_more r l [] f h = tt
clear_more r l (q ∷ rest) f h = f q h

module _ {C B : Type 0} {value : C → Ratio → Ratio → Ratio → B} {start end : C → B} {continues : C → C → Ratio → Ratio → Ratio → Bool} where
  pub step_normal : (o d o' : List (Slice C)) (s r l : Slice C) → o' ≡ o ++ d → AreNormal start end continues (o ++ s ∷ []) → IsJoin value start end continues s r d l → AreNormal start end continues (o' ++ l ∷ [])
  step_normal o d o' s r l e h j = rw (e, append_assoc) (chained-append (IsSound start end) (IsNormalPair start end continues) o s (d ++ l ∷ []) h j.front j.chained)

  pub step_ordered : (d rest : List (Slice C)) (s r l : Slice C) → IsRisingInTime start end (s ∷ r ∷ rest) → IsJoin value start end continues s r d l → IsRisingInTime start end (l ∷ rest)
  step_ordered d rest s r l h j = (chained-last (IsSound start end) (IsNormalPair start end continues) d l j.chained, clear_more r l rest j.back h.2.1, h.2.2)

  pub step_keeps : (o d o' rest : List (Slice C)) (s r l : Slice C) → o' ≡ o ++ d → IsJoin value start end continues s r d l → (t : Ratio) → value_at value (o' ++ l ∷ rest) t ≡ value_at value (o ++ s ∷ r ∷ rest) t
  step_keeps o d o' rest s r l e j t =
      let left : value_at value (o ++ ((d ++ l ∷ []) ++ rest)) t ≡ or_else (value_at value o t) (or_else (value_at value (d ++ l ∷ []) t) (value_at value rest t)) = value_at-append value o ((d ++ l ∷ []) ++ rest) t ∙ ap (or_else (value_at value o t)) (value_at-append value (d ++ l ∷ []) rest t) in
      let right : value_at value (o ++ ((s ∷ r ∷ []) ++ rest)) t ≡ or_else (value_at value o t) (or_else (value_at value (s ∷ r ∷ []) t) (value_at value rest t)) = value_at-append value o ((s ∷ r ∷ []) ++ rest) t ∙ ap (or_else (value_at value o t)) (value_at-append value (s ∷ r ∷ []) rest t) in
      rw (e, append_assoc) (subst (λ xs. value_at value (o ++ xs) t ≡ value_at value (o ++ s ∷ r ∷ rest) t) (append_assoc d (l ∷ []) rest) (left ∙ ap (λ v. or_else (value_at value o t) (or_else v (value_at value rest t))) (j.keeps t) ∙ sym right))
