-- The select list and the keys of a query fit what is remembered of them.
use Rattle.std.{specs.List.{AllByRecursion}, proofs.Common.{◌≡◌, ◌<◌, ◌++◌, ℕ, zero, suc, List, [], ◌∷◌, length, get_or, map, take, drop, sym, ap, subst, ◌∙◌, arith}}
use Rattle.std.{proofs.lemmas.List.{length-map, map-append}, proofs.Math.Seq.{take-append_seam, drop-append_seam}}
use Rattle.mob_typed.specs.Selects.{TypedSelectParts}
use Rattle.mob_value.specs.declared.store.Store.{Store}
use Rattle.mob_eval.proofs.Fitting.{roots_fit}
use Rattle.mob_tail.specs.Recalling.{AnswerFits, answer_recollection, item_trees, order_trees}
use Rattle.mob_meaning.specs.declared.terms.Terms.{Terms}

module _ {X : Type 0} (P : X → Type 0) where
  -- at the place i of a list
  pub each_at : {W : Type 0} (see : W → X) (ws : List W) (i : ℕ) (w : W) → i < length ws → w ≡ get_or ws i w → AllByRecursion P (map see ws) → P (see w)
  each_at see [] i w lt is h = absurd (omega (arith, lt))
  each_at see (x ∷ ws) zero w lt is h = subst (λ z. P (see z)) (sym is) h.0
  each_at see (x ∷ ws) (suc i) w lt is h = let k : i < length ws = omega (arith, lt) in each_at see ws i w k is h.1

-- a list that is seen as two lists, split at the end of the first
pub halves : {W X : Type 0} (see : W → X) (ws front back : List W) (xs ys : List X) → ws ≡ front ++ back → length front ≡ length xs → map see ws ≡ xs ++ ys → (map see front ≡ xs) × (map see back ≡ ys)
halves see ws front back xs ys parts count seen =
    let both : map see front ++ map see back ≡ xs ++ ys = sym (map-append see front back) ∙ ap (map see) (sym parts) ∙ seen in
    let n : length (map see front) ≡ length xs = length-map front see ∙ count in (
      sym (take-append_seam (map see front) (map see back)) ∙ (λ i. take (n i) (both i)) ∙ take-append_seam xs ys,
      sym (drop-append_seam (map see front) (map see back)) ∙ (λ i. drop (n i) (both i)) ∙ drop-append_seam xs ys,
    )

pub answer_fits : (select : TypedSelectParts) (store : Store) (terms : Terms) → AnswerFits (answer_recollection select store terms) select store terms
answer_fits select store terms tuple = roots_fit store select.from tuple terms (item_trees select ++ order_trees select)
