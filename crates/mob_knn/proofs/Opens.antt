-- The items after some children of a node are pushed.
use Rattle.std.{specs.List.Sorted.{IsPermutation}, proofs.Common.{◌≡◌, ℕ, ◌+◌, ◌<◌, List, [], ◌∷◌, ◌++◌, take, length, get_or, refl, sym, ap, ◌∙◌, subst}, proofs.lemmas.List.{take_more}}
use Rattle.std.{proofs.lemmas.List.Concat.{flat_map-append}, proofs.lemmas.List.Sorted.{IsPermutation-trans, IsPermutation-append_left, IsPermutation-append_right, IsPermutation-append_comm}}
use Rattle.mob_ratio.specs.Ratio.{Ratio}
use Rattle.mob_stbox.specs.Boxes.{BoxOf}
use Rattle.mob_rtree_nodes.specs.Tree.{Kid}
use Rattle.mob_knn.{specs.declared.waiting.Waiting.{Waiting}, specs.Waits.{waits_at, waits_of}}

assoc : (xs ys zs : List Waiting) → (xs ++ ys) ++ zs ≡ xs ++ (ys ++ zs)
assoc [] ys zs = refl
assoc (x ∷ xs) ys zs = ap (λ l. x ∷ l) (assoc xs ys zs)

nil_end : (xs : List Waiting) → xs ++ [] ≡ xs
nil_end [] = refl
nil_end (x ∷ xs) = ap (λ l. x ∷ l) (nil_end xs)

one_more : (floor : Ratio) (q : BoxOf) (kids : List Kid) (i : ℕ) (kid : Kid) → i < length kids → kid ≡ get_or kids i kid → waits_of floor q (take (i + 1) kids) ≡ waits_of floor q (take i kids) ++ waits_at floor q kid
one_more floor q kids i kid lt e =
    ap (waits_of floor q) (take_more kids i kid lt ∙ ap (λ z. take i kids ++ z ∷ []) (sym e))
    ∙ flat_map-append (waits_at floor q) (take i kids) (kid ∷ [])
    ∙ ap (λ l. waits_of floor q (take i kids) ++ l) (nil_end (waits_at floor q kid))

pub next_waits : (floor : Ratio) (q : BoxOf) (kids : List Kid) (i : ℕ) (kid : Kid) (start old new : List Waiting) → i < length kids → kid ≡ get_or kids i kid → IsPermutation (waits_of floor q (take i kids) ++ start) old → IsPermutation (waits_at floor q kid ++ old) new
    → IsPermutation (waits_of floor q (take (i + 1) kids) ++ start) new
next_waits floor q kids i kid start old new lt e h k =
    let w = waits_of floor q (take i kids) in
    let a = waits_at floor q kid in
    subst (λ l. IsPermutation (l ++ start) new) (sym (one_more floor q kids i kid lt e))
    (IsPermutation-trans ((w ++ a) ++ start) ((a ++ w) ++ start) new (IsPermutation-append_left start (w ++ a) (a ++ w) (IsPermutation-append_comm w a))
    (subst (λ l. IsPermutation l new) (sym (assoc a w start)) (IsPermutation-trans (a ++ (w ++ start)) (a ++ old) new (IsPermutation-append_right a (w ++ start) old h) k)))
