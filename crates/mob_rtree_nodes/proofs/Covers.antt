-- Boxes over many boxes, and reordered children.
use Rattle.std.{specs.Prelude.{All, sum_by, count_by, IsPermutation}, specs.List.{refill, remove}}
use Rattle.std.proofs.Common.{◌≡◌, refl, ℕ, zero, suc, ◌+◌, ◌<◌, ◌≤◌, Bool, true, false, cond, not, ◌==◌, List, [], ◌∷◌, ◌++◌, length, get_or, set, take, drop, arith, ap, sym, ◌∙◌}
use Rattle.std.{proofs.lemmas.Bool.{true≢false, and_parts}, proofs.lemmas.Bool.Decides.{nat_tests}, proofs.lemmas.List.Sums.{sum_by-cons, sum_by-remove, sum_by-set, sum_by-append, get_or-le-sum_by}}
use Rattle.std.{proofs.lemmas.List.{length-set}, proofs.lemmas.List.Elements.{All-more, All-weaker}, proofs.lemmas.List.Sorted.{sum_by-IsPermutation, length_permutation}}
use Rattle.mob_stbox.{specs.Boxes.{BoxOf, contains, cover, is_whole}, proofs.BoxLaws.{cover_whole, cover_over_left, cover_over_right, cover_least, over_trans}}
use Rattle.mob_rtree_nodes.specs.Tree.{Kid, IsLeastOver, is_fit, is_kind}

-- if no element fails a test, none of these does
pub none_fails : {X : Type 0} (test : X → Bool) (xs : List X) (i : ℕ) (d : X) → count_by (λ x. not (test x)) xs ≡ 0 → i < length xs → test (get_or xs i d) ≡ true
none_fails {X = X} test xs i d none within = by_test (test (get_or xs i d)) refl
  where
    by_test : (b : Bool) → test (get_or xs i d) ≡ b → b ≡ true
    by_test true e = refl
    by_test false e =
        let w : X → ℕ = λ x. cond (not (test x)) 1 0 in
        let a = get_or-le-sum_by w xs i d within in
        let o = ap {B = ℕ} (λ b. cond (not b) 1 0) e in
        absurd (omega (arith, a, o, none))

pub cover_more : (kids : List Kid) (i : ℕ) (k : Kid) (a b : BoxOf) → b ≡ cover a k.0 → i < length kids → k ≡ get_or kids i k → count_by (λ k. not (is_whole k.0)) kids ≡ 0 → is_whole a ≡ true → All (λ k. contains a k.0 ≡ true) (take i kids)
    → (is_whole b ≡ true) × All (λ k. contains b k.0 ≡ true) (take (i + 1) kids)
cover_more kids i k a b e within at none whole all =
    let kid : is_whole k.0 ≡ true = ap (λ (k : Kid). is_whole k.0) at ∙ none_fails (λ k. is_whole k.0) kids i k none within in
    let b-whole : is_whole b ≡ true = ap is_whole e ∙ cover_whole a k.0 whole kid in
    let over : contains b a ≡ true = ap (λ b. contains b a) e ∙ cover_over_left a k.0 in
    let last : contains b k.0 ≡ true = ap (λ b. contains b k.0) e ∙ cover_over_right a k.0 in
    (b-whole, All-more (λ k. contains b k.0 ≡ true) kids i k within (All-weaker (λ k. contains a k.0 ≡ true) (λ k. contains b k.0 ≡ true) (λ k h. over_trans b a k.0 over h) (take i kids) all) (ap (λ (k : Kid). contains b k.0) (sym at) ∙ last))

-- a cover is in each box over what it covers
pub cover_still_least : (kids : List Kid) (i : ℕ) (k : Kid) (a b : BoxOf) → b ≡ cover a k.0 → i < length kids → k ≡ get_or kids i k → IsLeastOver a kids → IsLeastOver b kids
cover_still_least kids i k a b e within at least d all =
    let kid : contains d k.0 ≡ true = ap (λ (k : Kid). contains d k.0) at ∙ all i k within in
    ap (contains d) e ∙ cover_least a k.0 d (least d all) kid

-- a stronger test counts fewer
pub counts_less : {X : Type 0} (s t : X → Bool) → ((x : X) → s x ≡ true → t x ≡ true) → (xs : List X) → count_by (λ x. not (s x)) xs ≡ 0 → count_by (λ x. not (t x)) xs ≡ 0
counts_less {X = X} s t says [] none = refl
counts_less {X = X} s t says (x ∷ xs) none =
    let v : X → ℕ = λ x. cond (not (s x)) 1 0 in
    let w : X → ℕ = λ x. cond (not (t x)) 1 0 in
    omega (arith, sum_by-cons v x xs, sum_by-cons w x xs, none, one (s x) (t x) (says x), counts_less s t says xs (omega (arith, none, sum_by-cons v x xs)))
  where
    one : (a b : Bool) → (a ≡ true → b ≡ true) → ◌≤◌ (cond (not b) 1 0) (cond (not a) 1 0)
    one a true f = omega arith
    one true false f = absurd (true≢false (sym (f refl)))
    one false false f = omega arith

pub fit_whole : (h : ℕ) (kids : List Kid) → count_by (λ k. not (is_fit h k)) kids ≡ 0 → count_by (λ k. not (is_whole k.0)) kids ≡ 0
fit_whole h kids none = counts_less (is_fit h) (λ k. is_whole k.0) (λ k e. (and_parts (is_whole k.0) (is_kind h k.1) e).0) kids none

take_front : {X : Type 0} (n : ℕ) (xs ys : List X) → n ≡ length xs → take n (xs ++ ys) ≡ xs
take_front zero [] ys e = refl
take_front (suc n) [] ys e = absurd (omega (arith, e))
take_front zero (x ∷ xs) ys e = absurd (omega (arith, e))
take_front (suc n) (x ∷ xs) ys e = ap (λ l. x ∷ l) (take_front n xs ys (omega (arith, e)))

-- sums over reordered children
pub sum_arranged : {X : Type 0} (f : X → ℕ) (n : ℕ) (xs ys : List X) → n ≡ length xs → IsPermutation xs ys → sum_by f (refill n xs ys) ≡ sum_by f xs
sum_arranged f n xs ys e p = ap (sum_by f) (take_front n ys (drop (length ys) xs) (e ∙ sym (length_permutation xs ys p))) ∙ sum_by-IsPermutation f xs ys p

-- an element is replaced
pub none_set : {X : Type 0} (test : X → Bool) (xs : List X) (i : ℕ) (x d : X) → i < length xs → count_by (λ x. not (test x)) xs ≡ 0 → test x ≡ true → count_by (λ x. not (test x)) (set xs i x) ≡ 0
none_set {X = X} test xs i x d within none passes =
    let w : X → ℕ = λ x. cond (not (test x)) 1 0 in
    let o = ap {B = ℕ} (λ b. cond (not b) 1 0) passes in
    omega (arith, sum_by-set w xs i x d within, none, o)

pub none_refilled : {X : Type 0} (test : X → Bool) (n : ℕ) (xs ys zs : List X) (i : ℕ) (x d : X) → zs ≡ refill n xs (set ys i x) → ys ≡ xs → n ≡ length xs → i < length xs → count_by (λ x. not (test x)) xs ≡ 0 → test x ≡ true → count_by (λ x. not (test x)) zs ≡ 0
none_refilled test n xs ys zs i x d made same len within none passes =
    let e = none_set test ys i x d (omega (arith, within, ap length same)) (ap (count_by (λ x. not (test x))) same ∙ none) passes in
    let f : refill n xs (set ys i x) ≡ set ys i x = take_front n (set ys i x) (drop (length (set ys i x)) xs) (omega (arith, len, length-set ys i x, ap length same)) in
    ap (count_by (λ x. not (test x))) (made ∙ f) ∙ e

-- children that are divided, with one more
pub none_parted : (test : Kid → Bool) (xs ys zs : List Kid) (k : Kid) → ((f : Kid → ℕ) → sum_by f xs + sum_by f ys ≡ sum_by f zs + f k) → count_by (λ k. not (test k)) zs ≡ 0 → test k ≡ true → (count_by (λ k. not (test k)) xs ≡ 0) × (count_by (λ k. not (test k)) ys ≡ 0)
none_parted test xs ys zs k says none passes =
    let w : Kid → ℕ = λ k. cond (not (test k)) 1 0 in
    let o = ap {B = ℕ} (λ b. cond (not b) 1 0) passes in
    (omega (arith, says w, none, o), omega (arith, says w, none, o))

pub none_pushed : (test : Kid → Bool) (xs zs : List Kid) (k : Kid) → xs ≡ zs ++ k ∷ [] → count_by (λ k. not (test k)) zs ≡ 0 → test k ≡ true → count_by (λ k. not (test k)) xs ≡ 0
none_pushed test xs zs k made none passes =
    let w : Kid → ℕ = λ k. cond (not (test k)) 1 0 in
    let o = ap {B = ℕ} (λ b. cond (not b) 1 0) passes in
    omega (arith, ap (sum_by w) made, sum_by-append w zs (k ∷ []), sum_by-cons w k [], none, o)

pub none_out : (test : Kid → Bool) (xs zs : List Kid) (i : ℕ) (d : Kid) → xs ≡ remove zs i → i < length zs → count_by (λ k. not (test k)) zs ≡ 0 → count_by (λ k. not (test k)) xs ≡ 0
none_out test xs zs i d made within none =
    let w : Kid → ℕ = λ k. cond (not (test k)) 1 0 in
    omega (arith, ap (sum_by w) made, sum_by-remove w zs i d within, none)

pub none_left : (n : ℕ) → (n == 0) ≡ true → n ≡ 0
none_left n h = grind (arith, nat_tests)

pub some_left : (n : ℕ) → (n == 0) ≡ false → 0 < n
some_left n h = grind (arith, nat_tests)
