-- Numbers after the removal of others.
use Rattle.std.{specs.Ordering.{nat_cmp}, specs.List.{AllByRecursion, filter, remove}, specs.List.Sorted.{IsBinarySearchResult, IsStrictlyIncreasing}}
use Rattle.std.proofs.Common.{arith, ◌≡◌, ◌∙◌, refl, sym, ap, subst, true≢false, ℕ, zero, suc, ◌<◌, ◌==◌, ◌||◌, Bool, true, false, not, cond, length, List, [], ◌∷◌, get_or, Ok, Err}
use Rattle.std.{proofs.lemmas.Bool.{eq-eqb, eqb-true, ne_eqb}, proofs.lemmas.List.Sorted.{searched}}
use Rattle.mob_list.{specs.Live.{is_among, without}, proofs.Each.{each_on}, proofs.Among.{at_among, found_among}, proofs.Rising.{above_first, not_falling, rises_up, tail_rises}}

-- a property of each number holds for each that a filter keeps
pub filter_each : (test : ℕ → Bool) (P : ℕ → Type 0) (xs : List ℕ) → AllByRecursion P xs → AllByRecursion P (filter test xs)
filter_each test P [] h = tt
filter_each test P (x ∷ xs) h = by (test x) (filter_each test P xs h.1)
  where
    by : (b : Bool) → AllByRecursion P (filter test xs) → AllByRecursion P (cond b (x ∷ filter test xs) (filter test xs))
    by true rest = (h.0, rest)
    by false rest = rest

filter_alike : (f g : ℕ → Bool) (xs : List ℕ) → AllByRecursion (λ n. f n ≡ g n) xs → filter f xs ≡ filter g xs
filter_alike f g [] h = refl
filter_alike f g (x ∷ xs) h = ap (λ b. cond b (x ∷ filter f xs) (filter f xs)) h.0 ∙ ap (λ z. cond (g x) (x ∷ z) z) (filter_alike f g xs h.1)

filter_none : (xs : List ℕ) → filter (λ n. false) xs ≡ []
filter_none [] = refl
filter_none (x ∷ xs) = filter_none xs

not_among_above : (n : ℕ) (ms : List ℕ) → AllByRecursion (λ m. n < m) ms → is_among n ms ≡ false
not_among_above n [] h = refl
not_among_above n (m ∷ ms) h =
    let first : (m == n) ≡ false = ne_eqb m n (λ e. let lt = h.0 in omega (arith, e, lt)) in
    ap (λ b. b || is_among n ms) first ∙ not_among_above n ms h.1

of_among : (P : ℕ → Type 0) (n : ℕ) (ms : List ℕ) → AllByRecursion P ms → is_among n ms ≡ true → P n
of_among P n [] h is = absurd (true≢false (sym is))
of_among P n (m ∷ ms) h is = by (m == n) refl is (of_among P n ms h.1)
  where
    by : (b : Bool) → (m == n) ≡ b → (b || is_among n ms) ≡ true → (is_among n ms ≡ true → P n) → P n
    by true e t rest = subst P (eqb-true m n e) h.0
    by false e t rest = rest t

not_first : (x n : ℕ) (xs : List ℕ) → x < n → is_among n (x ∷ xs) ≡ true → is_among n xs ≡ true
not_first x n xs lt is = sym (ap (λ b. b || is_among n xs) (ne_eqb x n (λ e. omega (arith, e, lt)))) ∙ is

both_each : (P Q R : ℕ → Type 0) → ((n : ℕ) → P n → Q n → R n) → (ns : List ℕ) → AllByRecursion P ns → AllByRecursion Q ns → AllByRecursion R ns
both_each P Q R f [] p q = tt
both_each P Q R f (n ∷ ns) p q = (f n p.0 q.0, both_each P Q R f ns p.1 q.1)

-- none of the numbers kept is among those removed
pub out_apart : (gone rows : List ℕ) → AllByRecursion (λ n. is_among n gone ≡ false) (filter (λ n. not (is_among n gone)) rows)
out_apart gone [] = tt
out_apart gone (x ∷ xs) = by (is_among x gone) refl (out_apart gone xs)
  where
    by : (b : Bool) → is_among x gone ≡ b → AllByRecursion (λ n. is_among n gone ≡ false) (filter (λ n. not (is_among n gone)) xs) → AllByRecursion (λ n. is_among n gone ≡ false) (cond (not b) (x ∷ filter (λ n. not (is_among n gone)) xs) (filter (λ n. not (is_among n gone)) xs))
    by true e rest = rest
    by false e rest = (e, rest)

-- each number of a list is in it
pub all_among : (rows : List ℕ) → AllByRecursion (λ n. is_among n rows ≡ true) rows
all_among [] = tt
all_among (x ∷ xs) = (ap (λ b. b || is_among x xs) (eq-eqb x x refl), each_on (λ n. is_among n xs ≡ true) (λ n. is_among n (x ∷ xs) ≡ true) (λ n h. by (x == n) (is_among n xs) h) xs (all_among xs))
  where
    by : (b t : Bool) → t ≡ true → (b || t) ≡ true
    by true t h = refl
    by false t h = h

-- in an increasing list, the numbers that are in an increasing sublist form that sublist
pub filter_gone : (rows gone : List ℕ) → IsStrictlyIncreasing rows → IsStrictlyIncreasing gone → AllByRecursion (λ n. is_among n rows ≡ true) gone → filter (λ n. is_among n gone) rows ≡ gone
filter_gone [] [] rise up h = refl
filter_gone [] (y ∷ ys) rise up h = absurd (true≢false (sym h.0))
filter_gone (x ∷ xs) [] rise up h = filter_none xs
filter_gone (x ∷ xs) (y ∷ ys) rise up h = by (x == y) refl h.0 (λ gone. filter_gone xs gone (tail_rises x xs rise))
  where
    by : (b : Bool) → (x == y) ≡ b → (b || is_among y xs) ≡ true
        → ((gone : List ℕ) → IsStrictlyIncreasing gone → AllByRecursion (λ n. is_among n xs ≡ true) gone → filter (λ n. is_among n gone) xs ≡ gone) → filter (λ n. is_among n (y ∷ ys)) (x ∷ xs) ≡ y ∷ ys
    by true e t rest =
        let same : x ≡ y = eqb-true x y e in
        let first : ((y == x) || is_among x ys) ≡ true = ap (λ b. b || is_among x ys) (eq-eqb y x (sym same)) in
        let alike = filter_alike (λ n. is_among n (y ∷ ys)) (λ n. is_among n ys) xs
        (each_on (λ (n : ℕ). x < n) (λ n. is_among n (y ∷ ys) ≡ is_among n ys) (λ n lt. ap (λ b. b || is_among n ys) (ne_eqb y n (λ f. omega (arith, f, same, lt)))) xs (above_first x xs rise)) in
        let above : AllByRecursion (λ n. x < n) ys = subst (λ z. AllByRecursion (λ n. z < n) ys) (sym same) (above_first y ys up) in
        let within : AllByRecursion (λ n. is_among n xs ≡ true) ys = both_each (λ n. x < n) (λ n. is_among n (x ∷ xs) ≡ true) (λ n. is_among n xs ≡ true) (λ n lt is. not_first x n xs lt is) ys above h.1 in
        ap (λ b. cond b (x ∷ filter (λ n. is_among n (y ∷ ys)) xs) (filter (λ n. is_among n (y ∷ ys)) xs)) first
        ∙ ap (λ z. x ∷ z) (alike ∙ rest ys (tail_rises y ys up) within) ∙ ap (λ z. z ∷ ys) same
    by false e t rest =
        let lt : x < y = of_among (λ n. x < n) y xs (above_first x xs rise) t in
        let above : AllByRecursion (λ n. x < n) ys = each_on (λ (n : ℕ). y < n) (λ n. x < n) (λ n l. omega (arith, l, lt)) ys (above_first y ys up) in
        let first : ((y == x) || is_among x ys) ≡ false = ap (λ b. b || is_among x ys) (ne_eqb y x (λ f. omega (arith, f, lt))) ∙ not_among_above x ys above in
        let within : AllByRecursion (λ n. is_among n xs ≡ true) ys = both_each (λ n. x < n) (λ n. is_among n (x ∷ xs) ≡ true) (λ n. is_among n xs ≡ true) (λ n lt is. not_first x n xs lt is) ys above h.1 in
        ap (λ b. cond b (x ∷ filter (λ n. is_among n (y ∷ ys)) xs) (filter (λ n. is_among n (y ∷ ys)) xs)) first ∙ rest (y ∷ ys) up (t, within)

-- ---- one number removed

-- numbers above n, without n
above_left : (n : ℕ) (xs : List ℕ) → AllByRecursion (λ x. n < x) xs → without (n ∷ []) xs ≡ xs
above_left n [] h = refl
above_left n (x ∷ xs) h =
    ap (λ b. cond (not (b || false)) (x ∷ without (n ∷ []) xs) (without (n ∷ []) xs)) (ne_eqb n x (λ e. let lt = h.0 in omega (arith, e, lt))) ∙ ap (λ z. x ∷ z) (above_left n xs h.1)

-- numbers without one that is not among them
none_left : (n : ℕ) (xs : List ℕ) → is_among n xs ≡ false → without (n ∷ []) xs ≡ xs
none_left n [] h = refl
none_left n (x ∷ xs) h = by (x == n) refl h (none_left n xs)
  where
    by : (b : Bool) → (x == n) ≡ b → (b || is_among n xs) ≡ false → (is_among n xs ≡ false → without (n ∷ []) xs ≡ xs) → without (n ∷ []) (x ∷ xs) ≡ x ∷ xs
    by true e h rest = absurd (true≢false h)
    by false e h rest =
        ap (λ b. cond (not (b || false)) (x ∷ without (n ∷ []) xs) (without (n ∷ []) xs)) (ne_eqb n x (λ f. true≢false (sym (eq-eqb x n (sym f)) ∙ e))) ∙ ap (λ z. x ∷ z) (rest h)

-- increasing numbers, without the one at an index
place_left : (xs : List ℕ) (n i : ℕ) → IsStrictlyIncreasing xs → i < length xs → get_or xs i 0 ≡ n → without (n ∷ []) xs ≡ remove xs i
place_left [] n i rise lt at = absurd (omega (arith, lt))
place_left (x ∷ xs) n zero rise lt at =
    ap (λ b. cond (not (b || false)) (x ∷ without (n ∷ []) xs) (without (n ∷ []) xs)) (eq-eqb n x (sym at)) ∙ above_left n xs (subst (λ z. AllByRecursion (λ y. z < y) xs) at (above_first x xs rise))
place_left (x ∷ xs) n (suc i) rise lt at =
    let less : x < n = of_among (λ y. x < y) n xs (above_first x xs rise) (at_among xs n i (omega (arith, lt)) at) in
    ap (λ b. cond (not (b || false)) (x ∷ without (n ∷ []) xs) (without (n ∷ []) xs)) (ne_eqb n x (λ e. omega (arith, e, less))) ∙ ap (λ z. x ∷ z) (place_left xs n i (tail_rises x xs rise) (omega (arith, lt)) at)

-- after a search that finds the number
pub found_left : (xs : List ℕ) (n i : ℕ) → IsBinarySearchResult (λ y. nat_cmp y n) xs (Ok i) → IsStrictlyIncreasing xs → remove xs i ≡ without (n ∷ []) xs
found_left xs n i h rise = let at = searched xs n (Ok i) h (rises_up xs rise) in sym (place_left xs n i rise at.0 at.1)

-- after a search that does not
pub missed_left : (xs : List ℕ) (n i : ℕ) → IsBinarySearchResult (λ y. nat_cmp y n) xs (Err i) → IsStrictlyIncreasing xs → xs ≡ without (n ∷ []) xs
missed_left xs n i h rise = sym (none_left n xs (sym (found_among xs n (Err i) h (not_falling xs rise))))
