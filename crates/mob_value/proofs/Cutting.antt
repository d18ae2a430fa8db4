-- Cutting a list into the rows that it holds.
use Rattle.std.proofs.Common.{◌≡◌, ◌∙◌, refl, ap, sym, arith, ℕ, zero, suc, ◌+◌, ◌-◌, ◌<◌, ◌≤◌, List, [], ◌∷◌, ◌++◌, length, length-drop, drop, drop-drop, get_or, take, take_all, Some, None}
use Rattle.std.{proofs.Common.{slice_get, slice_range}, proofs.lemmas.List.{drop-append-le, take-append-le}}
use Rattle.mob_value.specs.Cuts.{AreCuts, cut, start_at}

pub cuts_rise : (start : ℕ) (ends : List ℕ) (end : ℕ) → AreCuts start ends end → start ≤ end
cuts_rise start [] end h = omega (arith, h)
cuts_rise start (place ∷ places) end h = let more = cuts_rise place places end h.1 in omega (arith, more, h.0)

-- appending one row
pub cuts_more : (start : ℕ) (ends : List ℕ) (end more : ℕ) → AreCuts start ends end → end ≤ more → AreCuts start (ends ++ more ∷ []) more
cuts_more start [] end more h le = (omega (arith, h, le), refl)
cuts_more start (place ∷ places) end more h le = (h.0, cuts_more place places end more h.1 le)

pub cut_count : {A : Type 0} (start : ℕ) (ends : List ℕ) (items : List A) → length (cut start ends items) ≡ length ends
cut_count start [] items = refl
cut_count start (end ∷ ends) items = ap suc (cut_count end ends (drop (end - start) items))

pub cut_more : {A : Type 0} (start : ℕ) (ends : List ℕ) (end more : ℕ) (items row : List A) → AreCuts start ends end → start + length items ≡ end → end + length row ≡ more → cut start (ends ++ more ∷ []) (items ++ row) ≡ cut start ends items ++ row ∷ []
cut_more start [] end more [] row h whole grown = ap (λ r. r ∷ []) (take_all (more - start) row (omega (arith, h, whole, grown)))
cut_more start [] end more (x ∷ items) row h whole grown = absurd (omega (arith, h, whole))
cut_more start (place ∷ places) end more items row h whole grown =
    let n = place - start in
    let rise = cuts_rise place places end h.1 in
    let fits : n ≤ length items = omega (arith, h.0, rise, whole) in
    let rest : place + length (drop n items) ≡ end = let left = length-drop n items in omega (arith, left, h.0, rise, whole) in
    ap (λ r. r ∷ cut place (places ++ more ∷ []) (drop n (items ++ row))) (take-append-le n items row fits)
    ∙ ap (λ xs. take n items ∷ cut place (places ++ more ∷ []) xs) (drop-append-le n items row fits)
    ∙ ap (λ rs. take n items ∷ rs) (cut_more place places end more (drop n items) row h.1 rest grown)

-- the places at which a row begins and ends
pub start_after : (start : ℕ) (ends : List ℕ) (end number : ℕ) → AreCuts start ends end → start ≤ start_at start ends number
start_after start ends end zero h = omega arith
start_after start [] end (suc number) h = omega arith
start_after start (place ∷ places) end (suc number) h = let more = start_after place places end number h.1 in omega (arith, more, h.0)

pub starts_before_end : (start : ℕ) (ends : List ℕ) (end number d : ℕ) → AreCuts start ends end → number < length ends → (start_at start ends number ≤ get_or ends number d) × (get_or ends number d ≤ end)
starts_before_end start [] end number d h lt = absurd (omega (arith, lt))
starts_before_end start (place ∷ places) end zero d h lt = (h.0, cuts_rise place places end h.1)
starts_before_end start (place ∷ places) end (suc number) d h lt = starts_before_end place places end number d h.1 (omega (arith, lt))

next_start : (start : ℕ) (ends : List ℕ) (number d : ℕ) → number < length ends → get_or ends number d ≡ start_at start ends (suc number)
next_start start [] number d lt = absurd (omega (arith, lt))
next_start start (end ∷ ends) zero d lt = refl
next_start start (end ∷ ends) (suc number) d lt = next_start end ends number d (omega (arith, lt))

pub start_is : (start : ℕ) (ends : List ℕ) (number d : ℕ) → 0 < number → number < length ends → get_or ends (number - 1) d ≡ start_at start ends number
start_is start ends zero d later lt = absurd (omega (arith, later))
start_is start ends (suc number) d later lt = let before : suc number - 1 ≡ number = omega arith in ap (λ n. get_or ends n d) before ∙ next_start start ends number d (omega (arith, lt))

-- the row with a number
row_there : {A : Type 0} (start : ℕ) (ends : List ℕ) (end : ℕ) (items : List A) (number d : ℕ) → AreCuts start ends end → number < length ends → slice_get (cut start ends items) number ≡ Some (slice_range items (start_at start ends number - start) (get_or ends number d - start))
row_there start [] end items number d h lt = absurd (omega (arith, lt))
row_there start (place ∷ places) end items zero d h lt =
    let none : 0 ≡ start - start = omega arith in
    let same : place - start ≡ (place - start) - (start - start) = omega arith in
    ap Some (ap (λ n. take n items) same ∙ ap (λ n. take ((place - start) - (start - start)) (drop n items)) none)
row_there start (place ∷ places) end items (suc number) d h lt =
    let at = start_at place places number in
    let stop = get_or places number d in
    let after : place ≤ at = start_after place places end number h.1 in
    let long : (stop - place) - (at - place) ≡ (stop - start) - (at - start) = omega (arith, after, h.0) in
    let far : (place - start) + (at - place) ≡ at - start = omega (arith, after, h.0) in
    row_there place places end (drop (place - start) items) number d h.1 (omega (arith, lt))
    ∙ ap Some (ap (λ n. take n (drop (at - place) (drop (place - start) items))) long
    ∙ ap (take ((stop - start) - (at - start))) (drop-drop (at - place) (place - start) items ∙ ap (λ n. drop n items) far))

pub row_is : {A : Type 0} (ends : List ℕ) (items : List A) (number start end : ℕ) → AreCuts 0 ends (length items) → number < length ends → start ≡ start_at 0 ends number → end ≡ get_or ends number 0 → Some (slice_range items start end) ≡ slice_get (cut 0 ends items) number
row_is ends items number start end h lt begins stops =
    let from : start ≡ start_at 0 ends number - 0 = omega (arith, begins) in
    let to : end ≡ get_or ends number 0 - 0 = omega (arith, stops) in
    ap (λ n. Some (slice_range items n end)) from ∙ ap (λ n. Some (slice_range items (start_at 0 ends number - 0) n)) to
    ∙ sym (row_there 0 ends (length items) items number 0 h lt)

pub no_row : {A : Type 0} (xs : List A) (number : ℕ) → length xs ≤ number → None ≡ slice_get xs number
no_row [] number le = refl
no_row (x ∷ xs) zero le = absurd (omega (arith, le))
no_row (x ∷ xs) (suc number) le = no_row xs number (omega (arith, le))

-- taking items out of a list, from the front
take_none : {A : Type 0} (n : ℕ) → take {A = A} n [] ≡ []
take_none zero = refl
take_none (suc n) = refl

drop_none : {A : Type 0} (n : ℕ) → drop {A = A} n [] ≡ []
drop_none zero = refl
drop_none (suc n) = refl

pub one_first : {A : Type 0} (n : ℕ) (xs : List A) (x : A) (rest : List A) → drop n xs ≡ x ∷ rest → (take (suc n) xs ≡ take n xs ++ x ∷ []) × (drop (suc n) xs ≡ rest)
one_first zero [] x rest h = absurd cc
one_first zero (y ∷ ys) x rest h = let same : y ≡ x = cc in (ap (λ z. z ∷ []) same, cc)
one_first (suc n) [] x rest h = absurd cc
one_first (suc n) (y ∷ ys) x rest h = let more = one_first n ys x rest h in (ap (λ zs. y ∷ zs) more.0, more.1)

pub all_first : {A : Type 0} (n more : ℕ) (xs : List A) → drop n xs ≡ [] → n ≤ more → (take more xs ≡ take n xs) × (drop more xs ≡ [])
all_first n more [] h le = (take_none more ∙ sym (take_none n), drop_none more)
all_first zero more (y ∷ ys) h le = absurd cc
all_first (suc n) zero (y ∷ ys) h le = absurd (omega (arith, le))
all_first (suc n) (suc more) (y ∷ ys) h le = let rest = all_first n more ys h (omega (arith, le)) in (ap (λ zs. y ∷ zs) rest.0, rest.1)
