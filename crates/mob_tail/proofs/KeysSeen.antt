-- The groups of keys that are references, as groups of what they refer to.
use Rattle.std.{specs.Prelude.{◌≡◌, Bool, true, false, cond, not, ℕ, ◌+◌, refl, List, [], ◌∷◌, map, filter, length, nat_eq}, specs.List.{position_or_len}, specs.Borrow.{Bor}}
use Rattle.std.{specs.declared.vec.Vec.{Vec}, specs.Cmp.Lexicographic.{pointwise}, specs.Cmp.Derive.Mapped.{pointwise-map}, proofs.Common.{ap, ap₂, sym, ◌∙◌, arith}}
use Rattle.mob_groups.specs.Groups.{first_keys, group_number}
use Rattle.mob_tail.specs.Groups.{same_texts}
use Rattle.mob_arrange.{specs.TextsSeen.{texts_of}, proofs.Seen.{same_row}}

module _ {V K : Type 0} (one : V → V → Bool) (same : K → K → Bool) (see : V → K) (alike : (v w : V) → one v w ≡ same (see v) (see w)) where
  others_seen : (v : V) (vs : List V) → map see (filter (λ w. not (one v w)) vs) ≡ filter (λ k. not (same (see v) k)) (map see vs)
  others_seen v [] = refl
  others_seen v (w ∷ vs) = by (one v w) (same (see v) (see w)) (alike v w) (others_seen v vs)
    where
      by : (a b : Bool) → a ≡ b → map see (filter (λ w. not (one v w)) vs) ≡ filter (λ k. not (same (see v) k)) (map see vs) → map see (cond (not a) (w ∷ filter (λ w. not (one v w)) vs) (filter (λ w. not (one v w)) vs)) ≡ cond (not b) (see w ∷ filter (λ k. not (same (see v) k)) (map see vs)) (filter (λ k. not (same (see v) k)) (map see vs))
      by true true e f = f
      by false false e f = ap (λ z. see w ∷ z) f
      by true false e f = absurd cc
      by false true e f = absurd cc

  firsts_of : (vs : List V) → map see (first_keys one vs) ≡ first_keys same (map see vs)
  firsts_of [] = refl
  firsts_of (v ∷ vs) = ap (λ z. see v ∷ z) (others_seen v (first_keys one vs) ∙ ap (filter (λ k. not (same (see v) k))) (firsts_of vs))

  place_of : (v : V) (vs : List V) → position_or_len (one v) vs ≡ position_or_len (same (see v)) (map see vs)
  place_of v [] = refl
  place_of v (w ∷ vs) = ap₂ (λ (b : Bool) (n : ℕ). cond (not b) (1 + n) 0) (alike v w) (place_of v vs)

  numbers_of : (all vs : List V) → map (group_number one all) vs ≡ map (group_number same (map see all)) (map see vs)
  numbers_of all [] = refl
  numbers_of all (v ∷ vs) = ap₂ (λ a b. a ∷ b) (place_of v (first_keys one all) ∙ ap (position_or_len (same (see v))) (firsts_of all)) (numbers_of all vs)

  length_of : (vs : List V) → length (map see vs) ≡ length vs
  length_of [] = refl
  length_of (v ∷ vs) = let e = length_of vs in omega (arith, e)

rows_alike : {A : Type 0} (v w : Vec (Bor (List ℕ)) A) → same_row v w ≡ same_texts (texts_of v) (texts_of w)
rows_alike v w = sym (pointwise-map (λ b. b.now) (pointwise nat_eq) v.items w.items)

pub numbers_seen : {A : Type 0} (vs : List (Vec (Bor (List ℕ)) A)) → map (group_number same_row vs) vs ≡ map (group_number same_texts (map texts_of vs)) (map texts_of vs)
numbers_seen vs = numbers_of same_row same_texts texts_of rows_alike vs vs

pub firsts_seen : {A : Type 0} (vs : List (Vec (Bor (List ℕ)) A)) → length (first_keys same_row vs) ≡ length (first_keys same_texts (map texts_of vs))
firsts_seen vs = sym (length_of same_row same_texts texts_of rows_alike (first_keys same_row vs)) ∙ ap length (firsts_of same_row same_texts texts_of rows_alike vs)
