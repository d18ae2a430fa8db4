-- Work on the entries of a list.
use Rattle.std.{proofs.Common.{◌≡◌, ℕ, ◌+◌, ◌-◌, ◌≤◌, List, ◌++◌, Result, ap, sym, subst, ◌∙◌, length, take, drop, slice_range, arith}, proofs.Math.Seq.{take-add}, proofs.lemmas.List.{drop-drop}}
use Rattle.mob_fan.specs.Outcomes.{IsWork, joined_outcomes}

-- a part of a list is its part up to an entry, and its part from there on
pub part_of_two : {X : Type 0} (xs : List X) (a b c : ℕ) → a ≤ b → b ≤ c → slice_range xs a c ≡ slice_range xs a b ++ slice_range xs b c
part_of_two xs a b c h k =
    let n : c - a ≡ (b - a) + (c - b) = omega arith in
    let m : a + (b - a) ≡ b = omega arith in
    ap (λ z. take z (drop a xs)) n ∙ take-add (b - a) (c - b) (drop a xs)
    ∙ ap (λ z. take (b - a) (drop a xs) ++ take (c - b) z) (drop-drop (b - a) a xs ∙ ap (λ z. drop z xs) m)

-- if the outcome of a concatenation is the joined outcome of its two lists, the parts of a list are
-- work
pub list_work : {W X I F : Type 0} (entries : W → List X) (gives : W → List X → Result (List I) F → Type 0)
    → ((w : W) (xs ys : List X) (r s : Result (List I) F) → gives w xs r → gives w ys s → gives w (xs ++ ys) (joined_outcomes r s))
    → IsWork (λ w. length (entries w)) (λ w a b r. gives w (slice_range (entries w) a b) r)
list_work entries gives both = record {
  join = λ w a b c r s h k l x y. subst (λ zs. gives w zs (joined_outcomes r s)) (sym (part_of_two (entries w) a b c h k))
      (both w (slice_range (entries w) a b) (slice_range (entries w) b c) r s x y);
}
