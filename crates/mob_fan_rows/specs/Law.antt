-- The result for a list of numbers is that of its two parts together.
use Rattle.std.{specs.Prelude.{◌≡◌, refl, ℕ, List, [], ◌∷◌, ◌++◌, Bool, true, false, Result, Ok, Err, length, nat_le, slice_range, if◌then◌else◌}, proofs.Common.{sym, ap, ap₂, ◌∙◌}}
use Rattle.mob_fan.{specs.Outcomes.{IsWork, joined_outcomes}, proofs.Joining.{nothing_before, joined_three}, proofs.Lists.{list_work}}
use Rattle.mob_fan_rows.specs.Numbers.{passed}

-- a result for the first number, added to both
first_in_both : (n : ℕ) (b : Bool) (r s t : Result (List ℕ) ℕ) → t ≡ joined_outcomes r s
    → (if b then joined_outcomes (Ok (n ∷ [])) t else Err n) ≡ joined_outcomes (if b then joined_outcomes (Ok (n ∷ [])) r else Err n) s
first_in_both n true r s t is = ap (joined_outcomes (Ok (n ∷ []))) is ∙ sym (joined_three (Ok (n ∷ [])) r s)
first_in_both n false r s t is = refl

passed_joined : (limit : ℕ) (xs ys : List ℕ) → passed limit (xs ++ ys) ≡ joined_outcomes (passed limit xs) (passed limit ys)
passed_joined limit [] ys = sym (nothing_before (passed limit ys))
passed_joined limit (n ∷ ns) ys = first_in_both n (nat_le n limit) (passed limit ns) (passed limit ys) (passed limit (ns ++ ys)) (passed_joined limit ns ys)

both_pass : (limit : ℕ) (xs ys : List ℕ) (r s : Result (List ℕ) ℕ) → r ≡ passed limit xs → s ≡ passed limit ys → joined_outcomes r s ≡ passed limit (xs ++ ys)
both_pass limit xs ys r s left right = ap₂ joined_outcomes left right ∙ sym (passed_joined limit xs ys)

pub numbers_pass : {W : Type 0} (all : W → List ℕ) (limit : W → ℕ) → IsWork (λ w. length (all w)) (λ w a b r. r ≡ passed (limit w) (slice_range (all w) a b))
numbers_pass all limit = list_work all (λ w xs r. r ≡ passed (limit w) xs) (λ w xs ys r s left right. both_pass (limit w) xs ys r s left right)
