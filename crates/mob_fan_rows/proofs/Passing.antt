-- Numbers that pass, one by one.
use Rattle.std.{specs.Prelude.{nat_le, if◌then◌else◌}, proofs.Common.{◌≡◌, ◌∙◌, ◌<◌, ◌≤◌, ℕ, List, [], ◌∷◌, ◌++◌, Result, Ok, Err, true, false, ap, sym, append-nil, arith}}
use Rattle.std.proofs.lemmas.Bool.Decides.{nat_tests}
use Rattle.mob_fan.{specs.Outcomes.{joined_outcomes}, proofs.Joining.{joined_three}}
use Rattle.mob_fan_rows.specs.Numbers.{passed}

-- the next one passes
pub passes_on : (limit n : ℕ) (before after : List ℕ) (whole : Result (List ℕ) ℕ) → n ≤ limit
    → joined_outcomes (Ok before) (passed limit (n ∷ after)) ≡ whole → joined_outcomes (Ok (before ++ n ∷ [])) (passed limit after) ≡ whole
passes_on limit n before after whole small is =
    let test : nat_le n limit ≡ true = grind (arith, small, nat_tests) in
    let here = ap (λ b. joined_outcomes (Ok before) (if b then joined_outcomes (Ok (n ∷ [])) (passed limit after) else Err n)) test in
    joined_three (Ok before) (Ok (n ∷ [])) (passed limit after) ∙ sym here ∙ is

-- the next one does not
pub stops_here : (limit n : ℕ) (before after : List ℕ) (whole : Result (List ℕ) ℕ) → limit < n
    → joined_outcomes (Ok before) (passed limit (n ∷ after)) ≡ whole → Err n ≡ whole
stops_here limit n before after whole large is =
    let test : nat_le n limit ≡ false = grind (arith, large, nat_tests) in
    sym (ap (λ b. joined_outcomes (Ok before) (if b then joined_outcomes (Ok (n ∷ [])) (passed limit after) else Err n)) test) ∙ is

-- there is none
pub all_passed : (limit : ℕ) (before : List ℕ) (whole : Result (List ℕ) ℕ) → joined_outcomes (Ok before) (passed limit []) ≡ whole → Ok before ≡ whole
all_passed limit before whole is = ap (λ (all : List ℕ). Ok all) (sym (append-nil before)) ∙ is
