use Rattle.std.{specs.Prelude.{IfSome}, proofs.Common.{refl, ◌∙◌, sym, subst, ℕ, ◌<◌, ◌≤◌, length, Option}}
use Rattle.mob_chars.{specs.Signs.{sign_length, signs}, proofs.Longest.{first_is_longest, first_fits}}
use Rattle.mob_chars.proofs.scan.sign_length.Goals as goal

pub returns-clause-value : goal.returns-clause-value
unfolding sign_length
returns-clause-value c = c.first_sign.ensures.first ∙ first_is_longest signs c.args.text.now refl

pub returns-clause-within : goal.returns-clause-within
returns-clause-within c = let P : Option ℕ → Type 0 = λ o. IfSome o (λ n. (0 < n) × (n ≤ length c.args.text.now)) in subst P (sym c.first_sign.ensures.first) (first_fits signs c.args.text.now refl)
