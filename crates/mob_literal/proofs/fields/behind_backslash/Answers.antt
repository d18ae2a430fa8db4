use Rattle.std.{specs.Prelude.{◌≢◌, nat_eq}, proofs.Common.{◌≡◌, ℕ, List, [], ◌∷◌, Bool, true, false, Option, Some, None, MatchOption, Bor, refl, ap, rules}, proofs.lemmas.Bool.{eqb-true}}
use Rattle.std.proofs.lemmas.Str.Pattern.{strip_prefix_char}
use Rattle.mob_literal.specs.Fields.{begins_with_backslash}
use Rattle.mob_literal.proofs.fields.behind_backslash.Goals as goal

begun : (bs : List ℕ) (r : Option (Bor (List ℕ))) → MatchOption r ((rest : List ℕ) → bs ≢ 92 ∷ rest) (λ x. bs ≡ 92 ∷ x.now) → MatchOption r (begins_with_backslash bs ≡ false) (λ x. bs ≡ 92 ∷ x.now)
begun [] None h = refl
begun (c ∷ cs) None h = by_byte (nat_eq c 92) refl
  where
    by_byte : (b : Bool) → nat_eq c 92 ≡ b → nat_eq c 92 ≡ false
    by_byte true e = absurd (h cs (ap (λ (x : ℕ). x ∷ cs) (eqb-true c 92 e)))
    by_byte false e = e
begun bs (Some x) h = h

pub returns : goal.returns
returns c = record { value = begun c.args.text.now c.strip_prefix.result (strip_prefix_char 92 c.args.text.now c.strip_prefix.result c.strip_prefix.ensures.cases (search rules)) }
