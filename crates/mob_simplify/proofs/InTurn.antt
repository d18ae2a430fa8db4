-- The tests of one break, in turn.
use Rattle.std.{specs.Prelude.{◌≡◌, true, cond, ◌&&◌, List, [], ◌∷◌, Option, Some, None, refl}, specs.List.{AllByRecursion}, proofs.Common.{ap, sym, ◌∙◌, subst}}
use Rattle.mob_ratio.{specs.Ratio.{Ratio, ◌*ℚ◌}, specs.Order.{before, up_to}}
use Rattle.mob_slice.{specs.Entries.{IsFirst}, specs.declared.formula.Formula.{Formula}, proofs.JoinedFirsts.{first_joined, first_front}}
use Rattle.mob_simplify.{specs.Breaks.{off_course, passes_within}, specs.Tests.{entries_of_test, tests_within}, specs.declared.breaks.Break.{Break}}

abbrev pub IsWithin : Ratio → Ratio → Break → Type 0
IsWithin l u b = (before l b.instant ≡ true) × (before b.instant u ≡ true)

-- the breaks before the rest are near, and their tests fit
pub record IsPassing (d : Ratio) (p : Break) (all rest : List Break) (n : Break) : Type 0 where
  pub ahead : passes_within d p rest n ≡ passes_within d p all n
  pub firsts : (f : Option Formula) → IsFirst (tests_within d p rest n) f → IsFirst (tests_within d p all n) f
  pub hold : AllByRecursion (IsWithin p.instant n.instant) rest

module _ (d : Ratio) (p : Break) (all rest : List Break) (n : Break) where
  pub passing_next : (later : List Break) (b : Break) → rest ≡ b ∷ later → true ≡ up_to (off_course p n b) (d *ℚ d) → IsFirst (entries_of_test d p n b) None → IsPassing d p all rest n → IsPassing d p all later n
  passing_next later b e near fit m = record {
    ahead = sym (ap (λ r. passes_within d p r n) e ∙ ap (λ z. z && passes_within d p later n) (sym near)) ∙ m.ahead;
    firsts = λ f h. m.firsts f (subst (λ r. IsFirst (tests_within d p r n) f) (sym e) (first_joined (entries_of_test d p n b) (cond (up_to (off_course p n b) (d *ℚ d)) (tests_within d p later n) []) f fit (subst (λ z. IsFirst (cond z (tests_within d p later n) []) f) near h)));
    hold = (subst (AllByRecursion (IsWithin p.instant n.instant)) e m.hold).1;
  }

  pub passing_fails : (later : List Break) (b : Break) (f : Formula) → rest ≡ b ∷ later → IsFirst (entries_of_test d p n b) (Some f) → IsPassing d p all rest n → IsFirst (tests_within d p all n) (Some f)
  passing_fails later b f e bad m = m.firsts (Some f) (subst (λ r. IsFirst (tests_within d p r n) (Some f)) (sym e) (first_front (entries_of_test d p n b) (cond (up_to (off_course p n b) (d *ℚ d)) (tests_within d p later n) []) f bad))

  pub passing_end : rest ≡ [] → IsPassing d p all rest n → (true ≡ passes_within d p all n) × IsFirst (tests_within d p all n) None
  passing_end e m = (
    sym (ap (λ r. passes_within d p r n) e) ∙ m.ahead,
    m.firsts None (subst (λ r. IsFirst (tests_within d p r n) None) (sym e) refl),
  )
