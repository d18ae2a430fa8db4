-- What holds of each literal and of each checkpoint holds of each check.
use Rattle.std.{specs.List.{AllByRecursion}, proofs.Common.{◌≡◌, refl, Bool, true, false, List, [], ◌∷◌}}
use Rattle.mob_typed.specs.declared.typed.ConstText.{ConstText}
use Rattle.mob_list.proofs.Each.{each_map}
use Rattle.mob_load.specs.Checks.{CheckParts, literal, Checkpoint, stands_before, checks_up_to, in_order}

module _ (P : CheckParts → Type 0) where
  abbrev EachLiteral : List ConstText → Type 0
  EachLiteral cs = AllByRecursion (λ c. P (literal c)) cs

  module _ (next : List ConstText → List CheckParts) (each : (cs : List ConstText) → EachLiteral cs → AllByRecursion P (next cs)) (m : Checkpoint) (own : P m.check) where
    choice : (b : Bool) (c : ConstText) (cs : List ConstText) → EachLiteral (c ∷ cs) → AllByRecursion P (checks_up_to next m cs) → stands_before c m.statement m.place ≡ b → AllByRecursion P (checks_up_to next m (c ∷ cs))
    choice true c cs literals rest is = rw is (literals.0, rest)
    choice false c cs literals rest is = rw is (own, each (c ∷ cs) literals)

    up_to_each : (cs : List ConstText) → EachLiteral cs → AllByRecursion P (checks_up_to next m cs)
    up_to_each [] literals = (own, each [] literals)
    up_to_each (c ∷ cs) literals = choice (stands_before c m.statement m.place) c cs literals (up_to_each cs literals.1) refl

  pub order_each : (ms : List Checkpoint) → AllByRecursion (λ m. P m.check) ms → (cs : List ConstText) → EachLiteral cs → AllByRecursion P (in_order ms cs)
  order_each [] all cs literals = each_map (λ c. P (literal c)) P literal (λ c h. h) cs literals
  order_each (m ∷ ms) all cs literals = up_to_each (in_order ms) (λ ds h. order_each ms all.1 ds h) m all.0 cs literals
