-- The checkpoints of a script among its checks.
use Rattle.std.proofs.Common.{◌≡◌, ◌∙◌, refl, ap, Bool, true, false, List, [], ◌∷◌, ◌++◌, map}
use Rattle.mob_typed.specs.declared.typed.ConstText.{ConstText}
use Rattle.mob_load.{specs.Checks.{CheckParts, literal, table, room, file, Checkpoint, checkpoints_from, stands_before, checks_up_to, in_order}, specs.Loads.{literal_of}}
use Rattle.mob_load.{specs.Order.{checkpoint_in, checkpoints_in, LooksAtCheckpoints}, proofs.Values.{NoLiterals, no_all}}

-- a check that is not a literal is a checkpoint
pub own_checkpoint : (check : CheckParts) → literal_of check ≡ [] → checkpoint_in check ≡ check ∷ []
own_checkpoint (literal c) none = cc
own_checkpoint (table columns) none = refl
own_checkpoint (room t n p) none = refl
own_checkpoint (file t name) none = refl

no_checkpoints : (cs : List ConstText) → checkpoints_in (map literal cs) ≡ []
no_checkpoints [] = refl
no_checkpoints (c ∷ cs) = no_checkpoints cs

module _ (next : List ConstText → List CheckParts) (checkpoints : List CheckParts) (each : (cs : List ConstText) → checkpoints_in (next cs) ≡ checkpoints) (m : Checkpoint) (own : checkpoint_in m.check ≡ m.check ∷ []) where
  behind : (cs : List ConstText) → checkpoint_in m.check ++ checkpoints_in (next cs) ≡ m.check ∷ checkpoints
  behind cs = ap (λ ms. ms ++ checkpoints_in (next cs)) own ∙ ap (λ ms. m.check ∷ ms) (each cs)

  choice : (b : Bool) (c : ConstText) (cs : List ConstText) → checkpoints_in (checks_up_to next m cs) ≡ m.check ∷ checkpoints → stands_before c m.statement m.place ≡ b → checkpoints_in (checks_up_to next m (c ∷ cs)) ≡ m.check ∷ checkpoints
  choice true c cs rest is = rw is rest
  choice false c cs rest is = rw is (behind (c ∷ cs))

  up_to_checkpoints : (cs : List ConstText) → checkpoints_in (checks_up_to next m cs) ≡ m.check ∷ checkpoints
  up_to_checkpoints [] = behind []
  up_to_checkpoints (c ∷ cs) = choice (stands_before c m.statement m.place) c cs (up_to_checkpoints cs) refl

order_checkpoints : (ms : List Checkpoint) → NoLiterals ms → (cs : List ConstText) → checkpoints_in (in_order ms cs) ≡ map (λ m. m.check) ms
order_checkpoints [] none cs = no_checkpoints cs
order_checkpoints (m ∷ ms) none cs = up_to_checkpoints (in_order ms) (map (λ m. m.check) ms) (order_checkpoints ms none.1) m (own_checkpoint m.check none.0) cs

pub looked_at_checkpoints : LooksAtCheckpoints
looked_at_checkpoints out = order_checkpoints (checkpoints_from 1 out.statements) (no_all 1 out.statements) out.consts
