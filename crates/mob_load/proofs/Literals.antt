-- A refused literal.
use Rattle.std.proofs.Common.{◌≡◌, ◌≢◌, ◌⊎◌, refl, inl, inr, ap, ℤ, Err}
use Rattle.mob_ast.{specs.Kinds.{no_memory}, specs.declared.refusal.Kind.{Kind}, specs.declared.refusal.Refusal.{Refusal}}
use Rattle.mob_numeral.specs.declared.fault.ReadText.{ReadText}
use Rattle.mob_catalog.{specs.Constants.{ConstantFails}, specs.Faults.{IsKindOfFault}}
use Rattle.mob_typed.specs.declared.typed.ConstText.{ConstText}
use Rattle.mob_load.{specs.Loads.{Loaded, LoadsLiteral, LoadsTo}, specs.declared.program.LoadEnd.{LoadEnd}, specs.declared.program.LoadEnd.TheVariants.{Refused, NoMemory}}
use Rattle.mob_ast.specs.declared.refusal.Kind.TheVariants as kind
use Rattle.mob_numeral.specs.declared.fault.ReadText.TheVariants as text

-- no text is refused for a failed allocation
never_memory : (f : ReadText) (k : Kind) → IsKindOfFault f k → k ≢ kind.NoMemory
never_memory text.NotText k is e = absurd cc
never_memory text.Limit k is e = absurd cc
never_memory text.TooLarge k is e = absurd cc
never_memory text.Unsound k is e = absurd cc
never_memory text.NoMemory k is e = absurd cc

pub literal_refused : (day : ℤ) (c : ConstText) (l m : Loaded) (e : Refusal) (end : LoadEnd) → (e ≡ no_memory) ⊎ ConstantFails day c e → (e.kind ≡ kind.NoMemory → end ≡ NoMemory) → (e.kind ≢ kind.NoMemory → end ≡ Refused e)
    → LoadsTo {A = Unit {0}} (Err end) m (LoadsLiteral day c l)
literal_refused day c l m e end (inl h) memory known = rw (memory (ap (λ (r : Refusal). r.kind) h)) tt
literal_refused day c l m e end (inr h) memory known =
    rw (known (never_memory h.fault e.kind h.for_fault)) (e, h, refl)
