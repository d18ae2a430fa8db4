-- Why a call gave no answer.
use Rattle.mob_list.{specs.declared.fault.Fault.{Fault}, specs.declared.fault.Fault.TheVariants.{Because, NoMemory}}

-- what holds of the cause of a fault; out of memory has none
abbrev pub OnCause : {C : Type 0} → (C → Type 0) → Fault C → Type 0
OnCause P (Because cause) = P cause
OnCause P NoMemory = Unit {0}

-- the fault with a place beside its cause
abbrev pub fault_at : {P C : Type 0} → P → Fault C → Fault (P × C)
fault_at place (Because cause) = Because (place, cause)
fault_at place NoMemory = NoMemory
