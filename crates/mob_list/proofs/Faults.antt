-- What follows from the cause of a fault.
use Rattle.mob_list.{specs.Faults.{OnCause}, specs.declared.fault.Fault.{Fault}, specs.declared.fault.Fault.TheVariants.{Because, NoMemory}}

pub cause_weaker : {C : Type 0} (P Q : C → Type 0) → ((c : C) → P c → Q c) → (f : Fault C) → OnCause P f → OnCause Q f
cause_weaker P Q step (Because c) h = step c h
cause_weaker P Q step NoMemory h = h
