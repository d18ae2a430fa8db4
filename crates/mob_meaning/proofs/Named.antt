-- Entries whose parts are the numbers that are given, in both modes, and the formula of their
-- fault.
use Rattle.std.{specs.Prelude.{map}, proofs.Common.{inl, inr, refl, List, [], ◌∷◌, Some, None}}
use Rattle.mob_list.{specs.Faults.{OnCause}, specs.declared.fault.Fault.{Fault}, specs.declared.fault.Fault.TheVariants.{Because, NoMemory}}
use Rattle.mob_slice.{specs.Entries.{Entry, IsFirst}, specs.Modes.{by_mode}, specs.declared.formula.Formula.{Formula}, specs.declared.formula.Formula.TheVariants.{Given}, specs.declared.mode.Mode.{Mode}, specs.declared.mode.Mode.TheVariants.{Narrow, Wide}}
use Rattle.mob_value.{specs.declared.value.Value.{Value}, specs.declared.value.Value.TheVariants.{MovingPoint, Box}}
use Rattle.mob_clip.specs.Sql.Entries.{OnExpansion, entries_outward}
use Rattle.mob_meaning.specs.Modes.{Expansions, given_for, named_in}

abbrev as_given : List Entry → List Entry
as_given entries = map (λ e. record { formula = Given; parts = e.parts }) entries

pub none_given : (entries : List Entry) → IsFirst entries None → IsFirst (as_given entries) None
none_given [] h = h
none_given (e ∷ entries) (inl h) = inl (h.0, none_given entries h.1)
none_given (e ∷ entries) (inr h) = cc h.1

some_given : (entries : List Entry) (f : Formula) → IsFirst entries (Some f) → IsFirst (as_given entries) (Some Given)
some_given [] f h = cc h
some_given (e ∷ entries) f (inl h) = inl (h.0, some_given entries f h.1)
some_given (e ∷ entries) f (inr h) = inr (h.0, refl)

-- all fit in each mode, or the fault names the first formula in the mode
pub none_named : (mode : Mode) (entries : List Entry) → IsFirst entries None → IsFirst (by_mode mode entries (as_given entries)) None
none_named Narrow entries h = h
none_named Wide entries h = none_given entries h

pub first_named : (mode : Mode) (entries : List Entry) (fault : Fault Formula) → OnCause (λ f. IsFirst entries (Some f)) fault → OnCause (λ f. IsFirst (by_mode mode entries (as_given entries)) (Some f)) (named_in mode fault)
first_named Narrow entries fault h = h
first_named Wide entries (Because f) h = some_given entries f h
first_named Wide entries NoMemory h = tt

-- the same for expandSpace, whose entries are those of a box
pub none_outward : (mode : Mode) (a d : Value) → OnExpansion a d (λ entries. IsFirst entries None) → OnExpansion a d (λ entries. IsFirst (given_for Expansions mode entries) None)
none_outward mode (Box b) d h = none_named mode (entries_outward b d) h
none_outward mode (MovingPoint a) d h = (h.0, h.1, none_named mode (entries_outward h.0 d) h.2)
none_outward mode _ d h = none_named mode [] h

first_outward : (mode : Mode) (a d : Value) (f : Formula) → OnExpansion a d (λ entries. IsFirst entries (Some f)) → OnCause (λ g. OnExpansion a d (λ entries. IsFirst (given_for Expansions mode entries) (Some g))) (named_in mode (Because f))
first_outward Narrow a d f h = h
first_outward Wide (Box b) d f h = some_given (entries_outward b d) f h
first_outward Wide (MovingPoint a) d f h = (h.0, h.1, some_given (entries_outward h.0 d) f h.2)
first_outward Wide _ d f h = some_given [] f h

pub fault_outward : (mode : Mode) (a d : Value) (fault : Fault Formula) → OnCause (λ f. OnExpansion a d (λ entries. IsFirst entries (Some f))) fault → OnCause (λ g. OnExpansion a d (λ entries. IsFirst (given_for Expansions mode entries) (Some g))) (named_in mode fault)
fault_outward mode a d (Because f) h = first_outward mode a d f h
fault_outward Narrow a d NoMemory h = tt
fault_outward Wide a d NoMemory h = tt
