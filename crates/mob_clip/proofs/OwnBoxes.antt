-- With the boxes that it is given, the code computes the operators on boxes.
use Rattle.std.{specs.Prelude.{MatchOption}, proofs.Common.{◌≡◌, true, [], Option, Some, None, Result, Ok, Err, ap, sym, subst, refl}, proofs.lemmas.Option.{same_Some}}
use Rattle.mob_stbox.specs.Boxes.{BoxOf, BoxesMeet}
use Rattle.mob_slice.{specs.Entries.{IsFirst}, specs.declared.formula.Formula.{Formula}}
use Rattle.mob_list.{specs.declared.fault.Fault.{Fault}, specs.declared.fault.Fault.TheVariants.{Because, NoMemory}}
use Rattle.mob_value.{specs.ValueBoxes.{HasBox, IsBoxOf, OnBox}, specs.declared.value.Value.{Value}, specs.declared.value.Value.TheVariants.{Null, Box, MovingPoint}, specs.Truths.{IsTruthOf}}
use Rattle.mob_value.{specs.Outcomes.{IsOutcome}, proofs.ValueBoxes.{on_box}}
use Rattle.mob_clip.{specs.Sql.Boxes.{IsOverlap, IsExpansion, moved_outward}, specs.Sql.Entries.{OnExpansion, entries_outward}}

-- `found` is the result of a call for the box of a
abbrev pub IsGivenBox : Value → Option BoxOf → Type 0
IsGivenBox a found = OnBox a (λ b. found ≡ Some b) (found ≡ None)

-- a call gave a box exactly if the value has one
some_none : {X : Type 0} {x : X} → ◌≡◌ {A = Option X} (Some x) None → ⊥
some_none e = subst (λ o. MatchOption o ⊥ (λ _. Unit {0})) e tt

pub given_has : (v : Value) (b : BoxOf) → IsGivenBox v (Some b) → HasBox v b
given_has (Box a) b h = same_Some b a h
given_has (MovingPoint a) b (own, is, e) = subst (IsBoxOf a) (sym (same_Some b own e)) is
given_has _ b h = absurd (some_none h)

pub has_given : (v : Value) (b : BoxOf) → HasBox v b → IsGivenBox v (Some b)
has_given (Box a) b h = ap Some h
has_given (MovingPoint a) b h = (b, h, refl)
has_given _ b h = absurd h

pub overlap_is : (a b : Value) (x y : Option BoxOf) (v : Value) → IsGivenBox a x → IsGivenBox b y → MatchOption x (v ≡ Null) (λ one. MatchOption y (v ≡ Null) (λ other. IsTruthOf true (BoxesMeet one other) v)) → IsOverlap a b v
overlap_is a b None y v h k m = on_box a None (λ one. OnBox b (λ other. IsTruthOf true (BoxesMeet one other) v) (v ≡ Null)) (v ≡ Null) h m
overlap_is a b (Some one) y v h k m =
    on_box a (Some one) (λ one. OnBox b (λ other. IsTruthOf true (BoxesMeet one other) v) (v ≡ Null)) (v ≡ Null) h
    (on_box b y (λ other. IsTruthOf true (BoxesMeet one other) v) (v ≡ Null) k m)

-- what holds for the given box holds for the value's
pub expansion_outcome : (a d : Value) (x : Option BoxOf) (r : Result Value (Fault Formula)) → IsGivenBox a x
    → IsOutcome (λ v. MatchOption x (v ≡ Null) (λ b. v ≡ moved_outward b d)) (λ first. MatchOption x (IsFirst [] first) (λ b. IsFirst (entries_outward b d) first)) r
    → IsOutcome (IsExpansion a d) (λ first. OnExpansion a d (λ entries. IsFirst entries first)) r
expansion_outcome a d x (Ok v) h k = (on_box a x (λ b. v ≡ moved_outward b d) (v ≡ Null) h k.0, on_box a x (λ b. IsFirst (entries_outward b d) None) (IsFirst [] None) h k.1)
expansion_outcome a d x (Err (Because f)) h k = on_box a x (λ b. IsFirst (entries_outward b d) (Some f)) (IsFirst [] (Some f)) h k
expansion_outcome a d x (Err NoMemory) h k = tt
