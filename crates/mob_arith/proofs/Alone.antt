-- A temporal value next to a base value.
use Rattle.std.{specs.Prelude.{◌≡◌, Bool, true, not, List, [], ◌∷◌, Option, Some, None, option_map, refl}, proofs.Common.{ap, sym, ◌∙◌}}
use Rattle.mob_ratio.specs.Ratio.{Ratio}
use Rattle.mob_span.proofs.SpanLemmas.{some_instant}
use Rattle.mob_slice.{specs.Slices.{value_at, IsNormal}, specs.Operands.{map_both}, specs.declared.slice.Slice.{Slice}}
use Rattle.mob_arith.specs.Operations.{differ}

-- a normal list has a value at some instant
some_value : {C B : Type 0} (value : C → Ratio → Ratio → Ratio → B) (start end : C → B) (continues : C → C → Ratio → Ratio → Ratio → Bool) (v : List (Slice C)) → IsNormal start end continues v → (u : Ratio) × (x : B) × (value_at value v u ≡ Some x)
some_value value start end continues [] n = absurd (n.some refl)
some_value value start end continues (s ∷ v) n = let m = some_instant s.span n.chained.0.some in (m.0, value s.course s.span.lower s.span.upper m.0, rw m.1 refl)

-- so an operation on it and a base value has a value at some instant
pub never_none : {C X Y Z : Type 0} (value : C → Ratio → Ratio → Ratio → X) (start end : C → X) (continues : C → C → Ratio → Ratio → Ratio → Bool) (op : X → Y → Z) (v : List (Slice C)) (y : Y) → IsNormal start end continues v → ((t : Ratio) → map_both op (value_at value v t) (Some y) ≡ None) → ⊥
never_none value start end continues op v y n h =
    let m = some_value value start end continues v n in
    let f : Some (op m.1 y) ≡ None = sym (ap (λ o. map_both op o (Some y)) m.2) ∙ h m.0 in
    cc

pub beside : {X Y Z : Type 0} (op : X → Y → Z) (o : Option X) (y : Y) → map_both op o (Some y) ≡ option_map (λ x. op x y) o
beside op None y = refl
beside op (Some x) y = refl

pub turned : (o : Option Bool) → map_both differ o (Some true) ≡ option_map not o
turned None = refl
turned (Some b) = refl
