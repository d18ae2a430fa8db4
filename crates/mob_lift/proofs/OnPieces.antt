-- The result of an operator on one piece, if it is one slice.
use Rattle.std.{specs.Prelude.{◌≡◌, true, List, [], ◌∷◌, Some, None, Result, Ok, Err, MatchResult, IfErr, refl}, specs.List.{flat_map}, proofs.Common.{ap, sym, ◌∙◌}}
use Rattle.mob_ratio.specs.Ratio.{Ratio}
use Rattle.mob_span.{specs.Span.{SpanOf, has_instant}, specs.Meets.{PieceOf}}
use Rattle.mob_slice.{specs.Operands.{steady_value, steady_limit}, specs.Sides.{SideOf, side_at, HasValues}, specs.Entries.{Entry, IsFirst, IsJudged}, specs.declared.slice.Slice.{Slice}}
use Rattle.mob_slice.{specs.declared.steady.Steady.{Steady}, specs.declared.formula.Formula.{Formula}, proofs.OnOnePiece.{one_kept, one_steady}, proofs.Options.{none_some}}
use Rattle.mob_list.{specs.declared.fault.Fault.{Fault}, specs.declared.fault.Fault.TheVariants.{Because, NoMemory}}
use Rattle.mob_lift.specs.Given.{AreOn, IsGiven, on_sides}

-- one slice on a span, as a list
pub one_on : {C B : Type 0} (value : C → Ratio → Ratio → Ratio → B) (start end : C → B) (f : Ratio → B) (r : SpanOf) (s : Slice C) (slices : List (Slice C)) → slices ≡ s ∷ [] → HasValues value start end f r s → AreOn value start end f r slices
one_on value start end f r s slices e h = rw e (one_kept value start end (λ t. Some (f t)) f r s h (λ t k. refl))

-- one slice as a list is the result on a piece
pub on_one : {C B V : Type 0} (value : C → Ratio → Ratio → Ratio → B) (start end : C → B) (items : V → List (Slice C)) (f : Ratio → B) (span : SpanOf) (entries : List Entry) (r : Result V (Fault Formula)) (made c : C) → c ≡ made
    → HasValues value start end f span (record { span = span; course = made })
    → IsFirst entries None
    → MatchResult r (λ v. items v ≡ record { span = span; course = c } ∷ []) (λ e. e ≡ NoMemory) → IsGiven value start end items f span entries r
on_one value start end items f span entries (Ok v) made c e h k m = (one_on value start end f span (record { span = span; course = made }) (items v) (m ∙ ap (λ z. record { span = span; course = z } ∷ []) e) h, k)
on_one value start end items f span entries (Err g) made c e h k m = rw m tt

-- The operation on two sides that have one value each, as one slice. It has no entry.
pub step_given : {A X B Y Z V : Type 0} (value : A → Ratio → Ratio → Ratio → X) (value' : B → Ratio → Ratio → Ratio → Y) (p : PieceOf (SideOf A X) (SideOf B Y)) (x : X) (y : Y) → ((t : Ratio) → x ≡ side_at value p.left t) → ((t : Ratio) → y ≡ side_at value' p.right t)
    → (op : X → Y → Z) (items : V → List (Slice (Steady Z))) (z : Z) (r : Result V (Fault Formula)) → has_instant p.span ≡ true → z ≡ op x y
    → MatchResult r (λ v. items v ≡ record { span = p.span; course = record { value = z } } ∷ []) (λ e. e ≡ NoMemory) → IsGiven steady_value steady_limit steady_limit items (on_sides value value' op p) p.span [] r
step_given value value' p x y left right op items z (Ok v) s e m =
    (rw m (one_steady (λ t. Some (on_sides value value' op p t)) p.span z s (λ t k. ap Some (e ∙ ap (λ a. op a y) (left t) ∙ ap (λ b. op (side_at value p.left t) b) (right t)))), refl)
step_given value value' p x y left right op items z (Err g) s e m = rw m tt

no_first : {P : Type 0} (f : Formula) (ps : List P) → IsFirst (flat_map (λ p. []) ps) (Some f) → ⊥
no_first f [] h = none_some f (sym h)
no_first f (p ∷ ps) h = no_first f ps h

-- with no entries, the only error is out of memory
pub memory_only : {P V : Type 0} (ps : List P) (r : Result V (Fault Formula)) → IsJudged (flat_map (λ p. []) ps) r → IfErr r (λ e. e ≡ NoMemory)
memory_only ps (Ok v) h = tt
memory_only ps (Err (Because f)) h = absurd (no_first f ps h)
memory_only ps (Err NoMemory) h = refl
