-- The result of a closure called on each piece of time.
use Rattle.std.specs.Prelude.{◌≡◌, true, List, [], ◌∷◌, ◌++◌, Option, None, Some, MatchOption, Result, Ok, Err, ◌⊎◌}
use Rattle.mob_ratio.specs.Ratio.{Ratio}
use Rattle.mob_span.{specs.Span.{SpanOf, has_instant}, specs.Pieces.{piece_at}}
use Rattle.mob_slice.{specs.Slices.{value_at, IsRisingInTime}, specs.Pieces.{AreInside}, specs.declared.slice.Slice.{Slice}, specs.declared.formula.Formula.{Formula}}
use Rattle.mob_list.{specs.declared.fault.Fault.{Fault}, specs.declared.fault.Fault.TheVariants.{Because}}

-- the slices are those returned for each piece, in order
abbrev pub AreGivenInOrder : {P D V : Type 0} → (V → List (Slice D)) → (P → V → Type 0) → List P → List (Slice D) → Type 0
AreGivenInOrder items gives [] slices = slices ≡ []
AreGivenInOrder {P} {D} {V} items gives (p ∷ pieces) slices = (v : V) × (rest : List (Slice D)) × gives p v × AreGivenInOrder items gives pieces rest × (slices ≡ items v ++ rest)

-- The slices are ordered. At each instant of a piece they have the value returned for that piece,
-- and elsewhere none.
pub record IsPiecewise {P D B V : Type 0} (value : D → Ratio → Ratio → Ratio → B) (start end : D → B) (span : P → SpanOf) (items : V → List (Slice D)) (gives : P → V → Type 0) (pieces : List P) (slices : List (Slice D)) : Type 0 where
  pub made : AreGivenInOrder items gives pieces slices
  pub ordered : IsRisingInTime start end slices
  pub at_each : (t : Ratio) → MatchOption (piece_at span pieces t) (value_at value slices t ≡ None) (λ p. (v : V) × gives p v × (value_at value slices t ≡ value_at value (items v) t))

-- the wanted value on the piece found, if any
abbrev pub wanted_at : {P B : Type 0} → (P → Option B) → Option P → Option B
wanted_at f None = None
wanted_at f (Some p) = f p

-- the first piece on which a call failed, after calls that succeeded
abbrev pub IsFirstFailure : {P V : Type 0} → (P → V → Type 0) → (P → Type 0) → List P → Type 0
IsFirstFailure gives fails [] = ⊥
IsFirstFailure {P} {V} gives fails (p ∷ pieces) = fails p ⊎ ((v : V) × gives p v × IsFirstFailure gives fails pieces)

-- the value that a call returns on a piece that it may be given
abbrev pub GivesFit : {P V : Type 0} → (P → Type 0) → (P → Result V (Fault Formula) → Type 0) → P → V → Type 0
GivesFit fits returns p v = fits p × returns p (Ok v)

-- the fault of the call is the formula there
abbrev pub PassesFit : {P V : Type 0} → (P → Type 0) → (P → Result V (Fault Formula) → Type 0) → Formula → P → Type 0
PassesFit fits returns formula p = fits p × returns p (Err (Because formula))

-- on each piece that it may be given, the call returns ordered slices that lie in the piece
abbrev pub AnswersInside : {P D B V : Type 0} → (D → B) → (D → B) → (P → SpanOf) → (V → List (Slice D)) → (P → Type 0) → (P → Result V (Fault Formula) → Type 0) → Type 0
AnswersInside {P} {D} {B} {V} start end span items fits returns = (p : P) (v : V) → has_instant (span p) ≡ true → fits p → returns p (Ok v) → IsRisingInTime start end (items v) × AreInside (span p) (items v)
