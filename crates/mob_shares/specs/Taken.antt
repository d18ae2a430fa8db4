-- Two temporal values merged.
use Rattle.std.{specs.Prelude.{◌≡◌, ◌≢◌, ◌⊎◌, true, List, [], ◌∷◌, ◌++◌, Option, Some, None, MatchOption, Result, Ok, Err}, specs.List.{AllByRecursion}}
use Rattle.mob_ratio.specs.Ratio.{Ratio}
use Rattle.mob_frac.specs.Formula.{AllFit}
use Rattle.mob_span.{specs.Span.{SpanOf, has}, specs.Meets.{PieceOf, shared_pieces}, specs.Pieces.{piece_at}}
use Rattle.mob_slice.{specs.Cut.{slice_value, slice_parts}, specs.Parts.{IsPairFit}, specs.Pieces.{AreInside}, specs.Sides.{at_ends}, specs.Slices.{value_at, IsRisingInTime}}
use Rattle.mob_slice.{specs.declared.slice.Slice.{Slice}, specs.declared.part.One.{One}, specs.declared.part.Pair.{Pair}, specs.declared.formula.Formula.{Formula}}
use Rattle.mob_slice.{specs.declared.formula.Formula.TheVariants.{F1}, specs.Entries.{Entry}, specs.Piecewise.{IsFirstFailure}}
use Rattle.mob_list.{specs.declared.fault.Fault.{Fault}, specs.declared.fault.Fault.TheVariants.{Because}}
use Rattle.mob_lift.{specs.Given.{IsGiven}, specs.Common.{pair_of}}
use Rattle.mob_shares.{specs.declared.shares.Share.{Share}, specs.declared.shares.Share.TheVariants.{Left, Right, Both}}

-- the first of two options, or else the second
abbrev pub one_of : {B : Type 0} → Option B → Option B → Option B
one_of (Some x) o = Some x
one_of None o = o

-- the single entry of a slice that is alone on a piece: F1 at the ends of the piece
abbrev pub entry_alone : {C : Type 0} → (C → Ratio → Ratio → Ratio → List Ratio) → One C → List Entry
entry_alone parts o = record { formula = F1; parts = at_ends (slice_parts parts o.slice.now) o.span } ∷ []

-- the result on one piece of the walk: the slice that is alone there, or the fault F1 at an end of
-- it, or the result of a call on both
abbrev pub IsShareGiven : {C B V : Type 0} → (C → Ratio → Ratio → Ratio → B) → (C → B) → (C → B) → (C → Ratio → Ratio → Ratio → List Ratio) → (V → List (Slice C)) → (Pair C C → Result V (Fault Formula) → Type 0) → Share C → Result V (Fault Formula) → Type 0
IsShareGiven value start end parts items returns (Left o) r = IsGiven value start end items (slice_value value o.slice.now) o.span (entry_alone parts o) r
IsShareGiven value start end parts items returns (Right o) r = IsGiven value start end items (slice_value value o.slice.now) o.span (entry_alone parts o) r
IsShareGiven value start end parts items returns (Both p) r = returns p r

-- F1 of both at the ends of a piece that they share
abbrev pub piece_parts : {C : Type 0} → (C → Ratio → Ratio → Ratio → List Ratio) → PieceOf (Slice C) (Slice C) → List Ratio
piece_parts parts q = at_ends (slice_parts parts q.left) q.span ++ at_ends (slice_parts parts q.right) q.span

-- the slices are ordered, lie in the span and have a value at each instant of it
pub record AreFull {C B : Type 0} (value : C → Ratio → Ratio → Ratio → B) (start end : C → B) (r : SpanOf) (slices : List (Slice C)) : Type 0 where
  pub ordered : IsRisingInTime start end slices
  pub inside : AreInside r slices
  pub full : (t : Ratio) → has r t ≡ true → value_at value slices t ≢ None

-- a call on that shared piece returned r
abbrev pub IsAnswered : {C B R : Type 0} → (C → B) → (C → B) → (Pair C C → R → Type 0) → PieceOf (Slice C) (Slice C) → R → Type 0
IsAnswered {C} start end returns q r = (p : Pair C C) × (pair_of p ≡ q) × IsPairFit start end start end p × returns p r

-- a shared piece fails with that formula: with F1, if a part of it at the ends does not fit, or by
-- a call
abbrev pub IsRefused : {C B V : Type 0} → (C → B) → (C → B) → (C → Ratio → Ratio → Ratio → List Ratio) → (Pair C C → Result V (Fault Formula) → Type 0) → Formula → PieceOf (Slice C) (Slice C) → Type 0
IsRefused start end parts returns f q = ((f ≡ F1) × (¬ AllFit (piece_parts parts q))) ⊎ (AllFit (piece_parts parts q) × IsAnswered start end returns q (Err (Because f)))

-- the value at t: the result of a call on the shared piece there, or else the value of whichever of
-- the two is defined
abbrev pub IsTakenAt : {C B V : Type 0} → (C → Ratio → Ratio → Ratio → B) → (C → B) → (C → B) → (V → List (Slice C)) → (Pair C C → Result V (Fault Formula) → Type 0) → List (Slice C) → List (Slice C) → Ratio → Option B → Type 0
IsTakenAt {C} {B} {V} value start end items returns v w t o = MatchOption (piece_at (λ q. q.span) (shared_pieces (λ s. s.span) (λ s. s.span) v w) t) (o ≡ one_of (value_at value v t) (value_at value w t)) (λ q. (x : V) × IsAnswered start end returns q (Ok x) × (o ≡ value_at value (items x) t))

-- every shared piece has a result, all parts of F1 at its ends fit, and the slices have these
-- values
pub record AreTaken {C B V : Type 0} (value : C → Ratio → Ratio → Ratio → B) (start end : C → B) (parts : C → Ratio → Ratio → Ratio → List Ratio) (items : V → List (Slice C)) (returns : Pair C C → Result V (Fault Formula) → Type 0) (v w slices : List (Slice C)) : Type 0 where
  pub answered : AllByRecursion (λ q. AllFit (piece_parts parts q) × ((x : V) × IsAnswered start end returns q (Ok x))) (shared_pieces (λ s. s.span) (λ s. s.span) v w)
  pub values : (t : Ratio) → IsTakenAt value start end items returns v w t (value_at value slices t)

-- the first shared piece that fails does so with that formula
abbrev pub IsFirstRefused : {C B V : Type 0} → (C → B) → (C → B) → (C → Ratio → Ratio → Ratio → List Ratio) → (Pair C C → Result V (Fault Formula) → Type 0) → List (Slice C) → List (Slice C) → Formula → Type 0
IsFirstRefused {C} {B} {V} start end parts returns v w f = IsFirstFailure {V = V} (λ q x. AllFit (piece_parts parts q) × IsAnswered start end returns q (Ok x)) (IsRefused start end parts returns f) (shared_pieces (λ s. s.span) (λ s. s.span) v w)
