-- Where a test of instants begins and ceases to hold on a span. The span is cut at the roots of
-- linear functions, and the test holds on the whole of a cell or nowhere there.
use Rattle.std.{specs.Prelude.{◌≡◌, Bool, Contains, true, cond, ◌&&◌, pos, List, [], ◌∷◌, ◌++◌, filter, Option, Some, None}, specs.List.{AllByRecursion}}
use Rattle.mob_ratio.{specs.Ratio.{Ratio, whole, ◌+ℚ◌, ◌/ℚ◌}, specs.Order.{before}}
use Rattle.mob_span.{specs.Span.{SpanOf, has, has_instant}, specs.Flags.{same_bool}, specs.Sets.{in_some}}
use Rattle.mob_cells.{specs.declared.linear.Ends.{Ends}, specs.Cells.{IsCut, split_all, start_cells}, specs.Roots.{as_list, roots}}

-- the cells of a span, cut at the roots of these functions
abbrev pub cells_of : SpanOf → List Ends → List SpanOf
cells_of s functions = split_all (roots s functions) (start_cells s)

-- the instant halfway between the ends of a cell
abbrev pub halfway : SpanOf → Ratio
halfway c = (c.lower +ℚ c.upper) /ℚ whole (pos 2)

-- the instants between the cell c, the next ones, and so on, at which the test begins or ceases to
-- hold
abbrev pub changes_behind : (Ratio → Bool) → SpanOf → List SpanOf → List Ratio
changes_behind meets c [] = []
changes_behind meets c (d ∷ cells) = cond (same_bool (meets (halfway c)) (meets (halfway d))) [] (c.upper ∷ []) ++ changes_behind meets d cells

-- the instants between neighbouring cells at which it does
abbrev pub changes : (Ratio → Bool) → List SpanOf → List Ratio
changes meets [] = []
changes meets (c ∷ cells) = changes_behind meets c cells

-- those strictly between the ends of the span, which is cut at the roots of these functions
abbrev pub changes_inside : (Ratio → Bool) → SpanOf → List Ends → List Ratio
changes_inside meets s functions = filter (λ t. before s.lower t && before t s.upper) (changes meets (cells_of s functions))

-- a span joined with the cell after it; without a span, the cell
abbrev pub with_cell : Option SpanOf → SpanOf → SpanOf
with_cell None c = c
with_cell (Some k) c = record { lower = k.lower; upper = c.upper; lower_inc = k.lower_inc; upper_inc = c.upper_inc }

-- the spans of neighbouring cells on which the test holds; the second argument is the one that the
-- first cell may continue
abbrev pub spans_behind : (Ratio → Bool) → Option SpanOf → List SpanOf → List SpanOf
spans_behind meets k [] = as_list k
spans_behind meets k (c ∷ cells) = cond (meets (halfway c)) (spans_behind meets (Some (with_cell k c)) cells) (as_list k ++ spans_behind meets None cells)

abbrev pub spans_where : (Ratio → Bool) → List SpanOf → List SpanOf
spans_where meets cells = spans_behind meets None cells

-- the test holds at each instant of the cell or at none
abbrev pub IsConstantOn : (Ratio → Bool) → SpanOf → Type 0
IsConstantOn meets c = (t : Ratio) → has c t ≡ true → meets t ≡ meets (halfway c)

-- Of a test that is constant on each cell of a span: these spans have the instants of the span at
-- which it holds, and no others.
abbrev pub SpansHold : Type 0
SpansHold = (s : SpanOf) (functions : List Ends) (meets : Ratio → Bool) → has_instant s ≡ true → AllByRecursion (IsConstantOn meets) (cells_of s functions) → (t : Ratio) → in_some (spans_where meets (cells_of s functions)) t ≡ (has s t && meets t)

-- the test is the same at all instants of s from some instant before t to some instant after it
pub record IsSteadyAround (meets : Ratio → Bool) (s : SpanOf) (t : Ratio) : Type 0 where
  pub from : Ratio
  pub to : Ratio
  pub earlier : before from t ≡ true
  pub later : before t to ≡ true
  pub same : (u : Ratio) → has s u ≡ true → before from u ≡ true → before u to ≡ true → meets u ≡ meets t

-- Of such a test: an instant inside the span is one of these instants exactly if the test is not
-- the same around it.
abbrev pub ChangesAreChanges : Type 0
ChangesAreChanges =
    (s : SpanOf) (functions : List Ends) (meets : Ratio → Bool) → AllByRecursion (IsConstantOn meets) (cells_of s functions)
    → (t : Ratio) → before s.lower t ≡ true → before t s.upper ≡ true → (Contains (changes meets (cells_of s functions)) t → IsSteadyAround meets s t → ⊥) × ((Contains (changes meets (cells_of s functions)) t → ⊥) → IsSteadyAround meets s t)

-- each of these instants is a root or an end of the span
abbrev pub ChangesAreCuts : Type 0
ChangesAreCuts = (s : SpanOf) (functions : List Ends) (meets : Ratio → Bool) (t : Ratio) → Contains (changes meets (cells_of s functions)) t → IsCut s (roots s functions) t
