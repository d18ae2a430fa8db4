-- Cells: spans on which linear functions keep their signs.
use Rattle.std.{specs.Prelude.{◌≡◌, ◌⊎◌, ℤ, pos, negsuc, Bool, true, false, cond, not, ◌&&◌, ◌||◌, List, [], ◌∷◌, ◌++◌, map, Contains, MatchOption}, specs.List.{AllByRecursion, flat_map}}
use Rattle.std.{specs.declared.cmp.Ordering.{Ordering}, specs.declared.cmp.Ordering.TheVariants.{Less, Equal, Greater}}
use Rattle.mob_ratio.{specs.Ratio.{Ratio}, specs.Order.{before, up_to}, specs.Sign.{sign_on, sign_of}}
use Rattle.mob_span.{specs.Span.{SpanOf, has}, specs.Neighbours.{is_inside}, specs.Sets.{in_some}, specs.Pieces.{PiecesAreClear}}
use Rattle.mob_cells.{specs.declared.linear.Ends.{Ends}, specs.declared.signs.Placed.{Placed}, specs.Roots.{function_at, IsLevel, as_list, root_of, roots}}

-- ---- definitions for callers

-- a span with functions on it, and its cells
pub record CellsOf : Type 0 where
  pub span : SpanOf
  pub functions : List Ends
  pub cells : List SpanOf

-- The cells are ordered and disjoint, lie in the span s, and have all its instants.
pub record AreCells (s : SpanOf) (cells : List SpanOf) : Type 0 where
  pub clear : PiecesAreClear (λ c. c) cells
  pub inside : AllByRecursion (λ c. is_inside s c ≡ true) cells
  pub covers : (t : Ratio) → in_some cells t ≡ has s t

-- an end of s, or one of the instants
abbrev pub IsCut : SpanOf → List Ratio → Ratio → Type 0
IsCut s instants t = (t ≡ s.lower) ⊎ (t ≡ s.upper) ⊎ Contains instants t

-- r is an end of one of the cells
abbrev pub IsSomeEnd : Ratio → List SpanOf → Type 0
IsSomeEnd r [] = ⊥
IsSomeEnd r (c ∷ cells) = ((c.lower ≡ r) ⊎ (c.upper ≡ r)) ⊎ IsSomeEnd r cells

-- The span is cut at each of the instants, and nowhere else.
pub record AreCutAt (s : SpanOf) (instants : List Ratio) (cells : List SpanOf) : Type 0 where
  pub each : AllByRecursion (λ r. IsSomeEnd r cells) instants
  pub only : AllByRecursion (λ c. IsCut s instants c.lower × IsCut s instants c.upper) cells

-- the signs of the functions at the instant t
abbrev pub signs_of : SpanOf → List Ends → Ratio → List Ordering
signs_of s functions t = map (λ f. sign_of (function_at s f t)) functions

-- -1 below 0, 0 at 0 and 1 above
abbrev pub sign_number : Ordering → ℤ
sign_number Less = negsuc 0
sign_number Equal = pos 0
sign_number Greater = pos 1

-- ---- how cells are made

-- the span of one instant
abbrev pub instant_span : Ratio → SpanOf
instant_span t = record { lower = t; upper = t; lower_inc = true; upper_inc = true }

-- the part strictly between the ends
abbrev pub inner : SpanOf → SpanOf
inner s = record { lower = s.lower; upper = s.upper; lower_inc = false; upper_inc = false }

-- the part of s before r
abbrev pub until : SpanOf → Ratio → SpanOf
until s r = record { lower = s.lower; upper = r; lower_inc = s.lower_inc; upper_inc = false }

-- the part of s after r
abbrev pub beyond : SpanOf → Ratio → SpanOf
beyond s r = record { lower = r; upper = s.upper; lower_inc = false; upper_inc = s.upper_inc }

-- c cut at r
abbrev pub split_one : Ratio → SpanOf → List SpanOf
split_one r c = cond (before c.lower r && before r c.upper) (until c r ∷ instant_span r ∷ beyond c r ∷ []) (c ∷ [])

abbrev pub split_at : Ratio → List SpanOf → List SpanOf
split_at r [] = []
split_at r (c ∷ cells) = split_one r c ++ split_at r cells

-- the cells cut at each of the instants
abbrev pub split_all : List Ratio → List SpanOf → List SpanOf
split_all [] cells = cells
split_all (r ∷ cuts) cells = split_all cuts (split_at r cells)

-- each instant is at least q, and at most the later ones
abbrev pub IsRisingFrom : Ratio → List Ratio → Type 0
IsRisingFrom q [] = Unit {0}
IsRisingFrom q (r ∷ cuts) = (up_to q r ≡ true) × IsRisingFrom r cuts

-- the effect of an instant on the rest of a span: the finished cells are appended to the old list
pub record IsAdvance (r : Ratio) (rest : SpanOf) (old new : List SpanOf) (next : SpanOf) : Type 0 where
  pub front : List SpanOf
  pub is : new ≡ old ++ front
  pub passed : AllByRecursion (λ c. up_to c.upper r ≡ true) front
  pub made : front ++ next ∷ [] ≡ split_one r rest

-- the ends of s that it includes, and the part between
abbrev pub start_cells : SpanOf → List SpanOf
start_cells s = cond (before s.lower s.upper) (cond s.lower_inc (instant_span s.lower ∷ []) [] ++ inner s ∷ cond s.upper_inc (instant_span s.upper ∷ []) []) (s ∷ [])

-- one instant, or the open interval between two
abbrev pub is_cell : SpanOf → Bool
is_cell c = (before c.lower c.upper && not c.lower_inc && not c.upper_inc) || (up_to c.lower c.upper && up_to c.upper c.lower && c.lower_inc && c.upper_inc)

-- c is such a cell of s
abbrev pub is_cell_of : SpanOf → SpanOf → Bool
is_cell_of s c = is_cell c && is_inside s c

-- the cells so far
pub record AreSplit (s : SpanOf) (cells : List SpanOf) : Type 0 where
  pub clear : PiecesAreClear (λ c. c) cells
  pub are : AllByRecursion (λ c. is_cell_of s c ≡ true) cells
  pub covers : (t : Ratio) → in_some cells t ≡ has s t

-- q is not strictly inside c
abbrev pub NoneWithin : Ratio → SpanOf → Type 0
NoneWithin q c = (before c.lower q && before q c.upper) ≡ false

-- a function with its root
pub record IsPlaced (s : SpanOf) (p : Placed) : Type 0 where
  pub level : IsLevel s p.ends
  pub root : p.root ≡ root_of s p.ends

-- no cell has the root of p strictly inside
abbrev pub IsApart : List SpanOf → Placed → Type 0
IsApart cells p = MatchOption p.root (Unit {0}) (λ r. AllByRecursion (NoneWithin r) cells)

abbrev pub functions_of : List Placed → List Ends
functions_of placed = map (λ p. p.ends) placed

-- their roots
abbrev pub placed_roots : List Placed → List Ratio
placed_roots placed = flat_map (λ p. as_list p.root) placed

-- the facts on the cells and on the functions with their roots
pub record AreSigned (s : SpanOf) (placed : List Placed) (cells : List SpanOf) : Type 0 where
  pub are : AreSplit s cells
  pub good : AllByRecursion (IsPlaced s) placed
  pub apart : AllByRecursion (IsApart cells) placed
  pub only : AllByRecursion (λ c. IsCut s (roots s (functions_of placed)) c.lower × IsCut s (roots s (functions_of placed)) c.upper) cells

abbrev pub placed_sign : SpanOf → SpanOf → Placed → Ordering
placed_sign s c p = sign_on p.ends.at_lower p.ends.at_upper s.lower s.upper c.lower c.upper
