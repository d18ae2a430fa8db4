-- The edges of tiles that a slice crosses, and their formulas.
use Rattle.std.{specs.Prelude.{ℕ, zero, suc, ℤ, pos, negsuc, ◌+ℤ◌, ◌-ℤ◌, List, [], ◌∷◌, ◌++◌, map}, specs.List.{flat_map}}
use Rattle.mob_ratio.{specs.Ratio.{Ratio, whole, ◌-ℚ◌, ◌*ℚ◌}, specs.Order.{smaller, greater}}
use Rattle.mob_slice.{specs.Cut.{slice_parts}, specs.Entries.{Entry}, specs.Lines.{plane_parts_of}, specs.declared.slice.Slice.{Slice}, specs.declared.line.PlaneLine.{PlaneLine}}
use Rattle.mob_slice.specs.declared.formula.Formula.TheVariants.{F1, F2, F3}
use Rattle.mob_cells.{specs.declared.linear.Ends.{Ends}, specs.Roots.{roots, roots_parts}}
use Rattle.mob_grid.{specs.Bands.{band_of}, specs.Tiles.{GridOf}}

-- k whole numbers from n on
abbrev pub count_up : ℤ → ℕ → List ℤ
count_up n zero = []
count_up n (suc k) = n ∷ count_up (n +ℤ pos 1) k

-- a number, or 0 for one below it
abbrev pub natural : ℤ → ℕ
natural (pos n) = n
natural (negsuc n) = 0

-- the whole numbers above one and up to another
abbrev pub numbers_between : ℤ → ℤ → List ℤ
numbers_between low high = count_up (low +ℤ pos 1) (natural (high -ℤ low))

-- the edge before the nth band of width c
abbrev pub edge_of : Ratio → ℤ → Ratio
edge_of c n = whole n *ℚ c

-- the numbers of the edges between x and y: those above the smaller and at most the greater
abbrev pub edges_between : Ratio → Ratio → Ratio → List ℤ
edges_between c x y = numbers_between (band_of c (smaller x y)) (band_of c (greater x y))

-- F2: an edge, and the differences to it at the two ends of a slice
abbrev pub tile_edge_parts : Ratio → Ratio → Ratio → ℤ → List Ratio
tile_edge_parts c x y n = edge_of c n ∷ (x -ℚ edge_of c n) ∷ (y -ℚ edge_of c n) ∷ []

-- the difference to it as a linear function
abbrev pub tile_edge_ends : Ratio → Ratio → Ratio → ℤ → Ends
tile_edge_ends c x y n = record { at_lower = x -ℚ edge_of c n; at_upper = y -ℚ edge_of c n }

-- F2: an edge of time
abbrev pub time_parts : Ratio → ℤ → List Ratio
time_parts c n = edge_of c n ∷ []

module _ (g : GridOf) (s : Slice PlaneLine) where
  abbrev pub x_edges : List ℤ
  x_edges = edges_between g.size s.course.from.x s.course.to.x

  abbrev pub y_edges : List ℤ
  y_edges = edges_between g.size s.course.from.y s.course.to.y

  abbrev pub t_edges : List ℤ
  t_edges = numbers_between (band_of g.width s.span.lower) (band_of g.width s.span.upper)

  -- the differences to all edges, in x and then in y
  abbrev pub differences : List Ends
  differences = map (tile_edge_ends g.size s.course.from.x s.course.to.x) x_edges ++ map (tile_edge_ends g.size s.course.from.y s.course.to.y) y_edges

  -- the instants at which the slice is cut: the roots of these, and the edges of time
  abbrev pub tile_cuts_of : List Ratio
  tile_cuts_of = roots s.span differences ++ map (edge_of g.width) t_edges

  -- F2: the edges in x and y with the differences to them, and those of time
  abbrev pub tile_edges_parts : List Ratio
  tile_edges_parts = flat_map (tile_edge_parts g.size s.course.from.x s.course.to.x) x_edges ++ (flat_map (tile_edge_parts g.size s.course.from.y s.course.to.y) y_edges ++ flat_map (time_parts g.width) t_edges)

  -- F1: the values of the slice at all cuts
  abbrev pub entry_of_values : Entry
  entry_of_values = record { formula = F1; parts = flat_map (slice_parts plane_parts_of s) tile_cuts_of }

  -- The entries of one slice: the edges, then F3, the roots of the differences to them, then the
  -- values at the cuts.
  abbrev pub entries_of_slice : List Entry
  entries_of_slice = record { formula = F2; parts = tile_edges_parts } ∷ record { formula = F3; parts = roots_parts s.span differences } ∷ entry_of_values ∷ []
