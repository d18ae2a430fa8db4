-- Rings of points: their edges, and when they bound a polygon.
use Rattle.std.{specs.Prelude.{Bool, false, not, ◌&&◌, ◌||◌, ◌-◌, List, [], ◌∷◌, ◌++◌, map, length, slice_get, nat_eq, nat_lt, Option, Some, Vec}, specs.List.{list_any}}
use Rattle.std.specs.declared.alloc.Global.{Global}
use Rattle.mob_plane.{specs.Points.{same_point}, specs.declared.point.Point.{Point}}

-- the points of each ring
abbrev pub rings_of : List (Vec Point Global) → List (List Point)
rings_of rings = map (λ r. r.items) rings

-- the edges of a ring go from each of its points to the next
abbrev pub edges : List Point → List (Point × Point)
edges [] = []
edges (a ∷ []) = []
edges (a ∷ b ∷ rest) = (a, b) ∷ edges (b ∷ rest)

-- the edges of all rings together
abbrev pub all_edges : List (List Point) → List (Point × Point)
all_edges [] = []
all_edges (ring ∷ rings) = edges ring ++ all_edges rings

-- fewer than four points
abbrev pub is_short_ring : List Point → Bool
is_short_ring ring = nat_lt (length ring) 4

-- the list of rings is empty, or one of them is short
abbrev pub has_short : List (List Point) → Bool
has_short rings = nat_eq (length rings) 0 || list_any is_short_ring rings

abbrev pub are_one : Option Point → Option Point → Bool
are_one (Some a) (Some b) = same_point a b
are_one a b = false

-- its first and its last point differ
abbrev pub is_open_ring : List Point → Bool
is_open_ring ring = not (are_one (slice_get ring 0) (slice_get ring (length ring - 1)))

-- one of the rings is open
abbrev pub has_open : List (List Point) → Bool
has_open rings = list_any is_open_ring rings

-- rings that bound a polygon: at least one, each with at least four points, and closed
abbrev pub are_sound : List (List Point) → Bool
are_sound rings = not (has_short rings) && not (has_open rings)
