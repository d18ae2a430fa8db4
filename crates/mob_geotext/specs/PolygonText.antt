-- The printed texts of polygons, and which of them read back.
use Rattle.std.{specs.Prelude.{◌≡◌, ◌≤◌, List, [], ◌∷◌, ◌++◌, map, length, codes, true}, specs.List.{join_with_byte}}
use Rattle.mob_frac.specs.Fits.{Fits}
use Rattle.mob_language.specs.Language.{Text}
use Rattle.mob_numeral.specs.NumberText.{number_text}
use Rattle.mob_plane.{specs.Rings.{are_sound}, specs.Corners.{all_points}, specs.declared.point.Point.{Point}}

-- members in brackets, separated by commas without spaces
abbrev pub in_brackets : List Text → Text
in_brackets texts = codes "(" ++ (join_with_byte 44 texts ++ codes ")")

-- x y
abbrev pub vertex_text : Point → Text
vertex_text p = number_text p.x ++ (codes " " ++ number_text p.y)

-- (x y,x y,x y,x y)
abbrev pub ring_text : List Point → Text
ring_text ring = in_brackets (map vertex_text ring)

-- POLYGON((x y,x y,x y,x y),(x y,x y,x y,x y))
abbrev pub polygon_text : List (List Point) → Text
polygon_text rings = codes "POLYGON" ++ in_brackets (map ring_text rings)

-- both coordinates of each of the points fit
abbrev pub HaveFittingCoordinates : List Point → Type 0
HaveFittingCoordinates [] = Unit {0}
HaveFittingCoordinates (p ∷ points) = (Fits p.x × Fits p.y) × HaveFittingCoordinates points

-- a polygon whose printed text reads back: it has at most 1,000 points, and their coordinates fit,
-- as they do in every polygon of the code
pub record IsReadablePolygon (rings : List (List Point)) : Type 0 where
  pub sound : are_sound rings ≡ true
  pub few : length (all_points rings) ≤ 1000
  pub fits : HaveFittingCoordinates (all_points rings)
