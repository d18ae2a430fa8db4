-- The printed text of a point.
use Rattle.std.specs.Prelude.{◌++◌, codes}
use Rattle.mob_language.specs.Language.{Text}
use Rattle.mob_numeral.specs.NumberText.{number_text}
use Rattle.mob_plane.specs.declared.point.Point.{Point}

-- POINT(x y)
abbrev pub point_text : Point → Text
point_text p = codes "POINT(" ++ (number_text p.x ++ (codes " " ++ (number_text p.y ++ codes ")")))
