-- The printed texts of boxes, and which of them read back.
use Rattle.std.specs.Prelude.{[], ◌++◌, codes, Option, Some, None, IfSome, ℤ}
use Rattle.mob_frac.specs.Fits.{Fits}
use Rattle.mob_language.specs.Language.{Text}
use Rattle.mob_numeral.specs.NumberText.{number_text}
use Rattle.mob_span.specs.Span.{SpanOf}
use Rattle.mob_stbox.{specs.Boxes.{BoxOf}, specs.declared.area.Area.{Area}}
use Rattle.mob_ratio.specs.Ratio.{Ratio}
use Rattle.mob_geotext.{specs.SpanText.{span_text}, specs.Printable.{HasDatedEnds}}

-- (x,y)
abbrev pub corner_text : Ratio → Ratio → Text
corner_text x y = codes "(" ++ (number_text x ++ (codes "," ++ (number_text y ++ codes ")")))

-- the lesser corner, a comma, the greater corner, and a closing bracket
abbrev pub corners_text : Area → Text
corners_text a = corner_text a.xmin a.ymin ++ (codes "," ++ (corner_text a.xmax a.ymax ++ codes ")"))

abbrev pub dimensions_text : ℤ → Option Area → Option SpanOf → Text
dimensions_text day (Some a) None = codes "STBOX X(" ++ corners_text a
dimensions_text day None (Some s) = codes "STBOX T(" ++ (span_text day s ++ codes ")")
dimensions_text day (Some a) (Some s) = codes "STBOX XT((" ++ (corners_text a ++ (codes "," ++ (span_text day s ++ codes ")")))
dimensions_text day None None = []

-- STBOX X((x,y),(x,y)), STBOX T(span) or STBOX XT(((x,y),(x,y)),span)
abbrev pub box_text : ℤ → BoxOf → Text
box_text day b = dimensions_text day b.space b.time

-- all of its coordinates fit
pub record HasFittingSides (a : Area) : Type 0 where
  pub xmin : Fits a.xmin
  pub xmax : Fits a.xmax
  pub ymin : Fits a.ymin
  pub ymax : Fits a.ymax

-- the coordinates of a box fit, and its span is in the years 0001 to 9999
pub record HasDatedSides (day : ℤ) (b : BoxOf) : Type 0 where
  pub space : IfSome b.space HasFittingSides
  pub time : IfSome b.time (HasDatedEnds day)
