-- A printed point reads back as itself.
use Rattle.std.proofs.Common.{[], ◌++◌, Some, None, Ok, refl, codes}
use Rattle.mob_frac.specs.Fits.{Fits}
use Rattle.mob_language.{specs.Language.{Text, Language, spaced}, proofs.Heads.{within_said}}
use Rattle.mob_numeral.{specs.Blanks.{some_blanks}, specs.NumberText.{number_text}, specs.Verdict.{Lit}, proofs.Fitted.{number_value_said}}
use Rattle.mob_plane.specs.declared.point.Point.{Point}
use Rattle.mob_points.{specs.Points.{close_bracket, coordinates, written_point, behind_srid, points}, specs.PointText.{point_text}, proofs.PointsExact.{some_none}}

pub close_said : close_bracket (codes ")") tt
close_said = record {
  meant = ([], tt);
  said = record { front = []; back = codes ")"; whole = refl; first = record { is = refl; each = tt }; second = refl };
  is = refl;
}

pub gap_said : some_blanks (codes " ") tt
gap_said = record { meant = codes " "; said = record { said = record { is = refl; each = (refl, tt) }; holds = refl }; is = refl }

pub open_said : spaced (codes "(") (codes "(") tt
open_said = record {
  meant = ([], (tt, []));
  said = record { front = []; back = codes "("; whole = refl; first = record { is = refl; each = tt }; second = record { front = codes "("; back = []; whole = refl; first = refl; second = record { is = refl; each = tt } } };
  is = refl;
}

coordinates_are : (p : Point) → Fits p.x → Fits p.y → coordinates (number_text p.x ++ (codes " " ++ (number_text p.y ++ codes ")"))) (Some p)
coordinates_are p h k = record {
  meant = (Some p.x, (tt, (Some p.y, tt)));
  said = record {
    front = number_text p.x;
    back = codes " " ++ (number_text p.y ++ codes ")");
    whole = refl;
    first = number_value_said p.x h;
    second = record {
      front = codes " ";
      back = number_text p.y ++ codes ")";
      whole = refl;
      first = gap_said;
      second = record { front = number_text p.y; back = codes ")"; whole = refl; first = number_value_said p.y k; second = close_said };
    };
  };
  is = refl;
}

-- the printed text of a point is a text of that point
pub point_plain : (p : Point) → Fits p.x → Fits p.y → written_point (point_text p) (Some p)
point_plain p h k = record {
  meant = (tt, (tt, Some p));
  said = record {
    front = codes "POINT";
    back = codes "(" ++ (number_text p.x ++ (codes " " ++ (number_text p.y ++ codes ")")));
    whole = refl;
    first = refl;
    second = record {
      front = codes "(";
      back = number_text p.x ++ (codes " " ++ (number_text p.y ++ codes ")"));
      whole = refl;
      first = open_said;
      second = coordinates_are p h k;
    };
  };
  is = refl;
}

-- a text without SRID=0; before it
pub unreferenced : {A : Type 0} {l : Language A} (text : Text) (v : A) → l text v → behind_srid l text v
unreferenced text v said = record {
  meant = (None, v);
  said = record { front = []; back = text; whole = refl; first = refl; second = said };
  is = refl;
}

pub point_again : (p : Point) → Fits p.x → Fits p.y → Lit points (point_text p) (Ok p)
point_again p h k = (Some p, within_said (point_text p) (Some p) (unreferenced (point_text p) (Some p) (point_plain p h k)), (λ x. x), some_none p, (λ x. x), refl)
