-- A printed box reads back as itself, and a text has at most one reading as a box.
use Rattle.std.{specs.Prelude.{◌||◌, ◌⊎◌, is_some, IfSome, MatchOption}, proofs.Common.{◌≡◌, ℤ, [], ◌++◌, Option, Some, None, Ok, true, false, refl, sym, ap, subst, ◌∙◌, codes, inl, inr}}
use Rattle.std.proofs.lemmas.Bool.{and_parts}
use Rattle.mob_frac.specs.Fits.{Fits}
use Rattle.mob_ratio.specs.Ratio.{Ratio}
use Rattle.mob_language.{specs.Language.{Text}, proofs.Exact.{one_value, some_is}, proofs.Heads.{within_said}}
use Rattle.mob_numeral.{specs.NumberText.{number_text}, specs.Verdict.{HasOneReading, Lit}, proofs.Fitted.{number_value_said}, proofs.Settled.{settled}}
use Rattle.mob_points.proofs.PointsAgain.{close_said, gap_said, open_said}
use Rattle.mob_span.specs.Span.{SpanOf}
use Rattle.mob_stbox.{specs.Areas.{is_area}, specs.Boxes.{BoxOf, is_box, area_stands, span_stands}, specs.declared.area.Area.{Area}, proofs.Sides.{between_again}, proofs.BoxLaws.{box_area, box_span}}
use Rattle.mob_geotext.{specs.declared.boxes.NotedBox.{NotedBox}, specs.declared.boxes.NotedBox.TheVariants.{Space, Time, Both}, specs.declared.boxes.NotedCorners.{NotedCorners}}
use Rattle.mob_geotext.{specs.SpanText.{span_text}, specs.Printable.{HasDatedEnds}}
use Rattle.mob_geotext.specs.Boxes.{open_bracket, corner, corners, closed_span, time_alone, with_space, written_box, area_of, has_sides, sides_said, boxes}
use Rattle.mob_geotext.{specs.BoxText.{corner_text, corners_text, dimensions_text, box_text, HasFittingSides, HasDatedSides}, proofs.BoxesExact.{boxes_exact}, proofs.SpansAgain.{note, span_said_by}}
use Rattle.mob_geotext.{proofs.SpansRead.{true_false}, proofs.PolygonsAgain.{comma_alone}}

-- a text has at most one reading
pub one_box : (day : ℤ) → HasOneReading (boxes day)
one_box day text = settled (boxes day) text (one_value (boxes_exact day) refl text) (λ s v w a b. some_is v w (sym a ∙ b))

-- ---- the printed parts

begin_said : open_bracket (codes "(") tt
begin_said = record { meant = (tt, []); said = record { front = codes "("; back = []; whole = refl; first = refl; second = record { is = refl; each = tt } }; is = refl }

corner_said_by : (x y : Ratio) → Fits x → Fits y → corner (corner_text x y) (Some (record { x = x; y = y }))
corner_said_by x y h k = record {
  meant = (tt, (Some x, (tt, (Some y, tt))));
  said = record {
    front = codes "(";
    back = number_text x ++ (codes "," ++ (number_text y ++ codes ")"));
    whole = refl;
    first = begin_said;
    second = record {
      front = number_text x;
      back = codes "," ++ (number_text y ++ codes ")");
      whole = refl;
      first = number_value_said x h;
      second = record {
        front = codes ",";
        back = number_text y ++ codes ")";
        whole = refl;
        first = comma_alone;
        second = record { front = number_text y; back = codes ")"; whole = refl; first = number_value_said y k; second = close_said };
      };
    };
  };
  is = refl;
}

-- the corners of an area, as its text has them
abbrev noted : Area → NotedCorners
noted a = record { first = Some (record { x = a.xmin; y = a.ymin }); second = Some (record { x = a.xmax; y = a.ymax }) }

corners_said_by : (a : Area) → HasFittingSides a → corners (corners_text a) (noted a)
corners_said_by a h = record {
  meant = (Some (record { x = a.xmin; y = a.ymin }), (tt, (Some (record { x = a.xmax; y = a.ymax }), tt)));
  said = record {
    front = corner_text a.xmin a.ymin;
    back = codes "," ++ (corner_text a.xmax a.ymax ++ codes ")");
    whole = refl;
    first = corner_said_by a.xmin a.ymin h.xmin h.ymin;
    second = record {
      front = codes ",";
      back = corner_text a.xmax a.ymax ++ codes ")";
      whole = refl;
      first = comma_alone;
      second = record { front = corner_text a.xmax a.ymax; back = codes ")"; whole = refl; first = corner_said_by a.xmax a.ymax h.xmax h.ymax; second = close_said };
    };
  };
  is = refl;
}

closed_said : (day : ℤ) (s : SpanOf) → HasDatedEnds day s → closed_span day (span_text day s ++ codes ")") (note s)
closed_said day s h = record {
  meant = (note s, tt);
  said = record { front = span_text day s; back = codes ")"; whole = refl; first = span_said_by day s h; second = close_said };
  is = refl;
}

-- a form of a box after its word and a space
worded : (day : ℤ) (text : Text) (b : NotedBox) → (time_alone day text b) ⊎ (with_space day text b) → written_box day (codes "STBOX " ++ text) b
worded day text b said = record {
  meant = (tt, (tt, b));
  said = record { front = codes "STBOX"; back = codes " " ++ text; whole = refl; first = refl; second = record { front = codes " "; back = text; whole = refl; first = gap_said; second = said } };
  is = refl;
}

space_said_by : (day : ℤ) (a : Area) → HasFittingSides a → written_box day (codes "STBOX X(" ++ corners_text a) (Space (noted a))
space_said_by day a h = worded day (codes "X(" ++ corners_text a) (Space (noted a)) (inr (record {
  meant = (tt, Space (noted a));
  said = record {
    front = codes "X";
    back = codes "(" ++ corners_text a;
    whole = refl;
    first = refl;
    second = inr (record {
      meant = (tt, noted a);
      said = record { front = codes "("; back = corners_text a; whole = refl; first = open_said; second = corners_said_by a h };
      is = refl;
    });
  };
  is = refl;
}))

time_said_by : (day : ℤ) (s : SpanOf) → HasDatedEnds day s → written_box day (codes "STBOX T(" ++ (span_text day s ++ codes ")")) (Time (note s))
time_said_by day s h = worded day (codes "T(" ++ (span_text day s ++ codes ")")) (Time (note s)) (inl (record {
  meant = (tt, (tt, note s));
  said = record {
    front = codes "T";
    back = codes "(" ++ (span_text day s ++ codes ")");
    whole = refl;
    first = refl;
    second = record { front = codes "("; back = span_text day s ++ codes ")"; whole = refl; first = open_said; second = closed_said day s h };
  };
  is = refl;
}))

both_said_by : (day : ℤ) (a : Area) (s : SpanOf) → HasFittingSides a → HasDatedEnds day s → written_box day (codes "STBOX XT((" ++ (corners_text a ++ (codes "," ++ (span_text day s ++ codes ")")))) (Both (noted a) (note s))
both_said_by day a s h k =
    let last : Text = codes "," ++ (span_text day s ++ codes ")") in
    worded day (codes "XT((" ++ (corners_text a ++ last)) (Both (noted a) (note s)) (inr (record {
      meant = (tt, Both (noted a) (note s));
      said = record {
        front = codes "X";
        back = codes "T((" ++ (corners_text a ++ last);
        whole = refl;
        first = refl;
        second = inl (record {
          meant = (tt, (tt, (tt, (noted a, (tt, note s)))));
          said = record {
            front = codes "T";
            back = codes "((" ++ (corners_text a ++ last);
            whole = refl;
            first = refl;
            second = record {
              front = codes "(";
              back = codes "(" ++ (corners_text a ++ last);
              whole = refl;
              first = open_said;
              second = record {
                front = codes "(";
                back = corners_text a ++ last;
                whole = refl;
                first = begin_said;
                second = record {
                  front = corners_text a;
                  back = last;
                  whole = refl;
                  first = corners_said_by a h;
                  second = record { front = codes ","; back = span_text day s ++ codes ")"; whole = refl; first = comma_alone; second = closed_said day s k };
                };
              };
            };
          };
          is = refl;
        });
      };
      is = refl;
    }))

area_is : (a : Area) → is_area a ≡ true → area_of (noted a) ≡ Some a
area_is a h = ap Some (between_again a h)

again_by : (day : ℤ) (text : Text) (b : NotedBox) (r : BoxOf) → written_box day text b → sides_said b ≡ Some r → has_sides b ≡ true → span_stands r.time ≡ true → Lit (boxes day) text (Ok r)
again_by day text b r said is fit there =
    let sound : MatchOption (sides_said b) ⊥ (λ x. span_stands x.time ≡ false) → ⊥ = subst (λ (o : Option BoxOf). MatchOption o ⊥ (λ x. span_stands x.time ≡ false) → ⊥) (sym is) (λ (no : span_stands r.time ≡ false). true_false (sym there ∙ no)) in
    (b, within_said text b said, (λ x. x), (λ (no : has_sides b ≡ false). true_false (sym fit ∙ no)), sound, is)

again_dimensions : (day : ℤ) (space : Option Area) (time : Option SpanOf) → (is_some space || is_some time) ≡ true → area_stands space ≡ true → span_stands time ≡ true → IfSome space HasFittingSides → IfSome time (HasDatedEnds day)
    → Lit (boxes day) (dimensions_text day space time) (Ok (record { space = space; time = time }))
again_dimensions day None None some h k f g = absurd (true_false (sym some))
again_dimensions day (Some a) None some h k f g = again_by day (codes "STBOX X(" ++ corners_text a) (Space (noted a)) (record { space = Some a; time = None }) (space_said_by day a f) (rw (area_is a h) refl) refl refl
again_dimensions day None (Some s) some h k f g = again_by day (codes "STBOX T(" ++ (span_text day s ++ codes ")")) (Time (note s)) (record { space = None; time = Some s }) (time_said_by day s g) refl refl k
again_dimensions day (Some a) (Some s) some h k f g = again_by day (codes "STBOX XT((" ++ (corners_text a ++ (codes "," ++ (span_text day s ++ codes ")")))) (Both (noted a) (note s)) (record { space = Some a; time = Some s }) (both_said_by day a s f g) (rw (area_is a h) refl) refl k

pub box_again : (day : ℤ) (b : BoxOf) → is_box b ≡ true → HasDatedSides day b → Lit (boxes day) (box_text day b) (Ok b)
box_again day b h p = again_dimensions day b.space b.time (and_parts (is_some b.space || is_some b.time) _ h).0 (box_area b h) (box_span b h) p.space p.time
