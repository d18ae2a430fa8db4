-- Printed polygons read back as themselves.
use Rattle.std.{specs.Prelude.{MatchOption, None, nat_eq, flat_map, not}, specs.List.{join_with_byte, list_any}}
use Rattle.std.{proofs.Common.{◌≡◌, ◌≤◌, List, [], ◌∷◌, ◌++◌, map, length, Bool, true, false, Option, Some, Ok, refl, sym, subst, ◌∙◌, codes, arith, length-append}, proofs.lemmas.List.{length-map}}
use Rattle.std.proofs.lemmas.Bool.{and_parts, or_parts}
use Rattle.mob_language.{specs.Language.{Text, Language, Separated}, proofs.Heads.{within_said}}
use Rattle.mob_frac.specs.Fits.{Fits}
use Rattle.mob_numeral.{specs.NumberText.{number_text}, specs.Verdict.{Lit}, proofs.Fitted.{number_value_said}}
use Rattle.mob_scalar.{specs.Brackets.{comma}, specs.Traverse.{traverse}, proofs.BracketsSaid.{Each}}
use Rattle.mob_points.proofs.PointsAgain.{gap_said, unreferenced}
use Rattle.mob_plane.{specs.Rings.{are_sound, has_short, has_open, is_short_ring}, specs.Corners.{all_points}, specs.declared.point.Point.{Point}}
use Rattle.mob_geotext.specs.Polygons.{within_brackets, vertex, written_ring, written_polygon, has_many_points, rings_said, polygons}
use Rattle.mob_geotext.{specs.PolygonText.{in_brackets, vertex_text, ring_text, polygon_text, HaveFittingCoordinates, IsReadablePolygon}, proofs.SpansRead.{true_false}}

-- ---- printed lists in brackets

pub comma_alone : comma (codes ",") tt
comma_alone = record {
  meant = ([], (tt, []));
  said = record { front = []; back = codes ","; whole = refl; first = record { is = refl; each = tt }; second = record { front = codes ","; back = []; whole = refl; first = refl; second = record { is = refl; each = tt } } };
  is = refl;
}

joined_said : {A X : Type 0} (l : Language A) (f : X → Text) (g : X → A) (x : X) (xs : List X) → Each l f g (x ∷ xs) → Separated l comma (join_with_byte 44 (map f (x ∷ xs))) (map g (x ∷ xs))
joined_said l f g x [] h = h.0
joined_said l f g x (y ∷ ys) h = (f x, codes ",", join_with_byte 44 (map f (y ∷ ys)), refl, h.0, comma_alone, joined_said l f g y ys h.1)

bracketed_said : {A : Type 0} {l : Language A} (inner : Text) (v : A) → l inner v → within_brackets l (codes "(" ++ (inner ++ codes ")")) v
bracketed_said inner v h = record {
  meant = ((tt, []), (v, ([], tt)));
  said = record {
    front = codes "(";
    back = inner ++ codes ")";
    whole = refl;
    first = record { front = codes "("; back = []; whole = refl; first = refl; second = record { is = refl; each = tt } };
    second = record { front = inner; back = codes ")"; whole = refl; first = h; second = record { front = []; back = codes ")"; whole = refl; first = record { is = refl; each = tt }; second = refl } };
  };
  is = refl;
}

-- ---- points and rings

-- a point as its text has it; then a ring
abbrev note : Point → Option Point
note p = Some p

abbrev notes : List Point → List (Option Point)
notes ring = map note ring

vertex_plain : (p : Point) → Fits p.x → Fits p.y → vertex (vertex_text p) (note p)
vertex_plain p h k = record {
  meant = (Some p.x, (tt, Some p.y));
  said = record {
    front = number_text p.x;
    back = codes " " ++ number_text p.y;
    whole = refl;
    first = number_value_said p.x h;
    second = record { front = codes " "; back = number_text p.y; whole = refl; first = gap_said; second = number_value_said p.y k };
  };
  is = refl;
}

each_vertex : (ring : List Point) → HaveFittingCoordinates ring → Each vertex vertex_text note ring
each_vertex [] h = tt
each_vertex (p ∷ ring) h = (vertex_plain p h.0.0 h.0.1, each_vertex ring h.1)

ring_plain : (ring : List Point) → is_short_ring ring ≡ false → HaveFittingCoordinates ring → written_ring (ring_text ring) (notes ring)
ring_plain [] long h = absurd (true_false long)
ring_plain (p ∷ ring) long h = bracketed_said (join_with_byte 44 (map vertex_text (p ∷ ring))) (notes (p ∷ ring)) (joined_said vertex vertex_text note p ring (each_vertex (p ∷ ring) h))

fits_first : (a b : List Point) → HaveFittingCoordinates (a ++ b) → HaveFittingCoordinates a
fits_first [] b h = tt
fits_first (p ∷ a) b h = (h.0, fits_first a b h.1)

fits_second : (a b : List Point) → HaveFittingCoordinates (a ++ b) → HaveFittingCoordinates b
fits_second [] b h = h
fits_second (p ∷ a) b h = fits_second a b h.1

each_ring : (rings : List (List Point)) → list_any is_short_ring rings ≡ false → HaveFittingCoordinates (all_points rings) → Each written_ring ring_text notes rings
each_ring [] long h = tt
each_ring (ring ∷ rings) long h =
    let both = or_parts (is_short_ring ring) (list_any is_short_ring rings) long in
    (ring_plain ring both.0 (fits_first ring (all_points rings) h), each_ring rings both.1 (fits_second ring (all_points rings) h))

-- ---- what is read from them

points_there : (ring : List Point) → traverse (λ p. p) (notes ring) ≡ Some ring
points_there [] = refl
points_there (p ∷ ring) = rw (points_there ring) refl

rings_there : (rings : List (List Point)) → rings_said (map notes rings) ≡ Some rings
rings_there [] = refl
rings_there (ring ∷ rings) = rw (points_there ring, rings_there rings) refl

same_count : (rings : List (List Point)) → length (flat_map (λ r. r) (map notes rings)) ≡ length (all_points rings)
same_count [] = refl
same_count (ring ∷ rings) =
    let a = length-append (notes ring) (flat_map (λ r. r) (map notes rings)) in
    let b = length-append ring (all_points rings) in
    let c = length-map ring note in
    let d = same_count rings in
    omega (arith, a, b, c, d)

few_points : (rings : List (List Point)) → length (all_points rings) ≤ 1000 → has_many_points (map notes rings) ≡ true → ⊥
few_points rings few many = absurd (grind (arith, few, many, same_count rings))

-- ---- a polygon

long_rings : (rings : List (List Point)) → are_sound rings ≡ true → has_short rings ≡ false
long_rings rings h = by_test (has_short rings) (and_parts (not (has_short rings)) (not (has_open rings)) h).0
  where
    by_test : (b : Bool) → not b ≡ true → b ≡ false
    by_test true e = sym e
    by_test false e = refl

polygon_plain : (rings : List (List Point)) → has_short rings ≡ false → HaveFittingCoordinates (all_points rings) → written_polygon (polygon_text rings) (map notes rings)
polygon_plain [] long h = absurd (true_false long)
polygon_plain (ring ∷ rings) long h =
    let all = ring ∷ rings in
    let each = each_ring all (or_parts (nat_eq (length all) 0) (list_any is_short_ring all) long).1 h in
    record {
      meant = (tt, ([], map notes all));
      said = record {
        front = codes "POLYGON";
        back = in_brackets (map ring_text all);
        whole = refl;
        first = refl;
        second = record { front = []; back = in_brackets (map ring_text all); whole = refl; first = record { is = refl; each = tt }; second = bracketed_said (join_with_byte 44 (map ring_text all)) (map notes all) (joined_said written_ring ring_text notes ring rings each) };
      };
      is = refl;
    }

pub polygon_again : (rings : List (List Point)) → IsReadablePolygon rings → Lit polygons (polygon_text rings) (Ok rings)
polygon_again rings h =
    let there = rings_there rings in
    let said = unreferenced (polygon_text rings) (map notes rings) (polygon_plain rings (long_rings rings h.sound) h.fits) in
    let sound : MatchOption (rings_said (map notes rings)) ⊥ (λ r. are_sound r ≡ false) → ⊥ =
    subst (λ (o : Option (List (List Point))). MatchOption o ⊥ (λ r. are_sound r ≡ false) → ⊥) (sym there) (λ (bad : are_sound rings ≡ false). true_false (sym h.sound ∙ bad)) in
    (map notes rings, within_said (polygon_text rings) (map notes rings) said, few_points rings h.few, (λ none. not_none rings (sym there ∙ none)), sound, there)
  where
    not_none : (rings : List (List Point)) → ◌≡◌ {A = Option (List (List Point))} (Some rings) None → ⊥
    not_none rings e = absurd cc
