-- The answers of the reader of polygons, by what it reads.
use Rattle.std.specs.Prelude.{MatchOption, flat_map, nat_lt}
use Rattle.std.{proofs.Common.{◌≡◌, ℕ, ◌+◌, ◌<◌, ◌≤◌, refl, List, length, get_or, take, true, false, Option, Some, None, Ok, Err, sym, subst, ◌∙◌, arith}, proofs.lemmas.Bool.Decides.{nat_tests}}
use Rattle.std.proofs.lemmas.List.Folds.{length-flat_map-take}
use Rattle.mob_language.{specs.Language.{Text}, specs.Readers.{all_of, within_blanks_at}, proofs.Exact.{is_said, not_said}}
use Rattle.mob_numeral.{specs.declared.fault.ReadText.TheVariants.{NotText, Limit, TooLarge, Unsound}, specs.Verdict.{Lit}}
use Rattle.mob_plane.{specs.Rings.{are_sound}, specs.declared.point.Point.{Point}}
use Rattle.mob_geotext.{specs.Polygons.{has_many_points, rings_said, polygons, polygon_value_at}, proofs.SpansRead.{true_false}, proofs.PolygonsExact.{polygons_exact}}

more_than : (n : ℕ) → 1000 < n → true ≡ nat_lt 1000 n
more_than n h = grind (arith, h, nat_tests)

-- a ring with more points than are still allowed
pub too_many : (rings : List (List (Option Point))) (i left : ℕ) (ring : List (Option Point)) → i < length rings → ring ≡ get_or rings i ring → left + length (flat_map (λ r. r) (take i rings)) ≡ 1000 → left < length ring → true ≡ has_many_points rings
too_many rings i left ring h is so_far more =
    let e = subst (λ r. length (flat_map (λ r. r) (take i rings)) + length r ≤ length (flat_map (λ r. r) rings)) (sym is) (length-flat_map-take (λ r. r) rings i ring h) in
    more_than (length (flat_map (λ r. r) rings)) (omega (arith, e, so_far, more))

abbrev all_rings : Text → Option (List (List (Option Point)))
all_rings bytes = all_of (within_blanks_at polygon_value_at) bytes

pub no_polygon : (text bytes : Text) → bytes ≡ text → ◌≡◌ {A = Option (List (List (Option Point)))} None (all_rings bytes) → Lit polygons text (Err NotText)
no_polygon text bytes e h = λ s said. not_said polygons_exact refl text bytes s e h said

module _ (text bytes : Text) (s : List (List (Option Point))) (e : bytes ≡ text) (h : ◌≡◌ {A = Option (List (List (Option Point)))} (Some s) (all_rings bytes)) where
  pub long_polygon : has_many_points s ≡ true → Lit polygons text (Err Limit)
  long_polygon k = (s, is_said polygons_exact text bytes s e h, k)

  few : has_many_points s ≡ false → has_many_points s ≡ true → ⊥
  few k n = true_false (sym n ∙ k)

  pub large_polygon : has_many_points s ≡ false → ◌≡◌ {A = Option (List (List Point))} None (rings_said s) → Lit polygons text (Err TooLarge)
  large_polygon k n = (s, is_said polygons_exact text bytes s e h, few k, sym n)

  not_large : (rings : List (List Point)) → ◌≡◌ {A = Option (List (List Point))} (Some rings) (rings_said s) → ◌≡◌ {A = Option (List (List Point))} (rings_said s) None → ⊥
  not_large rings r n = some_none rings (r ∙ n)
    where
      some_none : (rings : List (List Point)) → ◌≡◌ {A = Option (List (List Point))} (Some rings) None → ⊥
      some_none rings e = absurd cc

  pub unsound_polygon : (rings : List (List Point)) → has_many_points s ≡ false → ◌≡◌ {A = Option (List (List Point))} (Some rings) (rings_said s) → are_sound rings ≡ false → Lit polygons text (Err Unsound)
  unsound_polygon rings k r bad = (s, is_said polygons_exact text bytes s e h, few k, not_large rings r, subst (λ (o : Option (List (List Point))). MatchOption o ⊥ (λ rings. are_sound rings ≡ false)) r bad)

  pub polygon_read : (rings polygon : List (List Point)) → has_many_points s ≡ false → ◌≡◌ {A = Option (List (List Point))} (Some rings) (rings_said s) → are_sound rings ≡ true → polygon ≡ rings → Lit polygons text (Ok polygon)
  polygon_read rings polygon k r good is =
      let sound : MatchOption (rings_said s) ⊥ (λ rings. are_sound rings ≡ false) → ⊥ = subst (λ (o : Option (List (List Point))). MatchOption o ⊥ (λ rings. are_sound rings ≡ false) → ⊥) r (λ (bad : are_sound rings ≡ false). true_false (sym good ∙ bad)) in
      (s, is_said polygons_exact text bytes s e h, few k, not_large rings r, sound, subst (λ (p : List (List Point)). rings_said s ≡ Some p) (sym is) (sym r))
