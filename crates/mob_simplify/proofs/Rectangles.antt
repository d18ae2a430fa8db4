-- The velocities of two rectangles.
use Rattle.std.{specs.Prelude.{◌≡◌, true, ◌&&◌, refl}, proofs.lemmas.Bool.{and_parts}}
use Rattle.mob_ratio.{specs.Ratio.{Ratio}, specs.Order.{up_to}, proofs.Order.{greater_left, greater_right, smaller_left, smaller_right, up_to-trans}}
use Rattle.mob_simplify.{specs.Skips.{has_velocity, shared_velocities}, specs.declared.velocities.Velocities.{Velocities}}

-- the velocity is in all four bounds
pub record IsBounded (v : Velocities) (x y : Ratio) : Type 0 where
  pub west : up_to v.west x ≡ true
  pub east : up_to x v.east ≡ true
  pub south : up_to v.south y ≡ true
  pub north : up_to y v.north ≡ true

pub bounded : (v : Velocities) (x y : Ratio) → has_velocity v x y ≡ true → IsBounded v x y
bounded v x y h =
    let west = up_to v.west x in
    let east = up_to x v.east in
    let south = up_to v.south y in
    let i = and_parts (west && east && south) (up_to y v.north) h in
    let j = and_parts (west && east) south i.0 in
    let e = and_parts west east j.0 in
    record { west = e.0; east = e.1; south = j.1; north = i.1 }

is_bounded : (v : Velocities) (x y : Ratio) → IsBounded v x y → has_velocity v x y ≡ true
is_bounded v x y h = rw (h.west, h.east, h.south, h.north) refl

module _ (v w : Velocities) (x y : Ratio) (h : has_velocity (shared_velocities v w) x y ≡ true) where
  in_both : IsBounded (shared_velocities v w) x y
  in_both = bounded (shared_velocities v w) x y h

  pub of_first : has_velocity v x y ≡ true
  of_first = is_bounded v x y (record {
    west = up_to-trans _ _ _ (greater_left v.west w.west) in_both.west;
    east = up_to-trans _ _ _ in_both.east (smaller_left v.east w.east);
    south = up_to-trans _ _ _ (greater_left v.south w.south) in_both.south;
    north = up_to-trans _ _ _ in_both.north (smaller_left v.north w.north);
  })

  pub of_second : has_velocity w x y ≡ true
  of_second = is_bounded w x y (record {
    west = up_to-trans _ _ _ (greater_right v.west w.west) in_both.west;
    east = up_to-trans _ _ _ in_both.east (smaller_right v.east w.east);
    south = up_to-trans _ _ _ (greater_right v.south w.south) in_both.south;
    north = up_to-trans _ _ _ in_both.north (smaller_right v.north w.north);
  })
