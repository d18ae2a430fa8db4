-- What is known of the straight courses from a kept break, so that tests can be skipped.
--
-- A straight course from p is given by its velocity. It is within d of the break b exactly where
-- its velocity lies in a disc, which is smaller the later b is. So the courses that are near all
-- breaks between have the velocities of an intersection of discs. A rectangle inside of it tells
-- that a break passes without a test. A disc inside another makes the test of the other needless.
use Rattle.std.specs.Prelude.{◌≡◌, Bool, true, false, ◌&&◌, List}
use Rattle.mob_ratio.{specs.Ratio.{Ratio, ◌+ℚ◌, ◌-ℚ◌, ◌*ℚ◌, ◌/ℚ◌}, specs.Order.{before, up_to, smaller, greater}}
use Rattle.mob_simplify.{specs.Breaks.{off_course, passes_within}, specs.declared.breaks.Break.{Break}, specs.declared.velocities.Velocities.{Velocities}, specs.declared.velocities.Sure.{Sure}}
use Rattle.mob_simplify.specs.declared.velocities.Sure.TheVariants.{All, Within, Unknown}

-- the time from p to n
abbrev pub time_to : Break → Break → Ratio
time_to p n = n.instant -ℚ p.instant

-- the velocity of a coordinate that goes from x0 to x1 in this time
abbrev pub rate : Ratio → Ratio → Ratio → Ratio
rate x0 x1 time = (x1 -ℚ x0) /ℚ time

-- the velocity of the straight course from p to n, to the east and to the north
abbrev pub rate_east : Break → Break → Ratio
rate_east p n = rate p.place.x n.place.x (time_to p n)

abbrev pub rate_north : Break → Break → Ratio
rate_north p n = rate p.place.y n.place.y (time_to p n)

-- the velocities of a rectangle
abbrev pub has_velocity : Velocities → Ratio → Ratio → Bool
has_velocity v x y = up_to v.west x && up_to x v.east && up_to v.south y && up_to y v.north

-- the velocities with which a course from p is at most h to the east, west, north and south of b at
-- the instant of b
abbrev pub velocities_near : Ratio → Break → Break → Velocities
velocities_near h p b = record {
  west = rate p.place.x (b.place.x -ℚ h) (time_to p b);
  east = rate p.place.x (b.place.x +ℚ h) (time_to p b);
  south = rate p.place.y (b.place.y -ℚ h) (time_to p b);
  north = rate p.place.y (b.place.y +ℚ h) (time_to p b);
}

-- those of two rectangles
abbrev pub shared_velocities : Velocities → Velocities → Velocities
shared_velocities v w = record { west = greater v.west w.west; east = smaller v.east w.east; south = greater v.south w.south; north = smaller v.north w.north }

-- a velocity is surely near: of all, of those in a rectangle, or of none that is known
abbrev pub is_sure : Sure → Ratio → Ratio → Bool
is_sure All x y = true
is_sure (Within v) x y = has_velocity v x y
is_sure Unknown x y = false

-- a square with sides of 2h lies in the circle with the radius d
abbrev pub IsInCircle : Ratio → Ratio → Type 0
IsInCircle h d = up_to (h *ℚ h +ℚ h *ℚ h) (d *ℚ d) ≡ true

-- The break q decides for b: each course from p to a break after q that is within d of q is within
-- d of b.
abbrev pub DecidesFor : Ratio → Break → Break → Break → Type 0
DecidesFor d p q b = (n : Break) → before q.instant n.instant ≡ true → up_to (off_course p n q) (d *ℚ d) ≡ true → up_to (off_course p n b) (d *ℚ d) ≡ true

-- the distance that b leaves to a course which is within d of q, where b is between p and q
abbrev pub spare_beside : Ratio → Break → Break → Break → Ratio
spare_beside d p q b = d *ℚ (time_to b q /ℚ time_to p q)

-- for every break after the instant u, two lists of breaks say the same
abbrev pub DecideAlike : Ratio → Break → Ratio → List Break → List Break → Type 0
DecideAlike d p u held between = (n : Break) → before u n.instant ≡ true → passes_within d p held n ≡ passes_within d p between n

-- each course to a break after u whose velocity is sure is near all of these breaks
abbrev pub AreSure : Ratio → Break → Ratio → List Break → Sure → Type 0
AreSure d p u between sure = (n : Break) → before u n.instant ≡ true → is_sure sure (rate_east p n) (rate_north p n) ≡ true → passes_within d p between n ≡ true

-- What is known of the breaks between p and the instant u, for the breaks after u: those that are
-- held say the same as all, and velocities that are sure are near all.
pub record IsKnownBetween (d : Ratio) (p : Break) (u : Ratio) (between held : List Break) (sure : Sure) : Type 0 where
  pub alike : DecideAlike d p u held between
  pub all_near : AreSure d p u between sure
