-- The first two minutes of the demo's first ship.
use Rattle.std.specs.Prelude.{◌≡◌, codes}
use Rattle.mob_demo.specs.Demo.{position_text}

pub record FirstPositions : Type 0 where
  pub begins : position_text 1 0 ≡ codes "POINT(173 311)@2001-01-01 00:00:00+00"
  pub goes_on : position_text 1 1 ≡ codes "POINT(196 331)@2001-01-01 00:01:00+00"
