-- Numbers that pass one after another, up to the first one above a limit.
use Rattle.std.specs.Prelude.{ℕ, List, [], ◌∷◌, Result, Ok, Err, nat_le, if◌then◌else◌}
use Rattle.mob_fan.specs.Outcomes.{joined_outcomes}

-- all of them, or the first that does not pass
abbrev pub passed : ℕ → List ℕ → Result (List ℕ) ℕ
passed limit [] = Ok []
passed limit (n ∷ ns) = if nat_le n limit then joined_outcomes (Ok (n ∷ [])) (passed limit ns) else Err n
