-- Completed pieces of work, and their joint outcome.
use Rattle.std.specs.Prelude.{◌≡◌, ℕ, ◌≤◌, List, Result, All, MatchOption}
use Rattle.mob_fan.{specs.Outcomes.{outcome_seen}, specs.declared.pieces.RangePiece.{RangePiece}, specs.declared.gathering.Gathered.{Gathered}}

module _ {W I F : Type 0} (size : W → ℕ) (comes : W → ℕ → ℕ → Result (List I) F → Type 0) (w : W) where
  -- the outcome of a piece is that of its range
  pub record IsRangePiece (p : RangePiece I F) : Type 0 where
    pub order : p.from ≤ p.to
    pub range : p.to ≤ size w
    pub outcome : comes w p.from p.to (outcome_seen p.outcome)

  abbrev pub AreRangePieces : List (RangePiece I F) → Type 0
  AreRangePieces ps = All IsRangePiece ps

  -- the outcome of the joined pieces is that of the range from 0 to their end
  pub record IsGathered (j : Gathered I F) : Type 0 where
    pub range : j.to ≤ size w
    pub outcome : MatchOption j.outcome (j.to ≡ 0) (λ o. comes w 0 j.to (outcome_seen o))
