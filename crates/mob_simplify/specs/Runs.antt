-- The runs of a moving point, and their kept breaks.
use Rattle.std.specs.Prelude.{◌≡◌, true, false, List, [], ◌∷◌, ◌++◌, map}
use Rattle.mob_ratio.{specs.Ratio.{Ratio}, specs.Order.{before}}
use Rattle.mob_span.{specs.Neighbours.{Meets}, specs.Chained.{OfHead}}
use Rattle.mob_slice.{specs.declared.line.PlaneLine.{PlaneLine}, specs.declared.slice.Slice.{Slice}}
use Rattle.mob_simplify.{specs.Breaks.{start_of, end_of, passes_within}, specs.declared.breaks.Break.{Break}}

-- The slice r continues the run of s: both are longer than an instant, and r includes the instant
-- where they meet, and starts with the limit of s.
pub record GoesOn (s r : Slice PlaneLine) : Type 0 where
  pub first_long : before s.span.lower s.span.upper ≡ true
  pub next_long : before r.span.lower r.span.upper ≡ true
  pub meets : Meets s.span r.span
  pub held : r.span.lower_inc ≡ true
  pub level : s.course.to ≡ r.course.from

-- the last of a slice and its successors
abbrev pub last_slice : Slice PlaneLine → List (Slice PlaneLine) → Slice PlaneLine
last_slice s [] = s
last_slice s (r ∷ more) = last_slice r more

-- each of these slices continues the run of the one before it
abbrev pub IsChain : Slice PlaneLine → List (Slice PlaneLine) → Type 0
IsChain s [] = Unit {0}
IsChain s (r ∷ more) = GoesOn s r × IsChain r more

-- The breaks of a run after its first: the starts of the slices after the first one, and the end of
-- the last.
abbrev pub later_breaks : Slice PlaneLine → List (Slice PlaneLine) → List Break
later_breaks s more = map start_of more ++ end_of (last_slice s more) ∷ []

-- a kept break, with the breaks of its run after it
pub record KeptBreak : Type 0 where
  pub at : Break
  pub later : List Break

-- each break of a list passes after p; `between` are those between p and the list
abbrev pub AllPass : Ratio → Break → List Break → List Break → Type 0
AllPass d p between [] = Unit {0}
AllPass d p between (n ∷ ns) = (passes_within d p between n ≡ true) × AllPass d p (between ++ n ∷ []) ns

-- The next kept break after p is m: the last one such that all breaks after p up to it pass.
pub record IsNextKept (d : Ratio) (p m : KeptBreak) : Type 0 where
  pub skipped : List Break
  pub split : p.later ≡ skipped ++ m.at ∷ m.later
  pub pass : AllPass d p.at [] (skipped ++ m.at ∷ [])
  pub last : OfHead (λ m n. passes_within d p.at (skipped ++ m ∷ []) n ≡ false) m.at m.later

-- the kept breaks after p, up to the last break of the run
abbrev pub AreKeptBreaks : Ratio → KeptBreak → List KeptBreak → Type 0
AreKeptBreaks d p [] = p.later ≡ []
AreKeptBreaks d p (m ∷ kept) = IsNextKept d p m × AreKeptBreaks d m kept

-- A run: its first slice, those that continue it, and the kept breaks after the first break. A
-- slice of one instant is a run of its own, whose two breaks are kept.
pub record RunOf : Type 0 where
  pub first : Slice PlaneLine
  pub more : List (Slice PlaneLine)
  pub kept : List KeptBreak

-- the first break of a run is kept
abbrev pub first_kept : RunOf → KeptBreak
first_kept g = record { at = start_of g.first; later = later_breaks g.first g.more }

-- The runs of a list of slices, with their kept breaks: a run is a maximal list of neighbours that
-- continue each other.
abbrev pub AreRuns : Ratio → List RunOf → List (Slice PlaneLine) → Type 0
AreRuns d [] slices = slices ≡ []
AreRuns d (g ∷ runs) slices = (rest : List (Slice PlaneLine))
    × (slices ≡ g.first ∷ g.more ++ rest)
    × IsChain g.first g.more
    × OfHead (λ s r. ¬ GoesOn s r) (last_slice g.first g.more) rest
    × AreKeptBreaks d (first_kept g) g.kept
    × AreRuns d runs rest
