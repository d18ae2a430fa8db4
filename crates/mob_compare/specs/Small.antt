-- Small numbers in place of gaps of any size: with the same signs, and, for two gaps, with one root
-- exactly if those have one.
use Rattle.std.{specs.Prelude.{◌≡◌, Bool, cond, pos, negsuc}, specs.declared.cmp.Ordering.{Ordering}, specs.declared.cmp.Ordering.TheVariants.{Less, Equal, Greater}}
use Rattle.mob_ratio.{specs.Ratio.{Ratio, whole}, specs.Sign.{nil}}
use Rattle.mob_span.specs.Span.{SpanOf}
use Rattle.mob_slice.specs.declared.comparison.Gaps.{Gaps}
use Rattle.mob_cells.specs.declared.differences.EndGaps.{EndGaps}
use Rattle.mob_compare.specs.Met.{gaps_meet}

-- -1, 0 or 1
abbrev pub small : Ordering → Ratio
small Less = whole (negsuc 0)
small Equal = nil
small Greater = whole (pos 1)

-- -2, 0 or 2
abbrev pub twice : Ordering → Ratio
twice Less = whole (negsuc 1)
twice Equal = nil
twice Greater = whole (pos 2)

-- the last of the four gaps
abbrev pub last_small : Bool → Ordering → Ratio
last_small shared o = cond shared (small o) (twice o)

-- each test of orders has the same result on each span for the gaps f and g at its two ends and for
-- those of `ends`
pub record AreDecidedAlike (f g : Gaps) (ends : EndGaps) : Type 0 where
  pub alike : (test : Ordering → Bool) (s : SpanOf) → gaps_meet test s ends.at_lower ends.at_upper ≡ gaps_meet test s f g
