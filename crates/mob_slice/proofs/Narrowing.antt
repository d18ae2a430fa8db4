-- Where the parts of a formula fit, so do the numbers that it gives.
use Rattle.std.{specs.Prelude.{◌≡◌, Bool, true, false, cond, not, ◌&&◌, ◌||◌, List, [], ◌∷◌, None}, proofs.Common.{refl, sym, subst, inl, inr}}
use Rattle.mob_ratio.{specs.Ratio.{Ratio}, specs.Order.{before, same}, specs.Line.{line_at}, proofs.LineAt.{line_at-quotient}}
use Rattle.mob_frac.{specs.Fits.{Fits}, specs.Formula.{AllFit, line_parts, inner_parts}, proofs.Fitting.{all_both, all_first, all_second}}
use Rattle.mob_slice.{specs.Entries.{IsFirst}, specs.Lines.{line_parts_of, plane_parts_of}, specs.Modes.{entry_given}, specs.Numbers.{line_numbers, line_numbers_of, plane_numbers_of}}
use Rattle.mob_slice.{specs.declared.line.Line.{Line}, specs.declared.line.PlaneLine.{PlaneLine}}

-- the last part of F1 is the value
value_fits : (x0 x1 l u t : Ratio) → before l u ≡ true → AllFit (inner_parts x0 x1 l u t) → Fits (line_at x0 x1 l u t)
value_fits x0 x1 l u t long h = subst Fits (sym (line_at-quotient x0 x1 l u t long)) h.1.1.1.1.1.0

by_tests : (x0 x1 l u t : Ratio) (long held : Bool) → before l u ≡ long → AllFit (cond held [] (inner_parts x0 x1 l u t)) → AllFit (cond (long && not held) (line_at x0 x1 l u t ∷ []) [])
by_tests x0 x1 l u t true true long h = tt
by_tests x0 x1 l u t true false long h = (value_fits x0 x1 l u t long h, tt)
by_tests x0 x1 l u t false held long h = tt

-- where F1 at t fits, so does the number there
pub line_narrows : (x0 x1 l u t : Ratio) → AllFit (line_parts x0 x1 l u t) → AllFit (line_numbers x0 x1 l u t)
line_narrows x0 x1 l u t h = by_tests x0 x1 l u t (before l u) (same t l || same t u || same x0 x1) refl h

pub number_narrows : (c : Line) (l u t : Ratio) → AllFit (line_parts_of c l u t) → AllFit (line_numbers_of c l u t)
number_narrows c l u t h = line_narrows c.from c.to l u t h

pub point_narrows : (c : PlaneLine) (l u t : Ratio) → AllFit (plane_parts_of c l u t) → AllFit (plane_numbers_of c l u t)
point_narrows c l u t h =
    all_both (line_numbers c.from.x c.to.x l u t) (line_numbers c.from.y c.to.y l u t)
    (line_narrows c.from.x c.to.x l u t (all_first (line_parts c.from.x c.to.x l u t) (line_parts c.from.y c.to.y l u t) h))
    (line_narrows c.from.y c.to.y l u t (all_second (line_parts c.from.x c.to.x l u t) (line_parts c.from.y c.to.y l u t) h))

-- numbers that fit have no first fault, and the other way
pub given_fits : (numbers : List Ratio) → AllFit numbers → IsFirst (entry_given numbers) None
given_fits numbers h = inl (h, refl)

pub fits_given : (numbers : List Ratio) → IsFirst (entry_given numbers) None → AllFit numbers
fits_given numbers (inl h) = h.0
fits_given numbers (inr h) = cc h.1
