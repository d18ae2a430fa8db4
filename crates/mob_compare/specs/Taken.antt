-- The signs that a linear function takes on a span, by its values at the two ends alone. No root is
-- computed.
use Rattle.std.{specs.Prelude.{Bool, cond, ◌&&◌, ◌||◌}, specs.declared.cmp.Ordering.{Ordering}, specs.declared.cmp.Ordering.TheVariants.{Less, Equal, Greater}}
use Rattle.mob_ratio.{specs.Ratio.{Ratio, ◌/ℚ◌}, specs.Order.{before, same}, specs.Sign.{nil, opposite}}
use Rattle.mob_span.specs.Span.{SpanOf}
use Rattle.mob_cells.specs.declared.linear.Ends.{Ends}

-- the number has this sign
abbrev pub sign_is : Ordering → Ratio → Bool
sign_is Less q = before q nil
sign_is Equal q = same q nil
sign_is Greater q = before nil q

-- the line from f to g takes this sign strictly between its ends: a sign other than 0 near an end
-- that has it, and 0 at the root between ends of opposite signs, or everywhere if both ends are 0
abbrev pub takes_inside : Ratio → Ratio → Ordering → Bool
takes_inside f g Less = before f nil || before g nil
takes_inside f g Equal = opposite f g || (same f nil && same g nil)
takes_inside f g Greater = before nil f || before nil g

-- the function takes this sign at some instant of the span
abbrev pub takes_sign : SpanOf → Ends → Ordering → Bool
takes_sign s f o = cond (before s.lower s.upper) (takes_inside f.at_lower f.at_upper o || (s.lower_inc && sign_is o f.at_lower) || (s.upper_inc && sign_is o f.at_upper)) (sign_is o f.at_lower)

-- a line is 0 from end to end
abbrev pub is_nil_line : Ends → Bool
is_nil_line f = same f.at_lower nil && same f.at_upper nil

-- two lines are 0 at one instant strictly between their ends: each is 0 somewhere inside, and one
-- is 0 everywhere or both have the same root
abbrev pub nil_inside : Ends → Ends → Bool
nil_inside f e = takes_inside f.at_lower f.at_upper Equal && takes_inside e.at_lower e.at_upper Equal && (is_nil_line f || is_nil_line e || same (f.at_lower /ℚ f.at_upper) (e.at_lower /ℚ e.at_upper))

-- two lines are 0 at one instant of the span
abbrev pub both_nil : SpanOf → Ends → Ends → Bool
both_nil s f e = cond (before s.lower s.upper) (nil_inside f e || (s.lower_inc && same f.at_lower nil && same e.at_lower nil) || (s.upper_inc && same f.at_upper nil && same e.at_upper nil)) (same f.at_lower nil && same e.at_lower nil)
