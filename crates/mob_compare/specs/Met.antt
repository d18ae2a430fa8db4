-- Whether a comparison has the wanted result at some instant of a piece that two operands share.
use Rattle.std.{specs.Prelude.{Bool, cond, ◌&&◌, ◌||◌}, specs.declared.cmp.Ordering.{Ordering}, specs.declared.cmp.Ordering.TheVariants.{Less, Equal, Greater}}
use Rattle.mob_ratio.{specs.Ratio.{Ratio}, specs.Order.{same}, specs.Sign.{nil, sign_of}}
use Rattle.mob_span.{specs.Span.{SpanOf}, specs.Meets.{PieceOf}, specs.Flags.{same_bool}}
use Rattle.mob_slice.{specs.Ranks.{holds}, specs.Sides.{SideOf, side_start}, specs.declared.comparison.Rel.{Rel}, specs.declared.comparison.Gaps.{Gaps}}
use Rattle.mob_slice.specs.declared.comparison.Gaps.TheVariants.{Constant, One, Two}
use Rattle.mob_cells.{specs.declared.linear.Ends.{Ends}, specs.Gaps.{piece_gaps}}
use Rattle.mob_compare.specs.Taken.{takes_sign, both_nil}

-- the order of two values with these gaps: two points are equal if both gaps are 0
abbrev pub order_of : Gaps → Ordering
order_of Constant = Equal
order_of (One g) = sign_of g
order_of (Two g h) = cond (same g nil && same h nil) Equal Less

abbrev pub line_between : Ratio → Ratio → Ends
line_between f g = record { at_lower = f; at_upper = g }

-- a line satisfies a test of its sign at some instant of the span
abbrev pub one_meets : (Ordering → Bool) → SpanOf → Ends → Bool
one_meets test s f = (test Less && takes_sign s f Less) || (test Equal && takes_sign s f Equal) || (test Greater && takes_sign s f Greater)

-- two lines satisfy a test of an order that is Equal if both are 0, and otherwise Less
abbrev pub two_meet : (Ordering → Bool) → SpanOf → Ends → Ends → Bool
two_meet test s f e = (test Equal && both_nil s f e) || (test Less && (takes_sign s f Less || takes_sign s f Greater || takes_sign s e Less || takes_sign s e Greater))

-- courses with the first gaps at the lower end of the span and the second at the upper one satisfy
-- a test of their order
abbrev pub gaps_meet : (Ordering → Bool) → SpanOf → Gaps → Gaps → Bool
gaps_meet test s (One f) (One g) = one_meets test s (line_between f g)
gaps_meet test s (Two f e) (Two g h) = two_meet test s (line_between f g) (line_between e h)
gaps_meet test s a b = test Equal

-- the comparison has the wanted result at some instant of the piece
abbrev pub piece_meets : {C B : Type 0} → Bool → (C → Ratio → Ratio → Ratio → B) → (C → B) → (Rel → B → B → Bool) → (B → B → Gaps) → Rel → Bool → PieceOf (SideOf C B) (SideOf C B) → Bool
piece_meets steady value start relation gaps rel want p =
    cond steady
    (same_bool (relation rel (side_start start p.left) (side_start start p.right)) want)
    (gaps_meet (λ o. same_bool (holds rel o) want) p.span (piece_gaps value gaps p p.span.lower) (piece_gaps value gaps p p.span.upper))
