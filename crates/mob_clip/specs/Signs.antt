-- Signs that change, and the tally of a point by the signs of edges.
use Rattle.std.{specs.Prelude.{false, cond, ◌||◌, List, [], ◌∷◌, Option, Some, None, MatchOption}, specs.declared.cmp.Ordering.{Ordering}}
use Rattle.std.specs.declared.cmp.Ordering.TheVariants.{Less, Equal, Greater}
use Rattle.mob_ratio.{specs.Ratio.{Ratio}, specs.Order.{before}, specs.Sign.{sign_of}}
use Rattle.mob_frac.specs.Formula.{AllFit}
use Rattle.mob_span.specs.Span.{SpanOf}
use Rattle.mob_cells.{specs.declared.linear.Ends.{Ends}, specs.Roots.{function_at}}
use Rattle.mob_plane.{specs.Membership.{is_one_alone}, specs.declared.edges.EdgeSigns.{EdgeSigns}, specs.declared.edges.Tally.{Tally}, specs.EdgeWise.{with_edge, none_yet}}
use Rattle.mob_clip.{specs.declared.membership.SignChange.{SignChange}, specs.declared.membership.EdgeSign.{EdgeSign}, specs.declared.membership.EdgeSign.TheVariants.{Turn, XA, XB, YA, YB}}
use Rattle.mob_clip.{specs.declared.timeline.Change.{Change}, specs.declared.roots.EdgePlaced.{EdgePlaced}}

-- the sign at the instant t; it is Equal at the instant of the change
abbrev pub changing_at : Ordering → Option Ratio → Ordering → Ratio → Ordering
changing_at first None after t = first
changing_at first (Some r) after t = cond (before t r) first (cond (before r t) after Equal)

abbrev pub changing_sign : SignChange → Ratio → Ordering
changing_sign c t = changing_at c.first c.at c.after t

-- the parts of a formula fit at the instant of the change
abbrev pub FitsChange : (Ratio → List Ratio) → SignChange → Type 0
FitsChange parts c = MatchOption c.at (Unit {0}) (λ r. AllFit (parts r))

-- one of two signs, at least one of which is Equal
abbrev pub known_sign : Ordering → Ordering → Ordering
known_sign Less o = Less
known_sign Equal o = o
known_sign Greater o = Greater

-- the signs of an edge, some known from the first and others from the second
abbrev pub known_signs : EdgeSigns → EdgeSigns → EdgeSigns
known_signs a b = record { turn = known_sign a.turn b.turn; x_a = known_sign a.x_a b.x_a; x_b = known_sign a.x_b b.x_b; y_a = known_sign a.y_a b.y_a; y_b = known_sign a.y_b b.y_b }

-- the signs of an edge, one of which is known, o, and the others Equal
abbrev pub one_known : EdgeSign → Ordering → EdgeSigns
one_known Turn o = record { turn = o; x_a = Equal; x_b = Equal; y_a = Equal; y_b = Equal }
one_known XA o = record { turn = Equal; x_a = o; x_b = Equal; y_a = Equal; y_b = Equal }
one_known XB o = record { turn = Equal; x_a = Equal; x_b = o; y_a = Equal; y_b = Equal }
one_known YA o = record { turn = Equal; x_a = Equal; x_b = Equal; y_a = o; y_b = Equal }
one_known YB o = record { turn = Equal; x_a = Equal; x_b = Equal; y_a = Equal; y_b = o }

-- the signs of an edge at the instant t, one of which is known, that of f
abbrev pub known_at : SpanOf → EdgeSign → Ends → Ratio → EdgeSigns
known_at s which f t = one_known which (sign_of (function_at s f t))

-- the sign between two ends with these signs, if no root lies between them
abbrev pub ends_change : SpanOf → Ordering → Ordering → SignChange
ends_change s Equal Equal = record { first = Equal; at = None; after = Equal }
ends_change s Equal u = record { first = u; at = Some s.lower; after = u }
ends_change s l Equal = record { first = l; at = Some s.upper; after = l }
ends_change s l u = record { first = l; at = None; after = l }

-- the position of a point relative to an edge at the instant t
abbrev pub signs_on : SpanOf → Ratio → EdgePlaced → EdgeSigns
signs_on s t g = record {
  turn = sign_of (function_at s g.turn.ends t);
  x_a = sign_of (function_at s g.x_a.ends t);
  x_b = sign_of (function_at s g.x_b.ends t);
  y_a = sign_of (function_at s g.y_a.ends t);
  y_b = sign_of (function_at s g.y_b.ends t);
}

-- the position relative to the ends of the edge only
abbrev pub signs_beside : SpanOf → Ratio → EdgePlaced → EdgeSigns
signs_beside s t g = record {
  turn = Equal;
  x_a = sign_of (function_at s g.x_a.ends t);
  x_b = sign_of (function_at s g.x_b.ends t);
  y_a = sign_of (function_at s g.y_a.ends t);
  y_b = sign_of (function_at s g.y_b.ends t);
}

-- the tally of a point by one edge
abbrev pub edge_tally : EdgeSigns → Tally
edge_tally s = with_edge none_yet s

abbrev pub tally_change : Change EdgeSigns → Change Tally
tally_change c = record { at = c.at; there = edge_tally c.there; after = edge_tally c.after }

-- the joint tally of a point by two sets of edges
abbrev pub tally_both : Tally → Tally → Tally
tally_both a b = record { on = a.on || b.on; odd = is_one_alone a.odd b.odd }

abbrev pub tally_all : List Tally → Tally
tally_all [] = record { on = false; odd = false }
tally_all (t ∷ ts) = tally_both t (tally_all ts)
