-- Instants inside and between spans.
use Rattle.std.{specs.Prelude.{◌≡◌, Bool, true, false, ◌||◌, ◌&&◌}, proofs.Common.{arith, refl, sym, ◌∙◌}}
use Rattle.mob_span.{specs.Span.{SpanOf, has, has_instant}, specs.Neighbours.{Meets}, specs.Meet.{ends_before}, proofs.Insides.{inner_has}}
use Rattle.mob_ratio.{specs.Ratio.{Ratio}, specs.Order.{before, up_to}, proofs.Order.{before-self, before-back, before-trans, before-neither, between, up_to-self}}
use Rattle.mob_lift.proofs.Regions.{StartAlike, gap, high_within, remains}

-- t lies from the first to the last
abbrev pub is_from_to : Ratio → Ratio → Ratio → Bool
is_from_to lower upper t = up_to lower t && up_to t upper

pub has_from_to : (s : SpanOf) (t : Ratio) → has s t ≡ true → is_from_to s.lower s.upper t ≡ true
has_from_to s t h = grind (arith, before-back s.lower t, before-back t s.upper)

-- two instants strictly between
pub record TwoBetween (l u : Ratio) : Type 0 where
  pub first : Ratio
  pub second : Ratio
  pub after_l : before l first ≡ true
  pub in_turn : before first second ≡ true
  pub before_u : before second u ≡ true

pub two_between : (l u : Ratio) → before l u ≡ true → TwoBetween l u
two_between l u h = let d = between l u h in let e = between d.0 u d.2 in record { first = d.0; second = e.0; after_l = d.1; in_turn = e.1; before_u = e.2 }

-- the case of a common interval: b ends in c
pub stretch_in : (a b c : SpanOf) (t : Ratio) → StartAlike a b → has_instant a ≡ true → Meets a c → ends_before b c ≡ true → before a.upper t ≡ true → before t b.upper ≡ true → (has b t ≡ true) × (has c t ≡ true) × (has a t ≡ false)
stretch_in a b c t s k m e h l =
    let low : before b.lower t ≡ true = grind (arith, s.lower, before-trans a.lower a.upper t, before-neither a.lower a.upper, before-back a.lower a.upper) in
    let high : before t c.upper ≡ true = grind (arith, before-trans t b.upper c.upper, before-neither b.upper c.upper, before-back b.upper c.upper) in
    let from : before c.lower t ≡ true = rw (← m.at_one) h in
    (inner_has b t low l, inner_has c t from high, grind (arith, before-back a.upper t))

-- the case of one shared instant
pub record OneShared (a b c : SpanOf) : Type 0 where
  pub at : b.upper ≡ a.upper
  pub a_open : a.upper_inc ≡ false
  pub b_closed : b.upper_inc ≡ true
  pub c_closed : c.lower_inc ≡ true
  pub c_long : before c.lower c.upper ≡ true
  pub b_long : before b.lower b.upper ≡ true
  pub in_b : has b a.upper ≡ true
  pub in_c : has c a.upper ≡ true
  pub not_a : has a a.upper ≡ false

pub one_shared : (a b c : SpanOf) → StartAlike a b → has_instant a ≡ true → Meets a c → ends_before a b ≡ true → ends_before b c ≡ true → before a.upper b.upper ≡ false → OneShared a b c
one_shared a b c s k m e f j =
    let at : b.upper ≡ a.upper = before-neither b.upper a.upper (grind (arith, before-back b.upper a.upper)) j in
    let a_open : a.upper_inc ≡ false = grind (arith, j) in
    let b_closed : b.upper_inc ≡ true = grind (arith, j) in
    let a_long : before a.lower a.upper ≡ true = grind (arith, a_open) in
    let c_closed : c.lower_inc ≡ true = grind (arith, a_open, m.in_one) in
    let c_long : before c.lower c.upper ≡ true = grind (arith, b_closed, at, m.at_one) in
    let b_long : before b.lower b.upper ≡ true = grind (arith, at, s.lower, a_long) in
    record { at = at; a_open = a_open; b_closed = b_closed; c_closed = c_closed; c_long = c_long; b_long = b_long; in_b = grind (arith, at, b_closed, b_long, before-self b.upper); in_c = grind (arith, m.at_one, c_closed, c_long, before-self c.lower); not_a = grind (arith, a_open, before-self a.upper) }

pub remains_shared : (a b c : SpanOf) (t : Ratio) → OneShared a b c → Meets a c → has (remains b c) t ≡ true → has c t ≡ true
remains_shared a b c t o m h = let e : b.upper ≡ c.lower = o.at ∙ m.at_one in grind (arith, e, o.b_closed, o.c_closed, before-back c.lower t, before-back b.upper t)

pub gap_shared : (a b c d : SpanOf) (t : Ratio) → OneShared a b c → Meets a c → ends_before c (gap b d) ≡ false → has (gap b d) t ≡ true → has c t ≡ true
gap_shared a b c d t o m k h =
    let e : b.upper ≡ c.lower = o.at ∙ m.at_one in
    let high = high_within b d c t k h in
    let low : (before c.lower t || (c.lower_inc && up_to c.lower t)) ≡ true = grind (arith, e, o.b_closed, o.c_closed, before-back c.lower t, before-back b.upper t) in
    rw (low, high) refl

-- the earlier of two ends
pub record Earlier (l u w : Ratio) : Type 0 where
  pub at : Ratio
  pub later : before l at ≡ true
  pub first : up_to at u ≡ true
  pub second : up_to at w ≡ true

earlier_by : (l u w : Ratio) → before l u ≡ true → before l w ≡ true → (b : Bool) → before u w ≡ b → Earlier l u w
earlier_by l u w h k true e = record { at = u; later = h; first = up_to-self u; second = rw (before-back u w e) refl }
earlier_by l u w h k false e = record { at = w; later = k; first = rw e refl; second = up_to-self w }

pub earlier : (l u w : Ratio) → before l u ≡ true → before l w ≡ true → Earlier l u w
earlier l u w h k = earlier_by l u w h k (before u w) refl

-- an instant just after the shared one
pub later_in : (a b c d : SpanOf) (t : Ratio) → OneShared a b c → Meets a c → Meets b d → before a.upper t ≡ true → before t c.upper ≡ true → before t d.upper ≡ true → (has c t ≡ true) × (has d t ≡ true) × (has a t ≡ false) × (has b t ≡ false)
later_in a b c d t o m n h k l =
    let e : a.upper ≡ d.lower = sym o.at ∙ n.at_one in
    let from_c : before c.lower t ≡ true = rw (← m.at_one) h in
    let from_d : before d.lower t ≡ true = rw (← e) h in
    (inner_has c t from_c k, inner_has d t from_d l, grind (arith, before-back a.upper t), grind (arith, o.at, before-back a.upper t))

pub later_alone : (a b c : SpanOf) (t : Ratio) → OneShared a b c → Meets a c → before a.upper t ≡ true → before t c.upper ≡ true → (has c t ≡ true) × (has a t ≡ false) × (has b t ≡ false)
later_alone a b c t o m h k =
    let from_c : before c.lower t ≡ true = rw (← m.at_one) h in
    (inner_has c t from_c k, grind (arith, before-back a.upper t), grind (arith, o.at, before-back a.upper t))

pub second_long : (b d : SpanOf) → Meets b d → b.upper_inc ≡ true → has_instant d ≡ true → before d.lower d.upper ≡ true
second_long b d m h k = grind (arith, m.in_one)

pub lower_from_to : (s : SpanOf) → has_instant s ≡ true → is_from_to s.lower s.upper s.lower ≡ true
lower_from_to s h = grind (arith, before-self s.lower, before-back s.lower s.upper)

pub upper_from_to : (s : SpanOf) → has_instant s ≡ true → is_from_to s.lower s.upper s.upper ≡ true
upper_from_to s h = grind (arith, before-self s.upper, before-back s.lower s.upper)

pub shared_some : (a b c : SpanOf) → OneShared a b c → Meets a c → has_instant (remains b c) ≡ true
shared_some a b c o m = let e : b.upper ≡ c.lower = o.at ∙ m.at_one in let l : before b.upper c.upper ≡ true = rw e o.c_long in rw l refl

-- an instant not after either of two, and one not before either
pub record Least (l m : Ratio) : Type 0 where
  pub at : Ratio
  pub first : up_to at l ≡ true
  pub second : up_to at m ≡ true

pub record Most (l m : Ratio) : Type 0 where
  pub at : Ratio
  pub first : up_to l at ≡ true
  pub second : up_to m at ≡ true

least_by : (l m : Ratio) (b : Bool) → before m l ≡ b → Least l m
least_by l m true e = record { at = m; first = rw (before-back m l e) refl; second = up_to-self m }
least_by l m false e = record { at = l; first = up_to-self l; second = rw e refl }

pub least : (l m : Ratio) → Least l m
least l m = least_by l m (before m l) refl

most_by : (l m : Ratio) (b : Bool) → before m l ≡ b → Most l m
most_by l m true e = record { at = l; first = up_to-self l; second = rw (before-back m l e) refl }
most_by l m false e = record { at = m; first = rw e refl; second = up_to-self m }

pub most : (l m : Ratio) → Most l m
most l m = most_by l m (before m l) refl
