-- The spans beside and between spans.
use Rattle.std.{specs.Prelude.{◌≡◌, Bool, true, false, ◌||◌, ◌&&◌, not}, proofs.lemmas.Bool.{and_from}, proofs.Common.{arith, refl}}
use Rattle.mob_ratio.{specs.Ratio.{Ratio}, specs.Order.{before, up_to}, proofs.Order.{before-self, before-back, before-trans, before-neither}}
use Rattle.mob_span.{specs.Span.{SpanOf, has, has_instant}, specs.Neighbours.{Meets, is_clear}, specs.Meet.{starts_before, ends_before}}

-- from the end of s to the start of r
abbrev pub gap : SpanOf → SpanOf → SpanOf
gap s r = record { lower = s.upper; upper = r.lower; lower_inc = not s.upper_inc; upper_inc = not r.lower_inc }

-- from the end of s to the end of r
abbrev pub remains : SpanOf → SpanOf → SpanOf
remains s r = record { lower = s.upper; upper = r.upper; lower_inc = not s.upper_inc; upper_inc = r.upper_inc }

-- from the start of s to the start of r
abbrev pub head_start : SpanOf → SpanOf → SpanOf
head_start s r = record { lower = s.lower; upper = r.lower; lower_inc = s.lower_inc; upper_inc = not r.lower_inc }

-- t is before each instant of s
abbrev pub is_left : Ratio → SpanOf → Bool
is_left t s = before t s.lower || (up_to t s.lower && not s.lower_inc)

record_same : (l m u w : Ratio) (i j k n : Bool) → l ≡ m → u ≡ w → i ≡ j → k ≡ n → (let s : SpanOf = record { lower = l; upper = u; lower_inc = i; upper_inc = k } in let r : SpanOf = record { lower = m; upper = w; lower_inc = j; upper_inc = n } in s ≡ r)
record_same l m u w i j k n e f g h = rw (e, f, g, h) refl

-- spans that touch, and spans that are apart
pub gap_or_meets : (a b : SpanOf) → is_clear a b ≡ true → has_instant (gap a b) ≡ false → Meets a b
gap_or_meets a b h k = record { at_one = before-neither a.upper b.lower (grind arith) (grind (arith, before-back a.upper b.lower)); in_one = grind (arith, before-neither a.upper b.lower) }

pub starts_some : (a b : SpanOf) → has_instant a ≡ true → starts_before a b ≡ true → has_instant (head_start a b) ≡ true
starts_some a b h k = grind (arith, before-neither a.lower b.lower, before-back a.lower b.lower)

pub left_has : (t : Ratio) (b : SpanOf) → is_left t b ≡ true → has b t ≡ false
left_has t b h = grind (arith, before-neither t b.lower, before-back t b.lower)

pub left_clear : (t : Ratio) (b c : SpanOf) → has_instant b ≡ true → is_left t b ≡ true → is_clear b c ≡ true → is_left t c ≡ true
left_clear t b c h k l = grind (arith, before-trans t b.lower b.upper, before-trans t b.upper c.lower, before-trans t b.lower c.lower, before-trans b.lower b.upper c.lower, before-neither t b.lower, before-neither b.lower b.upper, before-neither b.upper c.lower, before-back t c.lower, before-back t b.lower, before-back b.lower b.upper, before-back b.upper c.lower, before-self t)

pub head_left : (a b : SpanOf) (t : Ratio) → has (head_start a b) t ≡ true → is_left t b ≡ true
head_left a b t h = grind (arith, before-back t b.lower)

pub remains_some : (a b : SpanOf) → ends_before a b ≡ true → has_instant (remains a b) ≡ true
remains_some a b h = grind (arith)

pub remains_after : (a b : SpanOf) (t : Ratio) → has (remains a b) t ≡ true → has a t ≡ false
remains_after a b t h = grind (arith, before-back a.upper t, before-neither a.upper t)

pub head_within : (a b : SpanOf) (t : Ratio) → ends_before a (head_start a b) ≡ false → has (head_start a b) t ≡ true → has a t ≡ true
head_within a b t e h = grind (arith, before-trans t b.lower a.upper, before-neither t b.lower, before-neither b.lower a.upper, before-back t b.lower, before-back b.lower a.upper, before-back t a.upper)

pub short_left : (a b : SpanOf) (t : Ratio) → ends_before a (head_start a b) ≡ true → has a t ≡ true → is_left t b ≡ true
short_left a b t e h = grind (arith, before-trans t a.upper b.lower, before-neither t a.upper, before-neither a.upper b.lower, before-back t b.lower, before-back a.upper b.lower, before-back t a.upper)

-- the spans have the same start
pub record StartAlike (a b : SpanOf) : Type 0 where
  pub lower : a.lower ≡ b.lower
  pub lower_inc : a.lower_inc ≡ b.lower_inc

pub start_alike : (a b : SpanOf) → starts_before a b ≡ false → starts_before b a ≡ false → StartAlike a b
start_alike a b h k = record { lower = before-neither a.lower b.lower (grind arith) (grind arith); lower_inc = grind (arith, before-neither a.lower b.lower) }

pub shorter_within : (a b : SpanOf) (t : Ratio) → StartAlike a b → ends_before a b ≡ true → has a t ≡ true → has b t ≡ true
shorter_within a b t s e h = grind (arith, s.lower, s.lower_inc, before-trans t a.upper b.upper, before-neither t a.upper, before-neither a.upper b.upper, before-back t b.upper, before-back a.upper b.upper, before-back t a.upper)

pub remains_within : (a b : SpanOf) (t : Ratio) → StartAlike a b → has_instant a ≡ true → has (remains a b) t ≡ true → has b t ≡ true
remains_within a b t s k h = grind (arith, s.lower, s.lower_inc, before-trans a.lower a.upper t, before-neither a.lower a.upper, before-neither a.upper t, before-back a.lower t, before-back a.upper t, before-back a.lower a.upper)

pub gap_after : (a c : SpanOf) (t : Ratio) → has (gap a c) t ≡ true → has a t ≡ false
gap_after a c t h = grind (arith, before-back a.upper t, before-neither a.upper t)

pub gap_left : (a c : SpanOf) (t : Ratio) → has (gap a c) t ≡ true → is_left t c ≡ true
gap_left a c t h = grind (arith, before-back t c.lower)

pub high_within : (a c b : SpanOf) (t : Ratio) → ends_before b (gap a c) ≡ false → has (gap a c) t ≡ true → (before t b.upper || (b.upper_inc && up_to t b.upper)) ≡ true
high_within a c b t e h = grind (arith, before-trans t c.lower b.upper, before-neither t c.lower, before-neither c.lower b.upper, before-back t c.lower, before-back c.lower b.upper, before-back t b.upper)

low_within : (a b : SpanOf) (t : Ratio) → StartAlike a b → has_instant a ≡ true → (before a.upper t || (not a.upper_inc && up_to a.upper t)) ≡ true → (before b.lower t || (b.lower_inc && up_to b.lower t)) ≡ true
low_within a b t s k h = grind (arith, s.lower, s.lower_inc, before-trans a.lower a.upper t, before-neither a.lower a.upper, before-neither a.upper t, before-back a.lower t, before-back a.upper t, before-back a.lower a.upper)

pub gap_within : (a c b : SpanOf) (t : Ratio) → StartAlike a b → has_instant a ≡ true → ends_before b (gap a c) ≡ false → has (gap a c) t ≡ true → has b t ≡ true
gap_within a c b t s k e h = let l : (before a.upper t || (not a.upper_inc && up_to a.upper t)) ≡ true = grind arith in and_from _ _ (low_within a b t s k l) (high_within a c b t e h)

pub remains_left : (a c b : SpanOf) (t : Ratio) → ends_before b (gap a c) ≡ true → has (remains a b) t ≡ true → is_left t c ≡ true
remains_left a c b t e h = grind (arith, before-trans t b.upper c.lower, before-neither t b.upper, before-neither b.upper c.lower, before-back t c.lower, before-back b.upper c.lower, before-back t b.upper)

next_high : (c b : SpanOf) (t : Ratio) → ends_before b c ≡ false → has c t ≡ true → (before t b.upper || (b.upper_inc && up_to t b.upper)) ≡ true
next_high c b t e h = grind (arith, before-trans t c.upper b.upper, before-neither t c.upper, before-neither c.upper b.upper, before-back t c.upper, before-back c.upper b.upper, before-back t b.upper)

pub next_within : (a c b : SpanOf) (t : Ratio) → StartAlike a b → has_instant a ≡ true → Meets a c → ends_before b c ≡ false → has c t ≡ true → has b t ≡ true
next_within a c b t s k m e h = let l : (before a.upper t || (not a.upper_inc && up_to a.upper t)) ≡ true = grind (arith, m.at_one, m.in_one) in and_from _ _ (low_within a b t s k l) (next_high c b t e h)

pub clear_has : (q s : SpanOf) (t : Ratio) → is_clear q s ≡ true → has s t ≡ true → has q t ≡ false
clear_has q s t h k = grind (arith, before-trans q.upper s.lower t, before-neither t q.upper, before-neither q.upper s.lower, before-neither t s.lower, before-back t s.lower, before-back t q.upper, before-back q.upper s.lower, before-self t)

pub same_span : (a b : SpanOf) → StartAlike a b → ends_before a b ≡ false → ends_before b a ≡ false → a ≡ b
same_span a b s h k =
    let u : a.upper ≡ b.upper = before-neither a.upper b.upper (grind arith) (grind arith) in
    let i : a.upper_inc ≡ b.upper_inc = grind (arith, u, before-self b.upper) in
    record_same a.lower b.lower a.upper b.upper a.lower_inc b.lower_inc a.upper_inc b.upper_inc s.lower u s.lower_inc i

pub in_left : (a c : SpanOf) (t : Ratio) → is_clear a c ≡ true → has a t ≡ true → is_left t c ≡ true
in_left a c t h k = grind (arith, before-trans t a.upper c.lower, before-neither t a.upper, before-neither a.upper c.lower, before-back t c.lower, before-back a.upper c.lower, before-back t a.upper)
