-- A line keeps its sign on a cell.
use Rattle.std.{specs.Prelude.{◌≡◌, Bool, true, false, not, ◌&&◌, ◌||◌, refl}, proofs.lemmas.Bool.{and_parts}, proofs.Common.{arith}}
use Rattle.mob_ratio.{specs.Ratio.{Ratio}, specs.Order.{before, up_to}, specs.Line.{line_at}, specs.Sign.{sign_of, opposite, root_at, sign_on, IsClearCell}}
use Rattle.mob_ratio.{proofs.Order.{before-back, before-trans, before-neither}, proofs.Signs.{sign_open, sign_point, sign_short}}
use Rattle.mob_span.{specs.Span.{SpanOf, has}, specs.Neighbours.{is_inside}}
use Rattle.mob_cells.specs.Cells.{is_cell, is_cell_of, NoneWithin}

-- the cells are inside
pub upto_of : (l c : Ratio) (a b : Bool) → (before l c || (up_to l c && (a || b))) ≡ true → up_to l c ≡ true
upto_of l c a b h = grind (arith, h, before-back l c)

abbrev Kept : Ratio → Ratio → SpanOf → SpanOf → Type 0
Kept f0 f1 s c = (t : Ratio) → has c t ≡ true → sign_of (line_at f0 f1 s.lower s.upper t) ≡ sign_on f0 f1 s.lower s.upper c.lower c.upper

pub open_has : (c : SpanOf) (t : Ratio) → is_cell c ≡ true → before c.lower c.upper ≡ true → has c t ≡ true → (before c.lower t ≡ true) × (before t c.upper ≡ true)
open_has c t i h k = (grind (arith, i, h, k), grind (arith, i, h, k))

pub point_has : (c : SpanOf) (t : Ratio) → is_cell c ≡ true → before c.lower c.upper ≡ false → has c t ≡ true → (c.lower ≡ c.upper) × (t ≡ c.lower)
point_has c t i h k =
    let e : c.lower ≡ c.upper = before-neither c.lower c.upper h (grind (arith, i, h)) in
    (e, before-neither t c.lower (grind (arith, i, h, k, before-back c.lower t)) (grind (arith, i, h, k, e, before-back t c.upper)))

long_kept : (f0 f1 : Ratio) (s c : SpanOf) → before s.lower s.upper ≡ true → is_cell_of s c ≡ true → (opposite f0 f1 ≡ true → NoneWithin (root_at f0 f1 s.lower s.upper) c) → (b : Bool) → before c.lower c.upper ≡ b → Kept f0 f1 s c
long_kept f0 f1 s c h i n b e t k =
    let w = and_parts (is_cell c) (is_inside s c) i in
    let x = and_parts (before s.lower c.lower || (up_to s.lower c.lower && (s.lower_inc || not c.lower_inc))) (before c.upper s.upper || (up_to c.upper s.upper && (s.upper_inc || not c.upper_inc))) w.1 in
    let q : IsClearCell f0 f1 s.lower s.upper c.lower c.upper = record { after = upto_of s.lower c.lower s.lower_inc (not c.lower_inc) x.0; until = upto_of c.upper s.upper s.upper_inc (not c.upper_inc) x.1; no_root = n } in
    by f0 f1 s c t h q w.0 k b e
  where
    by : (f0 f1 : Ratio) (s c : SpanOf) (t : Ratio) → before s.lower s.upper ≡ true → IsClearCell f0 f1 s.lower s.upper c.lower c.upper → is_cell c ≡ true → has c t ≡ true → (b : Bool) → before c.lower c.upper ≡ b → sign_of (line_at f0 f1 s.lower s.upper t) ≡ sign_on f0 f1 s.lower s.upper c.lower c.upper
    by f0 f1 s c t h q i k true e = let p = open_has c t i e k in sign_open f0 f1 s.lower s.upper c.lower c.upper t h q p.0 p.1 (opposite f0 f1) refl
    by f0 f1 s c t h q i k false e = let p = point_has c t i e k in sign_point f0 f1 s.lower s.upper c.lower c.upper t h q p.0 p.1 (opposite f0 f1) refl

short_kept : (f0 f1 : Ratio) (s c : SpanOf) → f0 ≡ f1 → before s.lower s.upper ≡ false → is_cell_of s c ≡ true → Kept f0 f1 s c
short_kept f0 f1 s c e h i t k =
    let w = and_parts (is_cell c) (is_inside s c) i in
    let x = and_parts (before s.lower c.lower || (up_to s.lower c.lower && (s.lower_inc || not c.lower_inc))) (before c.upper s.upper || (up_to c.upper s.upper && (s.upper_inc || not c.upper_inc))) w.1 in
    let low = upto_of s.lower c.lower s.lower_inc (not c.lower_inc) x.0 in
    let high = upto_of c.upper s.upper s.upper_inc (not c.upper_inc) x.1 in
    sign_short f0 f1 s.lower s.upper c.lower c.upper t e h (at_low s.lower s.upper c.lower c.upper h low high (upto_cell c w.0))
  where
    upto_cell : (c : SpanOf) → is_cell c ≡ true → up_to c.lower c.upper ≡ true
    upto_cell c i = grind (arith, i, before-back c.lower c.upper)

    at_low : (l u a b : Ratio) → before l u ≡ false → up_to l a ≡ true → up_to b u ≡ true → up_to a b ≡ true → b ≡ l
    at_low l u a b h i j k = before-neither b l (grind (arith, h, i, j, k, before-trans b l a, before-neither l a, before-neither a b)) (grind (arith, h, i, j, k, before-trans l b u, before-neither b u))

kept_by : (f0 f1 : Ratio) (s c : SpanOf) → (before s.lower s.upper ≡ false → f0 ≡ f1) → is_cell_of s c ≡ true → (opposite f0 f1 ≡ true → NoneWithin (root_at f0 f1 s.lower s.upper) c) → (b : Bool) → before s.lower s.upper ≡ b → Kept f0 f1 s c
kept_by f0 f1 s c l i n true h = long_kept f0 f1 s c h i n (before c.lower c.upper) refl
kept_by f0 f1 s c l i n false h = short_kept f0 f1 s c (l h) h i

pub kept : (f0 f1 : Ratio) (s c : SpanOf) → (before s.lower s.upper ≡ false → f0 ≡ f1) → is_cell_of s c ≡ true → (opposite f0 f1 ≡ true → NoneWithin (root_at f0 f1 s.lower s.upper) c) → Kept f0 f1 s c
kept f0 f1 s c l i n = kept_by f0 f1 s c l i n (before s.lower s.upper) refl
