-- Cutting the cells at an instant.
use Rattle.std.{specs.Prelude.{◌≡◌, Bool, true, false, cond, not, ◌&&◌, ◌||◌, List, [], ◌∷◌, ◌++◌, refl}, specs.List.{AllByRecursion}, proofs.lemmas.Bool.{and_from, and_parts}}
use Rattle.std.proofs.Common.{arith, ap, ◌∙◌}
use Rattle.mob_ratio.{specs.Ratio.{Ratio}, specs.Order.{before, up_to}, proofs.Order.{before-self, before-back, before-trans, before-neither, before-up_to, up_to-before}}
use Rattle.mob_span.{specs.Span.{SpanOf, has, has_instant}, specs.Neighbours.{is_clear, is_inside}, specs.Sets.{in_some}, specs.Pieces.{PiecesAreClear}}
use Rattle.mob_slice.specs.Slices.{OfHead}
use Rattle.mob_cells.specs.Cells.{instant_span, inner, until, beyond, split_at, start_cells, is_cell, is_cell_of, AreSplit, NoneWithin}

-- ---- one cell

cut_has : (r : Ratio) (c : SpanOf) (t : Ratio) → before c.lower r ≡ true → before r c.upper ≡ true → (has (until c r) t || (has (instant_span r) t || has (beyond c r) t)) ≡ has c t
cut_has r c t h k = grind (arith, h, k, before-trans c.lower r t, before-trans t r c.upper, before-trans r t c.upper, before-trans c.lower t r, before-back t r, before-back c.lower t, before-back t c.upper, before-neither t r, before-neither c.lower t, before-neither t c.upper)

cut_cells : (s c : SpanOf) (r : Ratio) → before c.lower r ≡ true → before r c.upper ≡ true → is_cell_of s c ≡ true → (is_cell_of s (until c r) ≡ true) × (is_cell_of s (instant_span r) ≡ true) × (is_cell_of s (beyond c r) ≡ true)
cut_cells s c r h k i =
    let w = and_parts (is_cell c) (is_inside s c) i in
    let o : (before c.lower c.upper && not c.lower_inc && not c.upper_inc) ≡ true = grind (arith, w.0, before-trans c.lower r c.upper, h, k) in
    let x = and_parts (before s.lower c.lower || (up_to s.lower c.lower && (s.lower_inc || not c.lower_inc))) (before c.upper s.upper || (up_to c.upper s.upper && (s.upper_inc || not c.upper_inc))) w.1 in
    let low : before s.lower r ≡ true = up_to-before s.lower c.lower r (grind (arith, x.0, before-back s.lower c.lower)) h in
    let high : before r s.upper ≡ true = before-up_to r c.upper s.upper k (grind (arith, x.1, before-back c.upper s.upper)) in
    let p : is_cell_of s (until c r) ≡ true = and_from (is_cell (until c r)) (is_inside s (until c r)) (grind (arith, o, h)) (and_from (before s.lower c.lower || (up_to s.lower c.lower && (s.lower_inc || not c.lower_inc))) (before r s.upper || (up_to r s.upper && (s.upper_inc || not false))) x.0 (rw high refl)) in
    let q : is_cell_of s (instant_span r) ≡ true = rw (before-self r, low, high) refl in
    let v : is_cell_of s (beyond c r) ≡ true = and_from (is_cell (beyond c r)) (is_inside s (beyond c r)) (grind (arith, o, k)) (and_from (before s.lower r || (up_to s.lower r && (s.lower_inc || not false))) (before c.upper s.upper || (up_to c.upper s.upper && (s.upper_inc || not c.upper_inc))) (rw low refl) x.1) in
    (p, q, v)

cut_some : (c : SpanOf) (r : Ratio) → before c.lower r ≡ true → before r c.upper ≡ true → (has_instant (until c r) ≡ true) × (has_instant (instant_span r) ≡ true) × (has_instant (beyond c r) ≡ true)
cut_some c r h k = (rw h refl, rw (before-self r) refl, rw k refl)

cut_clear : (c : SpanOf) (r : Ratio) → (is_clear (until c r) (instant_span r) ≡ true) × (is_clear (instant_span r) (beyond c r) ≡ true)
cut_clear c r = (rw (before-self r) refl, rw (before-self r) refl)

-- a span clear of c is clear of the parts of c
on_head : (p c : SpanOf) (r : Ratio) (rest : List SpanOf) → is_clear p c ≡ true → (b : Bool) → OfHead (λ c d. is_clear c d ≡ true) p (cond b (until c r ∷ instant_span r ∷ beyond c r ∷ []) (c ∷ []) ++ rest)
on_head p c r rest h true = h
on_head p c r rest h false = h

to_head : (c : SpanOf) (r : Ratio) (rest : List SpanOf) → OfHead (λ c d. is_clear c d ≡ true) c rest → OfHead (λ c d. is_clear c d ≡ true) (beyond c r) rest
to_head c r [] h = tt
to_head c r (d ∷ rest) h = h

-- ---- the list
split_head : (p : SpanOf) (r : Ratio) (cells : List SpanOf) → OfHead (λ c d. is_clear c d ≡ true) p cells → OfHead (λ c d. is_clear c d ≡ true) p (split_at r cells)
split_head p r [] h = tt
split_head p r (c ∷ cells) h = on_head p c r (split_at r cells) h (before c.lower r && before r c.upper)

clear_by : (c : SpanOf) (r : Ratio) (rest : List SpanOf) → has_instant c ≡ true → OfHead (λ c d. is_clear c d ≡ true) c rest → PiecesAreClear (λ c. c) rest → (b : Bool) → (before c.lower r && before r c.upper) ≡ b → PiecesAreClear (λ c. c) (cond b (until c r ∷ instant_span r ∷ beyond c r ∷ []) (c ∷ []) ++ rest)
clear_by c r rest s h k true e =
    let w = and_parts (before c.lower r) (before r c.upper) e in
    let p = cut_some c r w.0 w.1 in
    let q = cut_clear c r in
    (p.0, q.0, (p.1, q.1, (p.2, to_head c r rest h, k)))
clear_by c r rest s h k false e = (s, h, k)

pub split_clear : (r : Ratio) (cells : List SpanOf) → PiecesAreClear (λ c. c) cells → PiecesAreClear (λ c. c) (split_at r cells)
split_clear r [] h = tt
split_clear r (c ∷ cells) h = clear_by c r (split_at r cells) h.0 (split_head c r cells h.1) (split_clear r cells h.2) (before c.lower r && before r c.upper) refl

cells_by : (s c : SpanOf) (r : Ratio) (rest : List SpanOf) → is_cell_of s c ≡ true → AllByRecursion (λ c. is_cell_of s c ≡ true) rest → (b : Bool) → (before c.lower r && before r c.upper) ≡ b → AllByRecursion (λ c. is_cell_of s c ≡ true) (cond b (until c r ∷ instant_span r ∷ beyond c r ∷ []) (c ∷ []) ++ rest)
cells_by s c r rest h k true e = let w = and_parts (before c.lower r) (before r c.upper) e in let p = cut_cells s c r w.0 w.1 h in (p.0, (p.1, (p.2, k)))
cells_by s c r rest h k false e = (h, k)

pub split_cells : (s : SpanOf) (r : Ratio) (cells : List SpanOf) → AllByRecursion (λ c. is_cell_of s c ≡ true) cells → AllByRecursion (λ c. is_cell_of s c ≡ true) (split_at r cells)
split_cells s r [] h = tt
split_cells s r (c ∷ cells) h = cells_by s c r (split_at r cells) h.0 (split_cells s r cells h.1) (before c.lower r && before r c.upper) refl

or_assoc : (a b c d : Bool) → (a || (b || (c || d))) ≡ ((a || (b || c)) || d)
or_assoc a b c d = grind arith

has_by : (c : SpanOf) (r : Ratio) (rest : List SpanOf) (t : Ratio) (b : Bool) → (before c.lower r && before r c.upper) ≡ b → in_some (cond b (until c r ∷ instant_span r ∷ beyond c r ∷ []) (c ∷ []) ++ rest) t ≡ (has c t || in_some rest t)
has_by c r rest t true e = let w = and_parts (before c.lower r) (before r c.upper) e in or_assoc (has (until c r) t) (has (instant_span r) t) (has (beyond c r) t) (in_some rest t) ∙ ap (λ b. b || in_some rest t) (cut_has r c t w.0 w.1)
has_by c r rest t false e = refl

pub split_has : (r : Ratio) (cells : List SpanOf) (t : Ratio) → in_some (split_at r cells) t ≡ in_some cells t
split_has r [] t = refl
split_has r (c ∷ cells) t = has_by c r (split_at r cells) t (before c.lower r && before r c.upper) refl ∙ ap (λ b. has c t || b) (split_has r cells t)

pub split_are : (s : SpanOf) (r : Ratio) (cells : List SpanOf) → AreSplit s cells → AreSplit s (split_at r cells)
split_are s r cells h = record { clear = split_clear r cells h.clear; are = split_cells s r cells h.are; covers = λ t. split_has r cells t ∙ h.covers t }

-- a cut at r keeps q outside the interiors
cut_out : (q r : Ratio) (c : SpanOf) → before c.lower r ≡ true → before r c.upper ≡ true → NoneWithin q c → NoneWithin q (until c r) × NoneWithin q (instant_span r) × NoneWithin q (beyond c r)
cut_out q r c h k n = (
  grind (arith, h, k, n, before-trans q r c.upper),
  grind (arith, before-back q r),
  grind (arith, h, k, n, before-trans c.lower r q),
)

out_by : (q r : Ratio) (c : SpanOf) (rest : List SpanOf) → NoneWithin q c → AllByRecursion (NoneWithin q) rest → (b : Bool) → (before c.lower r && before r c.upper) ≡ b → AllByRecursion (NoneWithin q) (cond b (until c r ∷ instant_span r ∷ beyond c r ∷ []) (c ∷ []) ++ rest)
out_by q r c rest h k true e = let w = and_parts (before c.lower r) (before r c.upper) e in let p = cut_out q r c w.0 w.1 h in (p.0, (p.1, (p.2, k)))
out_by q r c rest h k false e = (h, k)

pub split_out : (q r : Ratio) (cells : List SpanOf) → AllByRecursion (NoneWithin q) cells → AllByRecursion (NoneWithin q) (split_at r cells)
split_out q r [] h = tt
split_out q r (c ∷ cells) h = out_by q r c (split_at r cells) h.0 (split_out q r cells h.1) (before c.lower r && before r c.upper) refl

self_by : (r : Ratio) (c : SpanOf) (rest : List SpanOf) → AllByRecursion (NoneWithin r) rest → (b : Bool) → (before c.lower r && before r c.upper) ≡ b → AllByRecursion (NoneWithin r) (cond b (until c r ∷ instant_span r ∷ beyond c r ∷ []) (c ∷ []) ++ rest)
self_by r c rest k true e = (grind (arith, before-self r), (grind (arith, before-self r), (grind (arith, before-self r), k)))
self_by r c rest k false e = (e, k)

-- and r itself
pub split_self : (r : Ratio) (cells : List SpanOf) → AllByRecursion (NoneWithin r) (split_at r cells)
split_self r [] = tt
split_self r (c ∷ cells) = self_by r c (split_at r cells) (split_self r cells) (before c.lower r && before r c.upper) refl

-- ---- the first cells
start_by : (s : SpanOf) → has_instant s ≡ true → (b : Bool) → before s.lower s.upper ≡ b → (l : Bool) → s.lower_inc ≡ l → (u : Bool) → s.upper_inc ≡ u → AreSplit s (cond b (cond l (instant_span s.lower ∷ []) [] ++ inner s ∷ cond u (instant_span s.upper ∷ []) []) (s ∷ []))
start_by s h false b l el u eu = record { clear = (h, tt, tt); are = (grind (arith, h, b, before-self s.lower, before-self s.upper), tt); covers = λ t. grind arith }
start_by s h true b true l true u = record {
  clear = (grind (arith, before-self s.lower), grind (arith, before-self s.lower), (grind (arith, b), grind (arith, before-self s.upper), (grind (arith, before-self s.upper), tt, tt)));
  are = (grind (arith, before-self s.lower, before-back s.lower s.upper, b), (grind (arith, b, before-self s.lower, before-self s.upper), (grind (arith, before-self s.upper, before-back s.lower s.upper, b), tt)));
  covers = λ t. grind (arith, b, l, u, before-neither s.lower t, before-neither t s.upper, before-back s.lower t, before-back t s.upper, before-trans s.lower t s.upper, before-self t);
}
start_by s h true b true l false u = record {
  clear = (grind (arith, before-self s.lower), grind (arith, before-self s.lower), (grind (arith, b), tt, tt));
  are = (grind (arith, before-self s.lower, before-back s.lower s.upper, b), (grind (arith, b, before-self s.lower, before-self s.upper), tt));
  covers = λ t. grind (arith, b, l, u, before-neither s.lower t, before-back s.lower t, before-back t s.upper, before-trans s.lower t s.upper, before-self t);
}
start_by s h true b false l true u = record {
  clear = (grind (arith, b), grind (arith, before-self s.upper), (grind (arith, before-self s.upper), tt, tt));
  are = (grind (arith, b, before-self s.lower, before-self s.upper), (grind (arith, before-self s.upper, before-back s.lower s.upper, b), tt));
  covers = λ t. grind (arith, b, l, u, before-neither t s.upper, before-back s.lower t, before-back t s.upper, before-trans s.lower t s.upper, before-self t);
}
start_by s h true b false l false u = record {
  clear = (grind (arith, b), tt, tt);
  are = (grind (arith, b, before-self s.lower, before-self s.upper), tt);
  covers = λ t. grind (arith, b, l, u);
}

pub start_are : (s : SpanOf) → has_instant s ≡ true → AreSplit s (start_cells s)
start_are s h = start_by s h (before s.lower s.upper) refl s.lower_inc refl s.upper_inc refl
