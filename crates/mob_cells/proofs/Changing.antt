-- The spans of neighbouring cells on which a test holds have the instants at which it does.
use Rattle.std.specs.Prelude.{◌≡◌, Bool, true, false, cond, ◌&&◌, ◌||◌, List, [], ◌∷◌, ◌++◌, Option, Some, None, refl}
use Rattle.std.{specs.List.{AllByRecursion}, proofs.Common.{arith, ap, ◌∙◌}, proofs.lemmas.Bool.{and_parts}}
use Rattle.mob_ratio.{specs.Ratio.{Ratio}, specs.Order.{before}, proofs.Order.{before-self}}
use Rattle.mob_span.{specs.Span.{SpanOf, has, has_instant}, specs.Chained.{OfHead, Chained}, specs.Neighbours.{Meets}, specs.Sets.{in_some}, proofs.SpanLemmas.{joined_has, joined_some}}
use Rattle.mob_cells.{specs.declared.linear.Ends.{Ends}, specs.Cells.{AreSplit, instant_span, inner, until, beyond, split_at, split_all, start_cells}, specs.Changes.{IsConstantOn, cells_of, halfway, spans_behind, spans_where, with_cell}}
use Rattle.mob_cells.{specs.Roots.{as_list, roots}, proofs.Splits.{start_are, split_are}}

-- ---- the cells of a span follow one another without a gap

abbrev pub AreMeeting : List SpanOf → Type 0
AreMeeting cells = Chained (λ c. has_instant c ≡ true) Meets cells

meets_until : (p c : SpanOf) (r : Ratio) → Meets p c → Meets p (until c r)
meets_until p c r m = record { at_one = m.at_one; in_one = m.in_one }

head_split : (p c : SpanOf) (r : Ratio) (rest : List SpanOf) → Meets p c → (b : Bool) → OfHead Meets p (cond b (until c r ∷ instant_span r ∷ beyond c r ∷ []) (c ∷ []) ++ rest)
head_split p c r rest m true = meets_until p c r m
head_split p c r rest m false = m

head_at : (p : SpanOf) (r : Ratio) (cells : List SpanOf) → OfHead Meets p cells → OfHead Meets p (split_at r cells)
head_at p r [] h = tt
head_at p r (c ∷ cells) h = head_split p c r (split_at r cells) h (before c.lower r && before r c.upper)

head_beyond : (c : SpanOf) (r : Ratio) (rest : List SpanOf) → OfHead Meets c rest → OfHead Meets (beyond c r) rest
head_beyond c r [] h = tt
head_beyond c r (d ∷ rest) h = record { at_one = h.at_one; in_one = h.in_one }

meeting_by : (c : SpanOf) (r : Ratio) (rest : List SpanOf) → has_instant c ≡ true → OfHead Meets c rest → AreMeeting rest → (b : Bool) → (before c.lower r && before r c.upper) ≡ b → AreMeeting (cond b (until c r ∷ instant_span r ∷ beyond c r ∷ []) (c ∷ []) ++ rest)
meeting_by c r rest s h k true e =
    let w = and_parts (before c.lower r) (before r c.upper) e in
    (rw w.0 refl, record { at_one = refl; in_one = refl }, (rw (before-self r) refl, record { at_one = refl; in_one = refl }, (rw w.1 refl, head_beyond c r rest h, k)))
meeting_by c r rest s h k false e = (s, h, k)

split_meeting : (r : Ratio) (cells : List SpanOf) → AreMeeting cells → AreMeeting (split_at r cells)
split_meeting r [] h = tt
split_meeting r (c ∷ cells) h = meeting_by c r (split_at r cells) h.0 (head_at c r cells h.1) (split_meeting r cells h.2) (before c.lower r && before r c.upper) refl

all_meeting : (cuts : List Ratio) (cells : List SpanOf) → AreMeeting cells → AreMeeting (split_all cuts cells)
all_meeting [] cells h = h
all_meeting (r ∷ cuts) cells h = all_meeting cuts (split_at r cells) (split_meeting r cells h)

start_meeting : (s : SpanOf) → has_instant s ≡ true → (b l u : Bool) → before s.lower s.upper ≡ b → AreMeeting (cond b (cond l (instant_span s.lower ∷ []) [] ++ inner s ∷ cond u (instant_span s.upper ∷ []) []) (s ∷ []))
start_meeting s h false l u e = (h, tt, tt)
start_meeting s h true true true e = (rw (before-self s.lower) refl, record { at_one = refl; in_one = refl }, (rw e refl, record { at_one = refl; in_one = refl }, (rw (before-self s.upper) refl, tt, tt)))
start_meeting s h true true false e = (rw (before-self s.lower) refl, record { at_one = refl; in_one = refl }, (rw e refl, tt, tt))
start_meeting s h true false true e = (rw e refl, record { at_one = refl; in_one = refl }, (rw (before-self s.upper) refl, tt, tt))
start_meeting s h true false false e = (rw e refl, tt, tt)

pub cells_meeting : (s : SpanOf) (functions : List Ends) → has_instant s ≡ true → AreMeeting (cells_of s functions)
cells_meeting s functions h = all_meeting (roots s functions) (start_cells s) (start_meeting s h (before s.lower s.upper) s.lower_inc s.upper_inc refl)

pub all_are : (s : SpanOf) (cuts : List Ratio) (cells : List SpanOf) → AreSplit s cells → AreSplit s (split_all cuts cells)
all_are s [] cells h = h
all_are s (r ∷ cuts) cells h = all_are s cuts (split_at r cells) (split_are s r cells h)

pub cells_cover : (s : SpanOf) (functions : List Ends) → has_instant s ≡ true → (t : Ratio) → in_some (cells_of s functions) t ≡ has s t
cells_cover s functions h = (all_are s (roots s functions) (start_cells s) (start_are s h)).covers

-- ---- the spans on which a test holds

-- the span that the next cell may continue meets it
abbrev IsOpen : Option SpanOf → List SpanOf → Type 0
IsOpen None cells = Unit {0}
IsOpen (Some k) cells = (has_instant k ≡ true) × OfHead Meets k cells

some_of : (xs ys : List SpanOf) (t : Ratio) → in_some (xs ++ ys) t ≡ (in_some xs t || in_some ys t)
some_of [] ys t = refl
some_of (x ∷ xs) ys t = ap (λ b. has x t || b) (some_of xs ys t) ∙ or_over (has x t) (in_some xs t) (in_some ys t)
  where
    or_over : (a b c : Bool) → (a || (b || c)) ≡ ((a || b) || c)
    or_over a b c = grind arith

or_nothing : (a m : Bool) → a ≡ (a || (false && m))
or_nothing a m = grind arith

-- the span with the cell has the instants of both
with_has : (k : Option SpanOf) (c : SpanOf) (cells : List SpanOf) (t : Ratio) → IsOpen k (c ∷ cells) → has_instant c ≡ true → has (with_cell k c) t ≡ (in_some (as_list k) t || has c t)
with_has None c cells t o h = refl
with_has (Some k) c cells t o h = joined_has k c t o.1 o.0 h ∙ ap (λ b. b || has c t) (plain (has k t))
  where
    plain : (a : Bool) → a ≡ (a || false)
    plain a = grind arith

with_open : (k : Option SpanOf) (c : SpanOf) (cells : List SpanOf) → IsOpen k (c ∷ cells) → has_instant c ≡ true → OfHead Meets c cells → IsOpen (Some (with_cell k c)) cells
with_open None c cells o h m = (h, m)
with_open (Some k) c [] o h m = (joined_some k c o.1 o.0 h, tt)
with_open (Some k) c (d ∷ cells) o h m = (joined_some k c o.1 o.0 h, record { at_one = m.at_one; in_one = m.in_one })

held : (a h r m : Bool) → (h ≡ true → m ≡ true) → ((a || h) || false || (r && m)) ≡ (a || ((h || r) && m))
held a true r m f = rw (f refl) (grind arith)
held a false r m f = grind arith

not_held : (a h r m : Bool) → (h ≡ true → m ≡ false) → (a || (false || (r && m))) ≡ (a || ((h || r) && m))
not_held a true r m f = rw (f refl) (grind arith)
not_held a false r m f = grind arith

behind : (meets : Ratio → Bool) (k : Option SpanOf) (cells : List SpanOf) (t : Ratio) → IsOpen k cells → AreMeeting cells → AllByRecursion (IsConstantOn meets) cells → in_some (spans_behind meets k cells) t ≡ (in_some (as_list k) t || (in_some cells t && meets t))
behind meets k [] t o m h = or_nothing (in_some (as_list k) t) (meets t)
behind meets k (c ∷ cells) t o m h = by (meets (halfway c)) refl (behind meets (Some (with_cell k c)) cells t (with_open k c cells o m.0 m.1) m.2 h.1) (behind meets None cells t tt m.2 h.1)
  where
    by : (b : Bool) → meets (halfway c) ≡ b
        → in_some (spans_behind meets (Some (with_cell k c)) cells) t ≡ ((has (with_cell k c) t || false) || (in_some cells t && meets t))
        → in_some (spans_behind meets None cells) t ≡ (false || (in_some cells t && meets t))
        → in_some (cond b (spans_behind meets (Some (with_cell k c)) cells) (as_list k ++ spans_behind meets None cells)) t ≡ (in_some (as_list k) t || ((has c t || in_some cells t) && meets t))
    by true e p q = p ∙ ap (λ b. (b || false) || (in_some cells t && meets t)) (with_has k c cells t o m.0) ∙ held (in_some (as_list k) t) (has c t) (in_some cells t) (meets t) (λ i. h.0 t i ∙ e)
    by false e p q = some_of (as_list k) (spans_behind meets None cells) t ∙ ap (λ b. in_some (as_list k) t || b) q ∙ not_held (in_some (as_list k) t) (has c t) (in_some cells t) (meets t) (λ i. h.0 t i ∙ e)

-- A test that is constant on each cell of a span holds at the instants of these spans and at no
-- other one of the span.
pub spans_hold : (s : SpanOf) (functions : List Ends) (meets : Ratio → Bool) → has_instant s ≡ true → AllByRecursion (IsConstantOn meets) (cells_of s functions) → (t : Ratio) → in_some (spans_where meets (cells_of s functions)) t ≡ (has s t && meets t)
spans_hold s functions meets i h t = behind meets None (cells_of s functions) t tt (cells_meeting s functions i) h ∙ ap (λ b. b && meets t) (cells_cover s functions i t)
