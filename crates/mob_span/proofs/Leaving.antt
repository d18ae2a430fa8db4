-- The rest of a span without spans in order.
use Rattle.std.specs.Prelude.{◌≡◌, Bool, true, false, cond, refl, ◌||◌, ◌&&◌, not, List, [], ◌∷◌, IfSome, MatchOption, Option, Some, None}
use Rattle.std.{proofs.Common.{◌++◌, arith, ap, sym, subst, ◌∙◌, true≢false, append_assoc, append-nil}, proofs.lemmas.Bool.{false_from_ne_true}}
use Rattle.mob_ratio.{specs.Ratio.{Ratio}, specs.Order.{before, up_to}, proofs.Order.{before-back, before-trans, before-neither}}
use Rattle.mob_span.{specs.Span.{SpanOf, has, has_instant}, specs.Neighbours.{is_clear}, specs.Chained.{OfHead}, specs.Pieces.{PiecesAreClear}, specs.Sets.{in_some, is_apart, IsSpanSet}}
use Rattle.mob_span.{specs.Remainders.{precedes, follows, front_of, back_of, remainders_of, AreRemainders}, proofs.SpanLemmas.{some_instant, no_instant, between_ends, IsMadeOf}}
use Rattle.mob_span.{proofs.Clearness.{clear_before}, proofs.Shared.{AreAllClear, all_after}, proofs.Touching.{apart_clear}}

-- the end of the part before a span
front_end : (u m t : Ratio) (i j b : Bool) → (before u m || (up_to u m && not (i && j))) ≡ b → (before t (cond b u m) || (cond b i (not j) && up_to t (cond b u m))) ≡ ((before t u || (i && up_to t u)) && (before t m || (not j && up_to t m)))
front_end u m t i j true h = grind (arith, before-trans t u m, before-neither t u, before-neither u m, before-back t m, before-back t u, before-back u m)
front_end u m t i j false h = grind (arith, before-trans t m u, before-neither u m, before-neither t m, before-back t m, before-back t u, before-back u m, before-back m u)

-- the start of the part after a span
back_start : (l m t : Ratio) (i j b : Bool) → (before m l || (up_to m l && not (j && i))) ≡ b → (before (cond b l m) t || (cond b i (not j) && up_to (cond b l m) t)) ≡ ((before l t || (i && up_to l t)) && (before m t || (not j && up_to m t)))
back_start l m t i j true h = grind (arith, before-trans m l t, before-neither l t, before-neither m l, before-back m t, before-back l t, before-back m l)
back_start l m t i j false h = grind (arith, before-trans l m t, before-neither m l, before-neither m t, before-back m t, before-back l t, before-back m l, before-back l m)

three : (a b c : Bool) → (a && (b && c)) ≡ ((a && b) && c)
three a b c = grind arith

turned : (a b c : Bool) → ((a && c) && b) ≡ ((a && b) && c)
turned a b c = grind arith

pub front_has : (s r : SpanOf) (t : Ratio) → has (front_of s r) t ≡ (has s t && precedes t r)
front_has s r t = ap (λ z. (before s.lower t || (s.lower_inc && up_to s.lower t)) && z) (front_end s.upper r.lower t s.upper_inc r.lower_inc (is_clear s r) refl) ∙ three (before s.lower t || (s.lower_inc && up_to s.lower t)) (before t s.upper || (s.upper_inc && up_to t s.upper)) (precedes t r)

pub back_has : (s r : SpanOf) (t : Ratio) → has (back_of s r) t ≡ (has s t && follows t r)
back_has s r t = ap (λ z. z && (before t s.upper || (s.upper_inc && up_to t s.upper))) (back_start s.lower r.upper t s.lower_inc r.upper_inc (is_clear r s) refl) ∙ turned (before s.lower t || (s.lower_inc && up_to s.lower t)) (before t s.upper || (s.upper_inc && up_to t s.upper)) (follows t r)

-- an instant is in a span exactly if it comes neither before nor after all of it
pub neither_has : (r : SpanOf) (t : Ratio) → has r t ≡ (not (precedes t r) && not (follows t r))
neither_has r t = grind (arith, before-back t r.lower, before-back r.lower t, before-back r.upper t, before-back t r.upper)

before_has : (r : SpanOf) (t m : Ratio) → precedes t r ≡ true → has r m ≡ true → before t m ≡ true
before_has r t m h k = grind (arith, before-trans t r.lower m, before-neither t r.lower, before-neither r.lower m)

-- an instant before a span is in none of the later ones
none_later : (r : SpanOf) (w : List SpanOf) (t m : Ratio) → has r m ≡ true → AreAllClear (λ s. s) r w → precedes t r ≡ true → in_some w t ≡ false
none_later r [] t m i h k = refl
none_later r (q ∷ w) t m i h k =
    let no : has q t ≡ false = false_from_ne_true (has q t) (λ e. true≢false (sym (clear_before r q m t h.0 i e) ∙ before-back t m (before_has r t m k i))) in
    rw no (none_later r w t m i h.1 k)

left_by : (s p f w : Bool) → (p ≡ true → w ≡ false) → ((s && p) || ((s && f) && not w)) ≡ (s && not ((not p && not f) || w))
left_by true true f w h = rw (h refl) refl
left_by true false true w h = refl
left_by true false false w h = refl
left_by false p f w h = refl

-- The remainders have exactly the instants of the span that none of the spans has.
pub remainders_in : (s : SpanOf) (w : List SpanOf) → PiecesAreClear (λ s. s) w → AreRemainders s w (remainders_of s w)
remainders_in s [] h t = grind arith
remainders_in s (r ∷ w) h t = by (has_instant (front_of s r)) (has_instant (back_of s r)) refl refl (remainders_in (back_of s r) w h.2 t)
  where
    whole : ((has s t && precedes t r) || ((has s t && follows t r) && not (in_some w t))) ≡ (has s t && not (has r t || in_some w t))
    whole = let m = some_instant r h.0 in left_by (has s t) (precedes t r) (follows t r) (in_some w t) (none_later r w t m.0 m.1 (all_after (λ s. s) r w h)) ∙ ap (λ b. has s t && not (b || in_some w t)) (sym (neither_has r t))

    ahead : (has (front_of s r) t || (has (back_of s r) t && not (in_some w t))) ≡ (has s t && not (has r t || in_some w t))
    ahead = ap (λ b. b || (has (back_of s r) t && not (in_some w t))) (front_has s r t) ∙ ap (λ b. (has s t && precedes t r) || (b && not (in_some w t))) (back_has s r t) ∙ whole

    rest : (c : Bool) → has_instant (back_of s r) ≡ c → in_some (remainders_of (back_of s r) w) t ≡ (has (back_of s r) t && not (in_some w t)) → in_some (cond c (remainders_of (back_of s r) w) []) t ≡ (has (back_of s r) t && not (in_some w t))
    rest true e ih = ih
    rest false e ih = rw (no_instant (back_of s r) t e) refl

    by : (b c : Bool) → has_instant (front_of s r) ≡ b → has_instant (back_of s r) ≡ c → in_some (remainders_of (back_of s r) w) t ≡ (has (back_of s r) t && not (in_some w t)) → in_some (cond b (front_of s r ∷ cond c (remainders_of (back_of s r) w) []) (cond c (remainders_of (back_of s r) w) [])) t ≡ (has s t && not (has r t || in_some w t))
    by true c e f ih = ap (λ b. has (front_of s r) t || b) (rest c f ih) ∙ ahead
    by false c e f ih = rest c f ih ∙ (rw (no_instant (front_of s r) t e) at ahead)

-- whatever is after a span is still after it without its front
clear_back_by : (q l m : Ratio) (k i j b : Bool) → (before m l || (up_to m l && not (j && i))) ≡ b → (before q l || (up_to q l && not (k && i))) ≡ true → (before q (cond b l m) || (up_to q (cond b l m) && not (k && cond b i (not j)))) ≡ true
clear_back_by q l m k i j true e h = h
clear_back_by q l m k i j false e h = grind (arith, before-trans q l m, before-neither q l, before-neither m l, before-back q m, before-back q l, before-back m l, before-back l m)

pub clear_back : (q s r : SpanOf) → is_clear q s ≡ true → is_clear q (back_of s r) ≡ true
clear_back q s r h = clear_back_by q.upper s.lower r.upper q.upper_inc s.lower_inc r.upper_inc (is_clear r s) refl h

front_back_by : (s r : SpanOf) (b c : Bool) → is_clear s r ≡ b → is_clear r s ≡ c → has_instant s ≡ true → has_instant r ≡ true
    → (before (cond b s.upper r.lower) (cond c s.lower r.upper) || (up_to (cond b s.upper r.lower) (cond c s.lower r.upper) && not (cond b s.upper_inc (not r.lower_inc) && cond c s.lower_inc (not r.upper_inc)))) ≡ true
front_back_by s r true true e f h k = let m = some_instant s h in let n = some_instant r k in absurd (true≢false (sym (clear_before r s n.0 m.0 f n.1 m.1) ∙ before-back m.0 n.0 (clear_before s r m.0 n.0 e m.1 n.1)))
front_back_by s r true false e f h k = grind (arith, e, k, before-trans s.upper r.lower r.upper, before-neither s.upper r.lower, before-neither r.lower r.upper, before-back s.upper r.upper, before-back s.upper r.lower, before-back r.lower r.upper)
front_back_by s r false true e f h k = grind (arith, f, k, before-trans r.lower r.upper s.lower, before-neither r.lower r.upper, before-neither r.upper s.lower, before-back r.lower s.lower, before-back r.lower r.upper, before-back r.upper s.lower)
front_back_by s r false false e f h k = grind (arith, k)

-- the part before a span is clear of the part after it
pub front_back : (s r : SpanOf) → has_instant s ≡ true → has_instant r ≡ true → is_clear (front_of s r) (back_of s r) ≡ true
front_back s r h k = front_back_by s r (is_clear s r) (is_clear r s) refl refl h k

remainders_head : (q s : SpanOf) (w : List SpanOf) → is_clear q s ≡ true → OfHead (λ p r. is_clear p r ≡ true) q (remainders_of s w)
remainders_head q s [] h = h
remainders_head q s (r ∷ w) h = by (has_instant (front_of s r)) (has_instant (back_of s r)) (remainders_head q (back_of s r) w (clear_back q s r h))
  where
    by : (b c : Bool) → OfHead (λ p r. is_clear p r ≡ true) q (remainders_of (back_of s r) w) → OfHead (λ p r. is_clear p r ≡ true) q (cond b (front_of s r ∷ cond c (remainders_of (back_of s r) w) []) (cond c (remainders_of (back_of s r) w) []))
    by true c ih = h
    by false true ih = ih
    by false false ih = tt

-- The remainders are in order, and each has an instant.
pub remainders_clear : (s : SpanOf) (w : List SpanOf) → has_instant s ≡ true → PiecesAreClear (λ s. s) w → PiecesAreClear (λ s. s) (remainders_of s w)
remainders_clear s [] h k = (h, tt, tt)
remainders_clear s (r ∷ w) h k = by (has_instant (front_of s r)) (has_instant (back_of s r)) refl refl (λ i. remainders_clear (back_of s r) w i k.2)
  where
    rest : (c : Bool) → has_instant (back_of s r) ≡ c → (has_instant (back_of s r) ≡ true → PiecesAreClear (λ s. s) (remainders_of (back_of s r) w)) → PiecesAreClear (λ s. s) (cond c (remainders_of (back_of s r) w) [])
    rest true e ih = ih e
    rest false e ih = tt

    head : (c : Bool) → OfHead (λ p r. is_clear p r ≡ true) (front_of s r) (cond c (remainders_of (back_of s r) w) [])
    head true = remainders_head (front_of s r) (back_of s r) w (front_back s r h k.0)
    head false = tt

    by : (b c : Bool) → has_instant (front_of s r) ≡ b → has_instant (back_of s r) ≡ c → (has_instant (back_of s r) ≡ true → PiecesAreClear (λ s. s) (remainders_of (back_of s r) w)) → PiecesAreClear (λ s. s) (cond b (front_of s r ∷ cond c (remainders_of (back_of s r) w) []) (cond c (remainders_of (back_of s r) w) []))
    by true c e f ih = (e, head c, rest c f ih)
    by false c e f ih = rest c f ih

-- a part of a span exists if it has an instant
pub front_instants : (s r : SpanOf) (o : Option SpanOf) → IfSome o (λ p. p ≡ front_of s r) → MatchOption o (has_instant (front_of s r) ≡ false) (λ p. has_instant p ≡ true) → MatchOption o ((t : Ratio) → (has s t && precedes t r) ≡ false) (λ p. (t : Ratio) → has p t ≡ (has s t && precedes t r))
front_instants s r None e h = λ t. sym (front_has s r t) ∙ no_instant (front_of s r) t h
front_instants s r (Some p) e h = λ t. ap (λ z. has z t) e ∙ front_has s r t

pub back_instants : (s r : SpanOf) (o : Option SpanOf) → IfSome o (λ p. p ≡ back_of s r) → MatchOption o (has_instant (back_of s r) ≡ false) (λ p. has_instant p ≡ true) → MatchOption o ((t : Ratio) → (has s t && follows t r) ≡ false) (λ p. (t : Ratio) → has p t ≡ (has s t && follows t r))
back_instants s r None e h = λ t. sym (back_has s r t) ∙ no_instant (back_of s r) t h
back_instants s r (Some p) e h = λ t. ap (λ z. has z t) e ∙ back_has s r t

set_head : (s : SpanOf) (v : List SpanOf) → OfHead (λ s r. is_apart s r ≡ true) s v → OfHead (λ s r. is_clear s r ≡ true) s v
set_head s [] h = tt
set_head s (r ∷ v) h = apart_clear s r h

-- the spans of a set are in order
pub set_clear : (v : List SpanOf) → IsSpanSet v → PiecesAreClear (λ s. s) v
set_clear [] h = tt
set_clear (s ∷ v) h = (h.0, set_head s v h.1, set_clear v h.2)

pub remainders_found : (s : SpanOf) (w v : List SpanOf) → v ≡ remainders_of s w → PiecesAreClear (λ s. s) w → AreRemainders s w v
remainders_found s w v e h t = ap (λ z. in_some z t) e ∙ remainders_in s w h t

pub remainders_order : (s : SpanOf) (w v : List SpanOf) → v ≡ remainders_of s w → has_instant s ≡ true → PiecesAreClear (λ s. s) w → PiecesAreClear (λ s. s) v
remainders_order s w v e h k = rw e (remainders_clear s w h k)

-- ---- a step of the walk that finds the remainders

-- the result of the walk once it reaches r: the part of s before r, if not empty, is added
abbrev pub front_into : SpanOf → SpanOf → List SpanOf → List SpanOf
front_into s r old = cond (has_instant (front_of s r)) (old ++ front_of s r ∷ []) old

pub front_added : (s r p : SpanOf) (old new : List SpanOf) → p ≡ front_of s r → has_instant p ≡ true → new ≡ old ++ p ∷ [] → new ≡ front_into s r old
front_added s r p old new e h n = let k : has_instant (front_of s r) ≡ true = subst (λ z. has_instant z ≡ true) e h in rw k (n ∙ ap (λ z. old ++ z ∷ []) e)

pub no_front : (s r : SpanOf) (old new : List SpanOf) → has_instant (front_of s r) ≡ false → new ≡ old → new ≡ front_into s r old
no_front s r old new h n = rw h n

added_before : (b : Bool) (p : SpanOf) (old rest : List SpanOf) → cond b (old ++ p ∷ []) old ++ rest ≡ old ++ cond b (p ∷ rest) rest
added_before true p old rest = append_assoc old (p ∷ []) rest
added_before false p old rest = refl

-- if part of s is left after r, the walk goes on
pub left_on : (s r q : SpanOf) (v w old new all : List SpanOf) → v ≡ r ∷ w → new ≡ front_into s r old → q ≡ back_of s r → has_instant q ≡ true → old ++ remainders_of s v ≡ all → new ++ remainders_of q w ≡ all
left_on s r q v w old new all e n b h i =
    let k : has_instant (back_of s r) ≡ true = subst (λ z. has_instant z ≡ true) b h in
    rw (n, b) (added_before (has_instant (front_of s r)) (front_of s r) old (remainders_of (back_of s r) w) ∙ (rw (e, k) at i))

-- if nothing is left after r, the result is complete
pub left_all : (s r : SpanOf) (v w old new all : List SpanOf) → v ≡ r ∷ w → new ≡ front_into s r old → has_instant (back_of s r) ≡ false → old ++ remainders_of s v ≡ all → new ≡ all
left_all s r v w old new all e n k i = rw n (sym (append-nil (front_into s r old)) ∙ added_before (has_instant (front_of s r)) (front_of s r) old [] ∙ (rw (e, k) at i))

-- after the last of the spans, the rest of s is added
pub left_last : (s : SpanOf) (v old new all : List SpanOf) → v ≡ [] → new ≡ old ++ s ∷ [] → old ++ remainders_of s v ≡ all → new ≡ all
left_last s v old new all e n i = n ∙ (rw e at i)

-- ---- the results of the calls

-- the end that the code chooses
front_picked : (s r : SpanOf) (u : Ratio × Bool) (b : Bool) → u ≡ cond b (s.upper, s.upper_inc) (r.lower, not r.lower_inc) → between_ends (s.lower, s.lower_inc) u ≡ between_ends (s.lower, s.lower_inc) (cond b s.upper r.lower, cond b s.upper_inc (not r.lower_inc))
front_picked s r u true e = rw e refl
front_picked s r u false e = rw e refl

back_picked : (s r : SpanOf) (u : Ratio × Bool) (b : Bool) → u ≡ cond b (s.lower, s.lower_inc) (r.upper, not r.upper_inc) → between_ends u (s.upper, s.upper_inc) ≡ between_ends (cond b s.lower r.upper, cond b s.lower_inc (not r.upper_inc)) (s.upper, s.upper_inc)
back_picked s r u true e = rw e refl
back_picked s r u false e = rw e refl

-- the clauses on the part before, and on the part after
pub front_answers : (s r : SpanOf) (b : Bool) (u : Ratio × Bool) (o : Option SpanOf) → b ≡ is_clear s r → u ≡ cond b (s.upper, s.upper_inc) (r.lower, not r.lower_inc) → IsMadeOf (between_ends (s.lower, s.lower_inc) u) o
    → MatchOption o ((t : Ratio) → (has s t && precedes t r) ≡ false) (λ p. (t : Ratio) → has p t ≡ (has s t && precedes t r)) × IsMadeOf (front_of s r) o
front_answers s r b u o eb eu h =
    let k = subst (λ d. IsMadeOf (between_ends (s.lower, s.lower_inc) (cond d s.upper r.lower, cond d s.upper_inc (not r.lower_inc))) o) eb (subst (λ z. IsMadeOf z o) (front_picked s r u b eu) h) in
    (front_instants s r o k.0 k.1, k)

pub back_answers : (s r : SpanOf) (b : Bool) (u : Ratio × Bool) (o : Option SpanOf) → b ≡ is_clear r s → u ≡ cond b (s.lower, s.lower_inc) (r.upper, not r.upper_inc) → IsMadeOf (between_ends u (s.upper, s.upper_inc)) o
    → MatchOption o ((t : Ratio) → (has s t && follows t r) ≡ false) (λ p. (t : Ratio) → has p t ≡ (has s t && follows t r)) × IsMadeOf (back_of s r) o
back_answers s r b u o eb eu h =
    let k = subst (λ d. IsMadeOf (between_ends (cond d s.lower r.upper, cond d s.lower_inc (not r.upper_inc)) (s.upper, s.upper_inc)) o) eb (subst (λ z. IsMadeOf z o) (back_picked s r u b eu) h) in
    (back_instants s r o k.0 k.1, k)
