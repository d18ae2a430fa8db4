-- The remainders of a span have the ends of the spans removed: inside a slice of time, one list is
-- cut at exactly the instants of the other.
use Rattle.std.{specs.Prelude.{◌≡◌, ◌⊎◌, Bool, true, false, cond, ◌||◌, ◌&&◌, not, List, [], ◌∷◌, refl}, specs.List.{AllByRecursion}, proofs.lemmas.Bool.{and_parts, and_from}}
use Rattle.std.proofs.Common.{arith, ap, sym, ◌∙◌, subst, inl, inr, ⊎_elim, true≢false}
use Rattle.mob_ratio.{specs.Ratio.{Ratio}, specs.Order.{before, up_to}, proofs.Order.{before-back, before-trans, before-neither, up_to-trans, up_to-not-after, before-up_to, up_to-before}}
use Rattle.mob_span.{specs.Span.{SpanOf, has_instant}, specs.Neighbours.{is_clear, is_inside}, specs.Meet.{starts_before, ends_before, meet_of}, specs.Pieces.{PiecesAreClear}}
use Rattle.mob_span.{specs.Sets.{is_apart, IsSpanSet}, specs.Remainders.{front_of, back_of, remainders_of}, proofs.SpanLemmas.{some_upto, has_upto_lower, has_upto_upper, meet_some}}
use Rattle.mob_span.{proofs.Ends.{first_by, last_by}, proofs.Shared.{AreAllClear, all_after}, proofs.Leaving.{set_clear, remainders_clear}, proofs.Insides.{inner_has}}

later_from : (a l t : Ratio) (i : Bool) → before a l ≡ true → (before l t || (i && up_to l t)) ≡ true → before a t ≡ true
later_from a l t i h k = grind (arith, before-trans a l t, before-neither l t)

sooner_to : (t u b : Ratio) (i : Bool) → before u b ≡ true → (before t u || (i && up_to t u)) ≡ true → before t b ≡ true
sooner_to t u b i h k = grind (arith, before-trans t u b, before-neither t u)

starts_if : (s r : SpanOf) → before s.lower r.lower ≡ true → starts_before s r ≡ true
starts_if s r h = grind (arith, h)

ends_not : (s r : SpanOf) → before r.upper s.upper ≡ true → ends_before s r ≡ false
ends_not s r h = grind (arith, h, before-back r.upper s.upper)

-- a span that starts, or ends, strictly inside another shares an instant with it, and their
-- intersection starts, or ends, there
low_meets : (s r : SpanOf) → has_instant r ≡ true → before s.lower r.lower ≡ true → before r.lower s.upper ≡ true → has_instant (meet_of s r) ≡ true
low_meets s r i a b =
    let m = first_by r s.upper (before r.lower r.upper) (before s.upper r.upper) refl refl i b in
    (meet_some s r).1 (m.0, and_from _ _ (inner_has s m.0 (later_from s.lower r.lower m.0 r.lower_inc a (and_parts _ _ m.1).0) m.2) m.1)

high_meets : (s r : SpanOf) → has_instant r ≡ true → before s.lower r.upper ≡ true → before r.upper s.upper ≡ true → has_instant (meet_of s r) ≡ true
high_meets s r i a b =
    let m = last_by r s.lower (before r.lower r.upper) (before r.lower s.lower) refl refl i a in
    (meet_some s r).1 (m.0, and_from _ _ (inner_has s m.0 m.2 (sooner_to m.0 r.upper s.upper r.upper_inc b (and_parts _ _ m.1).1)) m.1)

starts_upto : (s r : SpanOf) → starts_before s r ≡ true → up_to s.lower r.lower ≡ true
starts_upto s r h = grind (arith, before-back s.lower r.lower)

pub ends_upto : (s r : SpanOf) → ends_before s r ≡ false → up_to r.upper s.upper ≡ true
ends_upto s r h = grind (arith, h)

-- a span that starts before one with an instant is not after it
not_after : (h w : SpanOf) → has_instant w ≡ true → starts_before h w ≡ true → is_clear w h ≡ false
not_after h w i k = grind (arith, i, k, before-trans h.lower w.lower w.upper, before-trans w.upper h.lower w.lower, before-neither h.lower w.lower, before-neither w.lower w.upper, before-neither w.upper h.lower, before-back h.lower w.upper, before-back w.lower w.upper, before-back h.lower w.lower, before-back w.upper h.lower)

not_before : (h w : SpanOf) → before w.lower h.upper ≡ true → is_clear h w ≡ false
not_before h w k = grind (arith, k, before-back w.lower h.upper)

not_after_long : (h w : SpanOf) → before h.lower w.upper ≡ true → is_clear w h ≡ false
not_after_long h w k = grind (arith, k, before-back h.lower w.upper)

-- the part before a span has an instant if the whole starts before that span
front_some_by : (h w : SpanOf) (b : Bool) → is_clear h w ≡ b → has_instant h ≡ true → starts_before h w ≡ true → (before h.lower (cond b h.upper w.lower) || (h.lower_inc && cond b h.upper_inc (not w.lower_inc) && up_to h.lower (cond b h.upper w.lower))) ≡ true
front_some_by h w true e i k = i
front_some_by h w false e i k = grind (arith, k)

front_some : (h w : SpanOf) → has_instant h ≡ true → starts_before h w ≡ true → has_instant (front_of h w) ≡ true
front_some h w i k = front_some_by h w (is_clear h w) refl i k

back_later_by : (h w v : SpanOf) (b : Bool) → b ≡ false → is_apart w v ≡ true → (before (cond b h.lower w.upper) v.lower || (up_to (cond b h.lower w.upper) v.lower && cond b h.lower_inc (not w.upper_inc) && not v.lower_inc)) ≡ true
back_later_by h w v true e a = absurd (true≢false e)
back_later_by h w v false e a = grind (arith, a)

back_long_by : (h w : SpanOf) (b : Bool) → b ≡ false → before w.upper h.upper ≡ true → (before (cond b h.lower w.upper) h.upper || (cond b h.lower_inc (not w.upper_inc) && h.upper_inc && up_to (cond b h.lower w.upper) h.upper)) ≡ true
back_long_by h w true e k = absurd (true≢false e)
back_long_by h w false e k = grind (arith, k)

back_none_by : (h w : SpanOf) (b : Bool) → is_clear w h ≡ b → has_instant h ≡ true → (before (cond b h.lower w.upper) h.upper || (cond b h.lower_inc (not w.upper_inc) && h.upper_inc && up_to (cond b h.lower w.upper) h.upper)) ≡ false → up_to h.upper w.upper ≡ true
back_none_by h w true e i n = absurd (true≢false (sym i ∙ n))
back_none_by h w false e i n = grind (arith, n)

-- the spans of a list start after h
abbrev pub HeadLater : SpanOf → List SpanOf → Type 0
HeadLater h [] = Unit {0}
HeadLater h (w ∷ ws) = starts_before h w ≡ true

head_later : (h w : SpanOf) (ws : List SpanOf) → is_clear w h ≡ false → IsSpanSet (w ∷ ws) → HeadLater (back_of h w) ws
head_later h w [] n o = tt
head_later h w (v ∷ ws) n o = back_later_by h w v (is_clear w h) n o.1

-- each of a list in order has an instant
all_some : (rs : List SpanOf) → PiecesAreClear (λ r. r) rs → AllByRecursion (λ r. has_instant r ≡ true) rs
all_some [] h = tt
all_some (r ∷ rs) h = (h.0, all_some rs h.2)

-- P holds for each instant at which a slice of time s is cut: for its own ends, and for others
-- given
module _ (P : Ratio → Type 0) (s : SpanOf) (low : P s.lower) (high : P s.upper) where
  -- P holds for e if e lies strictly inside s
  abbrev pub Inner : Ratio → Type 0
  Inner e = before s.lower e ≡ true → before e s.upper ≡ true → P e

  -- P holds for both ends of each span of a list that lie inside s
  abbrev pub InnerEnds : List SpanOf → Type 0
  InnerEnds rs = AllByRecursion (λ r. Inner r.lower × Inner r.upper) rs

  -- P holds for both ends of the intersection of s with each of them
  abbrev pub SharedEnds : List SpanOf → Type 0
  SharedEnds rs = AllByRecursion (λ r. has_instant (meet_of s r) ≡ true → P (meet_of s r).lower × P (meet_of s r).upper) rs

  within_by : (e : Ratio) (b c : Bool) → before s.lower e ≡ b → before e s.upper ≡ c → up_to s.lower e ≡ true → up_to e s.upper ≡ true → Inner e → P e
  within_by e true true f g h k i = i f g
  within_by e b false f g h k i = subst P (sym (before-neither e s.upper g (grind (arith, k)))) high
  within_by e false true f g h k i = subst P (before-neither s.lower e f (grind (arith, h))) low

  shared_low : (r : SpanOf) (b : Bool) → starts_before s r ≡ b → has_instant (meet_of s r) ≡ true → Inner r.lower → P (cond b r.lower s.lower)
  shared_low r true e i k =
      let m = (meet_some s r).0 i in
      let h = and_parts _ _ m.1 in
      within_by r.lower (before s.lower r.lower) (before r.lower s.upper) refl refl (starts_upto s r e) (up_to-trans r.lower m.0 s.upper (has_upto_lower r m.0 h.1) (has_upto_upper s m.0 h.0)) k
  shared_low r false e i k = low

  shared_high : (r : SpanOf) (b : Bool) → ends_before s r ≡ b → has_instant (meet_of s r) ≡ true → Inner r.upper → P (cond b s.upper r.upper)
  shared_high r true e i k = high
  shared_high r false e i k =
      let m = (meet_some s r).0 i in
      let h = and_parts _ _ m.1 in
      within_by r.upper (before s.lower r.upper) (before r.upper s.upper) refl refl (up_to-trans s.lower m.0 r.upper (has_upto_lower s m.0 h.0) (has_upto_upper r m.0 h.1)) (ends_upto s r e) k

  -- P holds for the ends of the spans strictly inside s exactly if it holds for the ends of their
  -- intersections with s
  inner_shared : (rs : List SpanOf) → InnerEnds rs → SharedEnds rs
  inner_shared [] h = tt
  inner_shared (r ∷ rs) h = (λ i. (shared_low r (starts_before s r) refl i h.0.0, shared_high r (ends_before s r) refl i h.0.1), inner_shared rs h.1)

  shared_inner : (rs : List SpanOf) → AllByRecursion (λ r. has_instant r ≡ true) rs → SharedEnds rs → InnerEnds rs
  shared_inner [] i h = tt
  shared_inner (r ∷ rs) i h = (
    (
      λ a b. subst P (ap (λ z. cond z r.lower s.lower) (starts_if s r a)) (h.0 (low_meets s r i.0 a b)).0,
      λ a b. subst P (ap (λ z. cond z s.upper r.upper) (ends_not s r b)) (h.0 (high_meets s r i.0 a b)).1,
    ),
    shared_inner rs i.1 h.1,
  )

  pick : (b : Bool) (x y : Ratio) → Inner x → Inner y → Inner (cond b x y)
  pick true x y h k = h
  pick false x y h k = k

  -- the ends of the remainders are ends of the spans or of the whole
  remainders_inner : (h : SpanOf) (ws : List SpanOf) → Inner h.lower → Inner h.upper → InnerEnds ws → InnerEnds (remainders_of h ws)
  remainders_inner h [] l u k = ((l, u), tt)
  remainders_inner h (w ∷ ws) l u k = by (has_instant (front_of h w)) (rest (has_instant (back_of h w)) (remainders_inner (back_of h w) ws (pick (is_clear w h) h.lower w.upper l k.0.1) u k.1))
    where
      rest : (c : Bool) → InnerEnds (remainders_of (back_of h w) ws) → InnerEnds (cond c (remainders_of (back_of h w) ws) [])
      rest true ih = ih
      rest false ih = tt

      by : (b : Bool) → InnerEnds (cond (has_instant (back_of h w)) (remainders_of (back_of h w) ws) []) → InnerEnds (cond b (front_of h w ∷ cond (has_instant (back_of h w)) (remainders_of (back_of h w) ws) []) (cond (has_instant (back_of h w)) (remainders_of (back_of h w) ws) []))
      by true ih = ((l, pick (is_clear h w) h.upper w.lower u k.0.0), ih)
      by false ih = ih

  front_ends : (b : Bool) (f : SpanOf) (rs : List SpanOf) → b ≡ true → InnerEnds (cond b (f ∷ rs) rs) → Inner f.lower × Inner f.upper
  front_ends true f rs e h = h.0
  front_ends false f rs e h = absurd (true≢false (sym e))

  next_of : (b : Bool) (f : SpanOf) (rs : List SpanOf) → InnerEnds (cond b (f ∷ rs) rs) → InnerEnds rs
  next_of true f rs h = h.1
  next_of false f rs h = h

  kept_of : (c : Bool) (rs : List SpanOf) → c ≡ true → InnerEnds (cond c rs []) → InnerEnds rs
  kept_of true rs e h = h
  kept_of false rs e h = absurd (true≢false (sym e))

  -- the first remainder starts with the whole
  first_low : (k : SpanOf) (ws : List SpanOf) → has_instant k ≡ true → HeadLater k ws → InnerEnds (remainders_of k ws) → Inner k.lower
  first_low k [] i l g = g.0.0
  first_low k (w ∷ ws) i l g = (front_ends (has_instant (front_of k w)) (front_of k w) (cond (has_instant (back_of k w)) (remainders_of (back_of k w) ws) []) (front_some k w i l) g).0

  -- spans past the end of s have no end strictly inside s
  past : (w : SpanOf) (ws : List SpanOf) → up_to s.upper w.upper ≡ true → AreAllClear (λ r. r) w ws → AllByRecursion (λ r. has_instant r ≡ true) ws → InnerEnds ws
  past w [] u c i = tt
  past w (v ∷ ws) u c i =
      let start : up_to s.upper v.lower ≡ true = up_to-trans s.upper w.upper v.lower u (clear_upto w v c.0) in
      ((λ a b. absurd (up_to-not-after s.upper v.lower start b), λ a b. absurd (up_to-not-after s.upper v.upper (up_to-trans s.upper v.lower v.upper start (some_upto v i.0)) b)), past w ws u c.1 i.1)
    where
      clear_upto : (p q : SpanOf) → is_clear p q ≡ true → up_to p.upper q.lower ≡ true
      clear_upto p q h = grind (arith, before-back p.upper q.lower)

  -- if the spans lie in the whole, and s does, P holds for the ends of the spans if it holds for
  -- those of the remainders
  spans_inner : (h : SpanOf) (ws : List SpanOf) → IsSpanSet ws → has_instant h ≡ true → (up_to h.lower s.lower ≡ true) ⊎ HeadLater h ws → up_to s.upper h.upper ≡ true → InnerEnds (remainders_of h ws) → InnerEnds ws
  spans_inner h [] o i l u g = tt
  spans_inner h (w ∷ ws) o i l u g = ((starts, ends), by (has_instant (back_of h w)) refl (next_of (has_instant (front_of h w)) (front_of h w) tails g) (λ e d r. spans_inner (back_of h w) ws o.2 e d u r))
    where
      tails : List SpanOf
      tails = cond (has_instant (back_of h w)) (remainders_of (back_of h w) ws) []

      begins : before s.lower w.lower ≡ true → starts_before h w ≡ true
      begins a = ⊎_elim (λ k. starts_if h w (up_to-before h.lower s.lower w.lower k a)) (λ k. k) l

      starts : Inner w.lower
      starts a b =
          let n : is_clear h w ≡ false = not_before h w (before-up_to w.lower s.upper h.upper b u) in
          subst Inner (ap (λ z. cond z h.upper w.lower) n) (front_ends (has_instant (front_of h w)) (front_of h w) tails (front_some h w i (begins a)) g).1 a b

      reaches : before s.lower w.upper ≡ true → is_clear w h ≡ false
      reaches a = ⊎_elim (λ k. not_after_long h w (up_to-before h.lower s.lower w.upper k a)) (λ k. not_after h w o.0 k) l

      ends : Inner w.upper
      ends a b =
          let n = reaches a in
          let some : has_instant (back_of h w) ≡ true = back_long_by h w (is_clear w h) n (before-up_to w.upper s.upper h.upper b u) in
          let rest = kept_of (has_instant (back_of h w)) (remainders_of (back_of h w) ws) some (next_of (has_instant (front_of h w)) (front_of h w) tails g) in
          subst Inner (ap (λ z. cond z h.lower w.upper) n) (first_low (back_of h w) ws some (head_later h w ws n o) rest) a b

      lower : (d : Bool) → is_clear w h ≡ d → (up_to (back_of h w).lower s.lower ≡ true) ⊎ HeadLater (back_of h w) ws
      lower true e = ⊎_elim (λ k. inl (subst (λ z. up_to (cond z h.lower w.upper) s.lower ≡ true) (sym e) k)) (λ k. absurd (true≢false (sym e ∙ not_after h w o.0 k))) l
      lower false e = inr (head_later h w ws e o)

      by : (c : Bool) → has_instant (back_of h w) ≡ c → InnerEnds (cond c (remainders_of (back_of h w) ws) []) → (has_instant (back_of h w) ≡ true → (up_to (back_of h w).lower s.lower ≡ true) ⊎ HeadLater (back_of h w) ws → InnerEnds (remainders_of (back_of h w) ws) → InnerEnds ws) → InnerEnds ws
      by true e r ih = ih e (lower (is_clear w h) refl) r
      by false e r ih =
          let n : up_to h.upper w.upper ≡ true = back_none_by h w (is_clear w h) refl i e in
          past w ws (up_to-trans s.upper h.upper w.upper u n) (all_after (λ r. r) w ws (set_clear (w ∷ ws) o)) (all_some ws (set_clear ws o.2))

  inside_low : (h : SpanOf) → is_inside h s ≡ true → up_to h.lower s.lower ≡ true
  inside_low h k = grind (arith, k, before-back h.lower s.lower)

  inside_high : (h : SpanOf) → is_inside h s ≡ true → up_to s.upper h.upper ≡ true
  inside_high h k = grind (arith, k, before-back s.upper h.upper)

  -- So s, which lies in h, is cut by the remainders of h at the instants at which the spans cut it.
  pub remainders_cut : (h : SpanOf) (ws : List SpanOf) → is_inside h s ≡ true → PiecesAreClear (λ r. r) ws → SharedEnds ws → SharedEnds (remainders_of h ws)
  remainders_cut h ws i o k = inner_shared (remainders_of h ws) (remainders_inner h ws (λ a b. absurd (up_to-not-after h.lower s.lower (inside_low h i) a)) (λ a b. absurd (up_to-not-after s.upper h.upper (inside_high h i) b)) (shared_inner ws (all_some ws o) k))

  pub spans_cut : (h : SpanOf) (ws : List SpanOf) → is_inside h s ≡ true → has_instant h ≡ true → IsSpanSet ws → SharedEnds (remainders_of h ws) → SharedEnds ws
  spans_cut h ws i j o k = inner_shared ws (spans_inner h ws o j (inl (inside_low h i)) (inside_high h i) (shared_inner (remainders_of h ws) (all_some (remainders_of h ws) (remainders_clear h ws j (set_clear ws o))) k))
