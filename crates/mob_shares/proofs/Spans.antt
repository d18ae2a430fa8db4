-- Facts on spans: a set of instants is one span, and the part after a span.
use Rattle.std.{specs.Prelude.{◌≡◌, Bool, true, false, cond, refl, ◌||◌, ◌&&◌, not, [], ◌∷◌}, proofs.Common.{arith, ap, sym, subst, ◌∙◌, true≢false}}
use Rattle.mob_slice.proofs.Bisection.{clear_past}
use Rattle.mob_ratio.{specs.Ratio.{Ratio}, specs.Order.{before, up_to}, proofs.Order.{before-back, before-trans, before-neither, before-self}}
use Rattle.mob_span.{specs.Span.{SpanOf, has, has_instant}, specs.Meet.{meet_of, starts_before}, specs.Neighbours.{is_clear, is_inside}, specs.Remainders.{precedes, follows, front_of, back_of}}
use Rattle.mob_span.{proofs.SpanLemmas.{some_instant, no_instant, none_has, meet_has, meet_none, has_exact}, proofs.Insides.{clear_has}, proofs.Ends.{inside_exact}, proofs.OneSet.{one_set}}
use Rattle.mob_span.proofs.Leaving.{front_has, back_has, neither_has}

some_by : (m n : SpanOf) → ((t : Ratio) → has m t ≡ has n t) → (b c : Bool) → has_instant m ≡ b → has_instant n ≡ c → has_instant m ≡ has_instant n
some_by m n f true true h k = h ∙ sym k
some_by m n f false false h k = h ∙ sym k
some_by m n f true false h k = let i = some_instant m h in absurd (true≢false (sym i.1 ∙ f i.0 ∙ no_instant n i.0 k))
some_by m n f false true h k = let i = some_instant n k in absurd (true≢false (sym i.1 ∙ sym (f i.0) ∙ no_instant m i.0 h))

-- two spans that have the same instants are equal, if they have any
pub some_same : (m n : SpanOf) → ((t : Ratio) → has m t ≡ has n t) → has_instant m ≡ has_instant n
some_same m n f = some_by m n f (has_instant m) (has_instant n) refl refl

head_same : (m n : SpanOf) → m ∷ [] ≡ n ∷ [] → m ≡ n
head_same m n e = cc

pub one_span : (m n : SpanOf) → has_instant m ≡ true → ((t : Ratio) → has m t ≡ has n t) → m ≡ n
one_span m n h f = head_same m n (one_set (m ∷ []) (n ∷ []) (h, tt, tt) (sym (some_same m n f) ∙ h, tt, tt) (λ t. ap (λ b. b || false) (f t)))

pub inside_by : (s r : SpanOf) → has_instant r ≡ true → ((t : Ratio) → has r t ≡ true → has s t ≡ true) → is_inside s r ≡ true
inside_by s r h f = (inside_exact s r h).1 (λ t i. (has_exact s t).0 (f t ((has_exact r t).1 i)))

pub inside_of : (s r : SpanOf) → has_instant r ≡ true → is_inside s r ≡ true → (t : Ratio) → has r t ≡ true → has s t ≡ true
inside_of s r h i t k = (has_exact s t).1 ((inside_exact s r h).0 i t ((has_exact r t).0 k))

follows_by : (u l t : Ratio) (i j : Bool) → (before u l || (up_to u l && not (i && j))) ≡ true → (before l t || (j && up_to l t)) ≡ true → (before u t || (not i && up_to u t)) ≡ true
follows_by u l t i j h k = grind (arith, before-trans u l t, before-neither u l, before-neither l t, before-back u l, before-back l t, before-back u t)

pub not_precedes : (s : SpanOf) (t : Ratio) → has s t ≡ true → precedes t s ≡ false
not_precedes s t h = by (precedes t s) (follows t s) (sym h ∙ neither_has s t)
  where
    by : (p f : Bool) → true ≡ (not p && not f) → p ≡ false
    by true f e = absurd (true≢false e)
    by false f e = refl

pub not_follows : (s : SpanOf) (t : Ratio) → has s t ≡ true → follows t s ≡ false
not_follows s t h = by (precedes t s) (follows t s) (sym h ∙ neither_has s t)
  where
    by : (p f : Bool) → true ≡ (not p && not f) → f ≡ false
    by true f e = absurd (true≢false e)
    by false true e = absurd (true≢false e)
    by false false e = refl

-- the part of s after p shares with whatever comes after p the same instants as s
pub same_behind : (s p q : SpanOf) → is_clear p q ≡ true → (t : Ratio) → (has s t && has q t) ≡ (has (back_of s p) t && has q t)
same_behind s p q h t = by (has s t) (follows t p) (has q t) (clear_past p q t h) ∙ ap (λ b. b && has q t) (sym (back_has s p t))
  where
    by : (a f q : Bool) → (q ≡ true → f ≡ true) → (a && q) ≡ ((a && f) && q)
    by true f true k = sym (ap (λ b. b && true) (k refl))
    by true true false k = refl
    by true false false k = refl
    by false f q k = refl

pub same_behind' : (s p q : SpanOf) → is_clear p q ≡ true → (t : Ratio) → (has q t && has s t) ≡ (has q t && has (back_of s p) t)
same_behind' s p q h t = by (has s t) (follows t p) (has q t) (clear_past p q t h) ∙ ap (λ b. has q t && b) (sym (back_has s p t))
  where
    by : (a f q : Bool) → (q ≡ true → f ≡ true) → (q && a) ≡ (q && (a && f))
    by true f true k = sym (k refl)
    by false f true k = refl
    by a f false k = refl

pub meets_same : (s s' q : SpanOf) → ((t : Ratio) → (has s t && has q t) ≡ (has s' t && has q t)) → (t : Ratio) → has (meet_of s q) t ≡ has (meet_of s' q) t
meets_same s s' q f t = meet_has s q t ∙ f t ∙ sym (meet_has s' q t)

pub meets_same' : (s s' q : SpanOf) → ((t : Ratio) → (has q t && has s t) ≡ (has q t && has s' t)) → (t : Ratio) → has (meet_of q s) t ≡ has (meet_of q s') t
meets_same' s s' q f t = meet_has q s t ∙ f t ∙ sym (meet_has q s' t)

-- after their intersection, two spans share nothing
pub none_behind : (s r : SpanOf) → has_instant (meet_of (back_of s (meet_of s r)) (back_of r (meet_of s r))) ≡ false
none_behind s r = (meet_none (back_of s (meet_of s r)) (back_of r (meet_of s r))).1 (λ t. ap (λ b. b && has (back_of r (meet_of s r)) t) (back_has s (meet_of s r) t) ∙ ap (λ b. (has s t && follows t (meet_of s r)) && b) (back_has r (meet_of s r) t) ∙ by (has s t) (has r t) (follows t (meet_of s r)) (precedes t (meet_of s r)) (sym (meet_has s r t) ∙ neither_has (meet_of s r) t))
  where
    by : (s r f p : Bool) → (s && r) ≡ (not p && not f) → ((s && f) && (r && f)) ≡ false
    by true true true true e = absurd (true≢false e)
    by true true true false e = absurd (true≢false e)
    by true true false p e = refl
    by true false true p e = refl
    by true false false p e = refl
    by false r f p e = refl

-- the part before a span is clear of it
pub front_clear : (s r : SpanOf) → is_clear (front_of s r) r ≡ true
front_clear s r = by s.upper r.lower s.upper_inc r.lower_inc (is_clear s r) refl
  where
    by : (u l : Ratio) (i j b : Bool) → (before u l || (up_to u l && not (i && j))) ≡ b → (before (cond b u l) l || (up_to (cond b u l) l && not (cond b i (not j) && j))) ≡ true
    by u l i j true h = h
    by u l i j false h = grind (arith, before-self l)

-- and a span is clear of the part of another after it
pub clear_behind : (s p : SpanOf) → is_clear p (back_of s p) ≡ true
clear_behind s p = by s.lower p.upper s.lower_inc p.upper_inc (is_clear p s) refl
  where
    by : (l u : Ratio) (j i b : Bool) → (before u l || (up_to u l && not (i && j))) ≡ b → (before u (cond b l u) || (up_to u (cond b l u) && not (i && cond b j (not i)))) ≡ true
    by l u j i true h = h
    by l u j i false h = grind (arith, before-self u)

and_false : (a b : Bool) → a ≡ true → (a && b) ≡ false → b ≡ false
and_false true b h e = e
and_false false b h e = absurd (true≢false (sym h))

precedes_by : (t l m : Ratio) (i j b : Bool) → (before t l || (not i && up_to t l)) ≡ false → (before t m || (not j && up_to t m)) ≡ false → (before t (cond b l m) || (not (cond b i j) && up_to t (cond b l m))) ≡ false
precedes_by t l m i j true e f = e
precedes_by t l m i j false e f = f

follows_has : (r : SpanOf) (t u : Ratio) → follows t r ≡ true → has r u ≡ true → before u t ≡ true
follows_has r t u h k = grind (arith, h, k, before-trans u r.upper t, before-neither u r.upper, before-neither r.upper t, before-back u t)

-- if s has no part before r, it has none before their intersection
pub begins_left : (s r : SpanOf) → has_instant (front_of s r) ≡ false → (t : Ratio) → has s t ≡ true → precedes t (meet_of s r) ≡ false
begins_left s r n t h = precedes_by t r.lower s.lower r.lower_inc s.lower_inc (starts_before s r) (and_false (has s t) (precedes t r) h (sym (front_has s r t) ∙ no_instant (front_of s r) t n)) (not_precedes s t h)

pub begins_right : (s r : SpanOf) → has_instant (front_of r s) ≡ false → (t : Ratio) → has r t ≡ true → precedes t (meet_of s r) ≡ false
begins_right s r n t h = precedes_by t r.lower s.lower r.lower_inc s.lower_inc (starts_before s r) (not_precedes r t h) (and_false (has r t) (precedes t s) h (sym (front_has r s t) ∙ no_instant (front_of r s) t n))

-- if neither begins before the other, they share an instant
pub share_some : (s r : SpanOf) → has_instant s ≡ true → has_instant r ≡ true → has_instant (front_of s r) ≡ false → has_instant (front_of r s) ≡ false → has_instant (meet_of s r) ≡ true
share_some s r h k m n = by (has_instant (meet_of s r)) refl
  where
    i : (t : Ratio) × (has s t ≡ true)
    i = some_instant s h

    j : (t : Ratio) × (has r t ≡ true)
    j = some_instant r k

    apart : (b f p : Bool) → p ≡ false → b ≡ (not p && not f) → b ≡ false → f ≡ true
    apart b true p e g z = refl
    apart b false true e g z = absurd (true≢false e)
    apart b false false e g z = absurd (true≢false (sym g ∙ z))

    other : has_instant (meet_of s r) ≡ false → (t : Ratio) → has s t ≡ true → has r t ≡ false
    other e t a = and_false (has s t) (has r t) a (sym (meet_has s r t) ∙ no_instant (meet_of s r) t e)

    other' : has_instant (meet_of s r) ≡ false → (t : Ratio) → has r t ≡ true → has s t ≡ false
    other' e t a = and_false (has r t) (has s t) a (turn (has s t) (has r t) (sym (meet_has s r t) ∙ no_instant (meet_of s r) t e))
      where
        turn : (a b : Bool) → (a && b) ≡ false → (b && a) ≡ false
        turn true true z = z
        turn true false z = refl
        turn false true z = refl
        turn false false z = refl

    first : has_instant (meet_of s r) ≡ false → follows i.0 r ≡ true
    first e = apart (has r i.0) (follows i.0 r) (precedes i.0 r) (and_false (has s i.0) (precedes i.0 r) i.1 (sym (front_has s r i.0) ∙ no_instant (front_of s r) i.0 m)) (neither_has r i.0) (other e i.0 i.1)

    second : has_instant (meet_of s r) ≡ false → follows j.0 s ≡ true
    second e = apart (has s j.0) (follows j.0 s) (precedes j.0 s) (and_false (has r j.0) (precedes j.0 s) j.1 (sym (front_has r s j.0) ∙ no_instant (front_of r s) j.0 n)) (neither_has s j.0) (other' e j.0 j.1)

    by : (b : Bool) → has_instant (meet_of s r) ≡ b → has_instant (meet_of s r) ≡ true
    by true e = e
    by false e = absurd (true≢false (sym (follows_has r i.0 j.0 (first e) j.1) ∙ before-back i.0 j.0 (follows_has s j.0 i.0 (second e) i.1)))

-- the start of the rest of s after its part before r
pub back_start : (s r : SpanOf) → is_clear s r ≡ false → has_instant (front_of s r) ≡ true → ((back_of s (front_of s r)).lower ≡ r.lower) × ((back_of s (front_of s r)).lower_inc ≡ not (not r.lower_inc))
back_start s r n h =
    let f : front_of s r ≡ record { lower = s.lower; upper = r.lower; lower_inc = s.lower_inc; upper_inc = not r.lower_inc } = ap (λ b. record { lower = s.lower; upper = cond b s.upper r.lower; lower_inc = s.lower_inc; upper_inc = cond b s.upper_inc (not r.lower_inc) }) n in
    let e : is_clear (front_of s r) s ≡ false = not_clear (is_clear (front_of s r) s) refl in (
      ap (λ b. cond b s.lower (front_of s r).upper) e ∙ ap (λ z. z.upper) f,
      ap (λ b. cond b s.lower_inc (not (front_of s r).upper_inc)) e ∙ ap (λ z. not z.upper_inc) f,
    )
  where
    i : (t : Ratio) × (has (front_of s r) t ≡ true)
    i = some_instant (front_of s r) h

    left : (a b : Bool) → (a && b) ≡ true → a ≡ true
    left true b z = refl
    left false b z = z

    not_clear : (b : Bool) → is_clear (front_of s r) s ≡ b → is_clear (front_of s r) s ≡ false
    not_clear false e = e
    not_clear true e = absurd (true≢false (sym (left (has s i.0) (precedes i.0 r) (sym (front_has s r i.0) ∙ i.1)) ∙ clear_has (front_of s r) s i.0 e i.1))

-- a span has no part after itself, nor after its part before a span that it is clear of
pub none_self : (s : SpanOf) → has_instant (back_of s s) ≡ false
none_self s = none_has (back_of s s) (λ t. back_has s s t ∙ by (has s t) (follows t s) (not_follows s t))
  where
    by : (a f : Bool) → (a ≡ true → f ≡ false) → (a && f) ≡ false
    by true f h = h refl
    by false f h = refl

pub front_whole : (s r : SpanOf) → is_clear s r ≡ true → front_of s r ≡ s
front_whole s r h = ap (λ b. record { lower = s.lower; upper = cond b s.upper r.lower; lower_inc = s.lower_inc; upper_inc = cond b s.upper_inc (not r.lower_inc) }) h

pub none_clear : (s r : SpanOf) → is_clear s r ≡ true → has_instant (back_of s (front_of s r)) ≡ false
none_clear s r h = subst (λ z. has_instant (back_of s z) ≡ false) (sym (front_whole s r h)) (none_self s)
