-- From the first span of a list in order to the last.
use Rattle.std.{specs.Prelude.{◌≡◌, Bool, true, false, ◌||◌, ◌&&◌, not, List, [], ◌∷◌, ◌++◌, Option, Some, None, IfSome, MatchOption, refl}, specs.List.{AllByRecursion}}
use Rattle.std.{proofs.lemmas.Bool.{and_parts, and_from}, proofs.Common.{arith, ap, sym, ◌∙◌, subst, true≢false}}
use Rattle.mob_ratio.{specs.Ratio.{Ratio}, specs.Order.{before, up_to}, proofs.Order.{before-back, before-trans, before-neither}}
use Rattle.mob_span.{specs.Span.{SpanOf, has, has_instant}, specs.Neighbours.{is_clear, is_inside, joined}, specs.Pieces.{PiecesAreClear}, specs.Sets.{in_some}}
use Rattle.mob_span.{specs.Remainders.{AreRemainders, IsInBoth, IsInFirstAlone}, proofs.SpanLemmas.{some_instant}, proofs.Insides.{inside_self, inside_has, high_on}, proofs.Clearness.{clear_before}}
use Rattle.mob_span.proofs.Shared.{AreAllClear, all_after, later}

long_by : (l m n u : Ratio) (i j : Bool) → before m n ≡ true → (before l m || (i && up_to l m)) ≡ true → (before n u || (j && up_to n u)) ≡ true → before l u ≡ true
long_by l m n u i j h k e = grind (arith, before-trans l m n, before-trans l n u, before-neither l m, before-neither n u)

-- the span from the start of one span to the end of a later one has an instant
pub through_some : (s r : SpanOf) → is_clear s r ≡ true → has_instant s ≡ true → has_instant r ≡ true → has_instant (joined s r) ≡ true
through_some s r c h k =
    let m = some_instant s h in
    let n = some_instant r k in
    let long : before s.lower r.upper ≡ true = long_by s.lower m.0 n.0 r.upper s.lower_inc r.upper_inc (clear_before s r m.0 n.0 c m.1 n.1) (and_parts _ _ m.1).0 (and_parts _ _ n.1).1 in
    grind (arith, long)

-- a later span ends no earlier
high_by : (s r : SpanOf) (b : Bool) → before s.upper r.upper ≡ b → is_clear s r ≡ true → has_instant r ≡ true → (before s.upper r.upper || (up_to s.upper r.upper && (r.upper_inc || not s.upper_inc))) ≡ true
high_by s r true e c k = grind (arith, e)
high_by s r false e c k = grind (arith, e, c, k, before-trans s.upper r.lower r.upper, before-neither s.upper r.lower, before-neither r.lower r.upper, before-back r.lower r.upper, before-back s.upper r.lower)

pub wider : (h r s : SpanOf) → is_clear h r ≡ true → has_instant r ≡ true → is_inside h s ≡ true → is_inside (joined h r) s ≡ true
wider h r s c k i = let m = and_parts _ _ i in and_from _ _ m.0 (high_on s.upper h.upper r.upper s.upper_inc h.upper_inc r.upper_inc m.1 (high_by h r (before h.upper r.upper) refl c k))

-- and contains the later one
pub holds_later : (h r : SpanOf) → is_clear h r ≡ true → has_instant h ≡ true → has_instant r ≡ true → is_inside (joined h r) r ≡ true
holds_later h r c i k =
    let low : (before h.lower r.lower || (up_to h.lower r.lower && (h.lower_inc || not r.lower_inc))) ≡ true = grind (arith, c, i, before-trans h.lower h.upper r.lower, before-neither h.lower h.upper, before-neither h.upper r.lower, before-back h.lower r.lower, before-back h.lower h.upper, before-back h.upper r.lower) in
    and_from _ _ low (and_parts _ _ (inside_self r)).1

module _ {X : Type 0} (span : X → SpanOf) where
  -- from the start of h to the end of the last of a list
  abbrev pub through_all : SpanOf → List X → SpanOf
  through_all h [] = h
  through_all h (x ∷ xs) = through_all (joined h (span x)) xs

  keeps : (h s : SpanOf) (xs : List X) → has_instant h ≡ true → AreAllClear span h xs → PiecesAreClear span xs → is_inside h s ≡ true → is_inside (through_all h xs) s ≡ true
  keeps h s [] i c o k = k
  keeps h s (x ∷ xs) i c o k = keeps (joined h (span x)) s xs (through_some h (span x) c.0 i o.0) (later span (span x) (joined h (span x)) xs (λ r e. e) (all_after span x xs o)) o.2 (wider h (span x) s c.0 o.0 k)

  -- it contains each of them
  holds_all : (h : SpanOf) (xs : List X) → has_instant h ≡ true → AreAllClear span h xs → PiecesAreClear span xs → AllByRecursion (λ x. is_inside (through_all h xs) (span x) ≡ true) xs
  holds_all h [] i c o = tt
  holds_all h (x ∷ xs) i c o =
      let some = through_some h (span x) c.0 i o.0 in
      let on = later span (span x) (joined h (span x)) xs (λ r e. e) (all_after span x xs o) in
      (keeps (joined h (span x)) (span x) xs some on o.2 (holds_later h (span x) c.0 i o.0), holds_all (joined h (span x)) xs some on o.2)

  holds_from : (x : X) (xs : List X) → PiecesAreClear span (x ∷ xs) → AllByRecursion (λ y. is_inside (through_all (span x) xs) (span y) ≡ true) (x ∷ xs)
  holds_from x xs o =
      let on = all_after span x xs o in
      (keeps (span x) (span x) xs o.0 on o.2 (inside_self (span x)), holds_all (span x) xs o.0 on o.2)

  some_through : (h : SpanOf) (xs : List X) → has_instant h ≡ true → AreAllClear span h xs → PiecesAreClear span xs → has_instant (through_all h xs) ≡ true
  some_through h [] i c o = i
  some_through h (x ∷ xs) i c o = some_through (joined h (span x)) xs (through_some h (span x) c.0 i o.0) (later span (span x) (joined h (span x)) xs (λ r e. e) (all_after span x xs o)) o.2

  -- it ends at the end of the last one
  through_end : (h : SpanOf) (xs init : List X) (y : X) → xs ≡ init ++ y ∷ [] → through_all h xs ≡ joined h (span y)
  through_end h xs [] y e = ap (through_all h) e
  through_end h xs (z ∷ init) y e = ap (through_all h) e ∙ through_end (joined h (span z)) (init ++ y ∷ []) init y refl

  abbrev first_or : X → List X → X
  first_or d [] = d
  first_or d (x ∷ xs) = x

  abbrev rest_of : List X → List X
  rest_of [] = []
  rest_of (x ∷ xs) = xs

  -- from the start of the first to the end of the last
  through_whole : (x : X) (xs init : List X) (y : X) → x ∷ xs ≡ init ++ y ∷ [] → through_all (span x) xs ≡ joined (span x) (span y)
  through_whole x xs [] y e =
      let one : x ≡ y = ap (first_or x) e in
      let none : xs ≡ [] = ap rest_of e in
      ap (through_all (span x)) none ∙ ap (λ z. joined (span x) (span z)) one
  through_whole x xs (z ∷ init) y e = through_end (span x) xs init y (ap rest_of e)

  whole_by : (items : List X) (s : SpanOf) (o : Option SpanOf) → has_instant s ≡ true → AllByRecursion (λ x. is_inside s (span x) ≡ true) items → IfSome o (λ h. h ≡ s) → MatchOption o (has_instant s ≡ false) (λ h. has_instant h ≡ true) → MatchOption o (items ≡ []) (λ h. AllByRecursion (λ x. is_inside h (span x) ≡ true) items)
  whole_by items s None i a e k = absurd (true≢false (sym i ∙ k))
  whole_by items s (Some h) i a e k = subst (λ z. AllByRecursion (λ x. is_inside z (span x) ≡ true) items) (sym e) a

  -- the span with these two ends contains each of a list in order
  pub whole_holds : (items : List X) (x : X) (xs init : List X) (y : X) (s : SpanOf) (o : Option SpanOf) → items ≡ x ∷ xs → items ≡ init ++ y ∷ [] → PiecesAreClear span items → s ≡ joined (span x) (span y) → IfSome o (λ h. h ≡ s) → MatchOption o (has_instant s ≡ false) (λ h. has_instant h ≡ true) → MatchOption o (items ≡ []) (λ h. AllByRecursion (λ x. is_inside h (span x) ≡ true) items)
  whole_holds items x xs init y s o e f c g k m =
      let order : PiecesAreClear span (x ∷ xs) = subst (PiecesAreClear span) e c in
      let on = all_after span x xs order in
      let same : through_all (span x) xs ≡ s = through_whole x xs init y (sym e ∙ f) ∙ sym g in
      let some : has_instant s ≡ true = subst (λ z. has_instant z ≡ true) same (some_through (span x) xs order.0 on order.2) in
      let all : AllByRecursion (λ z. is_inside s (span z) ≡ true) (x ∷ xs) = subst (λ h. AllByRecursion (λ z. is_inside h (span z) ≡ true) (x ∷ xs)) same (holds_from x xs order) in
      whole_by items s o some (subst (AllByRecursion (λ z. is_inside s (span z) ≡ true)) (sym e) all) k m

-- an instant outside a span is in no span of a list that it contains
pub outside : (h : SpanOf) (v : List SpanOf) (t : Ratio) → AllByRecursion (λ s. is_inside h s ≡ true) v → has h t ≡ false → in_some v t ≡ false
outside h [] t a n = refl
outside h (s ∷ v) t a n = rw (inside_has h s t a.0 n) (outside h v t a.1 n)

minus_by : (v h w : Bool) → (h ≡ false → v ≡ false) → (v && (h && not w)) ≡ (v && not w)
minus_by v true w f = refl
minus_by v false w f = rw (f refl) refl

-- a set inside h meets the rest of h without another set exactly in its instants outside that set
pub minus_same : (v w g set : List SpanOf) (h : SpanOf) → AllByRecursion (λ s. is_inside h s ≡ true) v → AreRemainders h w g → IsInBoth v g set → IsInFirstAlone v w set
minus_same v w g set h a k m t = m t ∙ ap (λ b. in_some v t && b) (k t) ∙ minus_by (in_some v t) (has h t) (in_some w t) (λ n. outside h v t a n)

pub minus_nothing : (v w set : List SpanOf) → v ≡ [] → ((t : Ratio) → in_some set t ≡ false) → IsInFirstAlone v w set
minus_nothing v w set e n t = n t ∙ ap (λ z. in_some z t && not (in_some w t)) (sym e)
