-- A total over the pieces that two lists share is that over the pieces of their runs.
use Rattle.std.{specs.Prelude.{◌≡◌, Bool, true, false, cond, ◌&&◌, List, [], ◌∷◌, ◌++◌, refl}, specs.List.{AllByRecursion, filter}}
use Rattle.std.proofs.Common.{ap, sym, ◌∙◌, map}
use Rattle.mob_ratio.specs.Ratio.{Ratio}
use Rattle.mob_span.{specs.Span.{SpanOf, has, has_instant}, specs.Neighbours.{is_inside}, specs.Meet.{meet_of}, specs.Meets.{PieceOf, shared_pieces}}
use Rattle.mob_span.{proofs.SpanLemmas.{meet_none}, proofs.Insides.{inside_has}, proofs.Shared.{piece, row}}

-- the sum of what a function gives on each entry
abbrev pub total : {M P : Type 0} → (M → M → M) → M → (P → M) → List P → M
total add none f [] = none
total add none f (p ∷ ps) = add (f p) (total add none f ps)

pub total_same : {M P : Type 0} (add : M → M → M) (none : M) (f g : P → M) → ((p : P) → f p ≡ g p) → (ps : List P) → total add none f ps ≡ total add none g ps
total_same add none f g h [] = refl
total_same add none f g h (p ∷ ps) = ap (λ z. add z (total add none f ps)) (h p) ∙ ap (add (g p)) (total_same add none f g h ps)

pub total_map : {M P Q : Type 0} (add : M → M → M) (none : M) (f : Q → M) (g : P → Q) (ps : List P) → total add none f (map g ps) ≡ total add none (λ p. f (g p)) ps
total_map add none f g [] = refl
total_map add none f g (p ∷ ps) = ap (add (f (g p))) (total_map add none f g ps)

-- a sum in any order
pub record IsSum {M : Type 0} (add : M → M → M) (none : M) : Type 0 where
  pub assoc : (a b c : M) → add (add a b) c ≡ add a (add b c)
  pub swap : (a b : M) → add a b ≡ add b a
  pub unit : (a : M) → add none a ≡ a

-- spans that share no instant hold none that do
both_in : (p q a b : SpanOf) (t : Ratio) → is_inside p a ≡ true → is_inside q b ≡ true → (has p t && has q t) ≡ false → (has a t && has b t) ≡ false
both_in p q a b t h k n = by (has p t) (has q t) refl refl n
  where
    by : (x y : Bool) → has p t ≡ x → has q t ≡ y → (x && y) ≡ false → (has a t && has b t) ≡ false
    by true true e f n = absurd (cc n)
    by true false e f n = ap (λ z. has a t && z) (inside_has q b t k f) ∙ no_right (has a t)
      where
        no_right : (z : Bool) → (z && false) ≡ false
        no_right true = refl
        no_right false = refl
    by false y e f n = ap (λ z. z && has b t) (inside_has p a t h e)

pub none_inside : (p q a b : SpanOf) → is_inside p a ≡ true → is_inside q b ≡ true → has_instant (meet_of p q) ≡ false → has_instant (meet_of a b) ≡ false
none_inside p q a b h k n = (meet_none a b).1 (λ t. both_in p q a b t h k ((meet_none p q).0 n t))

module _ {M : Type 0} (add : M → M → M) (none : M) (sum : IsSum add none) where
  four_in : (a b c d : M) → add (add a b) (add c d) ≡ add (add a c) (add b d)
  four_in a b c d = sum.assoc a b (add c d) ∙ ap (add a) (sym (sum.assoc b c d) ∙ ap (λ z. add z d) (sum.swap b c) ∙ sum.assoc c b d) ∙ sym (sum.assoc a c (add b d))

  pub total_both : {P : Type 0} (f : P → M) (xs ys : List P) → total add none f (xs ++ ys) ≡ add (total add none f xs) (total add none f ys)
  total_both f [] ys = sym (sum.unit (total add none f ys))
  total_both f (x ∷ xs) ys = ap (add (f x)) (total_both f xs ys) ∙ sym (sum.assoc (f x) (total add none f xs) (total add none f ys))

  module _ {X Y : Type 0} (span : X → SpanOf) (span' : Y → SpanOf) (f : PieceOf X Y → M) where
    -- over the pieces of two lists, and over those of one entry with a list
    abbrev over : List X → List Y → M
    over v w = total add none f (shared_pieces span span' v w)

    abbrev one_over : X → List Y → M
    one_over x w = total add none f (row span span' x w)

    row_both : (x : X) (w u : List Y) → one_over x (w ++ u) ≡ add (one_over x w) (one_over x u)
    row_both x [] u = sym (sum.unit (one_over x u))
    row_both x (y ∷ w) u = by (has_instant (meet_of (span x) (span' y))) (row_both x w u)
      where
        by : (b : Bool) → one_over x (w ++ u) ≡ add (one_over x w) (one_over x u)
            → total add none f (map (λ z. piece span span' x z) (cond b (y ∷ filter (λ z. has_instant (meet_of (span x) (span' z))) (w ++ u)) (filter (λ z. has_instant (meet_of (span x) (span' z))) (w ++ u))))
            ≡ add (total add none f (map (λ z. piece span span' x z) (cond b (y ∷ filter (λ z. has_instant (meet_of (span x) (span' z))) w) (filter (λ z. has_instant (meet_of (span x) (span' z))) w)))) (one_over x u)
        by true h = ap (add (f (piece span span' x y))) h ∙ sym (sum.assoc (f (piece span span' x y)) (one_over x w) (one_over x u))
        by false h = h

    right_both : (v : List X) (w u : List Y) → over v (w ++ u) ≡ add (over v w) (over v u)
    right_both [] w u = sym (sum.unit none)
    right_both (x ∷ v) w u =
        total_both f (row span span' x (w ++ u)) (shared_pieces span span' v (w ++ u))
        ∙ ap (λ z. add z (over v (w ++ u))) (row_both x w u)
        ∙ ap (add (add (one_over x w) (one_over x u))) (right_both v w u)
        ∙ four_in (one_over x w) (one_over x u) (over v w) (over v u)
        ∙ ap (λ z. add z (add (one_over x u) (over v u))) (sym (total_both f (row span span' x w) (shared_pieces span span' v w)))
        ∙ ap (add (over (x ∷ v) w)) (sym (total_both f (row span span' x u) (shared_pieces span span' v u)))

    left_both : (v u : List X) (w : List Y) → over (v ++ u) w ≡ add (over v w) (over u w)
    left_both [] u w = sym (sum.unit (over u w))
    left_both (x ∷ v) u w =
        total_both f (row span span' x w) (shared_pieces span span' (v ++ u) w)
        ∙ ap (add (one_over x w)) (left_both v u w)
        ∙ sym (sum.assoc (one_over x w) (over v w) (over u w))
        ∙ ap (λ z. add z (over u w)) (sym (total_both f (row span span' x w) (shared_pieces span span' v w)))

    none_right : (v : List X) → over v [] ≡ none
    none_right [] = refl
    none_right (x ∷ v) = none_right v

    -- lists within two spans that share no instant share no piece
    module _ (p q : SpanOf) (apart : has_instant (meet_of p q) ≡ false) where
      row_apart : (x : X) (w : List Y) → is_inside p (span x) ≡ true → AllByRecursion (λ y. is_inside q (span' y) ≡ true) w → one_over x w ≡ none
      row_apart x [] h k = refl
      row_apart x (y ∷ w) h k = rw (none_inside p q (span x) (span' y) h k.0 apart) (row_apart x w h k.1)

      both_apart : (v : List X) (w : List Y) → AllByRecursion (λ x. is_inside p (span x) ≡ true) v → AllByRecursion (λ y. is_inside q (span' y) ≡ true) w → over v w ≡ none
      both_apart [] w h k = refl
      both_apart (x ∷ v) w h k =
          total_both f (row span span' x w) (shared_pieces span span' v w)
          ∙ ap (λ z. add z (over v w)) (row_apart x w h.0 k)
          ∙ sum.unit (over v w)
          ∙ both_apart v w h.1 k

-- the list is the runs, one after the other, each within its span
abbrev pub AreRuns : {X C : Type 0} → (X → SpanOf) → (C → SpanOf) → (C → List X) → List X → List C → Type 0
AreRuns span time run v [] = v ≡ []
AreRuns {X} span time run v (c ∷ cs) = (rest : List X) × (v ≡ run c ++ rest) × AllByRecursion (λ x. is_inside (time c) (span x) ≡ true) (run c) × AreRuns span time run rest cs

module _ {M : Type 0} (add : M → M → M) (none : M) (sum : IsSum add none) {X Y C E : Type 0} (span : X → SpanOf) (span' : Y → SpanOf) (time : C → SpanOf) (time' : E → SpanOf) (run : C → List X) (run' : E → List Y) (f : PieceOf X Y → M) where
  -- over the pieces of two runs
  abbrev pub of_runs : PieceOf C E → M
  of_runs p = total add none f (shared_pieces span span' (run p.left) (run' p.right))

  row_runs : (c : C) (w : List Y) (es : List E) → AllByRecursion (λ x. is_inside (time c) (span x) ≡ true) (run c) → AreRuns span' time' run' w es → total add none f (shared_pieces span span' (run c) w) ≡ total add none of_runs (row time time' c es)
  row_runs c w [] h k = ap (λ z. total add none f (shared_pieces span span' (run c) z)) k ∙ none_right add none sum span span' f (run c)
  row_runs c w (e ∷ es) h k =
      ap (λ z. total add none f (shared_pieces span span' (run c) z)) k.1
      ∙ right_both add none sum span span' f (run c) (run' e) k.0
      ∙ ap (add (total add none f (shared_pieces span span' (run c) (run' e)))) (row_runs c k.0 es h k.3)
      ∙ by (has_instant (meet_of (time c) (time' e))) refl
    where
      by : (b : Bool) → has_instant (meet_of (time c) (time' e)) ≡ b
          → add (total add none f (shared_pieces span span' (run c) (run' e))) (total add none of_runs (row time time' c es))
          ≡ total add none of_runs (map (λ z. piece time time' c z) (cond b (e ∷ filter (λ z. has_instant (meet_of (time c) (time' z))) es) (filter (λ z. has_instant (meet_of (time c) (time' z))) es)))
      by true i = refl
      by false i = ap (λ z. add z (total add none of_runs (row time time' c es))) (both_apart add none sum span span' f (time c) (time' e) i (run c) (run' e) h k.2) ∙ sum.unit (total add none of_runs (row time time' c es))

  pub by_runs : (v : List X) (w : List Y) (cs : List C) (es : List E) → AreRuns span time run v cs → AreRuns span' time' run' w es → total add none f (shared_pieces span span' v w) ≡ total add none of_runs (shared_pieces time time' cs es)
  by_runs v w [] es h k = ap (λ z. total add none f (shared_pieces span span' z w)) h
  by_runs v w (c ∷ cs) es h k =
      ap (λ z. total add none f (shared_pieces span span' z w)) h.1
      ∙ left_both add none sum span span' f (run c) h.0 w
      ∙ ap (λ z. add z (total add none f (shared_pieces span span' h.0 w))) (row_runs c w es h.2 k)
      ∙ ap (add (total add none of_runs (row time time' c es))) (by_runs h.0 w cs es h.3 k)
      ∙ sym (total_both add none sum of_runs (row time time' c es) (shared_pieces time time' cs es))
