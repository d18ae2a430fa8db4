-- The nearest rows of those seen, row by row.
use Rattle.std.{specs.Prelude.{◌≡◌, ◌⊎◌, ℕ, zero, suc, ◌+◌, ◌<◌, ◌≤◌, Bool, true, false, cond, not, List, [], ◌∷◌, ◌++◌, Option, Some, None, Contains, length, take, drop, slice_get, get_or, refl}, specs.List.{AllByRecursion}}
use Rattle.std.{proofs.Common.{arith, ap, sym, ◌∙◌, subst, inl, inr, true≢false}, proofs.lemmas.List.{take_more}, proofs.lemmas.Option.{none-some}}
use Rattle.mob_list.{proofs.Each.{each_both, each_more, each_on}, proofs.Entries.{each_of_all, all_by_each, first_in, later_in, none_in, which_in}}
use Rattle.mob_ratio.{specs.Ratio.{Ratio}, specs.Order.{before, up_to, same}, proofs.Order.{before-trans, before-up_to, before-weak, same_exact, up_to-before, up_to-equal, up_to-self}}
use Rattle.mob_slice.{specs.Lines.{plane_value_of}, specs.Sides.{Slices, given_at}}
use Rattle.mob_stbox.specs.Boxes.{BoxOf}
use Rattle.mob_value.specs.ValueBoxes.{IsBoxOf}
use Rattle.mob_near.specs.Approaches.{IsApproach}
use Rattle.mob_knn.{specs.Gaps.{gap_of, gap_reaches}, specs.declared.gaps.kind.Gap.TheVariants.{Apart, AtLeast}}
use Rattle.mob_knn.specs.Nearest.{TripOf, Asked, AreFirstRows, AreNearest, HasApproach, IsAskedBox, IsRising, nearer}
use Rattle.mob_knn.{specs.Scans.{AreAllBelow, IsBelowFirst, IsConsidered, IsItsApproach, IsPlaceOf, put_in}, proofs.Bounds.{approach_reaches}, proofs.Known.{asked_covers}, proofs.OneNearest.{cut_first}, proofs.Rows.{one_approach}, proofs.Searching.{nearer_before, nearer_level}}

abbrev Row : Type 0
Row = ℕ × Ratio

-- ---- the place of a row
not_true : (b : Bool) → not b ≡ true → b ≡ false
not_true true h = absurd (true≢false (sym h))
not_true false h = refl

pub put_by_place : (x : Row) (rs : List Row) (place : ℕ) → IsPlaceOf x.1 rs place → take place rs ++ x ∷ drop place rs ≡ put_in x rs
put_by_place x [] zero h = refl
put_by_place x [] (suc place) h = refl
put_by_place x (r ∷ rs) zero h = sym (ap (λ b. cond b (x ∷ r ∷ rs) (r ∷ put_in x rs)) h.ahead)
put_by_place x (r ∷ rs) (suc place) h =
    ap (λ z. r ∷ z) (put_by_place x rs place (record { behind = h.behind.1; ahead = h.ahead }))
    ∙ sym (ap (λ b. cond b (x ∷ r ∷ rs) (r ∷ put_in x rs)) (not_true (before x.1 r.1) h.behind.0))

-- what holds of it and of all holds after it is put in
module _ (P : Row → Type 0) (x : Row) (its : P x) where
  each_by : (r : Row) (rs : List Row) → P r → AllByRecursion P rs → AllByRecursion P (put_in x rs) → (b : Bool) → AllByRecursion P (cond b (x ∷ r ∷ rs) (r ∷ put_in x rs))
  each_by r rs h hs more true = (its, (h, hs))
  each_by r rs h hs more false = (h, more)

  pub put_each : (rs : List Row) → AllByRecursion P rs → AllByRecursion P (put_in x rs)
  put_each [] h = (its, tt)
  put_each (r ∷ rs) h = each_by r rs h.0 h.1 (put_each rs h.1) (before x.1 r.1)

module _ (x : Row) where
  there_by : (y r : Row) (rs : List Row) → (x ≡ y) ⊎ Contains (r ∷ rs) y → ((x ≡ y) ⊎ Contains rs y → Contains (put_in x rs) y) → (b : Bool) → Contains (cond b (x ∷ r ∷ rs) (r ∷ put_in x rs)) y
  there_by y r rs (inl e) more true = subst (λ z. Contains (x ∷ r ∷ rs) z) e (first_in x (r ∷ rs))
  there_by y r rs (inr c) more true = later_in x (r ∷ rs) y c
  there_by y r rs (inl e) more false = later_in r (put_in x rs) y (more (inl e))
  there_by y r rs (inr c) more false = elim (which_in r rs y c) [
    | inl e ↦ subst (λ z. Contains (r ∷ put_in x rs) z) e (first_in r (put_in x rs))
    | inr d ↦ later_in r (put_in x rs) y (more (inr d))
  ]

  pub put_there : (rs : List Row) (y : Row) → (x ≡ y) ⊎ Contains rs y → Contains (put_in x rs) y
  put_there [] y (inl e) = subst (λ z. Contains (x ∷ []) z) e (first_in x [])
  put_there [] y (inr c) = absurd (none_in y c)
  put_there (r ∷ rs) y h = there_by y r rs h (put_there rs y) (before x.1 r.1)

-- ---- the order
nearer_up : (a b : Row) → nearer a b ≡ true → up_to a.1 b.1 ≡ true
nearer_up a b h = by_test (before a.1 b.1) (same a.1 b.1) refl refl
  where
    by_test : (s t : Bool) → before a.1 b.1 ≡ s → same a.1 b.1 ≡ t → up_to a.1 b.1 ≡ true
    by_test true t e f = before-weak a.1 b.1 e
    by_test false true e f = subst (λ z. up_to a.1 z ≡ true) ((same_exact a.1 b.1).0 f) (up_to-self a.1)
    by_test false false e f = absurd (true≢false (sym h ∙ rw (e, f) refl))

up_nearer : (a b : Row) → up_to a.1 b.1 ≡ true → a.0 < b.0 → nearer a b ≡ true
up_nearer a b h lt = by_test (before a.1 b.1) refl
  where
    by_test : (s : Bool) → before a.1 b.1 ≡ s → nearer a b ≡ true
    by_test true e = nearer_before a b e
    by_test false e = nearer_level a b (up_to-equal a.1 b.1 h e) lt

module _ (x : Row) where
  rising_by : (r : Row) (rs : List Row) → r.0 < x.0 → AllByRecursion (λ s. nearer r s ≡ true) rs → IsRising rs → IsRising (put_in x rs) → (b : Bool) → before x.1 r.1 ≡ b → IsRising (cond b (x ∷ r ∷ rs) (r ∷ put_in x rs))
  rising_by r rs lt h k more true e =
      ((nearer_before x r e, each_on (λ s. nearer r s ≡ true) (λ s. nearer x s ≡ true) (λ s n. nearer_before x s (before-up_to x.1 r.1 s.1 e (nearer_up r s n))) rs h), (h, k))
  rising_by r rs lt h k more false e = (put_each (λ s. nearer r s ≡ true) x (up_nearer r x (ap not e) lt) rs h, more)

  pub put_rising : (rs : List Row) → AllByRecursion (λ r. r.0 < x.0) rs → IsRising rs → IsRising (put_in x rs)
  put_rising [] few h = (tt, tt)
  put_rising (r ∷ rs) few h = rising_by r rs few.0 h.0 h.1 (put_rising rs few.1 h.1) (before x.1 r.1) refl

-- ---- the first k
take_again : {A : Type 0} (k n : ℕ) (xs : List A) → k ≤ n → take k (take n xs) ≡ take k xs
take_again zero n xs h = refl
take_again (suc k) zero xs h = absurd (omega (arith, h))
take_again (suc k) (suc n) [] h = refl
take_again (suc k) (suc n) (x ∷ xs) h = ap (λ z. x ∷ z) (take_again k n xs (omega (arith, h)))

module _ (x : Row) where
  taken_by : (k : ℕ) (r : Row) (rs : List Row) → take k (put_in x (take k rs)) ≡ take k (put_in x rs) → (b : Bool) → take (suc k) (cond b (x ∷ r ∷ take k rs) (r ∷ put_in x (take k rs))) ≡ take (suc k) (cond b (x ∷ r ∷ rs) (r ∷ put_in x rs))
  taken_by k r rs e true = ap (λ z. x ∷ z) (take_again k (suc k) (r ∷ rs) (omega arith))
  taken_by k r rs e false = ap (λ z. r ∷ z) e

  -- of the first k alone come the same first k
  pub put_taken : (k : ℕ) (rs : List Row) → take k (put_in x (take k rs)) ≡ take k (put_in x rs)
  put_taken zero rs = refl
  put_taken (suc k) [] = refl
  put_taken (suc k) (r ∷ rs) = taken_by k r rs (put_taken k rs) (before x.1 r.1)

  -- if the first k are below m, those with one more row are
  below_by : (m : Ratio) (k : ℕ) (r : Row) (rs : List Row) → before r.1 m ≡ true → AreAllBelow k m (take k rs) → AreAllBelow k m (take k (put_in x rs)) → (b : Bool) → before x.1 r.1 ≡ b → AreAllBelow (suc k) m (take (suc k) (cond b (x ∷ r ∷ rs) (r ∷ put_in x rs)))
  below_by m k r rs h all more true e = record {
    full = (let f = shorter k r rs all.full in omega (arith, f));
    below = (before-trans x.1 r.1 m e h, each_shorter k r rs h all.below);
  }
    where
      shorter : (k : ℕ) (r : Row) (rs : List Row) → length (take k rs) ≡ k → length (take k (r ∷ rs)) ≡ k
      shorter zero r rs f = refl
      shorter (suc k) r [] f = absurd (omega (arith, f))
      shorter (suc k) r (s ∷ rs) f = let e = shorter k s rs (omega (arith, f)) in omega (arith, e)

      each_shorter : (k : ℕ) (r : Row) (rs : List Row) → before r.1 m ≡ true → AllByRecursion (λ s. before s.1 m ≡ true) (take k rs) → AllByRecursion (λ s. before s.1 m ≡ true) (take k (r ∷ rs))
      each_shorter zero r rs h k = tt
      each_shorter (suc k) r [] h all = (h, each_none k)
        where
          each_none : (k : ℕ) → AllByRecursion (λ (s : Row). before s.1 m ≡ true) (take k [])
          each_none zero = tt
          each_none (suc k) = tt
      each_shorter (suc k) r (s ∷ rs) h all = (h, each_shorter k s rs all.0 all.1)
  below_by m k r rs h all more false e = record { full = (let f = more.full in omega (arith, f)); below = (h, more.below) }

  pub put_below : (m : Ratio) (k : ℕ) (rs : List Row) → AreAllBelow k m (take k rs) → AreAllBelow k m (take k (put_in x rs))
  put_below m zero rs h = record { full = refl; below = tt }
  put_below m (suc k) [] h = let f = h.full in absurd (omega (arith, f))
  put_below m (suc k) (r ∷ rs) h =
      let f = h.full in
      let all : AreAllBelow k m (take k rs) = record { full = omega (arith, f); below = h.below.1 } in
      below_by m k r rs h.below.0 all (put_below m k rs all) (before x.1 r.1) refl

-- ---- rows seen
-- the rows before the row i: some of them, in order, of which the first k are the nearest; each
-- other one is further away than k of them
pub record IsScanning (k i : ℕ) (has : ℕ → Ratio → Type 0) (best : List Row) : Type 0 where
  pub all : List Row
  pub each : AllByRecursion (λ r. (r.0 < i) × has r.0 r.1) all
  pub rising : IsRising all
  pub first : best ≡ take k all
  pub every : (row : ℕ) (m : Ratio) → row < i → has row m → Contains all (row, m) ⊎ AreAllBelow k m (take k all)

none_taken : (k : ℕ) → ◌≡◌ {A = List Row} [] (take k [])
none_taken zero = refl
none_taken (suc k) = refl

pub scanning_start : (k : ℕ) (has : ℕ → Ratio → Type 0) (best : List Row) → best ≡ [] → IsScanning k 0 has best
scanning_start k has best e = record {
  all = [];
  each = tt;
  rising = tt;
  first = e ∙ none_taken k;
  every = λ row m lt h. absurd (omega (arith, lt));
}

row_cases : (row i : ℕ) → row < i + 1 → (row < i) ⊎ (row ≡ i)
row_cases row zero lt = inr (omega (arith, lt))
row_cases zero (suc i) lt = inl (omega arith)
row_cases (suc row) (suc i) lt = elim (row_cases row i (omega (arith, lt))) [
  | inl h ↦ inl (omega (arith, h))
  | inr h ↦ inr (ap suc h)
]

module _ (k i : ℕ) (has : ℕ → Ratio → Type 0) (old : List Row) (m : IsScanning k i has old) where
  pub scanning_rising : IsRising old
  scanning_rising = subst IsRising (sym m.first) (cut_first (λ row n. Contains m.all (row, n)) k m.all (record { each = all_by_each (λ r. Contains m.all (r.0, r.1)) m.all (λ r c. c); rising = m.rising; every = λ row n c. c })).rising

  pub scanning_next : (new : List Row) → ((a b : Ratio) → has i a → has i b → a ≡ b) → IsConsidered k i (has i) old new → IsScanning k (i + 1) has new
  scanning_next new one (inl h) = record {
    all = m.all;
    each = each_on (λ r. (r.0 < i) × has r.0 r.1) (λ r. (r.0 < i + 1) × has r.0 r.1) (λ r c. ((let lt = c.0 in omega (arith, lt)), c.1)) m.all m.each;
    rising = m.rising;
    first = h.1 ∙ m.first;
    every = λ row n lt c. elim (row_cases row i lt) [
      | inl l ↦ m.every row n l c
      | inr e ↦ inr (subst (AreAllBelow k n) m.first (h.0 n (subst (λ z. has z n) e c)))
    ];
  }
  scanning_next new one (inr h) =
      let x : Row = (i, h.0) in
      let below : AllByRecursion (λ r. r.0 < i) m.all = each_on (λ r. (r.0 < i) × has r.0 r.1) (λ r. r.0 < i) (λ r c. c.0) m.all m.each in
      record {
        all = put_in x m.all;
        each = put_each (λ r. (r.0 < i + 1) × has r.0 r.1) x (omega arith, h.1) m.all (each_on (λ r. (r.0 < i) × has r.0 r.1) (λ r. (r.0 < i + 1) × has r.0 r.1) (λ r c. ((let lt = c.0 in omega (arith, lt)), c.1)) m.all m.each);
        rising = put_rising x m.all below m.rising;
        first = h.2 ∙ ap (λ z. take k (put_in x z)) m.first ∙ put_taken x k m.all;
        every = λ row n lt c. elim (row_cases row i lt) [
          | inl l ↦ (elim (m.every row n l c) [
            | inl d ↦ inl (put_there x m.all (row, n) (inr d))
            | inr d ↦ inr (put_below x n k m.all d)
          ])
          | inr e ↦ inl (put_there x m.all (row, n) (inl (same_row row n e (one h.0 n h.1 (subst (λ z. has z n) e c)))))
        ];
      }
    where
      same_row : (row : ℕ) (n : Ratio) → row ≡ i → h.0 ≡ n → ◌≡◌ {A = Row} (i, h.0) (row, n)
      same_row row n e f = λ j. (sym e j, f j)

  -- all rows are seen
  pub scanning_end : ((row : ℕ) (n : Ratio) → has row n → row < i) → AreFirstRows has k old
  scanning_end some =
      let cut = cut_first (λ row n. Contains m.all (row, n)) k m.all (record { each = all_by_each (λ r. Contains m.all (r.0, r.1)) m.all (λ r c. c); rising = m.rising; every = λ row n c. c }) in
      subst (AreFirstRows has k) (sym m.first) (record {
        each = each_on (λ r. Contains m.all (r.0, r.1)) (λ r. has r.0 r.1) (λ r c. (each_of_all (λ r. (r.0 < i) × has r.0 r.1) m.all m.each r c).1) (take k m.all) cut.each;
        rising = cut.rising;
        few = cut.few;
        full = λ row n c. elim (m.every row n (some row n c) c) [
          | inl d ↦ cut.full row n d
          | inr d ↦ inr (d.full, each_on (λ r. before r.1 n ≡ true) (λ r. nearer r (row, n) ≡ true) (λ r b. nearer_before r (row, n) b) (take k m.all) d.below)
        ];
      })

-- ---- k rows that are nearer
rising_last : (xs : List Row) (x : Row) → IsRising (xs ++ x ∷ []) → AllByRecursion (λ r. nearer r x ≡ true) xs
rising_last [] x h = tt
rising_last (y ∷ xs) x h = (last_of xs h.0, rising_last xs x h.1)
  where
    last_of : (zs : List Row) → AllByRecursion (λ s. nearer y s ≡ true) (zs ++ x ∷ []) → nearer y x ≡ true
    last_of [] k = k.0
    last_of (z ∷ zs) k = last_of zs k.1

pub all_below : (k : ℕ) (g : Ratio) (rs xs : List Row) (x : Row) → rs ≡ xs ++ x ∷ [] → length rs ≡ k → IsRising rs → before x.1 g ≡ true → AreAllBelow k g rs
all_below k g rs xs x e full h b = record {
  full = full;
  below = subst (AllByRecursion (λ r. before r.1 g ≡ true)) (sym e)
      (each_both (λ r. before r.1 g ≡ true) xs (x ∷ []) (each_on (λ r. nearer r x ≡ true) (λ r. before r.1 g ≡ true) (λ r n. up_to-before r.1 x.1 g (nearer_up r x n) b) xs (rising_last xs x (subst IsRising e h))) (b, tt));
}

more_below : (k : ℕ) (g m : Ratio) (rs : List Row) → up_to g m ≡ true → AreAllBelow k g rs → AreAllBelow k m rs
more_below k g m rs h all = record { full = all.full; below = each_on (λ r. before r.1 g ≡ true) (λ r. before r.1 m ≡ true) (λ r b. before-up_to r.1 g m b h) rs all.below }

module _ (asked : Asked) (area : BoxOf) (trip : TripOf) (b : BoxOf) (its : IsAskedBox asked area) (of : IsBoxOf trip b) where
  reaches : (m : Ratio) → IsItsApproach asked (Some trip) m → gap_reaches (gap_of b area) m ≡ true
  reaches m h = approach_reaches (given_at plane_value_of (Slices trip)) (given_at plane_value_of asked) b area m of.has (asked_covers asked area its) h

  pub apart_out : (k : ℕ) (rs : List Row) → Apart ≡ gap_of b area → (m : Ratio) → IsItsApproach asked (Some trip) m → AreAllBelow k m rs
  apart_out k rs e m h = absurd (true≢false (sym (subst (λ z. gap_reaches z m ≡ true) (sym e) (reaches m h))))

  pub far_out : (k : ℕ) (rs : List Row) (g : Ratio) → AtLeast g ≡ gap_of b area → AreAllBelow k g rs → (m : Ratio) → IsItsApproach asked (Some trip) m → AreAllBelow k m rs
  far_out k rs g e all m h = more_below k g m rs (subst (λ z. gap_reaches z m ≡ true) (sym e) (reaches m h)) all

-- a trip without an approach
pub none_there : (asked : Asked) (trip : TripOf) (k : ℕ) (rs : List Row) → IsApproach (given_at plane_value_of (Slices trip)) (given_at plane_value_of asked) None → (m : Ratio) → IsItsApproach asked (Some trip) m → AreAllBelow k m rs
none_there asked trip k rs none m h = absurd (none h.0)

-- ---- the loop over rows
pub each_taken : {A : Type 0} (P : A → Type 0) (xs : List A) (i : ℕ) (x : A) → i < length xs → x ≡ get_or xs i x → AllByRecursion P (take i xs) → P x → AllByRecursion P (take (i + 1) xs)
each_taken P xs i x lt is h k = subst (AllByRecursion P) (sym (take_more xs i x lt ∙ ap (λ z. take i xs ++ z ∷ []) (sym is))) (each_more P (take i xs) x h k)

pub place_here : (m : Ratio) (rs : List Row) (place : ℕ) (r : Row) (rest : List Row) → drop place rs ≡ r ∷ rest → AllByRecursion (λ r. up_to r.1 m ≡ true) (take place rs) → before m r.1 ≡ true → IsPlaceOf m rs place
place_here m rs place r rest e h b = record { behind = h; ahead = subst (IsBelowFirst m) (sym e) b }

pub place_last : (m : Ratio) (rs : List Row) (place : ℕ) → drop place rs ≡ [] → AllByRecursion (λ r. up_to r.1 m ≡ true) (take place rs) → IsPlaceOf m rs place
place_last m rs place e h = record { behind = h; ahead = subst (IsBelowFirst m) (sym e) tt }

-- ---- the rows of trips
same_inside : {A : Type 0} {a b : A} → ◌≡◌ {A = Option A} (Some a) (Some b) → a ≡ b
same_inside e = cc

got : {A : Type 0} (xs : List A) (i : ℕ) (x : A) → i < length xs → x ≡ get_or xs i x → slice_get xs i ≡ Some x
got [] i x lt e = absurd (omega (arith, lt))
got (y ∷ xs) zero x lt e = ap Some (sym e)
got (y ∷ xs) (suc i) x lt e = got xs i x (omega (arith, lt)) e

in_range : {A : Type 0} (xs : List A) (i : ℕ) (x : A) → slice_get xs i ≡ Some x → i < length xs
in_range [] i x e = absurd (none-some x e)
in_range (y ∷ xs) zero x e = omega arith
in_range (y ∷ xs) (suc i) x e = let lt = in_range xs i x e in omega (arith, lt)

module _ (trips : List (Option TripOf)) (asked : Asked) (i : ℕ) where
  has_its : (o : Option TripOf) → slice_get trips i ≡ Some o → (m : Ratio) → IsItsApproach asked o m → HasApproach trips asked i m
  has_its None e m h = absurd h
  has_its (Some trip) e m h = (trip, e, h)

  its_has : (o : Option TripOf) → slice_get trips i ≡ Some o → (m : Ratio) → HasApproach trips asked i m → IsItsApproach asked o m
  its_has o e m h = subst (λ z. IsItsApproach asked z m) (same_inside (sym h.1 ∙ e)) h.2

  considered_as : (k : ℕ) (o : Option TripOf) (old new : List Row) → slice_get trips i ≡ Some o → IsConsidered k i (IsItsApproach asked o) old new → IsConsidered k i (HasApproach trips asked i) old new
  considered_as k o old new e (inl h) = inl (λ m c. h.0 m (its_has o e m c), h.1)
  considered_as k o old new e (inr h) = inr (h.0, has_its o e h.0 h.1, h.2)

  pub scanned_next : (k : ℕ) (o : Option TripOf) (old new : List Row) → i < length trips → o ≡ get_or trips i o → IsScanning k i (HasApproach trips asked) old → IsConsidered k i (IsItsApproach asked o) old new → IsScanning k (i + 1) (HasApproach trips asked) new
  scanned_next k o old new lt is m h = scanning_next k i (HasApproach trips asked) old m new (λ a b c d. one_approach trips asked i a b c d) (considered_as k o old new (got trips i o lt is) h)

pub scanned_end : (trips : List (Option TripOf)) (asked : Asked) (k i : ℕ) (best : List Row) → i ≡ length trips → IsScanning k i (HasApproach trips asked) best → AreNearest trips asked k best
scanned_end trips asked k i best e m = scanning_end k i (HasApproach trips asked) best m (λ row n h. let lt = in_range trips row (Some h.0) h.1 in omega (arith, lt, e))
