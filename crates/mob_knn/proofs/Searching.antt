-- The invariant of a search, and its consequences at the end.
use Rattle.std.{specs.Prelude.{cond, Contains, sum_by, ◌==◌, ◌&&◌, ◌||◌, nat_lt, All}, specs.List.{flat_map, AllByRecursion}, specs.List.Sorted.{IsPermutation}}
use Rattle.std.proofs.Common.{length-append, map, ◌≡◌, ◌⊎◌, inl, inr, ℕ, suc, ◌+◌, ◌<◌, ◌≤◌, Bool, true, false, List, [], ◌∷◌, ◌++◌, length, Option, Some, None, arith, refl, sym, ap, ◌∙◌, subst}
use Rattle.std.{proofs.Common.{true≢false}, proofs.Math.Bool.{or-true}, proofs.lemmas.List.{length-map}, proofs.lemmas.List.Concat.{flat_map-append}}
use Rattle.std.{proofs.lemmas.List.Elements.{All-contains, Contains-append_cases, Contains-append_left, Contains-append_right}, proofs.lemmas.List.Sorted.{Contains-permutation}}
use Rattle.std.proofs.lemmas.List.Sums.{sum_by-append, sum_by-cons}
use Rattle.mob_list.{proofs.Each.{each_more}, proofs.Entries.{first_in, later_in, none_in, which_in, all_by_each, Contains-flat, flat-Contains}}
use Rattle.mob_ratio.{specs.Ratio.{Ratio}, specs.Order.{before, up_to, same, greater}, specs.Sign.{nil}, proofs.Order.{same_exact, before-up_to, up_to-trans, greater_left, greater_right, greater_least, up_to-not-after}}
use Rattle.mob_stbox.specs.Boxes.{BoxOf, contains}
use Rattle.mob_rtree_nodes.{specs.Tree.{AreSame, EntryOf, Kid}, specs.Reach.{Branch, IsReachedNode, IsSpread, is_child, children, entries_under, entries_below}}
use Rattle.mob_rtree_nodes.specs.declared.node.Child.TheVariants.{Node as NodeChild, Entry as EntryChild}
use Rattle.mob_knn.{specs.Gaps.{gap_of, gap_reaches}, specs.declared.gaps.kind.Gap.{Gap}, specs.declared.gaps.kind.Gap.TheVariants.{Apart, AtLeast}, specs.declared.waiting.Waiting.{Waiting}}
use Rattle.mob_knn.{specs.declared.waiting.WaitingKind.{WaitingKind}, specs.declared.waiting.WaitingKind.TheVariants.{Node, Entry, Answer}}
use Rattle.mob_knn.specs.Nearest.{nearer, IsRising, AreFirstRows, last_approach, reach_of, lies_within, count_within, HasFewBelow}
use Rattle.mob_knn.specs.Steps.{IsOnly, found_answer, State, IsOpened, IsMeasured, IsRowAnswered}
use Rattle.mob_knn.specs.Waits.{rank_of, waiting_number, what_of, waits_by, waits_at, waits_of, entries_in, answers_at}
use Rattle.mob_knn.{proofs.Orders.{reaches_on, IsNext, next_key}, proofs.Lists.{box_in, in_box, sum_in, flat_permuted, flat_over, in_before, in_same, same_back, count_some}}
use borrow.Author.Tests.{eq-eqb, lt-ltb, eqb-true}

-- facts about the rows that have an approach, and about the entries of the tree
pub record IsKnown (bs : List Branch) (root : Option ℕ) (entries : List EntryOf) (has : ℕ → Ratio → Type 0) (q : BoxOf) : Type 0 where
  pub bound : (b : BoxOf) (e : EntryOf) → Contains entries e → contains b e.0 ≡ true → (m : Ratio) → has e.1 m → gap_reaches (gap_of b q) m ≡ true
  pub above : (row : ℕ) (m : Ratio) → has row m → up_to nil m ≡ true
  pub one : (row : ℕ) (m n : Ratio) → has row m → has row n → m ≡ n
  pub every : (row : ℕ) (m : Ratio) → has row m → (b : BoxOf) × Contains entries (b, row)
  pub once : (row : ℕ) → sum_by (λ (e : EntryOf). cond (e.1 == row) 1 0) entries ≤ 1

-- ---- sorted lists

rising_push : (xs : List (ℕ × Ratio)) (x : ℕ × Ratio) → IsRising xs → ((o : ℕ × Ratio) → Contains xs o → nearer o x ≡ true) → IsRising (xs ++ x ∷ [])
rising_push [] x h k = (tt, tt)
rising_push (y ∷ xs) x h k = (each_more (λ s. nearer y s ≡ true) xs x h.0 (k y (first_in y xs)), rising_push xs x h.1 (λ o c. k o (later_in y xs o c)))

last_push : (xs : List (ℕ × Ratio)) (x : ℕ × Ratio) → last_approach (xs ++ x ∷ []) ≡ Some x.1
last_push [] x = refl
last_push (y ∷ []) x = refl
last_push (y ∷ z ∷ xs) x = last_push (z ∷ xs) x

pub nearer_before : (o x : ℕ × Ratio) → before o.1 x.1 ≡ true → nearer o x ≡ true
nearer_before o x h = rw h refl

pub nearer_level : (o x : ℕ × Ratio) → o.1 ≡ x.1 → o.0 < x.0 → nearer o x ≡ true
nearer_level o x e lt = ap (λ z. before o.1 x.1 || (z && nat_lt o.0 x.0)) ((same_exact o.1 x.1).1 e) ∙ ap (λ z. before o.1 x.1 || z) (lt-ltb o.0 x.0 lt) ∙ or-true (before o.1 x.1)

one_sum : {A : Type 0} (p : A → ℕ) (x : A) → sum_by p (x ∷ []) ≡ p x
one_sum p x = let c = sum_by-cons p x [] in omega (arith, c)

within_some : (G : Gap) (m : Ratio) → gap_reaches G m ≡ true → lies_within (Some m) G ≡ true
within_some Apart m h = h
within_some (AtLeast g) m h = h

within_none : (G : Gap) (m : Ratio) → gap_reaches G m ≡ true → lies_within None G ≡ true
within_none Apart m h = h
within_none (AtLeast g) m h = refl

gap_some : (G : Gap) (m : Ratio) → gap_reaches G m ≡ true → (g : Ratio) × (G ≡ AtLeast g) × (up_to g m ≡ true)
gap_some Apart m h = absurd (true≢false (sym h))
gap_some (AtLeast g) m h = (g, refl, h)

in_firsts : (xs : List (ℕ × Ratio)) (x : ℕ × Ratio) → Contains xs x → Contains (map (λ (o : ℕ × Ratio). o.0) xs) x.0
in_firsts [] x h = absurd (none_in x h)
in_firsts (y ∷ xs) x h = elim (which_in y xs x h) [
  | inl e ↦ subst (λ (z : ℕ × Ratio). Contains (map (λ (o : ℕ × Ratio). o.0) (y ∷ xs)) z.0) e (first_in y.0 _)
  | inr i ↦ later_in y.0 _ x.0 (in_firsts xs x i)
]

not_equal : (a b : ℕ) (t : Bool) → (a == b) ≡ t → a < b → t ≡ false
not_equal a b true e lt = let f = eqb-true a b e in absurd (omega (arith, f, lt))
not_equal a b false e lt = refl

module _ (bs : List Branch) (root : Option ℕ) (entries : List EntryOf) (has : ℕ → Ratio → Type 0) (q : BoxOf) where
  -- the box of a row's entry
  abbrev pub box_at : ℕ → BoxOf
  box_at = box_in q entries

  abbrev pub entries_of : List Waiting → List EntryOf
  entries_of ws = flat_map (λ w. entries_in bs box_at w.what) ws

  abbrev pub answers_of : List Waiting → List (ℕ × Ratio)
  answers_of ws = flat_map (λ w. answers_at w w.what) ws

  -- nothing below it has an approach less than its key
  abbrev pub IsHeld : Ratio → WaitingKind → Type 0
  IsHeld key (Node n) = IsReachedNode bs root n × ((e : EntryOf) → Contains (entries_under bs n) e → (m : Ratio) → has e.1 m → up_to key m ≡ true)
  IsHeld key (Entry row) = (gap_reaches (gap_of (box_at row) q) key ≡ true) × ((m : Ratio) → has row m → up_to key m ≡ true)
  IsHeld key (Answer row) = has row key

  -- it comes after an answer that was added
  abbrev pub IsLater : ℕ × Ratio → Ratio → WaitingKind → Type 0
  IsLater o key (Node n) = before o.1 key ≡ true
  IsLater o key (Entry row) = before o.1 key ≡ true
  IsLater o key (Answer row) = nearer o (row, key) ≡ true

  pub record IsSearching (k start : ℕ) (s : State) : Type 0 where
    pub gone : List EntryOf
    pub tried : List EntryOf
    pub floor : Ratio
    pub same : AreSame ((gone ++ tried) ++ entries_of s.heap) entries
    pub none : (e : EntryOf) → Contains gone e → (m : Ratio) → has e.1 m → ⊥
    pub answered : (e : EntryOf) → Contains tried e → (m : Ratio) → has e.1 m → Contains (s.found ++ answers_of s.heap) (e.1, m)
    pub held : (w : Waiting) → Contains s.heap w → (up_to floor w.key ≡ true) × IsHeld w.key w.what
    pub near : (e : EntryOf) → Contains tried e → gap_reaches (gap_of e.0 q) floor ≡ true
    pub real : (o : ℕ × Ratio) → Contains s.found o → has o.0 o.1
    pub rising : IsRising s.found
    pub later : (o : ℕ × Ratio) → Contains s.found o → (w : Waiting) → Contains s.heap w → IsLater o w.key w.what
    pub once : (f : ℕ → ℕ) → sum_by (λ (o : ℕ × Ratio). f o.0) (s.found ++ answers_of s.heap) ≤ sum_by (λ (e : EntryOf). f e.1) tried
    pub few : length s.found < k
    pub steps : s.steps ≡ start + length tried

  -- the first item, and the rest
  pub record IsPopped (heap : List Waiting) (first : Waiting) (rest : List Waiting) : Type 0 where
    pub taken : IsPermutation heap (first ∷ rest)
    pub next : (w : Waiting) → Contains rest w → IsNext first w

  -- the promises at the end
  pub record IsDone (k start : ℕ) (found : List (ℕ × Ratio)) (steps : ℕ) : Type 0 where
    pub first : AreFirstRows has k found
    pub cost : steps ≤ start + count_within (reach_of k found) q entries

  later_entry : (o : ℕ × Ratio) (key : Ratio) (what : WaitingKind) → IsLater o key what → IsHeld key what → (e : EntryOf) → Contains (entries_in bs box_at what) e → (m : Ratio) → has e.1 m → nearer o (e.1, m) ≡ true
  later_entry o key (Node n) l held e c m h = nearer_before o (e.1, m) (before-up_to o.1 key m l (held.1 e c m h))
  later_entry o key (Entry row) l held e c m h = elim (which_in (box_at row, row) [] e c) [
    | inl i ↦ nearer_before o (e.1, m) (before-up_to o.1 key m l (held.1 m (subst (λ (z : EntryOf). has z.1 m) (sym i) h)))
    | inr i ↦ absurd (none_in e i)
  ]
  later_entry o key (Answer row) l held e c m h = absurd (none_in e c)

  later_answer : (o : ℕ × Ratio) (w : Waiting) (what : WaitingKind) → IsLater o w.key what → (x : ℕ × Ratio) → Contains (answers_at w what) x → nearer o x ≡ true
  later_answer o w (Node n) l x c = absurd (none_in x c)
  later_answer o w (Entry row) l x c = absurd (none_in x c)
  later_answer o w (Answer row) l x c = elim (which_in (row, w.key) [] x c) [
    | inl i ↦ subst (λ (z : ℕ × Ratio). nearer o z ≡ true) i l
    | inr i ↦ absurd (none_in x i)
  ]

  held_entry : (key : Ratio) (what : WaitingKind) → IsHeld key what → (e : EntryOf) → Contains (entries_in bs box_at what) e → (m : Ratio) → has e.1 m → up_to key m ≡ true
  held_entry key (Node n) held e c m h = held.1 e c m h
  held_entry key (Entry row) held e c m h = elim (which_in (box_at row, row) [] e c) [
    | inl i ↦ held.1 m (subst (λ (z : EntryOf). has z.1 m) (sym i) h)
    | inr i ↦ absurd (none_in e i)
  ]
  held_entry key (Answer row) held e c m h = absurd (none_in e c)

  held_answer : (w : Waiting) (what : WaitingKind) (x : ℕ × Ratio) → Contains (answers_at w what) x → w.key ≡ x.1
  held_answer w (Node n) x c = absurd (none_in x c)
  held_answer w (Entry row) x c = absurd (none_in x c)
  held_answer w (Answer row) x c = elim (which_in (row, w.key) [] x c) [
    | inl i ↦ ap (λ (z : ℕ × Ratio). z.1) i
    | inr i ↦ absurd (none_in x i)
  ]

  -- what comes after an answer is greater
  next_later : (row : ℕ) (key wkey : Ratio) (what : WaitingKind) → (before key wkey ≡ true) ⊎ ((wkey ≡ key) × ((2 < rank_of what) ⊎ ((rank_of what ≡ 2) × (row ≤ waiting_number what)))) → ((r : ℕ) → what ≡ Answer r → row ≡ r → ⊥) → IsLater (row, key) wkey what
  next_later row key wkey (Node n) (inl h) other = h
  next_later row key wkey (Node n) (inr (e, inl lt)) other = absurd (omega (arith, lt))
  next_later row key wkey (Node n) (inr (e, inr f)) other = let g = f.0 in absurd (omega (arith, g))
  next_later row key wkey (Entry r) (inl h) other = h
  next_later row key wkey (Entry r) (inr (e, inl lt)) other = absurd (omega (arith, lt))
  next_later row key wkey (Entry r) (inr (e, inr f)) other = let g = f.0 in absurd (omega (arith, g))
  next_later row key wkey (Answer r) (inl h) other = nearer_before (row, key) (r, wkey) h
  next_later row key wkey (Answer r) (inr (e, inl lt)) other = absurd (omega (arith, lt))
  next_later row key wkey (Answer r) (inr (e, inr f)) other = let le = f.1 in let ne = other r refl in nearer_level (row, key) (r, wkey) (sym e) (omega (arith, le, ne))

  module _ (known : IsKnown bs root entries has q) (k start : ℕ) (s : State) (old : IsSearching k start s) (first : Waiting) (rest : List Waiting) (pop : IsPopped s.heap first rest) where
    first_there : Contains s.heap first
    first_there = in_before s.heap (first ∷ rest) first pop.taken (first_in first rest)

    rest_there : (w : Waiting) → Contains rest w → Contains s.heap w
    rest_there w c = in_before s.heap (first ∷ rest) w pop.taken (later_in first rest w c)

    which : (w : Waiting) → Contains s.heap w → (first ≡ w) ⊎ Contains rest w
    which w c = which_in first rest w (Contains-permutation s.heap (first ∷ rest) w pop.taken c)

    first_held : IsHeld first.key first.what
    first_held = (old.held first first_there).1

    -- the waiting items are from the tree
    waits_there : (e : EntryOf) → Contains (entries_of s.heap) e → Contains entries e
    waits_there e c = in_same _ entries e old.same (Contains-append_right (old.gone ++ old.tried) (entries_of s.heap) e c)

    first_entries : (e : EntryOf) → Contains (entries_in bs box_at first.what) e → Contains entries e
    first_entries e c = waits_there e (flat-Contains (λ w. entries_in bs box_at w.what) s.heap first e first_there c)

    -- sums over the waiting items
    entries_sum : (g : EntryOf → ℕ) → sum_by g (entries_of s.heap) ≡ sum_by g (entries_in bs box_at first.what) + sum_by g (entries_of rest)
    entries_sum g = sym (flat_permuted g (λ w. entries_in bs box_at w.what) s.heap (first ∷ rest) pop.taken) ∙ sum_by-append g (entries_in bs box_at first.what) (entries_of rest)

    answers_sum : (g : ℕ × Ratio → ℕ) → sum_by g (answers_of s.heap) ≡ sum_by g (answers_at first first.what) + sum_by g (answers_of rest)
    answers_sum g = sym (flat_permuted g (λ w. answers_at w w.what) s.heap (first ∷ rest) pop.taken) ∙ sum_by-append g (answers_at first first.what) (answers_of rest)

    near_on : (e : EntryOf) → Contains old.tried e → gap_reaches (gap_of e.0 q) first.key ≡ true
    near_on e c = reaches_on (gap_of e.0 q) old.floor first.key (old.near e c) (old.held first first_there).0

    rest_held : (w : Waiting) → Contains rest w → (up_to first.key w.key ≡ true) × IsHeld w.key w.what
    rest_held w c = (next_key first w (pop.next w c), (old.held w (rest_there w c)).1)

    -- a waiting answer is the first item, or remains
    answer_left : (x : ℕ × Ratio) → Contains (answers_of s.heap) x → Contains (answers_at first first.what) x ⊎ Contains (answers_of rest) x
    answer_left x c = let w = Contains-flat (λ w. answers_at w w.what) s.heap x c in elim (which w.0 w.1) [
      | inl e ↦ inl (subst (λ (z : Waiting). Contains (answers_at z z.what) x) (sym e) w.2)
      | inr i ↦ inr (flat-Contains (λ w. answers_at w w.what) rest w.0 x i w.2)
    ]

    -- a waiting entry is below the first item, or remains
    entry_left : (e : EntryOf) → Contains (entries_of s.heap) e → Contains (entries_in bs box_at first.what) e ⊎ Contains (entries_of rest) e
    entry_left e c = let w = Contains-flat (λ w. entries_in bs box_at w.what) s.heap e c in elim (which w.0 w.1) [
      | inl i ↦ inl (subst (λ (z : Waiting). Contains (entries_in bs box_at z.what) e) (sym i) w.2)
      | inr i ↦ inr (flat-Contains (λ w. entries_in bs box_at w.what) rest w.0 e i w.2)
    ]

    -- the place of each entry
    where_is : (e : EntryOf) → Contains entries e → (Contains old.gone e ⊎ Contains old.tried e) ⊎ Contains (entries_of s.heap) e
    where_is e c = elim (Contains-append_cases (old.gone ++ old.tried) (entries_of s.heap) e (in_same entries ((old.gone ++ old.tried) ++ entries_of s.heap) e (same_back ((old.gone ++ old.tried) ++ entries_of s.heap) entries old.same) c)) [
      | inl i ↦ inl (Contains-append_cases old.gone old.tried e i)
      | inr i ↦ inr i
    ]

    abbrev rest_state : State
    rest_state = record { heap = rest; found = s.found; steps = s.steps }

    -- ---- a node is opened

    -- the entries of a child that is apart
    apart_at : Kid → Gap → List EntryOf
    apart_at kid Apart = entries_below bs kid
    apart_at kid (AtLeast g) = []

    apart_of : List Kid → List EntryOf
    apart_of kids = flat_map (λ (kd : Kid). apart_at kd (gap_of kd.0 q)) kids

    -- its box is the one in the tree
    at_box : (b : BoxOf) (row : ℕ) → Contains entries (b, row) → box_at row ≡ b
    at_box b row c = in_box q entries known.once (b, row) c

    abbrev IsBelow : Kid → Type 0
    IsBelow kid = (e : EntryOf) → Contains (entries_below bs kid) e → Contains entries e

    below_what : (kid : Kid) → IsBelow kid → entries_in bs box_at (what_of kid.1) ≡ entries_below bs kid
    below_what (b, NodeChild n) below = refl
    below_what (b, EntryChild row) below =
        let alone : BoxOf → List EntryOf = λ z. (z, row) ∷ [] in
        ap alone (at_box b row (below (b, row) (first_in (b, row) [])))

    kid_sum : (g : EntryOf → ℕ) (kid : Kid) → IsBelow kid → (G : Gap) → sum_by g (apart_at kid G) + sum_by g (entries_of (waits_by first.key kid G)) ≡ sum_by g (entries_below bs kid)
    unfolding apart_at
    kid_sum g kid below Apart = omega arith
    kid_sum g kid below (AtLeast x) = let a = sum_by-append g (entries_in bs box_at (what_of kid.1)) [] in let e = ap (λ l. sum_by g l) (below_what kid below) in omega (arith, a, e)

    kids_sum : (g : EntryOf → ℕ) (kids : List Kid) → ((kid : Kid) → Contains kids kid → IsBelow kid) → sum_by g (apart_of kids) + sum_by g (entries_of (waits_of first.key q kids)) ≡ sum_by g (flat_map (entries_below bs) kids)
    unfolding apart_of
    kids_sum g [] below = refl
    kids_sum g (kd ∷ kids) below =
        let a = sum_by-append g (apart_at kd (gap_of kd.0 q)) (apart_of kids) in
        let b = ap (λ l. sum_by g l) (flat_map-append (λ w. entries_in bs box_at w.what) (waits_at first.key q kd) (waits_of first.key q kids)) in
        let c = sum_by-append g (entries_of (waits_at first.key q kd)) (entries_of (waits_of first.key q kids)) in
        let d = sum_by-append g (entries_below bs kd) (flat_map (entries_below bs) kids) in
        let e = kid_sum g kd (below kd (first_in kd kids)) (gap_of kd.0 q) in
        let f = kids_sum g kids (λ kid c. below kid (later_in kd kids kid c)) in
        omega (arith, a, b, c, d, e, f)

    no_answer : (kid : Kid) (G : Gap) → answers_of (waits_by first.key kid G) ≡ []
    no_answer kid Apart = refl
    no_answer (b, NodeChild n) (AtLeast g) = refl
    no_answer (b, EntryChild row) (AtLeast g) = refl

    no_answers : (kids : List Kid) → answers_of (waits_of first.key q kids) ≡ []
    no_answers [] = refl
    no_answers (kd ∷ kids) = flat_map-append (λ w. answers_at w w.what) (waits_at first.key q kd) (waits_of first.key q kids) ∙ ap (λ l. l ++ answers_of (waits_of first.key q kids)) (no_answer kd (gap_of kd.0 q)) ∙ no_answers kids

    waits_in : (kid : Kid) (G : Gap) (w : Waiting) → Contains (waits_by first.key kid G) w → (g : Ratio) × (G ≡ AtLeast g) × (record { key = greater first.key g; what = what_of kid.1 } ≡ w)
    waits_in kid Apart w c = absurd (none_in w c)
    waits_in kid (AtLeast g) w c = elim (which_in _ [] w c) [
      | inl e ↦ (g, refl, e)
      | inr i ↦ absurd (none_in w i)
    ]

    apart_in : (kid : Kid) (G : Gap) (e : EntryOf) → Contains (apart_at kid G) e → (G ≡ Apart) × Contains (entries_below bs kid) e
    unfolding apart_at
    apart_in kid Apart e c = (refl, c)
    apart_in kid (AtLeast g) e c = absurd (none_in e c)

    module _ (n : ℕ) (is : first.what ≡ Node n) (spread : IsSpread bs n) (new : State) (how : IsOpened bs q first.key n rest_state new) where
      node_held : IsHeld first.key (Node n)
      node_held = subst (λ z. IsHeld first.key z) is first_held

      abbrev waits : List Waiting
      waits = waits_of first.key q (children bs n)

      under_is : entries_in bs box_at first.what ≡ flat_map (entries_below bs) (children bs n)
      under_is = ap (entries_in bs box_at) is ∙ spread.spread

      kid_entry : (kid : Kid) → Contains (children bs n) kid → (e : EntryOf) → Contains (entries_below bs kid) e → Contains (entries_under bs n) e
      kid_entry kid c e i = subst (λ l. Contains l e) (sym spread.spread) (flat-Contains (entries_below bs) (children bs n) kid e c i)

      kid_over : (kid : Kid) → Contains (children bs n) kid → (e : EntryOf) → Contains (entries_below bs kid) e → contains kid.0 e.0 ≡ true
      kid_over kid c e i = All-contains (λ (x : EntryOf). contains kid.0 x.0 ≡ true) (entries_below bs kid) e (All-contains (λ (k : Kid). All (λ (x : EntryOf). contains k.0 x.0 ≡ true) (entries_below bs k)) (children bs n) kid spread.over c) i

      kid_there : (kid : Kid) → Contains (children bs n) kid → IsBelow kid
      kid_there kid c e i = first_entries e (subst (λ z. Contains (entries_in bs box_at z) e) (sym is) (kid_entry kid c e i))

      kid_reaches : (kid : Kid) → Contains (children bs n) kid → (e : EntryOf) → Contains (entries_below bs kid) e → (m : Ratio) → has e.1 m → gap_reaches (gap_of kid.0 q) m ≡ true
      kid_reaches kid c e i m h = known.bound kid.0 e (kid_there kid c e i) (kid_over kid c e i) m h

      kid_bound : (kid : Kid) → Contains (children bs n) kid → (g : Ratio) → gap_of kid.0 q ≡ AtLeast g → (e : EntryOf) → Contains (entries_below bs kid) e → (m : Ratio) → has e.1 m → up_to (greater first.key g) m ≡ true
      kid_bound kid c g f e i m h = greater_least first.key g m (node_held.1 e (kid_entry kid c e i) m h) (subst (λ z. gap_reaches z m ≡ true) f (kid_reaches kid c e i m h))

      kid_held : (kid : Kid) → Contains (children bs n) kid → (g : Ratio) → gap_of kid.0 q ≡ AtLeast g → IsHeld (greater first.key g) (what_of kid.1)
      kid_held (b, NodeChild m) c g f = ((suc node_held.0.0, is_child node_held.0.1 c.1 (sym c.2)), kid_bound (b, NodeChild m) c g f)
      kid_held (b, EntryChild row) c g f =
          let known_box = at_box b row (kid_there (b, EntryChild row) c (b, row) (first_in (b, row) [])) in
          (subst (λ z. gap_reaches z (greater first.key g) ≡ true) (sym (ap (λ z. gap_of z q) known_box ∙ f)) (greater_right first.key g), kid_bound (b, EntryChild row) c g f (b, row) (first_in (b, row) []))

      kid_later : (kid : Kid) (key : Ratio) (o : ℕ × Ratio) → before o.1 key ≡ true → IsLater o key (what_of kid.1)
      kid_later (b, NodeChild m) key o h = h
      kid_later (b, EntryChild row) key o h = h

      opened_which : (w : Waiting) → Contains new.heap w → Contains waits w ⊎ Contains rest w
      opened_which w c = Contains-append_cases waits rest w (in_before (waits ++ rest) new.heap w how.heap c)

      opened_rest : (w : Waiting) → Contains rest w → Contains new.heap w
      opened_rest w c = Contains-permutation (waits ++ rest) new.heap w how.heap (Contains-append_right waits rest w c)

      opened_held : (w : Waiting) → Contains waits w → (up_to first.key w.key ≡ true) × IsHeld w.key w.what
      opened_held w c =
          let i = Contains-flat (waits_at first.key q) (children bs n) w c in
          let v = waits_in i.0 (gap_of i.0.0 q) w i.2 in
          subst (λ (z : Waiting). (up_to first.key z.key ≡ true) × IsHeld z.key z.what) v.2 (greater_left first.key v.0, kid_held i.0 i.1 v.0 v.1)

      opened_later : (o : ℕ × Ratio) → Contains s.found o → (w : Waiting) → Contains waits w → IsLater o w.key w.what
      opened_later o h w c =
          let i = Contains-flat (waits_at first.key q) (children bs n) w c in
          let v = waits_in i.0 (gap_of i.0.0 q) w i.2 in
          let l : before o.1 first.key ≡ true = subst (λ z. IsLater o first.key z) is (old.later o h first first_there) in
          subst (λ (z : Waiting). IsLater o z.key z.what) v.2 (kid_later i.0 (greater first.key v.0) o (before-up_to o.1 first.key (greater first.key v.0) l (greater_left first.key v.0)))

      opened_same : AreSame (((old.gone ++ apart_of (children bs n)) ++ old.tried) ++ entries_of new.heap) entries
      opened_same g =
          let a = old.same g in
          let b = sum_by-append g (old.gone ++ old.tried) (entries_of s.heap) in
          let c = sum_by-append g old.gone old.tried in
          let d = sum_by-append g ((old.gone ++ apart_of (children bs n)) ++ old.tried) (entries_of new.heap) in
          let e = sum_by-append g (old.gone ++ apart_of (children bs n)) old.tried in
          let f = sum_by-append g old.gone (apart_of (children bs n)) in
          let h = entries_sum g in
          let i = ap (λ l. sum_by g l) under_is in
          let j = kids_sum g (children bs n) kid_there in
          let l = flat_permuted g (λ w. entries_in bs box_at w.what) (waits ++ rest) new.heap how.heap in
          let m = ap (λ l. sum_by g l) (flat_map-append (λ w. entries_in bs box_at w.what) waits rest) in
          let o = sum_by-append g (entries_of waits) (entries_of rest) in
          omega (arith, a, b, c, d, e, f, h, i, j, l, m, o)

      opened_none : (e : EntryOf) → Contains (apart_of (children bs n)) e → (m : Ratio) → has e.1 m → ⊥
      unfolding apart_of
      opened_none e c m h =
          let i = Contains-flat (λ (kd : Kid). apart_at kd (gap_of kd.0 q)) (children bs n) e c in
          let v = apart_in i.0 (gap_of i.0.0 q) e i.2 in
          true≢false (sym (subst (λ z. gap_reaches z m ≡ true) v.0 (kid_reaches i.0 i.1 e v.1 m h)))

      -- the waiting answers are the same
      opened_sum : (g : ℕ × Ratio → ℕ) → sum_by g (answers_of new.heap) ≡ sum_by g (answers_of s.heap)
      opened_sum g =
          let a = flat_permuted g (λ w. answers_at w w.what) (waits ++ rest) new.heap how.heap in
          let b = ap (λ l. sum_by g l) (flat_map-append (λ w. answers_at w w.what) waits rest ∙ ap (λ l. l ++ answers_of rest) (no_answers (children bs n))) in
          let c = answers_sum g in
          let d = ap (λ z. sum_by g (answers_at first z)) is in
          omega (arith, a, b, c, d)

      opened_answer : (x : ℕ × Ratio) → Contains (answers_of s.heap) x → Contains (answers_of new.heap) x
      opened_answer x c = elim (answer_left x c) [
        | inl i ↦ absurd (none_in x (subst (λ z. Contains (answers_at first z) x) is i))
        | inr i ↦ let v = Contains-flat (λ w. answers_at w w.what) rest x i in flat-Contains (λ w. answers_at w w.what) new.heap v.0 x (opened_rest v.0 v.1) v.2
      ]

      opened_all : (x : ℕ × Ratio) → Contains (s.found ++ answers_of s.heap) x → Contains (new.found ++ answers_of new.heap) x
      opened_all x c = subst (λ l. Contains (l ++ answers_of new.heap) x) (sym how.found) (elim (Contains-append_cases s.found (answers_of s.heap) x c) [
        | inl i ↦ Contains-append_left s.found (answers_of new.heap) x i
        | inr i ↦ Contains-append_right s.found (answers_of new.heap) x (opened_answer x i)
      ])

      pub opened : IsSearching k start new
      opened = record {
        gone = old.gone ++ apart_of (children bs n);
        tried = old.tried;
        floor = first.key;
        same = opened_same;
        none = λ e c m h. elim (Contains-append_cases old.gone (apart_of (children bs n)) e c) [
          | inl i ↦ old.none e i m h
          | inr i ↦ opened_none e i m h
        ];
        answered = λ e c m h. opened_all (e.1, m) (old.answered e c m h);
        held = λ w c. elim (opened_which w c) [
          | inl i ↦ opened_held w i
          | inr i ↦ rest_held w i
        ];
        near = near_on;
        real = λ o c. old.real o (subst (λ l. Contains l o) how.found c);
        rising = subst IsRising (sym how.found) old.rising;
        later = λ o c w d. let i = subst (λ l. Contains l o) how.found c in elim (opened_which w d) [
          | inl j ↦ opened_later o i w j
          | inr j ↦ old.later o i w (rest_there w j)
        ];
        once = λ f.
            let a = old.once f in
            let b = sum_by-append (λ (o : ℕ × Ratio). f o.0) s.found (answers_of s.heap) in
            let c = sum_by-append (λ (o : ℕ × Ratio). f o.0) new.found (answers_of new.heap) in
            let d = opened_sum (λ o. f o.0) in
            let e = ap (λ l. sum_by (λ (o : ℕ × Ratio). f o.0) l) how.found in
            omega (arith, a, b, c, d, e);
        few = subst (λ l. length l < k) (sym how.found) old.few;
        steps = how.steps ∙ old.steps;
      }

    -- ---- an entry is evaluated

    module _ (row : ℕ) (is : first.what ≡ Entry row) (new : State) (how : IsMeasured has row rest_state new) where
      entry_held : IsHeld first.key (Entry row)
      entry_held = subst (λ z. IsHeld first.key z) is first_held

      abbrev here : EntryOf
      here = (box_at row, row)

      answer_bound : (o : Option Ratio) → IsOnly (has row) o → (w : Waiting) → Contains (found_answer row o) w → (up_to first.key w.key ≡ true) × IsHeld w.key w.what
      answer_bound None h w c = absurd (none_in w c)
      answer_bound (Some m) h w c = elim (which_in _ [] w c) [
        | inl e ↦ subst (λ (z : Waiting). (up_to first.key z.key ≡ true) × IsHeld z.key z.what) e (entry_held.1 m h, h)
        | inr i ↦ absurd (none_in w i)
      ]

      answer_later : (o : Option Ratio) → IsOnly (has row) o → (x : ℕ × Ratio) → before x.1 first.key ≡ true → (w : Waiting) → Contains (found_answer row o) w → IsLater x w.key w.what
      answer_later None h x l w c = absurd (none_in w c)
      answer_later (Some m) h x l w c = elim (which_in _ [] w c) [
        | inl e ↦ subst (λ (z : Waiting). IsLater x z.key z.what) e (rw (before-up_to x.1 first.key m l (entry_held.1 m h)) refl)
        | inr i ↦ absurd (none_in w i)
      ]

      answer_there : (o : Option Ratio) → IsOnly (has row) o → (m : Ratio) → has row m → Contains (answers_of (found_answer row o)) (row, m)
      answer_there None h m i = absurd (h m i)
      answer_there (Some n) h m i = subst (λ z. Contains {X = ℕ × Ratio} ((row, z) ∷ []) (row, m)) (known.one row m n i h) (first_in (row, m) [])

      answer_entries : (o : Option Ratio) → entries_of (found_answer row o) ≡ []
      answer_entries None = refl
      answer_entries (Some m) = refl

      answer_sum : (f : ℕ → ℕ) (o : Option Ratio) → sum_by (λ (x : ℕ × Ratio). f x.0) (answers_of (found_answer row o)) ≤ f row
      answer_sum f None = omega arith
      answer_sum f (Some m) = omega arith

      looked_which : (w : Waiting) → Contains new.heap w → Contains (found_answer row how.answer) w ⊎ Contains rest w
      looked_which w c = Contains-append_cases (found_answer row how.answer) rest w (in_before (found_answer row how.answer ++ rest) new.heap w how.heap c)

      looked_over : (x : ℕ × Ratio) → Contains (answers_of (found_answer row how.answer ++ rest)) x → Contains (answers_of new.heap) x
      looked_over x c = flat_over (λ w. answers_at w w.what) (found_answer row how.answer ++ rest) new.heap x how.heap c

      split_answers : answers_of (found_answer row how.answer ++ rest) ≡ answers_of (found_answer row how.answer) ++ answers_of rest
      split_answers = flat_map-append (λ w. answers_at w w.what) (found_answer row how.answer) rest

      looked_answer : (x : ℕ × Ratio) → Contains (answers_of s.heap) x → Contains (answers_of new.heap) x
      looked_answer x c = elim (answer_left x c) [
        | inl i ↦ absurd (none_in x (subst (λ z. Contains (answers_at first z) x) is i))
        | inr i ↦ looked_over x (subst (λ l. Contains l x) (sym split_answers) (Contains-append_right (answers_of (found_answer row how.answer)) (answers_of rest) x i))
      ]

      looked_all : (x : ℕ × Ratio) → Contains (s.found ++ answers_of s.heap) x → Contains (new.found ++ answers_of new.heap) x
      looked_all x c = subst (λ l. Contains (l ++ answers_of new.heap) x) (sym how.found) (elim (Contains-append_cases s.found (answers_of s.heap) x c) [
        | inl i ↦ Contains-append_left s.found (answers_of new.heap) x i
        | inr i ↦ Contains-append_right s.found (answers_of new.heap) x (looked_answer x i)
      ])

      looked_here : (m : Ratio) → has row m → Contains (new.found ++ answers_of new.heap) (row, m)
      looked_here m h = Contains-append_right new.found (answers_of new.heap) (row, m) (looked_over (row, m) (subst (λ l. Contains l (row, m)) (sym split_answers) (Contains-append_left (answers_of (found_answer row how.answer)) (answers_of rest) (row, m) (answer_there how.answer how.only m h))))

      looked_same : AreSame ((old.gone ++ (old.tried ++ here ∷ [])) ++ entries_of new.heap) entries
      looked_same g =
          let a = old.same g in
          let b = sum_by-append g (old.gone ++ old.tried) (entries_of s.heap) in
          let c = sum_by-append g old.gone old.tried in
          let d = sum_by-append g (old.gone ++ (old.tried ++ here ∷ [])) (entries_of new.heap) in
          let e = sum_by-append g old.gone (old.tried ++ here ∷ []) in
          let f = sum_by-append g old.tried (here ∷ []) in
          let h = entries_sum g in
          let i = ap (λ z. sum_by g (entries_in bs box_at z)) is in
          let l = flat_permuted g (λ w. entries_in bs box_at w.what) (found_answer row how.answer ++ rest) new.heap how.heap in
          let m = ap (λ l. sum_by g l) (flat_map-append (λ w. entries_in bs box_at w.what) (found_answer row how.answer) rest ∙ ap (λ l. l ++ entries_of rest) (answer_entries how.answer)) in
          omega (arith, a, b, c, d, e, f, h, i, l, m)

      pub looked : IsSearching k start new
      looked = record {
        gone = old.gone;
        tried = old.tried ++ here ∷ [];
        floor = first.key;
        same = looked_same;
        none = old.none;
        answered = λ e c m h. elim (Contains-append_cases old.tried (here ∷ []) e c) [
          | inl i ↦ looked_all (e.1, m) (old.answered e i m h)
          | inr i ↦ (elim (which_in here [] e i) [
            | inl j ↦ subst (λ (z : EntryOf). Contains (new.found ++ answers_of new.heap) (z.1, m)) j (looked_here m (subst (λ (z : EntryOf). has z.1 m) (sym j) h))
            | inr j ↦ absurd (none_in e j)
          ])
        ];
        held = λ w c. elim (looked_which w c) [
          | inl i ↦ answer_bound how.answer how.only w i
          | inr i ↦ rest_held w i
        ];
        near = λ e c. elim (Contains-append_cases old.tried (here ∷ []) e c) [
          | inl i ↦ near_on e i
          | inr i ↦ (elim (which_in here [] e i) [
            | inl j ↦ subst (λ (z : EntryOf). gap_reaches (gap_of z.0 q) first.key ≡ true) j entry_held.0
            | inr j ↦ absurd (none_in e j)
          ])
        ];
        real = λ o c. old.real o (subst (λ l. Contains l o) how.found c);
        rising = subst IsRising (sym how.found) old.rising;
        later = λ o c w d. let i = subst (λ l. Contains l o) how.found c in elim (looked_which w d) [
          | inl j ↦ answer_later how.answer how.only o (subst (λ z. IsLater o first.key z) is (old.later o i first first_there)) w j
          | inr j ↦ old.later o i w (rest_there w j)
        ];
        once = λ f.
            let p : ℕ × Ratio → ℕ = λ o. f o.0 in
            let r : EntryOf → ℕ = λ e. f e.1 in
            let a = old.once f in
            let b = sum_by-append p s.found (answers_of s.heap) in
            let c = sum_by-append p new.found (answers_of new.heap) in
            let d = ap (λ l. sum_by p l) how.found in
            let e = sum_by-append r old.tried (here ∷ []) in
            let h = answers_sum p in
            let i = ap (λ z. sum_by p (answers_at first z)) is in
            let l = flat_permuted p (λ w. answers_at w w.what) (found_answer row how.answer ++ rest) new.heap how.heap in
            let m = ap (λ l. sum_by p l) split_answers in
            let n = sum_by-append p (answers_of (found_answer row how.answer)) (answers_of rest) in
            let o = answer_sum f how.answer in
            omega (arith, a, b, c, d, e, h, i, l, m, n, o);
        few = subst (λ l. length l < k) (sym how.found) old.few;
        steps = let a = how.steps in let b = old.steps in let c = length-append old.tried (here ∷ []) in omega (arith, a, b, c);
      }

    -- ---- an answer is added

    module _ (row : ℕ) (is : first.what ≡ Answer row) (new : State) (how : IsRowAnswered first.key row rest_state new) where
      abbrev told_here : ℕ × Ratio
      told_here = (row, first.key)

      answer_held : has row first.key
      answer_held = subst (λ z. IsHeld first.key z) is first_held

      -- no other answer for this row waits
      no_other : (w : Waiting) → Contains rest w → (r : ℕ) → w.what ≡ Answer r → row ≡ r → ⊥
      no_other w c r e f =
          let t : ℕ → ℕ = λ n. cond (n == row) 1 0 in
          let p : ℕ × Ratio → ℕ = λ o. t o.0 in
          let v : EntryOf → ℕ = λ e. t e.1 in
          let one : ◌≡◌ {A = ℕ} (t row) 1 = ap (λ z. cond z 1 0) (eq-eqb row row refl) in
          let a = old.once t in
          let b = sum_by-append p s.found (answers_of s.heap) in
          let g = answers_sum p in
          let h : ◌≡◌ {A = ℕ} (sum_by p (answers_at first first.what)) (t row) = ap (λ z. sum_by p (answers_at first z)) is ∙ one_sum p told_here in
          let there : Contains {X = ℕ × Ratio} (answers_at w w.what) (row, w.key) = subst (λ z. Contains (answers_at w z) (row, w.key)) (sym e) (subst (λ z. Contains {X = ℕ × Ratio} ((z, w.key) ∷ []) (row, w.key)) f (first_in (row, w.key) [])) in
          let i : t row ≤ sum_by p (answers_of rest) = sum_in p (answers_of rest) (row, w.key) (flat-Contains (λ w. answers_at w w.what) rest w (row, w.key) c there) in
          let j = old.same v in
          let l = sum_by-append v (old.gone ++ old.tried) (entries_of s.heap) in
          let m = sum_by-append v old.gone old.tried in
          let o = known.once row in
          absurd (omega (arith, one, a, b, g, h, i, j, l, m, o))

      told_later : (w : Waiting) → Contains rest w → IsLater told_here w.key w.what
      told_later w c = next_later row first.key w.key w.what (at (pop.next w c)) (no_other w c)
        where
          at : IsNext first w → (before first.key w.key ≡ true) ⊎ ((w.key ≡ first.key) × ((2 < rank_of w.what) ⊎ ((rank_of w.what ≡ 2) × (row ≤ waiting_number w.what))))
          at h = subst (λ (z : WaitingKind). (before first.key w.key ≡ true) ⊎ ((w.key ≡ first.key) × ((rank_of z < rank_of w.what) ⊎ ((rank_of w.what ≡ rank_of z) × (waiting_number z ≤ waiting_number w.what))))) is h

      told_which : (o : ℕ × Ratio) → Contains new.found o → Contains s.found o ⊎ (told_here ≡ o)
      told_which o c = elim (Contains-append_cases s.found (told_here ∷ []) o (subst (λ l. Contains l o) how.found c)) [
        | inl i ↦ inl i
        | inr i ↦ (elim (which_in told_here [] o i) [
          | inl e ↦ inr e
          | inr j ↦ absurd (none_in o j)
        ])
      ]

      told_behind : (o : ℕ × Ratio) → Contains new.found o → (w : Waiting) → Contains rest w → IsLater o w.key w.what
      told_behind o c w d = elim (told_which o c) [
        | inl i ↦ old.later o i w (rest_there w d)
        | inr e ↦ subst (λ (z : ℕ × Ratio). IsLater z w.key w.what) e (told_later w d)
      ]

      told_found : (x : ℕ × Ratio) → Contains (s.found ++ told_here ∷ []) x → Contains new.found x
      told_found x c = subst (λ l. Contains l x) (sym how.found) c

      told_answer : (x : ℕ × Ratio) → Contains (answers_at first first.what) x → Contains new.found x
      told_answer x c = elim (which_in told_here [] x (subst (λ z. Contains (answers_at first z) x) is c)) [
        | inl e ↦ told_found x (subst (λ (z : ℕ × Ratio). Contains (s.found ++ told_here ∷ []) z) e (Contains-append_right s.found (told_here ∷ []) told_here (first_in told_here [])))
        | inr i ↦ absurd (none_in x i)
      ]

      -- an answer that was found or waiting is found, or remains
      told_all : (x : ℕ × Ratio) → Contains (s.found ++ answers_of s.heap) x → Contains new.found x ⊎ Contains (answers_of rest) x
      told_all x c = elim (Contains-append_cases s.found (answers_of s.heap) x c) [
        | inl i ↦ inl (told_found x (Contains-append_left s.found (told_here ∷ []) x i))
        | inr i ↦ (elim (answer_left x i) [
          | inl j ↦ inl (told_answer x j)
          | inr j ↦ inr j
        ])
      ]

      told_real : (o : ℕ × Ratio) → Contains new.found o → has o.0 o.1
      told_real o c = elim (told_which o c) [
        | inl i ↦ old.real o i
        | inr e ↦ subst (λ (z : ℕ × Ratio). has z.0 z.1) e answer_held
      ]

      told_rising : IsRising new.found
      told_rising = subst IsRising (sym how.found) (rising_push s.found told_here old.rising (λ o c. subst (λ z. IsLater o first.key z) is (old.later o c first first_there)))

      told_sum : (f : ℕ → ℕ) → sum_by (λ (o : ℕ × Ratio). f o.0) (new.found ++ answers_of new.heap) ≡ sum_by (λ (o : ℕ × Ratio). f o.0) (s.found ++ answers_of s.heap)
      told_sum f =
          let p : ℕ × Ratio → ℕ = λ o. f o.0 in
          let b = sum_by-append p s.found (answers_of s.heap) in
          let c = sum_by-append p new.found (answers_of new.heap) in
          let d = ap (λ l. sum_by p l) how.found in
          let e = sum_by-append p s.found (told_here ∷ []) in
          let h = answers_sum p in
          let i : ◌≡◌ {A = ℕ} (sum_by p (answers_at first first.what)) (f row) = ap (λ z. sum_by p (answers_at first z)) is ∙ one_sum p told_here in
          let j = ap (λ l. sum_by p (answers_of l)) how.heap in
          omega (arith, b, c, d, e, h, i, j)

      pub told : length new.found < k → IsSearching k start new
      told few = record {
        gone = old.gone;
        tried = old.tried;
        floor = first.key;
        same = λ g.
            let a = old.same g in
            let b = sum_by-append g (old.gone ++ old.tried) (entries_of s.heap) in
            let c = sum_by-append g (old.gone ++ old.tried) (entries_of new.heap) in
            let d = entries_sum g in
            let e = ap (λ z. sum_by g (entries_in bs box_at z)) is in
            let f = ap (λ l. sum_by g (entries_of l)) how.heap in
            omega (arith, a, b, c, d, e, f);
        none = old.none;
        answered = λ e c m h. elim (told_all (e.1, m) (old.answered e c m h)) [
          | inl i ↦ Contains-append_left new.found (answers_of new.heap) (e.1, m) i
          | inr i ↦ Contains-append_right new.found (answers_of new.heap) (e.1, m) (subst (λ l. Contains (answers_of l) (e.1, m)) (sym how.heap) i)
        ];
        held = λ w c. rest_held w (subst (λ l. Contains l w) how.heap c);
        near = near_on;
        real = told_real;
        rising = told_rising;
        later = λ o c w d. told_behind o c w (subst (λ l. Contains l w) how.heap d);
        once = λ f. let a = old.once f in let b = told_sum f in omega (arith, a, b);
        few = few;
        steps = how.steps ∙ old.steps;
      }

      told_full : length new.found ≡ k → (r : ℕ) (m : Ratio) → has r m → Contains new.found (r, m) ⊎ ((length new.found ≡ k) × AllByRecursion (λ o. nearer o (r, m) ≡ true) new.found)
      told_full full r m h =
          let b = known.every r m h in
          elim (where_is (b.0, r) b.1) [
            | inl i ↦ (elim i [
              | inl j ↦ absurd (old.none (b.0, r) j m h)
              | inr j ↦ (elim (told_all (r, m) (old.answered (b.0, r) j m h)) [
                | inl c ↦ inl c
                | inr c ↦ let w = Contains-flat (λ w. answers_at w w.what) rest (r, m) c in inr (full, all_by_each (λ o. nearer o (r, m) ≡ true) new.found (λ o d. later_answer o w.0 w.0.what (told_behind o d w.0 w.1) (r, m) w.2))
              ])
            ])
            | inr i ↦ (elim (entry_left (b.0, r) i) [
              | inl j ↦ absurd (none_in (b.0, r) (subst (λ z. Contains (entries_in bs box_at z) (b.0, r)) is j))
              | inr j ↦ let w = Contains-flat (λ w. entries_in bs box_at w.what) rest (b.0, r) j in inr (full, all_by_each (λ o. nearer o (r, m) ≡ true) new.found (λ o d. later_entry o w.0.key w.0.what (told_behind o d w.0 w.1) (rest_held w.0 w.1).1 (b.0, r) w.2 m h))
            ])
          ]

      told_reach : length new.found ≡ k → reach_of k new.found ≡ Some first.key
      told_reach full = ap (λ z. cond z (last_approach new.found) None) (eq-eqb (length new.found) k full) ∙ ap last_approach how.found ∙ last_push s.found told_here

      pub told_last : length new.found ≡ k → IsDone k start new.found new.steps
      told_last full = record {
        first = record {
          each = all_by_each (λ o. has o.0 o.1) new.found told_real;
          rising = told_rising;
          few = omega (arith, full);
          full = told_full full;
        };
        cost =
            let a = subst (λ z. length old.tried ≤ count_within z q entries) (sym (told_reach full)) (count_some (λ e. lies_within (Some first.key) (gap_of e.0 q)) old.gone old.tried (entries_of s.heap) entries old.same (λ e c. within_some (gap_of e.0 q) first.key (near_on e c))) in
            let b = how.steps in
            let c = old.steps in
            omega (arith, a, b, c);
      }

    -- ---- a part does not fit

    module _ (row : ℕ) (is : first.what ≡ Entry row) where
      unfit_held : IsHeld first.key (Entry row)
      unfit_held = subst (λ z. IsHeld first.key z) is first_held

      unfit_near : (r : ℕ) (m : Ratio) → has r m → before m first.key ≡ true → Contains s.found (r, m)
      unfit_near r m h l =
          let v = known.every r m h in
          elim (where_is (v.0, r) v.1) [
            | inl i ↦ (elim i [
              | inl j ↦ absurd (old.none (v.0, r) j m h)
              | inr j ↦ (elim (Contains-append_cases s.found (answers_of s.heap) (r, m) (old.answered (v.0, r) j m h)) [
                | inl c ↦ c
                | inr c ↦ (elim (answer_left (r, m) c) [
                  | inl d ↦ absurd (none_in (r, m) (subst (λ z. Contains (answers_at first z) (r, m)) is d))
                  | inr d ↦ let w = Contains-flat (λ w. answers_at w w.what) rest (r, m) d in absurd (up_to-not-after first.key m (subst (λ z. up_to first.key z ≡ true) (held_answer w.0 w.0.what (r, m) w.2) (rest_held w.0 w.1).0) l)
                ])
              ])
            ])
            | inr i ↦ (elim (entry_left (v.0, r) i) [
              | inl j ↦ absurd (up_to-not-after first.key m (held_entry first.key first.what first_held (v.0, r) j m h) l)
              | inr j ↦ let w = Contains-flat (λ w. entries_in bs box_at w.what) rest (v.0, r) j in absurd (up_to-not-after first.key m (up_to-trans first.key w.0.key m (rest_held w.0 w.1).0 (held_entry w.0.key w.0.what (rest_held w.0 w.1).1 (v.0, r) w.2 m h)) l)
            ])
          ]

      pub unfit_gap : (g : Ratio) × (gap_of (box_at row) q ≡ AtLeast g) × HasFewBelow has k g
      unfit_gap =
          let v = gap_some (gap_of (box_at row) q) first.key unfit_held.0 in
          (v.0, v.1, (map (λ (o : ℕ × Ratio). o.0) s.found, (let a = old.few in let e = length-map s.found (λ (o : ℕ × Ratio). o.0) in omega (arith, a, e)), λ r m h l. in_firsts s.found (r, m) (unfit_near r m h (before-up_to m v.0 first.key l v.2))))

      pub unfit_entry : Contains entries (box_at row, row)
      unfit_entry = first_entries (box_at row, row) (subst (λ z. Contains (entries_in bs box_at z) (box_at row, row)) (sym is) (first_in (box_at row, row) []))

  -- ---- nothing remains

  pub nothing_left : (known : IsKnown bs root entries has q) (k start : ℕ) (s : State) → IsSearching k start s → s.heap ≡ [] → IsDone k start s.found s.steps
  nothing_left known k start s old empty = record {
    first = record {
      each = all_by_each (λ o. has o.0 o.1) s.found old.real;
      rising = old.rising;
      few = let a = old.few in omega (arith, a);
      full = λ r m h. let b = known.every r m h in inl (elim (Contains-append_cases (old.gone ++ old.tried) (entries_of s.heap) (b.0, r) (in_same entries ((old.gone ++ old.tried) ++ entries_of s.heap) (b.0, r) (same_back ((old.gone ++ old.tried) ++ entries_of s.heap) entries old.same) b.1)) [
        | inl i ↦ (elim (Contains-append_cases old.gone old.tried (b.0, r) i) [
          | inl j ↦ absurd (old.none (b.0, r) j m h)
          | inr j ↦ (elim (Contains-append_cases s.found (answers_of s.heap) (r, m) (old.answered (b.0, r) j m h)) [
            | inl c ↦ c
            | inr c ↦ absurd (none_in (r, m) (subst (λ l. Contains (answers_of l) (r, m)) empty c))
          ])
        ])
        | inr i ↦ absurd (none_in (b.0, r) (subst (λ l. Contains (entries_of l) (b.0, r)) empty i))
      ]);
    };
    cost =
        let e : reach_of k s.found ≡ None = ap (λ z. cond z (last_approach s.found) None) (not_equal (length s.found) k _ refl old.few) in
        let a = subst (λ z. length old.tried ≤ count_within z q entries) (sym e) (count_some (λ e. lies_within None (gap_of e.0 q)) old.gone old.tried (entries_of s.heap) entries old.same (λ e c. within_none (gap_of e.0 q) old.floor (old.near e c))) in
        let c = old.steps in
        omega (arith, a, c);
  }
