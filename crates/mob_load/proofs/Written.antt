-- A script in written order is checked in that order.
use Rattle.std.{specs.Prelude.{◌⊎◌, ◌==◌, ◌&&◌, ◌||◌, filter, nat_lt}, specs.List.{AllByRecursion}}
use Rattle.std.{proofs.Common.{◌≡◌, ◌∙◌, refl, sym, ap, subst, arith, eq-eqb, inl, inr, Bool, true, false, ℕ, ◌+◌, ◌<◌, ◌≤◌, List, [], ◌∷◌, ◌++◌, map}, proofs.lemmas.Bool.{eqb-true, ltb-true, lt-ltb}}
use Rattle.mob_typed.{specs.declared.typed.ConstText.{ConstText}, specs.Statements.{StatementOut, nothing, new_table, new_index, new_rows, rows_from, deletion, query, plan_of}}
use Rattle.mob_typed.{specs.Written.{HasRisingRows, IsUpTo, LiteralUpTo, Rises}, proofs.Rising.{both_rise}}
use Rattle.mob_load.{specs.Checks.{CheckParts, literal, Checkpoint, bracket, checkpoints_of, checkpoints_from, stands_before, checks_up_to, in_order}, specs.Loads.{literal_of}}
use Rattle.mob_load.{specs.Order.{IsCutAt, LooksInOrder}, proofs.EachCheckpoint.{each_checkpoint}, proofs.Checkpoints.{own_checkpoint}, proofs.Values.{NoLiterals, no_all}}
use Rattle.mob_list.proofs.Each.{each_both, each_map, each_on, one_of}

abbrev CheckpointUpTo : Checkpoint → Checkpoint → Type 0
CheckpointUpTo m k = IsUpTo m.statement m.place k.statement k.place

-- a place that is not after another is before everything that the other is before
stands_too : (a n p : ℕ) (b k q : ℕ) → IsUpTo a b k q → ((k < n) ⊎ ((k ≡ n) × (q < p))) → (a < n) ⊎ ((a ≡ n) × (b < p))
stands_too a n p b k q (inl h) (inl g) = inl (omega arith)
stands_too a n p b k q (inl h) (inr g) = let same = g.0 in inl (omega arith)
stands_too a n p b k q (inr h) (inl g) = let same = h.0 in inl (omega arith)
stands_too a n p b k q (inr h) (inr g) = let less = h.1 in let below = g.1 in inr (h.0 ∙ g.0, omega arith)

-- the test whether a literal is before a place, and its meaning
test_says : (x y z : Bool) → (x || (y && z)) ≡ true → (x ≡ true) ⊎ ((y ≡ true) × (z ≡ true))
test_says true y z h = inl refl
test_says false true true h = inr (refl, refl)
test_says false true false h = absurd (cc h)
test_says false false z h = absurd (cc h)

test_holds : (x y z : Bool) → (x ≡ true) ⊎ ((y ≡ true) × (z ≡ true)) → (x || (y && z)) ≡ true
test_holds true y z h = refl
test_holds false true true h = refl
test_holds false true false (inl e) = absurd (cc e)
test_holds false true false (inr e) = absurd (cc e.1)
test_holds false false z (inl e) = absurd (cc e)
test_holds false false z (inr e) = absurd (cc e.0)

stands_says : (k q n p : ℕ) → (nat_lt k n || (k == n && nat_lt q p)) ≡ true → (k < n) ⊎ ((k ≡ n) × (q < p))
stands_says k q n p h = elim (test_says (nat_lt k n) (k == n) (nat_lt q p) h) [
  | inl less ↦ inl (ltb-true k n less)
  | inr both ↦ inr (eqb-true k n both.0, ltb-true q p both.1)
]

stands_test : (k q n p : ℕ) → (k < n) ⊎ ((k ≡ n) × (q < p)) → (nat_lt k n || (k == n && nat_lt q p)) ≡ true
stands_test k q n p (inl less) = test_holds (nat_lt k n) (k == n) (nat_lt q p) (inl (lt-ltb k n less))
stands_test k q n p (inr both) = test_holds (nat_lt k n) (k == n) (nat_lt q p) (inr (eq-eqb k n both.0, lt-ltb q p both.1))

-- a literal that is no later than one before a place is before it
earlier_stands : (c d : ConstText) (n p : ℕ) → LiteralUpTo c d → stands_before d n p ≡ true → stands_before c n p ≡ true
earlier_stands c d n p h is = stands_test c.statement c.place n p (stands_too c.statement n p c.place d.statement d.place h (stands_says d.statement d.place n p is))

-- what is before a checkpoint is before each that is not after it
checkpoint_stands : (c : ConstText) (m k : Checkpoint) → CheckpointUpTo m k → stands_before c m.statement m.place ≡ true → stands_before c k.statement k.place ≡ true
checkpoint_stands c m k h is = stands_test c.statement c.place k.statement k.place (later c.statement c.place (stands_says c.statement c.place m.statement m.place is))
  where
    later : (a b : ℕ) → (a < m.statement) ⊎ ((a ≡ m.statement) × (b < m.place)) → (a < k.statement) ⊎ ((a ≡ k.statement) × (b < k.place))
    later a b (inl g) = elim h [
      | inl less ↦ inl (omega arith)
      | inr same ↦ let is = same.0 in inl (omega arith)
    ]
    later a b (inr g) = elim h [
      | inl less ↦ let is = g.0 in inl (omega arith)
      | inr same ↦ let to = same.1 in let below = g.1 in inr (g.0 ∙ same.0, omega arith)
    ]

module _ (m : Checkpoint) where
  choice_none : (b : Bool) (c d : ConstText) (cs : List ConstText) → LiteralUpTo c d → stands_before c m.statement m.place ≡ false → filter (λ x. stands_before x m.statement m.place) cs ≡ [] → stands_before d m.statement m.place ≡ b → filter (λ x. stands_before x m.statement m.place) (d ∷ cs) ≡ []
  choice_none true c d cs h not rest is = let there = earlier_stands c d m.statement m.place h is in absurd (cc (not, there))
  choice_none false c d cs h not rest is = rw is rest

  -- if a literal is not before the checkpoint, none that follows is
  none_stands : (c : ConstText) (cs : List ConstText) → AllByRecursion (LiteralUpTo c) cs → stands_before c m.statement m.place ≡ false → filter (λ x. stands_before x m.statement m.place) cs ≡ []
  none_stands c [] later not = refl
  none_stands c (d ∷ cs) later not = choice_none (stands_before d m.statement m.place) c d cs later.0 not (none_stands c cs later.1 not) refl

  module _ (next : List ConstText → List CheckParts) where
    choice_here : (b : Bool) (c : ConstText) (cs : List ConstText) → Rises LiteralUpTo (c ∷ cs) → IsCutAt (checks_up_to next m cs) [] m cs → stands_before c m.statement m.place ≡ b → IsCutAt (checks_up_to next m (c ∷ cs)) [] m (c ∷ cs)
    choice_here true c cs rises cut is = rw is (record {
      first = literal c ∷ cut.first;
      last = cut.last;
      parts = ap (λ (l : List CheckParts). literal c ∷ l) cut.parts;
      checkpoints = cut.checkpoints;
      read = rw is (ap (λ (l : List ConstText). c ∷ l) cut.read);
    })
    choice_here false c cs rises cut is = rw is (record {
      first = [];
      last = next (c ∷ cs);
      parts = refl;
      checkpoints = refl;
      read = rw is (sym (none_stands c cs rises.0 is));
    })

    -- the next checkpoint is the one
    cut_here : (cs : List ConstText) → Rises LiteralUpTo cs → IsCutAt (checks_up_to next m cs) [] m cs
    cut_here [] rises = record { first = []; last = next []; parts = refl; checkpoints = refl; read = refl }
    cut_here (c ∷ cs) rises = choice_here (stands_before c m.statement m.place) c cs rises (cut_here cs rises.1) refl

    module _ (k : Checkpoint) (none : literal_of k.check ≡ []) (to : CheckpointUpTo k m) (before : List Checkpoint) (cut_next : (cs : List ConstText) → Rises LiteralUpTo cs → IsCutAt (next cs) before m cs) where
      behind : (cs : List ConstText) → Rises LiteralUpTo cs → IsCutAt (k.check ∷ next cs) (k ∷ before) m cs
      behind cs rises =
          let cut = cut_next cs rises in
          record {
            first = k.check ∷ cut.first;
            last = cut.last;
            parts = ap (λ (l : List CheckParts). k.check ∷ l) cut.parts;
            checkpoints = rw (own_checkpoint k.check none) (ap (λ (l : List CheckParts). k.check ∷ l) cut.checkpoints);
            read = rw none cut.read;
          }

      choice_later : (b : Bool) (c : ConstText) (cs : List ConstText) → Rises LiteralUpTo (c ∷ cs) → IsCutAt (checks_up_to next k cs) (k ∷ before) m cs → stands_before c k.statement k.place ≡ b
          → IsCutAt (checks_up_to next k (c ∷ cs)) (k ∷ before) m (c ∷ cs)
      choice_later true c cs rises cut is = rw is (record {
        first = literal c ∷ cut.first;
        last = cut.last;
        parts = ap (λ (l : List CheckParts). literal c ∷ l) cut.parts;
        checkpoints = cut.checkpoints;
        read = rw (checkpoint_stands c k m to is) (ap (λ (l : List ConstText). c ∷ l) cut.read);
      })
      choice_later false c cs rises cut is = rw is (behind (c ∷ cs) rises)

      -- another checkpoint comes first
      cut_later : (cs : List ConstText) → Rises LiteralUpTo cs → IsCutAt (checks_up_to next k cs) (k ∷ before) m cs
      cut_later [] rises = behind [] rises
      cut_later (c ∷ cs) rises = choice_later (stands_before c k.statement k.place) c cs rises (cut_later cs rises.1) refl

cut_at : (before after : List Checkpoint) (m : Checkpoint) → NoLiterals (before ++ m ∷ after) → Rises CheckpointUpTo (before ++ m ∷ after) → (cs : List ConstText) → Rises LiteralUpTo cs → IsCutAt (in_order (before ++ m ∷ after) cs) before m cs
cut_at [] after m none rises cs written = cut_here m (in_order after) cs written
cut_at (k ∷ before) after m none rises cs written =
    cut_later m (in_order (before ++ m ∷ after)) k none.0 (one_of (CheckpointUpTo k) before after m rises.0) before (λ ds later. cut_at before after m none.1 rises.1 ds later) cs written

-- the checkpoints of a script in written order are sorted
brackets_rise : (t n : ℕ) (places : List ℕ) → Rises (λ p q. p ≤ q) places → Rises CheckpointUpTo (map (bracket t n) places)
brackets_rise t n [] h = tt
brackets_rise t n (p ∷ ps) h = (each_map (λ q. p ≤ q) (CheckpointUpTo (bracket t n p)) (bracket t n) (λ q le. inr (refl, le)) ps h.0, brackets_rise t n ps h.1)

own_rise : (n : ℕ) (s : StatementOut) → HasRisingRows s → Rises CheckpointUpTo (checkpoints_of n s)
own_rise n nothing h = tt
own_rise n (new_table t name columns) h = (tt, tt)
own_rise n (new_index t c name) h = tt
own_rise n (new_rows t rows places) h = brackets_rise t n places h
own_rise n (rows_from t name) h = (tt, tt)
own_rise n (deletion s) h = tt
own_rise n (query s) h = tt
own_rise n (plan_of s) h = tt

-- the checkpoint is of this statement
abbrev IsOfStatement : ℕ → Checkpoint → Type 0
IsOfStatement n m = m.statement ≡ n

-- the checkpoint is of this statement, or of one after it
abbrev IsFromStatement : ℕ → Checkpoint → Type 0
IsFromStatement n m = n ≤ m.statement

own_stand : (n : ℕ) (s : StatementOut) → AllByRecursion (IsOfStatement n) (checkpoints_of n s)
own_stand n s = each_checkpoint (IsOfStatement n) n (λ t p. refl) (λ t name. refl) s (λ t name columns is. refl)

all_stand : (n : ℕ) (ss : List StatementOut) → AllByRecursion (IsFromStatement n) (checkpoints_from n ss)
all_stand n [] = tt
all_stand n (s ∷ ss) =
    each_both (IsFromStatement n) (checkpoints_of n s) (checkpoints_from (n + 1) ss)
    (each_on (IsOfStatement n) (IsFromStatement n) (λ m is. omega arith) (checkpoints_of n s) (own_stand n s))
    (each_on (IsFromStatement (n + 1)) (IsFromStatement n) (λ m le. omega arith) (checkpoints_from (n + 1) ss) (all_stand (n + 1) ss))

all_rise : (n : ℕ) (ss : List StatementOut) → AllByRecursion HasRisingRows ss → Rises CheckpointUpTo (checkpoints_from n ss)
all_rise n [] h = tt
all_rise n (s ∷ ss) h = both_rise CheckpointUpTo (λ m. m.statement) (λ x y earlier. inl earlier) n (checkpoints_of n s) (checkpoints_from (n + 1) ss) (own_rise n s h.0) (own_stand n s) (all_rise (n + 1) ss h.1) (all_stand (n + 1) ss)

pub looks_in_order : LooksInOrder
looks_in_order out written before after m is =
    let none = subst NoLiterals is (no_all 1 out.statements) in
    let rises = subst (Rises CheckpointUpTo) is (all_rise 1 out.statements written.rows) in
    subst (λ ms. IsCutAt (in_order ms out.consts) before m out.consts) (sym is) (cut_at before after m none rises out.consts written.literals)
