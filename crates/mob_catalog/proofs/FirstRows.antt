-- The rows of a list put into a table at once.
use Rattle.std.specs.List.{AllByRecursion, AllZip}
use Rattle.std.proofs.Common.{◌≡◌, ◌∙◌, refl, sym, ap, subst, ℕ, zero, suc, arith, ◌+◌, ◌<◌, length, List, [], ◌∷◌, ◌++◌, get_or, set, map, append_assoc, append-nil}
use Rattle.std.proofs.lemmas.List.{nil_from_length}
use Rattle.mob_value.{specs.declared.value.Value.{Value}, specs.declared.store.Table.{Table}}
use Rattle.mob_catalog.{specs.declared.catalog.TableHead.{TableHead}, specs.declared.indexes.TableIndex.{TableIndex}}
use Rattle.mob_catalog.specs.Catalogue.{Catalogue, live_of, rows_put, with_all_rows, with_changed, with_last_row, with_live_row, with_row}
use Rattle.mob_catalog.{specs.Kept.{IsEntered, IsKeptTogether, numbers_from, with_last_rows, with_live_rows}, proofs.Changed.{length_changed}, proofs.Together.{kept_row}}

-- one number more
pub numbers_more : (n count : ℕ) → numbers_from n (count + 1) ≡ numbers_from n count ++ (n + count) ∷ []
numbers_more n zero = ap (λ k. k ∷ []) (omega arith)
numbers_more n (suc count) =
    let one : suc count + 1 ≡ suc (count + 1) = omega arith in
    let next : suc n + count ≡ n + suc count = omega arith in
    rw one (ap (λ ks. n ∷ ks) (numbers_more (suc n) count ∙ ap (λ k. numbers_from (suc n) count ++ k ∷ []) next))

-- ---- changes of one entry

module _ {A : Type 0} where
  changed_same : (n : ℕ) (f : A → A) → ((x : A) → f x ≡ x) → (xs : List A) → with_changed n f xs ≡ xs
  changed_same n f e [] = refl
  changed_same zero f e (x ∷ xs) = ap (λ y. y ∷ xs) (e x)
  changed_same (suc n) f e (x ∷ xs) = ap (λ ys. x ∷ ys) (changed_same n f e xs)

  changed_twice : (n : ℕ) (f g h : A → A) → ((x : A) → g (f x) ≡ h x) → (xs : List A) → with_changed n g (with_changed n f xs) ≡ with_changed n h xs
  changed_twice n f g h e [] = refl
  changed_twice zero f g h e (x ∷ xs) = ap (λ y. y ∷ xs) (e x)
  changed_twice (suc n) f g h e (x ∷ xs) = ap (λ ys. x ∷ ys) (changed_twice n f g h e xs)

-- a list of rows put in the place of none
pub rows_set : (tables : List Table) (n : ℕ) (rows : List (List Value)) (table : Table) → n < length tables → rows_put n tables ≡ 0 → set tables n (record { rows = rows }) ≡ with_changed n (with_last_rows rows) tables
rows_set [] n rows table lt none = absurd (omega arith)
rows_set (t ∷ ts) zero rows table lt none = ap (λ (r : List (List Value)). let u : Table = record { rows = r ++ rows } in u ∷ ts) (sym (nil_from_length t.rows none))
rows_set (t ∷ ts) (suc n) rows table lt none = ap (λ (l : List Table). t ∷ l) (rows_set ts n rows table (omega arith) none)

pub live_set : (heads : List TableHead) (n : ℕ) (live : List ℕ) (head : TableHead) → n < length heads → head ≡ get_or heads n head → live_of heads n ≡ [] → set heads n (record head { live = live }) ≡ with_changed n (with_live_rows live) heads
live_set [] n live head lt is none = absurd (omega arith)
live_set (h ∷ hs) zero live head lt is none =
    ap (λ (u : TableHead). let v : TableHead = record u { live = live } in v ∷ hs) is ∙ ap (λ (l : List ℕ). let v : TableHead = record h { live = l ++ live } in v ∷ hs) (sym none)
live_set (h ∷ hs) (suc n) live head lt is none = ap (λ (l : List TableHead). h ∷ l) (live_set hs n live head (omega arith) is none)

-- ---- adding all rows appends the list

module _ (n : ℕ) where
  count_more : (tables : List Table) (row : List Value) → n < length tables → rows_put n (with_changed n (with_last_row row) tables) ≡ suc (rows_put n tables)
  count_more tables row lt = at n tables lt
    where
      at : (k : ℕ) (ts : List Table) → k < length ts → rows_put k (with_changed k (with_last_row row) ts) ≡ suc (rows_put k ts)
      at k [] lt = absurd (omega arith)
      at zero (t ∷ ts) lt = omega (arith, longer t.rows)
        where
          longer : (rows : List (List Value)) → length (rows ++ row ∷ []) ≡ suc (length rows)
          longer [] = refl
          longer (r ∷ rs) = ap suc (longer rs)
      at (suc k) (t ∷ ts) lt = at k ts (omega arith)

  tables_all : (rows : List (List Value)) (c : Catalogue) → (with_all_rows n rows c).store.tables ≡ with_changed n (with_last_rows rows) c.store.tables
  tables_all [] c = sym (changed_same n (with_last_rows []) (λ t. ap (λ (r : List (List Value)). let u : Table = record { rows = r } in u) (append-nil t.rows)) c.store.tables)
  tables_all (row ∷ rows) c =
      tables_all rows (with_row n row c)
      ∙ changed_twice n (with_last_row row) (with_last_rows rows) (with_last_rows (row ∷ rows)) (λ t. ap (λ (r : List (List Value)). let u : Table = record { rows = r } in u) (append_assoc t.rows (row ∷ []) rows)) c.store.tables

  heads_all : (rows : List (List Value)) (c : Catalogue) → n < length c.store.tables → (with_all_rows n rows c).heads ≡ with_changed n (with_live_rows (numbers_from (rows_put n c.store.tables) (length rows))) c.heads
  heads_all [] c lt = sym (changed_same n (with_live_rows []) (λ h. ap (λ (l : List ℕ). let u : TableHead = record h { live = l } in u) (append-nil h.live)) c.heads)
  heads_all (row ∷ rows) c lt =
      let first = rows_put n c.store.tables in
      let still : n < length (with_changed n (with_last_row row) c.store.tables) = omega (arith, lt, length_changed n (with_last_row row) c.store.tables) in
      heads_all rows (with_row n row c) still
      ∙ ap (λ k. with_changed n (with_live_rows (numbers_from k (length rows))) (with_changed n (with_live_row first) c.heads)) (count_more c.store.tables row lt)
      ∙ changed_twice n (with_live_row first) (with_live_rows (numbers_from (suc first) (length rows))) (with_live_rows (first ∷ numbers_from (suc first) (length rows)))
      (λ h. ap (λ (l : List ℕ). let u : TableHead = record h { live = l } in u) (append_assoc h.live (first ∷ []) (numbers_from (suc first) (length rows)))) c.heads

  -- the rest of the catalogue stays
  rest_all : (rows : List (List Value)) (c : Catalogue) → ((with_all_rows n rows c).store.consts ≡ c.store.consts) × ((with_all_rows n rows c).indexed ≡ c.indexed) × ((with_all_rows n rows c).index_names ≡ c.index_names)
  rest_all [] c = (refl, refl, refl)
  rest_all (row ∷ rows) c = rest_all rows (with_row n row c)

  -- ---- and the invariant of the indexes stays, since none is on the table

  no_entry : (tables : List Table) (number : ℕ) (is : List TableIndex) → AllByRecursion (λ on. on.0 ≡ n → ⊥) (map (λ (i : TableIndex). i.on) is) → AllZip (IsEntered tables n number) is is
  no_entry tables number [] none = tt
  no_entry tables number (i ∷ is) none = (record { on = refl; name = refl; here = λ e. absurd (none.0 e); elsewhere = λ _. refl }, no_entry tables number is none.1)

  pub kept_all : (is : List TableIndex) (rows : List (List Value)) (c : Catalogue) → AllByRecursion (λ on. on.0 ≡ n → ⊥) c.indexed → n < length c.heads → IsKeptTogether c is → IsKeptTogether (with_all_rows n rows c) is
  kept_all is [] c none lt h = h
  kept_all is (row ∷ rows) c none lt h =
      let entered = no_entry (with_changed n (with_last_row row) c.store.tables) (rows_put n c.store.tables) is (subst (AllByRecursion (λ on. on.0 ≡ n → ⊥)) (sym h.on) none) in
      let k = kept_row c n row is is lt h entered in
      kept_all is rows (with_row n row c) none (omega (arith, lt, length_changed n (with_live_row (rows_put n c.store.tables)) c.heads))
      (record { heads = k.heads; live = k.live; on = k.on; held = k.held; few = k.few })

  pub all_at_once : (rows : List (List Value)) (c d : Catalogue) → n < length c.store.tables → d.store.tables ≡ with_changed n (with_last_rows rows) c.store.tables → d.heads ≡ with_changed n (with_live_rows (numbers_from (rows_put n c.store.tables) (length rows))) c.heads
      → d.store.consts ≡ c.store.consts → d.indexed ≡ c.indexed → d.index_names ≡ c.index_names → d ≡ with_all_rows n rows c
  all_at_once rows c d lt tables heads consts indexed names =
      let all = with_all_rows n rows c in
      let rest = rest_all rows c in
      let a = tables ∙ sym (tables_all rows c) in
      let b = heads ∙ sym (heads_all rows c lt) in
      ap (λ ts. let k : Catalogue = record d { store = record d.store { tables = ts } } in k) a
      ∙ ap (λ cs. let k : Catalogue = record d { store = record { tables = all.store.tables; consts = cs } } in k) (consts ∙ sym rest.0)
      ∙ ap (λ hs. let k : Catalogue = record d { store = all.store; heads = hs } in k) b
      ∙ ap (λ os. let k : Catalogue = record d { store = all.store; heads = all.heads; indexed = os } in k) (indexed ∙ sym rest.1)
      ∙ ap (λ ms. let k : Catalogue = record all { index_names = ms } in k) (names ∙ sym rest.2)

-- one row more
pub all_more : (n : ℕ) (rows : List (List Value)) (row : List Value) (c : Catalogue) → with_all_rows n (rows ++ row ∷ []) c ≡ with_row n row (with_all_rows n rows c)
all_more n [] row c = refl
all_more n (first ∷ rows) row c = all_more n rows row (with_row n first c)
