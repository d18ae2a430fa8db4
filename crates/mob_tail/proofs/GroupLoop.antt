-- The invariant of the loop that adds tuples to their groups.
use Rattle.std.specs.Prelude.{◌≡◌, ◌⊎◌, Bool, true, false, cond, not, ◌||◌, ℕ, ◌+◌, ◌<◌, refl, List, [], ◌∷◌, ◌++◌, Some, None, is_none, map, length, get_or, set, take, drop, filter, ◌≤◌, ◌^◌}
use Rattle.std.{specs.List.{AllZip, AllByRecursion, list_any, position_or_len}, proofs.Common.{ap, ap₂, sym, ◌∙◌, subst, inl, inr, arith}}
use Rattle.std.{proofs.lemmas.List.{take_more, take-append-drop}, proofs.lemmas.Slice.Zip.{AllZip-long}}
use Rattle.mob_typed.specs.Selects.{TypedSelectParts}
use Rattle.mob_value.{specs.declared.value.Value.{Value}, specs.declared.value.Value.TheVariants.{Null}, specs.declared.store.Store.{Store}}
use Rattle.mob_meaning.{specs.Scene.{Scene, scene}, specs.Evaluation.{PlacedFormula}}
use Rattle.mob_list.proofs.Entries.{drop_read, take_short}
use Rattle.mob_groups.specs.Groups.{first_keys, group_number}
use Rattle.mob_tagg.{specs.Rows.{IsTuple}, proofs.RowSteps.{none_more, fault_at}}
use Rattle.mob_tail.{specs.declared.columns.Column.{Column as ColumnOf}, specs.declared.group_memos.GroupMemo.{GroupMemo}, specs.declared.group_memos.Group.{Group}, specs.declared.state.State.{State}}
use Rattle.mob_tail.specs.Groups.{group_fields, same_texts, same_group, under_fields, has_groups, groups_on}
use Rattle.mob_tail.specs.GroupedAnswers.{AnswerColumn, columns_of, IsArgumentOn, IsAddingTo, IsColumnValue, keys_from, IsGroupRow, IsGroupedFault}
use Rattle.mob_tail.specs.GroupSteps.{column_seen, IsStart, IsStartMemo, IsStartGroup, IsMemoWith, FailsInMemos, first_of, IsKeptOf, IsMemoKept, IsStateOf, IsGroupMemoOf, IsGroupOf, AreGroupsOf}
use Rattle.mob_tail.{specs.GroupSteps.{keys_on, number_on}, proofs.TupleSteps.{memos_ok, memos_err}}
use Rattle.mob_tail.proofs.GroupKeys.{AreApart, firsts_apart, any_first, any_at, texts_equal, With, with_earlier, group_there, group_step, by_keys, no_fields}
use Rattle.mob_arrange.specs.Keyed.{Keyed}
use Rattle.mob_literal.specs.Fields.{field_text}
use Rattle.mob_meaning.specs.declared.terms.Terms.{Terms}

-- what is found in a list is found within it
found_within : {K : Type 0} (p : K → Bool) (ks : List K) → list_any p ks ≡ true → position_or_len p ks < length ks
found_within p [] h = absurd cc
found_within p (k ∷ ks) h = by (p k) h (found_within p ks)
  where
    by : (b : Bool) → (b || list_any p ks) ≡ true → (list_any p ks ≡ true → position_or_len p ks < length ks) → cond (not b) (1 + position_or_len p ks) 0 < length (k ∷ ks)
    by true h f = omega arith
    by false h f = let m = f h in omega (arith, m)

module _ (select : TypedSelectParts) (store : Store) (terms : Terms) where
  -- ---- no tuple

  start_state : (c : AnswerColumn) (x : State) → IsStart c x → IsStateOf select store terms [] c x
  start_state (e, None) x h = (Null, h, refl)
  start_state (e, Some agg) x h = let s = h agg.ty in (s.0, s.1, ([], tt, s.2))

  start_memos : (columns : List ColumnOf) (memos : List GroupMemo) → AllZip IsStartMemo columns memos → AllZip (IsGroupMemoOf select store terms []) (map column_seen columns) memos
  start_memos [] [] h = tt
  start_memos [] (c ∷ memos) h = absurd h
  start_memos (d ∷ columns) [] h = absurd h
  start_memos (d ∷ columns) (c ∷ memos) h = ((h.0.0, start_state (column_seen d) c.state h.0.1), start_memos columns memos h.1)

  pub start_groups : (keys : List (List (List ℕ))) (groups : List Group) (columns : List ColumnOf) → map column_seen columns ≡ columns_of select → AllByRecursion (IsStartGroup columns) groups → length groups ≡ length keys → AreGroupsOf select store terms keys [] groups
  start_groups [] [] columns e h n = tt
  start_groups [] (g ∷ groups) columns e h n = absurd (omega (arith, n))
  start_groups (k ∷ keys) [] columns e h n = absurd (omega (arith, n))
  start_groups (k ∷ keys) (g ∷ groups) columns e h n = (record { first = h.0.first; memos = subst (λ z. AllZip (IsGroupMemoOf select store terms []) z g.memos.items) e (start_memos columns g.memos.items h.0.memos) }, start_groups keys groups columns e h.1 (omega (arith, n)))

  -- ---- one more tuple

  abbrev There : List ℕ → Scene
  There t = scene store select.from t terms

  group_ok : (group : List (List ℕ)) (t : List ℕ) (old new : Group) → length group + 1 < 2 ^ 62 → IsGroupOf select store terms group old → ((ts : List (List ℕ)) → old.first ≡ first_of ts → new.first ≡ first_of (ts ++ t ∷ [])) → AllZip (IsMemoWith (There t) (is_none old.first)) old.memos.items new.memos.items
      → IsGroupOf select store terms (group ++ t ∷ []) new × IsTuple (IsArgumentOn select store terms) (IsAddingTo terms.mode) group t (columns_of select) None
  group_ok group t old new few h first with_ =
      let both = memos_ok select store terms group t (columns_of select) old.memos.items new.memos.items (is_none old.first) (ap is_none h.first) few with_ h.memos in
      (record { first = first group h.first; memos = both.0 }, both.1)

  group_err : (group : List (List ℕ)) (t : List ℕ) (old : Group) (f : PlacedFormula) → length group + 1 < 2 ^ 62 → IsGroupOf select store terms group old → FailsInMemos (There t) (is_none old.first) old.memos.items f → IsTuple (IsArgumentOn select store terms) (IsAddingTo terms.mode) group t (columns_of select) (Some f)
  group_err group t old f few h fails = memos_err select store terms group t (columns_of select) old.memos.items (is_none old.first) f (ap is_none h.first) few fails h.memos

  -- a group has at most as many tuples as there are
  few_with : (k : List (List ℕ)) (ts : List (List ℕ)) → length (With select store terms k ts) ≤ length ts
  few_with k [] = omega arith
  few_with k (t ∷ ts) = by (same_texts k (group_fields select store terms t)) (few_with k ts)
    where
      by : (b : Bool) → length (With select store terms k ts) ≤ length ts
          → length (map {A = List (List ℕ) × List ℕ} (λ e. e.1) (cond b ((group_fields select store terms t, t) ∷ filter (λ e. same_texts k e.0) (under_fields select store terms ts)) (filter (λ e. same_texts k e.0) (under_fields select store terms ts)))) ≤ length (t ∷ ts)
      by true h = omega (arith, h)
      by false h = omega (arith, h)

  few_before : (kept : List (List ℕ)) (i : ℕ) (k : List (List ℕ)) → i < length kept → length kept < 2 ^ 62 → length (With select store terms k (take i kept)) + 1 < 2 ^ 62
  few_before kept i k lt few = let h = few_with k (take i kept) in let m = take_short i kept in omega (arith, lt, few, h, m)

  -- ---- the fields of the groups

  pub keys_apart : (kept : List (List ℕ)) → AreApart same_texts (keys_on select store terms kept)
  keys_apart kept = by (has_groups select)
    where
      by : (b : Bool) → AreApart same_texts (cond b (first_keys same_texts (map (group_fields select store terms) kept)) ([] ∷ []))
      by true = firsts_apart same_texts (map (group_fields select store terms) kept)
      by false = (refl, tt)

  pub key_there : (kept : List (List ℕ)) (i : ℕ) (t : List ℕ) → i < length kept → t ≡ get_or kept i t → list_any (same_texts (group_fields select store terms t)) (keys_on select store terms kept) ≡ true
  key_there kept i t lt is = by (has_groups select) refl
    where
      by : (b : Bool) → has_groups select ≡ b → list_any (same_texts (group_fields select store terms t)) (cond b (first_keys same_texts (map (group_fields select store terms) kept)) ([] ∷ [])) ≡ true
      by true e = any_first same_texts texts_equal (group_fields select store terms t) (map (group_fields select store terms) kept) ∙ any_at same_texts texts_equal (group_fields select store terms) kept i t lt is
      by false e = ap (λ z. same_texts z [] || false) (no_fields select store terms e t)

  -- ---- the loop

  pub record IsGroupedSoFar (kept : List (List ℕ)) (i : ℕ) (all : List Group) : Type 0 where
    pub are : AreGroupsOf select store terms (keys_on select store terms kept) (take i kept) all
    pub fits : IsGroupedFault select store terms (take i kept) None

  -- the group of a tuple is one of the groups
  pub number_within : (kept : List (List ℕ)) (i : ℕ) (t : List ℕ) → i < length kept → t ≡ get_or kept i t → (all : List Group) → IsGroupedSoFar kept i all → number_on select store terms kept t < length all
  number_within kept i t lt is all so_far =
      let there = found_within (same_texts (group_fields select store terms t)) (keys_on select store terms kept) (key_there kept i t lt is) in
      let long = AllZip-long _ (keys_on select store terms kept) all so_far.are in
      omega (arith, there, long)

  module _ (kept : List (List ℕ)) (i : ℕ) (t : List ℕ) (lt : i < length kept) (few : length kept < 2 ^ 62) (is : t ≡ get_or kept i t) (all : List Group) (so_far : IsGroupedSoFar kept i all) (old : Group) (at : old ≡ get_or all (number_on select store terms kept t) old) where
    more : take (i + 1) kept ≡ take i kept ++ t ∷ []
    more = take_more kept i t lt ∙ ap (λ z. take i kept ++ z ∷ []) (sym is)

    pub next_grouped : (new : Group) → ((ts : List (List ℕ)) → old.first ≡ first_of ts → new.first ≡ first_of (ts ++ t ∷ [])) → AllZip (IsMemoWith (There t) (is_none old.first)) old.memos.items new.memos.items → IsGroupedSoFar kept (i + 1) (set all (number_on select store terms kept t) new)
    next_grouped new first with_ =
        let mine = (group_there select store terms (IsGroupOf select store terms) (keys_on select store terms kept) all (take i kept) t old (key_there kept i t lt is) so_far.are at).1 in
        let tuple = (group_ok (With select store terms mine.0 (take i kept)) t old new (few_before kept i mine.0 lt few) mine.2 first with_).1 in
        record {
          are = subst (λ z. AreGroupsOf select store terms (keys_on select store terms kept) z (set all (number_on select store terms kept t) new)) (sym more)
              (group_step select store terms (IsGroupOf select store terms) (keys_on select store terms kept) all (take i kept) t old new (keys_apart kept) (key_there kept i t lt is) so_far.are at (λ k h e. (group_ok (With select store terms k (take i kept)) t old new (few_before kept i k lt few) h first with_).0));
          fits = subst (λ z. IsGroupedFault select store terms z None) (sym more)
              (none_more (IsArgumentOn select store terms) (IsAddingTo terms.mode) (same_group select store terms) (columns_of select) [] (take i kept) t so_far.fits (subst (λ z. IsTuple (IsArgumentOn select store terms) (IsAddingTo terms.mode) z t (columns_of select) None) (with_earlier select store terms mine.0 (take i kept) t mine.1) tuple));
        }

    pub fault_grouped : (f : PlacedFormula) → FailsInMemos (There t) (is_none old.first) old.memos.items f → IsGroupedFault select store terms kept (Some (t, f))
    fault_grouped f fails =
        let mine = (group_there select store terms (IsGroupOf select store terms) (keys_on select store terms kept) all (take i kept) t old (key_there kept i t lt is) so_far.are at).1 in
        let tuple = group_err (With select store terms mine.0 (take i kept)) t old f (few_before kept i mine.0 lt few) mine.2 fails in
        let whole : kept ≡ take i kept ++ t ∷ drop (i + 1) kept = sym (take-append-drop i kept) ∙ ap (λ z. take i kept ++ z) (drop_read kept i t lt is) in
        subst (λ z. IsGroupedFault select store terms z (Some (t, f))) (sym whole)
        (fault_at (IsArgumentOn select store terms) (IsAddingTo terms.mode) (same_group select store terms) (columns_of select) [] (take i kept) t (drop (i + 1) kept) f so_far.fits (subst (λ z. IsTuple (IsArgumentOn select store terms) (IsAddingTo terms.mode) z t (columns_of select) (Some f)) (with_earlier select store terms mine.0 (take i kept) t mine.1) tuple))

  -- the groups of all tuples
  pub grouped_all : (kept : List (List ℕ)) (groups : List Group) → AreGroupsOf select store terms (keys_on select store terms kept) kept groups → AllZip (IsGroupOf select store terms) (groups_on select store terms kept) groups
  grouped_all kept groups h = by (has_groups select) refl h
    where
      every : (ts : List (List ℕ)) → has_groups select ≡ false → With select store terms [] ts ≡ map (λ e. e.1) (under_fields select store terms ts)
      every [] e = refl
      every (t ∷ ts) e =
          ap (λ b. map {A = List (List ℕ) × List ℕ} (λ e. e.1) (cond b ((group_fields select store terms t, t) ∷ filter (λ e. same_texts [] e.0) (under_fields select store terms ts)) (filter (λ e. same_texts [] e.0) (under_fields select store terms ts)))) (ap (same_texts []) (no_fields select store terms e t))
          ∙ ap (λ z. t ∷ z) (every ts e)

      entries : (ts : List (List ℕ)) → map (λ e. e.0) (under_fields select store terms ts) ≡ map (group_fields select store terms) ts
      entries [] = refl
      entries (t ∷ ts) = ap (λ z. group_fields select store terms t ∷ z) (entries ts)

      by : (b : Bool) → has_groups select ≡ b → AreGroupsOf select store terms (cond b (first_keys same_texts (map (group_fields select store terms) kept)) ([] ∷ [])) kept groups
          → AllZip (IsGroupOf select store terms) (cond b (map (λ k. With select store terms k kept) (first_keys same_texts (map (λ e. e.0) (under_fields select store terms kept)))) (map (λ e. e.1) (under_fields select store terms kept) ∷ [])) groups
      by true e h = subst (λ z. AllZip (IsGroupOf select store terms) (map (λ k. With select store terms k kept) (first_keys same_texts z)) groups) (sym (entries kept)) (by_keys select store terms (IsGroupOf select store terms) (first_keys same_texts (map (group_fields select store terms) kept)) groups kept h)
      by false e h = one groups h
        where
          one : (gs : List Group) → AreGroupsOf select store terms ([] ∷ []) kept gs → AllZip (IsGroupOf select store terms) (map (λ e. e.1) (under_fields select store terms kept) ∷ []) gs
          one [] h = h
          one (g ∷ gs) h = (subst (λ z. IsGroupOf select store terms z g) (every kept e) h.0, rest gs h.1)
            where
              rest : (gs : List Group) → AllZip (λ k g. IsGroupOf select store terms (With select store terms k kept) g) [] gs → AllZip (IsGroupOf select store terms) [] gs
              rest [] h = h
              rest (g ∷ gs) h = h

  -- the numbers of the groups of the tuples are those of their fields
  pub numbers_on_kept : (kept : List (List ℕ)) → map (group_number same_texts (map (group_fields select store terms) kept)) (map (group_fields select store terms) kept) ≡ map (number_on select store terms kept) kept
  numbers_on_kept kept = each kept (same_number kept)
    where
      each : (ts : List (List ℕ)) → ((t : List ℕ) → group_number same_texts (map (group_fields select store terms) kept) (group_fields select store terms t) ≡ number_on select store terms kept t) ⊎ (ts ≡ []) → map (group_number same_texts (map (group_fields select store terms) kept)) (map (group_fields select store terms) ts) ≡ map (number_on select store terms kept) ts
      each [] h = refl
      each (t ∷ ts) (inl h) = ap₂ (λ a b. a ∷ b) (h t) (each ts (inl h))
      each (t ∷ ts) (inr h) = absurd cc

      same_number : (kept : List (List ℕ)) → ((t : List ℕ) → group_number same_texts (map (group_fields select store terms) kept) (group_fields select store terms t) ≡ number_on select store terms kept t) ⊎ (kept ≡ [])
      same_number [] = inr refl
      same_number (u ∷ ts) = inl (λ t. by t (has_groups select) refl)
        where
          by : (t : List ℕ) (b : Bool) → has_groups select ≡ b → position_or_len (same_texts (group_fields select store terms t)) (first_keys same_texts (map (group_fields select store terms) (u ∷ ts))) ≡ position_or_len (same_texts (group_fields select store terms t)) (cond b (first_keys same_texts (map (group_fields select store terms) (u ∷ ts))) ([] ∷ []))
          by t true e = refl
          by t false e =
              ap₂ (λ (a b : List (List ℕ)). cond (not (same_texts a b)) (1 + position_or_len (same_texts (group_fields select store terms t)) (filter (λ j. not (same_texts (group_fields select store terms u) j)) (first_keys same_texts (map (group_fields select store terms) ts)))) 0) (no_fields select store terms e t) (no_fields select store terms e u)
              ∙ sym (ap (λ (a : List (List ℕ)). cond (not (same_texts a [])) 1 0) (no_fields select store terms e t))

  -- ---- rows

  -- the values of the states of a group
  memos_made : (group : List (List ℕ)) (columns : List AnswerColumn) (memos : List GroupMemo) → AllZip (IsGroupMemoOf select store terms group) columns memos → (values : List Value) × AllZip IsMemoKept values memos × AllZip (IsColumnValue select store terms group) columns values
  memos_made group [] [] h = ([], tt, tt)
  memos_made group [] (c ∷ memos) h = absurd h
  memos_made group (d ∷ columns) [] h = absurd h
  memos_made group (d ∷ columns) (c ∷ memos) h =
      let rest = memos_made group columns memos h.1 in
      (h.0.1.0 ∷ rest.0, (subst (λ z. IsKeptOf z c.state h.0.1.0) (sym h.0.0) h.0.1.1, rest.1), (h.0.1.2, rest.2))

  pub values_made : (tuples : List (List ℕ)) (g : Group) → IsGroupOf select store terms tuples g → (values : List Value) × AllZip IsMemoKept values g.memos.items × AllZip (IsColumnValue select store terms tuples) (columns_of select) values
  values_made tuples g h = memos_made tuples (columns_of select) g.memos.items h.memos

  pub row_made : (tuples : List (List ℕ)) (values : List Value) (row : Keyed) → AllZip (IsColumnValue select store terms tuples) (columns_of select) values → row.fields ≡ map (field_text terms.epoch) values → row.keys ≡ keys_from select store terms tuples values 0 select.keys → IsGroupRow select store terms tuples row
  row_made tuples values row made fields keys = record { values = values; made = made; fields = fields; keys = keys }
