-- Groups with one more tuple.
use Rattle.std.{specs.Prelude.{◌≡◌, ◌<◌, ◌+◌, ◌^◌, Bool, true, false, ℕ, zero, suc, refl, List, [], ◌∷◌, ◌++◌, Some, None, is_none, Ok, Err, length, get_or}, specs.List.{AllZip}}
use Rattle.std.{proofs.Common.{ap, ap₂, sym, ◌∙◌, subst, inl, inr, arith, take, map}, proofs.lemmas.List.{take_more, map-append}, proofs.lemmas.Slice.Zip.{AllZip-long}}
use Rattle.mob_typed.specs.Selects.{TypedSelectParts}
use Rattle.mob_value.{specs.declared.value.Value.{Value}, specs.declared.value.Value.TheVariants.{Null}, specs.declared.store.Store.{Store}}
use Rattle.mob_meaning.{specs.Scene.{Scene, scene}, specs.Evaluation.{PlacedFormula}}
use Rattle.mob_list.{proofs.Changing.{AreChanged}, proofs.Entries.{zip_more}}
use Rattle.mob_tagg.specs.Rows.{AreValues, IsItem, IsTuple}
use Rattle.mob_tail.{specs.declared.group_memos.GroupMemo.{GroupMemo}, specs.GroupedAnswers.{AnswerColumn, IsArgumentOn, IsAddingTo}, specs.declared.state.State.{State}, specs.Groups.{column_on}}
use Rattle.mob_tail.{specs.GroupSteps.{column_seen, IsColumnWith, IsMemoWith, FailsInMemos, first_of, IsKeptOf, IsStateOf, IsGroupMemoOf}, specs.States.{IsKeptIn}}
use Rattle.mob_operators.{specs.declared.aggregate.AggKind.{AggKind}, specs.declared.aggregate.AggKind.TheVariants.{CountAll}}
use Rattle.mob_meaning.specs.declared.terms.Terms.{Terms}

-- the results for the entries up to one, and for that one
pub map_more : {A B : Type 0} (f : A → B) (xs : List A) (i : ℕ) (x : A) → i < length xs → x ≡ get_or xs i x → map f (take i xs) ++ f x ∷ [] ≡ map f (take (i + 1) xs)
map_more f xs i x lt is = sym (ap (map f) (take_more xs i x lt ∙ ap (λ z. take i xs ++ z ∷ []) (sym is)) ∙ map-append f (take i xs) (x ∷ []))

-- the same in two steps
pub mapped_more : {A B C : Type 0} (f : A → B) (g : B → C) (xs : List A) (i : ℕ) (x : A) → i < length xs → x ≡ get_or xs i x → (made next : List C) (y : C) → made ≡ map g (map f (take i xs)) → y ≡ g (f x) → next ≡ made ++ y ∷ [] → next ≡ map g (map f (take (i + 1) xs))
mapped_more f g xs i x lt is made next y h k e =
    e ∙ ap₂ (λ ys z. ys ++ z ∷ []) h k ∙ sym (map-append g (map f (take i xs)) (f x ∷ [])) ∙ ap (map g) (map_more f xs i x lt is)

pub got_map : {A B : Type 0} (f : A → B) (xs : List A) (i : ℕ) (x : A) (d : B) → i < length xs → x ≡ get_or xs i x → get_or (map f xs) i d ≡ f x
got_map f [] i x d lt is = absurd (omega (arith, lt))
got_map f (y ∷ xs) zero x d lt is = ap f (sym is)
got_map f (y ∷ xs) (suc i) x d lt is = got_map f xs i x d (omega (arith, lt)) is

module _ (select : TypedSelectParts) (store : Store) (terms : Terms) where
  -- a column that is not an aggregate has no argument
  abbrev nulls : List (List ℕ) → List Value
  nulls [] = []
  nulls (t ∷ ts) = Null ∷ nulls ts

  no_arguments : (group : List (List ℕ)) (c : AnswerColumn) → c.1 ≡ None → AreValues (IsArgumentOn select store terms) (IsAddingTo terms.mode) group c (nulls group)
  no_arguments [] (e, None) n = tt
  no_arguments (t ∷ group) (e, None) n = (refl, no_arguments group (e, None) n)
  no_arguments group (e, Some agg) n = absurd cc

  column_ok : (group : List (List ℕ)) (t : List ℕ) (c : AnswerColumn) (before x : State) (first : Bool) → first ≡ is_none (first_of group) → length group + 1 < 2 ^ 62 → IsColumnWith (scene store select.from t terms) c before first (Ok x) → IsStateOf select store terms group c before
      → IsStateOf select store terms (group ++ t ∷ []) c x × IsItem (IsArgumentOn select store terms) (IsAddingTo terms.mode) group t c None
  column_ok [] t (e, None) before x true i few h k = ((column_on (scene store select.from t terms) e, h, refl), (Null, refl, ([], tt, refl)))
  column_ok [] t (e, None) before x false i few h k = absurd cc
  column_ok (u ∷ group) t (e, None) before x true i few h k = absurd cc
  column_ok (u ∷ group) t (e, None) before x false i few h k = ((k.0, h ∙ k.1, k.2), (Null, refl, (nulls (u ∷ group), no_arguments (u ∷ group) (e, None) refl, refl)))
  column_ok group t (e, Some agg) before x first i few h k =
      let vs = k.2.0 in
      let long : length vs ≡ length group = AllZip-long _ group vs k.2.1 in
      let both = h.2 k.0 k.1 vs k.2.2 (omega (arith, few, long)) in
      ((both.0, both.1, (vs ++ h.0 ∷ [], zip_more _ group vs t h.0 k.2.1 h.1, both.2)), (h.0, h.1, (vs, k.2.1, (None, both.3, refl))))

  column_err : (group : List (List ℕ)) (t : List ℕ) (c : AnswerColumn) (before : State) (first : Bool) (f : PlacedFormula) → IsColumnWith (scene store select.from t terms) c before first (Err f) → IsStateOf select store terms group c before → IsItem (IsArgumentOn select store terms) (IsAddingTo terms.mode) group t c (Some f)
  column_err group t (e, None) before first f h k = absurd h
  column_err group t (e, Some agg) before first f (inl h) k = inl h
  column_err group t (e, Some agg) before first f (inr h) k = inr (h.0, h.1, (k.2.0, k.2.1, (Some f.1, h.3 k.0 k.1 k.2.0 k.2.2, ap (λ p. Some (p, f.1)) h.2)))

  pub memos_ok : (group : List (List ℕ)) (t : List ℕ) (columns : List AnswerColumn) (old new : List GroupMemo) (first : Bool) → first ≡ is_none (first_of group) → length group + 1 < 2 ^ 62 → AllZip (IsMemoWith (scene store select.from t terms) first) old new → AllZip (IsGroupMemoOf select store terms group) columns old
      → AllZip (IsGroupMemoOf select store terms (group ++ t ∷ [])) columns new × IsTuple (IsArgumentOn select store terms) (IsAddingTo terms.mode) group t columns None
  memos_ok group t [] [] [] first i few h k = (tt, refl)
  memos_ok group t [] [] (d ∷ new) first i few h k = absurd h
  memos_ok group t [] (c ∷ old) new first i few h k = absurd k
  memos_ok group t (column ∷ columns) [] new first i few h k = absurd k
  memos_ok group t (column ∷ columns) (c ∷ old) [] first i few h k = absurd h
  memos_ok group t (column ∷ columns) (c ∷ old) (d ∷ new) first i few h k =
      let here = column_ok group t column c.state d.state first i few (subst (λ z. IsColumnWith (scene store select.from t terms) z c.state first (Ok d.state)) k.0.0 h.0.state) k.0.1 in
      let rest = memos_ok group t columns old new first i few h.1 k.1 in
      (((h.0.column ∙ k.0.0, here.0), rest.0), inr (here.1, rest.1))

  pub memos_err : (group : List (List ℕ)) (t : List ℕ) (columns : List AnswerColumn) (old : List GroupMemo) (first : Bool) (f : PlacedFormula) → first ≡ is_none (first_of group) → length group + 1 < 2 ^ 62 → FailsInMemos (scene store select.from t terms) first old f → AllZip (IsGroupMemoOf select store terms group) columns old → IsTuple (IsArgumentOn select store terms) (IsAddingTo terms.mode) group t columns (Some f)
  memos_err group t [] [] first f i few h k = absurd h
  memos_err group t [] (c ∷ old) first f i few h k = absurd k
  memos_err group t (column ∷ columns) [] first f i few h k = absurd k
  memos_err group t (column ∷ columns) (c ∷ old) first f i few (inl h) k = inl (f, column_err group t column c.state first f (subst (λ z. IsColumnWith (scene store select.from t terms) z c.state first (Err f)) k.0.0 h) k.0.1, refl)
  memos_err group t (column ∷ columns) (c ∷ old) first f i few (inr h) k =
      inr ((column_ok group t column c.state h.0 first i few (subst (λ z. IsColumnWith (scene store select.from t terms) z c.state first (Ok h.0)) k.0.0 h.1) k.0.1).1, memos_err group t columns old first f i few h.2 k.1)

-- a fault in a memo after memos that have none
pub fails_at : (s : Scene) (first : Bool) (n : ℕ) (old now : List GroupMemo) (c : GroupMemo) (f : PlacedFormula) → n < length now → c ≡ get_or now n c → AreChanged (IsMemoWith s first) n old now → IsColumnWith s (column_seen c.column) c.state first (Err f) → FailsInMemos s first old f
fails_at s first n [] [] c f lt is h k = absurd (omega (arith, lt))
fails_at s first n [] (b ∷ now) c f lt is h k = absurd h
fails_at s first n (a ∷ old) [] c f lt is h k = absurd h
fails_at s first zero (a ∷ old) (b ∷ now) c f lt is h k = inl (subst (λ z. IsColumnWith s (column_seen z.column) z.state first (Err f)) (is ∙ h.0) k)
fails_at s first (suc n) (a ∷ old) (b ∷ now) c f lt is h k = inr (b.state, h.0.state, fails_at s first n old now c f (omega (arith, lt)) is h.1 k)

-- a value of the state, if it is so for each kind
pub kept_value : (c : AnswerColumn) (x : State) (r : Value) → IsKeptOf c x r → (v : Value) → ((kind : AggKind) (r : Value) → IsKeptIn kind x r → v ≡ r) → v ≡ r
kept_value (e, None) x r h v f = f CountAll r (subst (λ z. IsKeptIn CountAll z r) (sym h) refl)
kept_value (e, Some agg) x r h v f = f agg.kind r h
