-- The walk over a SELECT: its tables, its items, its condition, its keys and its limit.
use Rattle.std.{specs.Prelude.{IfSome, not, nat_le, nat_lt, slice_get, slice_range, option_map, option_and_then}, specs.List.{AllByRecursion, AllZip, IsDistinct, flat_map, list_any}}
use Rattle.std.specs.Str.{bytes_eq}
use Rattle.std.proofs.Common.{◌≡◌, ◌==◌, ◌≤◌, ◌<◌, ◌+◌, ◌-◌, ◌^◌, ◌∙◌, ◌⊎◌, inl, inr, ◌||◌, refl, sym, ap, subst, arith, Bool, true, false, cond, ℕ, zero, suc, List, [], ◌∷◌, ◌++◌, append_assoc}
use Rattle.std.{proofs.Common.{append-nil, length, length-append, map, take, drop, Option, Some, None, Result, Ok, Err}, proofs.lemmas.Bool.{leb-false, not-false, or_parts}}
use Rattle.std.{proofs.lemmas.Bool.Decides.{nat_tests}, proofs.lemmas.List.{length-map, length-drop, length-take-le, take-append-drop, nil_from_length}, proofs.lemmas.List.Folds.{drop_split}}
use Rattle.std.proofs.lemmas.Option.{slice_get_within}
use Rattle.mob_ast.{specs.declared.types.Word.{Word}, specs.declared.types.SqlType.{SqlType}, specs.Trees.{Tree, tree, Trees, ItemParts, every, one, count_all, FromParts, KeyParts, SelectParts}}
use Rattle.mob_operators.specs.Aggregates.{is_aggregate, aggregate_row}
use Rattle.mob_typed.{specs.declared.typed.Agg.{Agg}, specs.declared.typed.ConstText.{ConstText}, specs.Named.{names_before}, specs.Trees.{TypedTree, type_of}}
use Rattle.mob_typed.{specs.Selects.{Output, TypedSelectParts, on_of}, specs.Statements.{ColumnList}}
use Rattle.mob_list.proofs.Each.{each_both, each_get, each_map, each_on, each_parts}
use Rattle.mob_list.proofs.Entries.{get_seam}
use Rattle.mob_scope.{specs.declared.scope.Found.{Found}, specs.Answers.{◌>>=◌}, specs.declared.fault.Mistake.{Mistake}, specs.Columns.{column_named}, specs.Names.{has_entry}}
use Rattle.mob_scope.specs.Scopes.{ScopeTableParts, ScopeParts}
use Rattle.mob_expression.specs.Steps.{one_more}
use Rattle.mob_typing.{specs.Names.{table_of}, specs.Selects.{from_name, from_table, from_tables, typed_select}, specs.Stands.{operators_in, aggregate_place, query_operators}}
use Rattle.mob_typing.specs.WellTyped.{column_type, from_type, HasNamedTypes, IsOperated, condition_alone, AreOfSources, column_in, columns_in, IsGroup, IsAggregateOf, IsTypedItem, IsTypedKey}
use Rattle.mob_typing.specs.WellTyped.{IsTypedQuery, IsTypedDeletion}
use Rattle.mob_typing.proofs.Walk.{GivesOrStops, gives, stops, then, also, passes, finds, Adds, adds_none, adds_within, adds_both, Steps, Stays, still, all_stay}
use Rattle.mob_typing.{proofs.Apart.{entry_last}, proofs.Sound.{slice_map, entry_stands, IsSound, both_true, sound_stays}}
use Rattle.mob_typing.proofs.WalkedExpressions.{AreThere, numbers_of, IsPart, IsFound, column_walked, arguments_walked, expression_walked}
use Rattle.mob_clauses.specs.Conditions.{condition, is_bool, tree_place, source_start, seen_by_on, joins_from, typed_joins}
use Rattle.mob_clauses.specs.Outputs.{is_aggregate_call, is_aggregate_item, is_grouped, ColumnNumbers, column_numbers, group_column, grouping, is_column, is_ungrouped, any_ungrouped, columns_of_table}
use Rattle.mob_clauses.specs.Outputs.{all_outputs, OutputLists, Value, counting, lone_operand, aggregate_value, plain_value, item_value, with_output, no_agg, with_every, with_item, with_items}
use Rattle.mob_clauses.specs.Outputs.{no_outputs}
use Rattle.mob_clauses.specs.Keys.{is_key, group_of, typed_group, with_groups, alias_number, value_type, output_at, aliased, key_item, key_value, typed_key, typed_keys, limit_value, limit_of}
use Rattle.mob_clauses.{specs.Clauses.{ConditionParts, typed_conditions, ArrangementParts, typed_arrangement, scope_tables, select_made, typed_clauses, rows_to_go}, proofs.Limits.{limit_small}}
use Rattle.mob_grammar.specs.Places.{tree_places, trees_places, item_places, from_places, condition_places, key_places, select_places}
use Rattle.mob_grammar.{specs.Sites.{word_sites, tree_sites, trees_sites, item_sites, from_sites, condition_sites, key_sites, select_sites}, proofs.Within.{within_all, within_back}}
use Rattle.mob_ast.specs.declared.refusal.Kind.TheVariants as kind
use Rattle.mob_ast.specs.declared.expression.Node.TheVariants as node

-- the tables of FROM
abbrev pub named : List (List ℕ × ColumnList) → List ColumnList
named tables = map (λ t. t.1) tables

-- the tables of FROM exist, are at most four and have distinct names
abbrev pub names_of : List (List ℕ × ScopeTableParts) → List (List ℕ)
names_of from = map (λ t. t.0) from

pub record IsScope (tables : List ColumnList) (from : List (List ℕ × ScopeTableParts)) : Type 0 where
  pub there : AreThere tables from
  pub few : length from ≤ 4
  pub apart : IsDistinct bytes_eq (names_of from)

pub table_there : (tables : List (List ℕ × ColumnList)) (name : List ℕ) (t : ℕ × ColumnList) → table_of tables name ≡ Some t → slice_get (named tables) t.0 ≡ Some t.1
table_there tables name t is =
    let entry = entry_stands [] tables name t is in slice_map (λ (x : List ℕ × ColumnList). x.1) tables t.0 entry.0 entry.1 ∙ ap (λ columns. Some columns) entry.2

-- lists of equal length, element by element
zip_both : {A B : Type 0} (R : A → B → Type 0) (xs : List A) (ys : List B) (us : List A) (vs : List B) → AllZip R xs ys → AllZip R us vs → AllZip R (xs ++ us) (ys ++ vs)
zip_both R [] [] us vs h k = k
zip_both R [] (y ∷ ys) us vs h k = absurd h
zip_both R (x ∷ xs) [] us vs h k = absurd h
zip_both R (x ∷ xs) (y ∷ ys) us vs h k = (h.0, zip_both R xs ys us vs h.1 k)

pub zip_on : {A B : Type 0} (R S : A → B → Type 0) → ((x : A) (y : B) → R x y → S x y) → (xs : List A) (ys : List B) → AllZip R xs ys → AllZip S xs ys
zip_on R S f [] [] h = tt
zip_on R S f [] (y ∷ ys) h = absurd h
zip_on R S f (x ∷ xs) [] h = absurd h
zip_on R S f (x ∷ xs) (y ∷ ys) h = (f x y h.0, zip_on R S f xs ys h.1)

zip_get : {A B : Type 0} (R : A → B → Type 0) (xs : List A) (ys : List B) (k : ℕ) (x : A) (y : B) → AllZip R xs ys → slice_get xs k ≡ Some x → slice_get ys k ≡ Some y → R x y
zip_get R [] ys k x y h at other = absurd (cc)
zip_get R (a ∷ xs) [] k x y h at other = absurd h
zip_get R (a ∷ xs) (b ∷ ys) zero x y h at other = let own : a ≡ x = cc in let same : b ≡ y = cc in subst (R x) same (subst (λ z. R z b) own h.0)
zip_get R (a ∷ xs) (b ∷ ys) (suc k) x y h at other = zip_get R xs ys k x y h.1 at other

flat_both : {A B : Type 0} (f : A → List B) (xs ys : List A) → flat_map f (xs ++ ys) ≡ flat_map f xs ++ flat_map f ys
flat_both f [] ys = refl
flat_both f (x ∷ xs) ys = ap (λ zs. f x ++ zs) (flat_both f xs ys) ∙ sym (append_assoc (f x) (flat_map f xs) (flat_map f ys))

either_true : (a b : Bool) → (a ≡ true) ⊎ (b ≡ true) → (a || b) ≡ true
either_true true b h = refl
either_true false b (inl h) = absurd (cc)
either_true false b (inr h) = h

one_longer : {A B : Type 0} (xs : List A) (ys : List B) (x : A) (y : B) → length xs ≡ length ys → length (x ∷ xs) ≡ length (y ∷ ys)
one_longer xs ys x y h = omega (arith, h)

any_grouped : (x : SelectParts) → list_any is_aggregate_item x.items ≡ true → is_grouped x ≡ true
any_grouped x own = either_true (not (length x.groups == 0)) (list_any is_aggregate_item x.items) (inr own)

ons_of : (At : ℕ → Type 0) (fs : List FromParts) → AllByRecursion At (flat_map from_sites fs) → AllByRecursion At (flat_map (λ f. condition_sites f.on) fs)
ons_of At [] h = tt
ons_of At (f ∷ fs) h =
    let parts = each_parts At (from_sites f) (flat_map from_sites fs) h in
    each_both At (condition_sites f.on) (flat_map (λ e. condition_sites e.on) fs) (each_parts At (word_sites f.alias) (condition_sites f.on) parts.0.1).1 (ons_of At fs parts.1)

-- a query is typed, and its operators and aggregates are at such places
abbrev pub IsStandingQuery : (ℕ → Type 0) → List ColumnList → List ConstText → TypedSelectParts → Type 0
IsStandingQuery At tables cs q = IsTypedQuery tables cs q × AllByRecursion At (query_operators q)

module _ (At : ℕ → Type 0) (tables : List (List ℕ × ColumnList)) where
  pub name_walked : (from : List (List ℕ × ScopeTableParts)) (table : Word) (alias : Option Word) → AllByRecursion At (table.place ∷ word_sites alias) → GivesOrStops At (λ name. (length from < 4) × (has_entry from name ≡ false)) (from_name from table alias)
  name_walked from table None h =
      then (passes (has_entry from table.text) kind.Duplicate table.place h.0) (λ _ new. then (passes (nat_le 4 (length from)) kind.Limit table.place h.0) (λ _ room. gives (leb-false 4 (length from) room, new)))
  name_walked from table (Some a) h =
      then (passes (nat_le 4 (length from)) kind.Limit table.place h.0) (λ _ room. then (passes (has_entry from a.text) kind.Duplicate a.place h.1.0) (λ _ new. gives (leb-false 4 (length from) room, new)))

  -- one more table
  abbrev IsOneMore : List (List ℕ × ScopeTableParts) → List (List ℕ × ScopeTableParts) → Type 0
  IsOneMore from more = IsScope (named tables) more × (length more ≡ length from + 1)

  table_walked : (from : List (List ℕ × ScopeTableParts)) (table : Word) (alias : Option Word) → IsScope (named tables) from → AllByRecursion At (table.place ∷ word_sites alias) → GivesOrStops At (IsOneMore from) (from_table tables from table alias)
  table_walked from table alias scope h =
      then (finds kind.UnknownName table.place (table_of tables table.text) h.0) (λ t is.
      then (name_walked from table alias h) (λ name own.
      let x : ScopeTableParts = record { table = t.0; columns = t.1 } in
      let room = own.0 in
      let long : length (from ++ (name, x) ∷ []) ≡ length from + 1 = length-append from ((name, x) ∷ []) in
      gives (
        record {
          there = each_both (λ (y : List ℕ × ScopeTableParts). slice_get (named tables) y.1.table ≡ Some y.1.columns) from ((name, x) ∷ []) scope.there (table_there tables table.text t is, tt);
          few = omega arith;
          apart = entry_last from name x scope.apart own.1;
        },
        long,
      )))

  -- FROM has as many tables as entries
  abbrev pub AreTables : List (List ℕ × ScopeTableParts) → List FromParts → List (List ℕ × ScopeTableParts) → Type 0
  AreTables from fs more = IsScope (named tables) more × (length more ≡ length from + length fs)

  pub tables_walked : (from : List (List ℕ × ScopeTableParts)) (fs : List FromParts) → IsScope (named tables) from → AllByRecursion At (flat_map from_sites fs) → GivesOrStops At (AreTables from fs) (from_tables tables from fs)
  tables_walked from [] scope h = gives (scope, omega arith)
  tables_walked from (f ∷ fs) scope h =
      let parts = each_parts At (from_sites f) (flat_map from_sites fs) h in
      let own = each_parts At (word_sites f.alias) (condition_sites f.on) parts.0.1 in
      then (table_walked from f.table f.alias scope (parts.0.0, own.0)) (λ more larger. also (tables_walked more fs larger.0 parts.1) (λ all is. let a = is.1 in let b = larger.1 in (is.0, omega (arith, a, b))))

-- the place of an expression is a site of its tree
own_place : (At : ℕ → Type 0) (t : Tree) → AllByRecursion At (tree_sites t) → At (tree_place t)
own_place At (tree nd p args) h = h.0

-- conditions over a part of FROM
module _ (At : ℕ → Type 0) (tables : List ColumnList) (all : List (List ℕ × ScopeTableParts)) (there : AreThere tables all) (s : ScopeParts) (part : IsPart all s) where
  abbrev Sees : List ConstText → TypedTree → Type 0
  Sees cs t = IsSound At tables (numbers_of all) s.first (s.first + length s.from) cs t

  -- a condition, if there is one, is a bool
  abbrev IsCondition : List ConstText → Option TypedTree → Type 0
  IsCondition cs c = (t : TypedTree) × (c ≡ Some t) × (Sees cs t) × (is_bool (type_of t) ≡ true)

  pub some_condition_walked : (t : Tree) (cs : List ConstText) → AllByRecursion At (tree_sites t) → GivesOrStops At (Steps s.statement (tree_places t) IsCondition cs) (condition s (Some t) cs)
  some_condition_walked t cs h =
      then (expression_walked At tables all there s part t cs h) (λ r q.
      then (passes (not (is_bool (type_of r.0))) kind.NoSuchOperator (tree_place t) (own_place At t h)) (λ _ is. gives (record { adds = q.adds; sound = (r.0, refl, q.sound, not-false (is_bool (type_of r.0)) is) })))

-- the part of FROM that the ON of table n sees
module _ (s : ScopeParts) (k n : ℕ) (start : k ≤ n) (within : n < length s.from) where
  range_long : k + length (slice_range s.from k (n + 1)) ≡ n + 1
  range_long =
      let dropped : length (drop k s.from) ≡ length s.from - k = length-drop k s.from in
      let taken : length (take (n + 1 - k) (drop k s.from)) ≡ n + 1 - k = length-take-le (n + 1 - k) (drop k s.from) (omega (arith, start, within, dropped)) in
      omega (arith, start, taken)

  part_of_on : IsPart s.from (seen_by_on s k n)
  part_of_on = record {
    before = take k s.from;
    behind = drop (n + 1) s.from;
    parts = ap (λ ys. take k s.from ++ ys) (sym (drop_split s.from k (n + 1) (omega (arith, start)))) ∙ take-append-drop k s.from;
    number = length-take-le k s.from (omega (arith, start, within));
  }

-- all of FROM
whole_part : (s : ScopeParts) → s.first ≡ 0 → IsPart s.from s
whole_part s begins = record { before = []; behind = []; parts = append-nil s.from; number = sym begins }

module _ (At : ℕ → Type 0) (tables : List ColumnList) (s : ScopeParts) (begins : s.first ≡ 0) (there : AreThere tables s.from) where
  abbrev n : ℕ
  n = s.statement

  abbrev past : ℕ
  past = s.first + length s.from

  abbrev Holds : List ConstText → TypedTree → Type 0
  Holds cs t = IsSound At tables (numbers_of s.from) s.first past cs t

  stay : Stays Holds
  stay = sound_stays At tables (numbers_of s.from) s.first past

  whole : IsPart s.from s
  whole = whole_part s begins

  -- each ON, from that of table n on; the source of the table before it begins at table k
  abbrev SeesOwn : ℕ → ℕ → List ConstText → TypedTree → Type 0
  SeesOwn k m cs t = IsSound At tables (numbers_of s.from) k (m + 1) cs t × (is_bool (type_of t) ≡ true)

  abbrev JoinsHold : ℕ → ℕ → List ConstText → List (Option TypedTree) → Type 0
  JoinsHold k m cs [] = Unit {0}
  JoinsHold k m cs (None ∷ js) = JoinsHold m (m + 1) cs js
  JoinsHold k m cs (Some t ∷ js) = SeesOwn k m cs t × JoinsHold k (m + 1) cs js

  joins_stay : (k m : ℕ) → Stays (JoinsHold k m)
  joins_stay k m [] cs more h = tt
  joins_stay k m (None ∷ js) cs more h = joins_stay m (m + 1) js cs more h
  joins_stay k m (Some t ∷ js) cs more h = ((sound_stays At tables (numbers_of s.from) k (m + 1) t cs more h.0.0, h.0.1), joins_stay k (m + 1) js cs more h.1)

  abbrev AreJoins : ℕ → ℕ → List FromParts → List ConstText → List (Option TypedTree) → Type 0
  AreJoins k m fs cs js = JoinsHold k m cs js × (length js ≡ length fs)

  abbrev ons_sites : List FromParts → List ℕ
  ons_sites fs = flat_map (λ f. condition_sites f.on) fs

  joins_walked : (k m : ℕ) (fs : List FromParts) (cs : List ConstText) → k ≤ m → m + length fs ≡ length s.from → AllByRecursion At (ons_sites fs) → GivesOrStops At (Steps n (flat_map from_places fs) (AreJoins k m fs) cs) (joins_from s k m fs cs)
  joins_walked k m [] cs start all h = gives (record { adds = adds_none; sound = (tt, refl) })
  joins_walked k m (f ∷ fs) cs start all h =
      let sites = each_parts At (condition_sites f.on) (ons_sites fs) h in
      by f.on sites.0 (λ j ds first. joins_walked j (m + 1) fs ds first (omega (arith, all)) sites.1)
    where
      by : (on : Option Tree) → AllByRecursion At (condition_sites on)
          → ((j : ℕ) (ds : List ConstText) → j ≤ m + 1 → GivesOrStops At (Steps n (flat_map from_places fs) (AreJoins j (m + 1) fs) ds) (joins_from s j (m + 1) fs ds))
          → GivesOrStops At (Steps n (condition_places on ++ flat_map from_places fs) (AreJoins k m (f ∷ fs)) cs) (one_more (condition (seen_by_on s (source_start k m on) m) on) (joins_from s (source_start k m on) (m + 1) fs) cs)
      by None sites rest = then (rest m cs (omega arith)) (λ r b. gives (record { adds = b.adds; sound = (b.sound.0, one_longer r.0 fs None f b.sound.1) }))
      by (Some t) sites rest =
          let within : m < length s.from = omega (arith, all) in
          then (some_condition_walked At tables s.from there (seen_by_on s k m) (part_of_on s k m start within) t cs sites) (λ c a.
          then (rest k c.1 (omega (arith, start))) (λ r b.
          let x = a.sound.0 in
          let own : SeesOwn k m c.1 x = (subst (λ past. IsSound At tables (numbers_of s.from) k past c.1 x) (range_long s k m start within) a.sound.2, a.sound.3) in
          gives (record { adds = adds_both a.adds b.adds; sound = (subst (λ j. JoinsHold k m r.1 (j ∷ r.0)) (sym a.sound.1) (still (λ ds y. SeesOwn k m ds y) (λ y ds more g. (sound_stays At tables (numbers_of s.from) k (m + 1) y ds more g.0, g.1)) x b.adds own, b.sound.0), one_longer r.0 fs c.0 f b.sound.1) })))

  -- columns of the answer
  abbrev OutputHolds : List ConstText → Output → Type 0
  OutputHolds cs o = Holds cs o.0

  output_stays : Stays OutputHolds
  output_stays o cs more h = stay o.0 cs more h

  -- the columns that `*` gives
  columns_hold : (cs : List ConstText) (f : ℕ) (t : List ℕ × ScopeTableParts) (p : ℕ) (before columns : ColumnList) → At p → slice_get s.from f ≡ Some t → before ++ columns ≡ t.1.columns → AllByRecursion (OutputHolds cs) (columns_of_table f (length before) columns p)
  columns_hold cs f t p before [] own at parts = tt
  columns_hold cs f t p before (c ∷ columns) own at parts = (
    record { named = (typed_so, tt); operated = (refl, tt); placed = (own, tt); above = both_true (nat_le s.first f) true low refl; below = both_true (nat_lt f past) true high refl },
    subst (λ k. AllByRecursion (OutputHolds cs) (columns_of_table f k columns p)) (length-append before (c ∷ [])) (columns_hold cs f t p (before ++ c ∷ []) columns own at (append_assoc before (c ∷ []) columns ∙ parts)),
  )
    where
      within : f < length s.from
      within = slice_get_within s.from f t at

      low : nat_le s.first f ≡ true
      low = grind (arith, nat_tests, begins)

      high : nat_lt f past ≡ true
      high = grind (arith, nat_tests, within)

      typed_so : from_type tables (numbers_of s.from) f (length before) ≡ Some c.1
      typed_so = ap (option_and_then (λ j. column_type tables j (length before))) (slice_map (λ (x : List ℕ × ScopeTableParts). x.1.table) s.from f t at)
          ∙ ap (option_and_then (λ (columns : ColumnList). option_map (λ k. k.1) (slice_get columns (length before)))) (each_get (λ (x : List ℕ × ScopeTableParts). slice_get tables x.1.table ≡ Some x.1.columns) s.from f t there at)
          ∙ ap (λ (columns : ColumnList). option_map (λ k. k.1) (slice_get columns (length before))) (sym parts) ∙ ap (option_map (λ (k : List ℕ × SqlType). k.1)) (get_seam before c columns)

  all_hold : (cs : List ConstText) (p : ℕ) (before more : List (List ℕ × ScopeTableParts)) → At p → before ++ more ≡ s.from → AllByRecursion (OutputHolds cs) (all_outputs (length before) more p)
  all_hold cs p before [] own parts = tt
  all_hold cs p before (t ∷ more) own parts =
      each_both (OutputHolds cs) (columns_of_table (length before) 0 t.1.columns p) (all_outputs (length before + 1) more p)
      (columns_hold cs (length before) t p [] t.1.columns own (ap (λ xs. slice_get xs (length before)) (sym parts) ∙ get_seam before t more) refl)
      (subst (λ k. AllByRecursion (OutputHolds cs) (all_outputs k more p)) (length-append before (t ∷ [])) (all_hold cs p (before ++ t ∷ []) more own (append_assoc before (t ∷ []) more ∙ parts)))

  -- the columns of a SELECT, which may be grouped
  module _ (grouped : Bool) (gs : List Tree) where
    abbrev g : Option (List ColumnNumbers)
    g = grouping grouped s gs

    -- in a grouped SELECT an expression without an aggregate is a column of GROUP BY; an aggregate
    -- is in a grouped SELECT and at such a place
    abbrev IsValue : TypedTree → Option Agg → Type 0
    IsValue t None = is_ungrouped g t ≡ false
    IsValue t (Some a) = (grouped ≡ true) × (IsAggregateOf t a × At a.place)

    abbrev IsItem : Output → Option Agg → Type 0
    IsItem o a = IsValue o.0 a

    abbrev OutputsHold : List ConstText → OutputLists → Type 0
    OutputsHold cs o = AllByRecursion (OutputHolds cs) o.columns × AllZip IsItem o.columns o.aggs

    aggregates_placed : (os : List Output) (aggs : List (Option Agg)) → AllZip IsItem os aggs → AllByRecursion At (flat_map aggregate_place aggs)
    aggregates_placed [] [] h = tt
    aggregates_placed [] (a ∷ aggs) h = absurd h
    aggregates_placed (o ∷ os) [] h = absurd h
    aggregates_placed (o ∷ os) (None ∷ aggs) h = aggregates_placed os aggs h.1
    aggregates_placed (o ∷ os) (Some a ∷ aggs) h = (h.0.1.1, aggregates_placed os aggs h.1)

    outputs_stay : Stays OutputsHold
    outputs_stay o cs more h = (all_stay OutputHolds output_stays o.columns cs more h.0, h.1)

    none_ungrouped : (os : List Output) → any_ungrouped g os ≡ false → AllZip IsItem os (map no_agg os)
    none_ungrouped [] h = tt
    none_ungrouped (o ∷ os) h = let parts = or_parts (is_ungrouped g o.0) (any_ungrouped g os) h in (parts.0, none_ungrouped os parts.1)

    every_walked : (o : OutputLists) (p : ℕ) → At p → GivesOrStops At (λ r. (cs : List ConstText) → OutputsHold cs o → OutputsHold cs r) (with_every s g o p)
    every_walked o p at =
        then (passes (length s.from == 0) kind.UnknownName p at) (λ _ some.
        then (passes (any_ungrouped g (all_outputs 0 s.from p)) kind.NoSuchOperator p at) (λ _ own. gives (λ cs so_far. (
          each_both (OutputHolds cs) o.columns (all_outputs 0 s.from p) so_far.0 (all_hold cs p [] s.from at refl),
          zip_both IsItem o.columns o.aggs (all_outputs 0 s.from p) (map no_agg (all_outputs 0 s.from p)) so_far.1 (none_ungrouped (all_outputs 0 s.from p) own),
        ))))

    abbrev ValueHolds : List ConstText → Value → Type 0
    ValueHolds cs v = Holds cs v.0 × IsValue v.0 v.1

    lone_holds : (cs : List ConstText) (ts : List TypedTree) (t : TypedTree) → AllByRecursion (Holds cs) ts → lone_operand ts ≡ Some t → Holds cs t
    lone_holds cs [] t h is = absurd (cc)
    lone_holds cs (x ∷ []) t h is = let same : x ≡ t = cc in subst (Holds cs) same h.0
    lone_holds cs (x ∷ y ∷ ts) t h is = absurd (cc)

    aggregate_walked : (f : List ℕ) (p : ℕ) (args : Trees) (cs : List ConstText) → grouped ≡ true → At p → AllByRecursion At (trees_sites args) → GivesOrStops At (Steps n (trees_places args) ValueHolds cs) (aggregate_value s f p args cs)
    aggregate_walked f p args cs so at h =
        then (arguments_walked At tables s.from there s whole args cs h) (λ r q.
        then {Q = ValueHolds r.1} (then (finds kind.NoSuchOperator p (lone_operand r.0) at) (λ t is.
        then (finds kind.NoSuchOperator p (aggregate_row f (type_of t)) at) (λ a row. gives (lone_holds r.1 r.0 t q.sound is, (so, (inr (f, row), at))))))
        (λ v sound. gives (record { adds = q.adds; sound = sound })))

    plain_walked : (t : Tree) (cs : List ConstText) → AllByRecursion At (tree_sites t) → GivesOrStops At (Steps n (tree_places t) ValueHolds cs) (plain_value s g t cs)
    plain_walked t cs h =
        then (expression_walked At tables s.from there s whole t cs h) (λ r q.
        then (passes (is_ungrouped g r.0) kind.NoSuchOperator (tree_place t) (own_place At t h)) (λ _ own. gives (record { adds = q.adds; sound = (q.sound, own) })))

    value_walked : (t : Tree) (cs : List ConstText) → (is_aggregate_call t ≡ true → grouped ≡ true) → AllByRecursion At (tree_sites t) → GivesOrStops At (Steps n (tree_places t) ValueHolds cs) (item_value s g t cs)
    value_walked (tree (node.Call f) p args) cs agg h = by (is_aggregate f) refl
      where
        by : (b : Bool) → is_aggregate f ≡ b → GivesOrStops At (Steps n (trees_places args) ValueHolds cs) (cond b (aggregate_value s f p args cs) (plain_value s g (tree (node.Call f) p args) cs))
        by true is = aggregate_walked f p args cs (agg is) h.0 h.1
        by false is = plain_walked (tree (node.Call f) p args) cs h
    value_walked (tree nd p args) cs agg h = plain_walked (tree nd p args) cs h

    output_more : (cs : List ConstText) (o : OutputLists) (v : Value) (name : List ℕ) (a : Option Word) → OutputsHold cs o → ValueHolds cs v → OutputsHold cs (with_output o v name a)
    output_more cs o v name a so_far own = (each_both (OutputHolds cs) o.columns ((v.0, name) ∷ []) so_far.0 (own.0, tt), zip_both IsItem o.columns o.aggs ((v.0, name) ∷ []) (v.1 ∷ []) so_far.1 (own.1, tt))

    item_walked : (o : OutputLists) (i : ItemParts) (cs : List ConstText) → OutputsHold cs o → (is_aggregate_item i ≡ true → grouped ≡ true) → AllByRecursion At (item_sites i) → GivesOrStops At (Steps n (item_places i) OutputsHold cs) (with_item s g o i cs)
    item_walked o (every p) cs so_far agg h = then (every_walked o p h.0) (λ r more. gives (record { adds = adds_none; sound = more cs so_far }))
    item_walked o (one t a) cs so_far agg h =
        then (value_walked t cs agg (each_parts At (tree_sites t) (word_sites a) h).0) (λ r q.
        gives (record { adds = q.adds; sound = output_more r.1 o r.0 _ a (still OutputsHold outputs_stay o q.adds so_far) q.sound }))
    item_walked o (count_all p a) cs so_far agg h =
        gives (record { adds = adds_none; sound = output_more cs o (counting p) _ a so_far (record { named = (tt, tt); operated = ((refl, refl), tt); placed = (h.0, tt); above = refl; below = refl }, (agg refl, (inl (refl, refl), h.0))) })

    items_walked : (o : OutputLists) (is : List ItemParts) (cs : List ConstText) → OutputsHold cs o → (list_any is_aggregate_item is ≡ true → grouped ≡ true) → AllByRecursion At (flat_map item_sites is) → GivesOrStops At (Steps n (flat_map item_places is) OutputsHold cs) (with_items s g o is cs)
    items_walked o [] cs so_far agg h = gives (record { adds = adds_none; sound = so_far })
    items_walked o (i ∷ is) cs so_far agg h =
        let parts = each_parts At (item_sites i) (flat_map item_sites is) h in
        then (item_walked o i cs so_far (λ own. agg (either_true (is_aggregate_item i) (list_any is_aggregate_item is) (inl own))) parts.0) (λ r a.
        also (items_walked r.0 is r.1 a.sound (λ own. agg (either_true (is_aggregate_item i) (list_any is_aggregate_item is) (inr own))) parts.1) (λ q b. record { adds = adds_both a.adds b.adds; sound = b.sound }))

    -- the columns of GROUP BY
    abbrev GroupHolds : TypedTree → Type 0
    GroupHolds t = ((cs : List ConstText) → Holds cs t) × IsGroup t

    abbrev GroupsHold : List TypedTree → List Tree → List TypedTree → Type 0
    GroupsHold done ts all = AllByRecursion GroupHolds all × ((columns_in all ≡ columns_in done ++ flat_map (group_column s) ts) × (length all ≡ length done + length ts))

    columns_more : (done : List TypedTree) (x : TypedTree) (t : Tree) (ts : List Tree) → columns_in (x ∷ []) ≡ group_column s t → columns_in (done ++ x ∷ []) ++ flat_map (group_column s) ts ≡ columns_in done ++ (group_column s t ++ flat_map (group_column s) ts)
    columns_more done x t ts is =
        ap (λ ys. ys ++ flat_map (group_column s) ts) (flat_both column_in done (x ∷ []) ∙ ap (λ ys. columns_in done ++ ys) is) ∙ append_assoc (columns_in done) (group_column s t) (flat_map (group_column s) ts)

    group_walked : (t : Tree) → AllByRecursion At (tree_sites t) → GivesOrStops At (λ r. GroupHolds r × (columns_in (r ∷ []) ≡ group_column s t)) (typed_group s t)
    group_walked (tree (node.Column t c) p args) h = by (column_named s t c) refl (column_walked At tables s.from there s whole t c (each_parts At (c.place ∷ word_sites t) (trees_sites args) h.1).0)
      where
        by : (r : Result Found Mistake) → column_named s t c ≡ r → GivesOrStops At (IsFound At tables s.from there s whole) r → GivesOrStops At (λ x. GroupHolds x × (columns_in (x ∷ []) ≡ column_numbers (column_named s t c))) (r >>= group_of p)
        by (Err w) is (stops at) = stops at
        by (Ok f) is (gives found) =
            then (passes (not (is_key f.ty)) kind.NoSuchOperator p h.0) (λ _ key. gives (
              (λ cs. record { named = (found.0, tt); operated = (refl, tt); placed = (h.0, tt); above = both_true (nat_le s.first f.from) true found.1.0 refl; below = both_true (nat_lt f.from past) true found.1.1 refl }, (refl, not-false (is_key f.ty) key)),
              sym (ap column_numbers is),
            ))
    group_walked (tree nd p args) h = stops h.0

    groups_walked : (done : List TypedTree) (ts : List Tree) → AllByRecursion GroupHolds done → AllByRecursion At (flat_map tree_sites ts) → GivesOrStops At (GroupsHold done ts) (with_groups s done ts)
    groups_walked done [] so_far h = gives (so_far, (sym (append-nil (columns_in done)), omega arith))
    groups_walked done (t ∷ ts) so_far h =
        let parts = each_parts At (tree_sites t) (flat_map tree_sites ts) h in
        then (group_walked t parts.0) (λ x own.
        also (groups_walked (done ++ x ∷ []) ts (each_both GroupHolds done (x ∷ []) so_far (own.0, tt)) parts.1) (λ all is. (is.0, (is.1.0 ∙ columns_more done x t ts own.1, let a = is.1.1 in let b = length-append done (x ∷ []) in omega (arith, a, b)))))

    -- a key that means a column of the answer has the expression of that column, and the type of
    -- the column's value has an order; any other key is judged by itself
    abbrev IsJudged : OutputLists → TypedTree × Bool → Option ℕ → Type 0
    IsJudged o k None = (is_key (type_of k.0) ≡ true) × (is_ungrouped g k.0 ≡ false)
    IsJudged o k (Some i) = (x : Output) × (a : Option Agg) × (slice_get o.columns i ≡ Some x) × (slice_get o.aggs i ≡ Some a) × (k.0 ≡ x.0) × (is_key (value_type x.0 a) ≡ true)

    abbrev KeyHolds : List ConstText → TypedTree × Bool → Type 0
    KeyHolds cs k = Holds cs k.0 × (grouped ≡ false → is_key (type_of k.0) ≡ true)

    key_stays : Stays KeyHolds
    key_stays k cs more h = (stay k.0 cs more h.0, h.1)

    abbrev IsAlias : OutputLists → ℕ × (TypedTree × SqlType) → Type 0
    IsAlias o x = (y : Output) × (a : Option Agg) × (slice_get o.columns x.0 ≡ Some y) × (slice_get o.aggs x.0 ≡ Some a) × (x.1.0 ≡ y.0) × (x.1.1 ≡ value_type y.0 a)

    output_stands : (o : OutputLists) (k : ℕ) (x : ℕ × (TypedTree × SqlType)) → output_at o k ≡ Some x → IsAlias o x
    output_stands o k x is = by_column (slice_get o.columns k) refl (slice_get o.aggs k) refl is
      where
        by_column : (y : Option Output) → slice_get o.columns k ≡ y → (a : Option (Option Agg)) → slice_get o.aggs k ≡ a
            → option_and_then (λ t. option_map (λ b. (k, (t, value_type t b))) a) (option_map (λ z. z.0) y) ≡ Some x → IsAlias o x
        by_column None column a agg at = absurd (cc)
        by_column (Some y) column None agg at = absurd (cc)
        by_column (Some y) column (Some a) agg at = let same : ◌≡◌ {A = ℕ × (TypedTree × SqlType)} (k, (y.0, value_type y.0 a)) x = cc in subst (IsAlias o) same (y, a, column, agg, refl, refl)

    alias_stands : (o : OutputLists) (t : Tree) (x : ℕ × (TypedTree × SqlType)) → aliased o t ≡ Some x → IsAlias o x
    alias_stands o t x is = by (alias_number o t) refl is
      where
        by : (k : Option ℕ) → alias_number o t ≡ k → option_and_then (output_at o) k ≡ Some x → IsAlias o x
        by None at h = absurd (cc)
        by (Some k) at h = output_stands o k x h

    -- in a SELECT that is not grouped the value of a column is its expression
    own_type : (y : Output) (a : Option Agg) → IsItem y a → is_key (value_type y.0 a) ≡ true → grouped ≡ false → is_key (type_of y.0) ≡ true
    own_type y None item key plain = key
    own_type y (Some a) item key plain = let so = item.0 in absurd (cc)

    key_walked : (o : OutputLists) (k : KeyParts) (cs : List ConstText) → OutputsHold cs o → AllByRecursion At (key_sites k)
        → GivesOrStops At (Steps n (key_places k) (λ ds r. KeyHolds ds r × IsJudged o r (key_item o k)) cs) (typed_key s g o k cs)
    key_walked o k cs so_far h = by (aliased o k.value) refl
      where
        place : At (tree_place k.value)
        place = own_place At k.value h

        by : (a : Option (ℕ × (TypedTree × SqlType))) → aliased o k.value ≡ a
            → GivesOrStops At (Steps n (key_places k) (λ ds r. KeyHolds ds r × IsJudged o r (option_map (λ x. x.0) a)) cs) (key_value s g k.value a cs >>= λ r. Ok ((r.0, k.descending), r.1))
        by None is =
            then {Q = Steps n (key_places k) (λ ds t. Holds ds t × ((is_key (type_of t) ≡ true) × (is_ungrouped g t ≡ false))) cs}
            (then (expression_walked At tables s.from there s whole k.value cs h) (λ r q.
            then (passes (not (is_key (type_of r.0))) kind.NoSuchOperator (tree_place k.value) place) (λ _ key.
            then (passes (is_ungrouped g r.0) kind.NoSuchOperator (tree_place k.value) place) (λ _ own. gives (record { adds = q.adds; sound = (q.sound, (not-false (is_key (type_of r.0)) key, own)) })))))
            (λ r q. gives (record { adds = q.adds; sound = ((q.sound.0, λ _. q.sound.1.0), q.sound.1) }))
        by (Some x) is =
            then {Q = λ r. (r ≡ (x.1.0, cs)) × (is_key x.1.1 ≡ true)} (then (passes (not (is_key x.1.1)) kind.NoSuchOperator (tree_place k.value) place) (λ _ key. gives (refl, not-false (is_key x.1.1) key)))
            (λ r q.
            let alias = alias_stands o k.value x is in
            let y = alias.0 in
            let a = alias.1 in
            let key : is_key (value_type y.0 a) ≡ true = ap is_key (sym alias.5) ∙ q.1 in
            let holds : Holds cs x.1.0 = subst (Holds cs) (sym alias.4) (each_get (OutputHolds cs) o.columns x.0 y so_far.0 alias.2) in
            let judged : KeyHolds cs (x.1.0, k.descending) × IsJudged o (x.1.0, k.descending) (Some x.0) =
            ((holds, λ plain. ap (λ t. is_key (type_of t)) alias.4 ∙ own_type y a (zip_get IsItem o.columns o.aggs x.0 y a so_far.1 alias.2 alias.3) key plain), (y, a, alias.2, alias.3, alias.4, key)) in
            gives (subst (λ z. Steps n (key_places k) (λ ds w. KeyHolds ds w × IsJudged o w (Some x.0)) cs ((z.0, k.descending), z.1)) (sym q.0) (record { adds = adds_none; sound = judged })))

    abbrev KeysHold : OutputLists → List KeyParts → List ConstText → List (TypedTree × Bool) → Type 0
    KeysHold o ks cs rs = AllByRecursion (KeyHolds cs) rs × AllZip (IsJudged o) rs (map (key_item o) ks)

    keys_walked : (o : OutputLists) (ks : List KeyParts) (cs : List ConstText) → OutputsHold cs o → AllByRecursion At (flat_map key_sites ks) → GivesOrStops At (Steps n (flat_map key_places ks) (KeysHold o ks) cs) (typed_keys s g o ks cs)
    keys_walked o [] cs so_far h = gives (record { adds = adds_none; sound = (tt, tt) })
    keys_walked o (k ∷ ks) cs so_far h =
        let parts = each_parts At (key_sites k) (flat_map key_sites ks) h in
        then (key_walked o k cs so_far parts.0) (λ x a.
        then (keys_walked o ks x.1 (still OutputsHold outputs_stay o a.adds so_far) parts.1) (λ xs b.
        gives (record { adds = adds_both a.adds b.adds; sound = ((still KeyHolds key_stays x.0 b.adds a.sound.0, b.sound.0), (a.sound.1, b.sound.1)) })))

  -- a property of each ON
  joins_named : (k m : ℕ) (js : List (Option TypedTree)) (cs : List ConstText) → JoinsHold k m cs js → (p : ℕ) → IfSome (on_of js p) (λ t. names_before (m + p + 1) t ≡ true)
  joins_named k m [] cs h p = tt
  joins_named k m (None ∷ js) cs h zero = tt
  joins_named k m (Some t ∷ js) cs h zero = let e : m + 1 ≡ m + 0 + 1 = omega arith in subst (λ q. names_before q t ≡ true) e h.0.0.below
  joins_named k m (None ∷ js) cs h (suc p) = let e : m + 1 + p + 1 ≡ m + suc p + 1 = omega arith in subst (λ q. IfSome (on_of js p) (λ t. names_before q t ≡ true)) e (joins_named m (m + 1) js cs h p)
  joins_named k m (Some t ∷ js) cs h (suc p) = let e : m + 1 + p + 1 ≡ m + suc p + 1 = omega arith in subst (λ q. IfSome (on_of js p) (λ t. names_before q t ≡ true)) e (joins_named k (m + 1) js cs h.1 p)

  joins_sourced : (k m : ℕ) (js : List (Option TypedTree)) (cs : List ConstText) → JoinsHold k m cs js → AreOfSources k m js
  joins_sourced k m [] cs h = tt
  joins_sourced k m (None ∷ js) cs h = joins_sourced m (m + 1) js cs h
  joins_sourced k m (Some t ∷ js) cs h = (h.0.0.above, joins_sourced k (m + 1) js cs h.1)

  joins_typed : (k m : ℕ) (js : List (Option TypedTree)) (cs : List ConstText) → JoinsHold k m cs js → AllByRecursion (λ on. IfSome on (λ t. HasNamedTypes tables (numbers_of s.from) cs t × (is_bool (type_of t) ≡ true))) js
  joins_typed k m [] cs h = tt
  joins_typed k m (None ∷ js) cs h = (tt, joins_typed m (m + 1) js cs h)
  joins_typed k m (Some t ∷ js) cs h = ((h.0.0.named, h.0.1), joins_typed k (m + 1) js cs h.1)

  -- the operators of an expression have their rows and are at such places
  abbrev Stands : List ConstText → TypedTree → Type 0
  Stands cs t = IsOperated cs t × AllByRecursion At (operators_in t)

  joins_stand : (k m : ℕ) (js : List (Option TypedTree)) (cs : List ConstText) → JoinsHold k m cs js → AllByRecursion (Stands cs) (flat_map condition_alone js)
  joins_stand k m [] cs h = tt
  joins_stand k m (None ∷ js) cs h = joins_stand m (m + 1) js cs h
  joins_stand k m (Some t ∷ js) cs h = ((h.0.0.operated, h.0.0.placed), joins_stand k (m + 1) js cs h.1)

  abbrev AreAllJoins : List FromParts → List ConstText → List (Option TypedTree) → Type 0
  AreAllJoins fs cs js = JoinsHold 0 0 cs js × ((length js ≡ length fs) × (on_of js 0 ≡ None))

  all_joins_walked : (fs : List FromParts) (cs : List ConstText) → length fs ≡ length s.from → AllByRecursion At (ons_sites fs) → GivesOrStops At (Steps n (flat_map from_places fs) (AreAllJoins fs) cs) (typed_joins s fs cs)
  all_joins_walked [] cs all h = gives (record { adds = adds_none; sound = (tt, (refl, refl)) })
  all_joins_walked (f ∷ fs) cs all h =
      then (joins_walked 0 1 fs cs (omega arith) (omega (arith, all)) (each_parts At (condition_sites f.on) (ons_sites fs) h).1) (λ r b.
      gives (record { adds = adds_within (within_back (from_places f) (within_all (flat_map from_places fs))) b.adds; sound = (b.sound.0, (one_longer r.0 fs None f b.sound.1, refl)) }))

  all_joins_stay : (fs : List FromParts) → Stays (AreAllJoins fs)
  all_joins_stay fs js cs more h = (joins_stay 0 0 js cs more h.0, h.1)

  -- the condition of WHERE
  abbrev ConditionHolds : List ConstText → Option TypedTree → Type 0
  ConditionHolds cs c = IfSome c (λ t. Holds cs t × (is_bool (type_of t) ≡ true))

  condition_stays : Stays ConditionHolds
  condition_stays None cs more h = tt
  condition_stays (Some t) cs more h = (stay t cs more h.0, h.1)

  condition_walked : (c : Option Tree) (cs : List ConstText) → AllByRecursion At (condition_sites c) → GivesOrStops At (Steps n (condition_places c) ConditionHolds cs) (condition s c cs)
  condition_walked None cs h = gives (record { adds = adds_none; sound = tt })
  condition_walked (Some t) cs h = also (some_condition_walked At tables s.from there s whole t cs h) (λ c a. record { adds = a.adds; sound = subst (ConditionHolds c.1) (sym a.sound.1) (a.sound.2, a.sound.3) })

  condition_named : (cs : List ConstText) (c : Option TypedTree) → ConditionHolds cs c → IfSome c (λ t. HasNamedTypes tables (numbers_of s.from) cs t × (is_bool (type_of t) ≡ true))
  condition_named cs None h = tt
  condition_named cs (Some t) h = (h.0.named, h.1)

  condition_stands : (cs : List ConstText) (c : Option TypedTree) → ConditionHolds cs c → AllByRecursion (Stands cs) (condition_alone c)
  condition_stands cs None h = tt
  condition_stands cs (Some t) h = ((h.0.operated, h.0.placed), tt)

  limit_walked : (w : Option Word) → AllByRecursion At (word_sites w) → GivesOrStops At (λ l. IfSome l (λ n. n < 10 ^ 18)) (limit_of w)
  limit_walked None h = gives tt
  limit_walked (Some w) h = then (finds kind.BadCount w.place (limit_value w.text) h.0) (λ l is. gives (limit_small w.text l is))

  numbers_there : (from : List (List ℕ × ScopeTableParts)) → AreThere tables from → AllByRecursion (λ t. t < length tables) (numbers_of from)
  numbers_there [] h = tt
  numbers_there (t ∷ from) h = (slice_get_within tables t.1.table t.1.columns h.0, numbers_there from h.1)

  all_placed_so : (cs : List ConstText) (ts : List TypedTree) → AllByRecursion (Stands cs) ts → AllByRecursion At (flat_map operators_in ts)
  all_placed_so cs [] h = tt
  all_placed_so cs (t ∷ ts) h = each_both At (operators_in t) (flat_map operators_in ts) h.0.1 (all_placed_so cs ts h.1)

  module _ (x : SelectParts) where
    abbrev grouped : Bool
    grouped = is_grouped x

    abbrev made : OutputLists → List (Option TypedTree) → Option TypedTree → List TypedTree → List (TypedTree × Bool) → Option ℕ → TypedSelectParts
    made o js c gr ks l = select_made (scope_tables s) x grouped o (record { joins = js; cond = c }) (record { groups = gr; keys = ks; key_items = map (key_item o) x.keys; limit = l })

    -- an expression that is not outside the groups is one of them
    of_groups : (b : Bool) (columns : List ColumnNumbers) (t : TypedTree) → is_ungrouped (cond b (Some columns) None) t ≡ false → b ≡ true → is_column columns t ≡ true
    of_groups true columns t h so = not-false (is_column columns t) h
    of_groups false columns t h so = absurd (cc)

    query_typed : (cs : List ConstText) (o : OutputLists) (js : List (Option TypedTree)) (c : Option TypedTree) (gr : List TypedTree) (ks : List (TypedTree × Bool)) (l : Option ℕ) → length s.from ≤ 4 → IsDistinct bytes_eq (names_of s.from) → length x.from ≡ length s.from
        → OutputsHold grouped x.groups cs o → AreAllJoins x.from cs js → ConditionHolds cs c → GroupsHold grouped x.groups [] x.groups gr → KeysHold grouped x.groups o x.keys cs ks → IfSome l (λ n. n < 10 ^ 18)
        → IsStandingQuery At tables cs (made o js c gr ks l)
    query_typed cs o js c gr ks l few apart as_many items joins filtered groups keys limited = (
      record {
        there = numbers_there s.from there;
        few = subst (λ k. k ≤ 4) (sym long) few;
        called = length-map s.from (λ (t : List ℕ × ScopeTableParts). t.0) ∙ sym long;
        apart = apart;
        operated = each_on (Stands cs) (IsOperated cs) (λ t h. h.0) expressions all;
        limited = limited;
        items = each_on (OutputHolds cs) (λ y. HasNamedTypes tables (numbers_of s.from) cs y.0) (λ y h. h.named) o.columns items.0;
        condition = condition_named cs c filtered;
        joins = record { each = joins.1.0 ∙ as_many ∙ sym long; first = joins.1.1; typed = joins_typed 0 0 js cs joins.0; named = λ p. let e : 0 + p + 1 ≡ p + 1 = omega arith in subst (λ q. IfSome (on_of js p) (λ t. names_before q t ≡ true)) e (joins_named 0 0 js cs joins.0 p); sourced = joins_sourced 0 0 js cs joins.0 };
        groups = each_on (GroupHolds grouped x.groups) (λ t. HasNamedTypes tables (numbers_of s.from) cs t × IsGroup t) (λ t h. ((h.0 cs).named, h.1)) gr groups.0;
        ungrouped = none_grouped;
        aggs = zip_on (IsItem grouped x.groups) (IsTypedItem grouped gr) item_typed o.columns o.aggs items.1;
        keys = each_on (KeyHolds grouped x.groups cs) (λ k. HasNamedTypes tables (numbers_of s.from) cs k.0 × (grouped ≡ false → is_key (type_of k.0) ≡ true)) (λ k h. (h.0.named, h.1)) ks keys.0;
        judged = zip_on (IsJudged grouped x.groups o) (IsTypedKey (made o js c gr ks l)) key_typed ks (map (key_item o) x.keys) keys.1;
      },
      each_both At (flat_map operators_in expressions) (flat_map aggregate_place o.aggs) (all_placed_so cs expressions all) (aggregates_placed grouped x.groups o.columns o.aggs items.1),
    )
      where
        long : length (numbers_of s.from) ≡ length s.from
        long = length-map s.from (λ (t : List ℕ × ScopeTableParts). t.1.table)

        same_columns : columns_in gr ≡ flat_map (group_column s) x.groups
        same_columns = groups.1.0

        item_typed : (y : Output) (a : Option Agg) → IsItem grouped x.groups y a → IsTypedItem grouped gr y a
        item_typed y None h = λ so. ap (λ columns. is_column columns y.0) same_columns ∙ of_groups grouped (flat_map (group_column s) x.groups) y.0 h so
        item_typed y (Some a) h = (h.0, h.1.0)

        key_typed : (k : TypedTree × Bool) (i : Option ℕ) → IsJudged grouped x.groups o k i → IsTypedKey (made o js c gr ks l) k i
        key_typed k None h = (h.0, λ so. ap (λ columns. is_column columns k.0) same_columns ∙ of_groups grouped (flat_map (group_column s) x.groups) k.0 h.1 so)
        key_typed k (Some i) h = h

        none_grouped : grouped ≡ false → gr ≡ []
        none_grouped plain =
            let empty : not (length x.groups == 0) ≡ false = (or_parts (not (length x.groups == 0)) (list_any is_aggregate_item x.items) plain).0 in
            let none : length x.groups ≡ 0 = grind (arith, nat_tests, empty) in
            let long = groups.1.1 in nil_from_length gr (omega (arith, long, none))

        expressions : List TypedTree
        expressions = map (λ (y : Output). y.0) o.columns ++ (flat_map condition_alone js ++ (condition_alone c ++ (gr ++ map (λ (k : TypedTree × Bool). k.0) ks)))

        all : AllByRecursion (Stands cs) expressions
        all =
            each_both (Stands cs) (map (λ (y : Output). y.0) o.columns) _ (each_map (OutputHolds cs) (Stands cs) (λ (y : Output). y.0) (λ y h. (h.operated, h.placed)) o.columns items.0)
            (each_both (Stands cs) (flat_map condition_alone js) _ (joins_stand 0 0 js cs joins.0)
            (each_both (Stands cs) (condition_alone c) _ (condition_stands cs c filtered)
            (each_both (Stands cs) gr _ (each_on (GroupHolds grouped x.groups) (Stands cs) (λ t h. ((h.0 cs).operated, (h.0 cs).placed)) gr groups.0)
            (each_map (KeyHolds grouped x.groups cs) (Stands cs) (λ (k : TypedTree × Bool). k.0) (λ k h. (h.0.operated, h.0.placed)) ks keys.0))))

    abbrev AreConditions : List ConstText → ConditionParts → Type 0
    AreConditions cs w = AreAllJoins x.from cs w.joins × ConditionHolds cs w.cond

    conditions_walked : (cs : List ConstText) → length x.from ≡ length s.from → AllByRecursion At (ons_sites x.from) → AllByRecursion At (condition_sites x.cond) → GivesOrStops At (Steps n (flat_map from_places x.from ++ condition_places x.cond) AreConditions cs) (typed_conditions s x cs)
    conditions_walked cs as_many ons cond =
        then (all_joins_walked x.from cs as_many ons) (λ j b.
        then (condition_walked x.cond j.1 cond) (λ c d. gives (record { adds = adds_both b.adds d.adds; sound = (still (AreAllJoins x.from) (all_joins_stay x.from) j.0 d.adds b.sound, d.sound) })))

    abbrev IsArrangement : OutputLists → List ConstText → ArrangementParts → Type 0
    IsArrangement o cs r = GroupsHold grouped x.groups [] x.groups r.groups × (KeysHold grouped x.groups o x.keys cs r.keys × ((r.key_items ≡ map (key_item o) x.keys) × IfSome r.limit (λ n. n < 10 ^ 18)))

    arrangement_walked : (o : OutputLists) (cs : List ConstText) → OutputsHold grouped x.groups cs o → AllByRecursion At (flat_map tree_sites x.groups) → AllByRecursion At (flat_map key_sites x.keys) → AllByRecursion At (word_sites x.limit)
        → GivesOrStops At (Steps n (flat_map key_places x.keys) (IsArrangement o) cs) (typed_arrangement s (grouping grouped s x.groups) o x cs)
    arrangement_walked o cs so_far groups keys limit =
        then (groups_walked grouped x.groups [] x.groups tt groups) (λ gr own.
        then (keys_walked grouped x.groups o x.keys cs so_far keys) (λ k d.
        then (limit_walked x.limit limit) (λ l limited. gives (record { adds = d.adds; sound = (own, (d.sound, (refl, limited))) }))))

    conditions_stay : Stays AreConditions
    conditions_stay w cs more h = (all_joins_stay x.from w.joins cs more h.0, condition_stays w.cond cs more h.1)

    clauses_walked : (cs : List ConstText) → length s.from ≤ 4 → IsDistinct bytes_eq (names_of s.from) → length x.from ≡ length s.from → AllByRecursion At (select_sites x) → GivesOrStops At (Steps n (select_places x) (IsStandingQuery At tables) cs) (typed_clauses s x cs)
    clauses_walked cs few apart as_many h =
        let items = each_parts At (flat_map item_sites x.items) (flat_map from_sites x.from ++ (condition_sites x.cond ++ (flat_map tree_sites x.groups ++ (flat_map key_sites x.keys ++ word_sites x.limit)))) h in
        let from = each_parts At (flat_map from_sites x.from) (condition_sites x.cond ++ (flat_map tree_sites x.groups ++ (flat_map key_sites x.keys ++ word_sites x.limit))) items.1 in
        let cond = each_parts At (condition_sites x.cond) (flat_map tree_sites x.groups ++ (flat_map key_sites x.keys ++ word_sites x.limit)) from.1 in
        let groups = each_parts At (flat_map tree_sites x.groups) (flat_map key_sites x.keys ++ word_sites x.limit) cond.1 in
        let keys = each_parts At (flat_map key_sites x.keys) (word_sites x.limit) groups.1 in
        then (items_walked grouped x.groups no_outputs x.items cs (tt, tt) (λ own. any_grouped x own) items.0) (λ o a.
        then (conditions_walked o.1 as_many (ons_of At x.from from.0) cond.0) (λ w e.
        then (arrangement_walked o.0 w.1 (still (OutputsHold grouped x.groups) (outputs_stay grouped x.groups) o.0 e.adds a.sound) groups.0 keys.0 keys.1) (λ r f.
        let later = still AreConditions conditions_stay w.0 f.adds e.sound in
        gives (record {
          adds = subst (λ ps. Adds n ps cs r.1) (ap (λ ps. flat_map item_places x.items ++ ps) (append_assoc (flat_map from_places x.from) (condition_places x.cond) (flat_map key_places x.keys))) (adds_both a.adds (adds_both e.adds f.adds));
          sound =
              subst (λ is. IsStandingQuery At tables r.1 (select_made (scope_tables s) x grouped o.0 w.0 (record { groups = r.0.groups; keys = r.0.keys; key_items = is; limit = r.0.limit }))) (sym f.sound.1.1.0)
              (query_typed r.1 o.0 w.0.joins w.0.cond r.0.groups r.0.keys r.0.limit few apart as_many (still (OutputsHold grouped x.groups) (outputs_stay grouped x.groups) o.0 (adds_both e.adds f.adds) a.sound) later.0 later.1 f.sound.0 f.sound.1.0 f.sound.1.1.1);
        }))))

-- DELETE and SELECT
no_tables : (tables : List ColumnList) → IsScope tables []
unfolding IsDistinct
no_tables tables = record { there = tt; few = omega arith; apart = tt }

pub select_walked : (At : ℕ → Type 0) (tables : List (List ℕ × ColumnList)) (n : ℕ) (x : SelectParts) (cs : List ConstText) → AllByRecursion At (select_sites x)
    → GivesOrStops At (Steps n (select_places x) (IsStandingQuery At (named tables)) cs) (typed_select tables n x cs)
select_walked At tables n x cs h =
    let items = each_parts At (flat_map item_sites x.items) (flat_map from_sites x.from ++ (condition_sites x.cond ++ (flat_map tree_sites x.groups ++ (flat_map key_sites x.keys ++ word_sites x.limit)))) h in
    let from = each_parts At (flat_map from_sites x.from) (condition_sites x.cond ++ (flat_map tree_sites x.groups ++ (flat_map key_sites x.keys ++ word_sites x.limit))) items.1 in
    then {P = Steps n (select_places x) (IsStandingQuery At (named tables)) cs} (tables_walked At tables [] x.from (no_tables (named tables)) from.0)
    (λ f are. let long = are.1 in clauses_walked At (named tables) (record { from = f; first = 0; statement = n }) refl are.0.there x cs are.0.few are.0.apart (omega (arith, long)) h)

-- a DELETE has one table and no columns of an answer
with_fact : {A : Type 0} {At : ℕ → Type 0} {P Q : A → Type 0} {r : Result A Mistake} → GivesOrStops At P r → ((x : A) → r ≡ Ok x → Q x) → GivesOrStops At (λ x. P x × Q x) r
with_fact (gives {x} p) k = gives (p, k x refl)
with_fact (stops at) k = stops at

abbrev condition_of_one : Option TypedTree × List ConstText → Result (ConditionParts × List ConstText) Mistake
condition_of_one d = Ok (record { joins = None ∷ []; cond = d.0 }, d.1)

abbrev made_of_one : ScopeParts → SelectParts → ConditionParts × List ConstText → Result (TypedSelectParts × List ConstText) Mistake
made_of_one scope row d = typed_arrangement scope None no_outputs row d.1 >>= λ o. Ok (select_made (scope_tables scope) row false no_outputs d.0 o.0, o.1)

same_made : {A : Type 0} (x y : A) → ◌≡◌ {A = Result A Mistake} (Ok x) (Ok y) → x ≡ y
same_made x y h = cc

clauses_bare : (scope : ScopeParts) (table : Word) (c : Option Tree) (cs : List ConstText) (q : TypedSelectParts × List ConstText) → typed_clauses scope (rows_to_go table c) cs ≡ Ok q → (q.0.items ≡ []) × (q.0.from ≡ numbers_of scope.from)
clauses_bare scope table c cs q is = by (condition scope c cs) refl is
  where
    row : SelectParts
    row = rows_to_go table c

    by : (r : Result (Option TypedTree × List ConstText) Mistake) → condition scope c cs ≡ r → (r >>= condition_of_one >>= made_of_one scope row) ≡ Ok q → (q.0.items ≡ []) × (q.0.from ≡ numbers_of scope.from)
    by (Err w) at so = absurd (cc)
    by (Ok d) at so =
        let nothing_else : ArrangementParts = record { groups = []; keys = []; key_items = []; limit = None } in
        let same = same_made (select_made (scope_tables scope) row false no_outputs (record { joins = None ∷ []; cond = d.0 }) nothing_else, d.1) q so in
        (ap (λ z. z.0.items) (sym same), ap (λ z. z.0.from) (sym same))

pub delete_walked : (At : ℕ → Type 0) (tables : List (List ℕ × ColumnList)) (n : ℕ) (table : Word) (c : Option Tree) (cs : List ConstText) → AllByRecursion At (table.place ∷ condition_sites c)
    → GivesOrStops At (Steps n (condition_places c) (λ ds q. IsTypedDeletion (named tables) ds q × AllByRecursion At (query_operators q)) cs) (typed_select tables n (rows_to_go table c) cs)
delete_walked At tables n table c cs h =
    let own : AllByRecursion At (condition_sites c ++ []) = each_both At (condition_sites c) [] h.1 tt in
    then {P = Steps n (condition_places c) (λ ds q. IsTypedDeletion (named tables) ds q × AllByRecursion At (query_operators q)) cs}
    (tables_walked At tables [] (record { table = table; alias = None; on = None } ∷ []) (no_tables (named tables)) (h.0, tt))
    (λ f are.
    let scope : ScopeParts = record { from = f; first = 0; statement = n } in
    let long = are.1 in
    also (with_fact (clauses_walked At (named tables) scope refl are.0.there (rows_to_go table c) cs are.0.few are.0.apart (omega (arith, long)) (h.0, own)) (λ q is. clauses_bare scope table c cs q is)) (λ q so. record {
      adds = subst (λ ps. Adds n ps cs q.1) (append-nil (condition_places c)) so.0.adds;
      sound = (record { query = so.0.sound.0; one = ap (λ ts. length ts) so.1.1 ∙ length-map f (λ (t : List ℕ × ScopeTableParts). t.1.table) ∙ are.1; bare = so.1.0 }, so.0.sound.1);
    }))
