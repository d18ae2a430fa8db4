-- The walk over statements: what each gives, the literals and rows that it appends, and the place
-- of a mistake.
use Rattle.std.{specs.Prelude.{not, codes, nat_le, slice_get, option_map, option_and_then}, specs.List.{AllByRecursion, IsDistinct, flat_map}, specs.Str.{bytes_eq}}
use Rattle.std.proofs.Common.{◌≡◌, ◌≤◌, ◌<◌, ◌+◌, ◌∙◌, refl, sym, ap, subst, arith, ℕ, List, [], ◌∷◌, ◌++◌, append-nil, length, length-append, map, true, Option, Some, None, Result}
use Rattle.std.{proofs.lemmas.Bool.{leb-false, not-false}, proofs.lemmas.List.{length-map, map-append}, proofs.lemmas.Option.{slice_get_within}}
use Rattle.mob_list.proofs.Each.{each_parts}
use Rattle.mob_ast.{specs.declared.types.Word.{Word}, specs.declared.types.Quoted.{Quoted}, specs.declared.types.TypeWord.{TypeWord}, specs.declared.types.SqlType.{SqlType}}
use Rattle.mob_ast.specs.Trees.{RowParts, StatementParts, empty, create_table, create_index, insert, copy, delete, select, explain}
use Rattle.mob_operators.{specs.Lookup.{same_type}, specs.Table.{is_one_of}}
use Rattle.mob_typed.{specs.declared.typed.ConstText.{ConstText}, specs.Statements.{ColumnList, StatementOut, nothing, new_rows, rows_from, deletion, query, plan_of}, specs.Written.{brackets_of}}
use Rattle.mob_scope.{specs.declared.fault.Mistake.{Mistake}, specs.Names.{column_of, has_entry}}
use Rattle.mob_expression.specs.Words.{type_named}
use Rattle.mob_typing.{specs.Names.{NameLists, table_of}, specs.Statements.{Made, with_column, with_columns, made_table, made_index, inserted, good_delimiter, copied, keeping, typed_statement}}
use Rattle.mob_typing.{specs.Stands.{operators_of}, specs.WellTyped.{IsTypedStatement, tables_behind, table_made, index_made}}
use Rattle.mob_typing.{proofs.Walk.{GivesOrStops, gives, then, also, passes, finds, adds_none, Steps}, proofs.Apart.{name_last, none_named, entry_last}, proofs.Sound.{entry_stands}}
use Rattle.mob_typing.{proofs.WalkedRows.{rows_walked}, proofs.WalkedSelects.{named, table_there, delete_walked, select_walked}}
use Rattle.mob_grammar.{specs.Places.{IsWithin, nothing as none_within, same, tree_places, row_places, statement_places}, specs.Sites.{string_sites, column_sites, row_sites, statement_sites}}
use Rattle.mob_grammar.proofs.Within.{within_back}
use Rattle.mob_ast.specs.declared.types.SqlType.TheVariants as sql
use Rattle.mob_ast.specs.declared.refusal.Kind.TheVariants as kind

-- at most 64 columns, with distinct names
record IsRoom (columns : ColumnList) : Type 0 where
  few : length columns ≤ 64
  apart : IsDistinct bytes_eq (map (λ c. c.0) columns)

no_columns : IsRoom []
unfolding IsDistinct
no_columns = record { few = omega arith; apart = tt }

-- the names of tables
abbrev pub names_of : List (List ℕ × ColumnList) → List (List ℕ)
names_of tables = map (λ t. t.0) tables

-- distinct names followed by these are still distinct
abbrev pub KeepsApart : List (List ℕ) → List (List ℕ) → Type 0
KeepsApart before new = IsDistinct bytes_eq before → IsDistinct bytes_eq (before ++ new)

-- a statement is typed over the tables before it and makes its own; each table and each index has a
-- new name; its operators are at such places, and its rows at places among these
pub record IsMade (At : ℕ → Type 0) (names : NameLists) (ps : List ℕ) (consts : List ConstText) (m : Made) : Type 0 where
  pub typed : IsTypedStatement (named names.tables) consts m.statement
  pub behind : named m.names.tables ≡ tables_behind (named names.tables) m.statement
  pub tables : names_of m.names.tables ≡ names_of names.tables ++ table_made m.statement
  pub indexes : m.names.indexes ≡ names.indexes ++ index_made m.statement
  pub apart : KeepsApart (names_of names.tables) (table_made m.statement) × KeepsApart names.indexes (index_made m.statement)
  pub operators : AllByRecursion At (operators_of m.statement)
  pub rows : IsWithin (brackets_of m.statement) ps

point_alone : (ty : SqlType) → same_type ty sql.TPoint ≡ true → ty ≡ sql.TPoint
point_alone sql.TPoint h = refl
point_alone _ h = absurd (cc)

brackets_within : (rs : List RowParts) → IsWithin (map (λ r. r.place) rs) (flat_map row_places rs)
brackets_within [] = none_within
brackets_within (r ∷ rs) = same (within_back (flat_map tree_places r.values) (brackets_within rs))

module _ (At : ℕ → Type 0) where
  column_walked : (columns : ColumnList) (c : Word × TypeWord) → IsRoom columns → AllByRecursion At (column_sites c) → GivesOrStops At IsRoom (with_column columns c)
  column_walked columns c so_far h =
      then (passes (has_entry columns c.0.text) kind.Duplicate c.0.place h.0) (λ _ new.
      then (passes (nat_le 64 (length columns)) kind.Limit c.0.place h.0) (λ _ room.
      then (finds kind.UnknownName c.1.name.place (type_named c.1.name.text c.1.inner) h.1.0) (λ ty is.
      let small : length columns < 64 = leb-false 64 (length columns) room in
      let long : length (columns ++ (c.0.text, ty) ∷ []) ≡ length columns + 1 = length-append columns ((c.0.text, ty) ∷ []) in
      gives (record { few = omega arith; apart = entry_last columns c.0.text ty so_far.apart new }))))

  columns_walked : (columns : ColumnList) (cs : List (Word × TypeWord)) → IsRoom columns → AllByRecursion At (flat_map column_sites cs) → GivesOrStops At IsRoom (with_columns columns cs)
  columns_walked columns [] so_far h = gives so_far
  columns_walked columns (c ∷ cs) so_far h =
      let parts = each_parts At (column_sites c) (flat_map column_sites cs) h in then (column_walked columns c so_far parts.0) (λ more room. columns_walked more cs room parts.1)

  module _ (names : NameLists) where
    abbrev tables : List ColumnList
    tables = named names.tables

    -- what is made without constants
    abbrev IsMadeAlone : Made → Type 0
    IsMadeAlone m = (consts : List ConstText) → IsMade At names [] consts m

    -- a statement that makes neither a table nor an index
    no_more : (before : List (List ℕ)) → KeepsApart before []
    no_more before h = subst (IsDistinct bytes_eq) (sym (append-nil before)) h

    plain : {ps : List ℕ} {consts : List ConstText} (statement : StatementOut) → IsTypedStatement tables consts statement → tables ≡ tables_behind tables statement → [] ≡ table_made statement → [] ≡ index_made statement
        → AllByRecursion At (operators_of statement) → IsWithin (brackets_of statement) ps → IsMade At names ps consts (record { statement = statement; names = names })
    plain statement typed behind no_table no_index operators rows = record {
      typed = typed;
      behind = behind;
      tables = sym (ap (λ ns. names_of names.tables ++ ns) (sym no_table) ∙ append-nil (names_of names.tables));
      indexes = sym (ap (λ ns. names.indexes ++ ns) (sym no_index) ∙ append-nil names.indexes);
      apart = (subst (KeepsApart (names_of names.tables)) no_table (no_more (names_of names.tables)), subst (KeepsApart names.indexes) no_index (no_more names.indexes));
      operators = operators;
      rows = rows;
    }

    table_walked : (name : Word) (columns : List (Word × TypeWord)) → At name.place → AllByRecursion At (flat_map column_sites columns) → GivesOrStops At IsMadeAlone (made_table names name columns)
    table_walked name columns at h =
        then (passes (has_entry names.tables name.text) kind.Duplicate name.place at) (λ _ new.
        then (passes (nat_le 64 (length names.tables)) kind.Limit name.place at) (λ _ room.
        then (columns_walked [] columns no_columns h) (λ cs own. gives (λ consts. record {
          typed = record { next = sym (length-map names.tables (λ (t : List ℕ × ColumnList). t.1)); few = leb-false 64 (length names.tables) room; narrow = own.few; apart = own.apart };
          behind = map-append (λ (t : List ℕ × ColumnList). t.1) names.tables ((name.text, cs) ∷ []);
          tables = map-append (λ (t : List ℕ × ColumnList). t.0) names.tables ((name.text, cs) ∷ []);
          indexes = sym (append-nil names.indexes);
          apart = (λ h. name_last (names_of names.tables) name.text h (none_named 0 names.tables name.text new), no_more names.indexes);
          operators = tt;
          rows = none_within;
        }))))

    index_walked : (name table column : Word) → At name.place → At table.place → At column.place → GivesOrStops At IsMadeAlone (made_index names name table column)
    index_walked name table column at_name at_table at_column =
        then (finds kind.UnknownName table.place (table_of names.tables table.text) at_table) (λ t there.
        then (passes (is_one_of names.indexes name.text) kind.Duplicate name.place at_name) (λ _ new.
        then (finds kind.UnknownName column.place (column_of t.1 column.text) at_column) (λ c is.
        then (passes (not (same_type c.1 sql.TPoint)) kind.NoSuchOperator column.place at_column) (λ _ point.
        let entry = entry_stands [] t.1 column.text c is in
        gives (λ consts. record {
          typed =
              ap (option_and_then (λ (columns : ColumnList). option_map (λ k. k.1) (slice_get columns c.0))) (table_there names.tables table.text t there) ∙ ap (option_map (λ (k : List ℕ × SqlType). k.1)) entry.1
              ∙ ap (λ ty. Some ty) (entry.2 ∙ point_alone c.1 (not-false (same_type c.1 sql.TPoint) point));
          behind = refl;
          tables = sym (append-nil (names_of names.tables));
          indexes = refl;
          apart = (no_more (names_of names.tables), λ h. name_last names.indexes name.text h new);
          operators = tt;
          rows = none_within;
        })))))

    delimiter_walked : (d : Option Quoted) → AllByRecursion At (string_sites d) → GivesOrStops At (λ _. Unit {0}) (good_delimiter d)
    delimiter_walked None h = gives tt
    delimiter_walked (Some q) h = also (passes (not (bytes_eq q.text (codes ","))) kind.NoSuchOperator q.place h.0) (λ _ comma. tt)

    copy_walked : (table : Word) (file : Quoted) (d : Option Quoted) → At table.place → AllByRecursion At (string_sites d) → GivesOrStops At IsMadeAlone (copied names table file d)
    copy_walked table file d at h =
        then (finds kind.UnknownName table.place (table_of names.tables table.text) at) (λ t there.
        then (delimiter_walked d h) (λ _ good. gives (λ consts. plain (rows_from t.0 file.text) (slice_get_within tables t.0 t.1 (table_there names.tables table.text t there)) refl refl refl tt none_within)))

    insert_walked : (n : ℕ) (table : Word) (rs : List RowParts) (cs : List ConstText) → At table.place → AllByRecursion At (flat_map row_sites rs) → GivesOrStops At (Steps n (flat_map row_places rs) (IsMade At names (flat_map row_places rs)) cs) (inserted n names table rs cs)
    insert_walked n table rs cs at h =
        then (finds kind.UnknownName table.place (table_of names.tables table.text) at) (λ t there.
        then (rows_walked At n t.1 rs cs h) (λ r q. gives (record {
          adds = q.adds;
          sound =
              plain (new_rows t.0 r.0 (map (λ (row : RowParts). row.place) rs))
              (record { columns = t.1; there = table_there names.tables table.text t there; values = q.sound.0; placed = length-map rs (λ (row : RowParts). row.place) ∙ q.sound.1 }) refl refl refl tt (brackets_within rs);
        })))

    made_alone : (n : ℕ) (cs : List ConstText) {r : Result Made Mistake} → GivesOrStops At IsMadeAlone r → GivesOrStops At (Steps n [] (IsMade At names []) cs) (keeping cs r)
    made_alone n cs h = then h (λ m made. gives (record { adds = adds_none; sound = made cs }))

    pub statement_walked : (n : ℕ) (s : StatementParts) (cs : List ConstText) → AllByRecursion At (statement_sites s) → GivesOrStops At (Steps n (statement_places s) (IsMade At names (statement_places s)) cs) (typed_statement n names s cs)
    unfolding typed_statement
    statement_walked n empty cs h = gives (record { adds = adds_none; sound = plain nothing tt refl refl refl tt none_within })
    statement_walked n (create_table name columns) cs h = made_alone n cs (table_walked name columns h.0 h.1)
    statement_walked n (create_index name table column) cs h = made_alone n cs (index_walked name table column h.0 h.1.0 h.1.1.0)
    statement_walked n (insert table rows) cs h = insert_walked n table rows cs h.0 h.1
    statement_walked n (copy table file delimiter) cs h = made_alone n cs (copy_walked table file delimiter h.0 h.1.1)
    statement_walked n (delete table cond) cs h = then (delete_walked At names.tables n table cond cs h) (λ r q. gives (record { adds = q.adds; sound = plain (deletion r.0) q.sound.0 refl refl refl q.sound.1 none_within }))
    statement_walked n (select s) cs h = then (select_walked At names.tables n s cs h) (λ r q. gives (record { adds = q.adds; sound = plain (query r.0) q.sound.0 refl refl refl q.sound.1 none_within }))
    statement_walked n (explain s) cs h = then (select_walked At names.tables n s cs h) (λ r q. gives (record { adds = q.adds; sound = plain (plan_of r.0) q.sound.0 refl refl refl q.sound.1 none_within }))
