-- The written file is read again as the table that it was written for.
use Rattle.std.{specs.Prelude.{◌≡◌, ◌≤◌, ◌∷◌, [], ℕ, ℤ, List, Ok, codes, drop, length, map, suc, true, refl}, specs.List.{AllZip, AllByRecursion, zip}}
use Rattle.std.proofs.Common.{ap, sym, ◌∙◌, subst, inl, inr, true≢false}
use Rattle.mob_list.proofs.Each.{each_map}
use Rattle.csv.specs.Reading.{AreRecords, default_config, strip_bom}
use Rattle.mob_ast.{specs.declared.types.SqlType.{SqlType}, specs.declared.types.SqlType.TheVariants.{Int, TPoint}}
use Rattle.mob_value.{specs.declared.value.Value.{Value}, specs.declared.value.Value.TheVariants.{Null}}
use Rattle.mob_literal.{specs.Fields.{field_text, is_null_field}, proofs.FieldsAgain.{field_again}}
use Rattle.mob_catalog.{specs.Fields.{FieldSays}, specs.TableFile.{IsRow, IsTable, file_limit}}
use Rattle.mob_records.{specs.ReadAgain.{HasFields}, proofs.ReadAgain.{reads_again}}
use Rattle.mob_thin_run.{specs.TableAgain.{ReadsTableAgain}, specs.ThinRows.{HasText, IsThinValue, table_text}, proofs.ThinReadable.{IsReadableField, IsTripRow, rows_readable}}
use Rattle.mob_trips.specs.Reading.{trip_columns}
use Rattle.csv.specs.declared.parser.State.TheVariants as st

-- NULL is read as NULL again in these columns
int_null : (day : ℤ) → is_null_field Int (field_text day Null) ≡ true
int_null day = refl

trip_null : (day : ℤ) → is_null_field TPoint (field_text day Null) ≡ true
trip_null day = refl

cell_says : (type : SqlType) (day : ℤ) (v : Value) → is_null_field type (field_text day Null) ≡ true → IsReadableField type day v → FieldSays type day (field_text day v) (Ok v)
cell_says type day v null (inl e) = subst (λ z. FieldSays type day (field_text day z) (Ok z)) (sym e) (record { null = λ h. refl; text = λ h. absurd (true≢false (sym null ∙ h)) })
cell_says type day v null (inr r) = let a = field_again type day v r in record { null = λ h. absurd (true≢false (sym h ∙ a.there)); text = λ h. a.says }

row_again : (day : ℤ) (row : List Value) → IsTripRow day row → HasText day row → IsRow trip_columns day (map (field_text day) row) row
row_again day row h text = record {
  whole = record { text = text; count = ap (λ z. length (map (field_text day) z)) h.is };
  values = subst (λ z. AllZip (λ (at : (List ℕ × SqlType) × List ℕ) v. FieldSays at.0.1 day at.1 (Ok v)) (zip trip_columns (map (field_text day) z)) z) (sym h.is)
      (cell_says Int day h.id (int_null day) h.id_again, (cell_says TPoint day h.trip (trip_null day) h.trip_again, tt));
}

rows_again : (day : ℤ) (rows : List (List Value)) → AllByRecursion (IsTripRow day) rows → AllByRecursion (HasText day) rows → AllZip (IsRow trip_columns day) (map (map (field_text day)) rows) rows
rows_again day [] h k = tt
rows_again day (row ∷ rows) h k = (row_again day row h.0 k.0, rows_again day rows h.1 k.1)

row_has : (day : ℤ) (row : List Value) → IsTripRow day row → HasFields (map (field_text day) row)
row_has day row h = subst (λ z. HasFields (map (field_text day) z)) (sym h.is) tt

rows_have : (day : ℤ) (rows : List (List Value)) → AllByRecursion (IsTripRow day) rows → AllByRecursion HasFields (map (map (field_text day)) rows)
rows_have day = each_map (IsTripRow day) HasFields (map (field_text day)) (row_has day)

no_mark : (day : ℤ) (rows : List (List Value)) → strip_bom (table_text day rows) ≡ table_text day rows
unfolding strip_bom
no_mark day rows = refl

table_again : (day : ℤ) (room : ℕ) (rows : List (List Value)) → AllByRecursion (IsTripRow day) rows → AllByRecursion (HasText day) rows → length rows ≤ room → length (table_text day rows) ≤ file_limit → IsTable trip_columns day room (table_text day rows) rows
table_again day room rows h text few short = record {
  short = short;
  records = (codes "id" ∷ codes "trip" ∷ []) ∷ map (map (field_text day)) rows;
  all = subst (λ z. AreRecords default_config st.StartRecord z ((codes "id" ∷ codes "trip" ∷ []) ∷ map (map (field_text day)) rows)) (sym (no_mark day rows)) (reads_again ((codes "id" ∷ codes "trip" ∷ []) ∷ map (map (field_text day)) rows) (tt, rows_have day rows h));
  header = refl;
  read = rows_again day rows h text;
  within = few;
}

same_length : {A B : Type 0} (R : A → B → Type 0) (xs : List A) (ys : List B) → AllZip R xs ys → length xs ≡ length ys
same_length R [] [] h = refl
same_length R [] (y ∷ ys) h = absurd h
same_length R (x ∷ xs) [] h = absurd h
same_length R (x ∷ xs) (y ∷ ys) h = ap suc (same_length R xs ys h.1)

pub tables_again : ReadsTableAgain
tables_again d day room bytes rows text table printable is short =
    let thin = is.0 in
    let are = is.1 in
    let few_thin : length thin ≤ room = subst (λ n. n ≤ room) (same_length (AllZip (IsThinValue d)) rows thin are) table.within in
    let short_thin : length (table_text day thin) ≤ file_limit = subst (λ z. length z ≤ file_limit) is.3 short in
    let again = rows_readable day d (drop 1 table.records) rows thin table.read printable are in
    (thin, are, subst (λ z. IsTable trip_columns day room z thin) (sym is.3) (table_again day room thin again is.2 few_thin short_thin))
