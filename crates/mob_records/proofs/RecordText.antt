-- `csv` gives each record the text that `record_line` defines.
use Rattle.std.{specs.Prelude.{◌||◌, ◌==◌, if◌then◌else◌, length, map, Option, unwrap_or}, specs.List.{concat, join_with_byte, list_any}}
use Rattle.std.proofs.Common.{◌≡◌, ◌∙◌, ap, ap₂, sym, refl, ℕ, ◌+◌, ◌<◌, List, [], ◌∷◌, ◌++◌, true, false, Bool, take, get_or, Some}
use Rattle.std.{proofs.lemmas.List.{append-nil, append_assoc, map-append, take_more}, proofs.lemmas.List.Folds.{concat-append}, proofs.Math.Dec.{eqb-suc-zero}}
use Rattle.csv.specs.declared.writer.WriterBuilder.{WriterBuilder}
use Rattle.mob_records.specs.AnswerText.{with_doubled_quotes, record_field, is_special, record_line}
use Rattle.csv.specs.Writing as csv

-- the usual writer, for records of any length or of one fixed length
abbrev pub writer : Bool → WriterBuilder
writer flexible = csv.with_flexible csv.default_writer flexible

regroup : (p q r s : Bool) → (p || (q || (r || s))) ≡ ((((p || q) || (r || s)) || false) || false)
regroup true q r s = refl
regroup false true r s = refl
regroup false false true s = refl
regroup false false false true = refl
regroup false false false false = refl

module _ (flexible : Bool) where
  special : (b : ℕ) → is_special b ≡ csv.needs_byte (writer flexible) b
  special b = regroup (b == 44) (b == 34) (b == 13) (b == 10)

  any_special : (xs : List ℕ) → list_any is_special xs ≡ csv.needs_quotes (writer flexible) xs
  any_special [] = refl
  any_special (b ∷ rest) = ap₂ (λ (x y : Bool). x || y) (special b) (any_special rest)

  same_doubled : (xs : List ℕ) → with_doubled_quotes xs ≡ csv.escaped (writer flexible) xs
  unfolding csv.escaped
  same_doubled [] = refl
  same_doubled (b ∷ rest) = ap (λ (w : List ℕ). if b == 34 then 34 ∷ b ∷ w else b ∷ w) (same_doubled rest)

  same_field : (f : List ℕ) → record_field f ≡ csv.field_text (writer flexible) f
  same_field f = ap₂ (λ (t : Bool) (w : List ℕ). if t then 34 ∷ (w ++ 34 ∷ []) else f) (any_special f) (same_doubled f)

  -- the fields after the first, each after a comma
  same_rest : (f : List ℕ) (rest : List (List ℕ)) → join_with_byte 44 (map record_field (f ∷ rest)) ≡ csv.field_text (writer flexible) f ++ csv.fields_text (writer flexible) rest
  unfolding csv.fields_text
  same_rest f [] = same_field f ∙ sym (append-nil (csv.field_text (writer flexible) f))
  same_rest f (g ∷ rest) = ap₂ (λ (x y : List ℕ). x ++ (44 ∷ y)) (same_field f) (same_rest g rest)

  shown : (x : ℕ) (xs : List ℕ) → (length (csv.field_text (writer flexible) (x ∷ xs)) == 0) ≡ false
  shown x xs = go (csv.needs_quotes (writer flexible) (x ∷ xs)) (csv.escaped (writer flexible) (x ∷ xs))
    where
      go : (t : Bool) (w : List ℕ) → (length (if t then 34 ∷ (w ++ 34 ∷ []) else x ∷ xs) == 0) ≡ false
      go true w = eqb-suc-zero _
      go false w = eqb-suc-zero _

  same_body : (f : List ℕ) (rest : List (List ℕ)) → join_with_byte 44 (map record_field (f ∷ rest)) ++ 10 ∷ [] ≡ (csv.field_text (writer flexible) f ++ csv.fields_text (writer flexible) rest) ++ 10 ∷ []
  same_body f rest = ap (λ (w : List ℕ). w ++ 10 ∷ []) (same_rest f rest)

  -- the text that `csv` writes for a record is `record_line`
  pub record_text-csv : (fs : List (List ℕ)) → record_line fs ≡ csv.row_text (writer flexible) fs
  unfolding csv.is_blank csv.fields_text
  record_text-csv [] = refl
  record_text-csv ([] ∷ []) = refl
  record_text-csv ((x ∷ xs) ∷ []) = same_body (x ∷ xs) [] ∙ ap (λ (t : Bool). (csv.field_text (writer flexible) (x ∷ xs) ++ []) ++ ((if t then 34 ∷ 34 ∷ [] else []) ++ 10 ∷ [])) (sym (shown x xs))
  record_text-csv ([] ∷ g ∷ rest) = same_body [] (g ∷ rest)
  record_text-csv ((x ∷ xs) ∷ g ∷ rest) = same_body (x ∷ xs) (g ∷ rest)

-- the text of the records, with one more row
text_more : (names : List (List ℕ)) (front : List (List (List ℕ))) (row : List (List ℕ)) (old new : List ℕ) → Some old ≡ Some (concat (map record_line (names ∷ front))) → new ≡ old ++ record_line row → Some new ≡ Some (concat (map record_line (names ∷ (front ++ row ∷ []))))
text_more names front row old new before next =
    let more : concat (map record_line (front ++ row ∷ [])) ≡ concat (map record_line front) ++ record_line row =
    ap concat (map-append record_line front (row ∷ []))
    ∙ concat-append (map record_line front) (record_line row ∷ [])
    ∙ ap (λ (w : List ℕ). concat (map record_line front) ++ w) (append-nil (record_line row)) in
    let same : old ≡ record_line names ++ concat (map record_line front) = ap (λ (o : Option (List ℕ)). unwrap_or o []) before in
    ap (λ (w : List ℕ). Some w) (next ∙ ap (λ (w : List ℕ). w ++ record_line row) same
    ∙ append_assoc (record_line names) (concat (map record_line front)) (record_line row)
    ∙ ap (λ (w : List ℕ). record_line names ++ w) (sym more))

pub records_more : (names : List (List ℕ)) (rows : List (List (List ℕ))) (i : ℕ) (d : List (List ℕ)) (old new : List ℕ) → i < length rows
    → Some old ≡ Some (concat (map record_line (names ∷ take i rows))) → new ≡ old ++ record_line (get_or rows i d)
    → Some new ≡ Some (concat (map record_line (names ∷ take (i + 1) rows)))
records_more names rows i d old new lt before next =
    text_more names (take i rows) (get_or rows i d) old new before next
    ∙ ap (λ (w : List (List (List ℕ))). Some (concat (map record_line (names ∷ w)))) (sym (take_more rows i d lt))

-- the same, with a row that f prints
pub records_more_by : {R : Type 0} (f : R → List (List ℕ)) (names : List (List ℕ)) (rows : List R) (i : ℕ) (x : R) (fields : List (List ℕ)) (old new : List ℕ) → i < length rows → x ≡ get_or rows i x → fields ≡ f x
    → Some old ≡ Some (concat (map record_line (names ∷ map f (take i rows)))) → new ≡ old ++ record_line fields
    → Some new ≡ Some (concat (map record_line (names ∷ map f (take (i + 1) rows))))
records_more_by f names rows i x fields old new lt is printed before next =
    text_more names (map f (take i rows)) (f x) old new before (next ∙ ap (λ z. old ++ record_line z) printed)
    ∙ ap (λ (w : List (List (List ℕ))). Some (concat (map record_line (names ∷ w))))
    (ap (λ z. map f (take i rows) ++ f z ∷ []) is ∙ sym (map-append f (take i rows) (get_or rows i x ∷ [])) ∙ ap (map f) (sym (take_more rows i x lt)))
