-- Rows that are made one by one, and the first that fails.
use Rattle.std.{specs.Prelude.{◌≡◌, ℕ, ℤ, codes, map, List, [], ◌∷◌, ◌++◌, length, get_or, ◌<◌, IsUtf8, Some, refl, slice_get, suc, zero}, specs.List.{AllZip, AllByRecursion, concat}}
use Rattle.std.{proofs.Common.{arith, ap, sym, ◌∙◌, subst, inl, inr, take, drop, ◌+◌}, proofs.lemmas.List.{map-append, take_more, take-append-drop, length-take-le}}
use Rattle.std.proofs.lemmas.Option.{none-some, same_Some}
use Rattle.csv.specs.Records.{AllText}
use Rattle.mob_list.{specs.Faults.{OnCause, fault_at}, specs.declared.fault.Fault.{Fault}, specs.declared.fault.Fault.TheVariants.{Because, NoMemory}, proofs.Each.{each_both}}
use Rattle.mob_list.proofs.Entries.{drop_read, zip_more}
use Rattle.mob_ratio.specs.Ratio.{Ratio}
use Rattle.mob_slice.{specs.Entries.{IsFirst}, specs.declared.formula.Formula.{Formula}, specs.declared.mode.Mode.{Mode}}
use Rattle.mob_value.specs.declared.value.Value.{Value}
use Rattle.mob_literal.specs.Fields.{field_text}
use Rattle.mob_records.specs.AnswerText.{record_line}
use Rattle.mob_thin_run.specs.ThinRows.{HasText, IsThinRecord, IsThinText, AreThinRows, OnTests, RowTestsFit, RowTestPasses, PassesFirst}

-- at the place i of a list
module _ {A : Type 0} (xs : List A) (i : ℕ) (x : A) (lt : i < length xs) (is : x ≡ get_or xs i x) where
  more : take (i + 1) xs ≡ take i xs ++ x ∷ []
  more = take_more xs i x lt ∙ ap (λ z. take i xs ++ z ∷ []) (sym is)

  pub zip_next : {B : Type 0} (R : A → B → Type 0) (ys next : List B) (y : B) → next ≡ ys ++ y ∷ [] → AllZip R (take i xs) ys → R x y → AllZip R (take (i + 1) xs) next
  zip_next R ys next y e h k = subst (λ z. AllZip R (take (i + 1) xs) z) (sym e) (subst (λ z. AllZip R z (ys ++ y ∷ [])) (sym more) (zip_more R (take i xs) ys x y h k))

  pub all_more : (P : A → Type 0) → AllByRecursion P (take i xs) → P x → AllByRecursion P (take (i + 1) xs)
  all_more P h k = subst (AllByRecursion P) (sym more) (each_both P (take i xs) (x ∷ []) h (k, tt))

  pub map_more : {B : Type 0} (f : A → B) (ys next : List B) (y : B) → next ≡ ys ++ y ∷ [] → ys ≡ map f (take i xs) → y ≡ f x → next ≡ map f (take (i + 1) xs)
  map_more f ys next y e h k = e ∙ ap (λ z. z ++ y ∷ []) h ∙ ap (λ z. map f (take i xs) ++ z ∷ []) k ∙ sym (ap (λ z. map f z) more ∙ map-append f (take i xs) (x ∷ []))

  pub parted : xs ≡ take i xs ++ x ∷ drop (i + 1) xs
  parted = sym (take-append-drop i xs) ∙ ap (λ z. take i xs ++ z) (drop_read xs i x lt is)

-- the row that a look-up by its number finds
pub row_found : {A : Type 0} (xs : List A) (i : ℕ) (x : A) → Some x ≡ slice_get xs i → (i < length xs) × (x ≡ get_or xs i x)
row_found [] i x h = absurd (none-some x (sym h))
row_found (y ∷ xs) zero x h = (omega arith, same_Some x y h)
row_found (y ∷ xs) (suc i) x h = let later = row_found xs i x h in (let lt = later.0 in omega (arith, lt), later.1)

-- ---- the first value that fails
passes_behind : (mode : Mode) (d : Ratio) (xs rest : List Value) (x : Value) (f : Formula) → RowTestsFit mode d xs → OnTests mode d x (λ tests. IsFirst tests (Some f)) → RowTestPasses mode d (xs ++ x ∷ rest) f
passes_behind mode d [] rest x f h k = inl k
passes_behind mode d (w ∷ xs) rest x f h k = inr (h.0, passes_behind mode d xs rest x f h.1 k)

pub passes_at : (mode : Mode) (d : Ratio) (xs : List Value) (i : ℕ) (x : Value) (f : Formula) → i < length xs → x ≡ get_or xs i x → RowTestsFit mode d (take i xs) → OnTests mode d x (λ tests. IsFirst tests (Some f)) → RowTestPasses mode d xs f
passes_at mode d xs i x f lt is h k = subst (λ z. RowTestPasses mode d z f) (sym (parted xs i x lt is)) (passes_behind mode d (take i xs) (drop (i + 1) xs) x f h k)

pub first_at : (mode : Mode) (d : Ratio) (rows : List (List Value)) (i : ℕ) (row : List Value) (n : ℕ) (f : Formula) → i < length rows → row ≡ get_or rows i row → n ≡ i → AllByRecursion (RowTestsFit mode d) (take i rows) → RowTestPasses mode d row f → PassesFirst mode d rows n f
first_at mode d rows i row n f lt is e h k = record {
  before = take i rows;
  here = row;
  after = drop (i + 1) rows;
  parts = parted rows i row lt is;
  number = e ∙ sym (length-take-le i rows (omega arith));
  fit = h;
  passes = k;
}

-- the fault of a value after values that fit is that of the row: an overflow, or a failed
-- allocation
pub test_fault_at : (mode : Mode) (d : Ratio) (xs : List Value) (i : ℕ) (x : Value) (e : Fault Formula) → i < length xs → x ≡ get_or xs i x → RowTestsFit mode d (take i xs) → OnTests mode d x (λ tests. OnCause (λ f. IsFirst tests (Some f)) e) → OnCause (RowTestPasses mode d xs) e
test_fault_at mode d xs i x (Because f) lt is h k = passes_at mode d xs i x f lt is h k
test_fault_at mode d xs i x NoMemory lt is h k = tt

pub row_fault_at : (mode : Mode) (d : Ratio) (rows : List (List Value)) (i : ℕ) (row : List Value) (n : ℕ) (e : Fault Formula) → i < length rows → row ≡ get_or rows i row → n ≡ i → AllByRecursion (RowTestsFit mode d) (take i rows) → OnCause (RowTestPasses mode d row) e → OnCause (λ f. PassesFirst mode d rows f.0 f.1) (fault_at n e)
row_fault_at mode d rows i row n (Because f) lt is e h k = first_at mode d rows i row n f lt is e h k
row_fault_at mode d rows i row n NoMemory lt is e h k = tt

-- ---- rows and their records
-- the values from which records are made
pub record AreRecordsOf (d : Ratio) (day : ℤ) (rows : List (List Value)) (records : List (List (List ℕ))) : Type 0 where
  pub thin : List (List Value)
  pub are : AreThinRows d rows thin
  pub text : AllByRecursion (HasText day) thin
  pub fields : records ≡ map (map (field_text day)) thin

pub thin_rows : (d : Ratio) (day : ℤ) (rows : List (List Value)) (records : List (List (List ℕ))) → AllZip (IsThinRecord d day) rows records → AreRecordsOf d day rows records
thin_rows d day [] [] h = record { thin = []; are = tt; text = tt; fields = refl }
thin_rows d day [] (r ∷ records) h = absurd h
thin_rows d day (x ∷ rows) [] h = absurd h
thin_rows d day (x ∷ rows) (r ∷ records) h =
    let k = thin_rows d day rows records h.1 in
    record {
      thin = h.0.0 ∷ k.thin;
      are = (h.0.1, k.are);
      text = (subst AllText h.0.3 h.0.2, k.text);
      fields = ap (λ z. z ∷ records) h.0.3 ∙ ap (λ z. map (field_text day) h.0.0 ∷ z) k.fields;
    }

pub is_thin_text : (d : Ratio) (day : ℤ) (rows : List (List Value)) (records : List (List (List ℕ))) (names : List (List ℕ)) (text : List ℕ) → AllZip (IsThinRecord d day) rows records → names ≡ codes "id" ∷ codes "trip" ∷ [] → text ≡ concat (map record_line (names ∷ records)) → IsThinText d day rows text
is_thin_text d day rows records names text h e is =
    let k = thin_rows d day rows records h in
    (k.thin, k.are, k.text, is ∙ ap (λ z. concat (map record_line (z ∷ records))) e ∙ ap (λ z. concat (map record_line ((codes "id" ∷ codes "trip" ∷ []) ∷ z))) k.fields)

-- ---- fields that are UTF-8
pub no_fields : AllText []
unfolding AllText
no_fields = tt

pub one_field_more : (fields : List (List ℕ)) (field : List ℕ) → AllText fields → IsUtf8 field → AllText (fields ++ field ∷ [])
unfolding AllText
one_field_more [] field h k = (k, tt)
one_field_more (f ∷ fields) field h k = (h.0, one_field_more fields field h.1 k)
