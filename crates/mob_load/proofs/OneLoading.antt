-- Loading has one outcome.
use Rattle.std.{specs.Prelude.{Result}, proofs.Common.{◌≡◌, ◌∙◌, sym, ap, subst, ℕ, ℤ, ◌-◌, List, [], ◌∷◌, Option, Some, None, Ok, Err}}
use Rattle.mob_outside.specs.Told.{Contents, file_of}
use Rattle.mob_catalog.{specs.Outcomes.{HasOneFault, HasOneTable, NeverReadAndRefused}, specs.declared.fault.FileFault.{FileFault}, proofs.OneMeaning.{one_value, one_refusal, value_or_refusal}}
use Rattle.mob_typed.specs.declared.typed.ConstText.{ConstText}
use Rattle.mob_load.specs.Checks.{CheckParts, literal, table, room, file, checks_of}
use Rattle.mob_load.specs.Loads.{ContinuesBy, Halt, Loaded, Loads, LoadsCheck, LoadsFile, LoadsLiteral, loaded_columns, greatest_rows, nothing_loaded, refused, loaded_row_count, table_refused}
use Rattle.mob_load.{specs.Loads.{with_file, with_value}, specs.Outcomes.{HasOneLoading, LoadsOneProgram}, specs.declared.program.Program.{Program}}

one_read : (day : ℤ) (c : ConstText) (l : Loaded) (r q : Result Loaded Halt) → LoadsLiteral day c l r → LoadsLiteral day c l q → r ≡ q
one_read day c l (Ok m) (Ok n) h k = ap Ok (h.2 ∙ ap (with_value l) (one_value day c h.0 k.0 h.1 k.1) ∙ sym k.2)
one_read day c l (Ok m) (Err g) h k = absurd (value_or_refusal day c h.0 k.0 h.1 k.1)
one_read day c l (Err g) (Ok m) h k = absurd (value_or_refusal day c k.0 h.0 k.1 h.1)
one_read day c l (Err f) (Err g) h k = ap Err (h.2 ∙ ap refused (one_refusal day 0 c h.0 k.0 h.1 k.1) ∙ sym k.2)

goes_one : (others : Loaded → Result Loaded Halt → Type 0) → ((m : Loaded) (r q : Result Loaded Halt) → others m r → others m q → r ≡ q) → (s r q : Result Loaded Halt) → ContinuesBy others s r → ContinuesBy others s q → r ≡ q
goes_one others one (Ok m) r q h k = one m r q h k
goes_one others one (Err halt) r q h k = h ∙ sym k

module _ (rows_one : HasOneTable) (fault_one : HasOneFault) (apart : NeverReadAndRefused) where
  one_file : (day : ℤ) (t : ℕ) (name : List ℕ) (l : Loaded) (bytes : Option (List ℕ)) (r q : Result Loaded Halt) → LoadsFile day t name l bytes r → LoadsFile day t name l bytes q → r ≡ q
  one_file day t name l None r q h k = h ∙ sym k
  one_file day t name l (Some bytes) (Ok m) (Ok n) h k =
      let rows : h.0 ≡ k.0 = rows_one (loaded_columns l t) day (greatest_rows - loaded_row_count l t) bytes h.0 k.0 h.1 k.1 in
      ap Ok (h.2 ∙ ap (with_file l t) rows ∙ sym k.2)
  one_file day t name l (Some bytes) (Ok m) (Err g) h k = absurd (apart (loaded_columns l t) day (greatest_rows - loaded_row_count l t) bytes h.0 k.0 h.1 k.1)
  one_file day t name l (Some bytes) (Err g) (Ok m) h k = absurd (apart (loaded_columns l t) day (greatest_rows - loaded_row_count l t) bytes k.0 h.0 k.1 h.1)
  one_file day t name l (Some bytes) (Err f) (Err g) h k =
      let wrong : h.0 ≡ k.0 = fault_one (loaded_columns l t) day (greatest_rows - loaded_row_count l t) bytes h.0 k.0 h.1 k.1 in
      ap Err (h.2 ∙ ap (λ (w : FileFault). table_refused name w.kind w.rec w.field) wrong ∙ sym k.2)

  one_check : (day : ℤ) (files : Contents) (c : CheckParts) (l : Loaded) (r q : Result Loaded Halt) → LoadsCheck day files c l r → LoadsCheck day files c l q → r ≡ q
  one_check day files (literal c) l r q h k = one_read day c l r q h k
  one_check day files (table columns) l r q h k = h ∙ sym k
  one_check day files (room t n p) l r q h k = h ∙ sym k
  one_check day files (file t name) l r q h k = one_file day t name l (file_of name files) r q h k

  pub one_loading : HasOneLoading
  one_loading day files [] l r q h k = h ∙ sym k
  one_loading day files (c ∷ cs) l r q h k =
      let first : h.0 ≡ k.0 = one_check day files c l h.0 k.0 h.1 k.1 in
      goes_one (Loads day files cs) (λ m a b. one_loading day files cs m a b) k.0 r q (subst (λ s. ContinuesBy (Loads day files cs) s r) first h.2) k.2

  pub one_program : LoadsOneProgram
  one_program day files out (Ok p) (Ok s) h k =
      let e = one_loading day files (checks_of out) nothing_loaded (Ok h.0) (Ok k.0) h.1 k.1 in
      let loaded : h.0 ≡ k.0 = cc e in
      let program : Loaded → Program = λ l. record { values = l.values; files = l.files } in
      ap Ok (h.2 ∙ ap program loaded ∙ sym k.2)
  one_program day files out (Ok p) (Err g) h k = let e = one_loading day files (checks_of out) nothing_loaded (Ok h.0) (Err g) h.1 k in absurd (cc e)
  one_program day files out (Err f) (Ok s) h k = let e = one_loading day files (checks_of out) nothing_loaded (Err f) (Ok k.0) h k.1 in absurd (cc e)
  one_program day files out (Err f) (Err g) h k = let e = one_loading day files (checks_of out) nothing_loaded (Err f) (Err g) h k in let halt : f ≡ g = cc e in ap Err halt
