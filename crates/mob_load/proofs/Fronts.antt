-- The front of a file, up to one byte past the limit, stands for the file.
use Rattle.std.{proofs.Common.{arith, ◌≡◌, subst, ℕ, ◌+◌, ◌≤◌, List, length, take, ℤ, inl, inr}, proofs.lemmas.Bool.{cases_lt}}
use Rattle.std.proofs.lemmas.List.{length-take, length-take-le, take_all}
use Rattle.mob_value.specs.declared.value.Value.{Value}
use Rattle.mob_catalog.{specs.declared.fault.FileFault.{FileFault}, specs.TableFile.{file_limit, Column, IsTable, FileFails}}

-- a front within the limit is the whole file
short_front : (n : ℕ) (xs : List ℕ) → length (take (n + 1) xs) ≤ n → take (n + 1) xs ≡ xs
short_front n xs short = elim (cases_lt (length xs) (n + 1)) [
  | inl less ↦ take_all (n + 1) xs (omega arith)
  | inr more ↦ let cut = length-take-le (n + 1) xs more in absurd (omega arith)
]

-- the front of a file has the result of the file: one that is too long is refused whatever comes
-- after the limit
pub table_front : (columns : List Column) (day : ℤ) (room : ℕ) (whole : List ℕ) (rows : List (List Value)) → IsTable columns day room (take (file_limit + 1) whole) rows → IsTable columns day room whole rows
table_front columns day room whole rows table = subst (λ (bytes : List ℕ). IsTable columns day room bytes rows) (short_front file_limit whole table.short) table

pub fails_front : (columns : List Column) (day : ℤ) (room : ℕ) (whole : List ℕ) (w : FileFault) → FileFails columns day room (take (file_limit + 1) whole) w → FileFails columns day room whole w
fails_front columns day room whole w (inl long) =
    let cut = length-take (file_limit + 1) whole in
    inl (omega (arith, long.0), long.1)
fails_front columns day room whole w (inr short) =
    subst (λ (bytes : List ℕ). FileFails columns day room bytes w) (short_front file_limit whole short.0) (inr short)
