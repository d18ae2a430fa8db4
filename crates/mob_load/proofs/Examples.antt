-- Example checks, in written order.
use Rattle.std.{specs.Prelude.{codes}, proofs.Common.{◌≡◌, refl, arith, inl, inr, ℕ, [], ◌∷◌, Some}}
use Rattle.mob_ast.specs.declared.types.SqlType.TheVariants.{Int}
use Rattle.mob_typed.{specs.declared.typed.ConstText.{ConstText}, specs.Statements.{ScriptOut, nothing, new_table, new_rows, rows_from}, specs.Written.{IsWritten}}
use Rattle.mob_load.specs.Checks.{literal, table, room, file, checks_of}

constant : ℕ → ℕ → ConstText
constant n p = record { ty = Int; text = codes "1"; statement = n; place = p }

-- CREATE TABLE t (id int); INSERT INTO t VALUES (1), (1); COPY t FROM 'f' ..;; SELECT 1
script : ScriptOut
script = record {
  statements = new_table 0 (codes "t") ((codes "id", Int) ∷ []) ∷ new_rows 0 ((Some 0 ∷ []) ∷ (Some 1 ∷ []) ∷ []) (45 ∷ 50 ∷ []) ∷ rows_from 0 (codes "f") ∷ nothing ∷ [];
  consts = constant 2 46 ∷ constant 2 51 ∷ constant 5 99 ∷ [];
}

written_order : checks_of script
    ≡ table ((codes "id", Int) ∷ []) ∷ room 0 2 45 ∷ literal (constant 2 46) ∷ room 0 2 50 ∷ literal (constant 2 51) ∷ file 0 (codes "f") ∷ literal (constant 5 99) ∷ []
unfolding script constant
written_order = refl

-- the script is in written order
written : IsWritten script
unfolding script constant
written = record {
  literals = ((inr (refl, omega arith), ((inl (omega arith)), tt)), ((inl (omega arith), tt), (tt, tt)));
  rows = (tt, (((omega arith, tt), (tt, tt)), (tt, (tt, tt))));
}

-- a literal of statement 1 comes before the file of statement 2, and the other way round
literal_first : checks_of (record { statements = nothing ∷ rows_from 0 (codes "f") ∷ []; consts = constant 1 8 ∷ [] }) ≡ literal (constant 1 8) ∷ file 0 (codes "f") ∷ []
unfolding constant
literal_first = refl

file_first : checks_of (record { statements = rows_from 0 (codes "f") ∷ nothing ∷ []; consts = constant 2 70 ∷ [] }) ≡ file 0 (codes "f") ∷ literal (constant 2 70) ∷ []
unfolding constant
file_first = refl
