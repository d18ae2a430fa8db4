-- The status of an ending, and the line that it leaves in the notes.
use Rattle.std.{specs.Prelude.{◌+◌, ◌++◌, ◌∷◌, ◌==◌, ℕ, List, [], Option, Some, None, codes, decimal, map, if◌then◌else◌}, specs.List.{concat}}
use Rattle.mob_ast.{specs.Kinds.{name_of, number_of}, specs.declared.refusal.Kind.{Kind}, specs.declared.refusal.Refusal.{Refusal}}
use Rattle.mob_slice.{specs.declared.formula.Formula.{Formula}, specs.declared.formula.Formula.TheVariants.{F1, F2, F3, F4, F5, F6, F7, Given}}
use Rattle.mob_tuples.specs.Tuples.{no_row}
use Rattle.mob_ending.{specs.declared.ending.Ending.{Ending}, specs.declared.ending.Ending.TheVariants.{Done, Usage, ReadFault, WriteFault, NoMemory, TableRefused, ScriptRefused, Overflow}}

-- the status of an ending
abbrev pub status_of : Ending → ℕ
status_of Done = 0
status_of Usage = 2
status_of (ReadFault file) = 3
status_of WriteFault = 4
status_of NoMemory = 5
status_of (TableRefused file kind rec field) = 6
status_of (ScriptRefused refusal) = 7
status_of (Overflow statement rows place formula) = 8

-- the number and the name of a refusal
abbrev pub kind_text : Kind → List ℕ
kind_text kind = codes ": refusal " ++ (decimal (number_of kind) ++ (codes " (" ++ (name_of kind ++ codes ")\n")))

-- the line of a refused script
abbrev pub refusal_line : Refusal → List ℕ
refusal_line refusal = codes "statement " ++ (decimal refusal.statement ++ (codes ", byte " ++ (decimal refusal.place ++ kind_text refusal.kind)))

-- the place and the kind of a refusal in a table file
abbrev pub record_text : Kind → ℕ → ℕ → List ℕ
record_text kind rec field = codes ": record " ++ (decimal rec ++ (codes ", field " ++ (decimal field ++ kind_text kind)))

-- the line of a refused table file
abbrev pub table_line : List ℕ → Kind → ℕ → ℕ → List ℕ
table_line file kind rec field = file ++ record_text kind rec field

-- a row's number, from 1; 0 if a left-joined table has no row
abbrev pub row_number : ℕ → ℕ
row_number row = if row == no_row then 0 else row + 1

-- this number after a space
abbrev pub further_row : ℕ → List ℕ
further_row row = 32 ∷ decimal (row_number row)

-- the numbers of rows with spaces between them; a hyphen if there are no tables
abbrev pub rows_text : List ℕ → List ℕ
rows_text [] = codes "-"
rows_text (row ∷ rows) = decimal (row_number row) ++ concat (map further_row rows)

-- what does not fit: a part of a formula, or a number that an operator gives
abbrev pub what_passes : Formula → List ℕ
what_passes F1 = codes "formula F1"
what_passes F2 = codes "formula F2"
what_passes F3 = codes "formula F3"
what_passes F4 = codes "formula F4"
what_passes F5 = codes "formula F5"
what_passes F6 = codes "formula F6"
what_passes F7 = codes "formula F7"
what_passes Given = codes "the value"

abbrev pub statement_text : ℕ → List ℕ
statement_text statement = codes "statement " ++ (decimal statement ++ codes ", rows ")

abbrev pub passes_text : ℕ → Formula → List ℕ
passes_text place formula = codes ", byte " ++ (decimal place ++ (codes ": " ++ (what_passes formula ++ codes " passes 62 bits\n")))

-- the line of a number that does not fit
abbrev pub overflow_line : ℕ → List ℕ → ℕ → Formula → List ℕ
overflow_line statement rows place formula = statement_text statement ++ (rows_text rows ++ passes_text place formula)

-- the line of a table file that could not be read
abbrev pub fault_line : List ℕ → List ℕ
fault_line file = codes "read fault: " ++ (file ++ codes "\n")

-- the line of a script or a file that could not be read
abbrev pub read_line : Option (List ℕ) → List ℕ
read_line None = codes "read fault: script\n"
read_line (Some file) = fault_line file

-- the line that an ending leaves in the notes
abbrev pub note_line : Ending → List ℕ
note_line Done = []
note_line Usage = codes "usage: mobsql [--workers N] [--epoch DATE] [--demo N] [--wide] < script.sql\n"
note_line (ReadFault file) = read_line file
note_line WriteFault = codes "write fault\n"
note_line NoMemory = codes "no memory\n"
note_line (TableRefused file kind rec field) = table_line file kind rec field
note_line (ScriptRefused refusal) = refusal_line refusal
note_line (Overflow statement rows place formula) = overflow_line statement rows place formula
