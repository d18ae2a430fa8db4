-- The status of an ending, and the line that it leaves in the notes.
use Rattle.std.specs.Prelude.{◌++◌, [], ℕ, List, codes}
use Rattle.mob_ast.specs.declared.refusal.Kind.{Kind}
use Rattle.mob_slice.specs.declared.formula.Formula.{Formula}
use Rattle.mob_ending.specs.Lines.{record_text, rows_text, what_passes}
use Rattle.mob_trips.specs.declared.ending.TripsEnding.{TripsEnding}
use Rattle.mob_trips.specs.declared.ending.TripsEnding.TheVariants.{Done, Usage, ReadFault, WriteFault, NoMemory, TableRefused, RowsRefused, Overflow}

-- the status of an ending
abbrev pub trips_status : TripsEnding → ℕ
trips_status Done = 0
trips_status Usage = 2
trips_status ReadFault = 3
trips_status WriteFault = 4
trips_status NoMemory = 5
trips_status (TableRefused kind rec field) = 6
trips_status (RowsRefused rows) = 6
trips_status (Overflow rows formula) = 8

-- the text before the numbers of rows
abbrev pub rows_word : List ℕ
rows_word = codes "rows "

-- the text after them: what does not fit, or a limit
abbrev pub formula_text : Formula → List ℕ
formula_text formula = codes ": " ++ (what_passes formula ++ codes " passes 62 bits\n")

abbrev pub limit_text : List ℕ
limit_text = codes ": refusal 13 (Limit)\n"

abbrev pub passes_line : List ℕ → Formula → List ℕ
passes_line rows formula = rows_word ++ (rows_text rows ++ formula_text formula)

abbrev pub limit_line : List ℕ → List ℕ
limit_line rows = rows_word ++ (rows_text rows ++ limit_text)

abbrev pub table_refusal_line : Kind → ℕ → ℕ → List ℕ
table_refusal_line kind rec field = codes "table" ++ record_text kind rec field

-- the line that an ending leaves in the notes; `usage` is the line for arguments that are not
-- accepted
abbrev pub trips_note : List ℕ → TripsEnding → List ℕ
trips_note usage Done = []
trips_note usage Usage = usage
trips_note usage ReadFault = codes "read fault: table\n"
trips_note usage WriteFault = codes "write fault\n"
trips_note usage NoMemory = codes "no memory\n"
trips_note usage (TableRefused kind rec field) = table_refusal_line kind rec field
trips_note usage (RowsRefused rows) = limit_line rows
trips_note usage (Overflow rows formula) = passes_line rows formula
