-- What a script reads before it runs, in written order. The first check that fails decides.
use Rattle.std.specs.Prelude.{◌≡◌, ◌≤◌, ◌⊎◌, ◌+◌, ◌-◌, ℤ, ℕ, List, [], ◌∷◌, ◌++◌, length, map, nat_lt, slice_get, slice_index, slice_set, Option, Some, None, Result, Ok, Err, if◌then◌else◌}
use Rattle.std.specs.List.{AllByRecursion, flat_map, AllZip}
use Rattle.mob_ast.{specs.declared.refusal.Kind.{Kind}, specs.declared.refusal.Refusal.{Refusal}, specs.Trees.{StatementParts}}
use Rattle.mob_value.specs.declared.value.Value.{Value}
use Rattle.mob_outside.{specs.Faults.{Rose}, specs.Told.{Contents, file_of}}
use Rattle.mob_catalog.{specs.Constants.{IsConstant, ConstantFails}, specs.declared.fault.FileFault.{FileFault}, specs.TableFile.{IsTable, FileFails}}
use Rattle.mob_typed.{specs.declared.typed.ConstText.{ConstText}, specs.Statements.{ColumnList, ScriptOut, StatementOut, rows_from}}
use Rattle.mob_typing.specs.Statements.{typed_script}
use Rattle.mob_load.{specs.Checks.{CheckParts, literal, table, room, file, checks_of}, specs.Fronts.{IsAskedLast, OnFiles}, specs.declared.loading.Loading.{Loading}}
use Rattle.mob_load.{specs.declared.program.Program.{Program}, specs.declared.program.LoadEnd.{LoadEnd}}
use Rattle.mob_load.specs.declared.program.LoadEnd.TheVariants.{Refused, TableRefused, ReadFault, NoMemory as OutOfMemory}
use Rattle.mob_ast.specs.declared.refusal.Kind.TheVariants as kind

-- what was read so far: the values of the literals, the columns of the tables with their numbers of
-- rows, and the rows of the files
pub record Loaded : Type 0 where
  pub values : List Value
  pub tables : List ColumnList
  pub rows : List ℕ
  pub files : List (List (List Value))

abbrev pub nothing_loaded : Loaded
nothing_loaded = record { values = []; tables = []; rows = []; files = [] }

-- why loading stops: a refusal in the script; one in a file of this name, with its record and its
-- field; a missing file
pub data Halt : Type 0 where
  refused : Refusal → Halt
  table_refused : List ℕ → Kind → ℕ → ℕ → Halt
  missing : List ℕ → Halt

-- the most rows that a script may put into one table
abbrev pub greatest_rows : ℕ
greatest_rows = 1000000

-- the columns of the table of this number
abbrev pub columns_or_none : Option ColumnList → ColumnList
columns_or_none None = []
columns_or_none (Some columns) = columns

abbrev pub loaded_columns : Loaded → ℕ → ColumnList
loaded_columns l t = columns_or_none (slice_get l.tables t)

-- how many rows were put into it
abbrev pub loaded_row_count : Loaded → ℕ → ℕ
loaded_row_count l t = slice_index l.rows t

abbrev pub with_value : Loaded → Value → Loaded
with_value l v = record l { values = l.values ++ v ∷ [] }

abbrev pub with_made_table : Loaded → ColumnList → Loaded
with_made_table l columns = record l { tables = l.tables ++ columns ∷ []; rows = l.rows ++ 0 ∷ [] }

-- this many more rows in the table of this number
abbrev pub with_rows : Loaded → ℕ → ℕ → Loaded
with_rows l t n = record l { rows = slice_set l.rows t (loaded_row_count l t + n) }

abbrev pub with_file : Loaded → ℕ → List (List Value) → Loaded
with_file l t rows = record (with_rows l t (length rows)) { files = l.files ++ rows ∷ [] }

-- a literal has the value of its text, or is refused for the fault of the text
abbrev pub LoadsLiteral : ℤ → ConstText → Loaded → Result Loaded Halt → Type 0
LoadsLiteral day c l (Ok m) = (v : Value) × IsConstant day c v × (m ≡ with_value l v)
LoadsLiteral day c l (Err h) = (e : Refusal) × ConstantFails day c e × (h ≡ refused e)

-- a table takes one more row as long as it has fewer than the limit; else the row is refused at its
-- bracket
abbrev pub one_row : ℕ → ℕ → ℕ → Loaded → Result Loaded Halt
one_row t n p l = if nat_lt (loaded_row_count l t) greatest_rows then Ok (with_rows l t 1) else Err (refused (record { kind = kind.Limit; statement = n; place = p }))

-- a file has the rows of its bytes or their first refusal; a missing file has none
abbrev pub LoadsFile : ℤ → ℕ → List ℕ → Loaded → Option (List ℕ) → Result Loaded Halt → Type 0
LoadsFile day t name l None r = r ≡ Err (missing name)
LoadsFile day t name l (Some bytes) (Ok m) = (rows : List (List Value)) × IsTable (loaded_columns l t) day (greatest_rows - loaded_row_count l t) bytes rows × (m ≡ with_file l t rows)
LoadsFile day t name l (Some bytes) (Err h) = (w : FileFault) × FileFails (loaded_columns l t) day (greatest_rows - loaded_row_count l t) bytes w × (h ≡ table_refused name w.kind w.rec w.field)

-- a table has at most 64 columns
abbrev pub IsNarrow : CheckParts → Type 0
IsNarrow (table columns) = length columns ≤ 64
IsNarrow _ = Unit {0}

abbrev pub AreNarrow : List CheckParts → Type 0
AreNarrow checks = AllByRecursion IsNarrow checks

abbrev pub HasNarrow : List ColumnList → Type 0
HasNarrow tables = AllByRecursion (λ columns. length columns ≤ 64) tables

-- one check, and what was read before and after it
abbrev pub LoadsCheck : ℤ → Contents → CheckParts → Loaded → Result Loaded Halt → Type 0
LoadsCheck day files (literal c) l r = LoadsLiteral day c l r
LoadsCheck day files (table columns) l r = r ≡ Ok (with_made_table l columns)
LoadsCheck day files (room t n p) l r = r ≡ one_row t n p l
LoadsCheck day files (file t name) l r = LoadsFile day t name l (file_of name files) r

-- what comes after a check: the others, or nothing if it fails
abbrev pub ContinuesBy : (Loaded → Result Loaded Halt → Type 0) → Result Loaded Halt → Result Loaded Halt → Type 0
ContinuesBy others (Ok m) r = others m r
ContinuesBy others (Err h) r = r ≡ Err h

-- the checks in order; the first that fails decides
abbrev pub Loads : ℤ → Contents → List CheckParts → Loaded → Result Loaded Halt → Type 0
Loads day files [] l r = r ≡ Ok l
Loads day files (c ∷ cs) l r = (s : Result Loaded Halt) × LoadsCheck day files c l s × ContinuesBy (Loads day files cs) s r

-- the names of the files that a check asks for
abbrev pub names_of : CheckParts → List (List ℕ)
names_of (file t name) = name ∷ []
names_of _ = []

abbrev pub names_in : List CheckParts → List (List ℕ)
names_in cs = flat_map names_of cs

-- The file of this number, counted from 0, is reached: it has this name, the checks before its own
-- all pass, and they ask for that many files.
pub record IsFileReached (day : ℤ) (files : Contents) (checks : List CheckParts) (number : ℕ) (name : List ℕ) : Type 0 where
  pub first : List CheckParts
  pub target : ℕ
  pub last : List CheckParts
  pub parts : checks ≡ first ++ file target name ∷ last
  pub counts : length (names_in first) ≡ number
  pub read : Loaded
  pub passed : Loads day files first nothing_loaded (Ok read)

-- The file of this number is reached, and it has this refusal.
pub record RefusesFile (day : ℤ) (files : Contents) (checks : List CheckParts) (number : ℕ) (name : List ℕ) (kind : Kind) (rec field : ℕ) : Type 0 where
  pub reached : IsFileReached day files checks number name
  pub refused : LoadsFile day reached.target name reached.read (file_of name files) (Err (table_refused name kind rec field))

-- What a check adds to what was read, for some files.
abbrev pub ReadsCheck : ℤ → CheckParts → Loaded → Loaded → Type 0
ReadsCheck day c l m = (files : Contents) × LoadsCheck day files c l (Ok m)

-- what the checks add in order, each for files of its own
abbrev pub ReadsChecks : ℤ → List CheckParts → Loaded → Loaded → Type 0
ReadsChecks day [] l m = m ≡ l
ReadsChecks day (c ∷ cs) l m = (k : Loaded) × ReadsCheck day c l k × ReadsChecks day cs k m

-- the program's state of loading, as the definitions have it
abbrev pub loaded_of : Loading → Loaded
loaded_of l = record { values = l.values; tables = map (λ t. t.now) l.tables.items; rows = l.rows.items; files = l.files }

-- the program's result is that of the definition; faults of the files and failed allocations are
-- covered elsewhere
abbrev pub LoadsTo : {A : Type 0} → Result A LoadEnd → Loaded → (Result Loaded Halt → Type 0) → Type 0
LoadsTo (Ok x) after says = says (Ok after)
LoadsTo (Err (Refused e)) after says = says (Err (refused e))
LoadsTo (Err (TableRefused name k rec field)) after says = says (Err (table_refused name k rec field))
LoadsTo (Err (ReadFault name)) after says = Unit {0}
LoadsTo (Err OutOfMemory) after says = Unit {0}

-- each file could be read
abbrev pub IsRead : LoadEnd → Type 0
IsRead (ReadFault name) = ⊥
IsRead _ = Unit {0}

-- what holds if a file was read: it was loaded, or it is refused
abbrev pub OnRead : {A : Type 0} → Result A LoadEnd → Type 0 → Type 0
OnRead (Ok x) P = P
OnRead (Err (TableRefused name k rec field)) P = P
OnRead (Err (Refused e)) P = Unit {0}
OnRead (Err (ReadFault name)) P = Unit {0}
OnRead (Err OutOfMemory) P = Unit {0}

-- no file is refused, and each could be read
abbrev pub IsNoFault : LoadEnd → Type 0
IsNoFault (TableRefused name k rec field) = ⊥
IsNoFault (ReadFault name) = ⊥
IsNoFault _ = Unit {0}

-- a check of the file of this name
abbrev pub IsFile : CheckParts → List ℕ → Type 0
IsFile (file t name) asked = name ≡ asked
IsFile _ asked = ⊥

-- the file that is refused or could not be read is that of this check
abbrev pub IsFaultAt : CheckParts → LoadEnd → Type 0
IsFaultAt c (TableRefused name k rec field) = IsFile c name
IsFaultAt c (ReadFault name) = IsFile c name
IsFaultAt c _ = Unit {0}

-- a failure to read a file comes with a higher count of faults
abbrev pub HasFaultCause : ℕ → ℕ → LoadEnd → Type 0
HasFaultCause before now (ReadFault name) = Rose before now
HasFaultCause before now _ = Unit {0}

-- A file with one of these names is refused, and was asked for last: for the file of some number,
-- the checks before it pass, it has this refusal, and the names asked for grow by those before it
-- and by its own.
pub record StopsAtRefused (day : ℤ) (checks : List CheckParts) (names : List (List ℕ)) (told : Option Contents) (old new : Option (List (List ℕ))) (name : List ℕ) (kind : Kind) (rec field : ℕ) : Type 0 where
  pub number : ℕ
  pub last : IsAskedLast names number (number + 1) old new name
  pub refused : OnFiles names told (λ m. RefusesFile day m checks number name kind rec field)

-- A file with one of these names could not be read: for the file of some number, the checks before
-- it pass, and the names asked for grow by those before it, and by its own if it could be opened.
pub record StopsAtUnread (day : ℤ) (checks : List CheckParts) (names : List (List ℕ)) (told : Option Contents) (old new : Option (List (List ℕ))) (name : List ℕ) : Type 0 where
  pub number : ℕ
  pub last : IsAskedLast names number number old new name ⊎ IsAskedLast names number (number + 1) old new name
  pub reached : OnFiles names told (λ m. IsFileReached day m checks number name)

-- Why the checks, which ask for these names, stop: at the first that is refused, or at a file that
-- could not be read, before which all pass. Nothing is asked of a failed allocation.
abbrev pub ChecksStopBy : ℤ → List CheckParts → List (List ℕ) → Option Contents → Option (List (List ℕ)) → Option (List (List ℕ)) → LoadEnd → Type 0
ChecksStopBy day checks names told old new (Refused e) = OnFiles names told (λ m. Loads day m checks nothing_loaded (Err (refused e)))
ChecksStopBy day checks names told old new (TableRefused name k rec field) = StopsAtRefused day checks names told old new name k rec field
ChecksStopBy day checks names told old new (ReadFault name) = StopsAtUnread day checks names told old new name
ChecksStopBy day checks names told old new OutOfMemory = Unit {0}

-- What a script reads before it runs: the values of its literals and the rows of its files, each in
-- written order; or its first refusal, in the script or in a file, or its first missing file.
abbrev pub LoadsScript : ℤ → Contents → ScriptOut → Result Program Halt → Type 0
LoadsScript day files out (Ok p) = (l : Loaded) × Loads day files (checks_of out) nothing_loaded (Ok l) × (p ≡ record { values = l.values; files = l.files })
LoadsScript day files out (Err h) = Loads day files (checks_of out) nothing_loaded (Err h)

-- What a script may read, whatever its files are: the values of its literals and, for each COPY,
-- the rows of some bytes.
abbrev pub ReadsScript : ℤ → ScriptOut → Program → Type 0
ReadsScript day out p = (l : Loaded) × ReadsChecks day (checks_of out) nothing_loaded l × (p ≡ record { values = l.values; files = l.files })

-- what a script loads from visible files is something that it reads
abbrev pub LoadedIsRead : Type 0
LoadedIsRead = (day : ℤ) (files : Contents) (out : ScriptOut) (p : Program) → LoadsScript day files out (Ok p) → ReadsScript day out p

-- the program's result is what a script reads, or its first refusal, or out of memory
abbrev pub IsLoadOutcome : ℤ → Contents → ScriptOut → Result Program LoadEnd → Type 0
IsLoadOutcome day files out (Ok p) = LoadsScript day files out (Ok p)
IsLoadOutcome day files out (Err (Refused e)) = LoadsScript day files out (Err (refused e))
IsLoadOutcome day files out (Err (TableRefused name k rec field)) = LoadsScript day files out (Err (table_refused name k rec field))
IsLoadOutcome day files out (Err (ReadFault name)) = ⊥
IsLoadOutcome day files out (Err OutOfMemory) = Unit {0}

-- a script that is typed
abbrev pub IsTypedScript : ScriptOut → Type 0
IsTypedScript out = (ss : List StatementParts) × (typed_script ss ≡ Ok out)

-- the names of the files of the COPY statements, in order
abbrev pub copied_file : StatementOut → List (List ℕ)
copied_file (rows_from t name) = name ∷ []
copied_file _ = []

abbrev pub copied_files : List StatementOut → List (List ℕ)
copied_files ss = flat_map copied_file ss

-- the literals among checks
abbrev pub literal_of : CheckParts → List ConstText
literal_of (literal c) = c ∷ []
literal_of _ = []

abbrev pub literals_in : List CheckParts → List ConstText
literals_in cs = flat_map literal_of cs

-- each literal of a script is checked once, in written order
abbrev pub LooksAtLiterals : Type 0
LooksAtLiterals = (out : ScriptOut) → literals_in (checks_of out) ≡ out.consts

-- the values of a program are those of the script's literals, one by one, whatever its files are
abbrev pub ProgramHasValues : Type 0
ProgramHasValues = (day : ℤ) (out : ScriptOut) (p : Program) → ReadsScript day out p → AllZip (IsConstant day) out.consts p.values
