-- One check after another.
use Rattle.std.{specs.Prelude.{IfSome}, proofs.Common.{◌≡◌, ◌∙◌, inl, inr, refl, sym, ap, subst, arith, ℕ, ℤ, ◌-◌, ◌+◌, ◌≤◌, rules, List, [], ◌∷◌, ◌++◌, take, Option, Some, None, Result, Ok, Err}}
use Rattle.std.proofs.lemmas.List.{append-nil}
use Rattle.mob_ast.specs.declared.refusal.Kind.{Kind}
use Rattle.mob_outside.{specs.Faults.{Rose}, specs.Fronts.{IsFront}, specs.Told.{Contents, file_of, KeepsFiles, MayAskFor}}
use Rattle.mob_typed.specs.Statements.{ColumnList, ScriptOut}
use Rattle.mob_load.{specs.declared.program.Program.{Program}, specs.Checks.{CheckParts, file, checks_of}, specs.Fronts.{AreFilesFor, AsksForSome, OnFiles}}
use Rattle.mob_load.specs.Loads.{LoadsTo, Halt, HasFaultCause, IsLoadOutcome, refused, table_refused, Loaded, Loads, LoadsScript, LoadsCheck, LoadsFile, RefusesFile, ChecksStopBy, ContinuesBy}
use Rattle.mob_load.{specs.Loads.{copied_files, loaded_columns, greatest_rows, loaded_row_count, nothing_loaded}, specs.declared.program.LoadEnd.{LoadEnd}}
use Rattle.mob_load.{specs.declared.program.LoadEnd.TheVariants.{Refused, TableRefused, ReadFault, NoMemory}, proofs.Fronts.{table_front, fails_front}}
use Rattle.mob_catalog.{specs.Faults.{file_fault}, specs.TableFile.{file_limit, FileFails}}

-- a refused file
pub file_refused : (day : ℤ) (t : ℕ) (name copy bytes : List ℕ) (l : Loaded) (columns : ColumnList) (room rec field : ℕ) (k : Kind)
    → FileFails columns day room bytes (file_fault k rec field) → columns ≡ loaded_columns l t → room ≡ greatest_rows - loaded_row_count l t → copy ≡ name
    → LoadsFile day t name l (Some bytes) (Err (table_refused copy k rec field))
file_refused day t name copy bytes l columns room rec field k fails p q same = (
  file_fault k rec field,
  subst (λ (cs : ColumnList). FileFails cs day (greatest_rows - loaded_row_count l t) bytes (file_fault k rec field)) p (subst (λ (n : ℕ). FileFails columns day n bytes (file_fault k rec field)) q fails),
  ap (λ (n : List ℕ). table_refused n k rec field) same,
)

-- a consequence for a result
pub loads_on : {A : Type 0} (P Q : Result Loaded Halt → Type 0) → ((x : Result Loaded Halt) → P x → Q x) → (r : Result A LoadEnd) (after : Loaded) → LoadsTo r after P → LoadsTo r after Q
loads_on P Q f (Ok x) after h = f (Ok after) h
loads_on P Q f (Err (Refused e)) after h = f (Err (refused e)) h
loads_on P Q f (Err (TableRefused n k rec field)) after h = f (Err (table_refused n k rec field)) h
loads_on P Q f (Err (ReadFault n)) after h = tt
loads_on P Q f (Err NoMemory) after h = tt

-- the front of a file has the result of the file
whole_loads : (day : ℤ) (t : ℕ) (name whole : List ℕ) (l : Loaded) (x : Result Loaded Halt)
    → LoadsFile day t name l (Some (take (file_limit + 1) whole)) x → LoadsFile day t name l (Some whole) x
whole_loads day t name whole l (Ok m) h = (h.0, table_front (loaded_columns l t) day (greatest_rows - loaded_row_count l t) whole h.0 h.1, h.2)
whole_loads day t name whole l (Err e) h = (h.0, fails_front (loaded_columns l t) day (greatest_rows - loaded_row_count l t) whole h.0 h.1, h.2)

-- what is visible of the file that a check asks for
pub of_told : (name : List ℕ) (names : List (List ℕ)) (told : Option Contents) (P : Contents → Type 0) → IfSome told P → OnFiles (name ∷ names) told P
of_told name names None P h files (inl is) = cc
of_told name names (Some m) P h files (inl is) = let same : m ≡ files = cc is in subst P same h
of_told name names told P h files (inr none) = cc

pub file_loads : {A : Type 0} (day : ℤ) (t : ℕ) (name bytes : List ℕ) (l : Loaded) (files : Option Contents) (r : Result A LoadEnd) (after : Loaded)
    → IfSome files (λ m. IsFront file_limit name m bytes) → LoadsTo r after (LoadsFile day t name l (Some bytes)) → IfSome files (λ m. LoadsTo r after (LoadsFile day t name l (file_of name m)))
file_loads day t name bytes l None r after is gives = tt
file_loads day t name bytes l (Some m) r after is gives =
    loads_on (LoadsFile day t name l (Some bytes)) (LoadsFile day t name l (file_of name m))
    (λ x h. subst (λ (o : Option (List ℕ)). LoadsFile day t name l o x) (sym is.1)
    (whole_loads day t name is.0 l x (subst (λ (b : List ℕ). LoadsFile day t name l (Some b) x) is.2 h)))
    r after gives

-- a file that may have been asked for
pub may_ask_some : (name : List ℕ) (old new : Option (List (List ℕ))) → MayAskFor name old new → AsksForSome (name ∷ []) old new
may_ask_some name None new may = (0, omega arith, tt)
may_ask_some name (Some old) new (inl kept) = (0, omega arith, kept ∙ ap (λ (ns : List (List ℕ)). Some ns) (sym (append-nil old)))
may_ask_some name (Some old) new (inr asks) = (1, omega arith, asks)

module _ (day : ℤ) (files : Contents) where
  goes_behind : (cs rest : List CheckParts) (m : Loaded) (r : Result Loaded Halt) → ((k : Loaded) → Loads day files cs k (Ok m) → Loads day files (cs ++ rest) k r)
      → (s : Result Loaded Halt) → ContinuesBy (Loads day files cs) s (Ok m) → ContinuesBy (Loads day files (cs ++ rest)) s r
  goes_behind cs rest m r on (Ok k) passes = on k passes
  goes_behind cs rest m r on (Err h) passes = absurd (cc)

  -- checks after some that all pass
  pub loads_behind : (first rest : List CheckParts) (l m : Loaded) (r : Result Loaded Halt) → Loads day files first l (Ok m) → Loads day files rest m r → Loads day files (first ++ rest) l r
  loads_behind [] rest l m r is loads = let same : m ≡ l = cc in subst (λ (x : Loaded). Loads day files rest x r) same loads
  loads_behind (c ∷ cs) rest l m r passes loads = (passes.0, passes.1, goes_behind cs rest m r (λ k passed. loads_behind cs rest k m r passed loads) passes.0 passes.2)

  -- one more check that passes, after those that come first
  pub passes_more : (first more : List CheckParts) (c : CheckParts) (l m : Loaded) → more ≡ first ++ c ∷ [] → Loads day files first nothing_loaded (Ok l) → LoadsCheck day files c l (Ok m) → Loads day files more nothing_loaded (Ok m)
  passes_more first more c l m is passed passes =
      subst (λ (cs : List CheckParts). Loads day files cs nothing_loaded (Ok m)) (sym is) (loads_behind first (c ∷ []) nothing_loaded l (Ok m) passed (Ok m, passes, refl))

  -- a refused file decides
  pub refused_loads : (checks : List CheckParts) (number : ℕ) (name : List ℕ) (kind : Kind) (rec field : ℕ) → RefusesFile day files checks number name kind rec field
      → Loads day files checks nothing_loaded (Err (table_refused name kind rec field))
  refused_loads checks number name kind rec field h =
      let at = h.reached in
      subst (λ (cs : List CheckParts). Loads day files cs nothing_loaded (Err (table_refused name kind rec field))) (sym at.parts)
      (loads_behind at.first (file at.target name ∷ at.last) nothing_loaded at.read (Err (table_refused name kind rec field)) at.passed (Err (table_refused name kind rec field), h.refused, refl))

pub keeps_same : (told : Option Contents) → KeepsFiles told told
keeps_same None = tt
keeps_same (Some m) = refl

pub keeps_on : (a b c : Option Contents) → KeepsFiles a b → KeepsFiles b c → KeepsFiles a c
keeps_on None b c first next = tt
keeps_on (Some m) b c first next = subst (λ (o : Option Contents). KeepsFiles o c) first next

pub rose_before : (a b c : ℕ) → a ≤ b → (e : LoadEnd) → HasFaultCause b c e → HasFaultCause a c e
rose_before a b c le (Refused e) cause = tt
rose_before a b c le (TableRefused name k rec field) cause = tt
rose_before a b c le (ReadFault name) cause = search (arith, rules)
rose_before a b c le NoMemory cause = tt

-- checks that all pass give a program
pub program_loaded : (day : ℤ) (files : Contents) (cs : List CheckParts) (out : ScriptOut) (l : Loaded) (p : Program) → cs ≡ checks_of out → p ≡ record { values = l.values; files = l.files }
    → Loads day files cs nothing_loaded (Ok l) → LoadsScript day files out (Ok p)
program_loaded day files cs out l p same is loads = (l, subst (λ (x : List CheckParts). Loads day files x nothing_loaded (Ok l)) same loads, is)

-- if no count rose, the result is that of loading
pub stopped_outcome : (day : ℤ) (out : ScriptOut) (told : Option Contents) (old new : Option (List (List ℕ))) (files : Contents) → AreFilesFor (copied_files out.statements) told files → (e : LoadEnd) (before now : ℕ)
    → (Rose before now → ⊥) → HasFaultCause before now e → ChecksStopBy day (checks_of out) (copied_files out.statements) told old new e → IsLoadOutcome day files out (Err e)
stopped_outcome day out told old new files are (Refused e) before now steady cause stops = stops files are
stopped_outcome day out told old new files are (TableRefused name k rec field) before now steady cause stops = refused_loads day files (checks_of out) stops.number name k rec field (stops.refused files are)
stopped_outcome day out told old new files are (ReadFault name) before now steady cause stops = absurd (steady cause)
stopped_outcome day out told old new files are NoMemory before now steady cause stops = tt
