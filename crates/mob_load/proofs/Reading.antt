-- What a script has read, whatever its files are.
use Rattle.std.{specs.Prelude.{OnOk}, proofs.Common.{◌≡◌, refl, sym, subst, ℕ, ℤ, List, [], ◌∷◌, Option, Some, Result, Ok, Err}, proofs.lemmas.Slice.Eq.{bytes_eq-Decides}}
use Rattle.mob_outside.specs.Told.{Contents, file_of}
use Rattle.mob_typed.specs.Statements.{ScriptOut}
use Rattle.mob_load.specs.Checks.{CheckParts, file, checks_of}
use Rattle.mob_load.specs.Loads.{Loaded, Halt, Loads, LoadsCheck, LoadsFile, LoadsTo, LoadedIsRead, ContinuesBy, OnRead, ReadsCheck, ReadsChecks, ReadsScript, nothing_loaded}
use Rattle.mob_load.{specs.declared.program.LoadEnd.{LoadEnd}, specs.declared.program.LoadEnd.TheVariants.{Refused, TableRefused, ReadFault, NoMemory}, specs.declared.program.Program.{Program}}

-- the meaning of a good result
pub on_loads : {A : Type 0} (P : Result Loaded Halt → Type 0) (r : Result A LoadEnd) (after : Loaded) → LoadsTo r after P → OnOk r (P (Ok after))
on_loads P (Ok x) after h = h
on_loads P (Err e) after h = tt

-- what holds if a file was read, whatever its result
pub on_read : {A P : Type 0} (r : Result A LoadEnd) → P → OnRead r P
on_read (Ok x) p = p
on_read (Err (Refused e)) p = tt
on_read (Err (TableRefused name k rec field)) p = p
on_read (Err (ReadFault name)) p = tt
on_read (Err NoMemory) p = tt

pub read_on : {A P Q : Type 0} (r : Result A LoadEnd) → (P → Q) → OnRead r P → OnRead r Q
read_on (Ok x) f p = f p
read_on (Err (Refused e)) f p = tt
read_on (Err (TableRefused name k rec field)) f p = f p
read_on (Err (ReadFault name)) f p = tt
read_on (Err NoMemory) f p = tt

-- The remaining checks continue from what was read.
pub record ReadsOn (day : ℤ) (all rest : List CheckParts) (l : Loaded) : Type 0 where
  pub reads : (m : Loaded) → ReadsChecks day rest l m → ReadsChecks day all nothing_loaded m

module _ (day : ℤ) (all : List CheckParts) where
  pub all_unread : (l : Loaded) → l ≡ nothing_loaded → ReadsOn day all all l
  all_unread l nothing = record { reads = λ m h. subst (λ (x : Loaded). ReadsChecks day all x m) nothing h }

  pub none_unread : (rest : List CheckParts) (l : Loaded) → rest ≡ [] → ReadsOn day all rest l → ReadsChecks day all nothing_loaded l
  none_unread rest l is left =
      let last : ReadsOn day all [] l = subst (λ (cs : List CheckParts). ReadsOn day all cs l) is left in
      last.reads l refl

  -- a check that passes
  pub check_reads : (rest others : List CheckParts) (c : CheckParts) → rest ≡ c ∷ others → (l m : Loaded) → ReadsOn day all rest l → ReadsCheck day c l m → ReadsOn day all others m
  check_reads rest others c is l m left passes =
      let first : ReadsOn day all (c ∷ others) l = subst (λ (cs : List CheckParts). ReadsOn day all cs l) is left in
      record { reads = λ n h. first.reads n (m, passes, h) }

-- checks that all pass have read a program
pub program_read : (day : ℤ) (cs : List CheckParts) (out : ScriptOut) (l : Loaded) (p : Program) → cs ≡ checks_of out → p ≡ record { values = l.values; files = l.files }
    → ReadsChecks day cs nothing_loaded l → ReadsScript day out p
program_read day cs out l p same is reads = (l, subst (λ (x : List CheckParts). ReadsChecks day x nothing_loaded l) same reads, is)

-- a file with some bytes
pub bytes_read : (day : ℤ) (t : ℕ) (name bytes : List ℕ) (l m : Loaded) → LoadsFile day t name l (Some bytes) (Ok m) → ReadsCheck day (file t name) l m
bytes_read day t name bytes l m h =
    let own = (bytes_eq-Decides name name).1 refl in
    let found : file_of name ((name, bytes) ∷ []) ≡ Some bytes = rw own refl in
    ((name, bytes) ∷ [], subst (λ (o : Option (List ℕ)). LoadsFile day t name l o (Ok m)) (sym found) h)

-- what is read of visible files
module _ (day : ℤ) (files : Contents) where
  goes_read : (c : CheckParts) (cs : List CheckParts) (l m : Loaded) → ((k : Loaded) → Loads day files cs k (Ok m) → ReadsChecks day cs k m)
      → (s : Result Loaded Halt) → LoadsCheck day files c l s → ContinuesBy (Loads day files cs) s (Ok m) → ReadsChecks day (c ∷ cs) l m
  goes_read c cs l m each (Ok k) passes goes = (k, (files, passes), each k goes)
  goes_read c cs l m each (Err h) passes goes = absurd (cc)

  checks_read : (cs : List CheckParts) (l m : Loaded) → Loads day files cs l (Ok m) → ReadsChecks day cs l m
  checks_read [] l m is = let same : m ≡ l = cc in same
  checks_read (c ∷ cs) l m h = goes_read c cs l m (λ k rest. checks_read cs k m rest) h.0 h.1 h.2

pub loaded_is_read : LoadedIsRead
loaded_is_read day files out p loads = (loads.0, checks_read day files (checks_of out) nothing_loaded loads.0 loads.1, loads.2)
