-- Workers and indexes change no answer.
use Rattle.std.proofs.Common.{◌≡◌, ◌∙◌, ap, sym, subst, inl, inr, take, ℕ, ℤ, List, Option, Some, None, Ok, Err}
use Rattle.mob_arguments.specs.declared.options.Settings.{Settings}
use Rattle.mob_typed.{specs.Selects.{TypedSelectParts}, specs.Statements.{ScriptOut}}
use Rattle.mob_value.specs.declared.store.Store.{Store}
use Rattle.mob_catalog.{specs.Catalogue.{Catalogue, live_of, live_rows, with_changed, with_deleted, without_rows}, specs.declared.catalog.TableHead.{TableHead}}
use Rattle.mob_slice.specs.Modes.{mode_of}
use Rattle.mob_meaning.specs.Scene.{scene}
use Rattle.mob_join.{specs.Deleted.{first_rows}, specs.KeptTuples.{AreThoseThatMeet}, specs.Query.{IsKept, IsMet, IsMetAt, condition_at, conditions}, proofs.KeptTuples.{those_once}}
use Rattle.mob_tail.specs.Answers.{IsAnswerOnKept}
use Rattle.mob_load.{specs.Loads.{Halt, LoadsScript, missing, refused, table_refused}, specs.declared.program.Program.{Program}}
use Rattle.mob_eval.specs.QueryFaults.{TupleFault}
use Rattle.mob_ending.{specs.declared.ending.Ending.{Ending}, specs.declared.ending.Ending.TheVariants.{Done, Usage, ReadFault, WriteFault, NoMemory, TableRefused, ScriptRefused, Overflow}}
use Rattle.mob_shell.{specs.Answers.{QueryAnswers}, specs.Deletes.{deleted_table}, specs.Ending.{IsDue}, specs.Inputs.{FilesBy, Input, ScriptBy}}
use Rattle.mob_shell.{specs.Program.{IsHalted, IsProgram, ProgramWrites, StopsWith}, specs.Runs.{RunsStatement, Stops, begin}}
use Rattle.mob_shell.specs.SameAnswers.{DifferInWorkers, IndexesAnswerTheSame, IndexesDeleteTheSame, IndexesKeepTheSame, WorkersEndTheSame, WorkersReadTheSame, WorkersWriteTheSame}
use Rattle.mob_shell.specs.StepOutcomes.{OneAnswer}
use Rattle.mob_statements.specs.Statements.{Ran}
use Rattle.mob_meaning.specs.declared.terms.Terms.{Terms}
use Rattle.mob_shell.specs.Terms.{terms_of}

-- ---- workers

pub same_terms : (one other : Settings) → DifferInWorkers one other → terms_of one ≡ terms_of other
same_terms one other differ = λ i. record { epoch = differ.epoch i; mode = mode_of (differ.wide i) }

pub read_the_same : WorkersReadTheSame
read_the_same one other differ s input h = record {
  script = subst (λ (d : Option ℕ). ScriptBy d s input.script) differ.demo h.script;
  files = subst (λ (d : Option ℕ). FilesBy d s input.script input.files) differ.demo h.files;
}

module _ (one other : Settings) (differ : DifferInWorkers one other) (input : Input) where
  other_program : (out : ScriptOut) (program : Program) → IsProgram one input out program → IsProgram other input out program
  other_program out program h = record { script = h.script; loads = subst (λ (d : ℤ). LoadsScript d input.files out (Ok program)) differ.epoch h.loads }

  other_halt : (halt : Halt) → IsHalted one input halt → IsHalted other input halt
  other_halt halt h = record { out = h.out; script = h.script; loads = subst (λ (d : ℤ). LoadsScript d input.files h.out (Err halt)) differ.epoch h.loads }

  other_text : (text : List ℕ) → ProgramWrites one input text → ProgramWrites other input text
  other_text text h = record {
    out = h.out;
    program = h.program;
    is = other_program h.out h.program h.is;
    stands = h.stands;
    ran = subst (λ (d : Terms). Ran (RunsStatement d) (begin h.program) h.out.statements h.stands text) (same_terms one other differ) h.ran;
  }

  other_stop : (text : List ℕ) (number : ℕ) (f : TupleFault) → StopsWith one input text number f → StopsWith other input text number f
  other_stop text number f h = record {
    out = h.out;
    program = h.program;
    is = other_program h.out h.program h.is;
    before = h.before;
    counts = h.counts;
    stands = h.stands;
    ran = subst (λ (d : Terms). Ran (RunsStatement d) (begin h.program) (take h.before h.out.statements) h.stands text) (same_terms one other differ) h.ran;
    statement = h.statement;
    there = h.there;
    stops = subst (λ (d : Terms). Stops d h.stands h.statement f) (same_terms one other differ) h.stops;
  }

  other_due : (ending : Ending) → IsDue one input ending → IsDue other input ending
  other_due Done h = (h.0, other_text h.0 h.1)
  other_due Usage h = h
  other_due (ReadFault None) h = h
  other_due (ReadFault (Some file)) h = other_halt (missing file) h
  other_due WriteFault h = h
  other_due NoMemory h = h
  other_due (TableRefused name kind rec field) h = other_halt (table_refused name kind rec field) h
  other_due (ScriptRefused e) (inl text) = inl text
  other_due (ScriptRefused e) (inr halted) = inr (other_halt (refused e) halted)
  other_due (Overflow number rows place formula) h = (h.0, other_stop h.0 number (rows, (place, formula)) h.1)

pub end_the_same : WorkersEndTheSame
end_the_same one other differ input ending h = other_due one other differ input ending h

pub write_the_same : WorkersWriteTheSame
write_the_same one other differ input text h = other_text one other differ input text h

-- ---- indexes

-- the tuples on which WHERE is true, by the store and the live rows
abbrev MeetOn : TypedSelectParts → Terms → List (List ℕ) → Store → List TableHead → Type 0
MeetOn select terms kept store heads = AreThoseThatMeet (conditions select) (λ visit. IsMet (condition_at select visit.on) (scene store select.from visit.tuple terms)) (live_of heads) select.from kept

pub keep_the_same : IndexesKeepTheSame
keep_the_same select one other terms kept others differ h k =
    let there : MeetOn select terms others other.store other.heads = k.1 in
    let here : MeetOn select terms others one.store one.heads =
    subst (λ (heads : List TableHead). MeetOn select terms others one.store heads) (sym differ.heads) (subst (λ (store : Store). MeetOn select terms others store other.heads) (sym differ.store) there) in
    those_once (conditions select) (IsMetAt select one terms) (live_rows one) select.from kept others h.1 here

pub delete_the_same : IndexesKeepTheSame → IndexesDeleteTheSame
delete_the_same keeps select one other terms left others differ h k =
    let kept : h.0 ≡ k.0 = keeps select one other terms h.0 k.0 differ h.1 k.1 in
    let heads : (with_deleted (deleted_table select) (first_rows h.0) one).heads ≡ (with_deleted (deleted_table select) (first_rows k.0) other).heads =
    ap (λ (heads : List TableHead). with_changed (deleted_table select) (without_rows (first_rows h.0)) heads) differ.heads
    ∙ ap (λ (rows : List (List ℕ)). with_changed (deleted_table select) (without_rows (first_rows rows)) other.heads) kept in
    record {
      store = ap (λ (c : Catalogue). c.store) h.2 ∙ differ.store ∙ ap (λ (c : Catalogue). c.store) (sym k.2);
      heads = ap (λ (c : Catalogue). c.heads) h.2 ∙ heads ∙ ap (λ (c : Catalogue). c.heads) (sym k.2);
    }

pub answer_the_same : OneAnswer → IndexesAnswerTheSame
answer_the_same once select one other terms rows others differ h k =
    let here : QueryAnswers select one terms (Ok others) = (
      k.0,
      subst (λ kept. IsKept select one terms (Ok kept)) (keep_the_same select one other terms h.0 k.0 differ h.1 k.1) h.1,
      subst (λ (store : Store). IsAnswerOnKept select store terms k.0 (Ok others)) (sym differ.store) k.2,
    ) in
    let e = once select one terms (Ok rows) (Ok others) h here in
    cc e
