-- `--wide` changes no answer of a run.
use Rattle.std.proofs.Common.{◌≡◌, subst, ℕ, ℤ, List, [], ◌∷◌, Option, Ok, sym}
use Rattle.mob_slice.specs.Modes.{mode_of}
use Rattle.mob_arguments.specs.declared.options.Settings.{Settings}
use Rattle.mob_typed.specs.Statements.{StatementOut, deletion, query, plan_of}
use Rattle.mob_load.specs.Loads.{LoadsScript}
use Rattle.mob_meaning.specs.declared.terms.Terms.{Terms}
use Rattle.mob_statements.specs.Statements.{Ran}
use Rattle.mob_shell.{specs.Inputs.{FilesBy, ScriptBy}, specs.Runs.{RunState, RunsStatement, StatementLeaves, StatementWrites, begin}}
use Rattle.mob_shell.specs.Terms.{terms_of}
use Rattle.mob_laws.{specs.WideAnswers.{AsksForWide, WideEndsTheSame, WideReadsTheSame, WideWritesTheSame}, proofs.WideQueries.{answer_wide, kept_wide, narrow_terms, wide_terms}}

-- ---- statements

module _ (epoch : ℤ) where
  leaves_wide : (s : RunState) (x : StatementOut) (t : RunState) → StatementLeaves (narrow_terms epoch) s x t → StatementLeaves (wide_terms epoch) s x t
  leaves_wide s (deletion q) t h = (h.0, (h.1.0, kept_wide q s.catalogue epoch h.1.0 h.1.1, h.1.2), h.2)
  leaves_wide s x t h = h

  writes_wide : (s : RunState) (x : StatementOut) (text : List ℕ) → StatementWrites (narrow_terms epoch) s x text → StatementWrites (wide_terms epoch) s x text
  writes_wide s (query q) text h = (h.0, (h.1.0, kept_wide q s.catalogue epoch h.1.0 h.1.1, answer_wide q s.catalogue.store epoch h.1.0 h.0 h.1.2), h.2)
  writes_wide s (deletion q) text h = h
  writes_wide s (plan_of q) text h = h
  writes_wide s x text h = h

  step_wide : (s : RunState) (x : StatementOut) (t : RunState) (text : List ℕ) → RunsStatement (narrow_terms epoch) s x t text → RunsStatement (wide_terms epoch) s x t text
  step_wide s x t text h = record { leaves = leaves_wide s x t h.leaves; writes = writes_wide s x text h.writes }

  ran_wide : (xs : List StatementOut) (s t : RunState) (text : List ℕ) → Ran (RunsStatement (narrow_terms epoch)) s xs t text → Ran (RunsStatement (wide_terms epoch)) s xs t text
  ran_wide [] s t text h = h
  ran_wide (x ∷ xs) s t text h = (h.0, h.1, h.2, step_wide s x h.0 h.1 h.3, ran_wide xs h.0 t h.2 h.4, h.5)

-- ---- runs

pub reads_the_same : WideReadsTheSame
reads_the_same one other differ s input h = record {
  script = subst (λ (d : Option ℕ). ScriptBy d s input.script) differ.demo h.script;
  files = subst (λ (d : Option ℕ). FilesBy d s input.script input.files) differ.demo h.files;
}

-- the terms of the two runs
without_is : (one other : Settings) → AsksForWide one other → terms_of one ≡ narrow_terms one.epoch
without_is one other differ = λ i. record { epoch = one.epoch; mode = mode_of (differ.without i) }

with_is : (one other : Settings) → AsksForWide one other → wide_terms one.epoch ≡ terms_of other
with_is one other differ = λ i. record { epoch = differ.epoch i; mode = mode_of (sym differ.asks i) }

pub writes_the_same : WideWritesTheSame
writes_the_same one other differ input text h = record {
  out = h.out;
  program = h.program;
  is = record { script = h.is.script; loads = subst (λ (day : ℤ). LoadsScript day input.files h.out (Ok h.program)) differ.epoch h.is.loads };
  stands = h.stands;
  ran = subst (λ (terms : Terms). Ran (RunsStatement terms) (begin h.program) h.out.statements h.stands text) (with_is one other differ)
      (ran_wide one.epoch h.out.statements (begin h.program) h.stands text
      (subst (λ (terms : Terms). Ran (RunsStatement terms) (begin h.program) h.out.statements h.stands text) (without_is one other differ) h.ran));
}

pub ends_the_same : WideEndsTheSame
ends_the_same one other differ input h = (h.0, writes_the_same one other differ input h.0 h.1)
