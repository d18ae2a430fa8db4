-- Scripts that differ only in CREATE INDEX statements have the same answers.
use Rattle.std.{specs.List.{AllByRecursion, concat}, proofs.Common.{◌≡◌, ◌∙◌, refl, sym, ap, subst, ℕ, ℤ, List, [], ◌∷◌, ◌++◌, map, Ok}}
use Rattle.mob_typed.specs.Statements.{ScriptOut, StatementOut, nothing, new_index, deletion, query, plan_of}
use Rattle.mob_outside.specs.Told.{Contents}
use Rattle.mob_accept.{specs.Accepts.{IsAccepted}, specs.Outcomes.{HasOneScript}}
use Rattle.mob_catalog.specs.Outcomes.{ConstantsHaveOneMeaning}
use Rattle.mob_load.{specs.Loads.{LoadedIsRead, LoadsScript, ProgramHasValues}, specs.Outcomes.{HasOneLoading}, specs.declared.program.Program.{Program}}
use Rattle.mob_tail.specs.Outcomes.{HasOneQueryAnswer}
use Rattle.mob_statements.specs.Statements.{Ran}
use Rattle.mob_shell.specs.Runs.{RunState, RunsStatement, StatementWrites, begin}
use Rattle.mob_laws.specs.IndexScripts.{Answered, DifferInIndexStatements, HasNoExplain, IndexesChangeNoAnswer, IndexesWriteTheSame, IsNoExplain, WrittenIsAnswered, answer_in, unplaced_literal}
use Rattle.mob_laws.{specs.IndexScripts.{without_indexes}, proofs.BareLoads.{program_alike}, proofs.BareRuns.{answered_alike}}
use Rattle.mob_meaning.specs.declared.terms.Terms.{Terms}
use Rattle.mob_shell.{specs.Terms.{terms_of}, proofs.SameAnswers.{same_terms}}

-- ---- the answers in the text

-- the text of a statement that is not an EXPLAIN
written_in : (terms : Terms) (s : RunState) (x : StatementOut) (text : List ℕ) → IsNoExplain x → StatementWrites terms s x text → (rest : List (List ℕ)) → text ++ concat rest ≡ concat (answer_in x text ++ rest)
written_in terms s (query q) text none h rest = refl
written_in terms s (plan_of q) text none h rest = absurd none
written_in terms s (deletion q) text none h rest = ap (λ (t : List ℕ). t ++ concat rest) h
written_in terms s _ text none h rest = ap (λ (t : List ℕ). t ++ concat rest) h

-- the answers of statements that ran, and their text if none of them is an EXPLAIN
record HasAnswers (terms : Terms) (s : RunState) (xs : List StatementOut) (text : List ℕ) : Type 0 where
  answers : List (List ℕ)
  answered : Answered terms s xs answers
  whole : AllByRecursion IsNoExplain xs → text ≡ concat answers

answers_of : (terms : Terms) (xs : List StatementOut) (s t : RunState) (text : List ℕ) → Ran (RunsStatement terms) s xs t text → HasAnswers terms s xs text
answers_of terms [] s t text h = record { answers = []; answered = refl; whole = λ none. h.1 }
answers_of terms (x ∷ xs) s t text h =
    let rest : HasAnswers terms h.0 xs h.2 = answers_of terms xs h.0 t h.2 h.4 in
    record {
      answers = answer_in x h.1 ++ rest.answers;
      answered = (h.0, h.1, rest.answers, h.3, rest.answered, refl);
      whole = λ none. h.5 ∙ ap (λ (r : List ℕ). h.1 ++ r) (rest.whole none.1) ∙ written_in terms s x h.1 none.0 h.3.writes rest.answers;
    }

-- without EXPLAIN, also for other CREATE INDEX statements
none_bare : (xs : List StatementOut) → AllByRecursion IsNoExplain xs → AllByRecursion IsNoExplain (without_indexes xs)
none_bare [] h = h
none_bare (nothing ∷ xs) h = none_bare xs h.1
none_bare (new_index n c name ∷ xs) h = none_bare xs h.1
none_bare (plan_of q ∷ xs) h = absurd h.0
none_bare (x ∷ xs) h = (tt, none_bare xs h.1)

none_there : (xs : List StatementOut) → AllByRecursion IsNoExplain (without_indexes xs) → AllByRecursion IsNoExplain xs
none_there [] h = h
none_there (nothing ∷ xs) h = (tt, none_there xs h)
none_there (new_index n c name ∷ xs) h = (tt, none_there xs h)
none_there (plan_of q ∷ xs) h = absurd h.0
none_there (x ∷ xs) h = (tt, none_there xs h.1)

module _ (script : HasOneScript) where
  no_explain : (bytes : List ℕ) (out : ScriptOut) → IsAccepted bytes out → HasNoExplain bytes → AllByRecursion IsNoExplain out.statements
  no_explain bytes out accepted h = subst (λ (o : ScriptOut). AllByRecursion IsNoExplain o.statements) (script bytes h.out out h.accepted accepted) h.none

  pub written_answered : WrittenIsAnswered
  written_answered settings input text h =
      let a : HasAnswers (terms_of settings) (begin h.program) h.out.statements text = answers_of (terms_of settings) h.out.statements (begin h.program) h.stands text h.ran in (
        a.answers,
        record { out = h.out; program = h.program; is = h.is; answered = a.answered },
        λ none. a.whole (no_explain input.script h.out h.is.script none),
      )

  module _ (meaning : ConstantsHaveOneMeaning) (read : LoadedIsRead) (values : ProgramHasValues) (loading : HasOneLoading) (one : HasOneQueryAnswer) where
    -- for the same terms, accepted scripts and the same files
    scripts_alike : (terms : Terms) (files : Contents) (out others : ScriptOut) (p q : Program) (a b : List (List ℕ)) → DifferInIndexStatements out others → LoadsScript terms.epoch files out (Ok p) → LoadsScript terms.epoch files others (Ok q) → Answered terms (begin p) out.statements a → Answered terms (begin q) others.statements b → a ≡ b
    scripts_alike terms files out others p q a b differ loads loaded h k =
        let same : p ≡ q = program_alike meaning read values loading terms.epoch files out others p q differ loads loaded in
        let there : Answered terms (begin p) others.statements b = subst (λ (r : Program). Answered terms (begin r) others.statements b) (sym same) k in
        answered_alike one terms out.statements others.statements (begin p) a b differ.statements h there

    pub change_no_answer : IndexesChangeNoAnswer
    change_no_answer settings others workers one other differ a b h k =
        let out : h.out ≡ differ.out = script one.script h.out differ.out h.is.script differ.first in
        let second : k.out ≡ differ.others = script other.script k.out differ.others k.is.script differ.second in
        let scripts : DifferInIndexStatements h.out k.out = record {
          statements = ap (λ (o : ScriptOut). without_indexes o.statements) out ∙ differ.scripts.statements ∙ sym (ap (λ (o : ScriptOut). without_indexes o.statements) second);
          literals = ap (λ (o : ScriptOut). map unplaced_literal o.consts) out ∙ differ.scripts.literals ∙ sym (ap (λ (o : ScriptOut). map unplaced_literal o.consts) second);
        } in
        let loads : LoadsScript settings.epoch one.files k.out (Ok k.program) = subst (λ (day : ℤ). LoadsScript day one.files k.out (Ok k.program)) (sym workers.epoch) (subst (λ (files : Contents). LoadsScript others.epoch files k.out (Ok k.program)) (sym differ.files) k.is.loads) in
        let there : Answered (terms_of settings) (begin k.program) k.out.statements b = subst (λ (terms : Terms). Answered terms (begin k.program) k.out.statements b) (sym (same_terms settings others workers)) k.answered in
        scripts_alike (terms_of settings) one.files h.out k.out h.program k.program a b scripts h.is.loads loads h.answered there

    pub write_the_same : IndexesWriteTheSame
    write_the_same settings others workers one other differ none text more h k =
        let a = written_answered settings one text h in
        let b = written_answered others other more k in
        let plain : AllByRecursion IsNoExplain differ.out.statements = no_explain one.script differ.out differ.first none in
        let bare : AllByRecursion IsNoExplain (without_indexes differ.others.statements) = subst (λ (ss : List StatementOut). AllByRecursion IsNoExplain ss) differ.scripts.statements (none_bare differ.out.statements plain) in
        let alike : HasNoExplain other.script = record { out = differ.others; accepted = differ.second; none = none_there differ.others.statements bare } in
        a.2 none ∙ ap concat (change_no_answer settings others workers one other differ a.0 b.0 a.1 b.1) ∙ sym (b.2 alike)
