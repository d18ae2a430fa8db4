use Rattle.std.proofs.Common.{rules, inl, inr, ◌∙◌}
use Rattle.mob_outside.specs.EndsSeen.{files_seen, stream_seen}
use Rattle.mob_typed.specs.Statements.{script_seen}
use Rattle.mob_load.specs.Loads.{IsTypedScript}
use Rattle.mob_shell.{specs.Session.{SessionCanRun, SessionRuns}, proofs.Runnable.{script_can}, proofs.Seen.{can_all, loaded_ends, unloaded_ends}, proofs.Whole.{asks_none, keeps_all, refused_says}}
use Rattle.mob_statements.specs.Statements.{CanAllRun}
use Rattle.mob_shell.proofs.driver.judge.run_text.Goals as goal
use Rattle.mob_shell.specs.Terms.{terms_of}

pub run_session-requires : goal.run_session-requires
run_session-requires g c =
    let out = script_seen c.in-Ok.typed in
    let terms = terms_of c.args.settings in
    let program = c.in-Ok-load.program in
    let types = c.values_have_their_types.ensures in
    let typed : IsTypedScript out = (c.in-Ok.ensures.accepted.trees, c.in-Ok.ensures.accepted.script.typed) in
    let can = script_can c.scripts_are_well_typed.ensures.typed c.literals_have_their_values.ensures.values types.constants types.rows c.typed_queries_fit.ensures.fit terms out program typed c.in-Ok-load.ensures.reads in
    let all : CanAllRun SessionRuns SessionCanRun c.new-session.result c.as_slice-statements.result.now = rw c.as_slice-statements.ensures.same (can_all terms program c.in-Ok.typed c.new-session.result c.new-session.ensures.begins (c.new-session.ensures.terms ∙ c.terms_of.ensures.terms) can) in
    search (rules, all)

pub returns-in-Err-clause-ends : goal.returns-in-Err-clause-ends
returns-in-Err-clause-ends g c = inr (record {
  says = refused_says c.args.bytes.now c.in-Err.refusal c.refused.result c.in-Err.ensures.refused c.refused.ensures.ends;
  keeps = keeps_all _;
  asks = asks_none _ _;
})

pub returns-in-Err-load-clause-ends : goal.returns-in-Err-load-clause-ends
returns-in-Err-load-clause-ends g c =
    let files = files_seen g.F.Files.files g.F.Files.asked g.F.Files.faults c.args.files.now c.load.new.files in
    let out = stream_seen g.K.Sink.held g.K.Sink.faults c.args.out.now c.args.out.now in
    inl (record {
      script = script_seen c.in-Ok.typed;
      accepted = c.in-Ok.ensures.accepted;
      ends = rw c.unloaded.ensures.ends (unloaded_ends (terms_of c.args.settings) (script_seen c.in-Ok.typed) files out c.in-Err-load.end c.in-Err-load.ensures.stopped c.in-Err-load.ensures.cause (keeps_all _));
      asks = c.load.ensures.some;
    })

pub returns-clause-ends : goal.returns-clause-ends
returns-clause-ends g c =
    let files = files_seen g.F.Files.files g.F.Files.asked g.F.Files.faults c.args.files.now c.load.new.files in
    let out = stream_seen g.K.Sink.held g.K.Sink.faults c.args.out.now c.run_session.new.out in
    let ends = rw c.as_slice-statements.ensures.same at c.run_session.ensures.ends in
    inl (record {
      script = script_seen c.in-Ok.typed;
      accepted = c.in-Ok.ensures.accepted;
      ends = loaded_ends (terms_of c.args.settings) c.in-Ok-load.program c.in-Ok.typed c.new-session.result c.new-session.ensures.begins (c.new-session.ensures.terms ∙ c.terms_of.ensures.terms) files out _ c.run_session.result c.in-Ok-load.ensures.loaded ends;
      asks = c.load.ensures.some;
    })
