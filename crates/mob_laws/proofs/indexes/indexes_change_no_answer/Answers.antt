use Rattle.mob_laws.proofs.IndexedScripts.{change_no_answer, write_the_same, written_answered}
use Rattle.mob_laws.proofs.indexes.indexes_change_no_answer.Goals as goal

pub returns : goal.returns
returns c =
    let script = c.one_script.ensures.script in
    let meaning = c.one_meaning.ensures.values in
    let read = c.loaded_is_read.ensures.read in
    let values = c.literals_have_their_values.ensures.values in
    let loading = c.one_loading.ensures.loading in
    let answer = c.one_answer_to.ensures.outcome in
    record {
      answered = written_answered script;
      answers = change_no_answer script meaning read values loading answer;
      text = write_the_same script meaning read values loading answer;
    }
