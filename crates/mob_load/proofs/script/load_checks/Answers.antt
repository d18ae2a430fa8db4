use Rattle.std.{proofs.Common.{rules, ◌≡◌, ◌∙◌, ◌+◌, ◌∷◌, sym, ap, subst, map, drop, take, List, Ok}, proofs.lemmas.List.{drop_more, drop_all, take_all}, proofs.lemmas.Result.{err_from_is_err_and}}
use Rattle.mob_load.{specs.Checks.{check_seen}, specs.declared.check.Check.{Check}, specs.Loads.{IsNarrow, Loads, loaded_of, nothing_loaded}, proofs.Narrow.{check_narrow, nothing_narrow}}
use Rattle.mob_load.{proofs.Asked.{around, asked_on, asked_some, files_here, front_more, asked_all, all_some, none_asked}, proofs.Reading.{all_unread, check_reads, none_unread}}
use Rattle.mob_load.{proofs.Steps.{keeps_same, keeps_on, passes_more, rose_before}, proofs.Stopping.{check_stops}}
use Rattle.mob_load.proofs.script.load_checks.Goals as goal

pub loop-check-init : goal.loop-check-init
loop-check-init g c = record {
  passed = λ m are. ap Ok c.nothing_loaded-loading.ensures.nothing;
  unread = all_unread c.args.epoch.now (map check_seen c.args.checks.now) (loaded_of c.nothing_loaded-loading.result) c.nothing_loaded-loading.ensures.nothing;
  files = keeps_same (g.F.Files.files c.args.files.now);
  asked = none_asked (g.F.Files.asked c.args.files.now);
  narrow = nothing_narrow (loaded_of c.nothing_loaded-loading.result) c.nothing_loaded-loading.ensures.nothing;
  later = search rules;
}

pub loop-check-preserved : goal.loop-check-preserved
loop-check-preserved g c =
    let all = c.args.checks.now in
    let i = c.loop-check.check-index in
    let x = c.check-item.result in
    let here : map check_seen (drop i all) ≡ check_seen x ∷ map check_seen (drop (i + 1) all) =
    ap (map check_seen) (drop_more all i x c.loop-check-test.true ∙ ap (λ y. y ∷ drop (i + 1) all) (sym c.check-item.is)) in
    record {
      passed = λ m are. passes_more c.args.epoch.now m (map check_seen (take i all)) (map check_seen (take (i + 1) all)) (check_seen x) (loaded_of c.loop-check.loading) (loaded_of c.run_check.new.loading)
          (front_more all i x c.loop-check-test.true c.check-item.is) (c.loop-check.invariant.passed m are)
          (c.in_ok-run_check.ensures.loads m (files_here all i x c.loop-check-test.true c.check-item.is (g.F.Files.files c.args.files.now) (g.F.Files.files c.loop-check.files) m c.loop-check.invariant.files are));
      unread = check_reads c.args.epoch.now (map check_seen all) (map check_seen (drop i all)) (map check_seen (drop (i + 1) all)) (check_seen x) here (loaded_of c.loop-check.loading)
          (loaded_of c.run_check.new.loading) c.loop-check.invariant.unread c.in_ok-run_check.ensures.reads;
      files = keeps_on (g.F.Files.files c.args.files.now) (g.F.Files.files c.loop-check.files) (g.F.Files.files c.run_check.new.files) c.loop-check.invariant.files c.in_ok-run_check.ensures.files;
      asked = asked_on all i x c.loop-check-test.true c.check-item.is (g.F.Files.asked c.args.files.now) (g.F.Files.asked c.loop-check.files) (g.F.Files.asked c.run_check.new.files)
          c.loop-check.invariant.asked c.in_ok-run_check.ensures.asked;
      narrow = c.in_ok-run_check.ensures.narrow;
      later = search rules;
    }

pub returns-in_err-run_check-clause-stopped : goal.returns-in_err-run_check-clause-stopped
returns-in_err-run_check-clause-stopped g c =
    let p = err_from_is_err_and c.from_residual.result c.from_residual.ensures.1 in
    let all = c.args.checks.now in
    let i = c.loop-check.check-index in
    let x = c.check-item.result in
    let at = c.loop-check.invariant in
    rw (p.1, p.2) (check_stops c.args.epoch.now (map check_seen (take i all)) (map check_seen (drop (i + 1) all)) (g.F.Files.files c.args.files.now) (g.F.Files.asked c.args.files.now) (g.F.Files.asked c.loop-check.files)
    (g.F.Files.asked c.run_check.new.files) at.asked (loaded_of c.loop-check.loading) (loaded_of c.run_check.new.loading) (map check_seen all) (check_seen x) (around all i x c.loop-check-test.true c.check-item.is) c.in_err-run_check.field-0.0 c.in_err-run_check.ensures.fault
    c.in_err-run_check.ensures.some c.in_err-run_check.ensures.asked at.passed
    (λ m are. c.in_err-run_check.ensures.loads m (files_here all i x c.loop-check-test.true c.check-item.is (g.F.Files.files c.args.files.now) (g.F.Files.files c.loop-check.files) m at.files are)))

pub returns-in_err-run_check-clause-cause : goal.returns-in_err-run_check-clause-cause
returns-in_err-run_check-clause-cause g c =
    let p = err_from_is_err_and c.from_residual.result c.from_residual.ensures.1 in
    rw (p.1, p.2) (rose_before (g.F.Files.faults c.args.files.now) (g.F.Files.faults c.loop-check.files) (g.F.Files.faults c.run_check.new.files) c.loop-check.invariant.later c.in_err-run_check.field-0.0 c.in_err-run_check.ensures.cause)

pub returns-in_err-run_check-clause-some : goal.returns-in_err-run_check-clause-some
returns-in_err-run_check-clause-some g c =
    asked_some c.args.checks.now c.loop-check.check-index c.check-item.result c.loop-check-test.true c.check-item.is (g.F.Files.asked c.args.files.now) (g.F.Files.asked c.loop-check.files)
    (g.F.Files.asked c.run_check.new.files) c.loop-check.invariant.asked c.in_err-run_check.ensures.some

pub returns-in_err-run_check-clause-files : goal.returns-in_err-run_check-clause-files
returns-in_err-run_check-clause-files g c =
    keeps_on (g.F.Files.files c.args.files.now) (g.F.Files.files c.loop-check.files) (g.F.Files.files c.run_check.new.files) c.loop-check.invariant.files c.in_err-run_check.ensures.files

pub returns-clause-loaded : goal.returns-clause-loaded
returns-clause-loaded g c =
    λ m are. subst (λ (cs : List Check). Loads c.args.epoch.now m (map check_seen cs) nothing_loaded (Ok (loaded_of c.loop-check.loading)))
    (take_all c.loop-check.check-index c.args.checks.now c.loop-check-test.false) (c.loop-check.invariant.passed m are)

pub returns-clause-reads : goal.returns-clause-reads
returns-clause-reads g c =
    none_unread c.args.epoch.now (map check_seen c.args.checks.now) (map check_seen (drop c.loop-check.check-index c.args.checks.now)) (loaded_of c.loop-check.loading)
    (ap (map check_seen) (drop_all c.loop-check.check-index c.args.checks.now c.loop-check-test.false)) c.loop-check.invariant.unread

pub returns-clause-asked : goal.returns-clause-asked
returns-clause-asked g c =
    asked_all c.args.checks.now c.loop-check.check-index (g.F.Files.asked c.args.files.now) (g.F.Files.asked c.loop-check.files) c.loop-check-test.false c.loop-check.invariant.asked

pub returns-clause-some : goal.returns-clause-some
returns-clause-some g c =
    all_some _ (g.F.Files.asked c.args.files.now) (g.F.Files.asked c.loop-check.files)
    (asked_all c.args.checks.now c.loop-check.check-index (g.F.Files.asked c.args.files.now) (g.F.Files.asked c.loop-check.files) c.loop-check-test.false c.loop-check.invariant.asked)

pub run_check-requires-clause-narrow : goal.run_check-requires-clause-narrow
run_check-requires-clause-narrow g c =
    subst (λ (x : Check). IsNarrow (check_seen x)) (sym c.check-item.is) (check_narrow c.args.checks.now c.loop-check.check-index c.check-item.result c.requires.narrow c.loop-check-test.true)
