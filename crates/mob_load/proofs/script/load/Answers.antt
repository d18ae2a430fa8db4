use Rattle.std.proofs.Common.{◌≡◌, ◌∙◌, sym, ap, subst, map}
use Rattle.mob_typed.specs.Statements.{script_seen}
use Rattle.mob_load.{specs.Checks.{check_seen, checks_of}, specs.Loads.{AreNarrow, loaded_of}, proofs.Narrow.{script_narrow}, proofs.Asked.{script_asks, script_asks_some, script_files}}
use Rattle.mob_load.{proofs.Reading.{program_read}, proofs.Steps.{program_loaded, stopped_outcome}, proofs.Stopping.{script_stops}}
use Rattle.mob_load.proofs.script.load.Goals as goal

pub returns-in-Ok-clause-loaded : goal.returns-in-Ok-clause-loaded
returns-in-Ok-clause-loaded g c =
    let same : map check_seen c.deref.result.now ≡ checks_of (script_seen c.args.typed.now) = ap (map check_seen) c.deref.ensures.value ∙ c.in_ok-checks.ensures.in_order in
    λ m are. program_loaded c.args.epoch.now m (map check_seen c.deref.result.now) (script_seen c.args.typed.now) (loaded_of c.in-Ok.loading) c.program_of.result same c.program_of.ensures.read
    (c.in-Ok.ensures.loaded m (script_files (map check_seen c.deref.result.now) (script_seen c.args.typed.now) (g.F.Files.files c.args.files.now) m same are))

pub returns-in-Ok-clause-reads : goal.returns-in-Ok-clause-reads
returns-in-Ok-clause-reads g c =
    let same : map check_seen c.deref.result.now ≡ checks_of (script_seen c.args.typed.now) = ap (map check_seen) c.deref.ensures.value ∙ c.in_ok-checks.ensures.in_order in
    program_read c.args.epoch.now (map check_seen c.deref.result.now) (script_seen c.args.typed.now) (loaded_of c.in-Ok.loading) c.program_of.result same c.program_of.ensures.read c.in-Ok.ensures.reads

pub returns-in-Ok-clause-asked : goal.returns-in-Ok-clause-asked
returns-in-Ok-clause-asked g c =
    let same : map check_seen c.deref.result.now ≡ checks_of (script_seen c.args.typed.now) = ap (map check_seen) c.deref.ensures.value ∙ c.in_ok-checks.ensures.in_order in
    script_asks (map check_seen c.deref.result.now) (script_seen c.args.typed.now) (g.F.Files.asked c.args.files.now) (g.F.Files.asked c.load_checks.new.files) same c.in-Ok.ensures.asked

pub returns-in-Ok-clause-some : goal.returns-in-Ok-clause-some
returns-in-Ok-clause-some g c =
    let same : map check_seen c.deref.result.now ≡ checks_of (script_seen c.args.typed.now) = ap (map check_seen) c.deref.ensures.value ∙ c.in_ok-checks.ensures.in_order in
    script_asks_some (map check_seen c.deref.result.now) (script_seen c.args.typed.now) (g.F.Files.asked c.args.files.now) (g.F.Files.asked c.load_checks.new.files) same c.in-Ok.ensures.some

pub returns-clause-stopped : goal.returns-clause-stopped
returns-clause-stopped g c =
    let same : map check_seen c.deref.result.now ≡ checks_of (script_seen c.args.typed.now) = ap (map check_seen) c.deref.ensures.value ∙ c.in_ok-checks.ensures.in_order in
    script_stops c.args.epoch.now (map check_seen c.deref.result.now) (script_seen c.args.typed.now) (g.F.Files.files c.args.files.now) (g.F.Files.asked c.args.files.now) (g.F.Files.asked c.load_checks.new.files)
    c.in-Err.end same c.in-Err.ensures.stopped

pub returns-clause-some : goal.returns-clause-some
returns-clause-some g c =
    let same : map check_seen c.deref.result.now ≡ checks_of (script_seen c.args.typed.now) = ap (map check_seen) c.deref.ensures.value ∙ c.in_ok-checks.ensures.in_order in
    script_asks_some (map check_seen c.deref.result.now) (script_seen c.args.typed.now) (g.F.Files.asked c.args.files.now) (g.F.Files.asked c.load_checks.new.files) same c.in-Err.ensures.some

pub load_checks-requires : goal.load_checks-requires
load_checks-requires g c =
    let same : map check_seen c.deref.result.now ≡ checks_of (script_seen c.args.typed.now) = ap (map check_seen) c.deref.ensures.value ∙ c.in_ok-checks.ensures.in_order in
    record { narrow = subst AreNarrow (sym same) (script_narrow c.requires.typed.0 (script_seen c.args.typed.now) c.requires.typed.1) }

pub returns-in-Ok-clause-complete : goal.returns-in-Ok-clause-complete
returns-in-Ok-clause-complete g c =
    let same : map check_seen c.deref.result.now ≡ checks_of (script_seen c.args.typed.now) = ap (map check_seen) c.deref.ensures.value ∙ c.in_ok-checks.ensures.in_order in
    λ steady m are. program_loaded c.args.epoch.now m (map check_seen c.deref.result.now) (script_seen c.args.typed.now) (loaded_of c.in-Ok.loading) c.program_of.result same c.program_of.ensures.read
    (c.in-Ok.ensures.loaded m (script_files (map check_seen c.deref.result.now) (script_seen c.args.typed.now) (g.F.Files.files c.args.files.now) m same are))

pub returns-clause-complete : goal.returns-clause-complete
returns-clause-complete g c =
    let same : map check_seen c.deref.result.now ≡ checks_of (script_seen c.args.typed.now) = ap (map check_seen) c.deref.ensures.value ∙ c.in_ok-checks.ensures.in_order in
    let stops = script_stops c.args.epoch.now (map check_seen c.deref.result.now) (script_seen c.args.typed.now) (g.F.Files.files c.args.files.now) (g.F.Files.asked c.args.files.now)
    (g.F.Files.asked c.load_checks.new.files) c.in-Err.end same c.in-Err.ensures.stopped in
    λ steady m are. stopped_outcome c.args.epoch.now (script_seen c.args.typed.now) (g.F.Files.files c.args.files.now) (g.F.Files.asked c.args.files.now) (g.F.Files.asked c.load_checks.new.files) m are c.in-Err.end
    (g.F.Files.faults c.args.files.now) (g.F.Files.faults c.load_checks.new.files) steady c.in-Err.ensures.cause stops
