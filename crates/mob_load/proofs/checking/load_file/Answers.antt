use Rattle.std.{specs.Prelude.{IfSome}, proofs.Common.{sym, subst, List, ℕ, Some}}
use Rattle.mob_catalog.specs.TableFile.{file_limit}
use Rattle.mob_outside.{specs.Told.{AsksFor}, specs.Fronts.{IsFront}}
use Rattle.mob_load.{specs.Loads.{LoadsFile, loaded_of}, proofs.Narrow.{ok_on}, proofs.Reading.{bytes_read, on_loads, on_read}, proofs.Steps.{file_loads}}
use Rattle.mob_load.proofs.checking.load_file.Goals as goal

pub returns-in-Ok-clause-loads : goal.returns-in-Ok-clause-loads
returns-in-Ok-clause-loads g c =
    let told = g.F.Files.files c.args.files.now in
    let named = subst (λ (n : List ℕ). IfSome told (λ m. IsFront file_limit n m c.in-Ok.bytes.items)) c.as_str.ensures.same c.in-Ok.ensures.bytes in
    let front = subst (λ (b : List ℕ). IfSome told (λ m. IsFront file_limit c.args.name.now m b)) (sym c.deref.ensures.value) named in
    file_loads c.args.epoch.now c.args.table c.args.name.now c.deref.result.now (loaded_of c.args.loading.now) told c.load_bytes.result (loaded_of c.load_bytes.new.loading)
    front c.load_bytes.ensures.loads

pub returns-in-Ok-clause-reads : goal.returns-in-Ok-clause-reads
returns-in-Ok-clause-reads g c =
    ok_on c.load_bytes.result (λ h. bytes_read c.args.epoch.now c.args.table c.args.name.now c.deref.result.now (loaded_of c.args.loading.now) (loaded_of c.load_bytes.new.loading) h)
    (on_loads (LoadsFile c.args.epoch.now c.args.table c.args.name.now (loaded_of c.args.loading.now) (Some c.deref.result.now)) c.load_bytes.result (loaded_of c.load_bytes.new.loading) c.load_bytes.ensures.loads)

pub returns-in-Ok-clause-asked : goal.returns-in-Ok-clause-asked
returns-in-Ok-clause-asked g c =
    let asks = subst (λ (n : List ℕ). AsksFor n (g.F.Files.asked c.args.files.now) (g.F.Files.asked c.read_file.new.files)) c.as_str.ensures.same c.in-Ok.ensures.asked in
    on_read c.load_bytes.result asks
