use Rattle.std.proofs.Common.{◌≡◌, [], Ok, ap}
use Rattle.mob_load.{specs.Checks.{file}, specs.Loads.{LoadsCheck, LoadsLiteral, LoadsTo, loaded_of, one_row}, proofs.Asked.{asks_one, none_asked}, proofs.Narrow.{made_narrow, ok_on, same_narrow}}
use Rattle.mob_load.{proofs.Reading.{on_loads, on_read, read_on}, proofs.Steps.{may_ask_some, of_told}}
use Rattle.mob_load.proofs.checking.run_check.Goals as goal

pub returns-in-Literal-clause-narrow : goal.returns-in-Literal-clause-narrow
returns-in-Literal-clause-narrow g c = ok_on c.read_literal.result (same_narrow (loaded_of c.args.loading.now).tables (loaded_of c.read_literal.new.loading).tables c.requires.tables) c.read_literal.ensures.tables

pub returns-in-Table-clause-narrow : goal.returns-in-Table-clause-narrow
returns-in-Table-clause-narrow g c =
    let narrow = rw c.in-Table.is at c.requires.narrow in
    ok_on c.make_table.result (λ made. made_narrow (loaded_of c.args.loading.now) (loaded_of c.make_table.new.loading) c.in-Table.columns.now made narrow c.requires.tables) c.make_table.ensures.made

pub returns-in-Room-clause-narrow : goal.returns-in-Room-clause-narrow
returns-in-Room-clause-narrow g c = ok_on c.take_row.result (same_narrow (loaded_of c.args.loading.now).tables (loaded_of c.take_row.new.loading).tables c.requires.tables) c.take_row.ensures.tables

pub returns-in-File-clause-narrow : goal.returns-in-File-clause-narrow
returns-in-File-clause-narrow g c = ok_on c.load_file.result (same_narrow (loaded_of c.args.loading.now).tables (loaded_of c.load_file.new.loading).tables c.requires.tables) c.load_file.ensures.tables

pub returns-in-File-clause-some : goal.returns-in-File-clause-some
returns-in-File-clause-some g c = rw c.in-File.is (may_ask_some c.in-File.name.now (g.F.Files.asked c.args.files.now) (g.F.Files.asked c.load_file.new.files) c.load_file.ensures.may_ask)

pub returns-in-File-clause-loads : goal.returns-in-File-clause-loads
returns-in-File-clause-loads g c =
    rw c.in-File.is
    (of_told c.in-File.name.now _ (g.F.Files.files c.args.files.now) (λ m. LoadsTo c.load_file.result (loaded_of c.load_file.new.loading) (LoadsCheck c.args.epoch.now m (file c.in-File.table c.in-File.name.now) (loaded_of c.args.loading.now)))
    c.load_file.ensures.loads)

pub returns-in-Literal-clause-reads : goal.returns-in-Literal-clause-reads
returns-in-Literal-clause-reads g c =
    rw c.in-Literal.is
    (ok_on c.read_literal.result (λ h. ([], h))
    (on_loads (LoadsLiteral c.args.epoch.now c.in-Literal.literal.now (loaded_of c.args.loading.now)) c.read_literal.result (loaded_of c.read_literal.new.loading) c.read_literal.ensures.read))

pub returns-in-Table-clause-reads : goal.returns-in-Table-clause-reads
returns-in-Table-clause-reads g c = rw c.in-Table.is (ok_on c.make_table.result (λ made. ([], ap Ok made)) c.make_table.ensures.made)

pub returns-in-Room-clause-reads : goal.returns-in-Room-clause-reads
returns-in-Room-clause-reads g c =
    rw c.in-Room.is
    (ok_on c.take_row.result (λ h. ([], h))
    (on_loads (λ r. r ≡ one_row c.in-Room.table c.in-Room.statement c.in-Room.place (loaded_of c.args.loading.now)) c.take_row.result (loaded_of c.take_row.new.loading) c.take_row.ensures.row))

pub returns-in-File-clause-reads : goal.returns-in-File-clause-reads
returns-in-File-clause-reads g c = rw c.in-File.is c.load_file.ensures.reads

pub returns-in-Literal-clause-asked : goal.returns-in-Literal-clause-asked
returns-in-Literal-clause-asked g c = rw c.in-Literal.is (on_read c.read_literal.result (none_asked (g.F.Files.asked c.args.files.now)))

pub returns-in-Table-clause-asked : goal.returns-in-Table-clause-asked
returns-in-Table-clause-asked g c = rw c.in-Table.is (on_read c.make_table.result (none_asked (g.F.Files.asked c.args.files.now)))

pub returns-in-Room-clause-asked : goal.returns-in-Room-clause-asked
returns-in-Room-clause-asked g c = rw c.in-Room.is (on_read c.take_row.result (none_asked (g.F.Files.asked c.args.files.now)))

pub returns-in-File-clause-asked : goal.returns-in-File-clause-asked
returns-in-File-clause-asked g c =
    rw c.in-File.is (read_on c.load_file.result (asks_one c.in-File.name.now (g.F.Files.asked c.args.files.now) (g.F.Files.asked c.load_file.new.files)) c.load_file.ensures.asked)
