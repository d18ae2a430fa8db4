use Rattle.std.proofs.Common.{rules, arith, refl}
use Rattle.mob_thin_run.proofs.rows.thin_records.Goals as goal
use Rattle.mob_thin_run.{specs.ThinRows.{IsThinRecord, RowTestsFit}, proofs.Zips.{zip_next, all_more, row_fault_at, row_found}}

pub returns-in-Err-clause-first : goal.returns-in-Err-clause-first
returns-in-Err-clause-first c =
    let at = c.loop-row in
    let row = c.in-Some.row.now in
    let here = row_found c.args.rows.now at.number row c.in-Some.ensures.row in
    rw c.fault_at.ensures.value (row_fault_at c.args.mode c.args.d.now c.args.rows.now at.number row at.number c.in-Err.fault here.0 here.1 refl at.invariant.fit c.in-Err.ensures.first)

pub loop-row-preserved : goal.loop-row-preserved
loop-row-preserved c =
    let at = c.loop-row in
    let row = c.in-Some.row.now in
    let here = row_found c.args.rows.now at.number row c.in-Some.ensures.row in
    record {
      within = let lt = here.0 in omega (arith, lt);
      made = zip_next c.args.rows.now at.number row here.0 here.1 (IsThinRecord c.args.d.now c.args.epoch.now) at.records c.push.new.self c.in-Ok.fields (search rules) at.invariant.made c.in-Ok.ensures.fields;
      fit = all_more c.args.rows.now at.number row here.0 here.1 (RowTestsFit c.args.mode c.args.d.now) at.invariant.fit c.in-Ok.ensures.fit;
    }
