use Rattle.std.{proofs.Common.{◌≡◌, ◌+◌, ◌++◌, ◌∷◌, [], List, ap, sym, subst, drop, length, length-append, inl, inr, arith}, proofs.lemmas.List.{length-drop}, proofs.lemmas.Result.{err_from_is_err_and}}
use Rattle.csv.specs.Records.{fields_of}
use Rattle.mob_ast.specs.declared.refusal.Kind.TheVariants.{BadHeader, Limit}
use Rattle.mob_catalog.{specs.Faults.{file_fault}, specs.RecordsLeft.{IsReading, NextRowFails}, specs.TableFile.{Field, RecordsFail}}
use Rattle.mob_catalog.proofs.Reading.{Walked, walk_begun, walk_count, walk_next, walk_ended, walk_fails, walk_full}
use Rattle.mob_list.proofs.Faults.{cause_weaker}
use Rattle.mob_catalog.proofs.table_file.rows_below.Goals as goal

pub has_header-requires : goal.has_header-requires
has_header-requires c = record { reading = (c.requires.few.0, c.requires.few.1) }

pub returns-then-not-found-clause-first_fault : goal.returns-then-not-found-clause-first_fault
returns-then-not-found-clause-first_fault c =
    cause_weaker (λ f. f ≡ file_fault BadHeader 1 0) (λ f. (records : List (List Field)) → IsReading c.args.reader.now records → RecordsFail c.args.columns.now c.args.epoch.now c.args.room records f)
    (λ f is records h. inl (rw c.if-not-found.true at (c.in_ok-found.ensures.header records h), is)) c.record_fault.result c.record_fault.ensures.refused

pub loop-before-init : goal.loop-before-init
loop-before-init c =
    let none : c.args.rows.now ≡ [] = c.requires.none in
    let few = c.requires.few in
    let first = rw c.if-not-found.false at (c.in_ok-found.ensures.header few.0 few.1) in
    record {
      reads = (drop 1 few.0, first.1);
      count = ap length none;
      walked = λ records h.
          let below = rw c.if-not-found.false at (c.in_ok-found.ensures.header records h) in
          (below.0, subst (λ z. Walked c.args.columns.now c.args.epoch.now (drop 1 records) 0 z c.has_header.new.reader) (sym none) (walk_begun c.args.columns.now c.args.epoch.now (drop 1 records) c.has_header.new.reader below.1));
    }

-- the number of a record fits
pub overflow_add-before : goal.overflow_add-before
overflow_add-before c =
    let at = c.loop-before in
    let few = c.requires.few in
    let read = walk_count c.args.columns.now c.args.epoch.now (drop 1 few.0) at.before at.rows at.reader (at.invariant.walked few.0 few.1).1 in
    omega (arith, read, length-drop 1 few.0, few.2)

pub returns-in_default-clause-rows : goal.returns-in_default-clause-rows
returns-in_default-clause-rows c = λ records h.
    let at = c.loop-before in
    let w = at.invariant.walked records h in
    (w.0, walk_ended c.args.columns.now c.args.epoch.now (drop 1 records) at.before at.rows at.reader w.1 (rw c.in_default.is at (c.in_ok-row.ensures.row w.1.others w.1.going)))

pub returns-in_err-row-clause-first_fault : goal.returns-in_err-row-clause-first_fault
returns-in_err-row-clause-first_fault c =
    let at = c.loop-before in
    let columns = c.args.columns.now in
    let day = c.args.epoch.now in
    let p = err_from_is_err_and c.from_residual-in_err-row.result c.from_residual-in_err-row.ensures.1 in
    rw (p.1, p.2)
    (cause_weaker (λ f. (records : List (List Field)) → IsReading at.reader records → NextRowFails columns day (at.before + 2) records f)
    (λ f. (records : List (List Field)) → IsReading c.args.reader.now records → RecordsFail columns day c.args.room records f)
    (λ f q records h. let w = at.invariant.walked records h in inr (w.0, walk_fails columns day (drop 1 records) c.args.room at.before at.rows at.reader w.1 f (omega arith) (q w.1.others w.1.going)))
    c.in_err-row.field-0.0 c.in_err-row.ensures.fault)

pub loop-before-preserved : goal.loop-before-preserved
loop-before-preserved c =
    let at = c.loop-before in
    let columns = c.args.columns.now in
    let day = c.args.epoch.now in
    let row = c.in-Some.row in
    let pushed : c.push.new.self ≡ at.rows ++ row ∷ [] = c.in_ok-push.ensures.pushed in
    let few = c.requires.few in
    let first = (at.invariant.walked few.0 few.1).1 in
    let next = rw c.in-Some.is at (c.in_ok-row.ensures.row first.others first.going) in
    record {
      reads = (next.1, next.4);
      count = omega (arith, ap length pushed, length-append at.rows (row ∷ []), at.invariant.count);
      walked = λ records h.
          let w = at.invariant.walked records h in (
            w.0,
            subst (λ z. Walked columns day (drop 1 records) (at.before + 1) z c.next_row.new.reader) (sym pushed)
                (walk_next columns day (drop 1 records) at.before at.rows row at.reader c.next_row.new.reader w.1 (rw c.in-Some.is at (c.in_ok-row.ensures.row w.1.others w.1.going))),
          );
    }

pub overflow_add-room : goal.overflow_add-room
overflow_add-room c =
    let at = c.loop-before in
    let few = c.requires.few in
    let read = walk_count c.args.columns.now c.args.epoch.now (drop 1 few.0) at.before at.rows at.reader (at.invariant.walked few.0 few.1).1 in
    omega (arith, read, length-drop 1 few.0, few.2)

pub returns-then-is_full-clause-first_fault : goal.returns-then-is_full-clause-first_fault
returns-then-is_full-clause-first_fault c =
    let at = c.loop-before in
    let columns = c.args.columns.now in
    let day = c.args.epoch.now in
    let all : at.before ≡ c.args.room = omega arith in
    cause_weaker (λ f. f ≡ file_fault Limit (c.args.room + 2) 0)
    (λ f. (records : List (List Field)) → IsReading c.args.reader.now records → RecordsFail columns day c.args.room records f)
    (λ f is records h.
    let v = at.invariant.walked records h in
    let w = subst (λ n. Walked columns day (drop 1 records) n at.rows at.reader) all v.1 in
    inr (v.0, walk_full columns day (drop 1 records) c.args.room at.rows at.reader c.read_next.new.reader (fields_of c.read_next.new.csv_record) w f (rw c.if-is_full.true at (c.in_ok-is_full.ensures.next w.others w.going)) is))
    c.record_fault-then-is_full.result c.record_fault-then-is_full.ensures.refused

pub returns-clause-rows : goal.returns-clause-rows
returns-clause-rows c = λ records h.
    let at = c.loop-before in
    let w = at.invariant.walked records h in
    (w.0, walk_ended c.args.columns.now c.args.epoch.now (drop 1 records) at.before at.rows at.reader w.1 (rw c.if-is_full.false at (c.in_ok-is_full.ensures.next w.1.others w.1.going)))
