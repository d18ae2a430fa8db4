use Rattle.std.{proofs.Common.{Bool, Err, subst, sym, ◌∙◌, rules}, proofs.lemmas.Result.{err_from_is_err_and}}
use Rattle.mob_numeral.specs.Verdict.{Lit}
use Rattle.mob_written.specs.Prefix.{admitted}
use Rattle.mob_literal.{specs.Sound.{written_literals}, proofs.ReadLiterals.{same_fault, not_sound, made_of, defined, some_slices}, proofs.Drawn.{lawful}}
use Rattle.mob_slice.specs.CourseOf.{course_of}
use Rattle.mob_literal.proofs.temporal.read_moving.Goals as goal

pub returns-in_err-written : goal.returns-in_err-written
returns-in_err-written g c =
    let p = err_from_is_err_and c.from_residual.result c.from_residual.ensures.1 in
    record {
      reading = rw (p.1, p.2)
          (same_fault c.args.epoch.now g.T.WrittenValue.HAS_SRID g.T.WrittenValue.shape g.T.WrittenValue.has_value (course_of g.C.Course g.T.Base.BaseValue.is_same) c.args.text.now c.in_err-written.field-0.0 (subst (λ (b : Bool). Lit (written_literals c.args.epoch.now (admitted b g.T.WrittenValue.HAS_SRID) g.T.WrittenValue.shape) c.args.text.now (Err c.in_err-written.field-0.0)) c.STEADY.ensures c.in_err-written.ensures.reading));
    }

pub returns-in-Ok-None : goal.returns-in-Ok-None
returns-in-Ok-None g c =
    let order = rw c.as_slice.ensures.same at (sym c.are_in_order.ensures.value ∙ c.if-not-are_in_order.false) in
    record { reading = not_sound c.args.epoch.now g.T.WrittenValue.HAS_SRID g.T.WrittenValue.shape g.T.WrittenValue.has_value (course_of g.C.Course g.T.Base.BaseValue.is_same) c.args.text.now c.in_ok-written.written (rw c.STEADY.ensures at c.in_ok-written.ensures.reading) order (rw c.in-Ok-None.field-0-is at c.in-Ok-None.ensures.made) }

pub normal-requires : goal.normal-requires
normal-requires g c =
    let order = rw c.as_slice.ensures.same at (sym c.are_in_order.ensures.value ∙ c.if-not-are_in_order.false) in
    let m = made_of c.args.epoch.now g.T.WrittenValue.HAS_SRID g.T.WrittenValue.shape g.T.WrittenValue.has_value (course_of g.C.Course g.T.Base.BaseValue.is_same) c.args.text.now (lawful g.T.Base.BaseValue.is_same g.met.T.Base.BaseValue.exact g.met.C.Course.laws) c.in_ok-written.written c.in-Ok-Some.slices.items (rw c.STEADY.ensures at c.in_ok-written.ensures.reading) order (rw c.in-Ok-Some.field-0-is at c.in-Ok-Some.ensures.made) in
    record { ordered = m.flat_so.ordered }

pub returns-in-Ok-Some-normal : goal.returns-in-Ok-Some-normal
returns-in-Ok-Some-normal g c =
    let order = rw c.as_slice.ensures.same at (sym c.are_in_order.ensures.value ∙ c.if-not-are_in_order.false) in
    let m = made_of c.args.epoch.now g.T.WrittenValue.HAS_SRID g.T.WrittenValue.shape g.T.WrittenValue.has_value (course_of g.C.Course g.T.Base.BaseValue.is_same) c.args.text.now (lawful g.T.Base.BaseValue.is_same g.met.T.Base.BaseValue.exact g.met.C.Course.laws) c.in_ok-written.written c.in-Ok-Some.slices.items (rw c.STEADY.ensures at c.in_ok-written.ensures.reading) order (rw c.in-Ok-Some.field-0-is at c.in-Ok-Some.ensures.made) in
    let normal = rw c.in-Ok-Some-normal.field-0-is at c.in-Ok-Some-normal.ensures.normal in
    let same = rw c.in-Ok-Some-normal.field-0-is at c.in-Ok-Some-normal.ensures.same in
    record { reading = defined c.args.epoch.now g.T.WrittenValue.HAS_SRID g.T.WrittenValue.shape g.T.WrittenValue.has_value (course_of g.C.Course g.T.Base.BaseValue.is_same) c.args.text.now c.in_ok-written.written c.in-Ok-Some.slices.items c.in-Ok-Some-normal.value m normal same }

pub returns-in-Ok-None-normal : goal.returns-in-Ok-None-normal
returns-in-Ok-None-normal g c =
    let order = rw c.as_slice.ensures.same at (sym c.are_in_order.ensures.value ∙ c.if-not-are_in_order.false) in
    let m = made_of c.args.epoch.now g.T.WrittenValue.HAS_SRID g.T.WrittenValue.shape g.T.WrittenValue.has_value (course_of g.C.Course g.T.Base.BaseValue.is_same) c.args.text.now (lawful g.T.Base.BaseValue.is_same g.met.T.Base.BaseValue.exact g.met.C.Course.laws) c.in_ok-written.written c.in-Ok-Some.slices.items (rw c.STEADY.ensures at c.in_ok-written.ensures.reading) order (rw c.in-Ok-Some.field-0-is at c.in-Ok-Some.ensures.made) in
    let none = rw c.in-Ok-None-normal.field-0-is at c.in-Ok-None-normal.ensures.none in
    absurd (some_slices c.args.epoch.now g.T.WrittenValue.HAS_SRID g.T.WrittenValue.shape g.T.WrittenValue.has_value (course_of g.C.Course g.T.Base.BaseValue.is_same) c.args.text.now c.in_ok-written.written c.in-Ok-Some.slices.items m (none.0 (search rules)))
