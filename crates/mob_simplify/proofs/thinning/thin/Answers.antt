use Rattle.std.{specs.Prelude.{◌≡◌, Ok, Err}, proofs.Common.{ap, sym, ◌∙◌, subst, refl}, proofs.lemmas.Result.{err_from_is_err_and}}
use Rattle.mob_ratio.specs.Ratio.{Ratio}
use Rattle.mob_list.specs.declared.fault.Fault.TheVariants.{NoMemory}
use Rattle.mob_simplify.{specs.Walk.{all_legs}, proofs.Answering.{At, legs_ordered, is_thin, is_near, is_same, is_judged}, proofs.Convexity.{no_square}, proofs.Ordered.{AreOrderedLines, all_some}}
use Rattle.mob_simplify.proofs.thinning.thin.Goals as goal

pub normal-requires : goal.normal-requires
normal-requires c =
    let legs : c.in_ok-legs.legs.items ≡ all_legs c.args.d.now c.args.a.now = c.in_ok-legs.ensures.legs ∙ ap (λ z. all_legs c.args.d.now z) c.slices.ensures.same in
    record { ordered = subst AreOrderedLines (sym legs) (legs_ordered c.args.d.now c.args.a.now c.slices.ensures.normal) }

pub walked_in-requires : goal.walked_in-requires
walked_in-requires c = record { some = rw c.slices.ensures.same c.slices.ensures.normal.some }

pub unreachable-requires : goal.unreachable-requires
unreachable-requires c =
    let legs : c.in_ok-legs.legs.items ≡ all_legs c.args.d.now c.args.a.now = c.in_ok-legs.ensures.legs ∙ ap (λ z. all_legs c.args.d.now z) c.slices.ensures.same in
    let none = rw c.in-Ok-None.field-0-is at c.in-Ok-None.ensures.none in
    all_some c.args.d.now c.args.a.now c.slices.ensures.normal.some (sym legs ∙ none.0 refl)

pub returns-in_err-legs-clause-first : goal.returns-in_err-legs-clause-first
returns-in_err-legs-clause-first c =
    let p = err_from_is_err_and c.from_residual.result c.from_residual.ensures.1 in
    rw (p.1, p.2) (is_judged {V = Ratio} c.args.mode c.args.d.now c.args.a.now (Err c.in_err-legs.field-0.0) (rw c.slices.ensures.same at c.in_err-legs.ensures.first))

pub returns-in-Ok-Some-clause-thin : goal.returns-in-Ok-Some-clause-thin
returns-in-Ok-Some-clause-thin c =
    let legs : c.in_ok-legs.legs.items ≡ all_legs c.args.d.now c.args.a.now = c.in_ok-legs.ensures.legs ∙ ap (λ z. all_legs c.args.d.now z) c.slices.ensures.same in
    let n = rw c.in-Ok-Some.field-0-is at c.in-Ok-Some.ensures.normal in
    let same = rw c.in-Ok-Some.field-0-is at c.in-Ok-Some.ensures.same in
    is_thin c.args.d.now c.args.a.now c.in-Ok-Some.thin n (λ t. same t ∙ ap (λ z. At z t) legs)

pub returns-in-Ok-Some-clause-near : goal.returns-in-Ok-Some-clause-near
returns-in-Ok-Some-clause-near c =
    let legs : c.in_ok-legs.legs.items ≡ all_legs c.args.d.now c.args.a.now = c.in_ok-legs.ensures.legs ∙ ap (λ z. all_legs c.args.d.now z) c.slices.ensures.same in
    let same = rw c.in-Ok-Some.field-0-is at c.in-Ok-Some.ensures.same in
    is_near c.args.d.now c.args.a.now c.in-Ok-Some.thin (λ t. same t ∙ ap (λ z. At z t) legs)

pub returns-in-Ok-Some-clause-same : goal.returns-in-Ok-Some-clause-same
returns-in-Ok-Some-clause-same c e =
    let legs : c.in_ok-legs.legs.items ≡ all_legs c.args.d.now c.args.a.now = c.in_ok-legs.ensures.legs ∙ ap (λ z. all_legs c.args.d.now z) c.slices.ensures.same in
    let n = rw c.in-Ok-Some.field-0-is at c.in-Ok-Some.ensures.normal in
    let same = rw c.in-Ok-Some.field-0-is at c.in-Ok-Some.ensures.same in
    is_same c.args.d.now c.args.a.now c.in-Ok-Some.thin (no_square c.args.d.now e) c.slices.ensures.normal n (is_near c.args.d.now c.args.a.now c.in-Ok-Some.thin (λ t. same t ∙ ap (λ z. At z t) legs))

pub returns-in-Ok-Some-clause-first : goal.returns-in-Ok-Some-clause-first
returns-in-Ok-Some-clause-first c = is_judged {V = Ratio} c.args.mode c.args.d.now c.args.a.now (Ok c.args.d.now) (rw c.slices.ensures.same at c.in_ok-legs.ensures.first)

pub returns-in-Err-clause-first : goal.returns-in-Err-clause-first
returns-in-Err-clause-first c = is_judged {V = Ratio} c.args.mode c.args.d.now c.args.a.now (Err NoMemory) tt
