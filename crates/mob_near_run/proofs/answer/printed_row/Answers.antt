use Rattle.mob_near_run.proofs.answer.printed_row.Goals as goal

pub returns-in-Some-clause-printed : goal.returns-in-Some-clause-printed
returns-in-Some-clause-printed c =
    let fits = rw c.in-Some.is at c.in_ok-fitting.ensures.value in
    (λ i. (c.args.row.now.0, fits.0 i), fits.1)
