use Rattle.std.proofs.Common.{rules, ◌≡◌, [], ◌∷◌, ◌++◌, ap, ◌∙◌}
use Rattle.mob_simplify.{specs.Breaks.{start_of}, specs.Walk.{stays}}
use Rattle.mob_simplify.proofs.walking.next_stays.Goals as goal

pub stays-requires : goal.stays-requires
stays-requires c =
    let put : c.as_slice.result.now ≡ c.args.between.now.items ++ start_of c.args.next.now ∷ [] = search rules in
    record { square = c.requires.square; between = λ g. rw put (c.requires.between g) }

pub returns-in-Ok-clause-value : goal.returns-in-Ok-clause-value
returns-in-Ok-clause-value c =
    let put : c.as_slice.result.now ≡ c.args.between.now.items ++ start_of c.args.next.now ∷ [] = search rules in
    c.in-Ok.ensures.value ∙ ap (λ z. stays c.args.limit.now.distance c.args.first.now z c.args.last.now c.args.next.now) put

pub returns-in-Ok-clause-first : goal.returns-in-Ok-clause-first
returns-in-Ok-clause-first c =
    let put : c.as_slice.result.now ≡ c.args.between.now.items ++ start_of c.args.next.now ∷ [] = search rules in
    rw put at c.in-Ok.ensures.first

pub returns-in-Err-clause-first : goal.returns-in-Err-clause-first
returns-in-Err-clause-first c =
    let put : c.as_slice.result.now ≡ c.args.between.now.items ++ start_of c.args.next.now ∷ [] = search rules in
    rw put at c.in-Err.ensures.first
