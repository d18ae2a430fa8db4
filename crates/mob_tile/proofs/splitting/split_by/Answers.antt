use Rattle.std.{specs.List.{AllByRecursion}, proofs.Common.{subst, sym, ap, ◌∙◌, inl, inr, refl, true≢false, Err}}
use Rattle.mob_ratio.{specs.Ratio.{◌<ℚ◌}, specs.Sign.{nil}}
use Rattle.mob_grid.specs.Tiles.{IsGrid, HasMany, range_of}
use Rattle.mob_tile.{specs.declared.splitting.SplitCause.TheVariants.{Passed}, specs.Pieces.{Reaches}, proofs.Limits.{box_sides, box_as, box_range, all_reach}}
use Rattle.mob_list.specs.declared.fault.Fault.TheVariants.{Because}
use Rattle.mob_tile.proofs.splitting.split_by.Goals as goal

pub returns-in-Err-clause-refusals : goal.returns-in-Err-clause-refusals
returns-in-Err-clause-refusals c =
    let v = c.args.a.now in
    let box = c.box_of.result in
    let h = box_sides v box c.box_of.ensures.least in
    let e = c.in-Err.ensures.value h.area h.time h.space_is h.time_is in
    record { area = h.area; time = h.time; box = box_as v box h c.box_of.ensures.least; holds = inl e }

pub returns-in-Err-clause-limits : goal.returns-in-Err-clause-limits
returns-in-Err-clause-limits c =
    let v = c.args.a.now in
    let box = c.box_of.result in
    let h = box_sides v box c.box_of.ensures.least in
    let e = c.in-Err.ensures.value h.area h.time h.space_is h.time_is in
    record { area = h.area; time = h.time; box = box_as v box h c.box_of.ensures.least; holds = record { quotients_first = λ n. ap (λ f. Err (Because (Passed f))) e.0; limit_then = λ m. absurd (e.1 m.0) } }

pub has_many-requires : goal.has_many-requires
has_many-requires c =
    let ok : IsGrid c.args.grid.now = record { some_size = subst (λ z. nil <ℚ z) c.size-size.ensures.value c.size-size.ensures.positive; some_width = subst (λ z. nil <ℚ z) c.width-width.ensures.value c.width-width.ensures.positive } in
    let v = c.args.a.now in
    let box = c.box_of.result in
    let sides = box_sides v box c.box_of.ensures.least in
    let found = c.in-Ok.ensures.value sides.area sides.time sides.space_is sides.time_is in
    record { range = rw found.0 (box_range c.args.grid.now box sides ok) }

pub returns-then-has_many-clause-refusals : goal.returns-then-has_many-clause-refusals
returns-then-has_many-clause-refusals c =
    let v = c.args.a.now in
    let box = c.box_of.result in
    let h = box_sides v box c.box_of.ensures.least in
    let e = c.in-Ok.ensures.value h.area h.time h.space_is h.time_is in
    record { area = h.area; time = h.time; box = box_as v box h c.box_of.ensures.least; holds = (e.1, subst HasMany e.0 (c.has_many.ensures.exact.0 c.if-has_many.true)) }

pub returns-then-has_many-clause-limits : goal.returns-then-has_many-clause-limits
returns-then-has_many-clause-limits c =
    let v = c.args.a.now in
    let box = c.box_of.result in
    let h = box_sides v box c.box_of.ensures.least in
    let e = c.in-Ok.ensures.value h.area h.time h.space_is h.time_is in
    record { area = h.area; time = h.time; box = box_as v box h c.box_of.ensures.least; holds = record { quotients_first = λ n. absurd (n e.1); limit_then = λ m. refl } }

pub split_in-requires : goal.split_in-requires
split_in-requires c =
    let ok : IsGrid c.args.grid.now = record { some_size = subst (λ z. nil <ℚ z) c.size-size.ensures.value c.size-size.ensures.positive; some_width = subst (λ z. nil <ℚ z) c.width-width.ensures.value c.width-width.ensures.positive } in
    let v = c.args.a.now in
    let box = c.box_of.result in
    let sides = box_sides v box c.box_of.ensures.least in
    let found = c.in-Ok.ensures.value sides.area sides.time sides.space_is sides.time_is in
    record { reach = subst (λ z. AllByRecursion (Reaches c.args.grid.now z) v) (sym found.0) (all_reach c.args.grid.now v box sides ok c.box_of.ensures.value) }

pub returns-in-Ok-split_in-clause-refusals : goal.returns-in-Ok-split_in-clause-refusals
returns-in-Ok-split_in-clause-refusals c =
    let v = c.args.a.now in
    let box = c.box_of.result in
    let h = box_sides v box c.box_of.ensures.least in
    let e = c.in-Ok.ensures.value h.area h.time h.space_is h.time_is in
    let few : HasMany (range_of c.args.grid.now h.area h.time) → ⊥ = λ m. true≢false (sym (c.has_many.ensures.exact.1 (subst HasMany (sym e.0) m)) ∙ c.if-has_many.false) in
    record { area = h.area; time = h.time; box = box_as v box h c.box_of.ensures.least; holds = (e.1, few, c.in-Ok-split_in.ensures.first) }

pub returns-in-Ok-split_in-clause-limits : goal.returns-in-Ok-split_in-clause-limits
returns-in-Ok-split_in-clause-limits c =
    let v = c.args.a.now in
    let box = c.box_of.result in
    let h = box_sides v box c.box_of.ensures.least in
    let e = c.in-Ok.ensures.value h.area h.time h.space_is h.time_is in
    let few : HasMany (range_of c.args.grid.now h.area h.time) → ⊥ = λ m. true≢false (sym (c.has_many.ensures.exact.1 (subst HasMany (sym e.0) m)) ∙ c.if-has_many.false) in
    record { area = h.area; time = h.time; box = box_as v box h c.box_of.ensures.least; holds = record { quotients_first = λ n. absurd (n e.1); limit_then = λ m. absurd (few m.1) } }

pub returns-in-Err-Because-clause-refusals : goal.returns-in-Err-Because-clause-refusals
returns-in-Err-Because-clause-refusals c =
    let v = c.args.a.now in
    let box = c.box_of.result in
    let h = box_sides v box c.box_of.ensures.least in
    let e = c.in-Ok.ensures.value h.area h.time h.space_is h.time_is in
    let few : HasMany (range_of c.args.grid.now h.area h.time) → ⊥ = λ m. true≢false (sym (c.has_many.ensures.exact.1 (subst HasMany (sym e.0) m)) ∙ c.if-has_many.false) in
    let first = rw c.in-Err-Because.field-0-is at c.in-Err-Because.ensures.first in
    record { area = h.area; time = h.time; box = box_as v box h c.box_of.ensures.least; holds = inr (e.1, few, first) }

pub returns-in-Err-Because-clause-limits : goal.returns-in-Err-Because-clause-limits
returns-in-Err-Because-clause-limits c =
    let v = c.args.a.now in
    let box = c.box_of.result in
    let h = box_sides v box c.box_of.ensures.least in
    let e = c.in-Ok.ensures.value h.area h.time h.space_is h.time_is in
    let few : HasMany (range_of c.args.grid.now h.area h.time) → ⊥ = λ m. true≢false (sym (c.has_many.ensures.exact.1 (subst HasMany (sym e.0) m)) ∙ c.if-has_many.false) in
    record { area = h.area; time = h.time; box = box_as v box h c.box_of.ensures.least; holds = record { quotients_first = λ n. absurd (n e.1); limit_then = λ m. absurd (few m.1) } }

pub returns-in-Err-NoMemory-clause-refusals : goal.returns-in-Err-NoMemory-clause-refusals
returns-in-Err-NoMemory-clause-refusals c =
    let v = c.args.a.now in
    let box = c.box_of.result in
    let h = box_sides v box c.box_of.ensures.least in
    record { area = h.area; time = h.time; box = box_as v box h c.box_of.ensures.least; holds = tt }

pub returns-in-Err-NoMemory-clause-limits : goal.returns-in-Err-NoMemory-clause-limits
returns-in-Err-NoMemory-clause-limits c =
    let v = c.args.a.now in
    let box = c.box_of.result in
    let h = box_sides v box c.box_of.ensures.least in
    let e = c.in-Ok.ensures.value h.area h.time h.space_is h.time_is in
    let few : HasMany (range_of c.args.grid.now h.area h.time) → ⊥ = λ m. true≢false (sym (c.has_many.ensures.exact.1 (subst HasMany (sym e.0) m)) ∙ c.if-has_many.false) in
    record { area = h.area; time = h.time; box = box_as v box h c.box_of.ensures.least; holds = record { quotients_first = λ n. absurd (n e.1); limit_then = λ m. absurd (few m.1) } }
