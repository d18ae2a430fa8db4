use Rattle.std.{proofs.Common.{refl, sym, ◌∙◌, true≢false}, proofs.lemmas.Int.{to_z-of_z}}
use Rattle.mob_grid.proofs.Ranges.{long_first, long_second, long_third, short}
use Rattle.mob_grid.proofs.tile.are_many.Goals as goal

pub returns-then-is_large : goal.returns-then-is_large
returns-then-is_large c =
    let f = c.ranges.i in
    let h = simp to_z-of_z at (c.is_large.ensures.exact.0 c.if-is_large.true) in
    record { exact = (λ _. long_first c.args.i c.args.j c.args.k c.requires.by_i c.requires.by_j c.requires.by_k h, λ _. refl) }

pub returns-then-is_large-2 : goal.returns-then-is_large-2
returns-then-is_large-2 c =
    let f = c.ranges.j in
    let h = simp to_z-of_z at (c.is_large-2.ensures.exact.0 c.if-is_large-2.true) in
    record { exact = (λ _. long_second c.args.i c.args.j c.args.k c.requires.by_i c.requires.by_j c.requires.by_k h, λ _. refl) }

pub returns-then-is_large-3 : goal.returns-then-is_large-3
returns-then-is_large-3 c =
    let f = c.ranges.k in
    let h = simp to_z-of_z at (c.is_large-3.ensures.exact.0 c.if-is_large-3.true) in
    record { exact = (λ _. long_third c.args.i c.args.j c.args.k c.requires.by_i c.requires.by_j c.requires.by_k h, λ _. refl) }

pub area-requires-clause-left : goal.area-requires-clause-left
area-requires-clause-left c =
    let f = c.ranges.i in
    let e = simp to_z-of_z at c.is_large.ensures.exact in
    simp to_z-of_z (short c.args.i c.requires.by_i (λ h. true≢false (sym (e.1 h) ∙ c.if-is_large.false)))

pub area-requires-clause-right : goal.area-requires-clause-right
area-requires-clause-right c =
    let f = c.ranges.j in
    let e = simp to_z-of_z at c.is_large-2.ensures.exact in
    simp to_z-of_z (short c.args.j c.requires.by_j (λ h. true≢false (sym (e.1 h) ∙ c.if-is_large-2.false)))

pub volume-requires-clause-right : goal.volume-requires-clause-right
volume-requires-clause-right c =
    let f = c.ranges.k in
    let e = simp to_z-of_z at c.is_large-3.ensures.exact in
    simp to_z-of_z (short c.args.k c.requires.by_k (λ h. true≢false (sym (e.1 h) ∙ c.if-is_large-3.false)))
