use Rattle.std.proofs.Common.{◌≡◌, true, false}
use Rattle.mob_ratio.specs.Order.{before, same}
use Rattle.mob_cells.proofs.HeldNumbers.{computed, held_first, held_last, held_level, held_short}
use Rattle.mob_cells.proofs.given_lines.broad_number_at.Goals as goal

pub returns-then-not-long : goal.returns-then-not-long
returns-then-not-long c =
    let h : before c.args.l.now c.args.u.now ≡ false = cc in
    record { made = held_short c.args.x0.now c.args.x1.now c.args.l.now c.args.u.now c.args.t.now h }

pub returns-then-first : goal.returns-then-first
returns-then-first c =
    let h : before c.args.l.now c.args.u.now ≡ true = cc in
    let a : same c.args.t.now c.args.l.now ≡ true = cc in
    record { made = held_first c.args.x0.now c.args.x1.now c.args.l.now c.args.u.now c.args.t.now h a }

pub returns-then-last : goal.returns-then-last
returns-then-last c =
    let h : before c.args.l.now c.args.u.now ≡ true = cc in
    let a : same c.args.t.now c.args.l.now ≡ false = cc in
    let b : same c.args.t.now c.args.u.now ≡ true = cc in
    record { made = held_last c.args.x0.now c.args.x1.now c.args.l.now c.args.u.now c.args.t.now h a b }

pub returns-then-level : goal.returns-then-level
returns-then-level c =
    let h : before c.args.l.now c.args.u.now ≡ true = cc in
    let a : same c.args.t.now c.args.l.now ≡ false = cc in
    let b : same c.args.t.now c.args.u.now ≡ false = cc in
    let e : same c.args.x0.now c.args.x1.now ≡ true = cc in
    record { made = held_level c.args.x0.now c.args.x1.now c.args.l.now c.args.u.now c.args.t.now h a b e }

pub returns : goal.returns
returns c =
    let h : before c.args.l.now c.args.u.now ≡ true = cc in
    let a : same c.args.t.now c.args.l.now ≡ false = cc in
    let b : same c.args.t.now c.args.u.now ≡ false = cc in
    let e : same c.args.x0.now c.args.x1.now ≡ false = cc in
    record { made = computed c.args.x0.now c.args.x1.now c.args.l.now c.args.u.now c.args.t.now c.in_ok-number.number c.given.result h a b e c.in_ok-number.ensures.value c.given.ensures.made }
