use Rattle.std.{proofs.Common.{arith, ◌∙◌, ◌<◌, ◌≤◌, ◌+◌, length, sym}, proofs.Math.ListN.{drop_of_length-le}}
use Rattle.mob_list.proofs.Entries.{drop_read}
use Rattle.mob_clip.proofs.Walks.{left_alone, right_alone, left_met, right_met, both_met}
use Rattle.mob_clip.proofs.timeline.meet.Goals as goal

pub returns-then-i-xs : goal.returns-then-i-xs
returns-then-i-xs g c =
    let xs = c.args.xs.now in
    let ys = c.args.ys.now in
    let y = c.index-ys-j.result in
    let hx : length xs ≤ c.args.i = omega arith in
    let hy : c.args.j < length ys = omega arith in
    let e = c.take_right.ensures.met in
    record {
      met = right_alone g.T.Mix.mix c.args.left.now c.args.right.now xs ys c.args.i c.args.j (c.args.j + 1) y c.take_right.result (drop_of_length-le xs hx) (drop_read ys c.args.j y hy c.index-ys-j.is) e;
      first = rw e c.requires.first;
      second = rw e (omega arith);
      on = rw e (omega arith);
    }

pub returns-then-j-ys : goal.returns-then-j-ys
returns-then-j-ys g c =
    let xs = c.args.xs.now in
    let ys = c.args.ys.now in
    let x = c.index-xs-i.result in
    let hx : c.args.i < length xs = omega arith in
    let hy : length ys ≤ c.args.j = omega arith in
    let e = c.take_left.ensures.met in
    record {
      met = left_alone g.T.Mix.mix c.args.left.now c.args.right.now xs ys c.args.i c.args.j (c.args.i + 1) x c.take_left.result (drop_read xs c.args.i x hx c.index-xs-i.is) (drop_of_length-le ys hy) e;
      first = rw e (omega arith);
      second = rw e c.requires.second;
      on = rw e (omega arith);
    }

pub returns-then-is_before : goal.returns-then-is_before
returns-then-is_before g c =
    let xs = c.args.xs.now in
    let ys = c.args.ys.now in
    let x = c.index-xs-i-2.result in
    let y = c.index-ys-j-2.result in
    let hx : c.args.i < length xs = omega arith in
    let hy : c.args.j < length ys = omega arith in
    let ex = drop_read xs c.args.i x hx c.index-xs-i-2.is in
    let ey = drop_read ys c.args.j y hy c.index-ys-j-2.is in
    let e = c.take_left-then-is_before.ensures.met in
    record {
      met = left_met g.T.Mix.mix c.args.left.now c.args.right.now xs ys c.args.i c.args.j (c.args.i + 1) (c.args.j + 1) x y c.take_left-then-is_before.result ex ey (sym c.is_before.ensures.value ∙ c.if-is_before.true) e;
      first = rw e (omega arith);
      second = rw e c.requires.second;
      on = rw e (omega arith);
    }

pub returns-then-is_before-2 : goal.returns-then-is_before-2
returns-then-is_before-2 g c =
    let xs = c.args.xs.now in
    let ys = c.args.ys.now in
    let x = c.index-xs-i-2.result in
    let y = c.index-ys-j-2.result in
    let hx : c.args.i < length xs = omega arith in
    let hy : c.args.j < length ys = omega arith in
    let ex = drop_read xs c.args.i x hx c.index-xs-i-2.is in
    let ey = drop_read ys c.args.j y hy c.index-ys-j-2.is in
    let e = c.take_right-then-is_before-2.ensures.met in
    record {
      met = right_met g.T.Mix.mix c.args.left.now c.args.right.now xs ys c.args.i c.args.j (c.args.i + 1) (c.args.j + 1) x y c.take_right-then-is_before-2.result ex ey (sym c.is_before-2.ensures.value ∙ c.if-is_before-2.true) e;
      first = rw e c.requires.first;
      second = rw e (omega arith);
      on = rw e (omega arith);
    }

pub returns : goal.returns
returns g c =
    let xs = c.args.xs.now in
    let ys = c.args.ys.now in
    let x = c.index-xs-i-2.result in
    let y = c.index-ys-j-2.result in
    let hx : c.args.i < length xs = omega arith in
    let hy : c.args.j < length ys = omega arith in
    let ex = drop_read xs c.args.i x hx c.index-xs-i-2.is in
    let ey = drop_read ys c.args.j y hy c.index-ys-j-2.is in
    let e = c.take_both.ensures.met in
    record {
      met = both_met g.T.Mix.mix c.args.left.now c.args.right.now xs ys c.args.i c.args.j (c.args.i + 1) (c.args.j + 1) x y c.take_both.result ex ey (sym c.is_before.ensures.value ∙ c.if-is_before.false) (sym c.is_before-2.ensures.value ∙ c.if-is_before-2.false) e;
      first = rw e (omega arith);
      second = rw e (omega arith);
      on = rw e (omega arith);
    }
