use Rattle.std.{proofs.Common.{◌+◌, drop, arith, refl}, proofs.Math.ListN.{drop_of_length-le}}
use Rattle.mob_list.proofs.Entries.{drop_read}
use Rattle.mob_span.{proofs.Leaving.{front_added, no_front, left_on, left_all, left_last}, proofs.remainder.left_by.Goals.{in-Some+in_ok-push, in_default}}
use Rattle.mob_span.proofs.remainder.left_by.Goals as goal

pub returns-in-None : goal.returns-in-None
returns-in-None c =
    let at = c.loop-next in
    let xs = c.args.spans.now in
    let r = c.next-item.result in
    let e = drop_read xs at.next-index r (omega arith) c.next-item.is in
    record {
      ends = elim c.match-front.branch [
        | in-Some+in_ok-push w ↦ left_all at.rest r (drop at.next-index xs) (drop (at.next-index + 1) xs) at.found.items c.match-front.found.items _ e (rw w.found-is (front_added at.rest r w.in-Some.front at.found.items w.push.new.self.items w.in-Some.ensures.ends w.in-Some.ensures.test w.in_ok-push.ensures.items)) c.in-None.ensures.test at.invariant.made
        | in_default w ↦ left_all at.rest r (drop at.next-index xs) (drop (at.next-index + 1) xs) at.found.items c.match-front.found.items _ e (rw w.found-is (no_front at.rest r at.found.items at.found.items w.in_default.ensures.test refl)) c.in-None.ensures.test at.invariant.made
      ];
    }

pub loop-next-preserved : goal.loop-next-preserved
loop-next-preserved c =
    let at = c.loop-next in
    let xs = c.args.spans.now in
    let r = c.next-item.result in
    let q = c.in-Some-back.back in
    let e = drop_read xs at.next-index r (omega arith) c.next-item.is in
    record {
      some = c.in-Some-back.ensures.test;
      made = elim c.match-front.branch [
        | in-Some+in_ok-push w ↦ left_on at.rest r q (drop at.next-index xs) (drop (at.next-index + 1) xs) at.found.items c.match-front.found.items _ e (rw w.found-is (front_added at.rest r w.in-Some.front at.found.items w.push.new.self.items w.in-Some.ensures.ends w.in-Some.ensures.test w.in_ok-push.ensures.items)) c.in-Some-back.ensures.ends c.in-Some-back.ensures.test at.invariant.made
        | in_default w ↦ left_on at.rest r q (drop at.next-index xs) (drop (at.next-index + 1) xs) at.found.items c.match-front.found.items _ e (rw w.found-is (no_front at.rest r at.found.items at.found.items w.in_default.ensures.test refl)) c.in-Some-back.ensures.ends c.in-Some-back.ensures.test at.invariant.made
      ];
    }

pub returns : goal.returns
returns c =
    let at = c.loop-next in
    let xs = c.args.spans.now in
    record { ends = left_last at.rest (drop at.next-index xs) at.found.items c.push-2.new.self.items _ (drop_of_length-le xs c.loop-next-test.false) c.in_ok-push-2.ensures.items at.invariant.made }
