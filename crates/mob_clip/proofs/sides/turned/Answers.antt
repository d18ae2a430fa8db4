use Rattle.std.{proofs.Common.{arith, ◌+◌, drop, refl}, proofs.Math.ListN.{drop_of_length-le}}
use Rattle.mob_list.{proofs.Each.{each_get}, proofs.Entries.{drop_read}}
use Rattle.mob_cells.proofs.Making.{read_of}
use Rattle.mob_clip.{specs.declared.sides.BesideEdge.{BesideEdge}, specs.Sides.{with_turn, turning_parts, IsBeside}, proofs.Listing.{checking_fails, mapping_step, mapping_end}}
use Rattle.mob_clip.proofs.sides.turned.Goals as goal

pub turning-requires : goal.turning-requires
turning-requires c =
    let xs = c.args.edges.now in
    let i = c.loop-beside.beside-index in
    let x = c.beside-item.result in
    record { known = each_get (IsBeside c.args.p.now c.args.q.now) xs i x c.requires.known (read_of xs xs i x refl (omega arith) c.beside-item.is) }

pub returns-in-Err : goal.returns-in-Err
returns-in-Err c =
    let at = c.loop-beside in
    let xs = c.args.edges.now in
    let x = c.beside-item.result in
    record { made = (refl, checking_fails (λ (b : BesideEdge). turning_parts c.args.p.now c.args.q.now b.edge) xs (drop at.beside-index xs) (drop (at.beside-index + 1) xs) x (drop_read xs at.beside-index x (omega arith) c.beside-item.is) c.in-Err.ensures.value at.invariant.checked) }

pub loop-beside-preserved : goal.loop-beside-preserved
loop-beside-preserved c =
    let at = c.loop-beside in
    let xs = c.args.edges.now in
    let x = c.beside-item.result in
    let p = c.args.p.now in
    let q = c.args.q.now in
    let v = c.in-Ok.ensures.value in
    mapping_step (with_turn p q) (λ (b : BesideEdge). turning_parts p q b.edge) xs (drop at.beside-index xs) (drop (at.beside-index + 1) xs) at.out.items c.push.new.self.items x _ (drop_read xs at.beside-index x (omega arith) c.beside-item.is) c.in_ok-push.ensures.items (rw v.0 refl) v.1 at.invariant

pub returns : goal.returns
returns c =
    let at = c.loop-beside in
    let xs = c.args.edges.now in
    let p = c.args.p.now in
    let q = c.args.q.now in
    record { made = mapping_end (with_turn p q) (λ (b : BesideEdge). turning_parts p q b.edge) xs (drop at.beside-index xs) at.out.items (drop_of_length-le xs c.loop-beside-test.false) at.invariant }
