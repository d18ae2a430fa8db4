use Rattle.std.{specs.List.{flat_map, AllByRecursion}, proofs.Common.{arith, ◌+◌, drop, refl}, proofs.Math.ListN.{drop_of_length-le}, proofs.lemmas.Result.{err_from_is_err_and}}
use Rattle.mob_list.{proofs.Each.{each_get}, proofs.Entries.{drop_read}}
use Rattle.mob_slice.specs.declared.formula.Formula.TheVariants.{F3}
use Rattle.mob_cells.{specs.Roots.{IsLevel, roots_parts}, proofs.Making.{read_of}}
use Rattle.mob_clip.{specs.declared.sides.EdgeEnds.{EdgeEnds}, specs.Roots.{listed_ends, place_edge}, proofs.Listing.{checking_fails, fault_of_all, mapping_step, mapping_end}}
use Rattle.mob_clip.proofs.roots.placed.Goals as goal

pub returns-in_err-push_placed : goal.returns-in_err-push_placed
returns-in_err-push_placed c =
    let p = err_from_is_err_and c.from_residual.result c.from_residual.ensures.1 in
    let at = c.loop-edge in
    let xs = c.args.edges.now in
    let x = c.edge-item.result in
    record {
      made = rw (p.1, p.2) (fault_of_all F3 (roots_parts c.args.span.now (listed_ends x)) (flat_map (λ g. roots_parts c.args.span.now (listed_ends g)) xs) c.in_err-push_placed.field-0.0 c.in_err-push_placed.ensures.pushed
          (λ n. checking_fails (λ (g : EdgeEnds). roots_parts c.args.span.now (listed_ends g)) xs (drop at.edge-index xs) (drop (at.edge-index + 1) xs) x (drop_read xs at.edge-index x (omega arith) c.edge-item.is) n at.invariant.checked));
    }

pub push_placed-requires : goal.push_placed-requires
push_placed-requires c =
    let xs = c.args.edges.now in
    let i = c.loop-edge.edge-index in
    let x = c.edge-item.result in
    record { level = each_get (λ (g : EdgeEnds). AllByRecursion (IsLevel c.args.span.now) (listed_ends g)) xs i x c.requires.level (read_of xs xs i x refl (omega arith) c.edge-item.is) }

pub loop-edge-preserved : goal.loop-edge-preserved
loop-edge-preserved c =
    let at = c.loop-edge in
    let xs = c.args.edges.now in
    let x = c.edge-item.result in
    let s = c.args.span.now in
    mapping_step (place_edge s) (λ (g : EdgeEnds). roots_parts s (listed_ends g)) xs (drop at.edge-index xs) (drop (at.edge-index + 1) xs) at.out.items c.push_placed.new.out.items x (place_edge s x) (drop_read xs at.edge-index x (omega arith) c.edge-item.is) c.in_ok-push_placed.ensures.pushed.0 refl c.in_ok-push_placed.ensures.pushed.1 at.invariant

pub returns : goal.returns
returns c =
    let at = c.loop-edge in
    let xs = c.args.edges.now in
    let s = c.args.span.now in
    record { made = mapping_end (place_edge s) (λ (g : EdgeEnds). roots_parts s (listed_ends g)) xs (drop at.edge-index xs) at.out.items (drop_of_length-le xs c.loop-edge-test.false) at.invariant }
