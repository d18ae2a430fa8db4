use Rattle.std.{specs.List.{flat_map}, proofs.Common.{rules, ◌≡◌, subst}}
use Rattle.mob_slice.specs.Entries.{IsJudged}
use Rattle.mob_plane.specs.Rings.{all_edges}
use Rattle.mob_clip.{specs.Polygons.{entries_of_edges}, proofs.Knowing.{if_ok}, proofs.EverInside.{restricted_same}}
use Rattle.mob_clip.proofs.polygons.to_polygon.Goals as goal

pub returns-clause-value : goal.returns-clause-value
returns-clause-value c =
    let e : c.as_slice.result.now ≡ all_edges c.args.p.now = search rules in
    if_ok c.to_edges.result (λ r k. restricted_same c.args.p.now c.as_slice.result.now c.args.want c.args.a.now r e k) c.to_edges.ensures.value

pub returns-clause-first : goal.returns-clause-first
returns-clause-first c =
    let e : c.as_slice.result.now ≡ all_edges c.args.p.now = search rules in
    subst (λ z. IsJudged (flat_map (entries_of_edges z) c.args.a.now) c.to_edges.result) e c.to_edges.ensures.first
