use Rattle.std.proofs.Common.{rules, ◌≡◌, refl, true, false, sym, ◌∙◌, true≢false}
use Rattle.mob_plane.{specs.Rings.{rings_of, has_short, has_open, is_open_ring}, proofs.RingTests.{any_of, sound_rings, open_rings}}
use Rattle.mob_plane.proofs.polygons.Polygon.new.Goals as goal

pub returns-then-some_open-clause-open_ends : goal.returns-then-some_open-clause-open_ends
returns-then-some_open-clause-open_ends c =
    let rings = c.args.rings.items in
    let h : has_short (rings_of rings) ≡ false = search rules in
    let k : has_open (rings_of rings) ≡ true = sym (any_of is_open_ring rings) ∙ search rules in
    (λ e. (h, k), λ e. refl)

pub invariant_of-result : goal.invariant_of-result
invariant_of-result c =
    let rings = c.args.rings.items in
    sound_rings (rings_of rings) (search rules) (sym (any_of is_open_ring rings) ∙ search rules)

pub returns-clause-open_ends : goal.returns-clause-open_ends
returns-clause-open_ends c =
    let rings = c.args.rings.items in
    let k : has_open (rings_of rings) ≡ false = sym (any_of is_open_ring rings) ∙ search rules in
    (λ e. absurd cc, λ e. absurd (true≢false (sym e.1 ∙ k)))

pub returns-then-some_open-clause-sound : goal.returns-then-some_open-clause-sound
returns-then-some_open-clause-sound c =
    let rings = c.args.rings.items in
    open_rings (rings_of rings) (search rules) (sym (any_of is_open_ring rings) ∙ search rules)

pub returns-clause-sound : goal.returns-clause-sound
returns-clause-sound c =
    let rings = c.args.rings.items in
    sym (sound_rings (rings_of rings) (search rules) (sym (any_of is_open_ring rings) ∙ search rules))
