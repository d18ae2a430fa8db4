-- Tests over all rings.
use Rattle.std.{specs.Prelude.{◌≡◌, refl, Bool, true, false, ◌||◌, nat_eq, List, [], ◌∷◌, length, Vec}, specs.List.{list_any}, specs.declared.alloc.Global.{Global}, proofs.Common.{sym, ap, ◌∙◌}}
use Rattle.std.proofs.lemmas.List.{length-map}
use Rattle.mob_plane.{specs.Rings.{rings_of, is_short_ring, has_short, has_open, are_sound}, specs.declared.point.Point.{Point}}

pub any_of : (test : List Point → Bool) (rings : List (Vec Point Global)) → list_any (λ r. test r.items) rings ≡ list_any test (rings_of rings)
any_of test [] = refl
any_of test (r ∷ rings) = ap (λ z. test r.items || z) (any_of test rings)

pub some_ring : (rings : List (Vec Point Global)) (b : Bool) → nat_eq (length rings) 0 ≡ false → b ≡ list_any (λ r. is_short_ring r.items) rings → b ≡ has_short (rings_of rings)
some_ring rings b h k = k ∙ any_of is_short_ring rings ∙ ap (λ z. z || list_any is_short_ring (rings_of rings)) (sym h ∙ ap (λ z. nat_eq z 0) (sym (length-map rings (λ r. r.items))))

pub sound_rings : (rings : List (List Point)) → has_short rings ≡ false → has_open rings ≡ false → are_sound rings ≡ true
sound_rings rings h k = rw (h, k) refl

pub open_rings : (rings : List (List Point)) → has_short rings ≡ false → has_open rings ≡ true → false ≡ are_sound rings
open_rings rings h k = rw (h, k) refl
