-- Texts of moments denote small parts of a second.
use Rattle.std.proofs.Common.{◌≡◌, ℕ, ◌<◌, Option, Some, None, sym, subst, arith, rules, codes, true, inl, inr}
use Rattle.mob_language.specs.Language.{Text, ◌▷◌, Maybe, behind}
use Rattle.mob_numeral.{specs.declared.numeral.Figures.{Figures}, specs.NumberValue.{IsSmall}, proofs.Bounded.{digits_small, small_lt}}
use Rattle.mob_scalar.{specs.declared.stamp.Part.{Part}, specs.declared.civil.Civil.{Civil}, specs.declared.stamp.Clock.{Clock}, specs.declared.stamp.Offset.{Offset}}
use Rattle.mob_scalar.specs.declared.stamp.Stamp.{Stamp}
use Rattle.mob_scalar.specs.Moment.{IsPartSmall, part, clock, time, moment, is_fraction_part, second_part, part_of, two_digits_below, point_part, fraction_part, stamp_of}

none_small : IsPartSmall (record { numerator = 0; denominator = 1 })
none_small = record { below = omega arith; fits = omega arith }

fraction_below : (v : Figures × (Figures × Unit {0})) → is_fraction_part v ≡ true → v.0.value < v.1.0.value
fraction_below v e = search rules

point_small : (f : Figures) → IsSmall f → IsPartSmall (point_part f)
point_small f h = let a = small_lt f h in record { below = h.0; fits = omega (arith, a) }

part_small : (text : Text) (p : Part) → part text p → IsPartSmall p
part_small text p h = elim h [
  | inl d ↦ subst IsPartSmall (sym d.is) (point_small d.meant (subst IsSmall (sym d.said.said.is) (digits_small d.said.said.said.back d.said.said.meant.1 d.said.said.said.second)))
  | inr q ↦ subst IsPartSmall (sym q.is) (quotient_small q.meant (subst (λ (v : Figures × (Figures × Unit {0})). IsSmall v.0) (sym q.said.said.is) (digits_small q.said.said.said.second.front q.said.said.meant.1.0 q.said.said.said.second.first)) q.said.holds)
]
  where
    quotient_small : (v : Figures × (Figures × Unit {0})) → IsSmall v.0 → is_fraction_part v ≡ true → IsPartSmall (fraction_part v)
    quotient_small v h e = let a = small_lt v.0 h in record { below = fraction_below v e; fits = omega (arith, a) }

maybe_small : (text : Text) (o : Option Part) → Maybe part text o → IsPartSmall (part_of o)
maybe_small text None h = none_small
maybe_small text (Some p) h = part_small text p h

seconds_small : (text : Text) (o : Option (ℕ × Option Part)) → Maybe (behind (codes ":") (two_digits_below 60 ▷ Maybe part)) text o → IsPartSmall (second_part o)
seconds_small text None h = none_small
seconds_small text (Some v) h = subst (λ (x : ℕ × Option Part). IsPartSmall (part_of x.1)) (sym h.is) (maybe_small h.said.second.back h.meant.1.1 h.said.second.second)

clock_small : (text : Text) (c : Clock) → clock text c → IsPartSmall c.part
clock_small text c h = subst (λ (x : Clock). IsPartSmall x.part) (sym h.is) (seconds_small h.said.second.back h.meant.1.1 h.said.second.second)

time_small : (text : Text) (t : Clock × Offset) → time text t → IsPartSmall t.0.part
time_small text t h = subst (λ (x : Clock × Offset). IsPartSmall x.0.part) (sym h.is) (clock_small h.said.second.front h.meant.1.0 h.said.second.first)

stamp_small : (text : Text) (d : Civil) (o : Option (Clock × Offset)) → Maybe time text o → IsPartSmall (stamp_of (d, o)).clock.part
stamp_small text d None h = none_small
stamp_small text d (Some t) h = time_small text t h

pub moment_small : (text : Text) (s : Stamp) → moment text s → IsPartSmall s.clock.part
moment_small text s h = subst (λ (x : Stamp). IsPartSmall x.clock.part) (sym h.said.is) (stamp_small h.said.said.back h.said.meant.0 h.said.meant.1 h.said.said.second)
