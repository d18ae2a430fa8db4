-- The operations on fractions that need not be in lowest terms.
use Rattle.std.{specs.Prelude.{Option, Some, None, IfSome}, proofs.Common.{◌≡◌, ℕ, ◌*◌, ◌^◌, ◌<◌, ℤ, pos, negsuc, ◌+ℤ◌, ◌*ℤ◌, ◌<ℤ◌, nat_abs, arith, sym, ap, refl, subst, ◌∙◌, lt_of_le_of_lt}}
use Rattle.mob_ratio.{specs.Gcd.{gcd}, specs.LowestLaws.{abs-div}, specs.Ratio.{Ratio, over, whole, ◌+ℚ◌, ◌-ℚ◌, ◌*ℚ◌, ◌/ℚ◌, ◌<ℚ◌}, proofs.IntRing.{linear, products}}
use Rattle.mob_ratio.{proofs.RatioLemmas.{over-parts, over-self, over-same, over-add, over-mul, den_pos}, proofs.Clear.{eq_zero, zero_lt, whole-over, clear2, cleared}, proofs.Divide.{quotient_is}}
use Rattle.mob_frac.{specs.Fits.{Fits}, specs.RoughInside.{IsRough, rough_value}, specs.declared.rough.Rough.TheInside.{Inside}, proofs.Operations.{abs_positive}}
use native.Mathlib.Nat.{mul-pos, div-le_self}

-- if the parts fit, they fit in lowest terms
pub fits_over : (n d : ℤ) → pos 0 <ℤ d → nat_abs n < 2 ^ 62 → nat_abs d < 2 ^ 62 → Fits (over n (nat_abs d))
fits_over n d h p q =
    let e = over-parts n (nat_abs d) (abs_positive d h).1 in
    let g = gcd (nat_abs n) (nat_abs d) in
    record {
      num_fits = rw (e.0, abs-div n g) (lt_of_le_of_lt (div-le_self (nat_abs n) g) p);
      den_fits = rw e.1 (lt_of_le_of_lt (div-le_self (nat_abs d) g) q);
    }

-- a product of numbers above 0 is above 0
pub times_positive : (d e : ℤ) → pos 0 <ℤ d → pos 0 <ℤ e → pos 0 <ℤ (d *ℤ e)
times_positive (pos d) (pos e) h k =
    let p : 0 < d = omega (arith, linear) in
    let q : 0 < e = omega (arith, linear) in
    let r : 0 < d * e = mul-pos p q in
    omega (arith, linear)
times_positive (negsuc d) e h k = absurd h.lt
times_positive (pos d) (negsuc e) h k = absurd k.lt

-- the number is above 0 if its numerator is
pub num_above : (f : Inside) → IsRough f → whole (pos 0) <ℚ rough_value f → pos 0 <ℤ f.num
num_above f h p = (zero_lt f.num (nat_abs f.den) (abs_positive f.den h.den_positive).1).0 (rw whole-over at p)

over_quotient : (n m : ℤ) (d e : ℕ) → 0 < d → 0 < e → pos 0 <ℤ m → over n d /ℚ over m e ≡ over (n *ℤ pos e) (d * nat_abs m)
over_quotient n (negsuc m) d e p q h = absurd h.lt
over_quotient n (pos m) d e p q h =
    let r : 0 < m = omega (arith, linear) in
    let s : 0 < d * m = mul-pos p r in
    let ne : ¬ (over (pos m) e ≡ whole (pos 0)) = λ z. let k = (eq_zero (pos m) e q).0 (rw whole-over at z) in omega (arith, linear) in
    let f : (over (n *ℤ pos e) (d * m)) *ℚ over (pos m) e ≡ over n d = over-mul (n *ℤ pos e) (pos m) (d * m) e s q ∙ over-same ((n *ℤ pos e) *ℤ pos m) n (d * m * e) d (mul-pos s q) p (simp products (omega (arith, linear))) in
    sym (quotient_is (over n d) (over (pos m) e) (over (n *ℤ pos e) (d * m)) ne f)

abs_times : (d m : ℤ) → pos 0 <ℤ d → pos 0 <ℤ m → nat_abs (d *ℤ m) ≡ nat_abs d * nat_abs m
abs_times (pos d) (pos m) h k = refl
abs_times (negsuc d) m h k = absurd h.lt
abs_times (pos d) (negsuc m) h k = absurd k.lt

pub quotient_parts : (f g : Inside) → IsRough f → IsRough g → pos 0 <ℤ g.num → over (f.num *ℤ g.den) (nat_abs (f.den *ℤ g.num)) ≡ rough_value f /ℚ rough_value g
quotient_parts f g h k p =
    let d = abs_positive f.den h.den_positive in
    let e = abs_positive g.den k.den_positive in
    rw (abs_times f.den g.num h.den_positive p) (rw e.0 at (sym (over_quotient f.num g.num (nat_abs f.den) (nat_abs g.den) d.1 e.1 p)))

pub product_parts : (f g : Inside) → IsRough f → IsRough g → over (f.num *ℤ g.num) (nat_abs (f.den *ℤ g.den)) ≡ rough_value f *ℚ rough_value g
product_parts f g h k =
    rw (abs_times f.den g.den h.den_positive k.den_positive) (sym (over-mul f.num g.num (nat_abs f.den) (nat_abs g.den) (abs_positive f.den h.den_positive).1 (abs_positive g.den k.den_positive).1))

pub sum_parts : (a : Ratio) (f : Inside) → IsRough f → over (a.num *ℤ f.den +ℤ f.num *ℤ pos a.den) (nat_abs (pos a.den *ℤ f.den)) ≡ a +ℚ rough_value f
sum_parts a f h =
    let d = abs_positive f.den h.den_positive in
    let s = rw d.0 at (over-add a.num f.num a.den (nat_abs f.den) (den_pos a) d.1) in
    let p : pos 0 <ℤ pos a.den = let q : 0 < a.den = den_pos a in omega (arith, linear) in
    rw (abs_times (pos a.den) f.den p h.den_positive) (sym s ∙ ap (λ z. z +ℚ rough_value f) (over-self a))

-- if l is before u, the time from l to u is above 0
pub apart_above : (l u : Ratio) → l <ℚ u → whole (pos 0) <ℚ (u -ℚ l)
apart_above = clear2 _ (λ D l u p h. let h' = simp cleared at h in simp cleared (omega (arith, linear)))

-- an equation carries the facts of one number over to the other
pub carried : (o : Option Ratio) (x y : Ratio) → x ≡ y → IfSome o (λ r. (r ≡ x) × Fits r) → IfSome o (λ r. (r ≡ y) × Fits y)
carried None x y e h = tt
carried (Some r) x y e h = (h.0 ∙ e, subst Fits (h.0 ∙ e) h.1)
