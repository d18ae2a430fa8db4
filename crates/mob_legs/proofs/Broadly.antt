-- Nearness in numbers of any size, by the same definitions.
use Rattle.std.{specs.Prelude.{◌≡◌, ◌||◌, ◌&&◌, Bool, true, false, not, Option, None, Result, Ok, Err, IfOk, refl}, proofs.Common.{arith, ap, sym, ◌∙◌, subst}}
use Rattle.mob_ratio.{specs.Ratio.{Ratio, ◌+ℚ◌, ◌*ℚ◌, ◌<ℚ◌}, specs.Order.{before, up_to, smaller}, specs.Sign.{nil}, specs.Quadratic.{reaches_by, infimum_by, square_is_within}}
use Rattle.mob_ratio.{proofs.Order.{before-lt, not-up_to-le}, proofs.Absolute.{inner_test}, proofs.QuadraticTests.{pos_by}}
use Rattle.mob_legs.specs.Legs.{PointPiece, leg_of, squares_of, foot_of, is_on_the_way, foot_reaches, foot_square, leg_reaches, leg_approach, piece_reaches, piece_approach}
use Rattle.mob_legs.{specs.declared.legs.Leg.{Leg}, specs.declared.legs.Foot.{Foot}}

-- without a point between, the ends decide
reaches_true : (d first last : Ratio) (li ui x : Bool) → reaches_by d first last li ui false ≡ true → reaches_by d first last li ui x ≡ true
reaches_true d first last li ui x h = by (before first d) (before last d) (li && up_to first d) (ui && up_to last d) (up_to first d && up_to last d) h
  where
    by : (a b c e f : Bool) → (a || b || c || e || f || false) ≡ true → (a || b || c || e || f || x) ≡ true
    by true b c e f h = refl
    by false true c e f h = refl
    by false false true e f h = refl
    by false false false true f h = refl
    by false false false false true h = refl
    by false false false false false h = absurd (cc h)

reaches_false : (d first last : Ratio) (li ui x : Bool) → reaches_by d first last li ui false ≡ false → reaches_by d first last li ui x ≡ x
reaches_false d first last li ui x h = by (before first d) (before last d) (li && up_to first d) (ui && up_to last d) (up_to first d && up_to last d) h
  where
    by : (a b c e f : Bool) → (a || b || c || e || f || false) ≡ false → (a || b || c || e || f || x) ≡ x
    by true b c e f h = absurd (cc h)
    by false true c e f h = absurd (cc h)
    by false false true e f h = absurd (cc h)
    by false false false true f h = absurd (cc h)
    by false false false false true h = absurd (cc h)
    by false false false false false h = refl

pub ends_suffice : (d first last : Ratio) (li ui x b : Bool) → b ≡ reaches_by d first last li ui false → b ≡ true → true ≡ reaches_by d first last li ui x
ends_suffice d first last li ui x b e h = sym (reaches_true d first last li ui x (sym e ∙ h))

pub ends_do_not : (d first last : Ratio) (li ui x y b : Bool) → b ≡ reaches_by d first last li ui false → b ≡ false → y ≡ x → y ≡ reaches_by d first last li ui x
ends_do_not d first last li ui x y b e h k = k ∙ sym (reaches_false d first last li ui x (sym e ∙ h))

-- between the ends, no quotient is needed
pub between_by : (f : Foot) (D left right : Ratio) (above : Bool) → f.beyond ≡ f.length +ℚ f.along → up_to nil D ≡ true → is_on_the_way f ≡ true → left ≡ f.across *ℚ f.across → right ≡ f.length *ℚ D → above ≡ before right left → not above ≡ foot_reaches D f
between_by f D left right above sum hd way el er e =
    let a = before-lt f.along nil (grind (arith, way)) in
    let b = before-lt nil f.beyond (grind (arith, way)) in
    let long = pos_by f.length f.along a (subst (λ g. nil <ℚ g) sum b) in
    ap not (e ∙ ap (λ z. before z left) er ∙ ap (before (f.length *ℚ D)) el) ∙ sym (inner_test f.length f.across D long (not-up_to-le nil D hd)) ∙ sym (ap (λ z. z && square_is_within f.length f.across D) way)

-- a piece longer than an instant, and one of one instant
module _ {E : Type 0} (p : PointPiece) (g : Leg) (at : g ≡ leg_of p) where
  pub long_reaches : (D : Ratio) (r : Result Bool E) → before p.span.lower p.span.upper ≡ true → IfOk r (λ b. b ≡ leg_reaches D p.span.lower_inc p.span.upper_inc g) → IfOk r (λ b. b ≡ piece_reaches D p)
  long_reaches D (Ok b) h k = rw h (k ∙ ap (leg_reaches D p.span.lower_inc p.span.upper_inc) at)
  long_reaches D (Err f) h k = tt

  pub short_reaches : (D : Ratio) (r : Result Bool E) → before p.span.lower p.span.upper ≡ false → IfOk r (λ b. b ≡ up_to (squares_of g).first D) → IfOk r (λ b. b ≡ piece_reaches D p)
  short_reaches D (Ok b) h k = rw h (k ∙ ap (λ z. up_to (squares_of z).first D) at)
  short_reaches D (Err f) h k = tt

  pub long_approach : (r : Result Ratio E) → before p.span.lower p.span.upper ≡ true → IfOk r (λ m. m ≡ leg_approach g) → IfOk r (λ m. m ≡ piece_approach p)
  long_approach (Ok m) h k = rw h (k ∙ ap leg_approach at)
  long_approach (Err f) h k = tt

  pub short_approach : (r : Result Ratio E) → before p.span.lower p.span.upper ≡ false → IfOk r (λ m. m ≡ (squares_of g).first) → IfOk r (λ m. m ≡ piece_approach p)
  short_approach (Ok m) h k = rw h (k ∙ ap (λ z. (squares_of z).first) at)
  short_approach (Err f) h k = tt

-- without a nearest point between, the smaller square at an end
pub none_between : {E : Type 0} (g : Leg) (f : Foot) (o : Option Ratio) (r : Result Ratio E) → f ≡ foot_of g → o ≡ foot_square f → o ≡ None → IfOk r (λ m. m ≡ smaller (squares_of g).first (squares_of g).last) → IfOk r (λ m. m ≡ leg_approach g)
none_between g f o (Ok m) e h n k = k ∙ ap (infimum_by (squares_of g).first (squares_of g).last) (sym n ∙ h ∙ ap foot_square e)
none_between g f o (Err x) e h n k = tt
