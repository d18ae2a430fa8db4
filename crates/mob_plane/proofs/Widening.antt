-- The corners of rings, widened point by point, are those of all points.
use Rattle.std.{specs.Prelude.{◌≡◌, refl, Bool, true, false, cond, ◌⊎◌, zero, suc, List, [], ◌∷◌, Any, All, Contains, fold}, proofs.Common.{arith, sym, ◌∙◌, subst, inl, inr}}
use Rattle.mob_ratio.{specs.Ratio.{Ratio}, specs.Order.{before, up_to, smaller, greater}, proofs.Order.{up_to-self, up_to-trans, smaller_left, smaller_right, greater_left, greater_right}}
use Rattle.mob_plane.{specs.Corners.{IsLeastAmong, IsGreatestAmong, AreCorners, widened}, specs.declared.point.Point.{Point}, specs.declared.rectangle.Corners.{Corners}}

any_first : (P : Point → Type 0) (p : Point) (ps : List Point) → P p → Any P (p ∷ ps)
any_first P p ps h = (0, p, omega arith, refl, h)

any_later : (P : Point → Type 0) (p : Point) (ps : List Point) → Any P ps → Any P (p ∷ ps)
any_later P p ps h = (suc h.0, h.1, omega (arith, h.2), h.3, h.4)

all_more : (P : Point → Type 0) (p : Point) (ps : List Point) → P p → All P ps → All P (p ∷ ps)
all_more P p ps h k zero d lt = h
all_more P p ps h k (suc i) d lt = k i d (omega arith)

-- the coordinate kept of two comes before both, and is one of them
module _ (comes : Ratio → Ratio → Bool) (kept : Ratio → Ratio → Ratio) (first : (x y : Ratio) → comes (kept x y) x ≡ true) (second : (x y : Ratio) → comes (kept x y) y ≡ true) (one : (x y : Ratio) → (kept x y ≡ x) ⊎ (kept x y ≡ y)) (self : (x : Ratio) → comes x x ≡ true) (next : (x y z : Ratio) → comes x y ≡ true → comes y z ≡ true → comes x z ≡ true) (coordinate : Point → Ratio) where
  abbrev pub best : Ratio → List Point → Ratio
  best x ps = fold (λ x p. kept x (coordinate p)) x ps

  before_start : (x : Ratio) (ps : List Point) → comes (best x ps) x ≡ true
  before_start x [] = self x
  before_start x (p ∷ ps) = next (best (kept x (coordinate p)) ps) (kept x (coordinate p)) x (before_start (kept x (coordinate p)) ps) (first x (coordinate p))

  pub before_all : (x : Ratio) (ps : List Point) → All (λ p. comes (best x ps) (coordinate p) ≡ true) ps
  before_all x [] = λ i d lt. absurd (omega arith)
  before_all x (p ∷ ps) = all_more (λ q. comes (best x (p ∷ ps)) (coordinate q) ≡ true) p ps (next (best (kept x (coordinate p)) ps) (kept x (coordinate p)) (coordinate p) (before_start (kept x (coordinate p)) ps) (second x (coordinate p))) (before_all (kept x (coordinate p)) ps)

  is_some : (x : Ratio) (ps : List Point) → (best x ps ≡ x) ⊎ Any (λ p. coordinate p ≡ best x ps) ps
  is_some x [] = inl refl
  is_some x (p ∷ ps) = by_next (is_some (kept x (coordinate p)) ps)
    where
      P : Point → Type 0
      P q = coordinate q ≡ best x (p ∷ ps)

      by_first : best x (p ∷ ps) ≡ kept x (coordinate p) → (kept x (coordinate p) ≡ x) ⊎ (kept x (coordinate p) ≡ coordinate p) → (best x (p ∷ ps) ≡ x) ⊎ Any P (p ∷ ps)
      by_first e (inl f) = inl (e ∙ f)
      by_first e (inr f) = inr (any_first P p ps (sym (e ∙ f)))

      by_next : (best (kept x (coordinate p)) ps ≡ kept x (coordinate p)) ⊎ Any P ps → (best x (p ∷ ps) ≡ x) ⊎ Any P (p ∷ ps)
      by_next (inl e) = by_first e (one x (coordinate p))
      by_next (inr h) = inr (any_later P p ps h)

  listed_of : (s : Point) (ps : List Point) (x : Ratio) → Contains ps s → (x ≡ coordinate s) ⊎ Any (λ p. coordinate p ≡ x) ps → Any (λ p. coordinate p ≡ x) ps
  listed_of s ps x h (inl e) = (h.0, s, h.1, h.2, sym e)
  listed_of s ps x h (inr k) = k

  pub listed : (s : Point) (ps : List Point) → Contains ps s → Any (λ p. coordinate p ≡ best (coordinate s) ps) ps
  listed s ps h = listed_of s ps (best (coordinate s) ps) h (is_some (coordinate s) ps)

-- ---- the smaller and the greater of two

cond_one : (b : Bool) (x y : Ratio) → (cond b y x ≡ x) ⊎ (cond b y x ≡ y)
cond_one true x y = inr refl
cond_one false x y = inl refl

abbrev least_by : (Point → Ratio) → Ratio → List Point → Ratio
least_by f x ps = fold (λ x p. smaller x (f p)) x ps

abbrev greatest_by : (Point → Ratio) → Ratio → List Point → Ratio
greatest_by f x ps = fold (λ x p. greater x (f p)) x ps

is_least : (f : Point → Ratio) (s : Point) (ps : List Point) → Contains ps s → IsLeastAmong f ps (least_by f (f s) ps)
is_least f s ps h = record {
  some = listed up_to smaller smaller_left smaller_right (λ x y. cond_one (before y x) x y) up_to-self up_to-trans f s ps h;
  none_less = before_all up_to smaller smaller_left smaller_right (λ x y. cond_one (before y x) x y) up_to-self up_to-trans f (f s) ps;
}

is_greatest : (f : Point → Ratio) (s : Point) (ps : List Point) → Contains ps s → IsGreatestAmong f ps (greatest_by f (f s) ps)
is_greatest f s ps h = record {
  some = listed (λ x y. up_to y x) greater greater_left greater_right (λ x y. cond_one (before x y) x y) up_to-self (λ x y z h k. up_to-trans z y x k h) f s ps h;
  none_greater = before_all (λ x y. up_to y x) greater greater_left greater_right (λ x y. cond_one (before x y) x y) up_to-self (λ x y z h k. up_to-trans z y x k h) f (f s) ps;
}

-- ---- corner by corner

least_x : (c : Corners) (ps : List Point) → (fold widened c ps).least.x ≡ least_by (λ p. p.x) c.least.x ps
least_x c [] = refl
least_x c (p ∷ ps) = least_x (widened c p) ps

least_y : (c : Corners) (ps : List Point) → (fold widened c ps).least.y ≡ least_by (λ p. p.y) c.least.y ps
least_y c [] = refl
least_y c (p ∷ ps) = least_y (widened c p) ps

greatest_x : (c : Corners) (ps : List Point) → (fold widened c ps).greatest.x ≡ greatest_by (λ p. p.x) c.greatest.x ps
greatest_x c [] = refl
greatest_x c (p ∷ ps) = greatest_x (widened c p) ps

greatest_y : (c : Corners) (ps : List Point) → (fold widened c ps).greatest.y ≡ greatest_by (λ p. p.y) c.greatest.y ps
greatest_y c [] = refl
greatest_y c (p ∷ ps) = greatest_y (widened c p) ps

pub are_corners : (s : Point) (ps : List Point) (c : Corners) → Contains ps s → c ≡ fold widened (record { least = s; greatest = s }) ps → AreCorners ps c.least c.greatest
are_corners s ps c h e =
    let start : Corners = record { least = s; greatest = s } in
    rw e (record {
      least_x = subst (IsLeastAmong (λ p. p.x) ps) (sym (least_x start ps)) (is_least (λ p. p.x) s ps h);
      least_y = subst (IsLeastAmong (λ p. p.y) ps) (sym (least_y start ps)) (is_least (λ p. p.y) s ps h);
      greatest_x = subst (IsGreatestAmong (λ p. p.x) ps) (sym (greatest_x start ps)) (is_greatest (λ p. p.x) s ps h);
      greatest_y = subst (IsGreatestAmong (λ p. p.y) ps) (sym (greatest_y start ps)) (is_greatest (λ p. p.y) s ps h);
    })
