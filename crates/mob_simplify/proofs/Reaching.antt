-- The place of a straight course at an instant between its ends, from the parts of the ends, the
-- instant and each coordinate.
use Rattle.std.{specs.Prelude.{◌≡◌, Bool, true, false, cond, ◌&&◌, ◌++◌, [], ◌∷◌, Result, Ok, Err, refl}, proofs.Common.{ap, sym, ◌∙◌, subst}, proofs.lemmas.Bool.{and_parts}}
use Rattle.mob_ratio.{specs.Ratio.{Ratio, ◌+ℚ◌, ◌-ℚ◌, ◌*ℚ◌, ◌/ℚ◌}, specs.Line.{line_at}, specs.Order.{before, same}, proofs.LineAt.{line_at-level, line_at-quotient}}
use Rattle.mob_ratio.proofs.Order.{before-trans, same_exact, before-differ-back, before-differ}
use Rattle.mob_frac.{specs.Fits.{Fits, IsExact}, specs.Formula.{AllFit, IsFormula, inner_parts, line_parts}, proofs.Fitting.{all_both, all_first, all_second}}
use Rattle.mob_plane.{specs.Points.{same_point, point_by_coordinates}, specs.declared.point.Point.{Point}}
use Rattle.mob_slice.specs.Lines.{plane_parts_of}
use Rattle.mob_simplify.{specs.Breaks.{straight, straight_at}, specs.Reaches.{moved_at, moved_parts, part_gone, parts_gone}, specs.declared.breaks.Break.{Break}}

-- ---- what the code computes, in order
pub part_is : {E : Type 0} (r : Result Ratio E) (l u t a b : Ratio) → (a ≡ t -ℚ l) × Fits (t -ℚ l) → (b ≡ u -ℚ l) × Fits (u -ℚ l) → IsExact (a /ℚ b) r → IsFormula (parts_gone l u t) (part_gone l u t) r
part_is (Ok f) l u t a b ha hb h =
    let e : a /ℚ b ≡ part_gone l u t = ap (λ z. z /ℚ b) ha.0 ∙ ap (λ z. (t -ℚ l) /ℚ z) hb.0 in
    (h.0 ∙ e, (ha.1, (hb.1, (subst Fits e h.1, tt))))
part_is (Err f) l u t a b ha hb h =
    let e : a /ℚ b ≡ part_gone l u t = ap (λ z. z /ℚ b) ha.0 ∙ ap (λ z. (t -ℚ l) /ℚ z) hb.0 in
    λ all. h (subst Fits (sym e) all.1.1.0)

module _ (x0 x1 q : Ratio) (slanted : same x0 x1 ≡ false) where
  module _ (c : Ratio) (way : (c ≡ x1 -ℚ x0) × Fits (x1 -ℚ x0)) where
    -- its part does not
    pub gone_unfit : (Fits (c *ℚ q) → ⊥) → AllFit (moved_parts x0 x1 q) → ⊥
    gone_unfit h = rw slanted (λ all. h (subst Fits (sym (ap (λ z. z *ℚ q) way.0)) all.1.0))

    moved_by : {E : Type 0} (r : Result Ratio E) (e : Ratio) → (e ≡ c *ℚ q) × Fits (c *ℚ q) → IsExact (x0 +ℚ e) r → IsFormula ((x1 -ℚ x0) ∷ ((x1 -ℚ x0) *ℚ q) ∷ (x0 +ℚ (x1 -ℚ x0) *ℚ q) ∷ []) (x0 +ℚ (x1 -ℚ x0) *ℚ q) r
    moved_by (Ok f) e he h =
        let is : e ≡ (x1 -ℚ x0) *ℚ q = he.0 ∙ ap (λ z. z *ℚ q) way.0 in
        (h.0 ∙ ap (λ z. x0 +ℚ z) is, (way.1, (subst Fits (ap (λ z. z *ℚ q) way.0) he.1, (subst (λ z. Fits (x0 +ℚ z)) is h.1, tt))))
    moved_by (Err f) e he h =
        let is : e ≡ (x1 -ℚ x0) *ℚ q = he.0 ∙ ap (λ z. z *ℚ q) way.0 in
        λ all. h (subst (λ z. Fits (x0 +ℚ z)) (sym is) all.1.1.0)

    pub moved_is : {E : Type 0} (r : Result Ratio E) (e : Ratio) → (e ≡ c *ℚ q) × Fits (c *ℚ q) → IsExact (x0 +ℚ e) r → IsFormula (moved_parts x0 x1 q) (moved_at x0 x1 q) r
    moved_is r e he h = rw slanted (moved_by r e he h)

-- ---- one coordinate
module _ (l u t : Ratio) (after : before l t ≡ true) (until : before t u ≡ true) (x0 x1 : Ratio) where
  abbrev inner : Bool → Type 0
  inner b = AllFit (cond b [] (inner_parts x0 x1 l u t))

  abbrev moves : Bool → Type 0
  moves b = AllFit (cond b [] ((x1 -ℚ x0) ∷ ((x1 -ℚ x0) *ℚ part_gone l u t) ∷ (x0 +ℚ (x1 -ℚ x0) *ℚ part_gone l u t) ∷ []))

  line_inside : line_parts x0 x1 l u t ≡ cond (same x0 x1) [] (inner_parts x0 x1 l u t)
  line_inside = rw (before-differ-back l t after, before-differ t u until) refl

  inner_by : (b : Bool) → AllFit (parts_gone l u t) → moves b → inner b
  inner_by true h k = tt
  inner_by false h k = (h.0, (h.1.0, (h.1.1.0, (k.0, (k.1.0, (k.1.1.0, tt))))))

  moves_by : (b : Bool) → inner b → moves b
  moves_by true h = tt
  moves_by false h = (h.1.1.1.0, (h.1.1.1.1.0, (h.1.1.1.1.1.0, tt)))

  line_fits : AllFit (parts_gone l u t) → AllFit (moved_parts x0 x1 (part_gone l u t)) → AllFit (line_parts x0 x1 l u t)
  line_fits h k = subst AllFit (sym line_inside) (inner_by (same x0 x1) h k)

  moved_fits : AllFit (line_parts x0 x1 l u t) → AllFit (moved_parts x0 x1 (part_gone l u t))
  moved_fits h = moves_by (same x0 x1) (subst AllFit line_inside h)

  value_by : (b : Bool) → same x0 x1 ≡ b → cond b x0 (x0 +ℚ (x1 -ℚ x0) *ℚ part_gone l u t) ≡ line_at x0 x1 l u t
  value_by true e = sym (ap (λ x. line_at x0 x l u t) (sym ((same_exact x0 x1).0 e)) ∙ line_at-level x0 l u t)
  value_by false e = sym (line_at-quotient x0 x1 l u t (before-trans l t u after until))

  moved_value : moved_at x0 x1 (part_gone l u t) ≡ line_at x0 x1 l u t
  moved_value = value_by (same x0 x1) refl

  level_fits : same x0 x1 ≡ true → AllFit (line_parts x0 x1 l u t)
  level_fits h = subst AllFit (sym line_inside) (subst (λ b. inner b) (sym h) tt)

  level_value : same x0 x1 ≡ true → x0 ≡ line_at x0 x1 l u t
  level_value h = value_by true h

  gone_by : same x0 x1 ≡ false → AllFit (line_parts x0 x1 l u t) → AllFit (parts_gone l u t)
  gone_by h k = let i = subst (λ b. inner b) h (subst AllFit line_inside k) in (i.0, (i.1.0, (i.1.1.0, tt)))

-- ---- both
module _ (p n b : Break) (after : before p.instant b.instant ≡ true) (until : before b.instant n.instant ≡ true) where
  abbrev gone : Ratio
  gone = part_gone p.instant n.instant b.instant

  abbrev AllStraight : Type 0
  AllStraight = AllFit (plane_parts_of (straight p n) p.instant n.instant b.instant)

  -- the course is level in both coordinates
  pub level : same_point p.place n.place ≡ true → (p.place ≡ straight_at p n b.instant) × AllStraight
  level h =
      let k = and_parts (same p.place.x n.place.x) (same p.place.y n.place.y) h in (
        point_by_coordinates p.place (straight_at p n b.instant) (level_value p.instant n.instant b.instant after until p.place.x n.place.x k.0) (level_value p.instant n.instant b.instant after until p.place.y n.place.y k.1),
        all_both (line_parts p.place.x n.place.x p.instant n.instant b.instant) (line_parts p.place.y n.place.y p.instant n.instant b.instant) (level_fits p.instant n.instant b.instant after until p.place.x n.place.x k.0) (level_fits p.instant n.instant b.instant after until p.place.y n.place.y k.1),
      )

  time_by : (c d : Bool) → same p.place.x n.place.x ≡ c → same p.place.y n.place.y ≡ d → (c && d) ≡ false → AllStraight → AllFit (parts_gone p.instant n.instant b.instant)
  time_by true true x y e h = absurd cc
  time_by true false x y e h = gone_by p.instant n.instant b.instant after until p.place.y n.place.y y (all_second (line_parts p.place.x n.place.x p.instant n.instant b.instant) (line_parts p.place.y n.place.y p.instant n.instant b.instant) h)
  time_by false d x y e h = gone_by p.instant n.instant b.instant after until p.place.x n.place.x x (all_first (line_parts p.place.x n.place.x p.instant n.instant b.instant) (line_parts p.place.y n.place.y p.instant n.instant b.instant) h)

  -- it is not, and the fraction of the time does not fit
  pub time_unfit : same_point p.place n.place ≡ false → (AllFit (parts_gone p.instant n.instant b.instant) → ⊥) → AllStraight → ⊥
  time_unfit e h k = h (time_by (same p.place.x n.place.x) (same p.place.y n.place.y) refl refl e k)

  module _ (q : Ratio) (is : q ≡ part_gone p.instant n.instant b.instant) where
    abbrev AllMoved : Ratio → Type 0
    AllMoved z = AllFit (moved_parts p.place.x n.place.x z ++ moved_parts p.place.y n.place.y z)

    -- the fraction fits, and a coordinate does not
    pub place_unfit : (AllMoved q → ⊥) → AllStraight → ⊥
    place_unfit h k = h (subst (λ z. AllMoved z) (sym is)
        (all_both (moved_parts p.place.x n.place.x gone) (moved_parts p.place.y n.place.y gone)
        (moved_fits p.instant n.instant b.instant after until p.place.x n.place.x (all_first (line_parts p.place.x n.place.x p.instant n.instant b.instant) (line_parts p.place.y n.place.y p.instant n.instant b.instant) k))
        (moved_fits p.instant n.instant b.instant after until p.place.y n.place.y (all_second (line_parts p.place.x n.place.x p.instant n.instant b.instant) (line_parts p.place.y n.place.y p.instant n.instant b.instant) k))))

    -- all do
    pub place : (place : Point) → AllFit (parts_gone p.instant n.instant b.instant) → (place ≡ record { x = moved_at p.place.x n.place.x q; y = moved_at p.place.y n.place.y q }) × AllMoved q → (place ≡ straight_at p n b.instant) × AllStraight
    place a h k =
        let m = subst (λ z. AllMoved z) is k.1 in (
          k.0 ∙ point_by_coordinates (record { x = moved_at p.place.x n.place.x q; y = moved_at p.place.y n.place.y q }) (straight_at p n b.instant)
              (ap (λ z. moved_at p.place.x n.place.x z) is ∙ moved_value p.instant n.instant b.instant after until p.place.x n.place.x)
              (ap (λ z. moved_at p.place.y n.place.y z) is ∙ moved_value p.instant n.instant b.instant after until p.place.y n.place.y),
          all_both (line_parts p.place.x n.place.x p.instant n.instant b.instant) (line_parts p.place.y n.place.y p.instant n.instant b.instant)
              (line_fits p.instant n.instant b.instant after until p.place.x n.place.x h (all_first (moved_parts p.place.x n.place.x gone) (moved_parts p.place.y n.place.y gone) m))
              (line_fits p.instant n.instant b.instant after until p.place.y n.place.y h (all_second (moved_parts p.place.x n.place.x gone) (moved_parts p.place.y n.place.y gone) m)),
        )
