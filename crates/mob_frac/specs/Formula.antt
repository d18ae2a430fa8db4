-- Formulas: an operation on numbers takes several steps, and each step has to fit. The parts of a
-- formula are the results of its steps in lowest terms, in the order in which they are written. The
-- part lists of all formulas are here, each under the letter and number by which an error names it.
use Rattle.std.specs.Prelude.{◌≡◌, cond, ◌&&◌, ◌||◌, List, [], ◌∷◌, Result, MatchResult}
use Rattle.mob_ratio.{specs.Ratio.{Ratio, ◌+ℚ◌, ◌-ℚ◌, ◌*ℚ◌, ◌/ℚ◌}, specs.Order.{before, same}, specs.Sign.{nil}}
use Rattle.mob_frac.specs.Fits.{Fits}

-- every part of the formula fits
abbrev pub AllFit : List Ratio → Type 0
AllFit [] = Unit {0}
AllFit (q ∷ parts) = Fits q × AllFit parts

-- the result is x if every part of its formula fits, and an error exactly if one does not
abbrev pub IsFormula : {A E : Type 0} → List Ratio → A → Result A E → Type 0
IsFormula parts x r = MatchResult r (λ y. (y ≡ x) × AllFit parts) (λ _. ¬ AllFit parts)

-- F1, the value at t of the line from x0 at l to x1 at u: the linear unit function of Forlizzi,
-- Güting, Nardelli and Schneider (SIGMOD 2000), computed by its slope. These are its parts if t is
-- neither end and the line is not constant.
abbrev pub inner_parts : Ratio → Ratio → Ratio → Ratio → Ratio → List Ratio
inner_parts x0 x1 l u t =
    let a = t -ℚ l in
    let b = u -ℚ l in
    let q = a /ℚ b in
    let c = x1 -ℚ x0 in
    let e = c *ℚ q in
    a ∷ b ∷ q ∷ c ∷ e ∷ (x0 +ℚ e) ∷ []

-- F1 at any instant: it has no step if t is an end or the line is constant.
abbrev pub line_parts : Ratio → Ratio → Ratio → Ratio → Ratio → List Ratio
line_parts x0 x1 l u t = cond (same t l || same t u || same x0 x1) [] (inner_parts x0 x1 l u t)

-- F2, one operation on two numbers: its one part is the result (Knuth, The Art of Computer
-- Programming, volume 2, section 4.5.1, "Fractions").
abbrev pub sum_parts : Ratio → Ratio → List Ratio
sum_parts x y = (x +ℚ y) ∷ []

abbrev pub difference_parts : Ratio → Ratio → List Ratio
difference_parts x y = (x -ℚ y) ∷ []

abbrev pub product_parts : Ratio → Ratio → List Ratio
product_parts x y = (x *ℚ y) ∷ []

-- y is not 0
abbrev pub quotient_parts : Ratio → Ratio → List Ratio
quotient_parts x y = (x /ℚ y) ∷ []

-- F3, the root of the line from f0 at l to f1 at u, where f0 and f1 have opposite signs: one step
-- of the method of false position, which is exact on a line (for the steps: Knuth, The Art of
-- Computer Programming, volume 2, section 4.5.1).
abbrev pub inner_root_parts : Ratio → Ratio → Ratio → Ratio → List Ratio
inner_root_parts f0 f1 l u =
    let d = f0 -ℚ f1 in
    let q = f0 /ℚ d in
    let w = u -ℚ l in
    let s = w *ℚ q in
    d ∷ q ∷ w ∷ s ∷ (l +ℚ s) ∷ []

-- F4, the turn from the segment (x0, y0) to (x1, y1) towards the point (x, y): the cross product of
-- the segment and the vector from its start to the point (Cormen, Leiserson, Rivest and Stein,
-- Introduction to Algorithms, section "Line-segment properties").
abbrev pub parts_of_turn : Ratio → Ratio → Ratio → Ratio → Ratio → Ratio → List Ratio
parts_of_turn x0 y0 x1 y1 x y =
    let c = x1 -ℚ x0 in
    let d = y -ℚ y0 in
    let m = c *ℚ d in
    let e = y1 -ℚ y0 in
    let f = x -ℚ x0 in
    let n = e *ℚ f in
    c ∷ d ∷ m ∷ e ∷ f ∷ n ∷ (m -ℚ n) ∷ []

-- F5, the point of the segment from (x0, y0) to (x1, y1) that is nearest to (0, 0), as the closest
-- approach of two moving points: the foot of the perpendicular. It lies strictly between the ends
-- if the segment approaches at the first and recedes at the last. Only then are there quotients, of
-- A, the squared length of the segment, and of K, that length times the distance of the foot.
abbrev pub foot_parts : (Ratio → Ratio → List Ratio) → Ratio → Ratio → Ratio → Ratio → List Ratio
foot_parts quotients x0 y0 x1 y1 =
    let ex = x1 -ℚ x0 in
    let ey = y1 -ℚ y0 in
    let A = ex *ℚ ex +ℚ ey *ℚ ey in
    let B = x0 *ℚ ex +ℚ y0 *ℚ ey in
    let K = x0 *ℚ ey -ℚ y0 *ℚ ex in
    ex ∷ ey ∷ (ex *ℚ ex) ∷ (ey *ℚ ey) ∷ A ∷ (x0 *ℚ ex) ∷ (y0 *ℚ ey) ∷ B ∷ (A +ℚ B) ∷ (x0 *ℚ ey) ∷ (y0 *ℚ ex) ∷ K ∷ cond (before B nil && before nil (A +ℚ B)) (quotients A K) []

-- the quotients for the squared distance of the foot
abbrev pub approach_parts : Ratio → Ratio → Ratio → Ratio → List Ratio
approach_parts = foot_parts (λ A K. (K /ℚ A) ∷ (K *ℚ (K /ℚ A)) ∷ [])

-- the quotients for whether that is at most D; it is if K is 0
abbrev pub within_parts : Ratio → Ratio → Ratio → Ratio → Ratio → List Ratio
within_parts D = foot_parts (λ A K. (K /ℚ A) ∷ cond (same K nil) [] ((D /ℚ K) ∷ []))

-- F6, the squared distance of two points whose coordinates differ by x and y (Pythagoras); and the
-- square of a distance d
abbrev pub square_parts : Ratio → Ratio → List Ratio
square_parts x y = (x *ℚ x) ∷ (y *ℚ y) ∷ (x *ℚ x +ℚ y *ℚ y) ∷ []

abbrev pub distance_parts : Ratio → List Ratio
distance_parts d = (d *ℚ d) ∷ []

-- F7, a bounding box expanded: each of its sides moved outward by d, in the order in which they are
-- written.
abbrev pub expansion_parts : Ratio → Ratio → Ratio → Ratio → Ratio → List Ratio
expansion_parts xmin xmax ymin ymax d = (xmin -ℚ d) ∷ (xmax +ℚ d) ∷ (ymin -ℚ d) ∷ (ymax +ℚ d) ∷ []
