-- The instants inside a span at which a comparison changes fit exactly if the one of its results
-- does.
use Rattle.std.{specs.Prelude.{◌≡◌, ◌⊎◌, Bool, true, false, cond, ◌&&◌, Contains, List, [], ◌∷◌, filter, map, None, Some, Option, pos, IfSome, refl}, specs.List.{AllByRecursion}, specs.declared.cmp.Ordering.{Ordering}}
use Rattle.std.{proofs.Common.{arith, ap, inl, inr, sym, ◌∙◌, subst, true≢false}, proofs.lemmas.Bool.{and_from, and_parts}}
use Rattle.mob_list.proofs.Entries.{all_by_each, each_of_all, first_in, flat-Contains, later_in, none_in, which_in}
use Rattle.mob_ratio.{specs.Gcd.{gcd, gcd_steps}, specs.Lowest.{in_lowest_terms}, specs.Ratio.{Ratio, inverse, over, turned, whole, ◌+ℚ◌, ◌*ℚ◌, ◌/ℚ◌}, specs.Order.{before, greater, same, smaller}, specs.Sign.{opposite, root_at, sign_on}}
use Rattle.mob_ratio.{proofs.Clear.{clear1, cleared}, proofs.Field.{midpoint, mul_comm}, proofs.IntRing.{linear}, proofs.Order.{before-back, before-differ, before-differ-back, before-lt, before-neither, before-self, before-trans, before-up_to, between, lt-before, up_to-before}}
use Rattle.mob_frac.{specs.Fits.{Fits}, specs.Formula.{AllFit, inner_root_parts}, proofs.Fits.{fits_unless}, proofs.Fitting.{all_both, all_first, all_second}}
use Rattle.mob_span.{specs.Span.{SpanOf, has, has_instant}, specs.Neighbours.{is_inside}, proofs.Insides.{inner_has, inside_has}}
use Rattle.mob_slice.{specs.Entries.{IsFirst}, specs.Modes.{entry_given}, specs.declared.comparison.Rel.{Rel}, specs.declared.formula.Formula.{Formula}}
use Rattle.mob_cells.{specs.declared.linear.Ends.{Ends}, specs.declared.turning.Turn.{Turn}, specs.declared.turning.Turning.{Turning}, specs.Cells.{NoneWithin, is_cell, is_cell_of, signs_of, start_cells}, specs.Gaps.{related_by}, specs.Roots.{IsLevel, as_list, root_of, root_parts, roots, roots_parts}}
use Rattle.mob_cells.{specs.Changes.{IsConstantOn, IsSteadyAround, cells_of, changes, changes_inside, halfway}, specs.Turnings.{IsTurnInside, IsTurning, turn_numbers, turning_at, turning_inside}}
use Rattle.mob_cells.{proofs.Changed.{before_smaller, changes_are, changes_are_cuts, greater_before, no_change}, proofs.Keeps.{kept}, proofs.Splits.{start_are}, proofs.Walking.{all_self, all_split}}

-- ---- lists of numbers
fit_each : (xs : List Ratio) → ((t : Ratio) → Contains xs t → Fits t) → AllFit xs
fit_each [] h = tt
fit_each (x ∷ xs) h = (h x (first_in x xs), fit_each xs (λ y c. h y (later_in x xs y c)))

each_fit : (xs : List Ratio) → AllFit xs → (t : Ratio) → Contains xs t → Fits t
each_fit [] a t c = absurd (none_in t c)
each_fit (x ∷ xs) a t c = elim (which_in x xs t c) [ inl e ↦ subst Fits e a.0 | inr d ↦ each_fit xs a.1 t d ]

in_filter : (test : Ratio → Bool) (xs : List Ratio) (t : Ratio) → Contains (filter test xs) t → Contains xs t × (test t ≡ true)
in_filter test [] t h = absurd (none_in t h)
in_filter test (x ∷ xs) t h = by (test x) refl h (λ k. in_filter test xs t k)
  where
    by : (b : Bool) → test x ≡ b → Contains (cond b (x ∷ filter test xs) (filter test xs)) t → (Contains (filter test xs) t → Contains xs t × (test t ≡ true)) → Contains (x ∷ xs) t × (test t ≡ true)
    by true e h rest = elim (which_in x (filter test xs) t h) [
      | inl q ↦ (subst (λ z. Contains (x ∷ xs) z) q (first_in x xs), subst (λ z. test z ≡ true) q e)
      | inr k ↦ let r = rest k in (later_in x xs t r.0, r.1)
    ]
    by false e h rest = let r = rest h in (later_in x xs t r.0, r.1)

filter_in : (test : Ratio → Bool) (xs : List Ratio) (t : Ratio) → Contains xs t → test t ≡ true → Contains (filter test xs) t
filter_in test [] t h k = absurd (none_in t h)
filter_in test (x ∷ xs) t h k = by (test x) refl (which_in x xs t h) (λ m. filter_in test xs t m k)
  where
    by : (b : Bool) → test x ≡ b → (x ≡ t) ⊎ Contains xs t → (Contains xs t → Contains (filter test xs) t) → Contains (cond b (x ∷ filter test xs) (filter test xs)) t
    by true e (inl q) rest = subst (λ z. Contains (x ∷ filter test xs) z) q (first_in x (filter test xs))
    by true e (inr m) rest = later_in x (filter test xs) t (rest m)
    by false e (inl q) rest = absurd (true≢false (sym k ∙ ap test (sym q) ∙ e))
    by false e (inr m) rest = rest m

-- ---- the roots
one_fit : (s : SpanOf) (f : Ends) (b : Bool) → AllFit (cond b (inner_root_parts f.at_lower f.at_upper s.lower s.upper) []) → AllFit (as_list (cond b (Some (root_at f.at_lower f.at_upper s.lower s.upper)) None))
unfolding root_at
one_fit s f true h = (h.1.1.1.1.0, tt)
one_fit s f false h = tt

-- the last part of F3 is the root
roots_fit : (s : SpanOf) (functions : List Ends) → AllFit (roots_parts s functions) → AllFit (roots s functions)
roots_fit s [] h = tt
roots_fit s (f ∷ functions) h =
    all_both (as_list (root_of s f)) (roots s functions)
    (one_fit s f (opposite f.at_lower f.at_upper) (all_first (root_parts s f) (roots_parts s functions) h))
    (roots_fit s functions (all_second (root_parts s f) (roots_parts s functions) h))

-- where they fit, so do the instants at which a test changes
pub changes_fit : (s : SpanOf) (functions : List Ends) (meets : Ratio → Bool) → AllFit (roots_parts s functions) → AllFit (changes_inside meets s functions)
changes_fit s functions meets h = fit_each (changes_inside meets s functions) (λ t m.
    let c = in_filter (λ u. before s.lower u && before u s.upper) (changes meets (cells_of s functions)) t m in
    let b = and_parts (before s.lower t) (before t s.upper) c.1 in
    elim (changes_are_cuts s functions meets t c.0) [
      | inl e ↦ absurd (true≢false (sym b.0 ∙ ap (λ z. before s.lower z) e ∙ before-self s.lower))
      | inr k ↦ elim k [
        | inl e ↦ absurd (true≢false (sym b.1 ∙ ap (λ z. before z s.upper) e ∙ before-self s.upper))
        | inr j ↦ each_fit (roots s functions) (roots_fit s functions h) t j
      ]
    ])

-- ---- a test by signs is constant on each cell
half : inverse (whole (pos 2)) ≡ over (pos 1) 2
unfolding inverse turned whole over gcd gcd_steps in_lowest_terms
half = refl

half_is : (l u : Ratio) → (l +ℚ u) /ℚ whole (pos 2) ≡ over (pos 1) 2 *ℚ (l +ℚ u)
half_is l u = ap (λ z. (l +ℚ u) *ℚ z) half ∙ mul_comm (l +ℚ u) (over (pos 1) 2)

half_twice : (a : Ratio) → over (pos 1) 2 *ℚ (a +ℚ a) ≡ a
half_twice = clear1 _ (λ D x p. simp cleared (omega (arith, linear)))

halfway_long : (c : SpanOf) → before c.lower c.upper ≡ true → (before c.lower (halfway c) ≡ true) × (before (halfway c) c.upper ≡ true)
halfway_long c h =
    let m = midpoint c.lower c.upper (before-lt c.lower c.upper h) in
    let half : Ratio = over (pos 1) 2 *ℚ (c.lower +ℚ c.upper) in
    subst (λ z. (before c.lower z ≡ true) × (before z c.upper ≡ true)) (sym (half_is c.lower c.upper)) (lt-before c.lower half m.0, lt-before half c.upper m.1)

halfway_has : (c : SpanOf) → is_cell c ≡ true → (b : Bool) → before c.lower c.upper ≡ b → has c (halfway c) ≡ true
halfway_has c i true e = let h = halfway_long c e in inner_has c (halfway c) h.0 h.1
halfway_has c i false e =
    let one : c.lower ≡ c.upper = before-neither c.lower c.upper e (grind (arith, e, i)) in
    let low : has c c.lower ≡ true = grind (arith, e, i, before-self c.lower) in
    let at : halfway c ≡ c.lower = ap (λ z. (c.lower +ℚ z) /ℚ whole (pos 2)) (sym one) ∙ half_is c.lower c.lower ∙ half_twice c.lower in
    subst (λ z. has c z ≡ true) (sym at) low

cell_within : (s c : SpanOf) (t : Ratio) → is_inside s c ≡ true → has c t ≡ true → has s t ≡ true
cell_within s c t i k = by (has s t) refl
  where
    by : (b : Bool) → has s t ≡ b → has s t ≡ true
    by true e = e
    by false e = absurd (true≢false (sym k ∙ inside_has s c t i e))

-- no root of the function is inside the cell
abbrev IsClear : SpanOf → SpanOf → Ends → Type 0
IsClear s c f = IsLevel s f × (opposite f.at_lower f.at_upper ≡ true → NoneWithin (root_at f.at_lower f.at_upper s.lower s.upper) c)

signs_on_cell : (s c : SpanOf) (functions : List Ends) → is_cell_of s c ≡ true → AllByRecursion (IsClear s c) functions → (t : Ratio) → has c t ≡ true → signs_of s functions t ≡ map (λ f. sign_on f.at_lower f.at_upper s.lower s.upper c.lower c.upper) functions
signs_on_cell s c [] i h t k = refl
signs_on_cell s c (f ∷ functions) i h t k =
    ap (λ o. o ∷ signs_of s functions t) (kept f.at_lower f.at_upper s c h.0.0 i h.0.1 t k) ∙ ap (λ z. sign_on f.at_lower f.at_upper s.lower s.upper c.lower c.upper ∷ z) (signs_on_cell s c functions i h.1 t k)

root_in : (s : SpanOf) (functions : List Ends) (f : Ends) → Contains functions f → opposite f.at_lower f.at_upper ≡ true → Contains (roots s functions) (root_at f.at_lower f.at_upper s.lower s.upper)
root_in s functions f m o =
    let r = root_at f.at_lower f.at_upper s.lower s.upper in
    flat-Contains (λ g. as_list (root_of s g)) functions f r m (subst (λ b. Contains (as_list (cond b (Some r) None)) r) (sym o) (first_in r []))

pub cells_constant : (s : SpanOf) (functions : List Ends) (meets : Ratio → Bool) (keeps : List Ordering → Bool) → has_instant s ≡ true → AllByRecursion (IsLevel s) functions → ((t : Ratio) → has s t ≡ true → meets t ≡ keeps (signs_of s functions t)) → AllByRecursion (IsConstantOn meets) (cells_of s functions)
cells_constant s functions meets keeps some level is =
    let cells = cells_of s functions in
    let are = all_split s (roots s functions) (start_cells s) (start_are s some) in
    all_by_each (IsConstantOn meets) cells (λ c m t k.
    let i = each_of_all (λ d. is_cell_of s d ≡ true) cells are.are c m in
    let w = and_parts (is_cell c) (is_inside s c) i in
    let at = halfway_has c w.0 (before c.lower c.upper) refl in
    let clear : AllByRecursion (IsClear s c) functions = all_by_each (IsClear s c) functions (λ f n. (each_of_all (IsLevel s) functions level f n, λ o. each_of_all (NoneWithin (root_at f.at_lower f.at_upper s.lower s.upper)) cells (all_self (root_at f.at_lower f.at_upper s.lower s.upper) (roots s functions) (start_cells s) (root_in s functions f n o)) c m)) in
    is t (cell_within s c t w.1 k) ∙ ap keeps (signs_on_cell s c functions i clear t k ∙ sym (signs_on_cell s c functions i clear (halfway c) at)) ∙ sym (is (halfway c) (cell_within s c (halfway c) w.1 at)))

-- ---- the instant at which the results change
module _ (s : SpanOf) (functions : List Ends) (rel : Rel) (w : Turning) (meets : Ratio → Bool) (some : has_instant s ≡ true) (level : AllByRecursion (IsLevel s) functions) (results : IsTurning s functions rel w) (is : (t : Ratio) → has s t ≡ true → meets t ≡ related_by rel (signs_of s functions t)) where
  constant : AllByRecursion (IsConstantOn meets) (cells_of s functions)
  constant = cells_constant s functions meets (related_by rel) some level is

  inner_turned : (t : Ratio) → before s.lower t ≡ true → before t s.upper ≡ true → turning_at s w t ≡ turning_inside w.first w.turn t
  inner_turned t a b = rw (before-differ-back s.lower t a, before-differ t s.upper b) refl

  meets_inside : (turn : Option Turn) → w.turn ≡ turn → (t : Ratio) → before s.lower t ≡ true → before t s.upper ≡ true → meets t ≡ turning_inside w.first turn t
  meets_inside turn e t a b = let i = inner_has s t a b in is t i ∙ results.each t i ∙ inner_turned t a b ∙ ap (λ z. turning_inside w.first z t) e

  left_of : (c : Turn) (t : Ratio) → before t c.at ≡ true → turning_inside w.first (Some c) t ≡ w.first
  left_of c t h = rw h refl

  right_of : (c : Turn) (t : Ratio) → before c.at t ≡ true → turning_inside w.first (Some c) t ≡ c.after
  right_of c t h = rw (before-back c.at t h, h) refl

  at_turn : (c : Turn) → turning_inside w.first (Some c) c.at ≡ c.there
  at_turn c = rw (before-self c.at) refl

  -- an instant at which the test changes is that one
  turn_fits : (turn : Option Turn) → w.turn ≡ turn → IsTurnInside s turn → AllFit (turn_numbers turn) → (t : Ratio) → Contains (changes meets (cells_of s functions)) t → before s.lower t ≡ true → before t s.upper ≡ true → Fits t
  turn_fits None e i f t m a b = absurd (no_change s functions meets constant s.lower s.upper t a b a b (λ u h x y. meets_inside None e u x y ∙ sym (meets_inside None e t a b)) m)
  turn_fits (Some c) e i f t m a b = by (before t c.at) refl (before c.at t) refl
    where
      by : (x : Bool) → before t c.at ≡ x → (y : Bool) → before c.at t ≡ y → Fits t
      by true p y q = absurd (no_change s functions meets constant s.lower c.at t a b a p (λ u h x z. meets_inside (Some c) e u x (before-trans u c.at s.upper z i.1) ∙ left_of c u z ∙ sym (left_of c t p) ∙ sym (meets_inside (Some c) e t a b)) m)
      by false p true q = absurd (no_change s functions meets constant c.at s.upper t a b q b (λ u h x z. meets_inside (Some c) e u (before-trans s.lower c.at u i.0 x) z ∙ right_of c u x ∙ sym (right_of c t q) ∙ sym (meets_inside (Some c) e t a b)) m)
      by false p false q = subst Fits (sym (before-neither t c.at p q)) f.0

  pub turn_to_changes : AllFit (turn_numbers w.turn) → AllFit (changes_inside meets s functions)
  turn_to_changes f = fit_each (changes_inside meets s functions) (λ t m.
      let c = in_filter (λ u. before s.lower u && before u s.upper) (changes meets (cells_of s functions)) t m in
      let b = and_parts (before s.lower t) (before t s.upper) c.1 in
      turn_fits w.turn refl results.inside f t c.0 b.0 b.1)

  -- and the test changes there
  not_steady : (c : Turn) → w.turn ≡ Some c → (before s.lower c.at ≡ true) × (before c.at s.upper ≡ true) → (w.first ≡ c.there → c.there ≡ c.after → ⊥) → IsSteadyAround meets s c.at → ⊥
  not_steady c e i n st =
      let there = meets_inside (Some c) e c.at i.0 i.1 ∙ at_turn c in
      let m : Ratio = greater st.from s.lower in
      let g = greater_before st.from s.lower c.at st.earlier i.0 (before st.from s.lower) refl in
      let u = between m c.at g.0 in
      let ul = up_to-before s.lower m u.0 g.2 u.1 in
      let uh = before-trans u.0 c.at s.upper u.2 i.1 in
      let left = sym (meets_inside (Some c) e u.0 ul uh ∙ left_of c u.0 u.2) ∙ st.same u.0 (inner_has s u.0 ul uh) (up_to-before st.from m u.0 g.1 u.1) (before-trans u.0 c.at st.to u.2 st.later) ∙ there in
      let k : Ratio = smaller st.to s.upper in
      let d = before_smaller st.to s.upper c.at st.later i.1 (before s.upper st.to) refl in
      let v = between c.at k d.0 in
      let vl = before-trans s.lower c.at v.0 i.0 v.1 in
      let vh = before-up_to v.0 k s.upper v.2 d.2 in
      let right = sym there ∙ sym (st.same v.0 (inner_has s v.0 vl vh) (before-trans st.from c.at v.0 st.earlier v.1) (before-up_to v.0 k st.to v.2 d.1)) ∙ meets_inside (Some c) e v.0 vl vh ∙ right_of c v.0 v.1 in
      n left right

  changed_fits : (turn : Option Turn) → w.turn ≡ turn → IsTurnInside s turn → IfSome turn (λ c. w.first ≡ c.there → c.there ≡ c.after → ⊥) → AllFit (changes_inside meets s functions) → AllFit (turn_numbers turn)
  changed_fits None e i n f = tt
  changed_fits (Some c) e i n f = (
    fits_unless c.at (λ u. not_steady c e i n ((changes_are s functions meets constant c.at i.0 i.1).1 (λ m. u (each_fit (changes_inside meets s functions) f c.at (filter_in (λ z. before s.lower z && before z s.upper) (changes meets (cells_of s functions)) c.at m (and_from _ _ i.0 i.1)))))),
    tt,
  )

  pub changes_to_turn : AllFit (changes_inside meets s functions) → AllFit (turn_numbers w.turn)
  changes_to_turn f = changed_fits w.turn refl results.inside results.changes f

  -- so their entries have the same first formula
  pub same_first : (o : Option Formula) → IsFirst (entry_given (turn_numbers w.turn)) o → IsFirst (entry_given (changes_inside meets s functions)) o
  same_first o (inl h) = inl (turn_to_changes h.0, h.1)
  same_first o (inr h) = inr (λ f. h.0 (changes_to_turn f), h.1)
