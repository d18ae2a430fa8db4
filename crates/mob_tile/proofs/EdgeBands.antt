-- A slice on a cell that no edge divides is in one band.
use Rattle.std.specs.declared.cmp.Ordering.TheVariants.{Less, Equal, Greater}
use Rattle.std.{proofs.Common.{◌≡◌, ◌⊎◌, inl, inr, Bool, true, false, ℤ, pos, ◌+ℤ◌, arith, refl, sym, ap, subst, ◌∙◌, ◌&&◌, ◌||◌, not, cond}, proofs.lemmas.Bool.{and_parts}}
use Rattle.mob_ratio.{specs.Ratio.{Ratio, ◌-ℚ◌, ◌<ℚ◌}, specs.Order.{before, up_to, smaller}, specs.Line.{line_at}, specs.Sign.{nil, opposite, root_at, sign_of}}
use Rattle.mob_ratio.proofs.Order.{before-lt, lt-before, before-back, up_to-le, up_to-trans, not-up_to-le, smaller_left, smaller_right, before-within}
use Rattle.mob_ratio.{proofs.Field.{le_of_lt, le_trans, lt_le}, proofs.LineAt.{line_at-level, line_at-part}, proofs.Signs.{line_at-diff, sign-diff, compared}}
use Rattle.mob_ratio.proofs.Between.{within, IsWithin, start_below, end_below, HasBelow}
use Rattle.mob_span.{specs.Span.{SpanOf, has}, specs.Neighbours.{is_inside}, proofs.Insides.{inner_has}}
use Rattle.mob_cells.{specs.Cells.{NoneWithin, is_cell, is_cell_of}, proofs.Keeps.{kept, upto_of, open_has, point_has}}
use Rattle.mob_grid.{specs.Bands.{InBand, band_of}, proofs.BandNumbers.{band_has}}
use Rattle.mob_tile.specs.Edges.{edge_of}

-- ---- the ends of a cell
pub record IsInOrder (s c : SpanOf) : Type 0 where
  pub low : up_to s.lower c.lower ≡ true
  pub long_or_one : up_to c.lower c.upper ≡ true
  pub high : up_to c.upper s.upper ≡ true

pub in_order : (s c : SpanOf) → is_cell_of s c ≡ true → IsInOrder s c
in_order s c i =
    let w = and_parts (is_cell c) (is_inside s c) i in
    let x = and_parts (before s.lower c.lower || (up_to s.lower c.lower && (s.lower_inc || not c.lower_inc))) (before c.upper s.upper || (up_to c.upper s.upper && (s.upper_inc || not c.upper_inc))) w.1 in
    record { low = upto_of s.lower c.lower s.lower_inc (not c.lower_inc) x.0; long_or_one = grind (arith, w.0, before-back c.lower c.upper); high = upto_of c.upper s.upper s.upper_inc (not c.upper_inc) x.1 }

-- ---- the smaller of two
smaller_is : (a b : Ratio) → (smaller a b ≡ a) ⊎ (smaller a b ≡ b)
smaller_is a b = by (before b a) refl
  where
    by : (d : Bool) → before b a ≡ d → (smaller a b ≡ a) ⊎ (smaller a b ≡ b)
    by true e = inr (rw e refl)
    by false e = inl (rw e refl)

pub between_ends : (a b l u t : Ratio) → before l u ≡ true → up_to l t ≡ true → up_to t u ≡ true → up_to (smaller a b) (line_at a b l u t) ≡ true
between_ends a b l u t h i j = by (within a b l u t h i j) (before b a) refl
  where
    by : IsWithin a b (line_at a b l u t) → (d : Bool) → before b a ≡ d → up_to (smaller a b) (line_at a b l u t) ≡ true
    by w true e = up_to-trans (smaller a b) b (line_at a b l u t) (smaller_right a b) (w.falling (grind (arith, e, before-back b a))).0
    by w false e = up_to-trans (smaller a b) a (line_at a b l u t) (smaller_left a b) (w.rising (grind (arith, e))).0

-- ---- no edge divides the cell
less_is : (x y : Ratio) → compared x y ≡ Less → before x y ≡ true
less_is x y h = by (before x y) refl (before y x) h
  where
    by : (a : Bool) → before x y ≡ a → (b : Bool) → cond a Less (cond b Greater Equal) ≡ Less → a ≡ true
    by true e b h = refl
    by false e true h = absurd cc
    by false e false h = absurd cc

is_less : (x y : Ratio) → before x y ≡ true → compared x y ≡ Less
is_less x y h = rw h refl

module _ (c x0 x1 : Ratio) (s d : SpanOf) (level : before s.lower s.upper ≡ false → x0 ≡ x1) (i : is_cell_of s d ≡ true) where
  abbrev at : Ratio → Ratio
  at t = line_at x0 x1 s.lower s.upper t

  -- the cell has no root of the difference to the nth edge strictly inside
  abbrev pub IsClear : ℤ → Type 0
  IsClear n = opposite (x0 -ℚ edge_of c n) (x1 -ℚ edge_of c n) ≡ true → NoneWithin (root_at (x0 -ℚ edge_of c n) (x1 -ℚ edge_of c n) s.lower s.upper) d

  difference_at : (e t : Ratio) → at t -ℚ e ≡ line_at (x0 -ℚ e) (x1 -ℚ e) s.lower s.upper t
  difference_at e t = ap (λ z. at t -ℚ z) (sym (line_at-level e s.lower s.upper t)) ∙ line_at-diff x0 x1 e e s.lower s.upper t

  -- if one instant of the cell is before an edge, so is each other
  one_side : (n : ℤ) → IsClear n → (t u : Ratio) → has d t ≡ true → has d u ≡ true → before (at u) (edge_of c n) ≡ true → before (at t) (edge_of c n) ≡ true
  one_side n f t u h k b =
      let e = edge_of c n in
      let same = kept (x0 -ℚ e) (x1 -ℚ e) s d (λ z. ap (λ w. w -ℚ e) (level z)) i f in
      let signs : sign_of (at t -ℚ e) ≡ sign_of (at u -ℚ e) = ap sign_of (difference_at e t) ∙ same t h ∙ sym (same u k) ∙ ap sign_of (sym (difference_at e u)) in
      less_is (at t) e (sign-diff (at t) e ∙ signs ∙ sym (sign-diff (at u) e) ∙ is_less (at u) e b)

  abbrev a0 : Ratio
  a0 = at d.lower

  abbrev a1 : Ratio
  a1 = at d.upper

  -- the value inside, from those at the ends of the cell
  piece_at : (t : Ratio) → before d.lower d.upper ≡ true → line_at a0 a1 d.lower d.upper t ≡ at t
  piece_at t h = let o = in_order s d i in line_at-part x0 x1 s.lower s.upper d.lower d.upper t (before-within s.lower d.lower d.upper s.upper o.low h o.high) h

  long_until : (n : ℤ) → IsClear n → (t : Ratio) → has d t ≡ true → before d.lower d.upper ≡ true → before (smaller a0 a1) (edge_of c n) ≡ true → before (at t) (edge_of c n) ≡ true
  long_until n f t h k b = elim (smaller_is a0 a1) [
    | inl e ↦ from (start_below a0 a1 d.lower d.upper (edge_of c n) k (subst (λ z. before z (edge_of c n) ≡ true) e b))
    | inr e ↦ from (end_below a0 a1 d.lower d.upper (edge_of c n) k (subst (λ z. before z (edge_of c n) ≡ true) e b))
  ]
    where
      from : HasBelow a0 a1 d.lower d.upper (edge_of c n) → before (at t) (edge_of c n) ≡ true
      from m = one_side n f t m.at h (inner_has d m.at m.after m.until) (subst (λ z. before z (edge_of c n) ≡ true) (piece_at m.at k) m.is)

  -- the band of the lesser end is that of each value in the cell
  pub one_band_on : nil <ℚ c → ((n : ℤ) → IsClear n) → (t : Ratio) → has d t ≡ true → InBand c (band_of c (smaller a0 a1)) (at t)
  one_band_on p f t h = by (before d.lower d.upper) refl
    where
      w : is_cell d ≡ true
      w = (and_parts (is_cell d) (is_inside s d) i).0

      by : (b : Bool) → before d.lower d.upper ≡ b → InBand c (band_of c (smaller a0 a1)) (at t)
      by true e =
          let m = smaller a0 a1 in
          let n = band_of c m in
          let own = band_has c m p in
          let ends = open_has d t w e h in
          let low : up_to m (at t) ≡ true = subst (λ z. up_to m z ≡ true) (piece_at t e) (between_ends a0 a1 d.lower d.upper t e (grind (arith, ends.0, before-back d.lower t)) (grind (arith, ends.1, before-back t d.upper))) in
          record {
            from = le_trans (edge_of c n) m (at t) own.from (not-up_to-le m (at t) low);
            until = before-lt (at t) (edge_of c (n +ℤ pos 1)) (long_until (n +ℤ pos 1) (f (n +ℤ pos 1)) t h e (lt-before m (edge_of c (n +ℤ pos 1)) own.until));
          }
      by false e =
          let q = point_has d t w e h in
          let one : a0 ≡ a1 = ap at q.0 in
          let same : smaller a0 a1 ≡ at t = elim (smaller_is a0 a1) [ inl z ↦ z ∙ ap at (sym q.1) | inr z ↦ z ∙ sym one ∙ ap at (sym q.1) ] in
          subst (λ z. InBand c (band_of c z) (at t)) (sym same) (band_has c (at t) p)

-- ---- instants themselves
pub one_time_on : (c : Ratio) (s d : SpanOf) → is_cell_of s d ≡ true → nil <ℚ c → ((n : ℤ) → NoneWithin (edge_of c n) d) → (t : Ratio) → has d t ≡ true → InBand c (band_of c d.lower) t
one_time_on c s d i p f t h = by (before d.lower d.upper) refl
  where
    w : is_cell d ≡ true
    w = (and_parts (is_cell d) (is_inside s d) i).0

    by : (b : Bool) → before d.lower d.upper ≡ b → InBand c (band_of c d.lower) t
    by true e =
        let n = band_of c d.lower in
        let own = band_has c d.lower p in
        let ends = open_has d t w e h in
        let next = edge_of c (n +ℤ pos 1) in
        let none = f (n +ℤ pos 1) in
        let start : before d.lower next ≡ true = lt-before d.lower next own.until in
        let past : before next d.upper ≡ false = grind (arith, none, start) in
        record {
          from = le_trans (edge_of c n) d.lower t own.from (le_of_lt d.lower t (before-lt d.lower t ends.0));
          until = lt_le t d.upper next (before-lt t d.upper ends.1) (up_to-le d.upper next past);
        }
    by false e = let q = point_has d t w e h in subst (λ z. InBand c (band_of c d.lower) z) (sym q.1) (band_has c d.lower p)
