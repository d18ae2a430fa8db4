-- The results of a comparison on the cells of a span.
use Rattle.std.{specs.Prelude.{◌≡◌, Bool, true, false, cond, not, ◌&&◌, ◌||◌, Contains, List, [], ◌∷◌, None, Some, Option, Result, Ok, Err, IfOk, IfSome, MatchResult, refl}, specs.List.{AllByRecursion}}
use Rattle.std.{proofs.Common.{arith, ap, inl, inr, sym, ◌∙◌, subst, true≢false}, proofs.lemmas.Bool.{and_parts}}
use Rattle.mob_list.{specs.Faults.{OnCause}, specs.declared.fault.Fault.{Fault}, specs.declared.fault.Fault.TheVariants.{Because, NoMemory}, proofs.Entries.{all_by_each, each_of_all, none_in, which_in}}
use Rattle.mob_ratio.{specs.Ratio.{Ratio}, specs.Order.{before, same, up_to}, proofs.Order.{before-back, before-differ, before-differ-back, before-trans, before-up_to, before-weak, same_exact, up_to-before, up_to-both, up_to-trans}}
use Rattle.mob_span.{specs.Span.{SpanOf, has, has_instant}, specs.Flags.{same_bool}, specs.Neighbours.{is_inside}, proofs.SpanLemmas.{has_upto_lower, has_upto_upper}}
use Rattle.mob_slice.{specs.Cut.{slice_value}, specs.Entries.{IsFirst, IsPartFault}, specs.Modes.{entry_given}, specs.OnPiece.{AreKeptOn}, specs.Operands.{steady_value, steady_limit}, specs.Sides.{HasValues}, specs.declared.formula.Formula.{Formula}, specs.declared.formula.Formula.TheVariants.{Given}, specs.declared.slice.Slice.{Slice}}
use Rattle.mob_slice.proofs.OnOnePiece.{one_kept, one_steady}
use Rattle.mob_cells.{specs.declared.turning.Turn.{Turn}, specs.declared.turning.Turning.{Turning}, specs.Cells.{AreCells, IsCut, IsRisingFrom, NoneWithin, is_cell, is_cell_of, split_all, start_cells}}
use Rattle.mob_cells.{specs.Turnings.{IsCellBetween, IsTurnInside, by_cut, beside_cuts, kept_turned, turn_numbers, turning_at, turning_inside, turned_on}, proofs.Keeps.{open_has, point_has, upto_of}, proofs.Making.{are_cells}, proofs.Splits.{start_are}, proofs.Walking.{all_self, all_split, only_cuts}}

-- ---- the cells of a span, cut where the result changes
pub rising_turn : (s : SpanOf) (turn : Option Turn) (cuts : List Ratio) → cuts ≡ turn_numbers turn → IsTurnInside s turn → IsRisingFrom s.lower cuts
rising_turn s None cuts e i = subst (IsRisingFrom s.lower) (sym e) tt
rising_turn s (Some c) cuts e i = subst (IsRisingFrom s.lower) (sym e) (before-weak s.lower c.at i.0, tt)

pub cells_between : (s : SpanOf) (cuts : List Ratio) → has_instant s ≡ true → AllByRecursion (IsCellBetween s cuts) (split_all cuts (start_cells s))
cells_between s cuts h =
    let cells = split_all cuts (start_cells s) in
    let are = all_split s cuts (start_cells s) (start_are s h) in
    all_by_each (IsCellBetween s cuts) cells (λ c m.
    let ends = each_of_all (λ (k : SpanOf). IsCut s cuts k.lower × IsCut s cuts k.upper) cells (only_cuts s cuts cuts (λ r k. k)) c m in
    record {
      cell = each_of_all (λ k. is_cell_of s k ≡ true) cells are.are c m;
      lower = ends.0;
      upper = ends.1;
      apart = all_by_each (λ r. NoneWithin r c) cuts (λ r k. each_of_all (NoneWithin r) cells (all_self r cuts (start_cells s) k) c m);
    })

pub cells_whole : (s : SpanOf) (cuts : List Ratio) → has_instant s ≡ true → AreCells s (split_all cuts (start_cells s))
cells_whole s cuts h = are_cells s (split_all cuts (start_cells s)) (all_split s cuts (start_cells s) (start_are s h))

-- ---- the result on a cell
beside_long : (first : Bool) (turn : Turn) (c : SpanOf) (t : Ratio) → NoneWithin turn.at c → before c.lower t ≡ true → before t c.upper ≡ true → (a : Bool) → before c.lower turn.at ≡ a → by_cut first turn turn.at c ≡ cond (before t turn.at) first (cond (before turn.at t) turn.after turn.there)
beside_long first turn c t n h k true e =
    let up : up_to c.upper turn.at ≡ true = grind (arith, n, e) in
    rw (e, before-up_to t c.upper turn.at k up) refl
beside_long first turn c t n h k false e =
    let low : up_to turn.at c.lower ≡ true = grind (arith, e) in
    let b = up_to-before turn.at c.lower t low h in
    rw (e, before-trans turn.at t c.upper b k, before-back turn.at t b, b) refl

beside_is : (first : Bool) (turn : Turn) (c : SpanOf) (t : Ratio) → NoneWithin turn.at c → is_cell c ≡ true → has c t ≡ true → (b : Bool) → before c.lower c.upper ≡ b → by_cut first turn turn.at c ≡ cond (before t turn.at) first (cond (before turn.at t) turn.after turn.there)
beside_is first turn c t n i k true e = let p = open_has c t i e k in beside_long first turn c t n p.0 p.1 (before c.lower turn.at) refl
beside_is first turn c t n i k false e =
    let q = point_has c t i e k in
    ap (λ z. cond (before z turn.at) first (cond (before turn.at c.upper) turn.after turn.there)) (sym q.1) ∙ ap (λ z. cond (before t turn.at) first (cond (before turn.at z) turn.after turn.there)) (sym (q.1 ∙ q.0))

cuts_are : (first : Bool) (turn : Option Turn) (cuts : List Ratio) (c : SpanOf) (t : Ratio) → cuts ≡ turn_numbers turn → AllByRecursion (λ r. NoneWithin r c) cuts → is_cell c ≡ true → has c t ≡ true → beside_cuts first turn cuts c ≡ turning_inside first turn t
cuts_are first None cuts c t e n i k = refl
cuts_are first (Some turn) cuts c t e n i k =
    let apart = subst (AllByRecursion (λ r. NoneWithin r c)) e n in
    ap (λ z. beside_cuts first (Some turn) z c) e ∙ beside_is first turn c t apart.0 i k (before c.lower c.upper) refl

module _ (s c : SpanOf) (t : Ratio) (i : is_cell c ≡ true) (low : up_to s.lower c.lower ≡ true) (high : up_to c.upper s.upper ≡ true) (k : has c t ≡ true) where
  at_first : same c.upper s.lower ≡ true → t ≡ s.lower
  at_first e = up_to-both t s.lower (subst (λ z. up_to t z ≡ true) ((same_exact c.upper s.lower).0 e) (has_upto_upper c t k)) (up_to-trans s.lower c.lower t low (has_upto_lower c t k))

  at_last : same c.lower s.upper ≡ true → t ≡ s.upper
  at_last e = up_to-both t s.upper (up_to-trans t c.upper s.upper (has_upto_upper c t k) high) (subst (λ z. up_to z t ≡ true) ((same_exact c.lower s.upper).0 e) (has_upto_lower c t k))

  not_first : same c.upper s.lower ≡ false → (b : Bool) → before c.lower c.upper ≡ b → same t s.lower ≡ false
  not_first n true e = before-differ-back s.lower t (up_to-before s.lower c.lower t low (open_has c t i e k).0)
  not_first n false e = let q = point_has c t i e k in subst (λ z. same z s.lower ≡ false) (sym (q.1 ∙ q.0)) n

  not_last : same c.lower s.upper ≡ false → (b : Bool) → before c.lower c.upper ≡ b → same t s.upper ≡ false
  not_last n true e = before-differ t s.upper (before-up_to t c.upper s.upper (open_has c t i e k).1 high)
  not_last n false e = let q = point_has c t i e k in subst (λ z. same z s.upper ≡ false) (sym q.1) n

  turned_by_tests : (w : Turning) (cuts : List Ratio) → cuts ≡ turn_numbers w.turn → AllByRecursion (λ r. NoneWithin r c) cuts → turned_on s w cuts c ≡ turning_at s w t
  turned_by_tests w cuts e n = by (same c.upper s.lower) refl (same c.lower s.upper) refl
    where
      by : (a : Bool) → same c.upper s.lower ≡ a → (b : Bool) → same c.lower s.upper ≡ b → cond a w.at_lower (cond b w.at_upper (beside_cuts w.first w.turn cuts c)) ≡ turning_at s w t
      by true ea b eb = rw ((same_exact t s.lower).1 (at_first ea)) refl
      by false ea true eb = rw (not_first ea (before c.lower c.upper) refl, (same_exact t s.upper).1 (at_last eb)) refl
      by false ea false eb = rw (not_first ea (before c.lower c.upper) refl, not_last eb (before c.lower c.upper) refl) (cuts_are w.first w.turn cuts c t e n i k)

pub turned_is : (s : SpanOf) (w : Turning) (cuts : List Ratio) (c : SpanOf) → cuts ≡ turn_numbers w.turn → IsCellBetween s cuts c → (t : Ratio) → has c t ≡ true → turned_on s w cuts c ≡ turning_at s w t
turned_is s w cuts c e h t k =
    let x = and_parts (is_cell c) (is_inside s c) h.cell in
    let y = and_parts (before s.lower c.lower || (up_to s.lower c.lower && (s.lower_inc || not c.lower_inc))) (before c.upper s.upper || (up_to c.upper s.upper && (s.upper_inc || not c.upper_inc))) x.1 in
    turned_by_tests s c t x.0 (upto_of s.lower c.lower s.lower_inc (not c.lower_inc) y.0) (upto_of c.upper s.upper s.upper_inc (not c.upper_inc) y.1) k w cuts e h.apart

pub within_of : (s : SpanOf) (cuts : List Ratio) (c : SpanOf) → IsCellBetween s cuts c → is_inside s c ≡ true
within_of s cuts c h = (and_parts (is_cell c) (is_inside s c) h.cell).1

-- ---- flags
pub flag_is : (s : SpanOf) (w : Turning) (cuts : List Ratio) (c : SpanOf) (value : Bool) → has_instant c ≡ true → cuts ≡ turn_numbers w.turn → IsCellBetween s cuts c → value ≡ turned_on s w cuts c
    → AreKeptOn steady_value steady_limit steady_limit (λ t. Some (turning_at s w t)) c (record { span = c; course = record { value = value } } ∷ [])
flag_is s w cuts c value some e h is = one_steady (λ t. Some (turning_at s w t)) c value some (λ t k. ap Some (is ∙ turned_is s w cuts c e h t k))

-- ---- parts of a slice
pub held_cut : (s : SpanOf) (turn : Option Turn) (cuts : List Ratio) (t : Ratio) (P : Ratio → Type 0) → cuts ≡ turn_numbers turn → IfSome turn (λ c. P c.at) → IsCut s cuts t → same t s.lower ≡ false → same t s.upper ≡ false → P t
held_cut s turn cuts t P e h i n m = elim i [
  | inl q ↦ absurd (true≢false (sym ((same_exact t s.lower).1 q) ∙ n))
  | inr j ↦ elim j [ inl q ↦ absurd (true≢false (sym ((same_exact t s.upper).1 q) ∙ m)) | inr k ↦ by turn h (subst (λ z. Contains z t) e k) ]
]
  where
    by : (o : Option Turn) → IfSome o (λ c. P c.at) → Contains (turn_numbers o) t → P t
    by None h k = absurd (none_in t k)
    by (Some c) h k = elim (which_in c.at [] t k) [ inl q ↦ subst P q h | inr j ↦ absurd (none_in t j) ]

pub copy_is : {B E : Type 0} (allocates : Bool) (r : Result B E) (x y : B) → MatchResult r (λ copy. copy ≡ x) (λ _. allocates ≡ true) → x ≡ y → IfOk r (λ copy. copy ≡ y)
copy_is allocates (Ok copy) x y h e = h ∙ e
copy_is allocates (Err f) x y h e = tt

module _ {C B : Type 0} (value : C → Ratio → Ratio → Ratio → B) (start end : C → B) (s : Slice C) (w : Turning) (cuts : List Ratio) (c : SpanOf) (want keeps flag : Bool) (e : cuts ≡ turn_numbers w.turn) (h : IsCellBetween s.span cuts c) (is : flag ≡ turned_on s.span w cuts c) (wanted : keeps ≡ same_bool want flag) where
  keeps_at : (t : Ratio) → has c t ≡ true → cond keeps (Some (slice_value value s t)) None ≡ kept_turned value want w s t
  keeps_at t k = ap (λ b. cond b (Some (slice_value value s t)) None) (wanted ∙ ap (same_bool want) (is ∙ turned_is s.span w cuts c e h t k))

  pub nothing_kept : (v : List (Slice C)) → keeps ≡ false → v ≡ [] → AreKeptOn value start end (kept_turned value want w s) c v
  nothing_kept v n m = subst (AreKeptOn value start end (kept_turned value want w s) c) (sym m) (record { ordered = tt; inside = tt; values = λ t k. ap (λ b. cond b (Some (slice_value value s t)) None) (sym n) ∙ keeps_at t k })

  pub part_kept : (v : List (Slice C)) (part : Slice C) → keeps ≡ true → v ≡ part ∷ [] → HasValues value start end (slice_value value s) c part → AreKeptOn value start end (kept_turned value want w s) c v
  part_kept v part n m p = subst (AreKeptOn value start end (kept_turned value want w s) c) (sym m) (one_kept value start end (kept_turned value want w s) (slice_value value s) c part p (λ t k. ap (λ b. cond b (Some (slice_value value s t)) None) (sym n) ∙ keeps_at t k))

-- ---- the instant at which the result changes does not fit
pub given_fails : (numbers : List Ratio) (f : Fault Formula) → IsPartFault Given numbers f → OnCause (λ g. IsFirst (entry_given numbers) (Some g)) f
given_fails numbers (Because f) h = inr (h.1, ap Some h.0)
given_fails numbers NoMemory h = tt
