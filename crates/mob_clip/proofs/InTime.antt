-- A slice and the time of a box.
use Rattle.std.{specs.Prelude.{◌≡◌, Bool, true, false, cond, not, ◌&&◌, ◌||◌, List, [], ◌∷◌, ◌++◌, Option, Some, None, MatchOption, Result, Ok, Err, MatchResult, refl}, proofs.lemmas.Bool.{and_parts}, proofs.Math.Bool.{or-false}}
use Rattle.std.proofs.Common.{arith, ap, sym, ◌∙◌, subst, inl, inr, true≢false, append_assoc, append-nil}
use Rattle.mob_ratio.{specs.Ratio.{Ratio}, specs.Order.{before, up_to}, proofs.Order.{before-self, before-back, before-trans, before-neither}}
use Rattle.mob_frac.specs.Formula.{AllFit}
use Rattle.mob_span.{specs.Span.{SpanOf, has, has_instant}, specs.Meet.{meet_of}, specs.Neighbours.{is_clear, is_inside}, specs.Flags.{same_bool}, proofs.SpanLemmas.{no_instant, meet_has, meet_none}}
use Rattle.mob_span.proofs.Insides.{meet_left, clear_has, inside_has, low_inside, high_inside}
use Rattle.mob_slice.{specs.Slices.{IsSound}, specs.Look.{IsLookFault}, specs.Sides.{at_ends, HasValues}, specs.Cut.{slice_value, slice_parts}, specs.Lines.{plane_value_of, plane_parts_of}}
use Rattle.mob_slice.{specs.PlaneLaws.{plane_laws}, specs.Entries.{IsFirst}, specs.declared.slice.Slice.{Slice}, specs.declared.line.PlaneLine.{PlaneLine}, specs.declared.formula.Formula.{Formula}}
use Rattle.mob_slice.{specs.OnPiece.{AreKeptOn, IsKeptBy}, specs.Piecewise.{AreGivenInOrder}, proofs.Cuts.{all_both, all_first, all_second}, proofs.OnOnePiece.{kept_same, kept_behind}}
use Rattle.mob_list.{specs.Faults.{OnCause}, specs.declared.fault.Fault.{Fault}, specs.declared.fault.Fault.TheVariants.{Because, NoMemory}}
use Rattle.mob_plane.specs.declared.point.Point.{Point}
use Rattle.mob_cells.{specs.Cells.{AreCells}, specs.Restricted.{kept_value}, proofs.Restricting.{all_kept}, proofs.OwnEnds.{start_value, end_value}}
use Rattle.mob_stbox.{specs.declared.area.Area.{Area}, specs.Boxes.{BoxOf, in_space, in_time, in_box}}
use Rattle.mob_clip.{specs.Boxes.{entries_of_space, entries_in_time, entries_of_box, AreAround, front_span, back_span}, specs.Pieces.{some_span, AreAllOrNothing}}

-- ---- a span and a part of it
-- the two ends of a span, each by itself
abbrev low : Ratio → Bool → Ratio → Bool
low l i t = before l t || (i && up_to l t)

abbrev high : Ratio → Bool → Ratio → Bool
high u i t = before t u || (i && up_to t u)

low_front : (l t : Ratio) (i : Bool) → high l (not i) t ≡ not (low l i t)
low_front l t i = grind (arith, before-back l t, before-back t l, before-neither l t)

high_back : (u t : Ratio) (i : Bool) → low u (not i) t ≡ not (high u i t)
high_back u t i = grind (arith, before-back u t, before-back t u, before-neither u t)

-- an instant is not both before and after a span that has one
not_both : (m : SpanOf) (t : Ratio) → has_instant m ≡ true → (low m.lower m.lower_inc t || high m.upper m.upper_inc t) ≡ true
not_both m t h = grind (arith, h, before-trans m.lower t m.upper, before-trans t m.lower m.upper, before-trans m.lower m.upper t, before-neither m.lower t, before-neither t m.upper, before-neither m.lower m.upper)

cover : (ls lm hm hs : Bool) → (lm ≡ true → ls ≡ true) → (hm ≡ true → hs ≡ true) → (lm || hm) ≡ true → ((ls && not lm) || ((lm && hm) || (not hm && hs))) ≡ (ls && hs)
cover true true true true a b c = refl
cover true true true false a b c = absurd (true≢false (sym (b refl)))
cover true true false hs a b c = refl
cover true false true true a b c = refl
cover true false true false a b c = absurd (true≢false (sym (b refl)))
cover true false false hs a b c = absurd (true≢false (sym c))
cover false true hm hs a b c = absurd (true≢false (sym (a refl)))
cover false false true hs a b c = refl
cover false false false hs a b c = absurd (true≢false (sym c))

module _ (s m : SpanOf) (inside : is_inside s m ≡ true) (some : has_instant m ≡ true) where
  low_side : (before s.lower m.lower || (up_to s.lower m.lower && (s.lower_inc || not m.lower_inc))) ≡ true
  low_side = (and_parts (before s.lower m.lower || (up_to s.lower m.lower && (s.lower_inc || not m.lower_inc))) (before m.upper s.upper || (up_to m.upper s.upper && (s.upper_inc || not m.upper_inc))) inside).0

  high_side : (before m.upper s.upper || (up_to m.upper s.upper && (s.upper_inc || not m.upper_inc))) ≡ true
  high_side = (and_parts (before s.lower m.lower || (up_to s.lower m.lower && (s.lower_inc || not m.lower_inc))) (before m.upper s.upper || (up_to m.upper s.upper && (s.upper_inc || not m.upper_inc))) inside).1

  covers_all : (t : Ratio) → (has (front_span s m) t || (has m t || has (back_span s m) t)) ≡ has s t
  covers_all t =
      ap (λ z. (low s.lower s.lower_inc t && z) || (has m t || has (back_span s m) t)) (low_front m.lower t m.lower_inc)
      ∙ ap (λ z. (low s.lower s.lower_inc t && not (low m.lower m.lower_inc t)) || (has m t || (z && high s.upper s.upper_inc t))) (high_back m.upper t m.upper_inc)
      ∙ cover (low s.lower s.lower_inc t) (low m.lower m.lower_inc t) (high m.upper m.upper_inc t) (high s.upper s.upper_inc t)
      (low_inside s.lower m.lower t s.lower_inc m.lower_inc low_side) (high_inside s.upper m.upper t s.upper_inc m.upper_inc high_side) (not_both m t some)

  pub front_inside : is_inside s (front_span s m) ≡ true
  front_inside = grind (arith, inside, some, before-self s.lower, before-trans m.lower m.upper s.upper, before-neither m.lower m.upper, before-neither m.upper s.upper, before-back m.lower m.upper, before-trans s.upper m.lower m.upper)

  pub back_inside : is_inside s (back_span s m) ≡ true
  back_inside = grind (arith, inside, some, before-self s.upper, before-trans s.lower m.lower m.upper, before-neither m.lower m.upper, before-neither s.lower m.lower, before-back m.lower m.upper, before-trans m.lower m.upper s.lower)

  front_clear : is_clear (front_span s m) m ≡ true
  front_clear = grind (arith, before-self m.lower)

  back_clear : is_clear m (back_span s m) ≡ true
  back_clear = grind (arith, before-self m.upper)

  abbrev pub span_list : Bool → SpanOf → List SpanOf
  span_list b r = cond b (r ∷ []) []

  three_cells : (a b : Bool) → has_instant (front_span s m) ≡ a → has_instant (back_span s m) ≡ b → AreCells s (span_list a (front_span s m) ++ m ∷ span_list b (back_span s m))
  three_cells true true ha hb = record { clear = (ha, front_clear, (some, back_clear, (hb, tt, tt))); inside = (front_inside, (inside, (back_inside, tt))); covers = λ t. ap (λ z. has (front_span s m) t || (has m t || z)) (or-false (has (back_span s m) t)) ∙ covers_all t }
  three_cells true false ha hb = record { clear = (ha, front_clear, (some, tt, tt)); inside = (front_inside, (inside, tt)); covers = λ t. ap (λ z. has (front_span s m) t || (has m t || z)) (sym (no_instant (back_span s m) t hb)) ∙ covers_all t }
  three_cells false true ha hb = record { clear = (some, back_clear, (hb, tt, tt)); inside = (inside, (back_inside, tt)); covers = λ t. ap (λ z. has m t || z) (or-false (has (back_span s m) t)) ∙ ap (λ z. z || (has m t || has (back_span s m) t)) (sym (no_instant (front_span s m) t ha)) ∙ covers_all t }
  three_cells false false ha hb = record { clear = (some, tt, tt); inside = (inside, tt); covers = λ t. ap (λ z. has m t || z) (sym (no_instant (back_span s m) t hb)) ∙ ap (λ z. z || (has m t || has (back_span s m) t)) (sym (no_instant (front_span s m) t ha)) ∙ covers_all t }

  -- an instant of the part is not in the parts around it
  pub front_not : (t : Ratio) → has (front_span s m) t ≡ true → has m t ≡ false
  front_not t h = clear_has (front_span s m) m t front_clear h

  pub back_not : (t : Ratio) → has (back_span s m) t ≡ true → has m t ≡ false
  back_not t h = by (has m t) refl
    where
      by : (b : Bool) → has m t ≡ b → has m t ≡ false
      by true e = absurd (true≢false (sym h ∙ clear_has m (back_span s m) t back_clear e))
      by false e = e

-- ---- the parts kept around the part
-- a test next to another one that is false
nowhere : (a b : Bool) → b ≡ false → false ≡ (a && b)
nowhere true b e = sym e
nowhere false b e = refl

everywhere : (a b : Bool) → b ≡ true → a ≡ (a && b)
everywhere true b e = sym e
everywhere false b e = refl

module _ (s : Slice PlaneLine) (m : SpanOf) (inside : is_inside s.span m ≡ true) (some : has_instant m ≡ true) (want : Bool) (T : SpanOf) (space : Option Area) (shared : (t : Ratio) → has m t ≡ (has s.span t && has T t)) where
  abbrev pub x : Ratio → Point
  x t = slice_value plane_value_of s t

  abbrev pub f : Ratio → Option Point
  f t = kept_value want (in_space space (x t) && has T t) (x t)

  abbrev pub Gives : SpanOf → List (Slice PlaneLine) → Type 0
  Gives r v = AreKeptOn plane_value_of (λ c. c.from) (λ c. c.to) f r v

  no_time : (t : Ratio) → has s.span t ≡ true → has m t ≡ false → has T t ≡ false
  no_time t h k = sym (ap (λ z. z && has T t) h) ∙ sym (shared t) ∙ k

  in_the_time : (t : Ratio) → has m t ≡ true → has T t ≡ true
  in_the_time t h = (and_parts (has s.span t) (has T t) (sym (shared t) ∙ h)).1

  outside_gives : (r : SpanOf) (v : List (Slice PlaneLine)) → is_inside s.span r ≡ true → ((t : Ratio) → has r t ≡ true → has m t ≡ false) → AreAllOrNothing s (same_bool want false) (Some r) v → Gives r v
  outside_gives r v i n h = kept_same plane_value_of (λ c. c.from) (λ c. c.to) (λ t. kept_value want false (x t)) f r v (λ t k. ap (λ b. kept_value want b (x t)) (nowhere (in_space space (x t)) (has T t) (no_time t (in_span t k) (n t k)))) h
    where
      in_span : (t : Ratio) → has r t ≡ true → has s.span t ≡ true
      in_span t k = by (has s.span t) refl
        where
          by : (b : Bool) → has s.span t ≡ b → has s.span t ≡ true
          by true e = e
          by false e = absurd (true≢false (sym k ∙ inside_has s.span r t i e))

  middle_gives : (v : List (Slice PlaneLine)) → AreKeptOn plane_value_of (λ c. c.from) (λ c. c.to) (λ t. kept_value want (in_space space (x t)) (x t)) m v → Gives m v
  middle_gives v h = kept_same plane_value_of (λ c. c.from) (λ c. c.to) (λ t. kept_value want (in_space space (x t)) (x t)) f m v (λ t k. ap (λ b. kept_value want b (x t)) (everywhere (in_space space (x t)) (has T t) (in_the_time t k))) h

  back_lifts : (b : Bool) (v : List (Slice PlaneLine)) → AreAllOrNothing s (same_bool want false) (cond b (Some (back_span s.span m)) None) v → AreGivenInOrder (λ v. v) Gives (cond b (back_span s.span m ∷ []) []) v
  back_lifts true v h = (v, [], outside_gives (back_span s.span m) v (back_inside s.span m inside some) (back_not s.span m inside some) h, refl, sym (append-nil v))
  back_lifts false v h = h

  all_lifts : (a b : Bool) (front middle back v : List (Slice PlaneLine)) → AreAllOrNothing s (same_bool want false) (cond a (Some (front_span s.span m)) None) front → Gives m middle → AreGivenInOrder (λ v. v) Gives (cond b (back_span s.span m ∷ []) []) back → v ≡ (front ++ middle) ++ back → AreGivenInOrder (λ v. v) Gives (cond a (front_span s.span m ∷ []) [] ++ m ∷ cond b (back_span s.span m ∷ []) []) v
  all_lifts true b front middle back v h g k e = (front, middle ++ back, outside_gives (front_span s.span m) front (front_inside s.span m inside some) (front_not s.span m inside some) h, (middle, back, g, k, refl), e ∙ append_assoc front middle back)
  all_lifts false b front middle back v h g k e = (middle, back, g, k, e ∙ ap (λ z. (z ++ middle) ++ back) h)

  pub around_kept : (middle v : List (Slice PlaneLine)) → AreKeptOn plane_value_of (λ c. c.from) (λ c. c.to) (λ t. kept_value want (in_space space (x t)) (x t)) m middle → AreAround s want m middle v → AreKeptOn plane_value_of (λ c. c.from) (λ c. c.to) (λ t. kept_value want (in_space space (x t) && has T t) (x t)) s.span v
  around_kept middle v g h =
      let a = has_instant (front_span s.span m) in
      let b = has_instant (back_span s.span m) in
      all_kept plane_value_of (λ c. c.from) (λ c. c.to) f s.span (cond a (front_span s.span m ∷ []) [] ++ m ∷ cond b (back_span s.span m ∷ []) []) v
      (all_lifts a b h.front middle h.back v h.in_front (middle_gives middle g) (back_lifts b h.back h.after) h.all) (three_cells s.span m inside some a b refl refl)

-- ---- one slice
module _ (s : Slice PlaneLine) (sound : IsSound (λ c. c.from) (λ c. c.to) s) where
  pub own_part : HasValues plane_value_of (λ c. c.from) (λ c. c.to) (slice_value plane_value_of s) s.span s
  own_part = record { on = refl; sound = sound; from = start_value plane_laws s; to = end_value plane_laws s sound; same = λ t i. refl }

  module _ (want : Bool) (T : SpanOf) (space : Option Area) where
    abbrev pub wanted : Ratio → Option Point
    wanted t = kept_value want (in_space space (slice_value plane_value_of s t) && has T t) (slice_value plane_value_of s t)

    pub none_shared : {V : Type 0} (items : V → List (Slice PlaneLine)) (q : Result V (Fault Formula)) → has_instant (meet_of s.span T) ≡ false → MatchResult q (λ v. AreAllOrNothing s (same_bool want false) (Some s.span) (items v)) (λ e. e ≡ NoMemory) → IsKeptBy plane_value_of (λ c. c.from) (λ c. c.to) items wanted s.span (entries_in_time (Some T) space s) q
    none_shared items (Ok v) n h = (kept_same plane_value_of (λ c. c.from) (λ c. c.to) (λ t. kept_value want false (slice_value plane_value_of s t)) wanted s.span (items v) (λ t k. ap (λ b. kept_value want b (slice_value plane_value_of s t)) (nowhere (in_space space (slice_value plane_value_of s t)) (has T t) (out t k))) h, rw n refl)
      where
        out : (t : Ratio) → has s.span t ≡ true → has T t ≡ false
        out t k = sym (ap (λ z. z && has T t) k) ∙ (meet_none s.span T).0 n t
    none_shared items (Err e) n h = rw h tt

    pub cut_fails : (copies : Bool) (m : SpanOf) (f : Fault Formula) → m ≡ meet_of s.span T → has_instant m ≡ true → IsLookFault copies (at_ends (slice_parts plane_parts_of s) m) f → OnCause (λ g. IsFirst (entries_in_time (Some T) space s) (Some g)) f
    cut_fails copies m (Because f) e k h = rw (subst (λ z. has_instant z ≡ true) e k) (inr (subst (λ z. ¬ AllFit (at_ends (slice_parts plane_parts_of s) z)) e h.1, ap Some h.0))
    cut_fails copies m NoMemory e k h = tt

    after : (m : SpanOf) (r : Option Formula) → m ≡ meet_of s.span T → has_instant m ≡ true → AllFit (at_ends (slice_parts plane_parts_of s) m) → IsFirst (entries_of_space space s m) r → IsFirst (entries_in_time (Some T) space s) r
    after m r e k fits h = rw (subst (λ z. has_instant z ≡ true) e k) (inl (subst (λ z. AllFit (at_ends (slice_parts plane_parts_of s) z)) e fits, subst (λ z. IsFirst (entries_of_space space s z) r) e h))

    pub space_fails : (m : SpanOf) (f : Fault Formula) → m ≡ meet_of s.span T → has_instant m ≡ true → AllFit (at_ends (slice_parts plane_parts_of s) m) → OnCause (λ g. IsFirst (entries_of_space space s m) (Some g)) f → OnCause (λ g. IsFirst (entries_in_time (Some T) space s) (Some g)) f
    space_fails m (Because f) e k fits h = after m (Some f) e k fits h
    space_fails m NoMemory e k fits h = tt

    pub time_kept : {V : Type 0} (items : V → List (Slice PlaneLine)) (q : Result V (Fault Formula)) (m : SpanOf) (middle : List (Slice PlaneLine)) → m ≡ meet_of s.span T → has_instant m ≡ true → AllFit (at_ends (slice_parts plane_parts_of s) m)
        → AreKeptOn plane_value_of (λ c. c.from) (λ c. c.to) (λ t. kept_value want (in_space space (slice_value plane_value_of s t)) (slice_value plane_value_of s t)) m middle → IsFirst (entries_of_space space s m) None
        → MatchResult q (λ v. AreAround s want m middle (items v)) (λ e. e ≡ NoMemory) → IsKeptBy plane_value_of (λ c. c.from) (λ c. c.to) items wanted s.span (entries_in_time (Some T) space s) q
    time_kept items (Ok v) m middle e k fits g first h = (around_kept s m (subst (λ z. is_inside s.span z ≡ true) (sym e) (meet_left s.span T)) k want T space (λ t. ap (λ z. has z t) e ∙ meet_has s.span T t) middle (items v) g h, after m None e k fits first)
    time_kept items (Err f) m middle e k fits g first h = rw h tt

-- a box without time
pub timeless : {V : Type 0} (items : V → List (Slice PlaneLine)) (s : Slice PlaneLine) (want : Bool) (b : BoxOf) (space : Option Area) (r : SpanOf) (q : Result V (Fault Formula)) → r ≡ s.span → space ≡ b.space → b.time ≡ None
    → IsKeptBy plane_value_of (λ c. c.from) (λ c. c.to) items (λ t. kept_value want (in_space space (slice_value plane_value_of s t)) (slice_value plane_value_of s t)) r (entries_of_space space s r) q
    → IsKeptBy plane_value_of (λ c. c.from) (λ c. c.to) items (λ t. kept_value want (in_box b t (slice_value plane_value_of s t)) (slice_value plane_value_of s t)) s.span (entries_of_box b s) q
timeless items s want b space r q i e n m = kept_behind plane_value_of (λ c. c.from) (λ c. c.to) items (λ t. kept_value want (in_space space (slice_value plane_value_of s t)) (slice_value plane_value_of s t)) (λ t. kept_value want (in_box b t (slice_value plane_value_of s t)) (slice_value plane_value_of s t)) s.span (entries_of_box b s) (entries_of_space space s s.span) q
    (λ t k. ap (λ z. kept_value want z (slice_value plane_value_of s t)) (ap (λ z. in_space z (slice_value plane_value_of s t)) e ∙ everywhere (in_space b.space (slice_value plane_value_of s t)) (in_time b.time t) (ap (λ z. in_time z t) n)))
    (λ o k. subst (λ z. IsFirst (entries_in_time z b.space s) o) (sym n) (subst (λ z. IsFirst (entries_of_space z s s.span) o) e k))
    (subst (λ z. IsKeptBy plane_value_of (λ c. c.from) (λ c. c.to) items (λ t. kept_value want (in_space space (slice_value plane_value_of s t)) (slice_value plane_value_of s t)) z (entries_of_space space s z) q) i m)

-- the ends of the parts around a part fit if those of the part do
module _ (s : Slice PlaneLine) (m : SpanOf) (inside : is_inside s.span m ≡ true) (some : has_instant m ≡ true) (fits : AllFit (at_ends (slice_parts plane_parts_of s) m)) where
  abbrev parts : Ratio → List Ratio
  parts t = slice_parts plane_parts_of s t

  front_by : (b : Bool) → has_instant (front_span s.span m) ≡ b → MatchOption (cond b (Some (front_span s.span m)) None) (Unit {0}) (λ r. (is_inside s.span r ≡ true) × AllFit (at_ends (slice_parts plane_parts_of s) r))
  front_by true e = (front_inside s.span m inside some, all_both (parts s.span.lower) (parts m.lower) (rw (plane_laws.lower_parts s.course s.span.lower s.span.upper) tt) (all_first (parts m.lower) (parts m.upper) fits))
  front_by false e = tt

  pub front_fits : MatchOption (some_span (front_span s.span m)) (Unit {0}) (λ r. (is_inside s.span r ≡ true) × AllFit (at_ends (slice_parts plane_parts_of s) r))
  front_fits = front_by (has_instant (front_span s.span m)) refl

  back_by : (b : Bool) → has_instant (back_span s.span m) ≡ b → MatchOption (cond b (Some (back_span s.span m)) None) (Unit {0}) (λ r. (is_inside s.span r ≡ true) × AllFit (at_ends (slice_parts plane_parts_of s) r))
  back_by true e = (back_inside s.span m inside some, all_both (parts m.upper) (parts s.span.upper) (all_second (parts m.lower) (parts m.upper) fits) (rw (plane_laws.upper_parts s.course s.span.lower s.span.upper) tt))
  back_by false e = tt

  pub back_fits : MatchOption (some_span (back_span s.span m)) (Unit {0}) (λ r. (is_inside s.span r ≡ true) × AllFit (at_ends (slice_parts plane_parts_of s) r))
  back_fits = back_by (has_instant (back_span s.span m)) refl
