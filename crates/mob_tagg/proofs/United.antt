-- The union of two values.
use Rattle.std.specs.Prelude.{◌≡◌, ◌≢◌, ◌⊎◌, Bool, true, false, cond, refl, List, [], ◌∷◌, ◌++◌, map, Option, Some, None, option_map, MatchOption, Result, Ok, Err, IfOk, IfErr, pos, ℕ, ◌≤◌, length}
use Rattle.std.{specs.Prelude.{drop}, specs.List.{AllByRecursion, flat_map}, specs.Option.{option_zip}, proofs.Common.{ap, sym, ◌∙◌, subst, inl, inr, ⊎_elim, append-nil, arith}}
use Rattle.std.proofs.lemmas.List.{drop_all}
use Rattle.mob_ratio.specs.Ratio.{Ratio, whole}
use Rattle.mob_frac.specs.Formula.{AllFit}
use Rattle.mob_span.{specs.Span.{SpanOf, has, has_instant}, specs.Meets.{PieceOf, shared_pieces}, specs.Pieces.{piece_at}, proofs.MeetLaws.{meets_at, sides}, proofs.SpanLemmas.{some_instant}}
use Rattle.mob_span.proofs.Insides.{inside_self}
use Rattle.mob_slice.{specs.Cut.{slice_value}, specs.Entries.{Entry, IsFirst, IsJudged}, specs.Parts.{IsPairFit}, specs.Sides.{SideOf, pieces, Slices, side_parts, at_ends}}
use Rattle.mob_slice.{specs.Slices.{IsRisingInTime, IsClearOf, OfHead, value_at}, specs.declared.slice.Slice.{Slice}, specs.declared.part.Pair.{Pair}, specs.declared.formula.Formula.{Formula}}
use Rattle.mob_slice.{specs.declared.formula.Formula.TheVariants.{F1}, specs.Piecewise.{IsFirstFailure}, specs.Operands.{steady_value, steady_limit, steady_parts}}
use Rattle.mob_slice.{specs.declared.steady.Steady.{Steady}, proofs.LookUps.{value_by}, proofs.JoinedFirsts.{first_joined, first_front}, proofs.Options.{none_some, same_some}}
use Rattle.mob_list.{specs.Faults.{OnCause}, specs.declared.fault.Fault.{Fault}, specs.declared.fault.Fault.TheVariants.{Because, NoMemory}}
use Rattle.mob_lift.{specs.Given.{IsGiven, on_sides}, specs.Common.{pair_of}}
use Rattle.mob_shares.specs.Taken.{one_of, piece_parts, AreFull, IsAnswered, IsRefused, IsTakenAt, AreTaken, IsFirstRefused}
use Rattle.mob_tagg.specs.United.{united_by, AreUnited, united_sides, IsChecked, one_slice, IsUnitedAt}

pub part_here : {P : Type 0} (span : P → SpanOf) (ps : List P) (t : Ratio) (q : P) → piece_at span ps t ≡ Some q → has (span q) t ≡ true
part_here span [] t q e = none_some q e
part_here {P} span (p ∷ ps) t q e = by (has (span p) t) refl e (part_here span ps t q)
  where
    by : (b : Bool) → has (span p) t ≡ b → cond b (Some p) (piece_at span ps t) ≡ Some q → (piece_at span ps t ≡ Some q → has (span q) t ≡ true) → has (span q) t ≡ true
    by true h e f = subst (λ (z : P). has (span z) t ≡ true) (same_some e) h
    by false h e f = f e

module _ {C B V : Type 0} (value : C → Ratio → Ratio → Ratio → B) (start end : C → B) (parts : C → Ratio → Ratio → Ratio → List Ratio) (items : V → List (Slice C)) (returns : Pair C C → Result V (Fault Formula) → Type 0) where
  -- slices merged from a value are not the empty list
  pub taken_some : ((q : PieceOf (Slice C) (Slice C)) (x : V) → IsAnswered start end returns q (Ok x) → (t : Ratio) → has q.span t ≡ true → value_at value (items x) t ≢ None) → (v w slices : List (Slice C)) → v ≢ [] → IsRisingInTime start end v → AreTaken value start end parts items returns v w slices → slices ≢ []
  taken_some full [] w slices n o h e = n refl
  taken_some full (s ∷ v) w slices n o h e =
      let i = some_instant s.span o.0.some in
      let here : value_at value (s ∷ v) i.0 ≡ Some (slice_value value s i.0) = ap (λ b. cond b (Some (slice_value value s i.0)) (value_at value v i.0)) i.1 in
      by i.0 (piece_at (λ q. q.span) (shared_pieces (λ s. s.span) (λ s. s.span) (s ∷ v) w) i.0) refl here (subst (λ z. IsTakenAt value start end items returns (s ∷ v) w i.0 (value_at value z i.0)) e (h.values i.0))
    where
      by : (t : Ratio) (found : Option (PieceOf (Slice C) (Slice C))) → piece_at (λ q. q.span) (shared_pieces (λ s. s.span) (λ s. s.span) (s ∷ v) w) t ≡ found → value_at value (s ∷ v) t ≡ Some (slice_value value s t) → MatchOption found (None ≡ one_of (value_at value (s ∷ v) t) (value_at value w t)) (λ q. (x : V) × IsAnswered start end returns q (Ok x) × (None ≡ value_at value (items x) t)) → ⊥
      by t None f g m = none_some (slice_value value s t) (m ∙ ap (λ z. one_of z (value_at value w t)) g)
      by t (Some q) f g m = full q m.0 m.1 t (part_here (λ q. q.span) (shared_pieces (λ s. s.span) (λ s. s.span) (s ∷ v) w) t q f) (sym m.2)

  module _ (op : B → B → B) (each : (q : PieceOf (Slice C) (Slice C)) (x : V) → IsAnswered start end returns q (Ok x) → (t : Ratio) → has q.span t ≡ true → value_at value (items x) t ≡ Some (op (slice_value value q.left t) (slice_value value q.right t))) where
    -- if calls returned the operation on each shared piece, the whole is united by the operation
    pub united_at : (v w : List (Slice C)) (t : Ratio) (o : Option B) → IsTakenAt value start end items returns v w t o → o ≡ united_by op (value_at value v t) (value_at value w t)
    united_at v w t o h =
        by (piece_at (λ q. q.span) (shared_pieces (λ s. s.span) (λ s. s.span) v w) t) (piece_at (λ s. s.span) v t) (piece_at (λ s. s.span) w t) refl (meets_at (λ s. s.span) (λ s. s.span) v w t)
        (subst (λ z. MatchOption (piece_at (λ q. q.span) (shared_pieces (λ s. s.span) (λ s. s.span) v w) t) (o ≡ one_of z (option_map (λ s. slice_value value s t) (piece_at (λ s. s.span) w t))) (λ q. (x : V) × IsAnswered start end returns q (Ok x) × (o ≡ value_at value (items x) t))) (value_by value v t)
        (subst (λ z. MatchOption (piece_at (λ q. q.span) (shared_pieces (λ s. s.span) (λ s. s.span) v w) t) (o ≡ one_of (value_at value v t) z) (λ q. (x : V) × IsAnswered start end returns q (Ok x) × (o ≡ value_at value (items x) t))) (value_by value w t) h))
        ∙ ap (λ z. united_by op z (at w)) (sym (value_by value v t)) ∙ ap (λ z. united_by op (value_at value v t) z) (sym (value_by value w t))
      where
        at : List (Slice C) → Option B
        at v = option_map (λ s. slice_value value s t) (piece_at (λ s. s.span) v t)

        map_at : Option (Slice C) → Option B
        map_at a = option_map (λ s. slice_value value s t) a

        by : (found : Option (PieceOf (Slice C) (Slice C))) (a b : Option (Slice C)) → piece_at (λ q. q.span) (shared_pieces (λ s. s.span) (λ s. s.span) v w) t ≡ found → option_map (sides (λ s. s.span) (λ s. s.span)) found ≡ option_zip a b
            → MatchOption found (o ≡ one_of (option_map (λ s. slice_value value s t) a) (option_map (λ s. slice_value value s t) b)) (λ q. (x : V) × IsAnswered start end returns q (Ok x) × (o ≡ value_at value (items x) t))
            → o ≡ united_by op (option_map (λ s. slice_value value s t) a) (option_map (λ s. slice_value value s t) b)
        by None None b f e m = m
        by None (Some x) None f e m = m
        by None (Some x) (Some y) f e m = none_some (x, y) e
        by (Some q) None b f e m = none_some (q.left, q.right) (sym e)
        by (Some q) (Some x) None f e m = none_some (q.left, q.right) (sym e)
        by (Some q) (Some x) (Some y) f e m =
            let two = same_some e in
            m.2 ∙ each q m.0 m.1 t (part_here (λ q. q.span) (shared_pieces (λ s. s.span) (λ s. s.span) v w) t q f) ∙ ap (λ z. Some (op (slice_value value z t) (slice_value value q.right t))) (ap (λ p. p.0) two) ∙ ap (λ z. Some (op (slice_value value x t) (slice_value value z t))) (ap (λ p. p.1) two)

  -- the first entry that does not fit, of the entries of all shared pieces
  module _ (entries : PieceOf (SideOf C B) (SideOf C B) → List Entry)
      (good : (q : PieceOf (Slice C) (Slice C)) (x : V) → IsAnswered start end returns q (Ok x) → IsFirst (entries (united_sides q)) None)
      (bad : (q : PieceOf (Slice C) (Slice C)) (f : Formula) → IsRefused start end parts returns f q → IsFirst (entries (united_sides q)) (Some f)) where
    all_fit : (qs : List (PieceOf (Slice C) (Slice C))) → AllByRecursion (λ q. AllFit (piece_parts parts q) × ((x : V) × IsAnswered start end returns q (Ok x))) qs → IsFirst (flat_map entries (map united_sides qs)) None
    all_fit [] h = refl
    all_fit (q ∷ qs) h = first_joined (entries (united_sides q)) (flat_map entries (map united_sides qs)) None (good q h.0.1.0 h.0.1.1) (all_fit qs h.1)

    first_fails : (f : Formula) (qs : List (PieceOf (Slice C) (Slice C))) → IsFirstFailure {V = V} (λ q x. AllFit (piece_parts parts q) × IsAnswered start end returns q (Ok x)) (IsRefused start end parts returns f) qs → IsFirst (flat_map entries (map united_sides qs)) (Some f)
    first_fails f [] h = absurd h
    first_fails f (q ∷ qs) h = ⊎_elim (λ k. first_front (entries (united_sides q)) (flat_map entries (map united_sides qs)) f (bad q f k)) (λ k. first_joined (entries (united_sides q)) (flat_map entries (map united_sides qs)) (Some f) (good q k.0 k.1.1) (first_fails f qs k.2)) h

    pub judged_by : {W : Type 0} (list : W → List (Slice C)) (v w : List (Slice C)) (r : Result W (Fault Formula)) → IfOk r (λ all. AreTaken value start end parts items returns v w (list all)) → ((f : Formula) → r ≡ Err (Because f) → IsFirstRefused start end parts returns v w f) → IsJudged (flat_map entries (pieces (Slices v) (Slices w))) r
    judged_by list v w (Ok all) h k = all_fit (shared_pieces (λ s. s.span) (λ s. s.span) v w) h.answered
    judged_by list v w (Err (Because f)) h k = first_fails f (shared_pieces (λ s. s.span) (λ s. s.span) v w) (k f refl)
    judged_by list v w (Err NoMemory) h k = tt

-- The check before a call adds nothing to the meaning of the call.
module _ {C B V : Type 0} (start end : C → B) (parts : C → Ratio → Ratio → Ratio → List Ratio) (wrapped returns : Pair C C → Result V (Fault Formula) → Type 0) (checks : (p : Pair C C) (r : Result V (Fault Formula)) → wrapped p r → IsChecked parts returns p r) where
  answered_as : (q : PieceOf (Slice C) (Slice C)) (x : V) → IsAnswered start end wrapped q (Ok x) → IsAnswered start end returns q (Ok x)
  answered_as q x h = (h.0, h.1, h.2, (checks h.0 (Ok x) h.3).1)

  all_as : (qs : List (PieceOf (Slice C) (Slice C))) → AllByRecursion (λ q. AllFit (piece_parts parts q) × ((x : V) × IsAnswered start end wrapped q (Ok x))) qs → AllByRecursion (λ q. AllFit (piece_parts parts q) × ((x : V) × IsAnswered start end returns q (Ok x))) qs
  all_as [] h = tt
  all_as (q ∷ qs) h = ((h.0.0, (h.0.1.0, answered_as q h.0.1.0 h.0.1.1)), all_as qs h.1)

  pub taken_as : (value : C → Ratio → Ratio → Ratio → B) (items : V → List (Slice C)) (v w slices r : List (Slice C)) → ((t : Ratio) → value_at value r t ≡ value_at value slices t) → AreTaken value start end parts items wrapped v w slices → AreTaken value start end parts items returns v w r
  taken_as value items v w slices r e h = record {
    answered = all_as (shared_pieces (λ s. s.span) (λ s. s.span) v w) h.answered;
    values = λ t. subst (λ z. IsTakenAt value start end items returns v w t z) (sym (e t)) (by t (piece_at (λ q. q.span) (shared_pieces (λ s. s.span) (λ s. s.span) v w) t) (h.values t));
  }
    where
      by : (t : Ratio) (found : Option (PieceOf (Slice C) (Slice C))) → MatchOption found (value_at value slices t ≡ one_of (value_at value v t) (value_at value w t)) (λ q. (x : V) × IsAnswered start end wrapped q (Ok x) × (value_at value slices t ≡ value_at value (items x) t)) → MatchOption found (value_at value slices t ≡ one_of (value_at value v t) (value_at value w t)) (λ q. (x : V) × IsAnswered start end returns q (Ok x) × (value_at value slices t ≡ value_at value (items x) t))
      by t None m = m
      by t (Some q) m = (m.0, answered_as q m.0 m.1, m.2)

  refused_as : (f : Formula) (q : PieceOf (Slice C) (Slice C)) → IsRefused start end parts wrapped f q → IsRefused start end parts returns f q
  refused_as f q (inl h) = inl h
  refused_as f q (inr h) = ⊎_elim (λ m. inl (m.0, subst (λ z. ¬ AllFit (piece_parts parts z)) h.1.1 m.1)) (λ m. inr (subst (λ z. AllFit (piece_parts parts z)) h.1.1 m.0, (h.1.0, h.1.1, h.1.2, m.1))) (checks h.1.0 (Err (Because f)) h.1.3)

  pub first_as : (f : Formula) (qs : List (PieceOf (Slice C) (Slice C))) → IsFirstFailure {V = V} (λ q x. AllFit (piece_parts parts q) × IsAnswered start end wrapped q (Ok x)) (IsRefused start end parts wrapped f) qs → IsFirstFailure {V = V} (λ q x. AllFit (piece_parts parts q) × IsAnswered start end returns q (Ok x)) (IsRefused start end parts returns f) qs
  first_as f [] h = h
  first_as f (q ∷ qs) h = ⊎_elim (λ m. inl (refused_as f q m)) (λ m. inr (m.0, (m.1.0, answered_as q m.0 m.1.1), first_as f qs m.2)) h

pub first_from : {C B V W : Type 0} (value : C → Ratio → Ratio → Ratio → B) (start end : C → B) (parts : C → Ratio → Ratio → Ratio → List Ratio) (items : V → List (Slice C)) (list : W → List (Slice C)) (wrapped returns : Pair C C → Result V (Fault Formula) → Type 0) (v w : List (Slice C)) (r : Result W (Fault Formula)) → IfOk r (λ all. AreTaken value start end parts items wrapped v w (list all)) → (f : Formula) → IsFirstRefused start end parts wrapped v w f → ((p : Pair C C) (r : Result V (Fault Formula)) → wrapped p r → IsChecked parts returns p r) → IsFirstRefused start end parts returns v w f
first_from value start end parts items list wrapped returns v w r taken f h checks = first_as start end parts wrapped returns checks f (shared_pieces (λ s. s.span) (λ s. s.span) v w) h

-- a checked call says whether F1 fits
pub passes_of : {C V : Type 0} (parts : C → Ratio → Ratio → Ratio → List Ratio) (returns : Pair C C → Result V (Fault Formula) → Type 0) (p : Pair C C) (f : Formula) → IsChecked parts returns p (Err (Because f)) → ((f ≡ F1) × (¬ AllFit (piece_parts parts (pair_of p)))) ⊎ AllFit (piece_parts parts (pair_of p))
passes_of parts returns p f h = ⊎_elim inl (λ m. inr m.0) h

pub still_judged : {W : Type 0} (entries : List Entry) (r : Result W (Fault Formula)) → IsFirst entries None → IfErr r (λ e. e ≡ NoMemory) → IsJudged entries r
still_judged entries (Ok x) h k = h
still_judged entries (Err f) h k = subst (OnCause (λ f. IsFirst entries (Some f))) (sym k) tt

-- If calls return an operation on each shared piece whose first entry is F1 at its ends.
module _ {C B V : Type 0} (value : C → Ratio → Ratio → Ratio → B) (start end : C → B) (parts : C → Ratio → Ratio → Ratio → List Ratio) (items : V → List (Slice C)) (returns : Pair C C → Result V (Fault Formula) → Type 0) (op : B → B → B) (others : PieceOf (SideOf C B) (SideOf C B) → List Entry) where
  abbrev pub with_cuts : PieceOf (SideOf C B) (SideOf C B) → List Entry
  with_cuts q = record { formula = F1; parts = at_ends (side_parts parts q.left) q.span ++ at_ends (side_parts parts q.right) q.span } ∷ others q

  module _ (gives : (p : Pair C C) (r : Result V (Fault Formula)) → returns p r → IsGiven value start end items (on_sides value value op (united_sides (pair_of p))) p.span (with_cuts (united_sides (pair_of p))) r) where
    pub given_united : (v w : List (Slice C)) (t : Ratio) (o : Option B) → IsTakenAt value start end items returns v w t o → o ≡ united_by op (value_at value v t) (value_at value w t)
    given_united v w t o h = united_at value start end parts items returns op (λ q x a t k. subst (λ z. value_at value (items x) t ≡ Some (op (slice_value value z.left t) (slice_value value z.right t))) a.1 ((gives a.0 (Ok x) a.3).0.values t (subst (λ z. has z.span t ≡ true) (sym a.1) k))) v w t o h

    pub given_judged : {W : Type 0} (list : W → List (Slice C)) (v w : List (Slice C)) (r : Result W (Fault Formula)) → IfOk r (λ all. AreTaken value start end parts items returns v w (list all)) → ((f : Formula) → r ≡ Err (Because f) → IsFirstRefused start end parts returns v w f) → IsJudged (flat_map with_cuts (pieces (Slices v) (Slices w))) r
    given_judged list v w r h k = judged_by value start end parts items returns with_cuts
        (λ q x a. subst (λ z. IsFirst (with_cuts (united_sides z)) None) a.1 (gives a.0 (Ok x) a.3).1)
        (λ q f m. ⊎_elim (λ n. inr (n.1, ap Some n.0)) (λ n. subst (λ z. IsFirst (with_cuts (united_sides z)) (Some f)) n.1.1 (gives n.1.0 (Err (Because f)) n.1.3)) m)
        list v w r h k

    -- the result of such a call fills the piece, and it says whether F1 fits
    pub given_full : (p : Pair C C) (x : V) → returns p (Ok x) → AreFull value start end p.span (items x) × AllFit (piece_parts parts (pair_of p))
    given_full p x h =
        let g = gives p (Ok x) h in
        (record { ordered = g.0.ordered; inside = g.0.inside; full = λ t k e. none_some (on_sides value value op (united_sides (pair_of p)) t) (sym e ∙ g.0.values t k) }, ⊎_elim (λ m. m.0) (λ m. none_some F1 m.1) g.1)

    pub given_passes : (p : Pair C C) (f : Formula) → returns p (Err (Because f)) → ((f ≡ F1) × (¬ AllFit (piece_parts parts (pair_of p)))) ⊎ AllFit (piece_parts parts (pair_of p))
    given_passes p f h = ⊎_elim (λ m. inr m.0) (λ m. inl (same_some m.1, m.0)) (gives p (Err (Because f)) h)

-- the same for two whole values
pub given_value : {C B V : Type 0} (value : C → Ratio → Ratio → Ratio → B) (start end : C → B) (parts : C → Ratio → Ratio → Ratio → List Ratio) (items : V → List (Slice C)) (returns : Pair C C → Result V (Fault Formula) → Type 0) (v w slices r : List (Slice C)) → AreTaken value start end parts items returns v w slices → ((t : Ratio) → value_at value r t ≡ value_at value slices t)
    → (op : B → B → B) (others : PieceOf (SideOf C B) (SideOf C B) → List Entry) → ((p : Pair C C) (r : Result V (Fault Formula)) → returns p r → IsGiven value start end items (on_sides value value op (united_sides (pair_of p))) p.span (with_cuts value start end parts items returns op others (united_sides (pair_of p))) r) → AreUnited value op v w r
given_value value start end parts items returns v w slices r h e op others gives t = e t ∙ given_united value start end parts items returns op others gives v w t (value_at value slices t) (h.values t)

-- if calls return a step on each shared piece, from the values there
pub step_value : {B V : Type 0} (items : V → List (Slice (Steady B))) (returns : Pair (Steady B) (Steady B) → Result V (Fault Formula) → Type 0) (v w r : List (Slice (Steady B))) → AreTaken steady_value steady_limit steady_limit steady_parts items returns v w r
    → (op : B → B → B) → ((p : Pair (Steady B) (Steady B)) (x : V) → returns p (Ok x) → items x ≡ record { span = p.span; course = record { value = op p.left.now.course.value p.right.now.course.value } } ∷ []) → AreUnited steady_value op v w r
step_value {B} {V} items returns v w r h op gives t = united_at steady_value steady_limit steady_limit steady_parts items returns op each v w t (value_at steady_value r t) (h.values t)
  where
    each : (q : PieceOf (Slice (Steady B)) (Slice (Steady B))) (x : V) → IsAnswered steady_limit steady_limit returns q (Ok x) → (t : Ratio) → has q.span t ≡ true → value_at steady_value (items x) t ≡ Some (op (slice_value steady_value q.left t) (slice_value steady_value q.right t))
    each q x a t k = ap (λ z. value_at steady_value z t) (gives a.0 x a.3) ∙ ap (λ b. cond b (Some (op a.0.left.now.course.value a.0.right.now.course.value)) None) (subst (λ z. has z.span t ≡ true) (sym a.1) k) ∙ ap (λ z. Some (op z.left.course.value z.right.course.value)) a.1

pub step_full : {B V : Type 0} (items : V → List (Slice (Steady B))) (p : Pair (Steady B) (Steady B)) (x : V) (y : B) → has_instant p.span ≡ true → items x ≡ record { span = p.span; course = record { value = y } } ∷ [] → AreFull steady_value steady_limit steady_limit p.span (items x)
step_full items p x y i e = record {
  ordered = rw e (record { some = i; level = λ n. refl }, tt, tt);
  inside = rw e (inside_self p.span, tt);
  full = λ t k n. none_some y (sym n ∙ ap (λ z. value_at steady_value z t) e ∙ ap (λ b. cond b (Some y) None) k);
}

-- ones
module _ {C B : Type 0} (start end : C → B) where
  one_head : (s : Slice C) (v : List (Slice C)) → OfHead IsClearOf s v → OfHead IsClearOf (one_slice s) (map one_slice v)
  one_head s [] h = tt
  one_head s (r ∷ v) h = h

  pub ones_ordered : (v : List (Slice C)) → IsRisingInTime start end v → IsRisingInTime steady_limit steady_limit (map one_slice v)
  ones_ordered [] h = tt
  ones_ordered (s ∷ v) h = (record { some = h.0.some; level = λ n. refl }, one_head s v h.1, ones_ordered v h.2)

pub ones_at : {C B : Type 0} (value : C → Ratio → Ratio → Ratio → B) (v : List (Slice C)) (t : Ratio) → value_at steady_value (map one_slice v) t ≡ option_map (λ x. whole (pos 1)) (value_at value v t)
ones_at value [] t = refl
ones_at value (s ∷ v) t = ap (λ o. cond (has s.span t) (Some (whole (pos 1))) o) (ones_at value v t) ∙ by (has s.span t)
  where
    by : (b : Bool) → cond b (Some (whole (pos 1))) (option_map (λ x. whole (pos 1)) (value_at value v t)) ≡ option_map (λ x. whole (pos 1)) (cond b (Some (slice_value value s t)) (value_at value v t))
    by true = refl
    by false = refl

pub ones_end : {C : Type 0} (given v : List (Slice C)) (o : List (Slice (Steady Ratio))) (i : ℕ) → given ≡ v → length given ≤ i → o ++ map one_slice (drop i given) ≡ map one_slice given → o ≡ map one_slice v
ones_end given v o i e n h =
    let none : drop i given ≡ [] = drop_all i given (omega (arith, n)) in
    sym (append-nil o) ∙ ap (λ z. o ++ map one_slice z) (sym none) ∙ h ∙ ap (map one_slice) e

-- the same with a relation instead of an operation
module _ {C B V : Type 0} (value : C → Ratio → Ratio → Ratio → B) (start end : C → B) (parts : C → Ratio → Ratio → Ratio → List Ratio) (items : V → List (Slice C)) (returns : Pair C C → Result V (Fault Formula) → Type 0) (R : Ratio → B → B → B → Type 0)
    (each : (p : Pair C C) (x : V) (t : Ratio) → IsPairFit start end start end p → returns p (Ok x) → has p.span t ≡ true → (z : B) × (value_at value (items x) t ≡ Some z) × R t (slice_value value p.left.now t) (slice_value value p.right.now t) z) where
  pub met_at : (v w : List (Slice C)) (t : Ratio) (o : Option B) → IsTakenAt value start end items returns v w t o → IsUnitedAt R t (value_at value v t) (value_at value w t) o
  met_at v w t o h =
      subst (λ z. IsUnitedAt R t z (value_at value w t) o) (sym (value_by value v t)) (subst (λ z. IsUnitedAt R t (option_map (λ s. slice_value value s t) (piece_at (λ s. s.span) v t)) z o) (sym (value_by value w t))
      (by (piece_at (λ q. q.span) (shared_pieces (λ s. s.span) (λ s. s.span) v w) t) (piece_at (λ s. s.span) v t) (piece_at (λ s. s.span) w t) refl (meets_at (λ s. s.span) (λ s. s.span) v w t)
      (subst (λ z. MatchOption (piece_at (λ q. q.span) (shared_pieces (λ s. s.span) (λ s. s.span) v w) t) (o ≡ one_of z (option_map (λ s. slice_value value s t) (piece_at (λ s. s.span) w t))) (λ q. (x : V) × IsAnswered start end returns q (Ok x) × (o ≡ value_at value (items x) t))) (value_by value v t)
      (subst (λ z. MatchOption (piece_at (λ q. q.span) (shared_pieces (λ s. s.span) (λ s. s.span) v w) t) (o ≡ one_of (value_at value v t) z) (λ q. (x : V) × IsAnswered start end returns q (Ok x) × (o ≡ value_at value (items x) t))) (value_by value w t) h))))
    where
      by : (found : Option (PieceOf (Slice C) (Slice C))) (a b : Option (Slice C)) → piece_at (λ q. q.span) (shared_pieces (λ s. s.span) (λ s. s.span) v w) t ≡ found → option_map (sides (λ s. s.span) (λ s. s.span)) found ≡ option_zip a b
          → MatchOption found (o ≡ one_of (option_map (λ s. slice_value value s t) a) (option_map (λ s. slice_value value s t) b)) (λ q. (x : V) × IsAnswered start end returns q (Ok x) × (o ≡ value_at value (items x) t))
          → IsUnitedAt R t (option_map (λ s. slice_value value s t) a) (option_map (λ s. slice_value value s t) b) o
      by None None b f e m = m
      by None (Some x) None f e m = m
      by None (Some x) (Some y) f e m = none_some (x, y) e
      by (Some q) None b f e m = none_some (q.left, q.right) (sym e)
      by (Some q) (Some x) None f e m = none_some (q.left, q.right) (sym e)
      by (Some q) (Some x) (Some y) f e m =
          let two = same_some e in
          let p = m.1.0 in
          let i = part_here (λ q. q.span) (shared_pieces (λ s. s.span) (λ s. s.span) v w) t q f in
          let g = each p m.0 t m.1.2 m.1.3 (subst (λ z. has z.span t ≡ true) (sym m.1.1) i) in
          (g.0, m.2 ∙ g.1, subst (λ z. R t (slice_value value z t) (slice_value value y t) g.0) (ap (λ z. z.left) m.1.1 ∙ ap (λ z. z.0) two) (subst (λ z. R t (slice_value value p.left.now t) (slice_value value z t) g.0) (ap (λ z. z.right) m.1.1 ∙ ap (λ z. z.1) two) g.2))
