-- The entries of trips, one after another.
use Rattle.std.{specs.Prelude.{All, true}, proofs.Common.{◌≡◌, ℕ, ◌+◌, ◌<◌, List, [], ◌∷◌, ◌++◌, length, length-take-le, take, get_or, Option, Some, None, arith, refl, sym, ap, ◌∙◌, subst}}
use Rattle.std.{proofs.lemmas.List.{take_more}, proofs.lemmas.List.Elements.{All-nil, All-cons}}
use Rattle.mob_stbox.specs.Boxes.{BoxOf, is_whole}
use Rattle.mob_rtree_nodes.specs.Tree.{EntryOf}
use Rattle.mob_value.specs.ValueBoxes.{IsBoxOf}
use Rattle.mob_knn.specs.Nearest.{TripOf, AreBoxes, IsBoxPut}

abbrev one : BoxOf → ℕ → List EntryOf
one b n = (b, n) ∷ []

-- one more trip after
more_none : (i : ℕ) (trips : List (Option TripOf)) (es : List EntryOf) → AreBoxes i trips es → AreBoxes i (trips ++ None ∷ []) es
more_none i [] es h = h
more_none i (None ∷ trips) es h = more_none (i + 1) trips es h
more_none i (Some t ∷ trips) es h = (h.0, h.1, h.2, h.3, more_none (i + 1) trips h.1 h.4)

one_entry : (b : BoxOf) (n m : ℕ) → n ≡ m → one b n ≡ one b m
one_entry b n m e = ap (one b) e

more_some : (i : ℕ) (trips : List (Option TripOf)) (es : List EntryOf) (trip : TripOf) (b : BoxOf) (row : ℕ) → AreBoxes i trips es → IsBoxOf trip b → row ≡ i + length trips → AreBoxes i (trips ++ Some trip ∷ []) (es ++ (b, row) ∷ [])
more_some i [] es trip b row h k e = (b, [], k, (ap (λ l. l ++ (b, row) ∷ []) h ∙ one_entry b row i (omega (arith, e))), refl)
more_some i (None ∷ trips) es trip b row h k e = more_some (i + 1) trips es trip b row h k (omega (arith, e))
more_some i (Some t ∷ trips) es trip b row h k e =
    (h.0, h.1 ++ (b, row) ∷ [], h.2, ap (λ l. l ++ (b, row) ∷ []) h.3, more_some (i + 1) trips h.1 trip b row h.4 k (omega (arith, e)))

more_any : (trips : List (Option TripOf)) (o : Option TripOf) (row : ℕ) (old new : List EntryOf) → AreBoxes 0 trips old → IsBoxPut o row old new → row ≡ length trips → AreBoxes 0 (trips ++ o ∷ []) new
more_any trips None row old new h k e = subst (λ l. AreBoxes 0 (trips ++ None ∷ []) l) (sym k) (more_none 0 trips old h)
more_any trips (Some trip) row old new h k e = subst (λ l. AreBoxes 0 (trips ++ Some trip ∷ []) l) (sym k.2) (more_some 0 trips old trip k.0 row h k.1 (omega (arith, e)))

pub next_box : (trips : List (Option TripOf)) (i : ℕ) (o : Option TripOf) (row : ℕ) (old new : List EntryOf) → i < length trips → o ≡ get_or trips i o → AreBoxes 0 (take i trips) old → IsBoxPut o row old new → row ≡ i → AreBoxes 0 (take (i + 1) trips) new
next_box trips i o row old new lt e h k f =
    subst (λ l. AreBoxes 0 l new) (sym (take_more trips i o lt ∙ ap (λ z. take i trips ++ z ∷ []) (sym e)))
    (more_any (take i trips) o row old new h k (let n = length-take-le i trips (omega (arith, lt)) in omega (arith, n, f)))

pub boxes_whole : (i : ℕ) (trips : List (Option TripOf)) (es : List EntryOf) → AreBoxes i trips es → All (λ (e : EntryOf). is_whole e.0 ≡ true) es
boxes_whole i [] es h = subst (λ l. All (λ (e : EntryOf). is_whole e.0 ≡ true) l) (sym h) (All-nil (λ (e : EntryOf). is_whole e.0 ≡ true))
boxes_whole i (None ∷ trips) es h = boxes_whole (i + 1) trips es h
boxes_whole i (Some t ∷ trips) es h = subst (λ l. All (λ (e : EntryOf). is_whole e.0 ≡ true) l) (sym h.3) (All-cons (λ (e : EntryOf). is_whole e.0 ≡ true) (h.0, i) h.1 h.2.whole (boxes_whole (i + 1) trips h.1 h.4))
