-- Cells, one function at a time.
use Rattle.std.specs.Prelude.{◌≡◌, ◌⊎◌, Bool, true, false, cond, ◌&&◌, ◌||◌, ℕ, zero, suc, List, [], ◌∷◌, ◌++◌, map, slice_get, length, get_or, ◌<◌, Some, None, MatchOption, refl}
use Rattle.std.{specs.List.{AllByRecursion, flat_map}, specs.declared.cmp.Ordering.{Ordering}, proofs.lemmas.Bool.{and_parts}}
use Rattle.std.{proofs.Common.{arith, ap, sym, ◌∙◌, subst, true≢false, inl, inr, append_assoc, append-nil, ◌+◌}, proofs.lemmas.Option.{slice_get_read}}
use Rattle.mob_list.proofs.Each.{each_both, each_get, each_on}
use Rattle.mob_ratio.{specs.Ratio.{Ratio}, specs.Order.{before}, specs.Sign.{opposite, root_at, sign_of}, proofs.Order.{before-back, before-neither}}
use Rattle.mob_span.{specs.Span.{SpanOf, has}, specs.Sets.{in_some}, specs.Neighbours.{is_inside}}
use Rattle.mob_cells.{specs.declared.linear.Ends.{Ends}, specs.declared.signs.Placed.{Placed}, specs.Roots.{IsLevel, root_of, roots, as_list, function_at}}
use Rattle.mob_cells.specs.Cells.{AreCells, AreCutAt, IsSomeEnd, AreSplit, IsPlaced, IsApart, AreSigned, functions_of, split_at, until, inner, instant_span, beyond, NoneWithin, is_cell, is_cell_of}
use Rattle.mob_cells.{specs.Cells.{placed_sign, signs_of}, proofs.Keeps.{kept}, proofs.Zeros.{root_inside}}
use Rattle.mob_slice.proofs.Options.{none_some, same_some}

-- ---- the instants at which the cells are cut
abbrev pub HasEnds : (Ratio → Type 0) → SpanOf → Type 0
HasEnds P c = P c.lower × P c.upper

ends_by : (P : Ratio → Type 0) (r : Ratio) (c : SpanOf) (rest : List SpanOf) → P r → HasEnds P c → AllByRecursion (HasEnds P) rest → (b : Bool) → AllByRecursion (HasEnds P) (cond b (until c r ∷ instant_span r ∷ beyond c r ∷ []) (c ∷ []) ++ rest)
ends_by P r c rest p h k true = ((h.0, p), ((p, p), ((p, h.1), k)))
ends_by P r c rest p h k false = (h, k)

pub split_ends : (P : Ratio → Type 0) (r : Ratio) (cells : List SpanOf) → P r → AllByRecursion (HasEnds P) cells → AllByRecursion (HasEnds P) (split_at r cells)
split_ends P r [] p h = tt
split_ends P r (c ∷ cells) p h = ends_by P r c (split_at r cells) p h.0 (split_ends P r cells p h.1) (before c.lower r && before r c.upper)

pub start_ends : (P : Ratio → Type 0) (s : SpanOf) → P s.lower → P s.upper → (b l u : Bool) → AllByRecursion (HasEnds P) (cond b (cond l (instant_span s.lower ∷ []) [] ++ inner s ∷ cond u (instant_span s.upper ∷ []) []) (s ∷ []))
start_ends P s p q false l u = ((p, q), tt)
start_ends P s p q true true true = ((p, p), ((p, q), ((q, q), tt)))
start_ends P s p q true true false = ((p, p), ((p, q), tt))
start_ends P s p q true false true = ((p, q), ((q, q), tt))
start_ends P s p q true false false = ((p, q), tt)

-- ---- the sign of a function on a cell

pub get_ends : (ps : List Placed) (i : ℕ) (p : Placed) → slice_get ps i ≡ Some p → slice_get (functions_of ps) i ≡ Some p.ends
get_ends [] i p e = none_some p e
get_ends (q ∷ ps) zero p e = ap (λ (z : Placed). Some z.ends) (same_some e)
get_ends (q ∷ ps) (suc i) p e = get_ends ps i p e

pub length_ends : (ps : List Placed) → length (functions_of ps) ≡ length ps
length_ends [] = refl
length_ends (p ∷ ps) = ap suc (length_ends ps)

apart_by : (s : SpanOf) (f : Ends) (cells : List SpanOf) (i : ℕ) (c : SpanOf) (o : Bool) → opposite f.at_lower f.at_upper ≡ o → slice_get cells i ≡ Some c → MatchOption (cond o (Some (root_at f.at_lower f.at_upper s.lower s.upper)) None) (Unit {0}) (λ r. AllByRecursion (NoneWithin r) cells) → o ≡ true → NoneWithin (root_at f.at_lower f.at_upper s.lower s.upper) c
apart_by s f cells i c true e g m h = each_get (NoneWithin (root_at f.at_lower f.at_upper s.lower s.upper)) cells i c m g
apart_by s f cells i c false e g m h = absurd (true≢false (sym h))

placed_kept : (s : SpanOf) (cells : List SpanOf) (i : ℕ) (c : SpanOf) (p : Placed) → AllByRecursion (λ c. is_cell_of s c ≡ true) cells → slice_get cells i ≡ Some c → IsPlaced s p → IsApart cells p → (t : Ratio) → has c t ≡ true → sign_of (function_at s p.ends t) ≡ placed_sign s c p
placed_kept s cells i c p a e q m t k =
    let n = subst (λ z. MatchOption z (Unit {0}) (λ r. AllByRecursion (NoneWithin r) cells)) q.root m in
    kept p.ends.at_lower p.ends.at_upper s c q.level (each_get (λ c. is_cell_of s c ≡ true) cells i c a e) (apart_by s p.ends cells i c (opposite p.ends.at_lower p.ends.at_upper) refl e n) t k

pub sign_kept : (s : SpanOf) (placed : List Placed) (cells : List SpanOf) (i j : ℕ) (c : SpanOf) (p : Placed) (o : Ordering) → AreSigned s placed cells → slice_get cells i ≡ Some c → slice_get placed j ≡ Some p → o ≡ placed_sign s c p → (t : Ratio) → has c t ≡ true → o ≡ sign_of (function_at s p.ends t)
sign_kept s placed cells i j c p o h ei ej eo t k =
    eo ∙ sym (placed_kept s cells i c p h.are.are ei (each_get (IsPlaced s) placed j p h.good ej) (each_get (IsApart cells) placed j p h.apart ej) t k)

keep_all : (s : SpanOf) (cells : List SpanOf) (i : ℕ) (c : SpanOf) (ps : List Placed) → AllByRecursion (λ c. is_cell_of s c ≡ true) cells → slice_get cells i ≡ Some c → AllByRecursion (IsPlaced s) ps → AllByRecursion (IsApart cells) ps → (t : Ratio) → has c t ≡ true → map (placed_sign s c) ps ≡ signs_of s (functions_of ps) t
keep_all s cells i c [] a e h k t m = refl
keep_all s cells i c (p ∷ ps) a e h k t m = ap (λ o. o ∷ map (placed_sign s c) ps) (sym (placed_kept s cells i c p a e h.0 k.0 t m)) ∙ ap (λ l. sign_of (function_at s p.ends t) ∷ l) (keep_all s cells i c ps a e h.1 k.1 t m)

pub signs_kept : (s : SpanOf) (placed : List Placed) (cells : List SpanOf) (i : ℕ) (c : SpanOf) (os : List Ordering) → AreSigned s placed cells → slice_get cells i ≡ Some c → os ≡ map (placed_sign s c) placed → (t : Ratio) → has c t ≡ true → os ≡ signs_of s (functions_of placed) t
signs_kept s placed cells i c os h e eo t k = eo ∙ keep_all s cells i c placed h.are.are e h.good h.apart t k

pub read_of : {A : Type 0} (xs ys : List A) (i : ℕ) (x : A) → xs ≡ ys → i < length ys → x ≡ get_or xs i x → slice_get ys i ≡ Some x
read_of xs ys i x e h k = slice_get_read ys (length ys) i x refl h (k ∙ ap (λ z. get_or z i x) e)

pub sign_found : (s : SpanOf) (placed : List Placed) (cells : List SpanOf) (i j : ℕ) (c : SpanOf) (p : Placed) (o : Ordering) → AreSigned s placed cells → slice_get cells i ≡ Some c → slice_get placed j ≡ Some p → o ≡ placed_sign s c p → (c' : SpanOf) (f : Ends) → slice_get cells i ≡ Some c' → slice_get (functions_of placed) j ≡ Some f → (t : Ratio) → has c' t ≡ true → o ≡ sign_of (function_at s f t)
sign_found s placed cells i j c p o h ei ej eo c' f di dj t k =
    let ec : c' ≡ c = same_some (sym di ∙ ei) in
    let ef : p.ends ≡ f = same_some (sym (get_ends placed j p ej) ∙ dj) in
    sign_kept s placed cells i j c p o h ei ej eo t (subst (λ z. has z t ≡ true) ec k) ∙ ap (λ z. sign_of (function_at s z t)) ef

pub signs_found : (s : SpanOf) (placed : List Placed) (cells : List SpanOf) (i : ℕ) (c : SpanOf) (os : List Ordering) → AreSigned s placed cells → slice_get cells i ≡ Some c → os ≡ map (placed_sign s c) placed → (c' : SpanOf) → slice_get cells i ≡ Some c' → (t : Ratio) → has c' t ≡ true → os ≡ signs_of s (functions_of placed) t
signs_found s placed cells i c os h ei eo c' di t k = signs_kept s placed cells i c os h ei eo t (subst (λ z. has z t ≡ true) (same_some (sym di ∙ ei)) k)

-- ---- loops over lists
pub mapped_step : {A B : Type 0} (f : A → B) (rest later : List A) (x : A) (y : B) (out out' all : List B) → rest ≡ x ∷ later → y ≡ f x → out' ≡ out ++ y ∷ [] → out ++ map f rest ≡ all → out' ++ map f later ≡ all
mapped_step f rest later x y out out' all e ey n m = rw (n, append_assoc out (y ∷ []) (map f later)) (ap (λ z. out ++ z ∷ map f later) ey ∙ (rw e at m))

pub mapped_end : {A B : Type 0} (f : A → B) (rest : List A) (out all : List B) → rest ≡ [] → out ++ map f rest ≡ all → out ≡ all
mapped_end f rest out all e m = sym (append-nil out) ∙ (rw e at m)

pub flat_step : {A B : Type 0} (f : A → List B) (rest later : List A) (x : A) (out out' all : List B) → rest ≡ x ∷ later → out' ≡ out ++ f x → out ++ flat_map f rest ≡ all → out' ++ flat_map f later ≡ all
flat_step f rest later x out out' all e n m = rw (n, append_assoc out (f x) (flat_map f later)) (rw e at m)

pub flat_end : {A B : Type 0} (f : A → List B) (rest : List A) (out all : List B) → rest ≡ [] → out ++ flat_map f rest ≡ all → out ≡ all
flat_end f rest out all e m = sym (append-nil out) ∙ (rw e at m)

-- ---- definitions for callers
inside_of : (s : SpanOf) (cells : List SpanOf) → AllByRecursion (λ c. is_cell_of s c ≡ true) cells → AllByRecursion (λ c. is_inside s c ≡ true) cells
inside_of s cells h = each_on (λ c. is_cell_of s c ≡ true) (λ c. is_inside s c ≡ true) (λ c k. (and_parts (is_cell c) (is_inside s c) k).1) cells h

pub are_cells : (s : SpanOf) (cells : List SpanOf) → AreSplit s cells → AreCells s cells
are_cells s cells h = record { clear = h.clear; inside = inside_of s cells h.are; covers = h.covers }

end_of : (c : SpanOf) (r : Ratio) → NoneWithin r c → has c r ≡ true → (b : Bool) → before c.lower r ≡ b → (c.lower ≡ r) ⊎ (c.upper ≡ r)
end_of c r n h true e = inr (sym (before-neither r c.upper (grind (arith, n, e)) (grind (arith, h, e, before-back r c.upper))))
end_of c r n h false e = inl (before-neither c.lower r e (grind (arith, h, e, before-back c.lower r)))

pub some_end : (r : Ratio) (cells : List SpanOf) → AllByRecursion (NoneWithin r) cells → in_some cells r ≡ true → IsSomeEnd r cells
some_end r [] n h = absurd (true≢false (sym h))
some_end r (c ∷ cells) n h = by (has c r) refl h (λ k. some_end r cells n.1 k)
  where
    by : (b : Bool) → has c r ≡ b → (b || in_some cells r) ≡ true → (in_some cells r ≡ true → IsSomeEnd r cells) → IsSomeEnd r (c ∷ cells)
    by true e k f = inl (end_of c r n.0 e (before c.lower r) refl)
    by false e k f = inr (f k)

root_ends : (s : SpanOf) (cells : List SpanOf) (f : Ends) → AreSplit s cells → IsLevel s f → (o : Bool) → opposite f.at_lower f.at_upper ≡ o → MatchOption (cond o (Some (root_at f.at_lower f.at_upper s.lower s.upper)) None) (Unit {0}) (λ r. AllByRecursion (NoneWithin r) cells) → AllByRecursion (λ r. IsSomeEnd r cells) (as_list (cond o (Some (root_at f.at_lower f.at_upper s.lower s.upper)) None))
root_ends s cells f a l true e m = (some_end (root_at f.at_lower f.at_upper s.lower s.upper) cells m (a.covers (root_at f.at_lower f.at_upper s.lower s.upper) ∙ root_inside s f l e), tt)
root_ends s cells f a l false e m = tt

all_ends : (s : SpanOf) (cells : List SpanOf) (ps : List Placed) → AreSplit s cells → AllByRecursion (IsPlaced s) ps → AllByRecursion (IsApart cells) ps → AllByRecursion (λ r. IsSomeEnd r cells) (roots s (functions_of ps))
all_ends s cells [] a h k = tt
all_ends s cells (p ∷ ps) a h k = each_both (λ r. IsSomeEnd r cells) (as_list (root_of s p.ends)) (roots s (functions_of ps)) (root_ends s cells p.ends a h.0.level (opposite p.ends.at_lower p.ends.at_upper) refl (subst (λ z. MatchOption z (Unit {0}) (λ r. AllByRecursion (NoneWithin r) cells)) h.0.root k.0)) (all_ends s cells ps a h.1 k.1)

pub are_cut : (s : SpanOf) (placed : List Placed) (cells : List SpanOf) → AreSigned s placed cells → AreCutAt s (roots s (functions_of placed)) cells
are_cut s placed cells h = record { each = all_ends s cells placed h.are h.good h.apart; only = h.only }
