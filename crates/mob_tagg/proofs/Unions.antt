-- Two values that change in steps have a union.
use Rattle.std.specs.Prelude.{◌≡◌, ◌≢◌, ◌⊎◌, ◌↔◌, Bool, true, false, not, cond, IsTrue, refl, ℕ, zero, suc, ◌<◌, List, [], ◌∷◌, ◌++◌, Option, Some, None, option_map}
use Rattle.std.proofs.Common.{ap, ap₂, sym, ◌∙◌, inl, inr, ⊎_elim, arith, true≢false}
use Rattle.mob_ratio.{specs.Ratio.{Ratio}, specs.Order.{same}, proofs.Order.{same_exact}}
use Rattle.mob_span.{specs.Span.{SpanOf, has, has_instant}, specs.Neighbours.{Meets, joined, is_clear}, specs.Pieces.{PiecesAreClear}, proofs.Insides.{clear_has}, proofs.Shared.{AreAllClear}}
use Rattle.mob_span.proofs.SpanLemmas.{some_instant}
use Rattle.mob_slice.{specs.CourseOf.{steady_course}, specs.Operands.{steady_value, steady_limit}, specs.Slices.{OfHead, IsClearOf, IsSound, IsRisingInTime, AreNormal, IsNormal, value_at}}
use Rattle.mob_slice.{specs.SteadyLaws.{steady_laws}, specs.declared.slice.Slice.{Slice}, specs.declared.steady.Steady.{Steady}, proofs.LookUps.{value_by}, proofs.Orders.{ordered, ordered-clear}}
use Rattle.mob_slice.proofs.Options.{none_some}
use Rattle.mob_lift.{specs.Joined.{IsJoin}, proofs.Joins.{join_one, join_kept}, proofs.Runs.{step_normal, step_ordered, step_keeps}}
use Rattle.mob_shares.{specs.Cuts.{CutOf, wholes, entry_at}, specs.Sharing.{ShareOf, next_share, behind_piece, most_shares}, proofs.Sides.{cut_span, entry_whole, whole_clear}}
use Rattle.mob_shares.proofs.Steps.{IsStep, next_step, none_next, next_fewer}
use Rattle.mob_tagg.specs.United.{united_by, AreUnited}

abbrev Steps : Type 0 → Type 0
Steps B = List (Slice (Steady B))

-- ---- the normal list of steps in order

two_bools : (a b : Bool) → (a ≡ b) ⊎ (a ≡ b → ⊥)
two_bools true true = inl refl
two_bools true false = inr (λ e. true≢false e)
two_bools false true = inr (λ e. true≢false (sym e))
two_bools false false = inl refl

some_list : {A R : Type 0} (x : A) (xs : List A) → x ∷ xs ≡ [] → R
some_list x xs e = cc

one_at_end : {A : Type 0} (xs : List A) (x : A) → xs ++ x ∷ [] ≢ []
one_at_end [] x e = some_list x [] e
one_at_end (y ∷ xs) x e = some_list y (xs ++ x ∷ []) e

-- two steps are equal
abbrev goes_on : {B : Type 0} → (B → B → Bool) → Steady B → Steady B → Ratio → Ratio → Ratio → Bool
goes_on is_same = (steady_course is_same).continues

module _ {B : Type 0} (is_same : B → B → Bool) (exact : (a b : B) → IsTrue (is_same a b) ↔ (a ≡ b)) where
  -- the normal form of two neighbours
  abbrev Join : Slice (Steady B) → Slice (Steady B) → Type 0
  Join s r = (d : Steps B) × (l : Slice (Steady B)) × IsJoin steady_value steady_limit steady_limit (goes_on is_same) s r d l

  join_apart : (s r : Slice (Steady B)) → IsSound steady_limit steady_limit s → IsSound steady_limit steady_limit r → IsClearOf s r → (Meets s.span r.span → ⊥) → Join s r
  join_apart s r ss sr clear apart = (
    s ∷ [],
    r,
    record {
      keeps = λ t. refl;
      chained = (ss, record { in_order = clear; apart = λ m. absurd (apart m); given_late = λ m. absurd (apart m); own_value = λ m. absurd (apart m) }, (sr, tt, tt));
      front = λ p sp n. n;
      back = λ q k. k;
    },
  )

  join_meet : (s r : Slice (Steady B)) → IsSound steady_limit steady_limit s → IsSound steady_limit steady_limit r → IsClearOf s r → Meets s.span r.span → (b : Bool) → is_same s.course.value r.course.value ≡ b → Join s r
  join_meet s r ss sr clear m true e = ([], record { span = joined s.span r.span; course = record { value = s.course.value } }, join_one (steady_laws false is_same exact) s r ss sr m e)
  join_meet s r ss sr clear m false e = (s ∷ [], r, join_kept (steady_laws false is_same exact) s r ss sr clear m e (λ inc long k. true≢false (sym ((exact s.course.value r.course.value).1 k) ∙ e)))

  joins : (s r : Slice (Steady B)) → IsSound steady_limit steady_limit s → IsSound steady_limit steady_limit r → IsClearOf s r → Join s r
  joins s r ss sr clear = ⊎_elim (λ inc. by (same s.span.upper r.span.lower) refl inc) (λ n. join_apart s r ss sr clear (λ m. n m.in_one)) (two_bools s.span.upper_inc (not r.span.lower_inc))
    where
      by : (b : Bool) → same s.span.upper r.span.lower ≡ b → s.span.upper_inc ≡ not r.span.lower_inc → Join s r
      by true e inc = join_meet s r ss sr clear (record { at_one = (same_exact s.span.upper r.span.lower).0 e; in_one = inc }) (is_same s.course.value r.course.value) refl
      by false e inc = join_apart s r ss sr clear (λ m. true≢false (sym ((same_exact s.span.upper r.span.lower).1 m.at_one) ∙ e))

  normal_from : (done : Steps B) (last : Slice (Steady B)) (rest : Steps B) → AreNormal steady_limit steady_limit (goes_on is_same) (done ++ last ∷ []) → IsRisingInTime steady_limit steady_limit (last ∷ rest)
      → (u : Steps B) × (u ≢ []) × AreNormal steady_limit steady_limit (goes_on is_same) u × ((t : Ratio) → value_at steady_value u t ≡ value_at steady_value (done ++ last ∷ rest) t)
  normal_from done last [] n o = (done ++ last ∷ [], one_at_end done last, n, λ t. refl)
  normal_from done last (r ∷ rest) n o =
      let j = joins last r o.0 o.2.0 o.1 in
      let u = normal_from (done ++ j.0) j.1 rest (step_normal done j.0 (done ++ j.0) last r j.1 refl n j.2) (step_ordered j.0 rest last r j.1 o j.2) in
      (u.0, u.1, u.2, λ t. u.3 t ∙ step_keeps done j.0 (done ++ j.0) rest last r j.1 refl j.2 t)

  pub normal_steps : (v : Steps B) → v ≢ [] → IsRisingInTime steady_limit steady_limit v → (u : Steps B) × IsNormal steady_limit steady_limit (goes_on is_same) u × ((t : Ratio) → value_at steady_value u t ≡ value_at steady_value v t)
  normal_steps [] n o = absurd (n refl)
  normal_steps (s ∷ v) n o = let u = normal_from [] s v (o.0, tt, tt) o in (u.0, record { some = u.1; chained = u.2 }, u.3)

-- ---- the pieces of the walk over two lists

abbrev AreAfter : {B : Type 0} → SpanOf → Steps B → Type 0
AreAfter q slices = AreAllClear (λ s. s.span) q slices

-- steps after a span are undefined in it
pub none_at : {B : Type 0} (p : SpanOf) (rest : Steps B) (t : Ratio) → AreAllClear (λ s. s.span) p rest → has p t ≡ true → value_at steady_value rest t ≡ None
none_at p [] t h k = refl
none_at p (s ∷ rest) t h k = ap (λ b. cond b (Some s.course.value) (value_at steady_value rest t)) (clear_has p s.span t h.0 k) ∙ none_at p rest t h.1 k

module _ {B : Type 0} (op : B → B → B) where
  -- the union of two lists, from their slices there
  abbrev both_at : Option (Slice (Steady B)) → Option (Slice (Steady B)) → Option B
  both_at x y = united_by op (option_map (λ s. s.course.value) x) (option_map (λ s. s.course.value) y)

  -- a step on a span before others, if its value exists
  abbrev put_step : SpanOf → Option B → Steps B → Steps B
  put_step p None rest = rest
  put_step p (Some x) rest = record { span = p; course = record { value = x } } ∷ rest

  put_here : (p : SpanOf) (o : Option B) (rest : Steps B) (t : Ratio) → AreAfter p rest → has p t ≡ true → value_at steady_value (put_step p o rest) t ≡ o
  put_here p None rest t h k = none_at p rest t h k
  put_here p (Some x) rest t h k = ap (λ b. cond b (Some x) (value_at steady_value rest t)) k

  put_gone : (p : SpanOf) (o : Option B) (rest : Steps B) (t : Ratio) → has p t ≡ false → value_at steady_value (put_step p o rest) t ≡ value_at steady_value rest t
  put_gone p None rest t k = refl
  put_gone p (Some x) rest t k = ap (λ b. cond b (Some x) (value_at steady_value rest t)) k

  put_ordered : (p : SpanOf) (o : Option B) (rest : Steps B) → has_instant p ≡ true → AreAfter p rest → IsRisingInTime steady_limit steady_limit rest → IsRisingInTime steady_limit steady_limit (put_step p o rest)
  put_ordered p None rest i h k = k
  put_ordered p (Some x) rest i h k = (record { some = i; level = λ e. refl }, head rest h, k)
    where
      head : (rest : Steps B) → AreAfter p rest → OfHead IsClearOf (record { span = p; course = record { value = x } }) rest
      head [] h = tt
      head (s ∷ rest) h = h.0

  put_after : (q p : SpanOf) (o : Option B) (rest : Steps B) → is_clear q p ≡ true → AreAfter q rest → AreAfter q (put_step p o rest)
  put_after q p None rest c h = h
  put_after q p (Some x) rest c h = (c, h)

  -- slices in order with the union of two lists at each instant
  pub record IsWalked (v w : List (CutOf (Slice (Steady B)))) (slices : Steps B) : Type 0 where
    pub in_order : IsRisingInTime steady_limit steady_limit slices
    pub values : (t : Ratio) → value_at steady_value slices t ≡ both_at (entry_at v t) (entry_at w t)
    pub after : (q : SpanOf) → AreAllClear cut_span q v → AreAllClear cut_span q w → AreAfter q slices

  abbrev Walked : List (CutOf (Slice (Steady B))) → List (CutOf (Slice (Steady B))) → Type 0
  Walked v w = (slices : Steps B) × IsWalked v w slices

  walked_none : (v w : List (CutOf (Slice (Steady B)))) → next_share v w ≡ None → Walked v w
  walked_none v w e =
      let none = none_next v w e in
      ([], record { in_order = tt; values = λ t. sym (ap₂ (λ a b. both_at (entry_at a t) (entry_at b t)) none.0 none.1); after = λ q a b. tt })

  walked_more : (v w : List (CutOf (Slice (Steady B)))) (p : ShareOf (Slice (Steady B)) (Slice (Steady B))) → IsStep v w p (behind_piece p.span p.left v) (behind_piece p.span p.right w) → Walked (behind_piece p.span p.left v) (behind_piece p.span p.right w) → Walked v w
  walked_more v w p step (slices, h) = (
    put_step p.span (both_at p.left p.right) slices,
    record {
      in_order = put_ordered p.span (both_at p.left p.right) slices step.some next h.in_order;
      values = λ t. value t (has p.span t) refl;
      after = λ q a b. let s = step.after q a b in put_after q p.span (both_at p.left p.right) slices s.0 (h.after q s.1 s.2);
    },
  )
    where
      next : AreAfter p.span slices
      next = h.after p.span step.next.0 step.next.1

      value : (t : Ratio) (b : Bool) → has p.span t ≡ b → value_at steady_value (put_step p.span (both_at p.left p.right) slices) t ≡ both_at (entry_at v t) (entry_at w t)
      value t true i = put_here p.span (both_at p.left p.right) slices t next i ∙ sym (ap₂ both_at (step.here t i).0 (step.here t i).1)
      value t false i = put_gone p.span (both_at p.left p.right) slices t i ∙ h.values t ∙ ap₂ both_at (step.gone t i).0 (step.gone t i).1

  walked_by : (v w : List (CutOf (Slice (Steady B)))) → PiecesAreClear cut_span v → PiecesAreClear cut_span w → (o : Option (ShareOf (Slice (Steady B)) (Slice (Steady B)))) → next_share v w ≡ o
      → ((p : ShareOf (Slice (Steady B)) (Slice (Steady B))) → next_share v w ≡ Some p → Walked (behind_piece p.span p.left v) (behind_piece p.span p.right w)) → Walked v w
  walked_by v w h k None e f = walked_none v w e
  walked_by v w h k (Some p) e f = walked_more v w p (next_step v w h k p e) (f p e)

  walked : (n : ℕ) (v w : List (CutOf (Slice (Steady B)))) → most_shares v w < n → PiecesAreClear cut_span v → PiecesAreClear cut_span w → Walked v w
  walked zero v w lt h k = absurd (omega (arith, lt))
  walked (suc n) v w lt h k = walked_by v w h k (next_share v w) refl (λ p e.
      let step = next_step v w h k p e in
      let fewer = next_fewer v w p e in
      walked n (behind_piece p.span p.left v) (behind_piece p.span p.right w) (omega (arith, lt, fewer)) step.clear.0 step.clear.1)

  below : (n : ℕ) → n < suc n
  below n = omega arith

  whole_value : (v : Steps B) (t : Ratio) → option_map (λ s. s.course.value) (entry_at (wholes (λ s. s.span) v) t) ≡ value_at steady_value v t
  whole_value v t = ap (option_map (λ s. s.course.value)) (entry_whole (λ s. s.span) v t) ∙ sym (value_by steady_value v t)

  -- two lists of steps in order have a union in order
  pub union_of : (v w : Steps B) → IsRisingInTime steady_limit steady_limit v → IsRisingInTime steady_limit steady_limit w → (u : Steps B) × IsRisingInTime steady_limit steady_limit u × AreUnited steady_value op v w u
  union_of v w h k =
      let cs = wholes (λ s. s.span) v in
      let ds = wholes (λ s. s.span) w in
      let r = walked (suc (most_shares cs ds)) cs ds (below (most_shares cs ds)) (whole_clear (λ s. s.span) v (ordered-clear steady_limit steady_limit v h)) (whole_clear (λ s. s.span) w (ordered-clear steady_limit steady_limit w k)) in
      (r.0, r.1.in_order, λ t. r.1.values t ∙ ap₂ (united_by op) (whole_value v t) (whole_value w t))

  there_is : {R : Type 0} (x : B) (o : Option B) → None ≡ united_by op (Some x) o → R
  there_is x None e = none_some x e
  there_is x (Some y) e = none_some (op x y) e

  union_some : (v w u : Steps B) → v ≢ [] → IsRisingInTime steady_limit steady_limit v → AreUnited steady_value op v w u → u ≢ []
  union_some [] w u n o h e = n refl
  union_some (s ∷ v) w u n o h e =
      let i = some_instant s.span o.0.some in
      let here : value_at steady_value (s ∷ v) i.0 ≡ Some s.course.value = ap (λ b. cond b (Some s.course.value) (value_at steady_value v i.0)) i.1 in
      there_is s.course.value (value_at steady_value w i.0) (ap (λ z. value_at steady_value z i.0) (sym e) ∙ h i.0 ∙ ap (λ z. united_by op z (value_at steady_value w i.0)) here)

-- Two normal values that change in steps have a normal union.
pub normal_union : {B : Type 0} (is_same : B → B → Bool) → ((a b : B) → IsTrue (is_same a b) ↔ (a ≡ b)) → (op : B → B → B) (v w : List (Slice (Steady B))) → IsNormal steady_limit steady_limit (steady_course is_same).continues v → IsNormal steady_limit steady_limit (steady_course is_same).continues w
    → (u : List (Slice (Steady B))) × IsNormal steady_limit steady_limit (steady_course is_same).continues u × AreUnited steady_value op v w u
normal_union is_same exact op v w n m =
    let o = ordered steady_limit steady_limit (goes_on is_same) v n.chained in
    let u = union_of op v w o (ordered steady_limit steady_limit (goes_on is_same) w m.chained) in
    let r = normal_steps is_same exact u.0 (union_some op v w u.0 n.some o u.2) u.1 in
    (r.0, r.1, λ t. r.2 t ∙ u.2 t)
