-- The tally of a point by edges.
use Rattle.std.{specs.Prelude.{◌≡◌, Bool, true, false, cond, ◌||◌, List, [], ◌∷◌, ◌++◌, map, length, get_or, Result, Ok, Err, IfOk, refl}, specs.List.{AllByRecursion}}
use Rattle.std.{specs.declared.cmp.Ordering.{Ordering}, specs.declared.cmp.Ordering.TheVariants.{Less, Equal, Greater}, proofs.Common.{arith, ap, sym, ◌∙◌, subst, append_assoc}, proofs.Math.Bool.{or_assoc}}
use Rattle.mob_ratio.{specs.Ratio.{Ratio}, specs.Order.{before}, specs.Sign.{sign_of}}
use Rattle.mob_frac.specs.Formula.{AllFit}
use Rattle.mob_span.specs.Span.{SpanOf, has}
use Rattle.mob_cells.specs.Roots.{function_at}
use Rattle.mob_list.proofs.Each.{each_more, each_parts}
use Rattle.mob_plane.{specs.Membership.{is_one_alone}, specs.EdgeWise.{is_on, crosses, some_on, odd_cross, inside_by}, specs.declared.edges.EdgeSigns.{EdgeSigns}, specs.declared.edges.Tally.{Tally}}
use Rattle.mob_plane.proofs.Counts.{alone_assoc}
use Rattle.mob_clip.{specs.declared.timeline.Change.{Change}, specs.declared.timeline.Timeline.{Timeline}, specs.declared.membership.EdgeSign.TheVariants.{XA, XB, YA, YB}}
use Rattle.mob_clip.{specs.declared.roots.EdgePlaced.{EdgePlaced}, specs.Timelines.{step_at, timeline_at, ChangesFit}}
use Rattle.mob_clip.{specs.Signs.{known_sign, known_signs, one_known, signs_on, signs_beside, edge_tally, tally_change, tally_both, tally_all}, specs.Roots.{CutsFit, IsPlacedEdge}}

-- ---- the signs of an edge from those of its functions
joined_end : (o : Ordering) → known_sign o Equal ≡ o
joined_end Less = refl
joined_end Equal = refl
joined_end Greater = refl

pub ends_joined : (s : SpanOf) (t : Ratio) (g : EdgePlaced) (x y : EdgeSigns) → x ≡ known_signs (one_known XA (sign_of (function_at s g.x_a.ends t))) (one_known XB (sign_of (function_at s g.x_b.ends t))) → y ≡ known_signs (one_known YA (sign_of (function_at s g.y_a.ends t))) (one_known YB (sign_of (function_at s g.y_b.ends t))) → known_signs x y ≡ signs_beside s t g
ends_joined s t g x y h k = rw (h, k) (λ i. record {
  turn = Equal;
  x_a = (joined_end (known_sign (sign_of (function_at s g.x_a.ends t)) Equal) ∙ joined_end (sign_of (function_at s g.x_a.ends t))) i;
  x_b = joined_end (sign_of (function_at s g.x_b.ends t)) i;
  y_a = joined_end (sign_of (function_at s g.y_a.ends t)) i;
  y_b = sign_of (function_at s g.y_b.ends t);
})

-- ---- the tally along a walk
tallied_at : (x : EdgeSigns) (cs : List (Change EdgeSigns)) (t : Ratio) → step_at (edge_tally x) (map tally_change cs) t ≡ edge_tally (step_at x cs t)
tallied_at x [] t = refl
tallied_at x (c ∷ cs) t = by (tallied_at c.after cs t) (before t c.at) (before c.at t)
  where
    by : step_at (edge_tally c.after) (map tally_change cs) t ≡ edge_tally (step_at c.after cs t) → (a b : Bool) → cond a (edge_tally x) (cond b (step_at (edge_tally c.after) (map tally_change cs) t) (edge_tally c.there)) ≡ edge_tally (cond a x (cond b (step_at c.after cs t) c.there))
    by h true b = refl
    by h false true = h
    by h false false = refl

tallied_fit : (parts : Ratio → List Ratio) (cs : List (Change EdgeSigns)) → ChangesFit parts cs → ChangesFit parts (map tally_change cs)
tallied_fit parts [] h = tt
tallied_fit parts (c ∷ cs) h = (h.0, tallied_fit parts cs h.1)

pub tally_at : (s : Timeline EdgeSigns) (r : Timeline Tally) (t : Ratio) (x : EdgeSigns) → r.first ≡ edge_tally s.first → r.changes.items ≡ map tally_change s.changes.items → timeline_at s t ≡ x → timeline_at r t ≡ edge_tally x
tally_at s r t x e k h = rw (e, k) (tallied_at s.first s.changes.items t) ∙ ap edge_tally h

pub tally_fit : (s : Timeline EdgeSigns) (r : Timeline Tally) (parts : Ratio → List Ratio) → r.changes.items ≡ map tally_change s.changes.items → ChangesFit parts s.changes.items → ChangesFit parts r.changes.items
tally_fit s r parts k h = rw k (tallied_fit parts s.changes.items h)

-- ---- all edges
tally_assoc : (a b c : Tally) → tally_both (tally_both a b) c ≡ tally_both a (tally_both b c)
tally_assoc a b c = λ i. record { on = or_assoc a.on b.on c.on i; odd = alone_assoc a.odd b.odd c.odd i }

tally_joined : (xs ys : List Tally) → tally_all (xs ++ ys) ≡ tally_both (tally_all xs) (tally_all ys)
tally_joined [] ys = refl
tally_joined (x ∷ xs) ys = ap (tally_both x) (tally_joined xs ys) ∙ sym (tally_assoc x (tally_all xs) (tally_all ys))

map_joined : {A B : Type 0} (f : A → B) (xs ys : List A) → map f (xs ++ ys) ≡ map f xs ++ map f ys
map_joined f [] ys = refl
map_joined f (x ∷ xs) ys = ap (λ z. f x ∷ z) (map_joined f xs ys)

pub halves_at : (all left right : List (Timeline Tally)) (t : Ratio) (a b r : Tally) → left ++ right ≡ all → a ≡ tally_all (map (λ e. timeline_at e t) left) → b ≡ tally_all (map (λ e. timeline_at e t) right) → r ≡ tally_both a b → r ≡ tally_all (map (λ e. timeline_at e t) all)
halves_at all left right t a b r e h k m =
    m ∙ ap (λ z. tally_both z b) h ∙ ap (tally_both (tally_all (map (λ e. timeline_at e t) left))) k
    ∙ sym (tally_joined (map (λ e. timeline_at e t) left) (map (λ e. timeline_at e t) right))
    ∙ ap tally_all (sym (map_joined (λ e. timeline_at e t) left right))
    ∙ ap (λ z. tally_all (map (λ e. timeline_at e t) z)) e

-- a property of the result of a call, from its clause
pub if_ok : {A E : Type 0} {P Q : A → Type 0} (r : Result A E) → ((x : A) → P x → Q x) → IfOk r P → IfOk r Q
if_ok (Ok x) f h = f x h
if_ok (Err e) f h = h

pub single : {A : Type 0} (xs : List A) (x : A) → length xs ≡ 1 → x ≡ get_or xs 0 x → xs ≡ x ∷ []
single [] x h e = absurd (omega arith)
single (y ∷ []) x h e = ap (λ z. z ∷ []) (sym e)
single (y ∷ z ∷ ys) x h e = absurd (omega arith)

abbrev pub AllChangesFit : (Ratio → List Ratio) → List (Timeline Tally) → Type 0
AllChangesFit parts all = AllByRecursion (λ (e : Timeline Tally). ChangesFit parts e.changes.items) all

pub one_fits : {E : Type 0} (r : Result (Timeline Tally) E) (all : List (Timeline Tally)) (e n : Timeline Tally) → all ≡ e ∷ [] → n.changes.items ≡ [] → IfOk r (λ m. (parts : Ratio → List Ratio) → ChangesFit parts e.changes.items → ChangesFit parts n.changes.items → ChangesFit parts m.changes.items)
    → IfOk r (λ m. (parts : Ratio → List Ratio) → AllChangesFit parts all → ChangesFit parts m.changes.items)
one_fits r all e n a b h = if_ok r (λ m k parts w. k parts (subst (AllChangesFit parts) a w).0 (subst (ChangesFit parts) (sym b) tt)) h

pub two_fit : {E : Type 0} (r : Result (Timeline Tally) E) (all front back : List (Timeline Tally)) (left right : Timeline Tally) → front ++ back ≡ all → ((parts : Ratio → List Ratio) → AllChangesFit parts front → ChangesFit parts left.changes.items) → ((parts : Ratio → List Ratio) → AllChangesFit parts back → ChangesFit parts right.changes.items)
    → IfOk r (λ m. (parts : Ratio → List Ratio) → ChangesFit parts left.changes.items → ChangesFit parts right.changes.items → ChangesFit parts m.changes.items)
    → IfOk r (λ m. (parts : Ratio → List Ratio) → AllChangesFit parts all → ChangesFit parts m.changes.items)
two_fit r all front back left right e a b h = if_ok r (λ m k parts w. let v = each_parts (λ (x : Timeline Tally). ChangesFit parts x.changes.items) front back (subst (AllChangesFit parts) (sym e) w) in k parts (a parts v.0) (b parts v.1)) h

pub two_values : {E : Type 0} (r : Result (Timeline Tally) E) (all front back : List (Timeline Tally)) (left right : Timeline Tally) → front ++ back ≡ all → ((t : Ratio) → timeline_at left t ≡ tally_all (map (λ e. timeline_at e t) front)) → ((t : Ratio) → timeline_at right t ≡ tally_all (map (λ e. timeline_at e t) back))
    → IfOk r (λ m. (t : Ratio) → timeline_at m t ≡ tally_both (timeline_at left t) (timeline_at right t)) → IfOk r (λ m. (t : Ratio) → timeline_at m t ≡ tally_all (map (λ e. timeline_at e t) all))
two_values r all front back left right e a b h = if_ok r (λ m k t. halves_at all front back t (timeline_at left t) (timeline_at right t) (timeline_at m t) e (a t) (b t) (k t)) h

-- the tallies of all edges so far, each on its own
pub record IsKnowing (s : SpanOf) (all rest : List EdgePlaced) (out : List (Timeline Tally)) : Type 0 where
  pub values : (t : Ratio) → has s t ≡ true → map (λ x. timeline_at x t) out ++ map (λ g. edge_tally (signs_on s t g)) rest ≡ map (λ g. edge_tally (signs_on s t g)) all
  pub fit : (parts : Ratio → List Ratio) → AllFit (parts s.lower) → AllFit (parts s.upper) → AllByRecursion (CutsFit parts) all → AllByRecursion (λ (x : Timeline Tally). ChangesFit parts x.changes.items) out × AllByRecursion (CutsFit parts) rest
  pub placed : AllByRecursion (IsPlacedEdge s) rest

pub knowing_step : (s : SpanOf) (all rest later : List EdgePlaced) (g : EdgePlaced) (out out' : List (Timeline Tally)) (x : Timeline Tally) → rest ≡ g ∷ later → out' ≡ out ++ x ∷ [] → ((t : Ratio) → has s t ≡ true → timeline_at x t ≡ edge_tally (signs_on s t g))
    → ((parts : Ratio → List Ratio) → AllFit (parts s.lower) → AllFit (parts s.upper) → CutsFit parts g → ChangesFit parts x.changes.items) → IsKnowing s all rest out → IsKnowing s all later out'
knowing_step s all rest later g out out' x e n v w m = record {
  values = λ t i.
      ap (λ z. map (λ y. timeline_at y t) z ++ map (λ k. edge_tally (signs_on s t k)) later) n
      ∙ ap (λ z. z ++ map (λ k. edge_tally (signs_on s t k)) later) (map_joined (λ y. timeline_at y t) out (x ∷ []))
      ∙ append_assoc (map (λ y. timeline_at y t) out) (timeline_at x t ∷ []) (map (λ k. edge_tally (signs_on s t k)) later)
      ∙ ap (λ z. map (λ y. timeline_at y t) out ++ z ∷ map (λ k. edge_tally (signs_on s t k)) later) (v t i)
      ∙ ap (λ z. map (λ y. timeline_at y t) out ++ map (λ k. edge_tally (signs_on s t k)) z) (sym e)
      ∙ m.values t i;
  fit = λ parts a b k.
      let f = m.fit parts a b k in
      let l = subst (AllByRecursion (CutsFit parts)) e f.1 in
      (subst (AllByRecursion (λ (y : Timeline Tally). ChangesFit parts y.changes.items)) (sym n) (each_more (λ (y : Timeline Tally). ChangesFit parts y.changes.items) out x f.0 (w parts a b l.0)), l.1);
  placed = (subst (AllByRecursion (IsPlacedEdge s)) e m.placed).1;
}

pub knowing_fit : (s : SpanOf) (all rest : List EdgePlaced) (out : List (Timeline Tally)) → IsKnowing s all rest out → (parts : Ratio → List Ratio) → AllFit (parts s.lower) → AllFit (parts s.upper) → AllByRecursion (CutsFit parts) all → AllByRecursion (λ (x : Timeline Tally). ChangesFit parts x.changes.items) out
knowing_fit s all rest out m parts a b k = (m.fit parts a b k).0

-- ---- the tally decides membership
known_on : (ss : List EdgeSigns) → (tally_all (map edge_tally ss)).on ≡ some_on ss
known_on [] = refl
known_on (s ∷ ss) = ap (λ b. is_on s || b) (known_on ss)

known_odd : (ss : List EdgeSigns) → (tally_all (map edge_tally ss)).odd ≡ odd_cross ss
known_odd [] = refl
known_odd (s ∷ ss) = ap (λ b. is_one_alone (crosses s) b) (known_odd ss)

pub known_inside : (ss : List EdgeSigns) → ((tally_all (map edge_tally ss)).on || (tally_all (map edge_tally ss)).odd) ≡ inside_by ss
known_inside ss = ap (λ b. b || (tally_all (map edge_tally ss)).odd) (known_on ss) ∙ ap (λ b. some_on ss || b) (known_odd ss)
