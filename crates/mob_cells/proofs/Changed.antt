-- The instants between neighbouring cells at which a test changes.
use Rattle.std.specs.Prelude.{◌≡◌, Bool, Contains, true, false, cond, ◌&&◌, ◌||◌, not, List, [], ◌∷◌, ◌++◌, refl}
use Rattle.std.{specs.List.{AllByRecursion}, proofs.Common.{arith, ap, inl, inr, sym, subst, true≢false, ◌∙◌}, proofs.lemmas.List.Elements.{Contains-append_cases, Contains-append_right}}
use Rattle.mob_list.{proofs.Each.{each_on}, proofs.Entries.{first_in, none_in, which_in}}
use Rattle.mob_ratio.{specs.Ratio.{Ratio}, specs.Order.{before, up_to, greater, smaller}}
use Rattle.mob_ratio.proofs.Order.{before-back, before-neither, before-self, before-trans, before-up_to, before-weak, between, up_to-before, up_to-self}
use Rattle.mob_span.{specs.Span.{SpanOf, has, has_instant}, specs.Flags.{same_bool, same_bool_exact}, specs.Neighbours.{Meets, is_inside}, specs.Sets.{in_some}, proofs.Insides.{inner_has}}
use Rattle.mob_cells.{specs.declared.linear.Ends.{Ends}, specs.Cells.{IsCut, instant_span, inner, until, beyond, is_cell, is_cell_of, split_at, split_all, start_cells}, specs.Roots.{roots}}
use Rattle.mob_cells.{specs.Changes.{IsConstantOn, IsSteadyAround, cells_of, changes, changes_behind, halfway}, proofs.Changing.{AreMeeting, all_are, cells_cover, cells_meeting}, proofs.Splits.{start_are}, proofs.Walking.{only_cuts}}
use Rattle.std.proofs.lemmas.Bool.{and_parts}

-- ---- an instant of a span near one of its ends

pub greater_before : (x y z : Ratio) → before x z ≡ true → before y z ≡ true → (b : Bool) → before x y ≡ b → (before (cond b y x) z ≡ true) × (up_to x (cond b y x) ≡ true) × (up_to y (cond b y x) ≡ true)
greater_before x y z h k true e = (k, before-weak x y e, up_to-self y)
greater_before x y z h k false e = (h, up_to-self x, rw e refl)

pub before_smaller : (x y z : Ratio) → before z x ≡ true → before z y ≡ true → (b : Bool) → before y x ≡ b → (before z (cond b y x) ≡ true) × (up_to (cond b y x) x ≡ true) × (up_to (cond b y x) y ≡ true)
before_smaller x y z h k true e = (k, before-weak y x e, up_to-self y)
before_smaller x y z h k false e = (h, up_to-self x, rw e refl)

one_instant : (c : SpanOf) → has_instant c ≡ true → before c.lower c.upper ≡ false → (c.lower ≡ c.upper) × (has c c.lower ≡ true) × (has c c.upper ≡ true)
one_instant c h e =
    let same : c.lower ≡ c.upper = before-neither c.lower c.upper e (grind (arith, h, e)) in
    let low : has c c.lower ≡ true = grind (arith, h, e, before-self c.lower) in
    (same, low, subst (λ z. has c z ≡ true) same low)

near_upper : (c : SpanOf) (a : Ratio) → has_instant c ≡ true → before a c.upper ≡ true → (b : Bool) → before c.lower c.upper ≡ b → (u : Ratio) × (has c u ≡ true) × (before a u ≡ true) × (up_to u c.upper ≡ true)
near_upper c a h k true e =
    let m : Ratio = greater a c.lower in
    let g = greater_before a c.lower c.upper k e (before a c.lower) refl in
    let w = between m c.upper g.0 in
    (w.0, inner_has c w.0 (up_to-before c.lower m w.0 g.2 w.1) w.2, up_to-before a m w.0 g.1 w.1, before-weak w.0 c.upper w.2)
near_upper c a h k false e = (c.upper, (one_instant c h e).2, k, up_to-self c.upper)

near_lower : (c : SpanOf) (a : Ratio) → has_instant c ≡ true → before c.lower a ≡ true → (b : Bool) → before c.lower c.upper ≡ b → (u : Ratio) × (has c u ≡ true) × (before u a ≡ true) × (up_to c.lower u ≡ true)
near_lower c a h k true e =
    let m : Ratio = smaller a c.upper in
    let g = before_smaller a c.upper c.lower k e (before c.upper a) refl in
    let w = between c.lower m g.0 in
    (w.0, inner_has c w.0 w.1 (before-up_to w.0 m c.upper w.2 g.2), before-up_to w.0 m a w.2 g.1, before-weak c.lower w.0 w.1)
near_lower c a h k false e = (c.lower, (one_instant c h e).1, k, up_to-self c.lower)

-- ---- a test is not the same around an instant at which it changes

joint_same : (meets : Ratio → Bool) (s c d : SpanOf) (t : Ratio) → Meets c d → has_instant c ≡ true → has_instant d ≡ true → IsConstantOn meets c → IsConstantOn meets d → ((u : Ratio) → has c u ≡ true → has s u ≡ true) → ((u : Ratio) → has d u ≡ true → has s u ≡ true) → c.upper ≡ t → IsSteadyAround meets s t → meets (halfway c) ≡ meets (halfway d)
joint_same meets s c d t m ic id hc hd sc sd e st =
    let f : before st.from c.upper ≡ true = subst (λ z. before st.from z ≡ true) (sym e) st.earlier in
    let g : before d.lower st.to ≡ true = subst (λ z. before z st.to ≡ true) (sym e ∙ m.at_one) st.later in
    let u = near_upper c st.from ic f (before c.lower c.upper) refl in
    let v = near_lower d st.to id g (before d.lower d.upper) refl in
    let low : before u.0 st.to ≡ true = up_to-before u.0 c.upper st.to u.3 (subst (λ z. before z st.to ≡ true) (sym e) st.later) in
    let high : before st.from v.0 ≡ true = before-up_to st.from d.lower v.0 (subst (λ z. before st.from z ≡ true) (sym e ∙ m.at_one) st.earlier) v.3 in
    sym (hc u.0 u.1) ∙ st.same u.0 (sc u.0 u.1) u.2 low ∙ sym (st.same v.0 (sd v.0 v.1) high v.2) ∙ hd v.0 v.1

or_here : (a b : Bool) → a ≡ true → (a || b) ≡ true
or_here a b h = grind arith

or_there : (a b : Bool) → b ≡ true → (a || b) ≡ true
or_there a b h = grind arith

never : (meets : Ratio → Bool) (s c : SpanOf) (cells : List SpanOf) (t : Ratio) → AreMeeting (c ∷ cells) → IsConstantOn meets c → AllByRecursion (IsConstantOn meets) cells → ((u : Ratio) → in_some (c ∷ cells) u ≡ true → has s u ≡ true) → Contains (changes_behind meets c cells) t → IsSteadyAround meets s t → ⊥
never meets s c [] t m hc h i k st = none_in t k
never meets s c (d ∷ cells) t m hc h i k st =
    elim (Contains-append_cases (cond (same_bool (meets (halfway c)) (meets (halfway d))) [] (c.upper ∷ [])) (changes_behind meets d cells) t k) [
      | inl f ↦ here (same_bool (meets (halfway c)) (meets (halfway d))) refl f
      | inr f ↦ never meets s d cells t m.2 h.0 h.1 (λ u x. i u (or_there (has c u) (in_some (d ∷ cells) u) x)) f st
    ]
  where
    here : (b : Bool) → same_bool (meets (halfway c)) (meets (halfway d)) ≡ b → Contains (cond b [] (c.upper ∷ [])) t → ⊥
    here true e f = none_in t f
    here false e f =
        elim (which_in c.upper [] t f) [
          | inl q ↦ true≢false (sym ((same_bool_exact (meets (halfway c)) (meets (halfway d))).1
              (joint_same meets s c d t m.1 m.0 m.2.0 hc h.0 (λ u x. i u (or_here (has c u) (in_some (d ∷ cells) u) x)) (λ u x. i u (or_there (has c u) (in_some (d ∷ cells) u) (or_here (has d u) (in_some cells u) x))) q st)) ∙ e)
          | inr q ↦ none_in t q
        ]

-- ---- at every other instant it is the same around it

long_cell : (c : SpanOf) (t : Ratio) → is_cell c ≡ true → before c.lower c.upper ≡ true → has c t ≡ true → (before c.lower t ≡ true) × (before t c.upper ≡ true)
long_cell c t k e h = (grind (arith, k, e, h, before-back c.lower c.upper), grind (arith, k, e, h, before-back c.lower c.upper))

long_flags : (c : SpanOf) → is_cell c ≡ true → before c.lower c.upper ≡ true → (c.lower_inc ≡ false) × (c.upper_inc ≡ false)
long_flags c k e = (grind (arith, k, e, before-back c.lower c.upper), grind (arith, k, e, before-back c.lower c.upper))

short_cell : (c : SpanOf) (t : Ratio) → is_cell c ≡ true → before c.lower c.upper ≡ false → has c t ≡ true → (c.lower ≡ t) × (c.upper ≡ t) × (c.lower_inc ≡ true) × (c.upper_inc ≡ true)
short_cell c t k e h =
    let same : c.lower ≡ c.upper = before-neither c.lower c.upper e (grind (arith, k, e)) in
    let low : before t c.lower ≡ false = grind (arith, h, before-back c.lower t) in
    let high : before c.upper t ≡ false = grind (arith, h, before-back t c.upper) in
    let at : c.lower ≡ t = before-neither c.lower t (subst (λ z. before z t ≡ false) (sym same) high) low in
    (at, sym same ∙ at, grind (arith, k, e), grind (arith, k, e))

-- a cell beside one of one instant is long
long_before : (p c : SpanOf) → is_cell p ≡ true → Meets p c → c.lower_inc ≡ true → before p.lower p.upper ≡ true
long_before p c k m e = let f : p.upper_inc ≡ false = m.in_one ∙ ap not e in grind (arith, k, f)

long_after : (c d : SpanOf) → is_cell d ≡ true → Meets c d → c.upper_inc ≡ true → before d.lower d.upper ≡ true
long_after c d k m e = let f : not d.lower_inc ≡ true = sym m.in_one ∙ e in grind (arith, k, f)

steady_inside : (meets : Ratio → Bool) (s c : SpanOf) (t : Ratio) → is_cell c ≡ true → before c.lower c.upper ≡ true → has c t ≡ true → IsConstantOn meets c → IsSteadyAround meets s t
steady_inside meets s c t k e i h = let w = long_cell c t k e i in record { from = c.lower; to = c.upper; earlier = w.0; later = w.1; same = λ u x a b. h u (inner_has c u a b) ∙ sym (h t i) }

steady_at : (meets : Ratio → Bool) (s p c d : SpanOf) (t : Ratio) → p.upper ≡ t → d.lower ≡ t → has c t ≡ true → before p.lower p.upper ≡ true → before d.lower d.upper ≡ true → IsConstantOn meets p → IsConstantOn meets c → IsConstantOn meets d → meets (halfway p) ≡ meets (halfway c) → meets (halfway c) ≡ meets (halfway d) → IsSteadyAround meets s t
steady_at meets s p c d t ep ed ic lp ld hp hc hd pc cd = record {
  from = p.lower;
  to = d.upper;
  earlier = subst (λ z. before p.lower z ≡ true) ep lp;
  later = subst (λ z. before z d.upper ≡ true) ed ld;
  same = λ u x a b. by u a b (before u t) refl (before t u) refl;
}
  where
    by : (u : Ratio) → before p.lower u ≡ true → before u d.upper ≡ true → (x : Bool) → before u t ≡ x → (y : Bool) → before t u ≡ y → meets u ≡ meets t
    by u a b true e y f = hp u (inner_has p u a (subst (λ z. before u z ≡ true) (sym ep) e)) ∙ pc ∙ sym (hc t ic)
    by u a b false e true f = hd u (inner_has d u (subst (λ z. before z u ≡ true) (sym ed) f) b) ∙ sym cd ∙ sym (hc t ic)
    by u a b false e false f = ap meets (before-neither u t e f)

-- the last of the cells, the first of which is c, ends at u
abbrev EndsFrom : Ratio → SpanOf → List SpanOf → Type 0
EndsFrom u c [] = c.upper ≡ u
EndsFrom u c (d ∷ cells) = EndsFrom u d cells

abbrev EndsAt : Ratio → List SpanOf → Type 0
EndsAt u [] = Unit {0}
EndsAt u (c ∷ cells) = EndsFrom u c cells

-- the first of the cells begins at l
abbrev BeginsAt : Ratio → List SpanOf → Type 0
BeginsAt l [] = Unit {0}
BeginsAt l (c ∷ cells) = c.lower ≡ l

ends_behind : (u : Ratio) (c : SpanOf) (cells : List SpanOf) → EndsFrom u c cells → EndsAt u cells
ends_behind u c [] h = tt
ends_behind u c (d ∷ cells) h = h

always : (meets : Ratio → Bool) (s p : SpanOf) (cells : List SpanOf) (t : Ratio) → is_cell p ≡ true → AllByRecursion (λ c. is_cell c ≡ true) cells → AreMeeting (p ∷ cells) → IsConstantOn meets p → AllByRecursion (IsConstantOn meets) cells → EndsAt s.upper cells → before t s.upper ≡ true → in_some cells t ≡ true → (Contains (changes_behind meets p cells) t → ⊥) → IsSteadyAround meets s t
always meets s p [] t kp k m hp h e b i n = absurd (true≢false (sym i))
always meets s p (c ∷ cells) t kp k m hp h e b i n =
    by (has c t) refl i (λ j. always meets s c cells t k.0 k.1 m.2 h.0 h.1 (ends_behind s.upper c cells e) b j (λ x. n (Contains-append_right (cond (same_bool (meets (halfway p)) (meets (halfway c))) [] (p.upper ∷ [])) (changes_behind meets c cells) t x)))
  where
    first_same : p.upper ≡ t → (x : Bool) → same_bool (meets (halfway p)) (meets (halfway c)) ≡ x → (Contains (cond x [] (p.upper ∷ []) ++ changes_behind meets c cells) t → ⊥) → meets (halfway p) ≡ meets (halfway c)
    first_same q true f g = (same_bool_exact (meets (halfway p)) (meets (halfway c))).0 f
    first_same q false f g = absurd (g (subst (λ z. Contains (p.upper ∷ changes_behind meets c cells) z) q (first_in p.upper (changes_behind meets c cells))))

    next_same : (d : SpanOf) (rest : List SpanOf) → c.upper ≡ t → (x : Bool) → same_bool (meets (halfway c)) (meets (halfway d)) ≡ x → (Contains (cond x [] (c.upper ∷ []) ++ changes_behind meets d rest) t → ⊥) → meets (halfway c) ≡ meets (halfway d)
    next_same d rest q true f g = (same_bool_exact (meets (halfway c)) (meets (halfway d))).0 f
    next_same d rest q false f g = absurd (g (subst (λ z. Contains (c.upper ∷ changes_behind meets d rest) z) q (first_in c.upper (changes_behind meets d rest))))

    at_one : (rest : List SpanOf) → has c t ≡ true → before c.lower c.upper ≡ false → AllByRecursion (λ c. is_cell c ≡ true) rest → AreMeeting (c ∷ rest) → AllByRecursion (IsConstantOn meets) rest → EndsFrom s.upper c rest → (Contains (cond (same_bool (meets (halfway p)) (meets (halfway c))) [] (p.upper ∷ []) ++ changes_behind meets c rest) t → ⊥) → meets (halfway p) ≡ meets (halfway c) → IsSteadyAround meets s t
    at_one [] ic f kr mr hr er g pc = let q = short_cell c t k.0 f ic in absurd (true≢false (sym (subst (λ z. before t z ≡ true) (sym er ∙ q.1) b) ∙ before-self t))
    at_one (d ∷ rest) ic f kr mr hr er g pc =
        let q = short_cell c t k.0 f ic in
        let cd = next_same d rest q.1 (same_bool (meets (halfway c)) (meets (halfway d))) refl (λ x. g (Contains-append_right (cond (same_bool (meets (halfway p)) (meets (halfway c))) [] (p.upper ∷ [])) (changes_behind meets c (d ∷ rest)) t x)) in
        steady_at meets s p c d t (m.1.at_one ∙ q.0) (sym mr.1.at_one ∙ q.1) ic (long_before p c kp m.1 q.2) (long_after c d kr.0 mr.1 q.3) hp h.0 hr.0 pc cd

    short : has c t ≡ true → before c.lower c.upper ≡ false → IsSteadyAround meets s t
    short ic f =
        let q = short_cell c t k.0 f ic in
        at_one cells ic f k.1 m.2 h.1 e n (first_same (m.1.at_one ∙ q.0) (same_bool (meets (halfway p)) (meets (halfway c))) refl n)

    whole : has c t ≡ true → (x : Bool) → before c.lower c.upper ≡ x → IsSteadyAround meets s t
    whole ic true f = steady_inside meets s c t k.0 f ic h.0
    whole ic false f = short ic f

    by : (x : Bool) → has c t ≡ x → (x || in_some cells t) ≡ true → (in_some cells t ≡ true → IsSteadyAround meets s t) → IsSteadyAround meets s t
    by true f j rest = whole f (before c.lower c.upper) refl
    by false f j rest = rest j

from_first : (meets : Ratio → Bool) (s : SpanOf) (cells : List SpanOf) (t : Ratio) → AllByRecursion (λ c. is_cell c ≡ true) cells → AreMeeting cells → AllByRecursion (IsConstantOn meets) cells → BeginsAt s.lower cells → EndsAt s.upper cells → before s.lower t ≡ true → before t s.upper ≡ true → in_some cells t ≡ true → (Contains (changes meets cells) t → ⊥) → IsSteadyAround meets s t
from_first meets s [] t k m h l e a b i n = absurd (true≢false (sym i))
from_first meets s (c ∷ cells) t k m h l e a b i n = by (has c t) refl i
  where
    whole : has c t ≡ true → (x : Bool) → before c.lower c.upper ≡ x → IsSteadyAround meets s t
    whole ic true f = steady_inside meets s c t k.0 f ic h.0
    whole ic false f = let q = short_cell c t k.0 f ic in absurd (true≢false (sym (subst (λ z. before z t ≡ true) (sym l ∙ q.0) a) ∙ before-self t))

    by : (x : Bool) → has c t ≡ x → (x || in_some cells t) ≡ true → IsSteadyAround meets s t
    by true f j = whole f (before c.lower c.upper) refl
    by false f j = always meets s c cells t k.0 k.1 m h.0 h.1 (ends_behind s.upper c cells e) b j n

-- ---- where the cells begin and end

begin_by : (l : Ratio) (c : SpanOf) (r : Ratio) (rest : List SpanOf) → c.lower ≡ l → (b : Bool) → BeginsAt l (cond b (until c r ∷ instant_span r ∷ beyond c r ∷ []) (c ∷ []) ++ rest)
begin_by l c r rest h true = h
begin_by l c r rest h false = h

begin_split : (l r : Ratio) (cells : List SpanOf) → BeginsAt l cells → BeginsAt l (split_at r cells)
begin_split l r [] h = tt
begin_split l r (c ∷ cells) h = begin_by l c r (split_at r cells) h (before c.lower r && before r c.upper)

begin_all : (l : Ratio) (cuts : List Ratio) (cells : List SpanOf) → BeginsAt l cells → BeginsAt l (split_all cuts cells)
begin_all l [] cells h = h
begin_all l (r ∷ cuts) cells h = begin_all l cuts (split_at r cells) (begin_split l r cells h)

begin_start : (s : SpanOf) (b l u : Bool) → BeginsAt s.lower (cond b (cond l (instant_span s.lower ∷ []) [] ++ inner s ∷ cond u (instant_span s.upper ∷ []) []) (s ∷ []))
begin_start s false l u = refl
begin_start s true true u = refl
begin_start s true false u = refl

-- the end of one cell, if it is the last, and of the others
end_by : (u : Ratio) (c : SpanOf) (r : Ratio) (rest : List SpanOf) → EndsFrom u c rest → (b : Bool) → EndsAt u (cond b (until c r ∷ instant_span r ∷ beyond c r ∷ []) (c ∷ []) ++ rest)
end_by u c r [] h true = h
end_by u c r (d ∷ rest) h true = h
end_by u c r rest h false = h

-- the cells cut at r are behind c
end_first : (u : Ratio) (c d : SpanOf) (r : Ratio) (rest : List SpanOf) (b : Bool) → EndsAt u (cond b (until d r ∷ instant_span r ∷ beyond d r ∷ []) (d ∷ []) ++ rest) → EndsFrom u c (cond b (until d r ∷ instant_span r ∷ beyond d r ∷ []) (d ∷ []) ++ rest)
end_first u c d r rest true h = h
end_first u c d r rest false h = h

end_split : (u r : Ratio) (c : SpanOf) (cells : List SpanOf) → EndsFrom u c cells → EndsAt u (split_at r (c ∷ cells))
end_split u r c [] h = end_by u c r [] h (before c.lower r && before r c.upper)
end_split u r c (d ∷ cells) h = end_by u c r (split_at r (d ∷ cells)) (end_first u c d r (split_at r cells) (before d.lower r && before r d.upper) (end_split u r d cells h)) (before c.lower r && before r c.upper)

end_at : (u r : Ratio) (cells : List SpanOf) → EndsAt u cells → EndsAt u (split_at r cells)
end_at u r [] h = tt
end_at u r (c ∷ cells) h = end_split u r c cells h

end_all : (u : Ratio) (cuts : List Ratio) (cells : List SpanOf) → EndsAt u cells → EndsAt u (split_all cuts cells)
end_all u [] cells h = h
end_all u (r ∷ cuts) cells h = end_all u cuts (split_at r cells) (end_at u r cells h)

end_start : (s : SpanOf) (b l u : Bool) → EndsAt s.upper (cond b (cond l (instant_span s.lower ∷ []) [] ++ inner s ∷ cond u (instant_span s.upper ∷ []) []) (s ∷ []))
end_start s false l u = refl
end_start s true true true = refl
end_start s true true false = refl
end_start s true false true = refl
end_start s true false false = refl

-- ---- both directions

whole_span : (s : SpanOf) (t : Ratio) → before s.lower t ≡ true → before t s.upper ≡ true → has_instant s ≡ true
whole_span s t a b = rw (before-trans s.lower t s.upper a b) refl

never_at : (meets : Ratio → Bool) (s : SpanOf) (cells : List SpanOf) (t : Ratio) → AreMeeting cells → AllByRecursion (IsConstantOn meets) cells → ((u : Ratio) → in_some cells u ≡ has s u) → Contains (changes meets cells) t → IsSteadyAround meets s t → ⊥
never_at meets s [] t m h i k st = none_in t k
never_at meets s (c ∷ cells) t m h i k st = never meets s c cells t m h.0 h.1 (λ u x. sym (i u) ∙ x) k st

pub changes_are : (s : SpanOf) (functions : List Ends) (meets : Ratio → Bool) → AllByRecursion (IsConstantOn meets) (cells_of s functions)
    → (t : Ratio) → before s.lower t ≡ true → before t s.upper ≡ true → (Contains (changes meets (cells_of s functions)) t → IsSteadyAround meets s t → ⊥) × ((Contains (changes meets (cells_of s functions)) t → ⊥) → IsSteadyAround meets s t)
changes_are s functions meets h t a b =
    let i = whole_span s t a b in
    let m = cells_meeting s functions i in
    let are = each_on (λ c. is_cell_of s c ≡ true) (λ c. is_cell c ≡ true) (λ c k. (and_parts (is_cell c) (is_inside s c) k).0) (cells_of s functions) (all_are s (roots s functions) (start_cells s) (start_are s i)).are in
    let l = begin_all s.lower (roots s functions) (start_cells s) (begin_start s (before s.lower s.upper) s.lower_inc s.upper_inc) in
    let e = end_all s.upper (roots s functions) (start_cells s) (end_start s (before s.lower s.upper) s.lower_inc s.upper_inc) in
    (λ k st. never_at meets s (cells_of s functions) t m h (cells_cover s functions i) k st, λ n. from_first meets s (cells_of s functions) t are m h l e a b (cells_cover s functions i t ∙ inner_has s t a b) n)

-- a test that is the same on an interval does not change inside it
pub no_change : (s : SpanOf) (functions : List Ends) (meets : Ratio → Bool) → AllByRecursion (IsConstantOn meets) (cells_of s functions)
    → (a b t : Ratio) → before s.lower t ≡ true → before t s.upper ≡ true → before a t ≡ true → before t b ≡ true → ((u : Ratio) → has s u ≡ true → before a u ≡ true → before u b ≡ true → meets u ≡ meets t) → Contains (changes meets (cells_of s functions)) t → ⊥
no_change s functions meets h a b t l u x y same k = (changes_are s functions meets h t l u).0 k (record { from = a; to = b; earlier = x; later = y; same = same })

-- ---- each is an end of a cell

changed_at : (P : Ratio → Type 0) (meets : Ratio → Bool) (c : SpanOf) (cells : List SpanOf) (t : Ratio) → P c.upper → AllByRecursion (λ d. P d.lower × P d.upper) cells → Contains (changes_behind meets c cells) t → P t
changed_at P meets c [] t p h k = absurd (none_in t k)
changed_at P meets c (d ∷ cells) t p h k =
    elim (Contains-append_cases (cond (same_bool (meets (halfway c)) (meets (halfway d))) [] (c.upper ∷ [])) (changes_behind meets d cells) t k) [
      | inl f ↦ here (same_bool (meets (halfway c)) (meets (halfway d))) f
      | inr f ↦ changed_at P meets d cells t h.0.1 h.1 f
    ]
  where
    here : (b : Bool) → Contains (cond b [] (c.upper ∷ [])) t → P t
    here true f = absurd (none_in t f)
    here false f = elim (which_in c.upper [] t f) [ inl e ↦ subst P e p | inr g ↦ absurd (none_in t g) ]

changed_in : (P : Ratio → Type 0) (meets : Ratio → Bool) (cells : List SpanOf) (t : Ratio) → AllByRecursion (λ d. P d.lower × P d.upper) cells → Contains (changes meets cells) t → P t
changed_in P meets [] t h k = absurd (none_in t k)
changed_in P meets (c ∷ cells) t h k = changed_at P meets c cells t h.0.1 h.1 k

pub changes_are_cuts : (s : SpanOf) (functions : List Ends) (meets : Ratio → Bool) (t : Ratio) → Contains (changes meets (cells_of s functions)) t → IsCut s (roots s functions) t
changes_are_cuts s functions meets t k = changed_in (IsCut s (roots s functions)) meets (cells_of s functions) t (only_cuts s (roots s functions) (roots s functions) (λ r i. i)) k
