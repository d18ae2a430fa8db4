-- Counting edges.
use Rattle.std.{specs.Prelude.{◌≡◌, refl, Bool, true, false, ◌||◌, ℕ, zero, suc, ◌-◌, ◌<◌, ◌≤◌, List, [], ◌∷◌, ◌++◌, length, get_or, Vec}, specs.declared.alloc.Global.{Global}}
use Rattle.std.{proofs.Common.{ap, sym, ◌∙◌, subst, arith, drop, ◌+◌, add-one, drop-cons}, proofs.Math.Bool.{or_assoc}}
use Rattle.mob_frac.{specs.Formula.{AllFit}, proofs.Fitting.{all_both, all_first, all_second}}
use Rattle.mob_plane.{specs.Turns.{turn_parts, turns_parts}, specs.Rings.{edges, all_edges, rings_of}, specs.Membership.{is_one_alone, inside}}
use Rattle.mob_plane.{specs.EdgeWise.{with_edge, counted, none_yet, inside_by, some_on, odd_cross, is_on, crosses, signs_to, signs_at}, specs.declared.point.Point.{Point}}
use Rattle.mob_plane.{specs.declared.edges.EdgeSigns.{EdgeSigns}, specs.declared.edges.Tally.{Tally}, proofs.BySigns.{inside_signs}}

pub alone_assoc : (a b c : Bool) → is_one_alone (is_one_alone a b) c ≡ is_one_alone a (is_one_alone b c)
alone_assoc true true true = refl
alone_assoc true true false = refl
alone_assoc true false c = refl
alone_assoc false b c = refl

counted_on : (t : Tally) (ss : List EdgeSigns) → (counted t ss).on ≡ (t.on || some_on ss)
counted_on t [] = grind arith
counted_on t (s ∷ ss) = counted_on (with_edge t s) ss ∙ or_assoc t.on (is_on s) (some_on ss)

alone_none : (a : Bool) → a ≡ is_one_alone a false
alone_none true = refl
alone_none false = refl

counted_odd : (t : Tally) (ss : List EdgeSigns) → (counted t ss).odd ≡ is_one_alone t.odd (odd_cross ss)
counted_odd t [] = alone_none t.odd
counted_odd t (s ∷ ss) = counted_odd (with_edge t s) ss ∙ alone_assoc t.odd (crosses s) (odd_cross ss)

pub counted_all : (ss : List EdgeSigns) → ((counted none_yet ss).on || (counted none_yet ss).odd) ≡ inside_by ss
counted_all ss = ap (λ b. b || (counted none_yet ss).odd) (counted_on none_yet ss) ∙ ap (λ b. some_on ss || b) (counted_odd none_yet ss)

pub counted_both : (t : Tally) (ss rs : List EdgeSigns) → counted t (ss ++ rs) ≡ counted (counted t ss) rs
counted_both t [] rs = refl
counted_both t (s ∷ ss) rs = counted_both (with_edge t s) ss rs

-- the edges before `rest` are counted, and their parts fit
pub record IsCounting (p : Point) (all rest : List (Point × Point)) (first now : Tally) : Type 0 where
  pub told : counted now (signs_to rest p) ≡ counted first (signs_to all p)
  pub fit : AllFit (turns_parts p rest) → AllFit (turns_parts p all)
  pub fail : AllFit (turns_parts p all) → AllFit (turns_parts p rest)

pub counting_step : (p : Point) (all rest later : List (Point × Point)) (a b : Point) (first now next : Tally) → rest ≡ (a, b) ∷ later → next ≡ with_edge now (signs_at p a b) → AllFit (turn_parts a b p) → IsCounting p all rest first now → IsCounting p all later first next
counting_step p all rest later a b first now next e n f m = rw n (record {
  told = subst (λ r. counted now (signs_to r p) ≡ counted first (signs_to all p)) e m.told;
  fit = λ h. m.fit (subst (λ r. AllFit (turns_parts p r)) (sym e) (all_both (turn_parts a b p) (turns_parts p later) f h));
  fail = λ h. all_second (turn_parts a b p) (turns_parts p later) (subst (λ r. AllFit (turns_parts p r)) e (m.fail h));
})

pub counting_ends : (p : Point) (all rest : List (Point × Point)) (first now : Tally) → rest ≡ [] → IsCounting p all rest first now → (now ≡ counted first (signs_to all p)) × AllFit (turns_parts p all)
counting_ends p all rest first now e m = (subst (λ r. counted now (signs_to r p) ≡ counted first (signs_to all p)) e m.told, m.fit (subst (λ r. AllFit (turns_parts p r)) (sym e) tt))

-- ---- indexes
edges_end_at : (ring : List Point) (j : ℕ) → length ring ≤ suc j → edges (drop j ring) ≡ []
edges_end_at [] zero h = refl
edges_end_at [] (suc j) h = refl
edges_end_at (a ∷ []) zero h = refl
edges_end_at (a ∷ b ∷ ring) zero h = absurd (omega arith)
edges_end_at (a ∷ ring) (suc j) h = edges_end_at ring j (omega arith)

pub edges_end : (ring : List Point) (i : ℕ) → 0 < i → length ring ≤ i → edges (drop (i - 1) ring) ≡ []
edges_end ring zero p h = absurd (omega arith)
edges_end ring (suc j) p h = let e : suc j - 1 ≡ j = omega arith in rw e (edges_end_at ring j h)

edges_at : (ring : List Point) (j : ℕ) (a b : Point) → suc j < length ring → a ≡ get_or ring j a → b ≡ get_or ring (suc j) b → edges (drop j ring) ≡ (a, b) ∷ edges (drop (suc j) ring)
edges_at [] j a b h p q = absurd (omega arith)
edges_at (x ∷ []) zero a b h p q = absurd (omega arith)
edges_at (x ∷ y ∷ ring) zero a b h p q = rw (p, q) refl
edges_at (x ∷ ring) (suc j) a b h p q = edges_at ring j a b (omega arith) p q

pub edges_read : (ring : List Point) (i : ℕ) (a b : Point) → 0 < i → i < length ring → a ≡ get_or ring (i - 1) a → b ≡ get_or ring i b → edges (drop (i - 1) ring) ≡ (a, b) ∷ edges (drop i ring)
edges_read ring zero a b h k p q = absurd (omega arith)
edges_read ring (suc j) a b h k p q = let e : suc j - 1 ≡ j = omega arith in rw e (edges_at ring j a b k (rw e at p) q)

-- ---- rings
signs_both : (xs ys : List (Point × Point)) (p : Point) → signs_to (xs ++ ys) p ≡ signs_to xs p ++ signs_to ys p
signs_both [] ys p = refl
signs_both (x ∷ xs) ys p = ap (λ z. signs_at p x.0 x.1 ∷ z) (signs_both xs ys p)

parts_to : (p : Point) (xs ys : List (Point × Point)) → AllFit (turns_parts p xs) → AllFit (turns_parts p ys) → AllFit (turns_parts p (xs ++ ys))
parts_to p [] ys h k = k
parts_to p (x ∷ xs) ys h k = all_both (turn_parts x.0 x.1 p) (turns_parts p (xs ++ ys)) (all_first (turn_parts x.0 x.1 p) (turns_parts p xs) h) (parts_to p xs ys (all_second (turn_parts x.0 x.1 p) (turns_parts p xs) h) k)

parts_first : (p : Point) (xs ys : List (Point × Point)) → AllFit (turns_parts p (xs ++ ys)) → AllFit (turns_parts p xs)
parts_first p [] ys h = tt
parts_first p (x ∷ xs) ys h = all_both (turn_parts x.0 x.1 p) (turns_parts p xs) (all_first (turn_parts x.0 x.1 p) (turns_parts p (xs ++ ys)) h) (parts_first p xs ys (all_second (turn_parts x.0 x.1 p) (turns_parts p (xs ++ ys)) h))

parts_second : (p : Point) (xs ys : List (Point × Point)) → AllFit (turns_parts p (xs ++ ys)) → AllFit (turns_parts p ys)
parts_second p [] ys h = h
parts_second p (x ∷ xs) ys h = parts_second p xs ys (all_second (turn_parts x.0 x.1 p) (turns_parts p (xs ++ ys)) h)

pub counting_ring : (p : Point) (all rest ring later : List (Point × Point)) (first now next : Tally) → rest ≡ ring ++ later → next ≡ counted now (signs_to ring p) → AllFit (turns_parts p ring) → IsCounting p all rest first now → IsCounting p all later first next
counting_ring p all rest ring later first now next e n f m = rw n (record {
  told = sym (counted_both now (signs_to ring p) (signs_to later p)) ∙ ap (counted now) (sym (signs_both ring later p)) ∙ subst (λ r. counted now (signs_to r p) ≡ counted first (signs_to all p)) e m.told;
  fit = λ h. m.fit (subst (λ r. AllFit (turns_parts p r)) (sym e) (parts_to p ring later f h));
  fail = λ h. parts_second p ring later (subst (λ r. AllFit (turns_parts p r)) e (m.fail h));
})

pub counting_ring_fails : (p : Point) (all rest ring later : List (Point × Point)) (first now : Tally) → rest ≡ ring ++ later → (¬ AllFit (turns_parts p ring)) → IsCounting p all rest first now → ¬ AllFit (turns_parts p all)
counting_ring_fails p all rest ring later first now e n m h = n (parts_first p ring later (subst (λ r. AllFit (turns_parts p r)) e (m.fail h)))

pub rings_read : (rings : List (Vec Point Global)) (i : ℕ) (r : Vec Point Global) → i < length rings → r ≡ get_or rings i r → all_edges (rings_of (drop i rings)) ≡ edges r.items ++ all_edges (rings_of (drop (i + 1) rings))
rings_read rings i r h e =
    let next : drop i rings ≡ r ∷ drop (i + 1) rings = rw add-one (rw (drop-cons rings i r) (ap (λ q. q ∷ drop (suc i) rings) (sym e))) in
    ap (λ z. all_edges (rings_of z)) next

pub is_inside : (rings : List (List Point)) (p : Point) (t : Tally) (b : Bool) → b ≡ (t.on || t.odd) → (t ≡ counted none_yet (signs_to (all_edges rings) p)) × AllFit (turns_parts p (all_edges rings)) → (b ≡ inside rings p) × AllFit (turns_parts p (all_edges rings))
is_inside rings p t b e h = (e ∙ ap (λ (t : Tally). t.on || t.odd) h.0 ∙ counted_all (signs_to (all_edges rings) p) ∙ sym (inside_signs rings p), h.1)
