-- Readers of lists: one or more texts, with a text of another language between neighbours.
use Rattle.std.proofs.Common.{◌≡◌, ℕ, zero, suc, ◌+◌, ◌-◌, ◌<◌, ◌≤◌, List, [], ◌∷◌, ◌++◌, length, Option, Some, None, refl, sym, ap, subst, ◌∙◌, append_assoc, arith, length-append}
use Rattle.mob_language.{specs.Language.{Text, Language, Separated}, specs.Readers.{TextReader, ◌>>=◌, more_items, items_at, separated_at}, proofs.Exact.{Reads, Exact, bind_some, some_is}}
use Rattle.mob_language.proofs.Heads.{HasByte}

prepend : {A : Type 0} (l : Language A) (s : Language Unit) (v : A) (vs : List A) (x y z : Text) → l x v → s y tt → Separated l s z vs → Separated l s (x ++ (y ++ z)) (v ∷ vs)
prepend l s v [] x y z a b c = absurd c
prepend l s v (w ∷ ws) x y z a b c = (x, y, z, refl, a, b, c)

regroup4 : (a b c d : Text) → a ++ (b ++ (c ++ d)) ≡ (a ++ (b ++ c)) ++ d
regroup4 a b c d = sym (append_assoc a (b ++ c) d ∙ ap (λ (x : Text). a ++ x) (append_assoc b c d))

pub items_sound : {A : Type 0} {l : Language A} {s : Language Unit} {r : TextReader A} {t : TextReader Unit} {F G : Text → Type 0}
    → Exact l r F → Exact s t G → (most : ℕ) (text rest : Text) (vs : List A) → items_at most r t text ≡ Some (vs, rest) → Reads (Separated l s) text rest vs
unfolding items_at
items_sound p q zero text rest vs e = absurd cc
items_sound {A} {l} {s} {r} {t} p q (suc most) text rest vs e =
    let a = bind_some (r text) (λ x. more_items x.0 x.1 (t x.1) (items_at most r t)) (vs, rest) e in
    let first = p.sound text a.0.1 a.0.0 a.1 in
    further a.0.0 a.0.1 first (t a.0.1) refl a.2 (λ z w u h. items_sound p q most z w u h)
  where
    further : (v : A) (after : Text) → Reads l text after v → (o : Option (Unit × Text)) → t after ≡ o → more_items v after o (items_at most r t) ≡ Some (vs, rest) → ((z w : Text) (u : List A) → items_at most r t z ≡ Some (u, w) → Reads (Separated l s) z w u) → Reads (Separated l s) text rest vs
    further v after first None is e again =
        let same : ◌≡◌ {A = List A × Text} (v ∷ [], after) (vs, rest) = some_is _ _ e in
        subst (λ (w : List A × Text). Reads (Separated l s) text w.1 w.0) same (record { front = first.front; whole = first.whole; said = first.said })
    further v after first (Some y) is e again =
        let b = bind_some (items_at most r t y.1) (λ z. Some (v ∷ z.0, z.1)) (vs, rest) e in
        let between = q.sound after y.1 y.0 is in
        let others = again y.1 b.0.1 b.0.0 b.1 in
        let same : ◌≡◌ {A = List A × Text} (v ∷ b.0.0, b.0.1) (vs, rest) = some_is _ _ b.2 in
        subst (λ (w : List A × Text). Reads (Separated l s) text w.1 w.0) same (record {
          front = first.front ++ (between.front ++ others.front);
          whole = first.whole ∙ ap (λ (x : Text). first.front ++ x) (between.whole ∙ ap (λ (x : Text). between.front ++ x) others.whole) ∙ regroup4 first.front between.front others.front b.0.1;
          said = prepend l s v b.0.0 first.front between.front others.front first.said between.said others.said;
        })

-- the first item may be followed by the end of the list, or by a separator
pub items_complete : {A : Type 0} {l : Language A} {s : Language Unit} {r : TextReader A} {t : TextReader Unit} {F G H : Text → Type 0}
    → Exact l r F → Exact s t G
    → ((rest : Text) → H rest → (t rest ≡ None) × F rest)
    → ((y rest : Text) → s y tt → F (y ++ rest))
    → ((x rest : Text) (v : A) → l x v → G (x ++ rest))
    → (most : ℕ) (text rest : Text) (vs : List A) → length vs ≤ most → Separated l s text vs → H rest → items_at most r t (text ++ rest) ≡ Some (vs, rest)
unfolding items_at
items_complete p q ends on begins most text rest [] le said after = absurd said
items_complete p q ends on begins zero text rest (v ∷ vs) le said after = absurd (omega arith)
items_complete p q ends on begins (suc most) text rest (v ∷ []) le said after =
    let e = ends rest after in
    rw (p.complete text rest v said e.1, e.0) refl
items_complete {A} {l} {s} {r} {t} {F} {G} {H} p q ends on begins (suc most) text rest (v ∷ w ∷ vs) le said after =
    let x = said.0 in
    let y = said.1 in
    let z = said.2 in
    let regrouped : text ++ rest ≡ x ++ (y ++ (z ++ rest)) = ap (λ (k : Text). k ++ rest) said.3 ∙ append_assoc x (y ++ z) rest ∙ ap (λ (k : Text). x ++ k) (append_assoc y z rest) in
    let one = p.complete x (y ++ (z ++ rest)) v said.4 (on y (z ++ rest) said.5) in
    let two = q.complete y (z ++ rest) tt said.5 (next z rest w vs said.6) in
    let three = items_complete p q ends on begins most z rest (w ∷ vs) (omega (arith, le)) said.6 after in
    ap (items_at (suc most) r t) regrouped ∙ rw (one, two, three) refl
  where
    next : (z rest : Text) (w : A) (vs : List A) → Separated l s z (w ∷ vs) → G (z ++ rest)
    next z rest w [] said = begins z rest w said
    next z rest w (u ∷ us) said = subst G (ap (λ (k : Text). k ++ rest) (sym said.3)) (subst G (sym (append_assoc said.0 (said.1 ++ said.2) rest)) (begins said.0 ((said.1 ++ said.2) ++ rest) w said.4))

pub count_le : {A : Type 0} (l : Language A) (s : Language Unit) → HasByte s → (text : Text) (vs : List A) → Separated l s text vs → length vs ≤ suc (length text)
count_le l s h text [] said = absurd said
count_le l s h text (v ∷ []) said = omega arith
count_le l s h text (v ∷ w ∷ vs) said =
    let rest = count_le l s h said.2 (w ∷ vs) said.6 in
    let a = ap length said.3 in
    let b = length-append said.0 (said.1 ++ said.2) in
    let c = length-append said.1 said.2 in
    let d = some_length said.1 (h said.1 tt said.5) in
    omega (arith, rest, a, b, c, d)
  where
    some_length : (y : Text) → (y ≡ [] → ⊥) → 0 < length y
    some_length [] n = absurd (n refl)
    some_length (c ∷ cs) n = omega arith

-- a list. The text after it (H) does not begin with a separator, and may follow an item; a
-- separator may follow an item; and an item may follow a separator
pub separated_exact : {A : Type 0} {l : Language A} {s : Language Unit} {r : TextReader A} {t : TextReader Unit} {F G H : Text → Type 0}
    → Exact l r F → Exact s t G → HasByte s
    → ((rest : Text) → H rest → (t rest ≡ None) × F rest)
    → ((y rest : Text) → s y tt → F (y ++ rest))
    → ((x rest : Text) (v : A) → l x v → G (x ++ rest))
    → Exact (Separated l s) (separated_at r t) H
unfolding separated_at
separated_exact {A} {l} {s} {r} {t} p q h ends on begins = record {
  sound = λ text rest vs e. items_sound p q (suc (length text)) text rest vs e;
  complete = λ text rest vs said after.
      let a = count_le l s h text vs said in
      let b = length-append text rest in
      items_complete p q ends on begins (suc (length (text ++ rest))) text rest vs (omega (arith, a, b)) said after;
}

-- a loop over the items, with those already read
abbrev pub with_front : {A : Type 0} → List A → Option (List A × Text) → Option (List A × Text)
with_front front read = read >>= λ x. Some (front ++ x.0, x.1)

pub loop_more : {A : Type 0} (r : TextReader A) (t : TextReader Unit) (front : List A) (most i : ℕ) (bytes : Text) (v : A) (after next : Text) (u : Unit) (total : Option (List A × Text)) → i < most → r bytes ≡ Some (v, after) → t after ≡ Some (u, next)
    → with_front front (items_at (most - i) r t bytes) ≡ total → with_front (front ++ v ∷ []) (items_at (most - (i + 1)) r t next) ≡ total
unfolding items_at
loop_more {A} r t front most i bytes v after next u total lt h k so_far =
    let n : most - i ≡ suc (most - (i + 1)) = omega arith in
    let one : with_front front (items_at (most - i) r t bytes) ≡ with_front (front ++ v ∷ []) (items_at (most - (i + 1)) r t next) = rw (n, h, k) (regroup front v (items_at (most - (i + 1)) r t next)) in
    sym one ∙ so_far
  where
    regroup : (front : List A) (v : A) (read : Option (List A × Text)) → with_front front (read >>= λ x. Some (v ∷ x.0, x.1)) ≡ with_front (front ++ v ∷ []) read
    regroup front v None = refl
    regroup front v (Some x) = ap (λ (vs : List A). Some (vs, x.1)) (sym (append_assoc front (v ∷ []) x.0))

pub loop_ends : {A : Type 0} (r : TextReader A) (t : TextReader Unit) (front : List A) (most i : ℕ) (bytes : Text) (v : A) (after : Text) (total : Option (List A × Text)) → i < most → r bytes ≡ Some (v, after) → t after ≡ None
    → with_front front (items_at (most - i) r t bytes) ≡ total → Some (front ++ v ∷ [], after) ≡ total
unfolding items_at
loop_ends r t front most i bytes v after total lt h k so_far =
    let n : most - i ≡ suc (most - (i + 1)) = omega arith in
    let one : with_front front (items_at (most - i) r t bytes) ≡ Some (front ++ v ∷ [], after) = rw (n, h, k) refl in
    sym one ∙ so_far

pub loop_fails : {A : Type 0} (r : TextReader A) (t : TextReader Unit) (front : List A) (most i : ℕ) (bytes : Text) (total : Option (List A × Text)) → i < most → r bytes ≡ None
    → with_front front (items_at (most - i) r t bytes) ≡ total → ◌≡◌ {A = Option (List A × Text)} None total
unfolding items_at
loop_fails r t front most i bytes total lt h so_far =
    let n : most - i ≡ suc (most - (i + 1)) = omega arith in
    let one : with_front front (items_at (most - i) r t bytes) ≡ None = rw (n, h) refl in
    sym one ∙ so_far

pub loop_done : {A : Type 0} (r : TextReader A) (t : TextReader Unit) (front : List A) (most i : ℕ) (bytes : Text) (total : Option (List A × Text)) → most ≤ i
    → with_front front (items_at (most - i) r t bytes) ≡ total → ◌≡◌ {A = Option (List A × Text)} None total
unfolding items_at
loop_done r t front most i bytes total le so_far =
    let n : most - i ≡ 0 = omega arith in
    let one : with_front front (items_at (most - i) r t bytes) ≡ None = rw n refl in
    sym one ∙ so_far
