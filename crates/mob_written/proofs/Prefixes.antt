-- The reader of prefixes accepts exactly the admitted prefixes.
use Rattle.std.{specs.Prelude.{◌&&◌, not, nat_eq}, specs.Char.{to_ascii_lowercase}}
use Rattle.std.proofs.Common.{◌≡◌, ℕ, List, [], ◌∷◌, ◌++◌, Bool, true, false, cond, Option, Some, None, refl, sym, ap, subst, ◌∙◌, append_assoc, append-nil, rules, inl, inr, ◌⊎◌}
use Rattle.std.proofs.lemmas.Bool.{or_parts, and_parts, and_right}
use Rattle.mob_language.{specs.Language.{Text, AnyCase, is_blank}, proofs.Exact.{Exact, Stops, bind_some, some_is, any_case_exact, regrouped}, proofs.Heads.{after_any, spaced_exact}}
use Rattle.mob_written.specs.declared.written.Prefixes.{Prefixes}
use Rattle.mob_written.specs.Prefix.{Prefix, interpolation, reference, prefix_word, prefix_of, admits, without_text, remaining, ArePrefixes, says_step, is_first, begins_prefix, prefix_at, with_left}
use Rattle.mob_written.specs.Prefix.{one_prefix_at, prefixes_at}

prefix_exact : (p : Prefix) → Exact (prefix_of p) (prefix_at p) (Stops is_blank)
unfolding prefix_at
prefix_exact p = after_any (any_case_exact (prefix_word p)) (spaced_exact 59 [] refl)

-- ---- the first letter of a prefix

letter_of : Prefix → ℕ
letter_of interpolation = 105
letter_of reference = 115

record IsLettered (p : Prefix) (text : Text) : Type 0 where
  first : ℕ
  rest : Text
  is : text ≡ first ∷ rest
  letter : to_ascii_lowercase first ≡ letter_of p

word_lettered : (p : Prefix) (text : Text) → AnyCase (prefix_word p) text tt → IsLettered p text
unfolding letter_of
word_lettered interpolation [] said = absurd cc
word_lettered interpolation (c ∷ cs) said = record { first = c; rest = cs; is = refl; letter = cc }
word_lettered reference [] said = absurd cc
word_lettered reference (c ∷ cs) said = record { first = c; rest = cs; is = refl; letter = cc }

lettered : (p : Prefix) (text : Text) (u : Unit {0} × Unit {0}) → prefix_of p text u → IsLettered p text
lettered p text u said =
    let w = word_lettered p said.front said.first in
    record { first = w.first; rest = w.rest ++ said.back; is = said.whole ∙ ap (λ (t : Text). t ++ said.back) w.is; letter = w.letter }

small_no_blank : (p : Prefix) (c : ℕ) → to_ascii_lowercase c ≡ letter_of p → is_blank c ≡ false
unfolding letter_of
small_no_blank interpolation c e = search rules
small_no_blank reference c e = search rules

no_blank : (p : Prefix) (text rest : Text) → IsLettered p text → Stops is_blank (text ++ rest)
no_blank p text rest l = subst (λ (t : Text). Stops is_blank (t ++ rest)) (sym l.is) (small_no_blank p l.first l.letter)

-- prefixes do not begin with a blank
pub prefixes_stop : (a : Prefixes) (said : List Prefix) (front rest : Text) → ArePrefixes a front said → Stops is_blank rest → Stops is_blank (front ++ rest)
prefixes_stop a [] front rest are h = subst (λ (t : Text). Stops is_blank (t ++ rest)) (sym are) h
prefixes_stop a (p ∷ said) front rest are h = no_blank p front rest (record { first = l.first; rest = l.rest ++ are.1; is = are.2 ∙ ap (λ (t : Text). t ++ are.1) l.is; letter = l.letter })
  where
    l : IsLettered p are.0
    l = lettered p are.0 (tt, tt) are.4

-- ---- one prefix

first_is : (letter : ℕ) (admitted : Bool) (c : ℕ) → to_ascii_lowercase c ≡ letter → admitted ≡ true → nat_eq letter letter ≡ true → is_first letter admitted c ≡ true
first_is letter admitted c e h k = rw (e, k, h) refl

other_is : (a : Bool) (c : ℕ) → to_ascii_lowercase c ≡ 115 → is_first 105 a c ≡ false
other_is a c e = rw e refl

read_as : (a : Prefixes) (p : Prefix) (c : ℕ) (cs : Text) → to_ascii_lowercase c ≡ letter_of p → admits a p ≡ true → one_prefix_at a (c ∷ cs) ≡ with_left (without_text p a) (prefix_at p (c ∷ cs))
unfolding one_prefix_at letter_of
read_as a interpolation c cs e h = rw (first_is 105 a.step c e h refl) refl
read_as a reference c cs e h = rw (other_is a.step c e, first_is 115 a.srid c e h refl) refl

one_read : (a : Prefixes) (p : Prefix) (text rest : Text) → admits a p ≡ true → prefix_of p text (tt, tt) → Stops is_blank rest → one_prefix_at a (text ++ rest) ≡ Some (without_text p a, rest)
one_read a p text rest h said after =
    let l = lettered p text (tt, tt) said in
    let is : text ++ rest ≡ l.first ∷ (l.rest ++ rest) = ap (λ (t : Text). t ++ rest) l.is in
    ap (one_prefix_at a) is
    ∙ read_as a p l.first (l.rest ++ rest) l.letter h
    ∙ ap (λ (t : Text). with_left (without_text p a) (prefix_at p t)) (sym is)
    ∙ ap (with_left (without_text p a)) ((prefix_exact p).complete text rest (tt, tt) said after)

one_none : (a : Prefixes) (rest : Text) → Stops (begins_prefix a) rest → one_prefix_at a rest ≡ Some (a, rest)
unfolding one_prefix_at
one_none a [] h = refl
one_none a (c ∷ cs) h =
    let k = or_parts (is_first 105 a.step c) (is_first 115 a.srid c) h in
    rw (k.0, k.1) refl

-- the result of one step: no prefix begins, or one was read
record IsOne (a : Prefixes) (text : Text) (b : Prefixes) (rest : Text) : Type 0 where
  by : Prefix
  front : Text
  whole : text ≡ front ++ rest
  admitted : admits a by ≡ true
  said : prefix_of by front (tt, tt)
  left : b ≡ without_text by a

record IsNone (a : Prefixes) (text : Text) (b : Prefixes) (rest : Text) : Type 0 where
  stops : Stops (begins_prefix a) text
  same : b ≡ a
  rest_is : rest ≡ text

pub pair_is : {A B : Type 0} (x y : A) (z w : B) → ◌≡◌ {A = Option (A × B)} (Some (x, z)) (Some (y, w)) → (x ≡ y) × (z ≡ w)
pair_is {A} {B} x y z w e =
    let p = some_is (x, z) (y, w) e in
    (ap (λ (t : A × B). t.0) p, ap (λ (t : A × B). t.1) p)

taken : (a : Prefixes) (p : Prefix) (text : Text) (b : Prefixes) (rest : Text) → admits a p ≡ true → with_left (without_text p a) (prefix_at p text) ≡ Some (b, rest) → IsOne a text b rest
taken a p text b rest h e = by_read (prefix_at p text) refl e
  where
    by_read : (o : Option ((Unit {0} × Unit {0}) × Text)) → prefix_at p text ≡ o → with_left (without_text p a) o ≡ Some (b, rest) → IsOne a text b rest
    by_read None k e = absurd cc
    by_read (Some x) k e =
        let is = pair_is (without_text p a) b x.1 rest e in
        let r = (prefix_exact p).sound text rest x.0 (k ∙ ap (λ (t : Text). Some (x.0, t)) is.1) in
        record { by = p; front = r.front; whole = r.whole; admitted = h; said = r.said; left = sym is.0 }

one_sound : (a : Prefixes) (text : Text) (b : Prefixes) (rest : Text) → one_prefix_at a text ≡ Some (b, rest) → IsNone a text b rest ⊎ IsOne a text b rest
unfolding one_prefix_at
one_sound a [] b rest e = let is = pair_is a b [] rest e in inl (record { stops = tt; same = sym is.0; rest_is = sym is.1 })
one_sound a (c ∷ cs) b rest e = by_first (is_first 105 a.step c) (is_first 115 a.srid c) refl refl e
  where
    by_first : (i s : Bool) → is_first 105 a.step c ≡ i → is_first 115 a.srid c ≡ s → cond i (with_left (without_text interpolation a) (prefix_at interpolation (c ∷ cs))) (cond s (with_left (without_text reference a) (prefix_at reference (c ∷ cs))) (Some (a, c ∷ cs))) ≡ Some (b, rest) → IsNone a (c ∷ cs) b rest ⊎ IsOne a (c ∷ cs) b rest
    by_first true s h k e = inr (taken a interpolation (c ∷ cs) b rest (and_parts (nat_eq (to_ascii_lowercase c) 105) a.step h).1 e)
    by_first false true h k e = inr (taken a reference (c ∷ cs) b rest (and_parts (nat_eq (to_ascii_lowercase c) 115) a.srid k).1 e)
    by_first false false h k e = let is = pair_is a b (c ∷ cs) rest e in inl (record { stops = rw (h, k) refl; same = sym is.0; rest_is = sym is.1 })

-- ---- all prefixes

-- no third prefix is left
abbrev none_left : Prefixes
none_left = record { step = false; srid = false }

none_begins : (rest : Text) → Stops (begins_prefix none_left) rest
none_begins [] = tt
none_begins (c ∷ cs) = rw (and_right (nat_eq (to_ascii_lowercase c) 105) false refl, and_right (nat_eq (to_ascii_lowercase c) 115) false refl) refl

both_said : (a : Prefixes) (p q : Prefix) → admits a p ≡ true → admits (without_text p a) q ≡ true → without_text q (without_text p a) ≡ none_left
both_said a interpolation interpolation h k = absurd cc
both_said a interpolation reference h k = refl
both_said a reference interpolation h k = refl
both_said a reference reference h k = absurd cc

none_admitted : (p : Prefix) → admits none_left p ≡ true → ⊥
none_admitted interpolation h = absurd cc
none_admitted reference h = absurd cc

then_one : (a b c : Prefixes) (text rest end : Text) → one_prefix_at a text ≡ Some (b, rest) → one_prefix_at b rest ≡ Some (c, end) → prefixes_at a text ≡ Some (c, end)
unfolding prefixes_at
then_one a b c text rest end e f = rw e f

-- prefixes are read if what follows begins neither with a blank nor with the letter of one more
pub prefixes_read : (a : Prefixes) (said : List Prefix) (front rest : Text) → ArePrefixes a front said → Stops is_blank rest → Stops (begins_prefix (remaining a said)) rest → prefixes_at a (front ++ rest) ≡ Some (remaining a said, rest)
prefixes_read a [] front rest are blank stops = subst (λ (t : Text). prefixes_at a (t ++ rest) ≡ Some (a, rest)) (sym are) (then_one a a a rest rest rest (one_none a rest stops) (one_none a rest stops))
prefixes_read a (p ∷ []) front rest are blank stops =
    let whole : front ++ rest ≡ are.0 ++ rest = ap (λ (t : Text). t ++ rest) (are.2 ∙ ap (λ (t : Text). are.0 ++ t) are.5 ∙ append-nil are.0) in
    then_one a (without_text p a) (without_text p a) (front ++ rest) rest rest (ap (one_prefix_at a) whole ∙ one_read a p are.0 rest are.3 are.4 blank) (one_none (without_text p a) rest stops)
prefixes_read a (p ∷ q ∷ []) front rest are blank stops =
    let next = are.5 in
    let whole : next.0 ++ rest ≡ are.1 ++ rest = ap (λ (t : Text). t ++ rest) (sym (next.2 ∙ ap (λ (t : Text). next.0 ++ t) next.5 ∙ append-nil next.0)) in
    then_one a (without_text p a) (without_text q (without_text p a)) (front ++ rest) (are.1 ++ rest) rest
    (ap (one_prefix_at a) (regrouped front are.0 are.1 rest are.2) ∙ one_read a p are.0 (are.1 ++ rest) are.3 are.4 (prefixes_stop (without_text p a) (q ∷ []) are.1 rest next blank))
    (ap (one_prefix_at (without_text p a)) (sym whole) ∙ one_read (without_text p a) q next.0 rest next.3 next.4 blank)
prefixes_read a (p ∷ q ∷ r ∷ said) front rest are blank stops =
    let none : admits none_left r ≡ true = subst (λ (b : Prefixes). admits b r ≡ true) (both_said a p q are.3 are.5.3) are.5.5.3 in
    absurd (none_admitted r none)

-- the text that was read consists of prefixes, and what follows does not begin with the letter of
-- one more
pub record AreRead (a : Prefixes) (text : Text) (left : Prefixes) (rest : Text) : Type 0 where
  pub said : List Prefix
  pub front : Text
  pub whole : text ≡ front ++ rest
  pub prefixes : ArePrefixes a front said
  pub left_is : remaining a said ≡ left
  pub stops : Stops (begins_prefix left) rest

one_said : (a : Prefixes) (p : Prefix) (front : Text) → admits a p ≡ true → prefix_of p front (tt, tt) → ArePrefixes a front (p ∷ [])
one_said a p front h said = (front, [], sym (append-nil front), h, said, refl)

pub prefixes_sound : (a : Prefixes) (text : Text) (left : Prefixes) (rest : Text) → prefixes_at a text ≡ Some (left, rest) → AreRead a text left rest
unfolding prefixes_at
prefixes_sound a text left rest e =
    let one = bind_some (one_prefix_at a text) (λ x. one_prefix_at x.0 x.1) (left, rest) e in
    elim (one_sound a text one.0.0 one.0.1 one.1) [
      | inl n ↦ nothing n (pair_is a left text rest (sym (one_none a text n.stops) ∙ subst (λ (t : Text). one_prefix_at a t ≡ Some (left, rest)) n.rest_is (subst (λ (b : Prefixes). one_prefix_at b one.0.1 ≡ Some (left, rest)) n.same one.2)))
      | inr o ↦ elim (one_sound one.0.0 one.0.1 left rest one.2) [
        | inl n ↦ some_one one.0.0 one.0.1 o n
        | inr p ↦ both one.0.0 one.0.1 o p
      ]
    ]
  where
    nothing : {b : Prefixes} {t : Text} → IsNone a text b t → (a ≡ left) × (text ≡ rest) → AreRead a text left rest
    nothing n is = record { said = []; front = []; whole = is.1; prefixes = refl; left_is = is.0; stops = subst (λ (b : Prefixes). Stops (begins_prefix b) rest) is.0 (subst (Stops (begins_prefix a)) is.1 n.stops) }

    some_one : (b : Prefixes) (t : Text) → IsOne a text b t → IsNone b t left rest → AreRead a text left rest
    some_one b t o n = record {
      said = o.by ∷ [];
      front = o.front;
      whole = o.whole ∙ ap (λ (x : Text). o.front ++ x) (sym n.rest_is);
      prefixes = one_said a o.by o.front o.admitted o.said;
      left_is = sym o.left ∙ sym n.same;
      stops = subst (λ (x : Prefixes). Stops (begins_prefix x) rest) (sym n.same) (subst (Stops (begins_prefix b)) (sym n.rest_is) n.stops);
    }

    both : (b : Prefixes) (t : Text) → IsOne a text b t → IsOne b t left rest → AreRead a text left rest
    both b t o p =
        let again : admits (without_text o.by a) p.by ≡ true = subst (λ (x : Prefixes). admits x p.by ≡ true) o.left p.admitted in
        let last : without_text p.by (without_text o.by a) ≡ left = ap (without_text p.by) (sym o.left) ∙ sym p.left in
        let gone : none_left ≡ left = sym (both_said a o.by p.by o.admitted again) ∙ last in
        record {
          said = o.by ∷ p.by ∷ [];
          front = o.front ++ p.front;
          whole = o.whole ∙ ap (λ (x : Text). o.front ++ x) p.whole ∙ sym (append_assoc o.front p.front rest);
          prefixes = (o.front, p.front, refl, o.admitted, o.said, one_said (without_text o.by a) p.by p.front again p.said);
          left_is = last;
          stops = subst (λ (x : Prefixes). Stops (begins_prefix x) rest) gone (none_begins rest);
        }

-- ---- whether the literal asks for step interpolation

gone : (a : Prefixes) (said : List Prefix) → a.step ≡ false → (remaining a said).step ≡ false
gone a [] h = h
gone a (interpolation ∷ said) h = gone (without_text interpolation a) said refl
gone a (reference ∷ said) h = gone (without_text reference a) said h

pub step_said : (a : Prefixes) (said : List Prefix) (front : Text) → ArePrefixes a front said → (a.step && not (remaining a said).step) ≡ says_step said
step_said a [] front are = never a.step
  where
    never : (b : Bool) → (b && not b) ≡ false
    never true = refl
    never false = refl
step_said a (interpolation ∷ said) front are = rw (are.3, gone (without_text interpolation a) said refl) refl
step_said a (reference ∷ said) front are = step_said (without_text reference a) said are.1 are.5
