-- Sets of kinds of tokens.
use Rattle.std.proofs.Common.{◌≡◌, List, [], ◌∷◌, Bool, true, false, cond, refl, sym, ap, ◌∙◌}
use Rattle.mob_grammar.{specs.declared.mark.Mark.{Mark}, specs.declared.mark.Mark.TheVariants.{Select}}
use Rattle.mob_grammar.specs.TokenKinds.{TokenKind, TokenKinds, of_mark, names, numbers, strings, same_kind, ◌∪◌, where_so, kinds, all_kinds, apart, kinds_in}
use Rattle.mob_grammar.{specs.Symbols.{PlacedSymbol, kind, among, begins}, proofs.Marks.{same_mark}}

pub both_true : (b c : Bool) → cond b c false ≡ true → (b ≡ true) × (c ≡ true)
both_true true c h = (refl, h)
both_true false c h = absurd (cc h)

pub second_alone : (b c : Bool) → cond b false c ≡ true → (b ≡ false) × (c ≡ true)
second_alone true c h = absurd (cc h)
second_alone false c h = (refl, h)

pub not_true : (b : Bool) → cond b false true ≡ true → b ≡ false
not_true true h = absurd (cc h)
not_true false h = refl

-- unions
one_left : (b c : Bool) → b ≡ true → cond b true c ≡ true
one_left true c h = refl
one_left false c h = absurd (cc h)

pub one_right : (b c : Bool) → c ≡ true → cond b true c ≡ true
one_right true c h = refl
one_right false c h = h

none_left : (b c : Bool) → cond b true c ≡ false → b ≡ false
none_left true c h = absurd (cc h)
none_left false c h = refl

none_right : (b c : Bool) → cond b true c ≡ false → c ≡ false
none_right true c h = absurd (cc h)
none_right false c h = h

pub begins_left : (j k : TokenKinds) (l : List PlacedSymbol) → begins (among j) l ≡ true → begins (among (j ∪ k)) l ≡ true
begins_left j k [] h = absurd (cc h)
begins_left j k (t ∷ l) h = one_left (among j t) (among k t) h

pub begins_right : (j k : TokenKinds) (l : List PlacedSymbol) → begins (among k) l ≡ true → begins (among (j ∪ k)) l ≡ true
begins_right j k [] h = absurd (cc h)
begins_right j k (t ∷ l) h = one_right (among j t) (among k t) h

pub not_left : (j k : TokenKinds) (l : List PlacedSymbol) → begins (among (j ∪ k)) l ≡ false → begins (among j) l ≡ false
not_left j k [] h = refl
not_left j k (t ∷ l) h = none_left (among j t) (among k t) h

pub not_right : (j k : TokenKinds) (l : List PlacedSymbol) → begins (among (j ∪ k)) l ≡ false → begins (among k) l ≡ false
not_right j k [] h = refl
not_right j k (t ∷ l) h = none_right (among j t) (among k t) h

-- a set that depends on a test
pub begins_where : (b : Bool) (k : TokenKinds) (l : List PlacedSymbol) → b ≡ true → begins (among k) l ≡ true → begins (among (where_so b k)) l ≡ true
begins_where b k [] e h = h
begins_where b k (t ∷ l) e h = ap (λ b. cond b (among k t) false) e ∙ h

pub not_where : (b : Bool) (k : TokenKinds) (l : List PlacedSymbol) → b ≡ true → begins (among (where_so b k)) l ≡ false → begins (among k) l ≡ false
not_where b k [] e h = h
not_where b k (t ∷ l) e h = sym (ap (λ b. cond b (among k t) false) e) ∙ h

-- each kind is in the list of all kinds
same_is : (x y : TokenKind) → same_kind x y ≡ true → x ≡ y
same_is (of_mark g) (of_mark m) h = ap of_mark (same_mark g m h)
same_is names names h = refl
same_is numbers numbers h = refl
same_is strings strings h = refl
same_is (of_mark g) names h = absurd (cc h)
same_is (of_mark g) numbers h = absurd (cc h)
same_is (of_mark g) strings h = absurd (cc h)
same_is names (of_mark m) h = absurd (cc h)
same_is names numbers h = absurd (cc h)
same_is names strings h = absurd (cc h)
same_is numbers (of_mark m) h = absurd (cc h)
same_is numbers names h = absurd (cc h)
same_is numbers strings h = absurd (cc h)
same_is strings (of_mark m) h = absurd (cc h)
same_is strings names h = absurd (cc h)
same_is strings numbers h = absurd (cc h)

found : TokenKind → List TokenKind → Bool
found x [] = false
found x (y ∷ ys) = cond (same_kind x y) true (found x ys)

mark_found : (m : Mark) → found (of_mark m) kinds ≡ true
unfolding found
mark_found Select = refl
mark_found _ = refl

kind_found : (x : TokenKind) → found x kinds ≡ true
unfolding found
kind_found (of_mark m) = mark_found m
kind_found names = refl
kind_found numbers = refl
kind_found strings = refl

found_in : (test : TokenKinds) (x : TokenKind) (ks : List TokenKind) → all_kinds test ks ≡ true → found x ks ≡ true → test x ≡ true
unfolding found
found_in test x [] h f = absurd (cc f)
found_in test x (y ∷ ys) h f = by (same_kind x y) refl (found_in test x ys (both_true (test y) (all_kinds test ys) h).1) where
  by : (b : Bool) → same_kind x y ≡ b → (found x ys ≡ true → test x ≡ true) → test x ≡ true
  by true e later = ap test (same_is x y e) ∙ (both_true (test y) (all_kinds test ys) h).0
  by false e later = later (sym (ap (λ b. cond b true (found x ys)) e) ∙ f)

-- what is tested of all kinds holds for each
pub all_at : (test : TokenKinds) → all_kinds test kinds ≡ true → (x : TokenKind) → test x ≡ true
all_at test h x = found_in test x kinds h (kind_found x)

not_first : (b c : Bool) → cond b (cond c false true) true ≡ true → c ≡ true → b ≡ false
not_first true true h e = absurd (cc h)
not_first true false h e = absurd (cc e)
not_first false c h e = refl

pub apart_begins : (j k : TokenKinds) → apart j k ≡ true → (l : List PlacedSymbol) → begins (among k) l ≡ true → begins (among j) l ≡ false
apart_begins j k h [] e = refl
apart_begins j k h (t ∷ l) e = not_first (among j t) (among k t) (all_at (λ x. cond (j x) (cond (k x) false true) true) h (kind t.symbol)) e

then_true : (b c : Bool) → cond b c true ≡ true → b ≡ true → c ≡ true
then_true true c h e = h
then_true false c h e = absurd (cc e)

pub lies_at : (j k : TokenKinds) → kinds_in j k ≡ true → (x : TokenKind) → j x ≡ true → k x ≡ true
lies_at j k h x e = then_true (j x) (k x) (all_at (λ x. cond (j x) (k x) true) h x) e
