-- The signs of a linear function follow from its ends.
use Rattle.std.{specs.Prelude.{◌≡◌, Bool, true, false, cond, not, ◌&&◌, ◌||◌, refl}, specs.declared.cmp.Ordering.{Ordering}, specs.declared.cmp.Ordering.TheVariants.{Less, Equal, Greater}}
use Rattle.std.{proofs.Common.{arith, ap, sym, ◌∙◌, subst, true≢false}, proofs.lemmas.Bool.{and_parts, or_left, or_right}}
use Rattle.mob_ratio.{specs.Ratio.{Ratio}, specs.Order.{before, same}, specs.Line.{line_at}, specs.Sign.{nil, opposite, root_at, sign_of, IsRoot}}
use Rattle.mob_ratio.{proofs.Order.{before-trans, before-neither, between, same_exact}, proofs.Signs.{root_holds, sign_below, sign_above, sign_nil}}
use Rattle.mob_cells.proofs.SharedRoots.{level_sign, no_opposite}
use Rattle.mob_compare.specs.Taken.{sign_is, takes_inside}

-- ---- signs
less_equal : {P : Type 0} → Less ≡ Equal → P
less_equal e = cc

less_greater : {P : Type 0} → Less ≡ Greater → P
less_greater e = cc

equal_greater : {P : Type 0} → Equal ≡ Greater → P
equal_greater e = cc

pub sign_of_is : (q : Ratio) (o : Ordering) → sign_is o q ≡ true → sign_of q ≡ o
sign_of_is q Less h = sign_below q h
sign_of_is q Equal h = ap sign_of ((same_exact q nil).0 h) ∙ sign_nil
sign_of_is q Greater h = sign_above q h

less_is : (a b : Bool) → cond a Less (cond b Greater Equal) ≡ Less → a ≡ true
less_is true b e = refl
less_is false true e = less_greater (sym e)
less_is false false e = less_equal (sym e)

equal_is : (a b : Bool) → cond a Less (cond b Greater Equal) ≡ Equal → (not a && not b) ≡ true
equal_is true b e = less_equal e
equal_is false true e = equal_greater (sym e)
equal_is false false e = refl

greater_is : (a b : Bool) → cond a Less (cond b Greater Equal) ≡ Greater → b ≡ true
greater_is true b e = less_greater e
greater_is false true e = refl
greater_is false false e = equal_greater e

pub is_sign_of : (q : Ratio) (o : Ordering) → sign_of q ≡ o → sign_is o q ≡ true
unfolding sign_of same
is_sign_of q Less e = less_is (before q nil) (before nil q) e
is_sign_of q Equal e = equal_is (before q nil) (before nil q) e
is_sign_of q Greater e = greater_is (before q nil) (before nil q) e

-- ---- strictly between the ends
-- the sign of an end that is not 0 is taken
from_first : (f g : Ratio) (o : Ordering) → same f nil ≡ false → sign_is o f ≡ true → takes_inside f g o ≡ true
from_first f g Less n h = or_left _ _ h
from_first f g Equal n h = absurd (true≢false (sym h ∙ n))
from_first f g Greater n h = or_left _ _ h

from_second : (f g : Ratio) (o : Ordering) → same g nil ≡ false → sign_is o g ≡ true → takes_inside f g o ≡ true
from_second f g Less n h = or_right _ _ h
from_second f g Equal n h = absurd (true≢false (sym h ∙ n))
from_second f g Greater n h = or_right _ _ h

-- if one end is 0, the sign of the other
from_other : (f g : Ratio) (o : Ordering) → same f nil ≡ true → sign_is o g ≡ true → takes_inside f g o ≡ true
from_other f g Less n h = or_right _ _ h
from_other f g Equal n h = or_right (opposite f g) (same f nil && same g nil) (rw (n, h) refl)
from_other f g Greater n h = or_right _ _ h

crossing_from : (f g l u t r : Ratio) (o : Ordering) → IsRoot f g l u r → opposite f g ≡ true → sign_of (line_at f g l u t) ≡ o → (a b : Bool) → before t r ≡ a → before r t ≡ b → takes_inside f g o ≡ true
crossing_from f g l u t r o i h e true b ea eb = from_first f g o (no_opposite f g h).0 (is_sign_of f o (sym (i.left t ea) ∙ e))
crossing_from f g l u t r o i h e false true ea eb = from_second f g o (no_opposite f g h).1 (is_sign_of g o (sym (i.right t eb) ∙ e))
crossing_from f g l u t r o i h e false false ea eb =
    let z : Equal ≡ o = sym sign_nil ∙ ap sign_of (sym i.zero) ∙ ap (λ q. sign_of (line_at f g l u q)) (sym (before-neither t r ea eb)) ∙ e in
    subst (λ o. takes_inside f g o ≡ true) z (or_left (opposite f g) (same f nil && same g nil) h)

level_from : (f g : Ratio) (o : Ordering) (b : Bool) → same f nil ≡ b → cond b (sign_of g) (sign_of f) ≡ o → takes_inside f g o ≡ true
level_from f g o true n e = from_other f g o n (is_sign_of g o e)
level_from f g o false n e = from_first f g o n (is_sign_of f o e)

inside_by : (f g l u t : Ratio) (o : Ordering) → before l t ≡ true → before t u ≡ true → sign_of (line_at f g l u t) ≡ o → (p : Bool) → opposite f g ≡ p → takes_inside f g o ≡ true
inside_by f g l u t o h k e true p = let r = root_at f g l u in crossing_from f g l u t r o (root_holds f g l u (before-trans l t u h k) p) p e (before t r) (before r t) refl refl
inside_by f g l u t o h k e false p = level_from f g o (same f nil) refl (sym (level_sign f g l u t h k p) ∙ e)

-- a sign taken strictly between the ends follows from them
pub inside_from : (f g l u t : Ratio) (o : Ordering) → before l t ≡ true → before t u ≡ true → sign_of (line_at f g l u t) ≡ o → takes_inside f g o ≡ true
inside_from f g l u t o h k e = inside_by f g l u t o h k e (opposite f g) refl

-- an instant strictly between the ends at which the line has this sign
abbrev pub IsTakenInside : Ratio → Ratio → Ratio → Ratio → Ordering → Type 0
IsTakenInside f g l u o = (t : Ratio) × (before l t ≡ true) × (before t u ≡ true) × (sign_of (line_at f g l u t) ≡ o)

near_first : (f g l u : Ratio) (o : Ordering) → before l u ≡ true → opposite f g ≡ true → sign_is o f ≡ true → IsTakenInside f g l u o
near_first f g l u o h p s =
    let r = root_at f g l u in
    let i = root_holds f g l u h p in
    let m = between l r i.after in
    (m.0, m.1, before-trans m.0 r u m.2 i.until, i.left m.0 m.2 ∙ sign_of_is f o s)

near_second : (f g l u : Ratio) (o : Ordering) → before l u ≡ true → opposite f g ≡ true → sign_is o g ≡ true → IsTakenInside f g l u o
near_second f g l u o h p s =
    let r = root_at f g l u in
    let i = root_holds f g l u h p in
    let m = between r u i.until in
    (m.0, before-trans l r m.0 i.after m.1, m.2, i.right m.0 m.1 ∙ sign_of_is g o s)

at_root : (f g l u : Ratio) → before l u ≡ true → opposite f g ≡ true → IsTakenInside f g l u Equal
at_root f g l u h p = let i = root_holds f g l u h p in (root_at f g l u, i.after, i.until, ap sign_of i.zero ∙ sign_nil)

level_at : (f g l u : Ratio) (o : Ordering) → before l u ≡ true → opposite f g ≡ false → cond (same f nil) (sign_of g) (sign_of f) ≡ o → IsTakenInside f g l u o
level_at f g l u o h p e = let m = between l u h in (m.0, m.1, m.2, level_sign f g l u m.0 m.1 m.2 p ∙ e)

below_not : (f : Ratio) → before f nil ≡ true → same f nil ≡ false
unfolding same
below_not f h = rw h refl

above_not : (f : Ratio) → before nil f ≡ true → same f nil ≡ false
unfolding same
above_not f h = grind (arith, h)

nil_beside_below : (f g : Ratio) → opposite f g ≡ false → before f nil ≡ false → before g nil ≡ true → same f nil ≡ true
unfolding opposite same
nil_beside_below f g p n h = grind (arith, p, n, h)

nil_beside_above : (f g : Ratio) → opposite f g ≡ false → before nil f ≡ false → before nil g ≡ true → same f nil ≡ true
unfolding opposite same
nil_beside_above f g p n h = grind (arith, p, n, h)

below_to : (f g l u : Ratio) → before l u ≡ true → (before f nil || before g nil) ≡ true → (p a : Bool) → opposite f g ≡ p → before f nil ≡ a → IsTakenInside f g l u Less
below_to f g l u h k true true p e = near_first f g l u Less h p e
below_to f g l u h k true false p e = near_second f g l u Less h p (subst (λ z. (z || before g nil) ≡ true) e k)
below_to f g l u h k false true p e = level_at f g l u Less h p (rw (below_not f e) (sign_below f e))
below_to f g l u h k false false p e = let w = subst (λ z. (z || before g nil) ≡ true) e k in level_at f g l u Less h p (rw (nil_beside_below f g p e w) (sign_below g w))

above_to : (f g l u : Ratio) → before l u ≡ true → (before nil f || before nil g) ≡ true → (p a : Bool) → opposite f g ≡ p → before nil f ≡ a → IsTakenInside f g l u Greater
above_to f g l u h k true true p e = near_first f g l u Greater h p e
above_to f g l u h k true false p e = near_second f g l u Greater h p (subst (λ z. (z || before nil g) ≡ true) e k)
above_to f g l u h k false true p e = level_at f g l u Greater h p (rw (above_not f e) (sign_above f e))
above_to f g l u h k false false p e = let w = subst (λ z. (z || before nil g) ≡ true) e k in level_at f g l u Greater h p (rw (nil_beside_above f g p e w) (sign_above g w))

equal_to : (f g l u : Ratio) → before l u ≡ true → (opposite f g || (same f nil && same g nil)) ≡ true → (p : Bool) → opposite f g ≡ p → IsTakenInside f g l u Equal
equal_to f g l u h k true p = at_root f g l u h p
equal_to f g l u h k false p =
    let w = and_parts (same f nil) (same g nil) (subst (λ z. (z || (same f nil && same g nil)) ≡ true) p k) in
    level_at f g l u Equal h p (rw w.0 (ap sign_of ((same_exact g nil).0 w.1) ∙ sign_nil))

-- and a sign that follows from them is taken there
pub inside_to : (f g l u : Ratio) (o : Ordering) → before l u ≡ true → takes_inside f g o ≡ true → IsTakenInside f g l u o
inside_to f g l u Less h k = below_to f g l u h k (opposite f g) (before f nil) refl refl
inside_to f g l u Equal h k = equal_to f g l u h k (opposite f g) refl
inside_to f g l u Greater h k = above_to f g l u h k (opposite f g) (before nil f) refl refl
