-- The sign on a cell, in the form that the search uses.
use Rattle.std.{specs.Prelude.{◌≡◌, Bool, true, false, cond, ◌↔◌, IsTrue, Some, None, refl}, proofs.Common.{sym, ◌∙◌, true≢false, Equal}, proofs.lemmas.Bool.{false_from_ne_true}}
use Rattle.mob_ratio.{specs.Ratio.{Ratio}, specs.Order.{before, same}, specs.Sign.{nil, sign_of, opposite, root_at, sign_on}, proofs.Order.{same_exact}}
use Rattle.mob_span.specs.Span.{SpanOf}
use Rattle.mob_slice.proofs.Options.{none_some, same_some}
use Rattle.mob_cells.{specs.Roots.{root_of}, specs.declared.linear.Ends.{Ends}}

some_by : (f0 f1 l u r a b : Ratio) (o : Bool) → opposite f0 f1 ≡ o → cond o (Some (root_at f0 f1 l u)) None ≡ Some r → sign_on f0 f1 l u a b ≡ cond (before a r) (sign_of f0) (cond (before r b) (sign_of f1) Equal)
unfolding sign_on
some_by f0 f1 l u r a b true o e = rw (o, same_some e) refl
some_by f0 f1 l u r a b false o e = none_some r e

some_sign : (s : SpanOf) (f : Ends) (r a b : Ratio) → root_of s f ≡ Some r → sign_on f.at_lower f.at_upper s.lower s.upper a b ≡ cond (before a r) (sign_of f.at_lower) (cond (before r b) (sign_of f.at_upper) Equal)
some_sign s f r a b e = some_by f.at_lower f.at_upper s.lower s.upper r a b (opposite f.at_lower f.at_upper) refl e

none_by : (f0 f1 l u a b : Ratio) (o : Bool) → opposite f0 f1 ≡ o → cond o (Some (root_at f0 f1 l u)) None ≡ None → sign_on f0 f1 l u a b ≡ cond (same b l) (sign_of f0) (cond (same a u) (sign_of f1) (cond (same f0 nil) (sign_of f1) (sign_of f0)))
unfolding sign_on
none_by f0 f1 l u a b true o e = none_some (root_at f0 f1 l u) (sym e)
none_by f0 f1 l u a b false o e = rw o refl

none_sign : (s : SpanOf) (f : Ends) (a b : Ratio) → root_of s f ≡ None → sign_on f.at_lower f.at_upper s.lower s.upper a b ≡ cond (same b s.lower) (sign_of f.at_lower) (cond (same a s.upper) (sign_of f.at_upper) (cond (same f.at_lower nil) (sign_of f.at_upper) (sign_of f.at_lower)))
none_sign s f a b e = none_by f.at_lower f.at_upper s.lower s.upper a b (opposite f.at_lower f.at_upper) refl e

pub first_side : (s : SpanOf) (f : Ends) (r a b : Ratio) → root_of s f ≡ Some r → before a r ≡ true → sign_of f.at_lower ≡ sign_on f.at_lower f.at_upper s.lower s.upper a b
first_side s f r a b e h = sym (some_sign s f r a b e ∙ (rw h refl))

pub second_side : (s : SpanOf) (f : Ends) (r a b : Ratio) → root_of s f ≡ Some r → before a r ≡ false → before r b ≡ true → sign_of f.at_upper ≡ sign_on f.at_lower f.at_upper s.lower s.upper a b
second_side s f r a b e h k = sym (some_sign s f r a b e ∙ (rw (h, k) refl))

pub no_side : (s : SpanOf) (f : Ends) (r a b : Ratio) → root_of s f ≡ Some r → before a r ≡ false → before r b ≡ false → Equal ≡ sign_on f.at_lower f.at_upper s.lower s.upper a b
no_side s f r a b e h k = sym (some_sign s f r a b e ∙ (rw (h, k) refl))

pub at_low : (s : SpanOf) (f : Ends) (a b : Ratio) → root_of s f ≡ None → same b s.lower ≡ true → sign_of f.at_lower ≡ sign_on f.at_lower f.at_upper s.lower s.upper a b
at_low s f a b e h = sym (none_sign s f a b e ∙ (rw h refl))

pub at_high : (s : SpanOf) (f : Ends) (a b : Ratio) → root_of s f ≡ None → same b s.lower ≡ false → same a s.upper ≡ true → sign_of f.at_upper ≡ sign_on f.at_lower f.at_upper s.lower s.upper a b
at_high s f a b e h k = sym (none_sign s f a b e ∙ (rw (h, k) refl))

pub if_nil : (s : SpanOf) (f : Ends) (a b : Ratio) (r : Bool) → root_of s f ≡ None → same b s.lower ≡ false → same a s.upper ≡ false → IsTrue r ↔ (f.at_lower ≡ nil) → r ≡ true → sign_of f.at_upper ≡ sign_on f.at_lower f.at_upper s.lower s.upper a b
if_nil s f a b r e h k i t = let z : same f.at_lower nil ≡ true = (same_exact f.at_lower nil).1 (i.0 t) in sym (none_sign s f a b e ∙ (rw (h, k, z) refl))

pub if_not_nil : (s : SpanOf) (f : Ends) (a b : Ratio) (r : Bool) → root_of s f ≡ None → same b s.lower ≡ false → same a s.upper ≡ false → IsTrue r ↔ (f.at_lower ≡ nil) → r ≡ false → sign_of f.at_lower ≡ sign_on f.at_lower f.at_upper s.lower s.upper a b
if_not_nil s f a b r e h k i t = let z : same f.at_lower nil ≡ false = false_from_ne_true _ (λ w. true≢false (sym (i.1 ((same_exact f.at_lower nil).0 w)) ∙ t)) in sym (none_sign s f a b e ∙ (rw (h, k, z) refl))
