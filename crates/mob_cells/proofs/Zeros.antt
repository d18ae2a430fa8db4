-- Lemmas on roots.
use Rattle.std.{specs.Prelude.{◌≡◌, Bool, true, false, refl}, specs.declared.cmp.Ordering.TheVariants.{Less, Equal, Greater}, proofs.Common.{ap, sym, ◌∙◌, true≢false, inl, inr}}
use Rattle.mob_ratio.{specs.Ratio.{Ratio}, specs.Order.{before}, specs.Line.{line_at}, specs.Sign.{nil, opposite, root_at, sign_of, IsRoot}, proofs.Order.{before-neither}}
use Rattle.mob_ratio.proofs.Signs.{root_holds, opposite_cases, sign_below, sign_above, sign_nil, opposite-self}
use Rattle.mob_span.specs.Span.{SpanOf, has}
use Rattle.mob_cells.{specs.declared.linear.Ends.{Ends}, specs.Roots.{IsLevel, IsOneRoot}}

pub long_of : (s : SpanOf) (f : Ends) → IsLevel s f → opposite f.at_lower f.at_upper ≡ true → (b : Bool) → before s.lower s.upper ≡ b → before s.lower s.upper ≡ true
long_of s f l o true e = e
long_of s f l o false e = absurd (true≢false (sym o ∙ ap (λ z. opposite f.at_lower z) (sym (l e)) ∙ opposite-self f.at_lower))

is_root : (s : SpanOf) (f : Ends) → IsLevel s f → opposite f.at_lower f.at_upper ≡ true → IsRoot f.at_lower f.at_upper s.lower s.upper (root_at f.at_lower f.at_upper s.lower s.upper)
is_root s f l o = root_holds f.at_lower f.at_upper s.lower s.upper (long_of s f l o (before s.lower s.upper) refl) o

pub root_inside : (s : SpanOf) (f : Ends) → IsLevel s f → opposite f.at_lower f.at_upper ≡ true → has s (root_at f.at_lower f.at_upper s.lower s.upper) ≡ true
root_inside s f l o = let r = is_root s f l o in rw (r.after, r.until) refl

less_equal : Less ≡ Equal → ⊥
less_equal e = cc

greater_equal : Greater ≡ Equal → ⊥
greater_equal e = cc

opposite_signs : (f0 f1 : Ratio) → opposite f0 f1 ≡ true → (sign_of f0 ≡ Equal → ⊥) × (sign_of f1 ≡ Equal → ⊥)
opposite_signs f0 f1 o = elim (opposite_cases f0 f1 o) [
  | inl k ↦ (λ e. less_equal (sym (sign_below f0 k.0) ∙ e), λ e. greater_equal (sym (sign_above f1 k.1) ∙ e))
  | inr k ↦ (λ e. greater_equal (sym (sign_above f0 k.0) ∙ e), λ e. less_equal (sym (sign_below f1 k.1) ∙ e))
]

only_zero : (f0 f1 l u r t : Ratio) → IsRoot f0 f1 l u r → (sign_of f0 ≡ Equal → ⊥) → (sign_of f1 ≡ Equal → ⊥) → line_at f0 f1 l u t ≡ nil → (a b : Bool) → before t r ≡ a → before r t ≡ b → t ≡ r
only_zero f0 f1 l u r t h n0 n1 z true b e k = absurd (n0 (sym (h.left t e) ∙ ap sign_of z ∙ sign_nil))
only_zero f0 f1 l u r t h n0 n1 z false true e k = absurd (n1 (sym (h.right t k) ∙ ap sign_of z ∙ sign_nil))
only_zero f0 f1 l u r t h n0 n1 z false false e k = before-neither t r e k

pub one_root : (s : SpanOf) (f : Ends) → IsLevel s f → opposite f.at_lower f.at_upper ≡ true → IsOneRoot s f (root_at f.at_lower f.at_upper s.lower s.upper)
one_root s f l o =
    let h = is_root s f l o in
    let n = opposite_signs f.at_lower f.at_upper o in
    let r = root_at f.at_lower f.at_upper s.lower s.upper in
    record { after = h.after; until = h.until; zero = h.zero; only = λ t z. only_zero f.at_lower f.at_upper s.lower s.upper r t h n.0 n.1 z (before t r) (before r t) refl refl }
