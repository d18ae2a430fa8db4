-- Whether a point is on a line, as the code tests it.
use Rattle.std.{specs.Prelude.{◌≡◌, ◌≢◌, Bool, true, false, ◌↔◌, IsTrue, refl, pos}, proofs.Common.{ap, sym, ◌∙◌, subst}}
use Rattle.mob_ratio.{specs.Ratio.{Ratio, whole, ◌-ℚ◌, ◌/ℚ◌}, specs.Order.{before, up_to, same}, specs.Line.{line_at, line_continues}}
use Rattle.mob_ratio.{proofs.Order.{before-lt, before-trans, same_exact, same_truth, up_to-equal}, proofs.Divide.{sub_ne-zero}, proofs.LineAt.{line_at-lower, line_at-upper, slopes-same}}
use Rattle.mob_span.{specs.Span.{SpanOf, has_instant}, specs.Neighbours.{Meets}, proofs.SpanLemmas.{some_upto}}

pub at_first : (x0 x1 y l m u : Ratio) → up_to l m ≡ true → before l m ≡ false → same x0 x1 ≡ same (line_at x0 y l u m) x1
at_first x0 x1 y l m u h k = ap (λ x. same x x1) (sym (ap (λ t. line_at x0 y l u t) (sym (up_to-equal l m h k)) ∙ line_at-lower x0 y l u))

pub at_last : (x0 x1 y l m u : Ratio) → up_to m u ≡ true → before l m ≡ true → before m u ≡ false → same y x1 ≡ same (line_at x0 y l u m) x1
at_last x0 x1 y l m u h j k = let e = up_to-equal m u h k in ap (λ x. same x x1) (sym (ap (λ t. line_at x0 y l u t) e ∙ line_at-upper x0 y l u (subst (λ t. before l t ≡ true) e j)))

pub apart : (l m d : Ratio) → d ≡ m -ℚ l → before l m ≡ true → d ≢ whole (pos 0)
apart l m d e h = λ z. sub_ne-zero l m (before-lt l m h) (sym e ∙ z)

-- the point is on the line exactly if the slopes on both sides of it are equal
pub at_middle : (x0 x1 y l m u a b c d : Ratio) (r : Bool) → before l m ≡ true → before m u ≡ true → a ≡ x1 -ℚ x0 → b ≡ m -ℚ l → c ≡ y -ℚ x1 → d ≡ u -ℚ m → IsTrue r ↔ (a /ℚ b ≡ c /ℚ d) → r ≡ same (line_at x0 y l u m) x1
at_middle x0 x1 y l m u a b c d r h k ea eb ec ed f =
    let s = slopes-same x0 x1 y l m u h k (before-trans l m u h k) in
    let left : a /ℚ b ≡ (x1 -ℚ x0) /ℚ (m -ℚ l) = ap (λ z. z /ℚ b) ea ∙ ap (λ z. (x1 -ℚ x0) /ℚ z) eb in
    let right : c /ℚ d ≡ (y -ℚ x1) /ℚ (u -ℚ m) = ap (λ z. z /ℚ d) ec ∙ ap (λ z. (y -ℚ x1) /ℚ z) ed in
    same_truth r (same (line_at x0 y l u m) x1)
    (λ e. (same_exact (line_at x0 y l u m) x1).1 (s.0 (sym left ∙ f.0 e ∙ right)))
    (λ e. f.1 (left ∙ s.1 ((same_exact (line_at x0 y l u m) x1).0 e) ∙ sym right))

pub first_up_to : (s r : SpanOf) (l m : Ratio) → Meets s r → has_instant s ≡ true → l ≡ s.lower → m ≡ r.lower → up_to l m ≡ true
first_up_to s r l m k h e f = rw (e, f, ← k.at_one) (some_upto s h)

pub second_up_to : (r : SpanOf) (m u : Ratio) → has_instant r ≡ true → m ≡ r.lower → u ≡ r.upper → up_to m u ≡ true
second_up_to r m u h e f = rw (e, f) (some_upto r h)

pub one_line : (x0 x1 y0 y1 l m u m' : Ratio) → same x1 y0 ≡ true → m ≡ m' → same (line_at x0 y1 l u m') x1 ≡ line_continues x0 x1 y0 y1 l m u
unfolding line_continues
one_line x0 x1 y0 y1 l m u m' h e = rw (h, e) refl

pub two_lines : (x0 x1 y0 y1 l m u : Ratio) → same x1 y0 ≡ false → false ≡ line_continues x0 x1 y0 y1 l m u
unfolding line_continues
two_lines x0 x1 y0 y1 l m u h = rw h refl
