use Rattle.std.proofs.Common.{rules, ◌≡◌, ◌↔◌, ◌∙◌, Bool, true, false, true≢false, inl, inr, refl, sym}
use Rattle.mob_ratio.{specs.Ratio.{Ratio, ◌<ℚ◌, ◌≤ℚ◌}, specs.Sign.{nil}, proofs.Field.{cases_lt, not_both}}
use Rattle.mob_tile.proofs.grid.Grid.new.Goals as goal

refused : (x : Ratio) (b : Bool) → (b ≡ true) ↔ (nil <ℚ x) → b ≡ false → x ≤ℚ nil
refused x b e f = elim (cases_lt nil x) [ inl h ↦ absurd (true≢false (sym (e.1 h) ∙ f)) | inr k ↦ k ]

pub returns-then-not-is_positive-clause-none : goal.returns-then-not-is_positive-clause-none
returns-then-not-is_positive-clause-none c =
    let no : c.is_positive.result ≡ false = search rules in
    (λ _. inl (refused c.args.size c.is_positive.result c.is_positive.ensures.exact no), λ _. refl)

pub returns-then-not-is_positive-2-clause-none : goal.returns-then-not-is_positive-2-clause-none
returns-then-not-is_positive-2-clause-none c =
    let no : c.is_positive-2.result ≡ false = search rules in
    (λ _. inr (refused c.args.width c.is_positive-2.result c.is_positive-2.ensures.exact no), λ _. refl)

pub invariant_of-result : goal.invariant_of-result
invariant_of-result c =
    let size : c.is_positive.result ≡ true = search rules in
    let width : c.is_positive-2.result ≡ true = search rules in
    record { some_size = c.is_positive.ensures.exact.0 size; some_width = c.is_positive-2.ensures.exact.0 width }

pub returns-clause-none : goal.returns-clause-none
returns-clause-none c =
    let size : c.is_positive.result ≡ true = search rules in
    let width : c.is_positive-2.result ≡ true = search rules in (
      λ z. absurd (true≢false z),
      λ k. elim k [ inl a ↦ absurd (not_both nil c.args.size (c.is_positive.ensures.exact.0 size) a) | inr a ↦ absurd (not_both nil c.args.width (c.is_positive-2.ensures.exact.0 width) a) ],
    )
