use Rattle.std.proofs.Common.{arith, ◌≡◌, ◌∙◌, ap, sym}
use Rattle.mob_ratio.{specs.Ratio.{Ratio, ◌-ℚ◌, ◌/ℚ◌}, specs.Order.{same}, specs.Sign.{nil}, proofs.Order.{same_exact, same_truth}, proofs.Clear.{clear1, cleared}, proofs.IntRing.{linear}}
use Rattle.mob_compare.proofs.ever.taken.in_one_ratio.Goals as goal

minus_nil : (a : Ratio) → a -ℚ nil ≡ a
minus_nil = clear1 _ (λ D a p. simp cleared (omega (arith, linear)))

wide_is : (b z d : Ratio) → z ≡ nil → d ≡ b -ℚ z → d ≡ b
wide_is b z d e h = h ∙ ap (λ z. b -ℚ z) e ∙ minus_nil b

pub same_ratio-requires : goal.same_ratio-requires
same_ratio-requires c = record {
  left = λ e. c.requires.left (sym (wide_is c.args.b.now c.zero-zero.result c.difference-2.result c.zero-zero.ensures.value c.difference-2.ensures.value) ∙ e);
  right = λ e. c.requires.right (sym (wide_is c.args.d.now c.zero-zero.result c.difference-4.result c.zero-zero.ensures.value c.difference-4.ensures.value) ∙ e);
}

pub returns : goal.returns
returns c =
    let p = wide_is c.args.a.now c.zero-zero.result c.difference.result c.zero-zero.ensures.value c.difference.ensures.value in
    let q = wide_is c.args.b.now c.zero-zero.result c.difference-2.result c.zero-zero.ensures.value c.difference-2.ensures.value in
    let r = wide_is c.args.c.now c.zero-zero.result c.difference-3.result c.zero-zero.ensures.value c.difference-3.ensures.value in
    let s = wide_is c.args.d.now c.zero-zero.result c.difference-4.result c.zero-zero.ensures.value c.difference-4.ensures.value in
    let left = ap (λ z. z /ℚ c.difference-2.result) p ∙ ap (λ z. c.args.a.now /ℚ z) q in
    let right = ap (λ z. z /ℚ c.difference-4.result) r ∙ ap (λ z. c.args.c.now /ℚ z) s in
    record {
      same = same_truth c.same_ratio.result (same (c.args.a.now /ℚ c.args.b.now) (c.args.c.now /ℚ c.args.d.now))
          (λ h. (same_exact (c.args.a.now /ℚ c.args.b.now) (c.args.c.now /ℚ c.args.d.now)).1 (sym left ∙ c.same_ratio.ensures.same.0 h ∙ right))
          (λ h. c.same_ratio.ensures.same.1 (left ∙ (same_exact (c.args.a.now /ℚ c.args.b.now) (c.args.c.now /ℚ c.args.d.now)).0 h ∙ sym right));
    }
