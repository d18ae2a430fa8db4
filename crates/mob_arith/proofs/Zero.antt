-- The number 0.
use Rattle.std.{specs.Prelude.{IsTrue, ◌↔◌, pos}, proofs.Common.{◌≡◌, Bool, false, sym, ◌∙◌, true≢false}}
use Rattle.mob_ratio.{specs.Ratio.{Ratio, whole}, specs.Order.{same}, proofs.Order.{same_exact, same_truth}}
use Rattle.mob_arith.specs.Sql.Arithmetic.{is_nil}

-- a test with the meaning of `same` is `same`
pub is_same_test : (b : Bool) (x y : Ratio) → IsTrue b ↔ (x ≡ y) → b ≡ same x y
is_same_test b x y h = same_truth b (same x y) (λ e. (same_exact x y).1 (h.0 e)) (λ e. h.1 ((same_exact x y).0 e))

pub not_nil : (x : Ratio) (b : Bool) → b ≡ is_nil x → b ≡ false → x ≡ whole (pos 0) → ⊥
not_nil x b is unset e = true≢false (sym ((same_exact x (whole (pos 0))).1 e) ∙ sym is ∙ unset)
