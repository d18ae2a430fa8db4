use Rattle.std.{specs.Prelude.{IsUtf8}, specs.Str.{is_utf8}, proofs.Common.{◌≡◌, List, ℕ, Bool, true, false, sym, refl, ap, subst, Vec, Global}}
use Rattle.std.proofs.lemmas.Str.{is_utf8-from_IsUtf8, IsUtf8-from_is_utf8, IsUtf8-string_bytes}
use Rattle.mob_scalar.proofs.quoted.text_of.Goals as goal

not_utf8 : (bs : List ℕ) → (IsUtf8 bs → ⊥) → false ≡ is_utf8 bs
not_utf8 bs h = by_test (is_utf8 bs) refl
  where
    by_test : (b : Bool) → is_utf8 bs ≡ b → false ≡ b
    by_test true e = absurd (h (IsUtf8-from_is_utf8 bs e))
    by_test false e = refl

pub returns-in-Ok-clause-there : goal.returns-in-Ok-clause-there
returns-in-Ok-clause-there c = sym (is_utf8-from_IsUtf8 c.args.bytes.items (subst IsUtf8 (ap (λ (v : Vec ℕ Global). v.items) c.in-Ok.ensures.ok) (IsUtf8-string_bytes c.in-Ok.text)))

pub returns-clause-there : goal.returns-clause-there
returns-clause-there c = not_utf8 c.args.bytes.items (λ u. let k = c.in-Err.ensures.succeeds u in cc)
