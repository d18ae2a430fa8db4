-- A text that is refused for its own content has one refusal.
use Rattle.std.{specs.Prelude.{◌⊎◌}, proofs.Common.{arith, ◌≡◌, ◌∙◌, ◌≤◌, sym, inl, inr, ℕ, List, length}}
use Rattle.mob_ast.specs.declared.refusal.Refusal.{Refusal}
use Rattle.mob_parse.proofs.Refused.{no_tree, one_refusal as one_first}
use Rattle.mob_accept.{specs.Accepts.{IsNoScript, IsWrongName, script_limit}, specs.Outcomes.{HasOneTextRefusal}, proofs.OneScript.{one_text}}

no_script_once : (bytes : List ℕ) (d e : Refusal) → IsNoScript bytes d → IsNoScript bytes e → d ≡ e
no_script_once bytes d e h k = elim (one_first bytes d e h.cause k.cause) [
  | inl memory ↦ absurd (h.other memory)
  | inr more ↦ elim more [ inl memory ↦ absurd (k.other memory) | inr same ↦ same ]
]

has_no_trees : (bytes : List ℕ) (d e : Refusal) → IsNoScript bytes d → IsWrongName bytes e → ⊥
has_no_trees bytes d e h k = h.other (no_tree d.kind bytes d h.cause k.trees k.read.tree k.read.light)

wrong_name_once : (bytes : List ℕ) (d e : Refusal) → IsWrongName bytes d → IsWrongName bytes e → d ≡ e
wrong_name_once bytes d e h k =
    let trees = one_text bytes h.trees k.trees h.read.tree k.read.tree in
    let one = h.first in
    let other = k.first in
    cc

-- the text of either refusal is not too long
is_short : (bytes : List ℕ) (e : Refusal) → IsNoScript bytes e ⊎ IsWrongName bytes e → length bytes ≤ script_limit
is_short bytes e (inl h) = h.short
is_short bytes e (inr h) = h.read.short

pub one_refusal : HasOneTextRefusal
one_refusal bytes d e (inl h) (inl k) = h.says ∙ sym k.says
one_refusal bytes d e (inl h) (inr k) = let long = h.long in let short = is_short bytes e k in absurd (omega (arith, long, short))
one_refusal bytes d e (inr h) (inl k) = let long = k.long in let short = is_short bytes d h in absurd (omega (arith, long, short))
one_refusal bytes d e (inr (inl h)) (inr (inl k)) = no_script_once bytes d e h k
one_refusal bytes d e (inr (inl h)) (inr (inr k)) = absurd (has_no_trees bytes d e h k)
one_refusal bytes d e (inr (inr h)) (inr (inl k)) = absurd (has_no_trees bytes e d k h)
one_refusal bytes d e (inr (inr h)) (inr (inr k)) = wrong_name_once bytes d e h k
