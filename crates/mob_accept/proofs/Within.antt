-- Ordered tokens lie within their text.
use Rattle.std.proofs.Common.{◌≤◌, arith, ℕ, List, [], ◌∷◌}
use Rattle.mob_chars.{specs.declared.token.Token.{Token}, specs.Layout.{InTextOrder}}

pub ends_later : (p e : ℕ) (ts : List Token) → InTextOrder p e ts → p ≤ e
ends_later p e [] order = order
ends_later p e (t ∷ ts) order = let rest = ends_later t.to e ts order.2 in omega arith
