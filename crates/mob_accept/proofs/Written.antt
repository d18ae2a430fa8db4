-- Accepted texts are in written order: their tokens are sorted, the places of the trees are places
-- of tokens, and the literals are gathered in the order of the trees.
use Rattle.std.{specs.List.{AllByRecursion}, proofs.Common.{◌≤◌, arith, ℕ, List, [], ◌∷◌, map}}
use Rattle.mob_chars.{specs.declared.token.Token.{Token}, specs.Layout.{InTextOrder}, proofs.Along.{are_in_order}}
use Rattle.mob_parse.proofs.Places.{stands_in_text}
use Rattle.mob_accept.{specs.Written.{AreWritten, TreesRise}, proofs.InOrder.{Rising, typing_keeps_order}, proofs.OnParts.{rises_within}}
use Rattle.mob_list.proofs.Each.{each_on}

abbrev begins : List Token → List ℕ
begins ts = map (λ t. t.from) ts

begin_from : (p e : ℕ) (ts : List Token) → InTextOrder p e ts → AllByRecursion (λ q. p ≤ q) (begins ts)
begin_from p e [] h = tt
begin_from p e (t ∷ ts) h =
    let first = h.0 in
    let goes_on = h.1 in
    (first, each_on (λ q. t.to ≤ q) (λ q. p ≤ q) (λ q le. omega arith) (begins ts) (begin_from t.to e ts h.2))

begins_rise : (p e : ℕ) (ts : List Token) → InTextOrder p e ts → Rising (begins ts)
begins_rise p e [] h = tt
begins_rise p e (t ∷ ts) h =
    let goes_on = h.1 in
    (each_on (λ q. t.to ≤ q) (λ q. t.from ≤ q) (λ q le. omega arith) (begins ts) (begin_from t.to e ts h.2), begins_rise t.to e ts h.2)

pub trees_rise : TreesRise
trees_rise bytes x (u, (l, (ts, are, is), d)) = rises_within (λ p q. p ≤ q) (stands_in_text bytes x ts (u, (l, (ts, are, is), d)) are) (begins_rise 0 _ ts (are_in_order bytes ts are))

pub are_written : AreWritten
are_written bytes out h = typing_keeps_order h.trees out (trees_rise bytes h.trees h.script.read.tree) h.script.typed
