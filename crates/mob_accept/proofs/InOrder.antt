-- If the literals and rows of the trees are in order, the typed script is in written order.
use Rattle.std.{specs.List.{AllByRecursion}, proofs.Common.{◌≡◌, ◌≤◌, ◌+◌, ◌∙◌, arith, sym, ap, subst, inl, inr, ℕ, List, [], ◌∷◌, ◌++◌, append_assoc, append-nil}}
use Rattle.mob_ast.specs.Trees.{StatementParts}
use Rattle.mob_typed.{specs.declared.typed.ConstText.{ConstText}, specs.Statements.{ScriptOut}, specs.Written.{HasRisingRows, LiteralUpTo, Rises}, proofs.Rising.{both_rise}}
use Rattle.mob_typing.{specs.Names.{NameLists}, proofs.Walk.{Belongs, places_of}, proofs.WalkedScripts.{AreMade, none_made, one_made, script_made}}
use Rattle.mob_list.proofs.Each.{each_both, each_on}
use Rattle.mob_grammar.{specs.Places.{statement_places, script_places}, proofs.Within.{within_all, within_back, within_front}}
use Rattle.mob_accept.{specs.Written.{TypingKeepsOrder}, proofs.OnParts.{rises_within}}

-- sorted places
abbrev pub Rising : List ℕ → Type 0
Rising ps = Rises (λ p q. p ≤ q) ps

abbrev BelongsFrom : ℕ → ConstText → Type 0
BelongsFrom n c = n ≤ c.statement

-- the literals of one statement are sorted by their places
all_literals : (n : ℕ) (c : ConstText) (cs : List ConstText) → Belongs n c → AllByRecursion (Belongs n) cs → AllByRecursion (λ p. c.place ≤ p) (places_of cs) → AllByRecursion (LiteralUpTo c) cs
all_literals n c [] is own up = tt
all_literals n c (d ∷ cs) is own up = (inr (is ∙ sym own.0, up.0), all_literals n c cs is own.1 up.1)

own_rise : (n : ℕ) (cs : List ConstText) → AllByRecursion (Belongs n) cs → Rising (places_of cs) → Rises LiteralUpTo cs
own_rise n [] own up = tt
own_rise n (c ∷ cs) own up = (all_literals n c cs own.0 own.1 up.0, own_rise n cs own.1 up.1)

-- what the statements from number n on add: sorted literals and sorted brackets
record Stands (n : ℕ) (before : List ConstText) (out : ScriptOut) : Type 0 where
  new : List ConstText
  is : out.consts ≡ before ++ new
  rises : Rises LiteralUpTo new
  later : AllByRecursion (BelongsFrom n) new
  rows : AllByRecursion HasRisingRows out.statements

script_stands : {At : ℕ → ℕ → Type 0} {n : ℕ} {names : NameLists} {cs : List ConstText} {ss : List StatementParts} {out : ScriptOut} → AreMade At n names cs ss out → Rising (script_places ss) → Stands n cs out
script_stands (none_made {cs = cs}) up = record { new = []; is = sym (append-nil cs); rises = tt; later = tt; rows = tt }
script_stands (one_made {n = n} {cs = cs} {s = s} {ss = ss} adds made others) up =
    let own : Rising (statement_places s) = rises_within (λ p q. p ≤ q) (within_front (script_places ss) (within_all (statement_places s))) up in
    let rest = script_stands others (rises_within (λ p q. p ≤ q) (within_back (statement_places s) (within_all (script_places ss))) up) in
    record {
      new = adds.new ++ rest.new;
      is = rest.is ∙ ap (λ x. x ++ rest.new) adds.is ∙ append_assoc cs adds.new rest.new;
      rises = both_rise LiteralUpTo (λ c. c.statement) (λ c d earlier. inl earlier) n adds.new rest.new (own_rise n adds.new adds.own (rises_within (λ p q. p ≤ q) adds.within own)) adds.own rest.rises rest.later;
      later =
          each_both (BelongsFrom n) adds.new rest.new (each_on (Belongs n) (BelongsFrom n) (λ c is. omega arith) adds.new adds.own) (each_on (BelongsFrom (n + 1)) (BelongsFrom n) (λ c le. omega arith) rest.new rest.later);
      rows = (rises_within (λ p q. p ≤ q) made.rows own, rest.rows);
    }

pub typing_keeps_order : TypingKeepsOrder
typing_keeps_order ss out up typed =
    let h = script_stands (script_made ss out typed) up in record { literals = subst (Rises LiteralUpTo) (sym h.is) h.rises; rows = h.rows }
