-- The walk over scripts, statement by statement.
use Rattle.std.{specs.List.{AllByRecursion, Contains, IsDistinct, flat_map}, specs.Str.{bytes_eq}}
use Rattle.std.proofs.Common.{◌≡◌, ◌+◌, ◌∙◌, refl, sym, ap, subst, arith, ℕ, List, [], ◌∷◌, ◌++◌, append_assoc, append-nil, length, length-append, Result, Ok, Err}
use Rattle.std.proofs.lemmas.List.Elements.{Contains-append_right}
use Rattle.mob_ast.{specs.declared.refusal.Refusal.{Refusal}, specs.Trees.{StatementParts}}
use Rattle.mob_typed.{specs.declared.typed.ConstText.{ConstText}, specs.Statements.{StatementOut, ScriptOut}}
use Rattle.mob_list.proofs.Each.{each_on}
use Rattle.mob_scope.specs.declared.fault.Mistake.{Mistake}
use Rattle.mob_typing.{specs.Names.{NameLists}, specs.Statements.{Made, in_statement, or_refused, put_statement, typed_from, typed_script, no_names}}
use Rattle.mob_typing.specs.Stands.{IsSiteIn, OperatorsStand, OperatorsAreAtSites, TypingRefusesAtSites}
use Rattle.mob_typing.specs.WellTyped.{AreTypedStatements, IsTypedStatement, TypingGivesWellTyped, table_made, index_made, TypingKeepsNamesApart}
use Rattle.mob_typing.{proofs.Walk.{GivesOrStops, gives, stops, Adds, Steps}, proofs.Sound.{statement_stays}, proofs.WalkedSelects.{named}}
use Rattle.mob_typing.proofs.WalkedStatements.{names_of, KeepsApart, IsMade, statement_walked}
use Rattle.mob_grammar.{specs.Places.{statement_places}, specs.Sites.{statement_sites}}

-- how a typed script is made: for each tree in order its statement, with the constants that it
-- appends; operators are at such places of their statements
pub data AreMade (At : ℕ → ℕ → Type 0) : ℕ → NameLists → List ConstText → List StatementParts → ScriptOut → Type 0 where
  none_made : {n : ℕ} {names : NameLists} {cs : List ConstText} → AreMade At n names cs [] (record { statements = []; consts = cs })
  one_made : {n : ℕ} {names : NameLists} {cs ds : List ConstText} {s : StatementParts} {ss : List StatementParts} {m : Made} {out : ScriptOut}
      → Adds n (statement_places s) cs ds → IsMade (At n) names (statement_places s) ds m → AreMade At (n + 1) m.names ds ss out → AreMade At n names cs (s ∷ ss) (put_statement m.statement out)

-- a script has a value with this property, or stops in a statement at such a place
pub data ScriptGivesOrStops (At : ℕ → ℕ → Type 0) (Gives : ScriptOut → Type 0) : Result ScriptOut Refusal → Type 0 where
  script_gives : {out : ScriptOut} → Gives out → ScriptGivesOrStops At Gives (Ok out)
  script_stops : {e : Refusal} → At e.statement e.place → ScriptGivesOrStops At Gives (Err e)

-- the sites of the trees are such places of their statements, numbered from n
abbrev pub AllSites : (ℕ → ℕ → Type 0) → ℕ → List StatementParts → Type 0
AllSites At n [] = Unit {0}
AllSites At n (s ∷ ss) = AllByRecursion (At n) (statement_sites s) × AllSites At (n + 1) ss

module _ (At : ℕ → ℕ → Type 0) where
  others_follow : {Q P : ScriptOut → Type 0} {r : Result ScriptOut Refusal} (s : StatementOut) → ScriptGivesOrStops At Q r → ((out : ScriptOut) → Q out → P (put_statement s out)) → ScriptGivesOrStops At P (or_refused r (λ out. Ok (put_statement s out)))
  others_follow s (script_gives q) k = script_gives (k _ q)
  others_follow s (script_stops at) k = script_stops at

  statement_first : {Q : Made × List ConstText → Type 0} {P : ScriptOut → Type 0} {r : Result (Made × List ConstText) Mistake} {f : Made × List ConstText → Result ScriptOut Refusal} (n : ℕ) → GivesOrStops (At n) Q r
      → ((x : Made × List ConstText) → Q x → ScriptGivesOrStops At P (f x)) → ScriptGivesOrStops At P (or_refused (in_statement n r) f)
  statement_first n (gives q) k = k _ q
  statement_first n (stops at) k = script_stops at

  pub statements_walked : (n : ℕ) (names : NameLists) (ss : List StatementParts) (cs : List ConstText) → AllSites At n ss → ScriptGivesOrStops At (AreMade At n names cs ss) (typed_from n names ss cs)
  statements_walked n names [] cs h = script_gives none_made
  statements_walked n names (s ∷ ss) cs h =
      statement_first n (statement_walked (At n) names n s cs h.0) (λ x q. others_follow x.0.statement (statements_walked (n + 1) x.0.names ss x.1 h.1) (λ out made. script_gives_more x q out made))
    where
      script_gives_more : (x : Made × List ConstText) → Steps n (statement_places s) (IsMade (At n) names (statement_places s)) cs x → (out : ScriptOut) → AreMade At (n + 1) x.0.names x.1 ss out → AreMade At n names cs (s ∷ ss) (put_statement x.0.statement out)
      script_gives_more x q out made = one_made q.adds q.sound made

-- what a typed script gives, and what a refused one gives
given : {At : ℕ → ℕ → Type 0} {P : ScriptOut → Type 0} {out : ScriptOut} → ScriptGivesOrStops At P (Ok out) → P out
given (script_gives h) = h

stopped : {At : ℕ → ℕ → Type 0} {P : ScriptOut → Type 0} {e : Refusal} → ScriptGivesOrStops At P (Err e) → At e.statement e.place
stopped (script_stops h) = h

abbrev pub Anywhere : ℕ → ℕ → Type 0
Anywhere n p = Unit {0}

anywhere : (n : ℕ) (ss : List StatementParts) → AllSites Anywhere n ss
anywhere n [] = tt
anywhere n (s ∷ ss) = (all_anywhere (statement_sites s), anywhere (n + 1) ss)
  where
    all_anywhere : (ps : List ℕ) → AllByRecursion (λ p. Unit {0}) ps
    all_anywhere [] = tt
    all_anywhere (p ∷ ps) = (tt, all_anywhere ps)

-- if the sites of the trees are such places, a script is made in this way or stops at one of them
module _ (At : ℕ → ℕ → Type 0) (ss : List StatementParts) (sites : AllSites At 1 ss) where
  pub script_made_at : (out : ScriptOut) → typed_script ss ≡ Ok out → AreMade At 1 no_names [] ss out
  script_made_at out typed = given (subst (ScriptGivesOrStops At (AreMade At 1 no_names [] ss)) typed (statements_walked At 1 no_names ss [] sites))

  pub script_stops_inside : (e : Refusal) → typed_script ss ≡ Err e → At e.statement e.place
  script_stops_inside e wrong = stopped (subst (ScriptGivesOrStops At (AreMade At 1 no_names [] ss)) wrong (statements_walked At 1 no_names ss [] sites))

pub script_made : (ss : List StatementParts) (out : ScriptOut) → typed_script ss ≡ Ok out → AreMade Anywhere 1 no_names [] ss out
script_made ss out typed = script_made_at Anywhere ss (anywhere 1 ss) out typed

-- the constants of a script follow those before it
follows : {At : ℕ → ℕ → Type 0} {n : ℕ} {names : NameLists} {cs : List ConstText} {ss : List StatementParts} {out : ScriptOut} → AreMade At n names cs ss out → (new : List ConstText) × (out.consts ≡ cs ++ new)
follows (none_made {cs = cs}) = ([], sym (append-nil cs))
follows (one_made {cs = cs} adds made others) = let rest = follows others in (adds.new ++ rest.0, rest.1 ∙ ap (λ x. x ++ rest.0) adds.is ∙ append_assoc cs adds.new rest.0)

are_typed : {At : ℕ → ℕ → Type 0} {n : ℕ} {names : NameLists} {cs : List ConstText} {ss : List StatementParts} {out : ScriptOut} → AreMade At n names cs ss out → AreTypedStatements (named names.tables) out.consts out.statements
are_typed none_made = tt
are_typed (one_made {names = names} {ds = ds} {m = m} {out = out} adds made others) =
    let rest = follows others in
    (subst (λ cs. IsTypedStatement (named names.tables) cs m.statement) (sym rest.1) (statement_stays (named names.tables) m.statement ds rest.0 made.typed), subst (λ ts. AreTypedStatements ts out.consts out.statements) made.behind (are_typed others))

pub typing_gives_well_typed : TypingGivesWellTyped
typing_gives_well_typed ss out typed = are_typed (script_made ss out typed)

-- the names of the tables and indexes that statements make are distinct from those before them
tables_apart : {At : ℕ → ℕ → Type 0} {n : ℕ} {names : NameLists} {cs : List ConstText} {ss : List StatementParts} {out : ScriptOut} → AreMade At n names cs ss out → KeepsApart (names_of names.tables) (flat_map table_made out.statements)
tables_apart (none_made {names = names}) h = subst (IsDistinct bytes_eq) (sym (append-nil (names_of names.tables))) h
tables_apart (one_made {names = names} {m = m} {out = out} adds made others) h =
    let rest = flat_map table_made out.statements in
    subst (IsDistinct bytes_eq) (ap (λ ns. ns ++ rest) made.tables ∙ append_assoc (names_of names.tables) (table_made m.statement) rest)
    (tables_apart others (subst (IsDistinct bytes_eq) (sym made.tables) (made.apart.0 h)))

indexes_apart : {At : ℕ → ℕ → Type 0} {n : ℕ} {names : NameLists} {cs : List ConstText} {ss : List StatementParts} {out : ScriptOut} → AreMade At n names cs ss out → KeepsApart names.indexes (flat_map index_made out.statements)
indexes_apart (none_made {names = names}) h = subst (IsDistinct bytes_eq) (sym (append-nil names.indexes)) h
indexes_apart (one_made {names = names} {m = m} {out = out} adds made others) h =
    let rest = flat_map index_made out.statements in
    subst (IsDistinct bytes_eq) (ap (λ ns. ns ++ rest) made.indexes ∙ append_assoc names.indexes (index_made m.statement) rest)
    (indexes_apart others (subst (IsDistinct bytes_eq) (sym made.indexes) (made.apart.1 h)))

no_name : IsDistinct {K = List ℕ} bytes_eq []
unfolding IsDistinct
no_name = tt

pub typing_keeps_names_apart : TypingKeepsNamesApart
typing_keeps_names_apart ss out typed = let made = script_made ss out typed in record { tables = tables_apart made no_name; indexes = indexes_apart made no_name }

-- a list contains each of its elements
all_contained : (before ps : List ℕ) → AllByRecursion (Contains (before ++ ps)) ps
all_contained before [] = tt
all_contained before (p ∷ ps) = (Contains-append_right before (p ∷ ps) p (0, omega arith, refl), subst (λ all. AllByRecursion (Contains all) ps) (append_assoc before (p ∷ []) ps) (all_contained (before ++ p ∷ []) ps))

-- the same for the tree with this number in a script
own_sites : (trees front ss : List StatementParts) (n : ℕ) → trees ≡ front ++ ss → length front + 1 ≡ n → AllSites (IsSiteIn trees) n ss
own_sites trees front [] n parts number = tt
own_sites trees front (s ∷ ss) n parts number = (
  each_on (Contains (statement_sites s)) (IsSiteIn trees n) (λ p site. record { front = front; own = s; behind = ss; parts = parts; number = number; site = site }) (statement_sites s) (all_contained [] (statement_sites s)),
  own_sites trees (front ++ s ∷ []) ss (n + 1) (parts ∙ sym (append_assoc front (s ∷ []) ss)) (ap (λ k. k + 1) (length-append front (s ∷ []) ∙ number)),
)

pub operators_stand : {At : ℕ → ℕ → Type 0} {n : ℕ} {names : NameLists} {cs : List ConstText} {ss : List StatementParts} {out : ScriptOut} → AreMade At n names cs ss out → OperatorsStand At n out.statements
operators_stand none_made = tt
operators_stand (one_made adds made others) = (made.operators, operators_stand others)

pub operators_are_at_sites : OperatorsAreAtSites
operators_are_at_sites trees out typed = operators_stand (script_made_at (IsSiteIn trees) trees (own_sites trees [] trees 1 refl refl) out typed)

pub typing_refuses_at_sites : TypingRefusesAtSites
typing_refuses_at_sites trees e wrong = script_stops_inside (IsSiteIn trees) trees (own_sites trees [] trees 1 refl refl) e wrong
