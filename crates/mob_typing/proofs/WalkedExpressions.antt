-- The walk over expressions. Their literals are gathered in written order, their leaves name what
-- exists, and their operators have their rows. Each operator and each mistake is at a place of the
-- tree.
use Rattle.std.{specs.Prelude.{IfSome, nat_le, nat_lt, not, codes, is_some, slice_get, option_map, option_and_then}, specs.List.{AllByRecursion}}
use Rattle.std.proofs.Common.{◌≡◌, ◌<◌, ◌∙◌, ◌+◌, arith, refl, sym, ap, subst, ℕ, List, [], ◌∷◌, ◌++◌, append_assoc, length, length-append, map, Bool, true, false, cond, Option, Some, None, Ok}
use Rattle.std.{proofs.lemmas.Bool.{not-false}, proofs.lemmas.Bool.Decides.{nat_tests}, proofs.lemmas.List.{length-map, map-append}, proofs.lemmas.Option.{slice_get_within}}
use Rattle.mob_ast.{specs.declared.types.Word.{Word}, specs.declared.types.TypeWord.{TypeWord}, specs.declared.types.SqlType.{SqlType}, specs.declared.expression.Node.{Node}}
use Rattle.mob_ast.specs.Trees.{Tree, tree, Trees, none as no_trees, more as more_trees}
use Rattle.mob_operators.{specs.declared.operator.Op.{Op}, specs.declared.operator.Spelling.{Spelling}, specs.Lookup.{found_in}, specs.Table.{table, is_irrational}}
use Rattle.mob_typed.{specs.declared.typed.ConstText.{ConstText}, specs.Trees.{TypedTree, typed, none, typed_trees, type_of, types_of}, specs.Statements.{ColumnList}}
use Rattle.mob_typed.specs.Named.{reads_before, names_before, all_name_before, reads_from, names_from, all_name_from}
use Rattle.mob_list.proofs.Each.{each_get, each_on, each_parts}
use Rattle.mob_list.proofs.Entries.{get_seam}
use Rattle.mob_scope.{specs.declared.scope.Found.{Found}, specs.Answers.{◌>>=◌, found}, specs.Names.{column_of, entry_from}, specs.Scopes.{ScopeTableParts, ScopeParts}}
use Rattle.mob_scope.specs.Columns.{with_first, matches, the_one, column_among, in_from, column_named}
use Rattle.mob_expression.{specs.Steps.{TypingTurn}, specs.Words.{type_named, literal_type, number_type, is_zero}}
use Rattle.mob_expression.specs.Expressions.{constant, lone_string, cast_of_string, typed_before_operands, is_signed, signed_digits, digits_of, digits_in, divisor_of, divides_by_zero, applied}
use Rattle.mob_expression.specs.Expressions.{operated, can_cast_all, finished, or_later, typed_expression, typed_operands}
use Rattle.mob_grammar.{specs.Places.{IsWithin, nothing, same, literal_place, tree_places, trees_places}, specs.Sites.{word_sites, node_sites, tree_sites, trees_sites}}
use Rattle.mob_grammar.proofs.Within.{within_all, within_back}
use Rattle.mob_typing.specs.Stands.{operators_in}
use Rattle.mob_typing.specs.WellTyped.{column_type, from_type, HasNamedType, HasNamedTypes, IsNumberLiteral, the_number, HasDivisor, is_division, FitsArguments, IsOperated}
use Rattle.mob_typing.proofs.Walk.{GivesOrStops, gives, stops, then, also, passes, finds, adds_none, adds_one, adds_within, adds_both, Steps, Stays, still}
use Rattle.mob_typing.proofs.OperatorRows.{is_of_table, found_of_table, names_nothing, reads_nothing, row_fits, division_alone, has_row, own_cast, keeps_number, sign_keeps, behind_sign}
use Rattle.mob_typing.proofs.Sound.{slice_more, slice_behind, slice_map, both_true, all_above, all_below, entry_stands, part_here, constant_here, literal_stays, operands_hold}
use Rattle.mob_typing.proofs.Sound.{all_operated, all_placed, types_are, IsSound, sound_stays}
use Rattle.mob_ast.specs.declared.types.SqlType.TheVariants as sql
use Rattle.mob_ast.specs.declared.refusal.Kind.TheVariants as kind
use Rattle.mob_ast.specs.declared.expression.Node.TheVariants as node
use Rattle.mob_operators.specs.declared.operator.Op.TheVariants as op
use Rattle.mob_operators.specs.declared.operator.Spelling.TheVariants as form

-- the tables of FROM exist under their numbers
abbrev pub AreThere : List ColumnList → List (List ℕ × ScopeTableParts) → Type 0
AreThere tables from = AllByRecursion (λ s. slice_get tables s.1.table ≡ Some s.1.columns) from

abbrev pub numbers_of : List (List ℕ × ScopeTableParts) → List ℕ
numbers_of from = map (λ t. t.1.table) from

-- the place of a lone string is among those of its trees
lone_stands : (At : ℕ → Type 0) (args : Trees) → AllByRecursion At (trees_sites args) → IfSome (lone_string args) (λ x. IsWithin (x.1 ∷ []) (trees_places args) × At x.1)
lone_stands At no_trees h = tt
lone_stands At (more_trees (tree (node.Str s) p us) no_trees) h = (same nothing, h.0)
lone_stands At (more_trees (tree nd p us) no_trees) h = tt
lone_stands At (more_trees t (more_trees u us)) h = tt

-- columns among tables of FROM that are counted from 0
module _ (At : ℕ → Type 0) (tables : List ColumnList) (seen : List (List ℕ × ScopeTableParts)) (there : AreThere tables seen) where
  -- a column that is found has its type
  abbrev IsAmong : Found → Type 0
  IsAmong f = from_type tables (numbers_of seen) f.from f.column ≡ Some f.ty

  found_there : (n : ℕ) (t : List ℕ × ScopeTableParts) (name : List ℕ) (k : ℕ × SqlType) → slice_get seen n ≡ Some t → column_of t.1.columns name ≡ Some k → from_type tables (numbers_of seen) n k.0 ≡ Some k.1
  found_there n t name k at is =
      let column = entry_stands [] t.1.columns name k is in
      ap (option_and_then (λ j. column_type tables j k.0)) (slice_map (λ (x : List ℕ × ScopeTableParts). x.1.table) seen n t at)
      ∙ ap (option_and_then (λ (columns : ColumnList). option_map (λ c. c.1) (slice_get columns k.0))) (each_get (λ (x : List ℕ × ScopeTableParts). slice_get tables x.1.table ≡ Some x.1.columns) seen n t there at)
      ∙ ap (option_map (λ (c : List ℕ × SqlType). c.1)) column.1 ∙ ap (λ ty. Some ty) column.2

  matches_there : (before behind : List (List ℕ × ScopeTableParts)) (name : List ℕ) → before ++ behind ≡ seen → AllByRecursion IsAmong (matches (length before) behind name)
  matches_there before [] name parts = tt
  matches_there before (t ∷ behind) name parts =
      by (column_of t.1.columns name) refl (subst (λ n. AllByRecursion IsAmong (matches n behind name)) (length-append before (t ∷ [])) (matches_there (before ++ t ∷ []) behind name (append_assoc before (t ∷ []) behind ∙ parts)))
    where
      at : slice_get seen (length before) ≡ Some t
      at = ap (λ xs. slice_get xs (length before)) (sym parts) ∙ get_seam before t behind

      by : (o : Option (ℕ × SqlType)) → column_of t.1.columns name ≡ o → AllByRecursion IsAmong (matches (length before + 1) behind name) → AllByRecursion IsAmong (with_first o (length before) (matches (length before + 1) behind name))
      by None is others = others
      by (Some k) is others = (found_there (length before) t name k at is, others)

  one_found : (p : ℕ) (fs : List Found) → At p → AllByRecursion IsAmong fs → GivesOrStops At IsAmong (the_one p fs)
  one_found p [] at h = stops at
  one_found p (f ∷ []) at h = gives h.0
  one_found p (f ∷ g ∷ fs) at h = stops at

  among_walked : (t : Option Word) (c : Word) → AllByRecursion At (c.place ∷ word_sites t) → GivesOrStops At IsAmong (column_among seen t c)
  among_walked None c h = one_found c.place (matches 0 seen c.text) h.0 (matches_there [] seen c.text refl)
  among_walked (Some t) c h =
      then (finds kind.UnknownName t.place (entry_from 0 seen t.text) h.1.0) (λ f at.
      then (finds kind.UnknownName c.place (column_of f.1.columns c.text) h.0) (λ k is.
      let entry = entry_stands [] seen t.text f at in
      gives (found_there f.0 entry.0 c.text k entry.1 (ap (λ (x : ScopeTableParts). column_of x.columns c.text) entry.2 ∙ is))))

-- an expression sees a part of the tables of FROM, from its first table on
pub record IsPart (all : List (List ℕ × ScopeTableParts)) (s : ScopeParts) : Type 0 where
  pub before : List (List ℕ × ScopeTableParts)
  pub behind : List (List ℕ × ScopeTableParts)
  pub parts : before ++ (s.from ++ behind) ≡ all
  pub number : length before ≡ s.first

module _ (At : ℕ → Type 0) (tables : List ColumnList) (all : List (List ℕ × ScopeTableParts)) (there : AreThere tables all) (s : ScopeParts) (part : IsPart all s) where
  abbrev from : List ℕ
  from = numbers_of all

  abbrev past : ℕ
  past = s.first + length s.from

  abbrev Holds : List ConstText → TypedTree → Type 0
  Holds cs t = IsSound At tables from s.first past cs t

  -- an expression with these digits is a number literal with this text
  abbrev Reads : Option (List ℕ) → List ConstText → TypedTree → Type 0
  Reads digits cs t = Holds cs t × IfSome digits (λ text. IsNumberLiteral cs text t)

  -- operands are read as their trees
  abbrev ReadAs : Trees → List ConstText → List TypedTree → Type 0
  ReadAs no_trees cs [] = Unit {0}
  ReadAs (more_trees t us) cs (x ∷ xs) = Reads (digits_of t) cs x × ReadAs us cs xs
  ReadAs _ cs _ = ⊥

  -- a column that is found has its type, and is in a table that the expression sees
  abbrev pub IsFound : Found → Type 0
  IsFound f = (from_type tables from f.from f.column ≡ Some f.ty) × ((nat_le s.first f.from ≡ true) × (nat_lt f.from past ≡ true))

  seen_there : AreThere tables s.from
  seen_there = (each_parts Named s.from part.behind (each_parts Named part.before (s.from ++ part.behind) (subst (AllByRecursion Named) (sym part.parts) there)).1).0
    where
      Named : List ℕ × ScopeTableParts → Type 0
      Named x = slice_get tables x.1.table ≡ Some x.1.columns

  -- the number in FROM of a table that the expression sees
  number_seen : (n : ℕ) (t : ℕ) → slice_get (numbers_of s.from) n ≡ Some t → slice_get from (s.first + n) ≡ Some t
  number_seen n t at =
      let number : List ℕ × ScopeTableParts → ℕ = λ x. x.1.table in
      let long : length (numbers_of part.before) ≡ s.first = length-map part.before number ∙ part.number in
      let whole : numbers_of part.before ++ (numbers_of s.from ++ numbers_of part.behind) ≡ from =
      ap (λ ys. numbers_of part.before ++ ys) (sym (map-append number s.from part.behind)) ∙ sym (map-append number part.before (s.from ++ part.behind)) ∙ ap (map number) part.parts in
      subst (λ xs. slice_get xs (s.first + n) ≡ Some t) whole
      (subst (λ k. slice_get (numbers_of part.before ++ (numbers_of s.from ++ numbers_of part.behind)) (k + n) ≡ Some t) long
      (slice_behind (numbers_of part.before) (numbers_of s.from ++ numbers_of part.behind) n t (slice_more (numbers_of s.from) (numbers_of part.behind) n t at)))

  found_in_from : (f : Found) → from_type tables (numbers_of s.from) f.from f.column ≡ Some f.ty → IsFound (in_from s.first f)
  found_in_from f is = by (slice_get (numbers_of s.from) f.from) refl
    where
      by : (o : Option ℕ) → slice_get (numbers_of s.from) f.from ≡ o → IsFound (in_from s.first f)
      by None at = let missing : ◌≡◌ {A = Option SqlType} None (Some f.ty) = sym (ap (option_and_then (λ t. column_type tables t f.column)) at) ∙ is in absurd (cc)
      by (Some t) at =
          let within : f.from < length s.from = subst (λ k. f.from < k) (length-map s.from (λ (x : List ℕ × ScopeTableParts). x.1.table)) (slice_get_within (numbers_of s.from) f.from t at) in
          (ap (option_and_then (λ t. column_type tables t f.column)) (number_seen f.from t at) ∙ sym (ap (option_and_then (λ t. column_type tables t f.column)) at) ∙ is, (grind (arith, nat_tests), grind (arith, nat_tests, within)))

  pub column_walked : (t : Option Word) (c : Word) → AllByRecursion At (c.place ∷ word_sites t) → GivesOrStops At IsFound (column_named s t c)
  column_walked t c h = then (among_walked At tables s.from seen_there t c h) (λ f is. gives (found_in_from f is))

  -- what is typed before its operands appends its literals; if nothing is typed early, nothing is
  -- appended
  abbrev Settled : Option (List ℕ) → List ℕ → List ConstText → Option TypedTree → List ConstText → Type 0
  Settled digits ps cs None ds = ds ≡ cs
  Settled digits ps cs (Some t) ds = Steps s.statement ps (Reads digits) cs (t, ds)

  abbrev Settles : Option (List ℕ) → List ℕ → List ConstText → Option TypedTree × List ConstText → Type 0
  Settles digits ps cs x = Settled digits ps cs x.0 x.1

  constant_steps : (ty : SqlType) (text : List ℕ) (p : ℕ) (ps : List ℕ) (cs : List ConstText) → At p
      → Steps s.statement (p ∷ ps) (Reads None) cs (typed (op.Const (length cs)) ty p none, cs ++ record { ty = ty; text = text; statement = s.statement; place = p } ∷ [])
  constant_steps ty text p ps cs at =
      let c : ConstText = record { ty = ty; text = text; statement = s.statement; place = p } in
      record { adds = adds_one cs c; sound = (record { named = (constant_here cs c, tt); operated = (refl, tt); placed = (at, tt); above = refl; below = refl }, tt) }

  number_steps : (text : List ℕ) (p : ℕ) (ps : List ℕ) (cs : List ConstText) → At p
      → Steps s.statement (p ∷ ps) (Reads (Some text)) cs (typed (op.Const (length cs)) (number_type text) p none, cs ++ record { ty = number_type text; text = text; statement = s.statement; place = p } ∷ [])
  number_steps text p ps cs at =
      let c : ConstText = record { ty = number_type text; text = text; statement = s.statement; place = p } in
      record { adds = adds_one cs c; sound = (record { named = (constant_here cs c, tt); operated = (refl, tt); placed = (at, tt); above = refl; below = refl }, the_number (part_here (λ (c : ConstText). c.text) cs c, constant_here cs c)) }

  literal_settles : (w : TypeWord) (text : List ℕ) (p : ℕ) (ps : List ℕ) (cs : List ConstText) (o : Option SqlType) → At p → At w.name.place
      → GivesOrStops At (Settles None (p ∷ ps) cs) (found kind.UnknownName w.name.place o >>= (λ ty. constant s ty text p cs) >>= λ r. Ok (Some r.0, r.1))
  literal_settles w text p ps cs None at named = stops named
  literal_settles w text p ps cs (Some ty) at named = gives (constant_steps ty text p ps cs at)

  cast_settles : (w : TypeWord) (p : ℕ) (ps : List ℕ) (cs : List ConstText) (o : Option (List ℕ × ℕ)) → At p → At w.name.place → IfSome o (λ x. IsWithin (x.1 ∷ []) ps × At x.1)
      → GivesOrStops At (Settles None ps cs) (cast_of_string s w p o cs)
  cast_settles w p ps cs None at named h = gives refl
  cast_settles w p ps cs (Some text) at named h =
      then (finds kind.UnknownName w.name.place (type_named w.name.text w.inner) named) (λ ty is.
      let inner = constant_steps ty text.0 text.1 [] cs h.1 in
      let own = inner.sound.0 in
      gives (record { adds = adds_within h.0 inner.adds; sound = (record { named = (tt, (own.named, tt)); operated = (own_cast ty, (own.operated, tt)); placed = (at, (h.1, tt)); above = refl; below = refl }, tt) }))

  early_settles : (n : Node) (p : ℕ) (args : Trees) (digits : Option (List ℕ)) (cs : List ConstText) → At p → AllByRecursion At (node_sites n) → AllByRecursion At (trees_sites args)
      → GivesOrStops At (Settles (signed_digits n digits) (literal_place n p ++ trees_places args) cs) (typed_before_operands s n p args cs)
  unfolding typed_before_operands
  early_settles node.Null p args digits cs at h sites = gives (record { adds = adds_none; sound = (record { named = (tt, tt); operated = ((refl, refl), tt); placed = (at, tt); above = refl; below = refl }, tt) })
  early_settles node.True p args digits cs at h sites = gives (constant_steps sql.Bool (codes "true") p (trees_places args) cs at)
  early_settles node.False p args digits cs at h sites = gives (constant_steps sql.Bool (codes "false") p (trees_places args) cs at)
  early_settles (node.Number n) p args digits cs at h sites = gives (number_steps n p (trees_places args) cs at)
  early_settles (node.Str t) p args digits cs at h sites = gives (constant_steps sql.Text t p (trees_places args) cs at)
  early_settles (node.Literal w t) p args digits cs at h sites = literal_settles w t p (trees_places args) cs (literal_type w.name.text w.inner t) at h.0
  early_settles (node.Column t c) p args digits cs at h sites = then (column_walked t c h) (λ f is. gives (record { adds = adds_none; sound = (record { named = (is.0, tt); operated = (refl, tt); placed = (at, tt); above = both_true _ true is.1.0 refl; below = both_true _ true is.1.1 refl }, tt) }))
  early_settles (node.Call f) p args digits cs at h sites = then (passes (is_irrational form.Call f) kind.Irrational p at) (λ _ rational. gives refl)
  early_settles (node.Sign g) p args digits cs at h sites = gives refl
  early_settles (node.Cast w) p args digits cs at h sites = cast_settles w p (trees_places args) cs (lone_string args) at h.0 (lone_stands At args sites)
  early_settles node.Not p args digits cs at h sites = gives refl
  early_settles node.And p args digits cs at h sites = gives refl
  early_settles node.Or p args digits cs at h sites = gives refl
  early_settles node.IsNull p args digits cs at h sites = gives refl
  early_settles node.IsNotNull p args digits cs at h sites = gives refl

  -- operands that are read are sound
  operands_read : (args : Trees) (cs : List ConstText) (ts : List TypedTree) → ReadAs args cs ts → AllByRecursion (Holds cs) ts
  operands_read no_trees cs [] h = tt
  operands_read no_trees cs (x ∷ xs) h = absurd h
  operands_read (more_trees t us) cs [] h = absurd h
  operands_read (more_trees t us) cs (x ∷ xs) h = (h.0.0, operands_read us cs xs h.1)

  -- a node over such operands is sound
  node_sound : (o : Op) (ty : SqlType) (p : ℕ) (args : Trees) (cs : List ConstText) (ts : List TypedTree) → ReadAs args cs ts → HasNamedType tables from cs o ty → (reads_from s.first o ≡ true) × (reads_before past o ≡ true) → FitsArguments cs o ty (typed_trees ts) → At p → Holds cs (typed o ty p (typed_trees ts))
  node_sound o ty p args cs ts h own reads fits at =
      let all = operands_read args cs ts h in
      record {
        named = (own, operands_hold tables from cs ts (each_on (Holds cs) (HasNamedTypes tables from cs) (λ t g. g.named) ts all));
        operated = (fits, all_operated cs ts (each_on (Holds cs) (IsOperated cs) (λ t g. g.operated) ts all));
        placed = (at, all_placed At ts (each_on (Holds cs) (λ t. AllByRecursion At (operators_in t)) (λ t g. g.placed) ts all));
        above = both_true (reads_from s.first o) (all_name_from s.first (typed_trees ts)) reads.0 (all_above s.first ts (each_on (Holds cs) (λ t. names_from s.first t ≡ true) (λ t g. g.above) ts all));
        below = both_true (reads_before past o) (all_name_before past (typed_trees ts)) reads.1 (all_below past ts (each_on (Holds cs) (λ t. names_before past t ≡ true) (λ t g. g.below) ts all));
      }

  -- the second of two operands, if there are two, is a number literal that is 0 or not
  abbrev IsDivisor : List ConstText → Option Bool → List TypedTree → Type 0
  IsDivisor cs None ts = Unit {0}
  IsDivisor cs (Some zero) ts = zero ≡ false → HasDivisor cs (typed_trees ts)

  divisor_read : (args : Trees) (cs : List ConstText) (ts : List TypedTree) → ReadAs args cs ts → IsDivisor cs (option_map is_zero (divisor_of args)) ts
  divisor_read no_trees cs ts h = tt
  divisor_read (more_trees a no_trees) cs ts h = tt
  divisor_read (more_trees a (more_trees b no_trees)) cs (x ∷ y ∷ []) h = by (digits_of b) h.1.0.1
    where
      by : (o : Option (List ℕ)) → IfSome o (λ text. IsNumberLiteral cs text y) → IsDivisor cs (option_map is_zero o) (x ∷ y ∷ [])
      by None is = tt
      by (Some text) is = λ other. (text, is, other)
  divisor_read (more_trees a (more_trees b no_trees)) cs [] h = absurd h
  divisor_read (more_trees a (more_trees b no_trees)) cs (x ∷ []) h = absurd h.1
  divisor_read (more_trees a (more_trees b no_trees)) cs (x ∷ y ∷ z ∷ ts) h = absurd h.1.1
  divisor_read (more_trees a (more_trees b (more_trees c us))) cs ts h = tt

  -- what an operator gives for typed operands
  record IsApplied (f : Spelling) (name : List ℕ) (p : ℕ) (divisor : Option Bool) (ts : List TypedTree) (cs : List ConstText) (t : TypedTree) : Type 0 where
    answer : Op × SqlType
    row : found_in table f name (types_of ts) (is_some divisor) ≡ Some answer
    is : t ≡ typed answer.0 answer.1 p (typed_trees ts)
    holds : Holds cs t

  applied_walked : (f : Spelling) (name : List ℕ) (p : ℕ) (divisor : Option Bool) (args : Trees) (ts : List TypedTree) (cs : List ConstText) → At p → ReadAs args cs ts → IsDivisor cs divisor ts
      → GivesOrStops At (IsApplied f name p divisor ts cs) (operated f name p divisor ts)
  applied_walked f name p divisor args ts cs at h own = by (found_in table f name (types_of ts) (is_some divisor)) refl
    where
      of_table : (a : Op × SqlType) → found_in table f name (types_of ts) (is_some divisor) ≡ Some a → is_of_table a.0 ≡ true
      of_table a is = subst (λ o. IfSome o (λ x. is_of_table x.0 ≡ true)) is (found_of_table f name (types_of ts) (is_some divisor))

      not_zero : (d : Option Bool) (o : Op) → IsDivisor cs d ts → divides_by_zero o d ≡ false → is_some d ≡ true → is_division o ≡ true → HasDivisor cs (typed_trees ts)
      not_zero None o so passed literal division = absurd (cc)
      not_zero (Some zero) o so passed literal division = so (ap (λ x. divides_by_zero x (Some zero)) (sym (division_alone o division)) ∙ passed)

      by : (o : Option (Op × SqlType)) → found_in table f name (types_of ts) (is_some divisor) ≡ o → GivesOrStops At (IsApplied f name p divisor ts cs) (applied f name p divisor ts o)
      by None is = stops at
      by (Some a) is =
          then (passes (divides_by_zero a.0 divisor) kind.ZeroDivisor p at) (λ _ passed.
          let row = has_row cs f name ts (is_some divisor) a is (not_zero divisor a.0 own passed) in
          gives (record {
            answer = a;
            row = is;
            is = refl;
            holds = node_sound a.0 a.1 p args cs ts h (names_nothing tables from cs a.0 a.1 (of_table a is)) (reads_nothing s.first past a.0 (of_table a is)) (row_fits cs a.0 a.1 (typed_trees ts) (of_table a is) row) at;
          }))

  -- an operator other than a sign is not a number literal
  plainly_applied : (f : Spelling) (name : List ℕ) (p : ℕ) (args : Trees) (ts : List TypedTree) (cs : List ConstText) → At p → ReadAs args cs ts → GivesOrStops At (Reads None cs) (operated f name p None ts)
  plainly_applied f name p args ts cs at h = also (applied_walked f name p None args ts cs at h tt) (λ t applied. (applied.holds, tt))

  -- a sign before a number literal makes a number literal
  sign_read : (g : List ℕ) (p : ℕ) (args : Trees) (ts : List TypedTree) (cs : List ConstText) (t : TypedTree) → ReadAs args cs ts → IsApplied form.Sign g p (option_map is_zero (divisor_of args)) ts cs t
      → IfSome (signed_digits (node.Sign g) (digits_in args)) (λ text. IsNumberLiteral cs text t)
  unfolding digits_of digits_in
  sign_read g p no_trees ts cs t h applied = none_left (is_signed g)
    where
      none_left : (b : Bool) → IfSome {T = List ℕ} (cond b None None) (λ text. IsNumberLiteral cs text t)
      none_left true = tt
      none_left false = tt
  sign_read g p (more_trees a no_trees) [] cs t h applied = absurd h
  sign_read g p (more_trees a no_trees) (x ∷ y ∷ ts) cs t h applied = absurd h.1
  sign_read g p (more_trees a no_trees) (x ∷ []) cs t h applied = by (is_signed g) refl (digits_of a) h.0.1
    where
      by : (b : Bool) → is_signed g ≡ b → (o : Option (List ℕ)) → IfSome o (λ text. IsNumberLiteral cs text x) → IfSome (cond b o None) (λ text. IsNumberLiteral cs text t)
      by false signed o is = tt
      by true signed None is = tt
      by true signed (Some text) is =
          let keeps = subst (λ o. IfSome o (λ e. keeps_number e.0 ≡ true)) applied.row (sign_keeps g (type_of x) signed) in
          subst (IsNumberLiteral cs text) (sym applied.is) (behind_sign cs text x applied.answer.0 applied.answer.1 p keeps is)
  sign_read g p (more_trees a (more_trees b us)) ts cs t h applied = none_left (is_signed g)
    where
      none_left : (b : Bool) → IfSome {T = List ℕ} (cond b None None) (λ text. IsNumberLiteral cs text t)
      none_left true = tt
      none_left false = tt

  finished_walked : (n : Node) (p : ℕ) (args : Trees) (ts : List TypedTree) (cs : List ConstText) → At p → AllByRecursion At (node_sites n) → ReadAs args cs ts → GivesOrStops At (Reads (signed_digits n (digits_in args)) cs) (finished n p args ts)
  unfolding finished
  finished_walked (node.Call f) p args ts cs at sites h = plainly_applied form.Call f p args ts cs at h
  finished_walked (node.Sign g) p args ts cs at sites h = also (applied_walked form.Sign g p (option_map is_zero (divisor_of args)) args ts cs at h (divisor_read args cs ts h)) (λ t applied. (applied.holds, sign_read g p args ts cs t h applied))
  finished_walked (node.Cast w) p args ts cs at sites h =
      then (finds kind.UnknownName w.name.place (type_named w.name.text w.inner) sites.0) (λ ty is.
      then (passes (not (can_cast_all (types_of ts) ty)) kind.NoSuchOperator p at) (λ _ can.
      gives (node_sound op.Cast ty p args cs ts h tt (refl, refl) (ap (λ tys. can_cast_all tys ty) (types_are ts) ∙ not-false (can_cast_all (types_of ts) ty) can) at, tt)))
  finished_walked node.Not p args ts cs at sites h = plainly_applied form.Word (codes "not") p args ts cs at h
  finished_walked node.And p args ts cs at sites h = plainly_applied form.Word (codes "and") p args ts cs at h
  finished_walked node.Or p args ts cs at sites h = plainly_applied form.Word (codes "or") p args ts cs at h
  finished_walked node.IsNull p args ts cs at sites h = plainly_applied form.Word (codes "is null") p args ts cs at h
  finished_walked node.IsNotNull p args ts cs at sites h = plainly_applied form.Word (codes "is not null") p args ts cs at h
  finished_walked n p args ts cs at sites h = stops at

  -- what is typed early is complete; else the operands follow
  later_walked : (digits : Option (List ℕ)) (own ps : List ℕ) (cs : List ConstText) (later : TypingTurn TypedTree) (o : Option TypedTree) (ds : List ConstText) → Settled digits (own ++ ps) cs o ds
      → ((es : List ConstText) → GivesOrStops At (Steps s.statement ps (Reads digits) es) (later es)) → GivesOrStops At (Steps s.statement (own ++ ps) (Reads digits) cs) (or_later later o ds)
  later_walked digits own ps cs later (Some t) ds h k = gives h
  later_walked digits own ps cs later None ds h k =
      also (subst (λ es. GivesOrStops At (Steps s.statement ps (Reads digits) es) (later ds)) h (k ds)) (λ x q. record { adds = adds_within (within_back own (within_all ps)) q.adds; sound = q.sound })

  reads_stay : (digits : Option (List ℕ)) → Stays (Reads digits)
  reads_stay None t cs more h = (sound_stays At tables from s.first past t cs more h.0, tt)
  reads_stay (Some text) t cs more h = (sound_stays At tables from s.first past t cs more h.0, literal_stays text cs more h.1)

  mutual
    unfolding typed_expression typed_operands digits_of

    tree_walked : (t : Tree) (cs : List ConstText) → AllByRecursion At (tree_sites t) → GivesOrStops At (Steps s.statement (tree_places t) (Reads (digits_of t)) cs) (typed_expression s t cs)
    tree_walked (tree n p args) cs h =
        let parts = each_parts At (node_sites n) (trees_sites args) h.1 in
        let digits = signed_digits n (digits_in args) in
        then (early_settles n p args (digits_in args) cs h.0 parts.0 parts.1) (λ e settled.
        later_walked digits (literal_place n p) (trees_places args) cs (λ ds. typed_operands s args ds >>= λ r. finished n p args r.0 >>= λ t. Ok (t, r.1)) e.0 e.1 settled
        (λ ds. then (operands_walked args ds parts.1) (λ r q. then (finished_walked n p args r.0 r.1 h.0 parts.0 q.sound) (λ t sound. gives (record { adds = q.adds; sound = sound })))))

    operands_walked : (us : Trees) (cs : List ConstText) → AllByRecursion At (trees_sites us) → GivesOrStops At (Steps s.statement (trees_places us) (ReadAs us) cs) (typed_operands s us cs)
    operands_walked no_trees cs h = gives (record { adds = adds_none; sound = tt })
    operands_walked (more_trees t us) cs h =
        let parts = each_parts At (tree_sites t) (trees_sites us) h in
        then (tree_walked t cs parts.0) (λ x a.
        then (operands_walked us x.1 parts.1) (λ xs b. gives (record { adds = adds_both a.adds b.adds; sound = (still (Reads (digits_of t)) (reads_stay (digits_of t)) x.0 b.adds a.sound, b.sound) })))

  pub expression_walked : (t : Tree) (cs : List ConstText) → AllByRecursion At (tree_sites t) → GivesOrStops At (Steps s.statement (tree_places t) Holds cs) (typed_expression s t cs)
  expression_walked t cs h = also (tree_walked t cs h) (λ x q. record { adds = q.adds; sound = q.sound.0 })

  pub arguments_walked : (us : Trees) (cs : List ConstText) → AllByRecursion At (trees_sites us) → GivesOrStops At (Steps s.statement (trees_places us) (λ ds ts. AllByRecursion (Holds ds) ts) cs) (typed_operands s us cs)
  arguments_walked us cs h = also (operands_walked us cs h) (λ x q. record { adds = q.adds; sound = operands_read us x.1 x.0 q.sound })
