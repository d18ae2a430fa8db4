-- Soundness survives the appending of constants, and numbers keep naming what they name.
use Rattle.std.{specs.Prelude.{IfSome, slice_get, option_map}, specs.List.{AllByRecursion, AllZip}, specs.Str.{bytes_eq}}
use Rattle.std.proofs.Common.{◌≡◌, ◌∙◌, ◌+◌, refl, sym, ap, arith, subst, ℕ, zero, suc, List, [], ◌∷◌, ◌++◌, append_assoc, length, length-append, map, Bool, true, false, ◌&&◌, cond, Option, Some}
use Rattle.std.proofs.Common.{None}
use Rattle.mob_ast.specs.declared.types.SqlType.{SqlType}
use Rattle.mob_operators.specs.declared.operator.Op.{Op}
use Rattle.mob_typed.{specs.declared.typed.ConstText.{ConstText}, specs.Trees.{TypedTree, typed, TypedTrees, none, more as more_trees, typed_trees, type_of, types_of, arg_types}}
use Rattle.mob_typed.specs.Named.{names_before, all_name_before, names_from, all_name_from}
use Rattle.mob_typed.specs.Statements.{ColumnList, nothing, new_table, new_index, new_rows, rows_from, deletion, query, plan_of}
use Rattle.mob_list.proofs.Each.{each_both, each_on}
use Rattle.mob_list.proofs.Entries.{get_seam}
use Rattle.mob_scope.specs.Names.{entry_from}
use Rattle.mob_expression.specs.Words.{number_type}
use Rattle.mob_clauses.{specs.Conditions.{is_bool}, specs.Keys.{is_key}}
use Rattle.mob_typing.specs.Stands.{operators_in, operators_among}
use Rattle.mob_typing.specs.WellTyped.{constant_type, HasNamedType, HasNamedTypes, AllHaveNamedTypes, IsNumberLiteral, the_number, behind_minus, behind_plus, HasDivisor, HasOperatorRow, FitsArguments}
use Rattle.mob_typing.{specs.WellTyped.{IsOperated, AreOperated, expressions_of, IsGroup, IsOfColumn, IsTypedQuery, IsTypedStatement}, proofs.Walk.{Stays, all_stay}}
use Rattle.mob_operators.specs.declared.operator.Op.TheVariants as op

-- the element at a position of a list is also there in a longer one
pub slice_more : {A : Type 0} (xs more : List A) (k : ℕ) (x : A) → slice_get xs k ≡ Some x → slice_get (xs ++ more) k ≡ Some x
slice_more [] more k x h = absurd (cc)
slice_more (y ∷ xs) more zero x h = h
slice_more (y ∷ xs) more (suc k) x h = slice_more xs more k x h

-- the element at a position of a list, after other elements
pub slice_behind : {A : Type 0} (xs ys : List A) (k : ℕ) (y : A) → slice_get ys k ≡ Some y → slice_get (xs ++ ys) (length xs + k) ≡ Some y
slice_behind [] ys k y h = let e : 0 + k ≡ k = omega arith in ap (λ n. slice_get ys n) e ∙ h
slice_behind (x ∷ xs) ys k y h = let e : length (x ∷ xs) + k ≡ suc (length xs + k) = omega arith in ap (λ n. slice_get (x ∷ (xs ++ ys)) n) e ∙ slice_behind xs ys k y h

pub slice_map : {A B : Type 0} (f : A → B) (xs : List A) (k : ℕ) (x : A) → slice_get xs k ≡ Some x → slice_get (map f xs) k ≡ Some (f x)
slice_map f [] k x h = absurd (cc)
slice_map f (y ∷ xs) zero x h = let same : y ≡ x = cc in ap (λ z. Some (f z)) same
slice_map f (y ∷ xs) (suc k) x h = slice_map f xs k x h

-- this entry is in the list, at its number
abbrev pub IsNumbered : {A : Type 0} → List (List ℕ × A) → ℕ × A → Type 0
IsNumbered {A} all e = (found : List ℕ × A) × (slice_get all e.0 ≡ Some found) × (found.1 ≡ e.1)

-- the entry with a name is at its number
pub entry_stands : {A : Type 0} (before es : List (List ℕ × A)) (name : List ℕ) (e : ℕ × A) → entry_from (length before) es name ≡ Some e → IsNumbered (before ++ es) e
entry_stands before [] name e h = absurd (cc)
entry_stands {A} before (x ∷ es) name e h = by (bytes_eq name x.0) refl (entry_stands (before ++ x ∷ []) es name e)
  where
    by : (b : Bool) → bytes_eq name x.0 ≡ b → (entry_from (length (before ++ x ∷ [])) es name ≡ Some e → IsNumbered ((before ++ x ∷ []) ++ es) e) → IsNumbered (before ++ x ∷ es) e
    by true is later =
        let here : ◌≡◌ {A = Option (ℕ × A)} (Some (length before, x.1)) (Some e) = sym (ap (λ b. cond b (Some (length before, x.1)) (entry_from (length before + 1) es name)) is) ∙ h in
        let pair : ◌≡◌ {A = ℕ × A} (length before, x.1) e = cc in
        (x, ap (λ n. slice_get (before ++ x ∷ es) n) (sym (ap (λ y. y.0) pair)) ∙ get_seam before x es, ap (λ y. y.1) pair)
    by false is later =
        let behind : entry_from (length before + 1) es name ≡ Some e = sym (ap (λ b. cond b (Some (length before, x.1)) (entry_from (length before + 1) es name)) is) ∙ h in
        subst (λ all. IsNumbered all e) (append_assoc before (x ∷ []) es) (later (ap (λ n. entry_from n es name) (length-append before (x ∷ [])) ∙ behind))

-- soundness after more constants
module _ {A : Type 0} (f : ConstText → A) where
  pub part_stays : (y : A) (k : ℕ) (cs more : List ConstText) → option_map f (slice_get cs k) ≡ Some y → option_map f (slice_get (cs ++ more) k) ≡ Some y
  part_stays y k cs more h = by (slice_get cs k) refl
    where
      by : (o : Option ConstText) → slice_get cs k ≡ o → option_map f (slice_get (cs ++ more) k) ≡ Some y
      by None is = let missing : ◌≡◌ {A = Option A} None (Some y) = sym (ap (option_map f) is) ∙ h in absurd (cc)
      by (Some c) is = ap (option_map f) (slice_more cs more k c is) ∙ sym (ap (option_map f) is) ∙ h

  pub part_here : (cs : List ConstText) (c : ConstText) → option_map f (slice_get (cs ++ c ∷ []) (length cs)) ≡ Some (f c)
  part_here cs c = ap (option_map f) (get_seam cs c [])

pub constant_stays : (ty : SqlType) (k : ℕ) (cs more : List ConstText) → constant_type cs k ≡ Some ty → constant_type (cs ++ more) k ≡ Some ty
constant_stays ty k cs more h = part_stays (λ (c : ConstText). c.ty) ty k cs more h

pub constant_here : (cs : List ConstText) (c : ConstText) → constant_type (cs ++ c ∷ []) (length cs) ≡ Some c.ty
constant_here cs c = part_here (λ (c : ConstText). c.ty) cs c

module _ (tables : List ColumnList) (from : List ℕ) where
  leaf_stays : (o : Op) (ty : SqlType) (cs more : List ConstText) → HasNamedType tables from cs o ty → HasNamedType tables from (cs ++ more) o ty
  leaf_stays (op.Const k) ty cs more h = constant_stays ty k cs more h
  leaf_stays (op.Column f k) ty cs more h = h
  leaf_stays _ ty cs more h = tt

  mutual
    pub tree_stays : (t : TypedTree) (cs more : List ConstText) → HasNamedTypes tables from cs t → HasNamedTypes tables from (cs ++ more) t
    tree_stays (typed o ty p args) cs more h = (leaf_stays o ty cs more h.0, trees_stay args cs more h.1)

    trees_stay : (ts : TypedTrees) (cs more : List ConstText) → AllHaveNamedTypes tables from cs ts → AllHaveNamedTypes tables from (cs ++ more) ts
    trees_stay none cs more h = tt
    trees_stay (more_trees t ts) cs more h = (tree_stays t cs more h.0, trees_stay ts cs more h.1)

  pub operands_hold : (cs : List ConstText) (ts : List TypedTree) → AllByRecursion (HasNamedTypes tables from cs) ts → AllHaveNamedTypes tables from cs (typed_trees ts)
  operands_hold cs [] h = tt
  operands_hold cs (t ∷ ts) h = (h.0, operands_hold cs ts h.1)

-- an expression is sound: its leaves name what exists, its operators have their rows and are at
-- such places, and it names tables of FROM from `first` on and before `past`
pub record IsSound (At : ℕ → Type 0) (tables : List ColumnList) (from : List ℕ) (first past : ℕ) (cs : List ConstText) (t : TypedTree) : Type 0 where
  pub named : HasNamedTypes tables from cs t
  pub operated : IsOperated cs t
  pub placed : AllByRecursion At (operators_in t)
  pub above : names_from first t ≡ true
  pub below : names_before past t ≡ true

pub both_true : (a b : Bool) → a ≡ true → b ≡ true → (a && b) ≡ true
both_true true b h k = k
both_true false b h k = absurd (cc)

pub all_above : (first : ℕ) (ts : List TypedTree) → AllByRecursion (λ t. names_from first t ≡ true) ts → all_name_from first (typed_trees ts) ≡ true
all_above first [] h = refl
all_above first (t ∷ ts) h = both_true (names_from first t) (all_name_from first (typed_trees ts)) h.0 (all_above first ts h.1)

pub all_below : (past : ℕ) (ts : List TypedTree) → AllByRecursion (λ t. names_before past t ≡ true) ts → all_name_before past (typed_trees ts) ≡ true
all_below past [] h = refl
all_below past (t ∷ ts) h = both_true (names_before past t) (all_name_before past (typed_trees ts)) h.0 (all_below past ts h.1)

-- a number literal is still one after more constants
pub literal_stays : (text : List ℕ) (cs more : List ConstText) {t : TypedTree} → IsNumberLiteral cs text t → IsNumberLiteral (cs ++ more) text t
literal_stays text cs more (the_number {k} is) = the_number (part_stays (λ (c : ConstText). c.text) text k cs more is.0, constant_stays (number_type text) k cs more is.1)
literal_stays text cs more (behind_minus h) = behind_minus (literal_stays text cs more h)
literal_stays text cs more (behind_plus h) = behind_plus (literal_stays text cs more h)

divisor_stays : (args : TypedTrees) (cs more : List ConstText) → HasDivisor cs args → HasDivisor (cs ++ more) args
divisor_stays (more_trees a (more_trees b none)) cs more h = (h.0, literal_stays h.0 cs more h.1, h.2)
divisor_stays none cs more h = absurd h
divisor_stays (more_trees a none) cs more h = absurd h
divisor_stays (more_trees a (more_trees b (more_trees c ts))) cs more h = absurd h

-- a node still fits its arguments after more constants
row_stays_so : (o : Op) (ty : SqlType) (args : TypedTrees) (cs more : List ConstText) → HasOperatorRow cs o ty args → HasOperatorRow (cs ++ more) o ty args
row_stays_so o ty args cs more h = record { form = h.form; name = h.name; row = h.row; divisor = λ division. divisor_stays args cs more (h.divisor division) }

node_stays : (o : Op) (ty : SqlType) (args : TypedTrees) (cs more : List ConstText) → FitsArguments cs o ty args → FitsArguments (cs ++ more) o ty args
node_stays (op.Const k) ty args cs more h = h
node_stays (op.Column f k) ty args cs more h = h
node_stays op.Null ty args cs more h = h
node_stays op.Cast ty args cs more h = h
node_stays o ty args cs more h = row_stays_so o ty args cs more h

mutual
  pub operated_stays : (t : TypedTree) (cs more : List ConstText) → IsOperated cs t → IsOperated (cs ++ more) t
  operated_stays (typed o ty p args) cs more h = (node_stays o ty args cs more h.0, all_operated_stay args cs more h.1)

  all_operated_stay : (ts : TypedTrees) (cs more : List ConstText) → AreOperated cs ts → AreOperated (cs ++ more) ts
  all_operated_stay none cs more h = tt
  all_operated_stay (more_trees t ts) cs more h = (operated_stays t cs more h.0, all_operated_stay ts cs more h.1)

pub all_operated : (cs : List ConstText) (ts : List TypedTree) → AllByRecursion (IsOperated cs) ts → AreOperated cs (typed_trees ts)
all_operated cs [] h = tt
all_operated cs (t ∷ ts) h = (h.0, all_operated cs ts h.1)

pub types_are : (ts : List TypedTree) → arg_types (typed_trees ts) ≡ types_of ts
types_are [] = refl
types_are (t ∷ ts) = ap (λ tys. type_of t ∷ tys) (types_are ts)

pub all_placed : (At : ℕ → Type 0) (ts : List TypedTree) → AllByRecursion (λ t. AllByRecursion At (operators_in t)) ts → AllByRecursion At (operators_among (typed_trees ts))
all_placed At [] h = tt
all_placed At (t ∷ ts) h = each_both At (operators_in t) (operators_among (typed_trees ts)) h.0 (all_placed At ts h.1)

pub sound_stays : (At : ℕ → Type 0) (tables : List ColumnList) (from : List ℕ) (first past : ℕ) → Stays (IsSound At tables from first past)
sound_stays At tables from first past t cs more h = record { named = tree_stays tables from t cs more h.named; operated = operated_stays t cs more h.operated; placed = h.placed; above = h.above; below = h.below }

pub value_stays : (column : List ℕ × SqlType) → Stays (λ cs v. IsOfColumn cs column v)
value_stays column None cs more h = tt
value_stays column (Some k) cs more h = constant_stays column.1 k cs more h

pub row_stays : (columns : ColumnList) → Stays (λ cs row. AllZip (IsOfColumn cs) columns row)
row_stays [] [] cs more h = tt
row_stays [] (v ∷ vs) cs more h = h
row_stays (c ∷ columns) [] cs more h = h
row_stays (c ∷ columns) (v ∷ vs) cs more h = (value_stays c v cs more h.0, row_stays columns vs cs more h.1)

-- an optional expression is a bool whose leaves name what exists
abbrev IsNamedBool : List ColumnList → List ℕ → List ConstText → Option TypedTree → Type 0
IsNamedBool tables from cs c = IfSome c (λ t. HasNamedTypes tables from cs t × (is_bool (type_of t) ≡ true))

query_stays : (tables : List ColumnList) → Stays (IsTypedQuery tables)
query_stays tables s cs more h = record {
  there = h.there;
  few = h.few;
  called = h.called;
  apart = h.apart;
  operated = all_stay (λ ds t. IsOperated ds t) operated_stays (expressions_of s) cs more h.operated;
  limited = h.limited;
  items = each_on (λ o. HasNamedTypes tables s.from cs o.0) (λ o. HasNamedTypes tables s.from (cs ++ more) o.0) (λ o g. tree_stays tables s.from o.0 cs more g) s.items h.items;
  condition = condition_stays s.cond h.condition;
  joins = record { each = h.joins.each; first = h.joins.first; typed = each_on (IsNamedBool tables s.from cs) (IsNamedBool tables s.from (cs ++ more)) condition_stays s.joins h.joins.typed; named = h.joins.named; sourced = h.joins.sourced };
  groups = each_on (λ t. HasNamedTypes tables s.from cs t × IsGroup t) (λ t. HasNamedTypes tables s.from (cs ++ more) t × IsGroup t) (λ t g. (tree_stays tables s.from t cs more g.0, g.1)) s.groups h.groups;
  ungrouped = h.ungrouped;
  aggs = h.aggs;
  keys =
      each_on (λ k. HasNamedTypes tables s.from cs k.0 × (s.grouped ≡ false → is_key (type_of k.0) ≡ true)) (λ k. HasNamedTypes tables s.from (cs ++ more) k.0 × (s.grouped ≡ false → is_key (type_of k.0) ≡ true))
      (λ k g. (tree_stays tables s.from k.0 cs more g.0, g.1)) s.keys h.keys;
  judged = h.judged;
}
  where
    condition_stays : (c : Option TypedTree) → IsNamedBool tables s.from cs c → IsNamedBool tables s.from (cs ++ more) c
    condition_stays None g = tt
    condition_stays (Some t) g = (tree_stays tables s.from t cs more g.0, g.1)

pub statement_stays : (tables : List ColumnList) → Stays (IsTypedStatement tables)
statement_stays tables nothing cs more h = tt
statement_stays tables (new_table t name columns) cs more h = h
statement_stays tables (new_index t k name) cs more h = h
statement_stays tables (new_rows t rows places) cs more h = record { columns = h.columns; there = h.there; values = all_stay (λ ds row. AllZip (IsOfColumn ds) h.columns row) (row_stays h.columns) rows cs more h.values; placed = h.placed }
statement_stays tables (rows_from t name) cs more h = h
statement_stays tables (deletion s) cs more h = record { query = query_stays tables s cs more h.query; one = h.one; bare = h.bare }
statement_stays tables (query s) cs more h = query_stays tables s cs more h
statement_stays tables (plan_of s) cs more h = query_stays tables s cs more h
