-- A typed SELECT as a plain value.
use Rattle.std.specs.Prelude.{ℕ, List, Bool, Option, map, option_and_then, option_map, slice_get}
use Rattle.mob_typed.{specs.declared.typed.TExpr.{TExpr}, specs.declared.typed.Agg.{Agg}, specs.declared.typed.TypedSelect.{TypedSelect}, specs.Trees.{TypedTree, typed_of}}

-- a column of the answer: its expression and its name
abbrev pub Output : Type 0
Output = TypedTree × List ℕ

-- A typed SELECT. For each table of FROM, `joins` has its ON, or None if it is not left-joined. For
-- each column of the answer, `aggs` has the aggregate over its expression, or None. For each key
-- that is an AS name, `key_items` has the number of that column of the answer.
pub record TypedSelectParts : Type 0 where
  pub distinct : Bool
  pub items : List Output
  pub from : List ℕ
  pub names : List (List ℕ)
  pub joins : List (Option TypedTree)
  pub cond : Option TypedTree
  pub grouped : Bool
  pub groups : List TypedTree
  pub aggs : List (Option Agg)
  pub keys : List (TypedTree × Bool)
  pub key_items : List (Option ℕ)
  pub limit : Option ℕ

-- the ON of the table at this position of FROM, if it is left-joined
abbrev pub on_of : List (Option TypedTree) → ℕ → Option TypedTree
on_of joins place = option_and_then (λ on. on) (slice_get joins place)

abbrev pub output_of : TExpr × List ℕ → Output
output_of o = (typed_of o.0, o.1)

abbrev pub key_seen : TExpr × Bool → TypedTree × Bool
key_seen k = (typed_of k.0, k.1)

-- the program's typed SELECT as a plain value
abbrev pub select_seen : TypedSelect → TypedSelectParts
select_seen s = record {
  distinct = s.distinct;
  items = map output_of s.items;
  from = s.from;
  names = s.names;
  joins = map (option_map typed_of) s.joins;
  cond = option_map typed_of s.cond;
  grouped = s.grouped;
  groups = map typed_of s.groups;
  aggs = s.aggs;
  keys = map key_seen s.keys;
  key_items = s.key_items;
  limit = s.limit;
}
