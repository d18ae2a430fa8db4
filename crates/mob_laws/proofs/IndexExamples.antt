-- Two scripts, the second of which makes an index.
use Rattle.std.proofs.Common.{refl, codes, false, ℕ, [], ◌∷◌, None, Some}
use Rattle.mob_ast.specs.declared.types.SqlType.TheVariants.{Int, TPoint}
use Rattle.mob_typed.{specs.Trees.{typed, none}, specs.Selects.{TypedSelectParts}, specs.Statements.{ScriptOut, new_index, new_rows, new_table, nothing, query}}
use Rattle.mob_laws.specs.IndexScripts.{DifferInIndexStatements}
use Rattle.mob_operators.specs.declared.operator.Op.TheVariants as op

-- SELECT id FROM t, with `id` at this place
abbrev selects : ℕ → TypedSelectParts
selects place = record {
  distinct = false;
  items = (typed (op.Column 0 0) Int place none, codes "id") ∷ [];
  from = 0 ∷ [];
  names = codes "t" ∷ [];
  joins = None ∷ [];
  cond = None;
  grouped = false;
  groups = [];
  aggs = None ∷ [];
  keys = [];
  key_items = [];
  limit = None;
}

-- CREATE TABLE t (id int, trip tgeompoint);
-- INSERT INTO t VALUES (1, NULL);
-- SELECT id FROM t;
abbrev without_index : ScriptOut
without_index = record {
  statements = new_table 0 (codes "t") ((codes "id", Int) ∷ (codes "trip", TPoint) ∷ []) ∷ new_rows 0 ((Some 0 ∷ None ∷ []) ∷ []) (63 ∷ []) ∷ query (selects 81) ∷ nothing ∷ [];
  consts = record { ty = Int; text = codes "1"; statement = 2; place = 64 } ∷ [];
}

-- CREATE TABLE t (id int, trip tgeompoint);
-- CREATE INDEX by_trip ON t USING GIST (trip);
-- INSERT INTO t VALUES (1, NULL);
-- SELECT id FROM t
abbrev with_index : ScriptOut
with_index = record {
  statements = new_table 0 (codes "t") ((codes "id", Int) ∷ (codes "trip", TPoint) ∷ []) ∷ new_index 0 1 (codes "by_trip") ∷ new_rows 0 ((Some 0 ∷ None ∷ []) ∷ []) (108 ∷ []) ∷ query (selects 126) ∷ [];
  consts = record { ty = Int; text = codes "1"; statement = 3; place = 109 } ∷ [];
}

they_differ_so : DifferInIndexStatements without_index with_index
they_differ_so = record { statements = refl; literals = refl }
