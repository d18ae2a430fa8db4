-- Which tables of FROM an expression reads.
use Rattle.std.specs.Prelude.{◌&&◌, ℕ, Bool, true, nat_le, nat_lt}
use Rattle.mob_operators.specs.declared.operator.Op.{Op}
use Rattle.mob_typed.specs.Trees.{TypedTree, typed, TypedTrees, none, more}
use Rattle.mob_operators.specs.declared.operator.Op.TheVariants as op

-- whether an operator reads no table of FROM, or one before this position
abbrev pub reads_before : ℕ → Op → Bool
reads_before place (op.Column from column) = nat_lt from place
reads_before place _ = true

-- whether an expression reads only tables of FROM before this position
abbrev mutual
  pub names_before : ℕ → TypedTree → Bool
  names_before place (typed o ty at args) = reads_before place o && all_name_before place args

  pub all_name_before : ℕ → TypedTrees → Bool
  all_name_before place none = true
  all_name_before place (more e es) = names_before place e && all_name_before place es

-- whether an operator reads no table of FROM, or one at this position or after it
abbrev pub reads_from : ℕ → Op → Bool
reads_from place (op.Column from column) = nat_le place from
reads_from place _ = true

-- whether an expression reads only tables of FROM at this position or after it
abbrev mutual
  pub names_from : ℕ → TypedTree → Bool
  names_from place (typed o ty at args) = reads_from place o && all_name_from place args

  pub all_name_from : ℕ → TypedTrees → Bool
  all_name_from place none = true
  all_name_from place (more e es) = names_from place e && all_name_from place es
