-- Reading an operand never adds to the remaining tokens.
use Rattle.std.proofs.Common.{ℕ, suc, length, arith}
use Rattle.mob_ast.specs.Trees.{Tree}
use Rattle.mob_grammar.{specs.declared.mark.Mark.{Mark}, specs.declared.mark.Mark.TheVariants.{Not, Null}, specs.Forms.{Builds, ◌▸◌}}
use Rattle.mob_grammar.specs.Expressions.{conjunction, negation, comparison, other, complement, product, signed, primary, Phrase, Rank, TypeName}
use Rattle.mob_grammar.{specs.Reading.{TokenReader, closed, expression_at, null_at, type_at, comparison_rank, other_rank, primary as primary_at}, proofs.Tells.{Lawful}, proofs.Lawful.{lawful_closed}}
use Rattle.mob_grammar.proofs.Same.{shrinks, lawful_expression, column_arguments}
use Rattle.mob_grammar.proofs.Ranks.{lawful_type, lawful_primary, lawful_signed, lawful_product, lawful_complement, lawful_other, lawful_compared, lawful_negation, lawful_conjunction}
use Rattle.mob_parse.{specs.declared.expression.Level.{Level}, specs.declared.expression.Level.TheVariants.{Disjunction, Conjunction, Other, Sum, Product}, specs.Levels.{level_operand}}
use Rattle.mob_parse.proofs.Shrinks.{Shrinks, if_shrinks, lawful_shrinks}
use Rattle.mob_ast.specs.declared.expression.Node.TheVariants as node

rank_shrinks : (k : Rank) (s : TokenReader Tree) → ((n : ℕ) → Lawful (Phrase k) (suc n) s) → Shrinks s
rank_shrinks k s law l r x h = shrinks (Phrase k) (suc (length l)) s (law (length l)) l (omega arith) x r h

pub operand_shrinks : (level : Level) → Shrinks (level_operand level)
operand_shrinks Disjunction = rank_shrinks conjunction _ (λ n. lawful_conjunction n expression_at (lawful_expression n) (λ pos v o q y. column_arguments v o q y))
operand_shrinks Conjunction = rank_shrinks negation _ (λ n. lawful_negation n expression_at (lawful_expression n) (λ pos v o q y. column_arguments v o q y))
operand_shrinks Other = rank_shrinks complement _ (λ n. lawful_complement n expression_at (lawful_expression n) (λ pos v o q y. column_arguments v o q y))
operand_shrinks Sum = rank_shrinks product _ (λ n. lawful_product n expression_at (lawful_expression n) (λ pos v o q y. column_arguments v o q y))
operand_shrinks Product = rank_shrinks signed _ (λ n. lawful_signed n expression_at (lawful_expression n) (λ pos v o q y. column_arguments v o q y))

-- the suffixes of a phrase
closed_shrinks : {A : Type 0} (m : Mark) (v : A) → Shrinks (closed m v)
closed_shrinks m v = lawful_shrinks (m ▸ Builds v) (closed m v) (λ n. lawful_closed m n v)

pub null_shrinks : Shrinks null_at
unfolding null_at
null_shrinks = if_shrinks Not (closed Null node.IsNotNull) (closed Null node.IsNull) (closed_shrinks Null node.IsNotNull) (closed_shrinks Null node.IsNull)

pub type_shrinks : Shrinks type_at
type_shrinks = lawful_shrinks TypeName type_at lawful_type

-- the phrases that the operators of a rank follow
pub other_shrinks : Shrinks (other_rank expression_at)
other_shrinks = rank_shrinks other _ (λ n. lawful_other n expression_at (lawful_expression n) (λ pos v o q y. column_arguments v o q y))

pub comparison_shrinks : Shrinks (comparison_rank expression_at)
comparison_shrinks = rank_shrinks comparison _ (λ n. lawful_compared n expression_at (lawful_expression n) (λ pos v o q y. column_arguments v o q y))

pub primary_shrinks : Shrinks (primary_at expression_at)
primary_shrinks = rank_shrinks primary _ (λ n. lawful_primary n expression_at (lawful_expression n) (λ pos v o q y. column_arguments v o q y))
