-- The two kinds of items with a value, each by itself.
use Rattle.std.specs.Prelude.{ℕ}
use Rattle.mob_ast.specs.Trees.{one, count_all}
use Rattle.mob_grammar.{specs.declared.mark.Mark.TheVariants.{Close}, specs.Forms.{Form, item, an_expression, made, both, behind}, specs.Scripts.{alias_form}}

-- the rest of count(*), after its first three tokens
unfoldable pub count_form : ℕ → Form item
count_form p = made (count_all p) (behind Close alias_form)

-- expr [AS name]
unfoldable pub one_form : Form item
one_form = made (λ (value, alias). one value alias) (both an_expression alias_form)
