-- The ordinary comparisons of base values, by the sign that asks for one.
use Rattle.std.specs.Prelude.{Bool, List, ℕ}
use Rattle.mob_ast.specs.declared.types.Cmp.{Cmp}
use Rattle.mob_slice.{specs.declared.comparison.Rel.{Rel}, specs.Ranks.{holds, compare_bytes, compare_bool}}
use Rattle.mob_ast.specs.declared.types.Cmp.TheVariants as cmp
use Rattle.mob_slice.specs.declared.comparison.Rel.TheVariants as rel

abbrev pub rel_of : Cmp → Rel
rel_of cmp.Eq = rel.Eq
rel_of cmp.Ne = rel.Ne
rel_of cmp.Lt = rel.Lt
rel_of cmp.Le = rel.Le
rel_of cmp.Gt = rel.Gt
rel_of cmp.Ge = rel.Ge

-- the ordinary comparison of two texts, and of two truth values
abbrev pub text_relates : Rel → List ℕ → List ℕ → Bool
text_relates r x y = holds r (compare_bytes x y)

abbrev pub truth_relates : Rel → Bool → Bool → Bool
truth_relates r x y = holds r (compare_bool x y)
