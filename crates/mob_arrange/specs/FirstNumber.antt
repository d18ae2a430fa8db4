-- What a row stores about its first value.
use Rattle.std.specs.Prelude.{◌≡◌, ℤ, negsuc, List}
use Rattle.mob_ratio.specs.Ratio.{whole}
use Rattle.mob_value.{specs.declared.value.Value.{Value}, specs.declared.value.Value.TheVariants.{Number}}
use Rattle.mob_arrange.specs.Order.{first_key}

-- the number that stands for no knowledge
abbrev pub unknown : ℤ
unknown = negsuc 9223372036854775807

-- the first value is this whole number, unless the number is unknown
pub record KnowsFirst (number : ℤ) (values : List Value) : Type 0 where
  pub first : (number ≡ unknown → ⊥) → first_key values ≡ Number (whole number)
