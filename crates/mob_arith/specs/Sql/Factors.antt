-- The factors of a product with a linear result.
use Rattle.std.specs.Prelude.{map, Option, Some, None}
use Rattle.mob_ratio.specs.Ratio.{Ratio}
use Rattle.mob_value.{specs.Lines.{level_line}, specs.declared.value.Value.{Value}, specs.declared.value.Value.TheVariants.{Number, MovingInt, MovingFrac}, specs.Pairs.{SteadyOperand, LineOperand}}
use Rattle.mob_slice.specs.Sides.{Slices, Base}

-- the factors of a product, the linear one first, then the one that changes in steps: a tfrac, and
-- an int, a numeric or a tint
abbrev pub factors : Value → Value → Option (LineOperand × SteadyOperand Ratio)
factors (MovingFrac a) (MovingInt b) = Some (Slices a, Slices b)
factors (MovingFrac a) (Number b) = Some (Slices a, Base b)
factors (MovingInt a) (MovingFrac b) = Some (Slices b, Slices a)
factors (Number a) (MovingFrac b) = Some (Slices b, Base a)
factors _ _ = None

-- the factors of a product with a linear result, where a tint with a number that is not temporal is
-- the linear one
abbrev pub product_pair : Value → Value → Option (LineOperand × SteadyOperand Ratio)
product_pair (MovingInt a) (Number b) = Some (Slices (map level_line a), Base b)
product_pair (Number a) (MovingInt b) = Some (Slices (map level_line b), Base a)
product_pair a b = factors a b
