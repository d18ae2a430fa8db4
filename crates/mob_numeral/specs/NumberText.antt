-- The printed text of a number.
use Rattle.std.{specs.Prelude.{◌++◌, cond, codes, nat_eq}, specs.Fmt.{decimal, signed_decimal}}
use Rattle.mob_ratio.specs.Ratio.{Ratio}
use Rattle.mob_language.specs.Language.{Text}

-- p, or p/q
abbrev pub number_text : Ratio → Text
number_text q = cond (nat_eq q.den 1) (signed_decimal q.num) (signed_decimal q.num ++ (codes "/" ++ decimal q.den))
