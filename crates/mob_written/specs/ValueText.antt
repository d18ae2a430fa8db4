-- What the reader of temporal literals needs of the texts of values.
use Rattle.std.specs.Prelude.{ℕ, List, ◌++◌, Bool, ◌||◌, nat_eq, Option}
use Rattle.mob_language.{specs.Language.{Text, is_blank}, specs.Readers.{TextReader}, proofs.Exact.{Exact}, proofs.Heads.{NoHead, HasByte}}
use Rattle.mob_scalar.specs.Brackets.{is_open}
use Rattle.mob_written.specs.Literal.{at_sign}

-- a blank, an opening bracket or a brace, with which no value begins
abbrev pub begins_no_value : ℕ → Bool
begins_no_value c = is_blank c || (is_open c || nat_eq c 123)

-- The reader accepts exactly the texts of values. Each of these has at least one byte, does not
-- begin with such a byte, and may come before the sign @.
pub record IsValueText {B : Type 0} (value : List ℕ → Option B → Type 0) (reader : TextReader (Option B)) (follows : List ℕ → Type 0) : Type 0 where
  pub exact : Exact value reader follows
  pub before_at : (text rest : Text) (u : Unit {0}) → at_sign text u → follows (text ++ rest)
  pub well_begun : NoHead value begins_no_value
  pub has_byte : HasByte value
