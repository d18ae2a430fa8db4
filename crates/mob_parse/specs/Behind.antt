-- A reader that appends to a list.
use Rattle.std.specs.Prelude.{List, Ok, ◌++◌}
use Rattle.mob_grammar.specs.Reading.{◌>>=◌, TokenReader}

-- the list that is read, appended to another one
unfoldable pub put_behind : {A : Type 0} → List A → TokenReader (List A) → TokenReader (List A)
put_behind xs s l = s l >>= λ ys. Ok (xs ++ ys.0, ys.1)
