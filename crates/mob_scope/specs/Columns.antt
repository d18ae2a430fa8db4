-- The column that a name means, or the first thing that is wrong.
use Rattle.std.specs.Prelude.{◌+◌, ℕ, List, [], ◌∷◌, Option, Some, None, Result, Ok}
use Rattle.mob_ast.{specs.declared.types.Word.{Word}, specs.declared.types.SqlType.{SqlType}}
use Rattle.mob_scope.{specs.declared.scope.Found.{Found}, specs.Answers.{refuse, ◌>>=◌, found}, specs.declared.fault.Mistake.{Mistake}, specs.Names.{column_of, entry_from}}
use Rattle.mob_scope.specs.Scopes.{ScopeTableParts, ScopeParts}
use Rattle.mob_ast.specs.declared.refusal.Kind.TheVariants as kind

abbrev pub with_first : Option (ℕ × SqlType) → ℕ → List Found → List Found
with_first None n others = others
with_first (Some c) n others = record { from = n; column = c.0; ty = c.1 } ∷ others

-- the columns of this name in these tables, counted from n
abbrev pub matches : ℕ → List (List ℕ × ScopeTableParts) → List ℕ → List Found
matches n [] name = []
matches n (s ∷ ss) name = with_first (column_of s.1.columns name) n (matches (n + 1) ss name)

-- a bare name must be that of exactly one column
abbrev pub the_one : ℕ → List Found → Result Found Mistake
the_one p [] = refuse kind.UnknownName p
the_one p (f ∷ []) = Ok f
the_one p (f ∷ g ∷ fs) = refuse kind.Duplicate p

-- the column that a name means, with or without its table before a point, among these tables, which
-- are counted from 0
abbrev pub column_among : List (List ℕ × ScopeTableParts) → Option Word → Word → Result Found Mistake
column_among tables None c = the_one c.place (matches 0 tables c.text)
column_among tables (Some t) c = found kind.UnknownName t.place (entry_from 0 tables t.text) >>= λ f. found kind.UnknownName c.place (column_of f.1.columns c.text) >>= λ k. Ok (record { from = f.0; column = k.0; ty = k.1 })

-- that column with its table counted over all of FROM, if the first of these tables has this number
abbrev pub in_from : ℕ → Found → Found
in_from first f = record { from = first + f.from; column = f.column; ty = f.ty }

-- the column that a name means
abbrev pub column_named : ScopeParts → Option Word → Word → Result Found Mistake
column_named s t c = column_among s.from t c >>= λ f. Ok (in_from s.first f)
