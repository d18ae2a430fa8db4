-- The types whose values take memory to read.
use Rattle.std.specs.Prelude.{Bool, true, false}
use Rattle.mob_ast.specs.declared.types.SqlType.{SqlType}
use Rattle.mob_ast.specs.declared.types.SqlType.TheVariants as sql

-- reading a value of this type takes memory
abbrev pub takes_memory : SqlType → Bool
takes_memory sql.Text = true
takes_memory sql.Polygon = true
takes_memory sql.Span = true
takes_memory sql.SpanSet = true
takes_memory sql.Box = true
takes_memory sql.TBool = true
takes_memory sql.TInt = true
takes_memory sql.TFrac = true
takes_memory sql.TText = true
takes_memory sql.TPoint = true
takes_memory type = false
