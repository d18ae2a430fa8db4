-- The table of operators, line by line, after MobilityDB's manual and PostgreSQL.
use Rattle.std.{specs.Prelude.{ℕ, List, [], ◌∷◌, Bool, false, codes}, specs.List.{list_any}, specs.Str.{bytes_eq}}
use Rattle.mob_ast.{specs.declared.types.Cmp.TheVariants.{Eq, Ne, Lt, Le, Gt, Ge}, specs.declared.types.SqlType.{SqlType}}
use Rattle.mob_ast.specs.declared.types.SqlType.TheVariants.{Bool as ABool, Int, Numeric, Text, Moment, Point, Polygon, Span, SpanSet, Box, TBool, TInt, TFrac, TText, TPoint}
use Rattle.mob_operators.{specs.declared.operator.Spelling.{Spelling}, specs.declared.operator.Spelling.TheVariants.{Word, Sign, Call}, specs.declared.operator.Op.{Op}}
use Rattle.mob_operators.specs.declared.operator.Op.TheVariants.{Not, And, Or, IsNull, IsNotNull, Test, Add, Subtract, Multiply, Divide, Negate, Same, Join, LiftedAnd, LiftedOr, LiftedNot, Lifted}
use Rattle.mob_operators.specs.declared.operator.Op.TheVariants.{Ever, Always, Overlap, AtTime, MinusTime, AtValues, MinusValues, ValueAtTimestamp, GetTime, WhenTrue, GetX, GetY, BoxOf, ExpandSpace}
use Rattle.mob_operators.specs.declared.operator.Op.TheVariants.{AtStbox, MinusStbox, AtGeometry, MinusGeometry, EIntersects, EDwithin, NearestApproachSquared, AsText}
use Rattle.mob_operators.{specs.declared.table.Bond.{Bond}, specs.declared.table.Bond.TheVariants.{Free, OneMoving, SameType, ByLiteral}, specs.declared.table.ResultType.{ResultType}}
use Rattle.mob_operators.{specs.declared.table.ResultType.TheVariants.{Only, First, Whole}, specs.Lookup.{Line}}

abbrev pub types : Type 0
types = List SqlType

abbrev pub names : Type 0
names = List (List ℕ × Op)

-- an int or a numeric
abbrev pub plain_number : types
plain_number = Int ∷ Numeric ∷ []

-- a tint or a tfrac
abbrev pub moving_number : types
moving_number = TInt ∷ TFrac ∷ []

-- the plain types of one kind of value, and the temporal type of that kind
abbrev pub bool_kind : types
bool_kind = ABool ∷ TBool ∷ []

abbrev pub number_kind : types
number_kind = Int ∷ Numeric ∷ TInt ∷ TFrac ∷ []

abbrev pub text_kind : types
text_kind = Text ∷ TText ∷ []

abbrev pub point_kind : types
point_kind = Point ∷ TPoint ∷ []

abbrev pub temporal_types : types
temporal_types = TBool ∷ TInt ∷ TFrac ∷ TText ∷ TPoint ∷ []

-- the types by which values are restricted to times
abbrev pub time_types : types
time_types = Moment ∷ Span ∷ SpanSet ∷ []

-- the types with a bounding box
abbrev pub boxed : types
boxed = Box ∷ TPoint ∷ []

abbrev pub any : types
any = ABool ∷ Int ∷ Numeric ∷ Text ∷ Moment ∷ Point ∷ Polygon ∷ Span ∷ SpanSet ∷ Box ∷ TBool ∷ TInt ∷ TFrac ∷ TText ∷ TPoint ∷ []

abbrev pub any_but_polygon : types
any_but_polygon = ABool ∷ Int ∷ Numeric ∷ Text ∷ Moment ∷ Point ∷ Span ∷ SpanSet ∷ Box ∷ TBool ∷ TInt ∷ TFrac ∷ TText ∷ TPoint ∷ []

abbrev pub printed : types
printed = TBool ∷ TInt ∷ TFrac ∷ TText ∷ TPoint ∷ Point ∷ Polygon ∷ Span ∷ SpanSet ∷ Box ∷ []

abbrev pub equals : names
equals = (codes "=", Test Eq) ∷ (codes "<>", Test Ne) ∷ []

abbrev pub orders : names
orders = (codes "<", Test Lt) ∷ (codes "<=", Test Le) ∷ (codes ">", Test Gt) ∷ (codes ">=", Test Ge) ∷ []

abbrev pub lifted_equals : names
lifted_equals = (codes "#=", Lifted Eq) ∷ (codes "#<>", Lifted Ne) ∷ []

abbrev pub lifted_orders : names
lifted_orders = (codes "#<", Lifted Lt) ∷ (codes "#<=", Lifted Le) ∷ (codes "#>", Lifted Gt) ∷ (codes "#>=", Lifted Ge) ∷ []

-- `?` asks for some instant, `%` for every instant
abbrev pub ever_equals : names
ever_equals = (codes "?=", Ever Eq) ∷ (codes "?<>", Ever Ne) ∷ (codes "%=", Always Eq) ∷ (codes "%<>", Always Ne) ∷ []

abbrev pub ever_orders : names
ever_orders = (codes "?<", Ever Lt) ∷ (codes "?<=", Ever Le) ∷ (codes "?>", Ever Gt) ∷ (codes "?>=", Ever Ge) ∷ (codes "%<", Always Lt) ∷ (codes "%<=", Always Le) ∷ (codes "%>", Always Gt) ∷ (codes "%>=", Always Ge) ∷ []

abbrev pub sums : names
sums = (codes "+", Add) ∷ (codes "-", Subtract) ∷ []

abbrev pub times : names
times = (codes "*", Multiply) ∷ []

abbrev pub divisions : names
divisions = (codes "/", Divide) ∷ []

abbrev pub joins : names
joins = (codes "||", Join) ∷ []

abbrev pub at_values : names
at_values = (codes "atvalues", AtValues) ∷ (codes "minusvalues", MinusValues) ∷ []

abbrev pub value_at_timestamp : names
value_at_timestamp = (codes "valueattimestamp", ValueAtTimestamp) ∷ []

abbrev pub to : SqlType → ResultType
to = Only

-- int if every argument is whole, else numeric; the next one: tint, else tfrac
abbrev pub to_number : ResultType
to_number = Whole Int Numeric

abbrev pub to_moving_number : ResultType
to_moving_number = Whole TInt TFrac

abbrev pub line : Spelling → names → List types → Bond → ResultType → Line
line f n ts b g = record { form = f; names = n; takes = ts; bond = b; gives = g }

-- The table of operators. A line has how its operators are written, their names, the types that it
-- takes for each argument, the condition on the arguments beyond their types, and the type of the
-- result.
unfoldable pub table : List Line
table =
    line Word ((codes "not", Not) ∷ []) ((ABool ∷ []) ∷ []) Free (to ABool)
    ∷ line Word ((codes "and", And) ∷ (codes "or", Or) ∷ []) ((ABool ∷ []) ∷ (ABool ∷ []) ∷ []) Free (to ABool)
    ∷ line Word ((codes "is null", IsNull) ∷ (codes "is not null", IsNotNull) ∷ []) (any ∷ []) Free (to ABool)
    ∷ line Sign equals (any_but_polygon ∷ any_but_polygon ∷ []) SameType (to ABool)
    ∷ line Sign equals (plain_number ∷ plain_number ∷ []) Free (to ABool)
    ∷ line Sign equals (moving_number ∷ moving_number ∷ []) Free (to ABool)
    ∷ line Sign orders (plain_number ∷ plain_number ∷ []) Free (to ABool)
    ∷ line Sign orders ((Text ∷ []) ∷ (Text ∷ []) ∷ []) Free (to ABool)
    ∷ line Sign orders ((Moment ∷ []) ∷ (Moment ∷ []) ∷ []) Free (to ABool)
    ∷ line Sign sums (plain_number ∷ plain_number ∷ []) Free to_number
    ∷ line Sign times (plain_number ∷ plain_number ∷ []) Free to_number
    ∷ line Sign divisions (plain_number ∷ plain_number ∷ []) ByLiteral (to Numeric)
    ∷ line Sign ((codes "-", Negate) ∷ (codes "+", Same) ∷ []) (plain_number ∷ []) Free First
    ∷ line Sign sums (number_kind ∷ number_kind ∷ []) OneMoving to_moving_number
    ∷ line Sign times (plain_number ∷ moving_number ∷ []) Free to_moving_number
    ∷ line Sign times (moving_number ∷ plain_number ∷ []) Free to_moving_number
    ∷ line Sign times ((TInt ∷ []) ∷ moving_number ∷ []) Free to_moving_number
    ∷ line Sign times ((TFrac ∷ []) ∷ (TInt ∷ []) ∷ []) Free to_moving_number
    ∷ line Sign divisions (moving_number ∷ plain_number ∷ []) ByLiteral (to TFrac)
    ∷ line Sign joins ((Text ∷ []) ∷ (Text ∷ []) ∷ []) Free (to Text)
    ∷ line Sign joins (text_kind ∷ text_kind ∷ []) OneMoving (to TText)
    ∷ line Sign ((codes "&", LiftedAnd) ∷ (codes "|", LiftedOr) ∷ []) (bool_kind ∷ bool_kind ∷ []) OneMoving (to TBool)
    ∷ line Sign ((codes "~", LiftedNot) ∷ []) ((TBool ∷ []) ∷ []) Free (to TBool)
    ∷ line Sign lifted_equals (bool_kind ∷ bool_kind ∷ []) OneMoving (to TBool)
    ∷ line Sign lifted_equals (number_kind ∷ number_kind ∷ []) OneMoving (to TBool)
    ∷ line Sign lifted_equals (text_kind ∷ text_kind ∷ []) OneMoving (to TBool)
    ∷ line Sign lifted_equals (point_kind ∷ point_kind ∷ []) OneMoving (to TBool)
    ∷ line Sign lifted_orders (number_kind ∷ number_kind ∷ []) OneMoving (to TBool)
    ∷ line Sign lifted_orders (text_kind ∷ text_kind ∷ []) OneMoving (to TBool)
    ∷ line Sign ever_equals (bool_kind ∷ bool_kind ∷ []) OneMoving (to ABool)
    ∷ line Sign ever_equals (number_kind ∷ number_kind ∷ []) OneMoving (to ABool)
    ∷ line Sign ever_equals (text_kind ∷ text_kind ∷ []) OneMoving (to ABool)
    ∷ line Sign ever_equals (point_kind ∷ point_kind ∷ []) OneMoving (to ABool)
    ∷ line Sign ever_orders (number_kind ∷ number_kind ∷ []) OneMoving (to ABool)
    ∷ line Sign ever_orders (text_kind ∷ text_kind ∷ []) OneMoving (to ABool)
    ∷ line Sign ((codes "&&", Overlap) ∷ []) (boxed ∷ boxed ∷ []) Free (to ABool)
    ∷ line Call ((codes "attime", AtTime) ∷ (codes "minustime", MinusTime) ∷ []) (temporal_types ∷ time_types ∷ []) Free First
    ∷ line Call at_values ((TBool ∷ []) ∷ (ABool ∷ []) ∷ []) Free First
    ∷ line Call at_values ((TInt ∷ []) ∷ (Int ∷ []) ∷ []) Free First
    ∷ line Call at_values ((TFrac ∷ []) ∷ plain_number ∷ []) Free First
    ∷ line Call at_values ((TText ∷ []) ∷ (Text ∷ []) ∷ []) Free First
    ∷ line Call at_values ((TPoint ∷ []) ∷ (Point ∷ []) ∷ []) Free First
    ∷ line Call value_at_timestamp ((TBool ∷ []) ∷ (Moment ∷ []) ∷ []) Free (to ABool)
    ∷ line Call value_at_timestamp ((TInt ∷ []) ∷ (Moment ∷ []) ∷ []) Free (to Int)
    ∷ line Call value_at_timestamp ((TFrac ∷ []) ∷ (Moment ∷ []) ∷ []) Free (to Numeric)
    ∷ line Call value_at_timestamp ((TText ∷ []) ∷ (Moment ∷ []) ∷ []) Free (to Text)
    ∷ line Call value_at_timestamp ((TPoint ∷ []) ∷ (Moment ∷ []) ∷ []) Free (to Point)
    ∷ line Call ((codes "gettime", GetTime) ∷ []) (temporal_types ∷ []) Free (to SpanSet)
    ∷ line Call ((codes "whentrue", WhenTrue) ∷ []) ((TBool ∷ []) ∷ []) Free (to SpanSet)
    ∷ line Call ((codes "getx", GetX) ∷ (codes "gety", GetY) ∷ []) ((TPoint ∷ []) ∷ []) Free (to TFrac)
    ∷ line Call ((codes "stbox", BoxOf) ∷ []) ((TPoint ∷ []) ∷ []) Free (to Box)
    ∷ line Call ((codes "expandspace", ExpandSpace) ∷ []) (boxed ∷ plain_number ∷ []) Free (to Box)
    ∷ line Call ((codes "atstbox", AtStbox) ∷ (codes "minusstbox", MinusStbox) ∷ []) ((TPoint ∷ []) ∷ (Box ∷ []) ∷ []) Free First
    ∷ line Call ((codes "atgeometry", AtGeometry) ∷ (codes "minusgeometry", MinusGeometry) ∷ []) ((TPoint ∷ []) ∷ (Polygon ∷ []) ∷ []) Free First
    ∷ line Call ((codes "eintersects", EIntersects) ∷ []) ((TPoint ∷ []) ∷ (Polygon ∷ []) ∷ []) Free (to ABool)
    ∷ line Call ((codes "edwithin", EDwithin) ∷ []) (point_kind ∷ point_kind ∷ plain_number ∷ []) OneMoving (to ABool)
    ∷ line Call ((codes "nearestapproachsquared", NearestApproachSquared) ∷ []) (point_kind ∷ point_kind ∷ []) OneMoving (to Numeric)
    ∷ line Call ((codes "astext", AsText) ∷ []) (printed ∷ []) Free (to Text)
    ∷ []

abbrev pub is_one_of : List (List ℕ) → List ℕ → Bool
is_one_of ns name = list_any (λ n. bytes_eq name n) ns

-- Whether a sign or function is refused because its results may be irrational.
abbrev pub is_irrational : Spelling → List ℕ → Bool
is_irrational Word name = false
is_irrational Sign name = is_one_of (codes "<->" ∷ codes "|=|" ∷ []) name
is_irrational Call name = is_one_of (codes "tdwithin" ∷ codes "nearestapproachdistance" ∷ codes "length" ∷ codes "speed" ∷ []) name
