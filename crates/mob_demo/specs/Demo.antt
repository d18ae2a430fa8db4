-- The demo: ships that move to and fro in a square, each with a position at every minute of an
-- hour, and a script that queries them.
use Rattle.std.{specs.Prelude.{ℕ, ◌+◌, ◌-◌, ◌*◌, ◌/◌, ◌%◌, ◌++◌, map, flat_map, codes, nat_le, if◌then◌else◌}, specs.Fmt.{decimal}, specs.List.{range_with_len}}
use Rattle.mob_language.specs.Language.{Text}
use Rattle.mob_scalar.{specs.Brackets.{with_commas}, specs.MomentText.{padded}}

-- ---- the positions of the ships

-- the place after this distance, moving to and fro between 0 and 5000
abbrev pub to_and_fro : ℕ → ℕ
to_and_fro way = if nat_le (way % 10000) 5000 then way % 10000 else 10000 - way % 10000

-- the x coordinate of a ship at a minute
unfoldable pub ship_x : ℕ → ℕ → ℕ
ship_x ship minute = to_and_fro (173 * ship + minute * (20 + 3 * (ship % 11)))

-- and its y coordinate
unfoldable pub ship_y : ℕ → ℕ → ℕ
ship_y ship minute = to_and_fro (311 * ship + minute * (15 + 5 * (ship % 7)))

-- ---- the table file `demo.csv`

-- the moment of a minute, counted from midnight of 2001-01-01
unfoldable pub minute_text : ℕ → Text
minute_text minute = codes "2001-01-01 " ++ (padded 2 (minute / 60) ++ (codes ":" ++ (padded 2 (minute % 60) ++ codes ":00+00")))

-- the position of a ship at a minute
unfoldable pub position_text : ℕ → ℕ → Text
position_text ship minute =
    codes "POINT(" ++ (decimal (ship_x ship minute) ++ (codes " " ++ (decimal (ship_y ship minute) ++ (codes ")@" ++ minute_text minute))))

-- the positions of a ship at the minutes 0 to 60, with a comma and a space between each two
unfoldable pub positions_text : ℕ → Text
positions_text ship = with_commas (map (position_text ship) (range_with_len 0 61))

-- its trip
unfoldable pub trip_text : ℕ → Text
trip_text ship = codes "[" ++ (positions_text ship ++ codes "]")

-- its line
unfoldable pub line_text : ℕ → Text
line_text ship = decimal ship ++ (codes ",\"" ++ (trip_text ship ++ codes "\"\n"))

-- the file: the names of the columns, and the lines of the ships from 1
unfoldable pub demo_file_text : ℕ → Text
demo_file_text ships = codes "id,trip\n" ++ flat_map line_text (range_with_len 1 ships)

-- ---- the script

unfoldable pub demo_script_text : Text
demo_script_text =
    codes "CREATE TABLE ship (id int, trip tgeompoint);\n"
    ++ (codes "COPY ship FROM 'demo.csv' WITH (FORMAT csv, HEADER);\n"
    ++ (codes "CREATE INDEX ship_trip ON ship USING GIST (trip);\n"
    ++ (codes "SELECT a.id AS a, b.id AS b FROM ship a, ship b WHERE a.id < b.id AND eDwithin(a.trip, b.trip, 50) LIMIT 5;\n"
    ++ codes "SELECT id, getTime(atGeometry(trip, geometry 'POLYGON((0 0,1000 0,1000 1000,0 1000,0 0))')) AS inside FROM ship LIMIT 5;\n")))
