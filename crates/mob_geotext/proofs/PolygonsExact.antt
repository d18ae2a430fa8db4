-- The reader of polygons accepts exactly the texts of polygons.
use Rattle.std.{specs.Char.{to_ascii_lowercase}, proofs.Common.{◌≡◌, ℕ, [], ◌∷◌, ◌++◌, Bool, false, refl, sym, ap, subst, ◌∙◌, append_assoc, codes}}
use Rattle.mob_language.specs.Language.{Text, Language, ◌▷◌, Word, AreAll, Separated, blanks, is_blank, in_middle, within_blanks}
use Rattle.mob_language.specs.Readers.{TextReader, then_at, word_at, blanks_at, separated_at, within_blanks_at}
use Rattle.mob_language.proofs.Exact.{Exact, Stops, Any, then_exact, means_exact, many_exact, word_exact, any_case_exact}
use Rattle.mob_language.proofs.Heads.{NoHead, HasByte, byte_stops, means_head, then_head, where_head, many_head, word_head, word_then_head, byte_head, means_byte, then_byte, word_byte}
use Rattle.mob_language.{proofs.Heads.{then_byte_stops, after_any, IsEnd, within_exact}, proofs.Lists.{separated_exact}}
use Rattle.mob_numeral.{specs.Blanks.{some_blanks, some_blanks_at}, specs.Fitting.{number_value, number_value_at}, proofs.NumberExact.{continues}}
use Rattle.mob_numeral.{proofs.SomeBlanks.{some_blanks_exact, some_blanks_byte}, proofs.WholeTexts.{back_nil, blank_stops, number_value_exact, number_value_blank, number_value_byte}}
use Rattle.mob_scalar.{specs.Brackets.{comma, comma_at}, proofs.Closing.{Ends}, proofs.BracketsExact.{comma_exact, comma_byte, list_head, list_byte, sign_ends, NoComma}}
use Rattle.mob_points.proofs.PointsExact.{any_case_head, any_case_byte, behind_srid_exact, behind_srid_blank, behind_srid_byte}
use Rattle.mob_geotext.specs.Polygons.{within_brackets, vertex_said, vertex, written_ring, written_rings, polygon_said, written_polygon, polygon_value, vertex_at, bracketed_at, written_ring_at}
use Rattle.mob_geotext.specs.Polygons.{written_polygon_at, polygon_value_at}

-- ---- a point of a ring

gap_exact : Exact (some_blanks ▷ number_value) (then_at some_blanks_at number_value_at) (Stops continues)
gap_exact = then_byte_stops some_blanks_exact number_value_exact number_value_blank number_value_byte

gap_continues : NoHead (some_blanks ▷ number_value) continues
gap_continues = byte_head number_value (means_head (where_head (many_head blank_stops))) some_blanks_byte

vertex_exact : Exact vertex vertex_at (Stops continues)
unfolding vertex_at
vertex_exact = means_exact vertex_said (then_byte_stops number_value_exact gap_exact gap_continues (then_byte number_value some_blanks_byte))

vertex_blank : NoHead vertex is_blank
vertex_blank = means_head (byte_head (some_blanks ▷ number_value) number_value_blank number_value_byte)

vertex_byte : HasByte vertex
vertex_byte = means_byte vertex_said (then_byte (some_blanks ▷ number_value) number_value_byte)

-- ---- brackets

open_exact : Exact (Word (codes "(") ▷ blanks) (then_at (word_at (codes "(")) blanks_at) (Stops is_blank)
open_exact = then_exact {F = Any} (word_exact (codes "(")) (many_exact is_blank) (λ text rest v said after. tt)

close_exact : Exact (blanks ▷ Word (codes ")")) (then_at blanks_at (word_at (codes ")"))) Any
close_exact = then_byte_stops (many_exact is_blank) (word_exact (codes ")")) (word_head (codes ")") is_blank refl) (word_byte 41 [])

bracket_ends : Ends 41
bracket_ends = record { moment = refl; blank = refl; digit = refl; t = refl }

-- a closing bracket and the blanks before it begin neither with a comma nor with the rest of a
-- number
close_no_comma : (text rest : Text) (v : Text × Unit {0}) → (blanks ▷ Word (codes ")")) text v → NoComma (text ++ rest)
close_no_comma text rest v s =
    let is : text ++ rest ≡ s.front ++ (41 ∷ rest) = ap (λ (t : Text). t ++ rest) s.whole ∙ append_assoc s.front s.back rest ∙ ap (λ (t : Text). s.front ++ (t ++ rest)) s.second in
    subst NoComma (sym is) (sign_ends s.front 41 rest (subst (AreAll is_blank) (sym s.first.is) s.first.each) bracket_ends refl).no_comma

close_continues : NoHead (blanks ▷ Word (codes ")")) continues
close_continues = then_head (many_head blank_stops) (word_head (codes ")") continues refl)

close_byte : HasByte (blanks ▷ Word (codes ")"))
close_byte text v said e = word_byte 41 [] said.back v.1 said.second (back_nil said.front said.back (sym said.whole ∙ e))

pub comma_continues : NoHead comma continues
comma_continues = means_head (then_head (many_head blank_stops) (word_then_head 44 [] continues refl))

-- members in brackets: no further member follows a list of them if no comma follows it
bracketed_exact : {A : Type 0} {l : Language A} {H : Text → Type 0} (r : TextReader A) → Exact (Separated l comma) (separated_at r comma_at) H → NoHead l is_blank → HasByte l
    → ((text rest : Text) (v : Text × Unit {0}) → (blanks ▷ Word (codes ")")) text v → H (text ++ rest)) → Exact (within_brackets (Separated l comma)) (bracketed_at r) Any
unfolding bracketed_at
bracketed_exact {l = l} r p head byte ends = means_exact in_middle (then_byte_stops open_exact
    (then_exact p close_exact (λ text rest v said after. ends text rest v said))
    (byte_head _ (list_head l comma is_blank head byte) (list_byte l comma byte)) (then_byte _ (list_byte l comma byte)))

bracketed_blank : {A : Type 0} {l : Language A} → NoHead (within_brackets l) is_blank
bracketed_blank = means_head (byte_head _ (word_then_head 40 [] is_blank refl) (then_byte blanks (word_byte 40 [])))

bracketed_byte : {A : Type 0} {l : Language A} → HasByte (within_brackets l)
bracketed_byte = means_byte in_middle (then_byte _ (then_byte blanks (word_byte 40 [])))

-- ---- a ring

-- what may follow the points of a ring
abbrev AfterPoints : Text → Type 0
AfterPoints rest = NoComma rest × Stops continues rest

points_exact : Exact (Separated vertex comma) (separated_at vertex_at comma_at) AfterPoints
points_exact = separated_exact vertex_exact comma_exact comma_byte
    (λ rest after. after)
    (λ y rest said. byte_stops continues y rest (comma_continues y tt said) (comma_byte y tt said))
    (λ x rest v said. byte_stops is_blank x rest (vertex_blank x v said) (vertex_byte x v said))

ring_exact : Exact written_ring written_ring_at Any
ring_exact = bracketed_exact vertex_at points_exact vertex_blank vertex_byte
    (λ text rest v said. (close_no_comma text rest v said, byte_stops continues text rest (close_continues text v said) (close_byte text v said)))

-- ---- rings

listed_exact : Exact (Separated written_ring comma) (separated_at written_ring_at comma_at) NoComma
listed_exact = separated_exact ring_exact comma_exact comma_byte
    (λ rest after. (after, tt))
    (λ y rest said. tt)
    (λ x rest v said. byte_stops is_blank x rest (bracketed_blank x v said) (bracketed_byte x v said))

rings_exact : Exact written_rings (bracketed_at written_ring_at) Any
rings_exact = bracketed_exact written_ring_at listed_exact bracketed_blank bracketed_byte close_no_comma

-- ---- a polygon

polygon_exact : Exact written_polygon written_polygon_at Any
unfolding written_polygon_at
polygon_exact = means_exact polygon_said (after_any (any_case_exact (codes "polygon")) (then_byte_stops (many_exact is_blank) rings_exact bracketed_blank bracketed_byte))

-- a polygon begins with the letter p, in either case
polygon_head : (test : ℕ → Bool) → ((c : ℕ) → to_ascii_lowercase c ≡ 112 → test c ≡ false) → NoHead written_polygon test
polygon_head test h = means_head (byte_head (blanks ▷ written_rings) (any_case_head 112 (codes "olygon") test h) (any_case_byte 112 (codes "olygon")))

polygon_byte : HasByte written_polygon
polygon_byte = means_byte polygon_said (then_byte (blanks ▷ written_rings) (any_case_byte 112 (codes "olygon")))

polygon_value_exact : Exact polygon_value polygon_value_at Any
unfolding polygon_value_at
polygon_value_exact = behind_srid_exact polygon_exact polygon_head polygon_byte

pub polygons_exact : Exact (within_blanks polygon_value) (within_blanks_at polygon_value_at) IsEnd
polygons_exact = within_exact polygon_value_exact (behind_srid_blank polygon_head) (behind_srid_byte polygon_byte) (λ bs each. tt)
