-- The reader of points accepts exactly the texts of points.
use Rattle.std.{specs.Prelude.{◌||◌, nat_eq}, specs.Char.{to_ascii_lowercase}, proofs.Common.{◌≡◌, ℕ, [], ◌∷◌, Bool, false, Option, Some, None, Ok, Err, refl, sym, ◌∙◌, rules, codes}}
use Rattle.std.proofs.lemmas.Bool.{or_parts, or_from}
use Rattle.mob_language.{specs.Language.{Text, Language, ◌▷◌, AnyCase, is_blank, spaced, within_blanks}, specs.Readers.{TextReader, then_at, all_of, within_blanks_at}}
use Rattle.mob_language.proofs.Exact.{Exact, Stops, Any, means_exact, many_exact, word_exact, any_case_exact, is_said, not_said}
use Rattle.mob_language.proofs.Heads.{NoHead, HasByte, Nothing, exact_less, stops_less, then_head, maybe_head, means_head, where_head, many_head, word_head, maybe_stops, byte_head, then_byte}
use Rattle.mob_language.proofs.Heads.{means_byte, word_byte, then_byte_stops, after_any, spaced_exact, IsEnd, within_exact}
use Rattle.mob_numeral.{specs.Blanks.{some_blanks, some_blanks_at}, specs.Fitting.{number_value, number_value_at}, specs.declared.fault.ReadText.TheVariants.{NotText, TooLarge}, specs.Verdict.{Lit}}
use Rattle.mob_numeral.{proofs.NumberExact.{continues}, proofs.SomeBlanks.{some_blanks_exact, some_blanks_byte}}
use Rattle.mob_numeral.proofs.WholeTexts.{back_nil, blank_stops, number_value_exact, number_value_blank, number_value_byte}
use Rattle.mob_plane.specs.declared.point.Point.{Point}
use Rattle.mob_points.specs.Points.{close_bracket, coordinates_said, coordinates, point_said, written_point, srid_said, srid_zero, past_srid, behind_srid, point_value, points, close_bracket_at}
use Rattle.mob_points.specs.Points.{coordinates_at, written_point_at, srid_zero_at, behind_srid_at, point_value_at}

-- ---- two numbers and a closing bracket

pub close_exact : Exact close_bracket close_bracket_at Any
unfolding close_bracket_at
close_exact = means_exact (λ (v : Text × Unit {0}). tt) (then_byte_stops (many_exact is_blank) (word_exact (codes ")")) (word_head (codes ")") is_blank refl) (word_byte 41 []))

-- no number goes on with a byte that begins the closing bracket
pub close_continues : NoHead close_bracket continues
close_continues = means_head (then_head (many_head blank_stops) (word_head (codes ")") continues refl))

pub close_byte : HasByte close_bracket
close_byte = means_byte (λ (v : Text × Unit {0}). tt) (λ text v said e. word_byte 41 [] said.back v.1 said.second (back_nil said.front said.back (sym said.whole ∙ e)))

pub last_exact : Exact (number_value ▷ close_bracket) (then_at number_value_at close_bracket_at) Any
last_exact = then_byte_stops number_value_exact close_exact close_continues close_byte

gap_exact : Exact (some_blanks ▷ (number_value ▷ close_bracket)) (then_at some_blanks_at (then_at number_value_at close_bracket_at)) Any
gap_exact = then_byte_stops some_blanks_exact last_exact (byte_head close_bracket number_value_blank number_value_byte) (then_byte close_bracket number_value_byte)

gap_continues : NoHead (some_blanks ▷ (number_value ▷ close_bracket)) continues
gap_continues = byte_head (number_value ▷ close_bracket) (means_head (where_head (many_head blank_stops))) some_blanks_byte

coordinates_exact : Exact coordinates coordinates_at Any
unfolding coordinates_at
coordinates_exact = means_exact coordinates_said (then_byte_stops number_value_exact gap_exact gap_continues (then_byte (number_value ▷ close_bracket) some_blanks_byte))

coordinates_blank : NoHead coordinates is_blank
coordinates_blank = means_head (byte_head (some_blanks ▷ (number_value ▷ close_bracket)) number_value_blank number_value_byte)

coordinates_byte : HasByte coordinates
coordinates_byte = means_byte coordinates_said (then_byte (some_blanks ▷ (number_value ▷ close_bracket)) number_value_byte)

-- ---- a word whose first letter is known

first_letter : (c w : ℕ) (cs ws : Text) → c ∷ cs ≡ w ∷ ws → c ≡ w
first_letter c w cs ws e = cc

-- no such word begins with a byte that passes the test, if its first letter fails the test in
-- either case
pub any_case_head : (w : ℕ) (ws : Text) (test : ℕ → Bool) → ((c : ℕ) → to_ascii_lowercase c ≡ w → test c ≡ false) → NoHead (AnyCase (w ∷ ws)) test
any_case_head w ws test h [] v said = tt
any_case_head w ws test h (c ∷ cs) v said = h c (first_letter _ w _ ws said)

pub any_case_byte : (w : ℕ) (ws : Text) → HasByte (AnyCase (w ∷ ws))
any_case_byte w ws [] v said e = absurd cc
any_case_byte w ws (c ∷ cs) v said e = absurd cc

-- ---- a point

pub point_exact : Exact written_point written_point_at Any
unfolding written_point_at
point_exact = means_exact point_said (after_any (any_case_exact (codes "point")) (then_byte_stops (spaced_exact 40 [] refl) coordinates_exact coordinates_blank coordinates_byte))

-- a point begins with the letter p, in either case
pub point_head : (test : ℕ → Bool) → ((c : ℕ) → to_ascii_lowercase c ≡ 112 → test c ≡ false) → NoHead written_point test
point_head test h = means_head (byte_head (spaced (codes "(") ▷ coordinates) (any_case_head 112 (codes "oint") test h) (any_case_byte 112 (codes "oint")))

pub point_byte : HasByte written_point
point_byte = means_byte point_said (then_byte (spaced (codes "(") ▷ coordinates) (any_case_byte 112 (codes "oint")))

-- ---- a point after SRID=0;

-- a byte that begins SRID=0;, or a blank
abbrev begins_srid : ℕ → Bool
begins_srid c = nat_eq (to_ascii_lowercase c) 115 || is_blank c

less_blank : (c : ℕ) → begins_srid c ≡ false → is_blank c ≡ false
less_blank c e = (or_parts (nat_eq (to_ascii_lowercase c) 115) (is_blank c) e).1

srid_exact : Exact srid_zero srid_zero_at (Stops begins_srid)
unfolding srid_zero_at
srid_exact = exact_less (means_exact srid_said (after_any (any_case_exact (codes "srid=0")) (spaced_exact 59 [] refl))) (stops_less begins_srid is_blank less_blank)

srid_nothing : Nothing srid_zero_at begins_srid
unfolding srid_zero_at
srid_nothing [] s = refl
srid_nothing (c ∷ cs) s = rw ((or_parts (nat_eq (to_ascii_lowercase c) 115) (is_blank c) s).0) refl

srid_head : (test : ℕ → Bool) → ((c : ℕ) → to_ascii_lowercase c ≡ 115 → test c ≡ false) → NoHead srid_zero test
srid_head test h = means_head (byte_head (spaced (codes ";")) (any_case_head 115 (codes "rid=0") test h) (any_case_byte 115 (codes "rid=0")))

p_no_blank : (c : ℕ) → to_ascii_lowercase c ≡ 112 → is_blank c ≡ false
p_no_blank c e = search rules

p_begins_none : (c : ℕ) → to_ascii_lowercase c ≡ 112 → begins_srid c ≡ false
p_begins_none c e = or_from (nat_eq (to_ascii_lowercase c) 115) (is_blank c) (rw e refl) (p_no_blank c e)

-- each text of the language begins with the letter p, in either case
abbrev pub BeginsWithP : {A : Type 0} → Language A → Type 0
BeginsWithP l = (test : ℕ → Bool) → ((c : ℕ) → to_ascii_lowercase c ≡ 112 → test c ≡ false) → NoHead l test

-- such a text, with or without SRID=0; before it
module _ {A : Type 0} {l : Language A} where
  pub behind_srid_exact : {r : TextReader A} → Exact l r Any → BeginsWithP l → HasByte l → Exact (behind_srid l) (behind_srid_at r) Any
  unfolding behind_srid_at
  behind_srid_exact p head byte = means_exact past_srid (then_byte_stops (maybe_stops srid_exact srid_nothing) p (head begins_srid p_begins_none) byte)

  -- it begins with the letter s or p, in either case
  pub behind_srid_head : BeginsWithP l → (test : ℕ → Bool) → ((c : ℕ) → to_ascii_lowercase c ≡ 115 → test c ≡ false) → ((c : ℕ) → to_ascii_lowercase c ≡ 112 → test c ≡ false) → NoHead (behind_srid l) test
  behind_srid_head head test h k = means_head (then_head (maybe_head (srid_head test h)) (head test k))

  pub behind_srid_byte : HasByte l → HasByte (behind_srid l)
  behind_srid_byte byte = means_byte past_srid (λ text v said e. byte said.back v.1 said.second (back_nil said.front said.back (sym said.whole ∙ e)))

pub point_value_exact : Exact point_value point_value_at Any
unfolding point_value_at
point_value_exact = behind_srid_exact point_exact point_head point_byte

pub point_value_head : (test : ℕ → Bool) → ((c : ℕ) → to_ascii_lowercase c ≡ 115 → test c ≡ false) → ((c : ℕ) → to_ascii_lowercase c ≡ 112 → test c ≡ false) → NoHead point_value test
point_value_head = behind_srid_head point_head

pub point_value_byte : HasByte point_value
point_value_byte = behind_srid_byte point_byte

pub s_no_blank : (c : ℕ) → to_ascii_lowercase c ≡ 115 → is_blank c ≡ false
s_no_blank c e = search rules

pub behind_srid_blank : {A : Type 0} {l : Language A} → BeginsWithP l → NoHead (behind_srid l) is_blank
behind_srid_blank head = behind_srid_head head is_blank s_no_blank p_no_blank

pub points_exact : Exact (within_blanks point_value) (within_blanks_at point_value_at) IsEnd
points_exact = within_exact point_value_exact (behind_srid_blank point_head) point_value_byte (λ bs each. tt)

-- ---- the answers of the code

abbrev all_points : Text → Option (Option Point)
all_points bytes = all_of (within_blanks_at point_value_at) bytes

pub no_point : (text bytes : Text) → bytes ≡ text → ◌≡◌ {A = Option (Option Point)} None (all_points bytes) → Lit points text (Err NotText)
no_point text bytes e h = λ s said. not_said points_exact refl text bytes s e h said

pub large_point : (text bytes : Text) → bytes ≡ text → ◌≡◌ {A = Option (Option Point)} (Some None) (all_points bytes) → Lit points text (Err TooLarge)
large_point text bytes e h = (None, is_said points_exact text bytes None e h, (λ x. x), refl)

pub some_none : (p : Point) → ◌≡◌ {A = Option Point} (Some p) None → ⊥
some_none p e = absurd cc

pub point_read : (text bytes : Text) (p : Point) → bytes ≡ text → ◌≡◌ {A = Option (Option Point)} (Some (Some p)) (all_points bytes) → Lit points text (Ok p)
point_read text bytes p e h = (Some p, is_said points_exact text bytes (Some p) e h, (λ x. x), some_none p, (λ x. x), refl)
