-- The texts of temporal literals.
--
-- A literal is one `value@moment`, a set of them in braces, a sequence of them between brackets, or
-- sequences in braces. Blanks may be at both ends, and on both sides of each sign outside values
-- and moments. A single instant, or an instant of a set, denotes the sequence of that instant
-- alone. So each literal denotes a list of sequences. A prefix says whether these sequences have
-- step interpolation.
use Rattle.std.specs.Prelude.{◌≡◌, ℕ, List, [], ◌∷◌, ◌++◌, map, codes, true, ◌&&◌, not, nat_eq, Option, ℤ}
use Rattle.mob_language.specs.Language.{Text, Language, ◌▷◌, ◌∣◌, Means, Separated, spaced, in_middle, within_blanks}
use Rattle.mob_language.{specs.Readers.{TextReader, ◌>>=◌, then_at, or_at, means_at, separated_at, spaced_at, within_blanks_at}, proofs.Exact.{Stops}}
use Rattle.mob_scalar.{specs.declared.stamp.Stamp.{Stamp}, specs.Moment.{moment, instant}, specs.MomentReaders.{moment_at}}
use Rattle.mob_scalar.specs.Brackets.{comma, opening, closing, within_braces, comma_at, opening_at, closing_at, open_brace_at, close_brace_at}
use Rattle.mob_written.{specs.declared.written.Noted.{Noted}, specs.declared.written.Sequence.{Sequence}, specs.declared.written.Literal.{Literal}, specs.declared.written.Prefixes.{Prefixes}}
use Rattle.mob_written.specs.Prefix.{Prefix, ArePrefixes, remaining, says_step, begins_prefix, prefixes_at}
use Rattle.mob_numeral.specs.Fitting.{fitting}

abbrev pub at_sign : Language (Unit {0})
at_sign = spaced (codes "@")

-- a value at a moment, whose instant may not fit
abbrev pub noted_of : {B : Type 0} → ℤ → Option B × (Unit {0} × Stamp) → Noted B
noted_of day v = record { value = v.0; instant = fitting (instant day v.1.1) }

-- value@moment
abbrev pub noted : {B : Type 0} → ℤ → (Text → Option B → Type 0) → Language (Noted B)
noted day value = Means (noted_of day) (value ▷ (at_sign ▷ moment))

abbrev pub sequence_of : {A : Type 0} → ℕ × (List A × ℕ) → Sequence A
sequence_of v = record { lower_inc = nat_eq v.0 91; instants = v.1.0; upper_inc = nat_eq v.1.1 93 }

-- an opening bracket, instants with commas between them, and a closing bracket
abbrev pub sequence : {A : Type 0} → (Text → A → Type 0) → Language (Sequence A)
sequence entry = Means sequence_of (opening ▷ (Separated entry comma ▷ closing))

-- the sequence of a single instant
abbrev pub alone : {A : Type 0} → A → Sequence A
alone i = record { lower_inc = true; instants = i ∷ []; upper_inc = true }

-- sequences, or instants, with commas between them
abbrev pub set_members : {A : Type 0} → (Text → A → Type 0) → Language (List (Sequence A))
set_members entry = Separated (sequence entry) comma ∣ Means (map alone) (Separated entry comma)

abbrev pub braced : {A : Type 0} → (Text → A → Type 0) → Language (List (Sequence A))
braced entry = within_braces (set_members entry)

abbrev pub one_sequence : {A : Type 0} → Sequence A → List (Sequence A)
one_sequence q = q ∷ []

abbrev pub one_instant : {A : Type 0} → A → List (Sequence A)
one_instant i = alone i ∷ []

abbrev pub literal : {A : Type 0} → (Text → A → Type 0) → Language (List (Sequence A))
literal entry = braced entry ∣ (Means one_sequence (sequence entry) ∣ Means one_instant entry)

-- a literal after prefixes that are admitted
pub record Prefixed {A : Type 0} (admitted : Prefixes) (entry : Text → A → Type 0) (text : Text) (v : Literal A) : Type 0 where
  pub front : Text
  pub back : Text
  pub whole : text ≡ front ++ back
  pub said : List Prefix
  pub prefixes : ArePrefixes admitted front said
  pub behind : Stops (begins_prefix (remaining admitted said)) back
  pub sequences : literal entry back v.sequences
  pub step : v.says_step ≡ says_step said

-- a literal of a type that admits these prefixes, with optional blanks at both ends
abbrev pub temporal : {A : Type 0} → Prefixes → (Text → A → Type 0) → Language (Literal A)
temporal admitted entry = within_blanks (Prefixed admitted entry)

-- ---- the readers of these languages

unfoldable pub at_sign_at : TextReader (Unit {0})
at_sign_at = spaced_at (codes "@")

unfoldable pub noted_at : {B : Type 0} → ℤ → TextReader (Option B) → TextReader (Noted B)
noted_at day value = means_at (noted_of day) (then_at value (then_at at_sign_at moment_at))

unfoldable pub instants_at : {A : Type 0} → TextReader A → TextReader (List A)
instants_at entry = separated_at entry comma_at

unfoldable pub sequence_at : {A : Type 0} → TextReader A → TextReader (Sequence A)
sequence_at entry = means_at sequence_of (then_at opening_at (then_at (instants_at entry) closing_at))

unfoldable pub sequences_at : {A : Type 0} → TextReader A → TextReader (List (Sequence A))
sequences_at entry = separated_at (sequence_at entry) comma_at

unfoldable pub members_at : {A : Type 0} → TextReader A → TextReader (List (Sequence A))
members_at entry = or_at (sequences_at entry) (means_at (map alone) (instants_at entry))

unfoldable pub braced_at : {A : Type 0} → TextReader A → TextReader (List (Sequence A))
braced_at entry = means_at in_middle (then_at open_brace_at (then_at (members_at entry) close_brace_at))

unfoldable pub temporal_literal_at : {A : Type 0} → TextReader A → TextReader (List (Sequence A))
temporal_literal_at entry = or_at (braced_at entry) (or_at (means_at one_sequence (sequence_at entry)) (means_at one_instant entry))

-- step interpolation was asked for if its prefix was admitted and is no longer allowed
abbrev pub with_sequences : {A : Type 0} → Prefixes → Prefixes → List (Sequence A) → Literal A
with_sequences admitted left qs = record { says_step = admitted.step && not left.step; sequences = qs }

unfoldable pub prefixed_at : {A : Type 0} → Prefixes → TextReader A → TextReader (Literal A)
prefixed_at admitted entry text = prefixes_at admitted text >>= λ x. means_at (with_sequences admitted x.0) (temporal_literal_at entry) x.1

unfoldable pub temporal_at : {A : Type 0} → Prefixes → TextReader A → TextReader (Literal A)
temporal_at admitted entry = within_blanks_at (prefixed_at admitted entry)
