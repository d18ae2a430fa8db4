-- The answers of a reader of texts: a value, or the first fault. Whether the text has the form of
-- the type is decided first.
use Rattle.std.specs.Prelude.{◌≡◌, ◌≢◌, Result, Ok, Err}
use Rattle.mob_language.specs.Language.{Text, Language}
use Rattle.mob_numeral.{specs.declared.fault.ReadText.{ReadText}, specs.declared.fault.ReadText.TheVariants.{NotText, Limit, TooLarge, Unsound, NoMemory}}

-- The texts of a type are those of `shape`, and each denotes a value of S. Of these, `long` has too
-- many instants or points, `large` has a number that does not fit, and `unsound` breaks a
-- condition. Otherwise `means` gives the value.
pub record TextForm (S V : Type 0) : Type 1 where
  pub shape : Language S
  pub long : S → Type 0
  pub large : S → Type 0
  pub unsound : S → Type 0
  pub means : S → V → Type 0

abbrev pub Lit : {S V : Type 0} → TextForm S V → Text → Result V ReadText → Type 0
Lit {S} f text (Ok v) = (s : S) × f.shape text s × ¬ f.long s × ¬ f.large s × ¬ f.unsound s × f.means s v
Lit {S} f text (Err NotText) = (s : S) → f.shape text s → ⊥
Lit {S} f text (Err Limit) = (s : S) × f.shape text s × f.long s
Lit {S} f text (Err TooLarge) = (s : S) × f.shape text s × ¬ f.long s × f.large s
Lit {S} f text (Err Unsound) = (s : S) × f.shape text s × ¬ f.long s × ¬ f.large s × f.unsound s
Lit f text (Err NoMemory) = Unit {0}

-- each text has one reading: two answers for it, neither a failed allocation, are the same
abbrev pub HasOneReading : {S V : Type 0} → TextForm S V → Type 0
HasOneReading {S} {V} f = (text : Text) (a b : Result V ReadText) → a ≢ Err NoMemory → b ≢ Err NoMemory → Lit f text a → Lit f text b → a ≡ b
