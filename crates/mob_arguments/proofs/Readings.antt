-- The value of an option has one meaning.
use Rattle.std.{specs.Prelude.{◌≢◌, Bool, Result, true, false}, proofs.Common.{arith, ◌≡◌, ◌∙◌, ◌≤◌, ap, refl, subst, sym, true≢false, ℕ, ℤ, Option, Some, None, Ok, Err}}
use Rattle.std.proofs.lemmas.Fmt.{decimal_injective}
use Rattle.clap.specs.Words.{Text}
use Rattle.mob_ratio.{specs.Ratio.{Ratio}, specs.Order.{before}, specs.Sign.{nil}}
use Rattle.mob_numeral.{specs.Numbers.{numbers}, specs.Verdict.{Lit}, specs.declared.fault.ReadText.{ReadText}, specs.declared.fault.ReadText.TheVariants.{NoMemory}}
use Rattle.mob_scalar.proofs.OneReadings.{one_epoch, one_number}
use Rattle.mob_arguments.specs.Arguments.{IsCount, IsDistance, IsEpoch, IsFlag, IsOptional, IsRequired, IsWorkers}

-- ---- required options, and optional ones

module _ {A : Type 0} (Says : Text → A → Type 0) (one : (text : Text) (a b : A) → Says text a → Says text b → a ≡ b) where
  pub one_required : (value : Option Text) (a b : A) → IsRequired Says value a → IsRequired Says value b → a ≡ b
  one_required None a b h k = absurd h
  one_required (Some text) a b h k = one text a b h k

  pub one_optional : (value : Option Text) (a b : Option A) → IsOptional Says value a → IsOptional Says value b → a ≡ b
  one_optional None a b h k = h ∙ sym k
  one_optional (Some text) a b h k = h.1 ∙ ap Some (one text h.0 k.0 h.2 k.2) ∙ sym k.1

-- ---- flags, counts and days

pub one_flag : (value : Option Text) (a b : Bool) → IsFlag value a → IsFlag value b → a ≡ b
one_flag value true b h k = sym (k.0 (h.1 refl))
one_flag value a true h k = h.0 (k.1 refl)
one_flag value false false h k = refl

pub one_count : (most : ℕ) (text : Text) (m n : ℕ) → most ≤ 1000 → IsCount most text m → IsCount most text n → m ≡ n
one_count most text m n few h k =
    let least = h.2 in
    let others = k.2 in
    decimal_injective m n (omega arith) (omega arith) (sym h.0 ∙ k.0)

pub one_workers : (value : Option Text) (m n : ℕ) → IsWorkers value m → IsWorkers value n → m ≡ n
one_workers None m n h k = h ∙ sym k
one_workers (Some text) m n h k = one_count 64 text m n (omega arith) h k

known : {V : Type 0} (v : V) → ◌≡◌ {A = Result V ReadText} (Ok v) (Err NoMemory) → ⊥
known v e = absurd cc

same_ok : {V : Type 0} {v w : V} → ◌≡◌ {A = Result V ReadText} (Ok v) (Ok w) → v ≡ w
same_ok e = cc

pub one_day : (value : Option Text) (a b : ℤ) → IsEpoch value a → IsEpoch value b → a ≡ b
one_day None a b h k = h ∙ sym k
one_day (Some text) a b h k = same_ok (one_epoch text (Ok a) (Ok b) (known a) (known b) h k)

-- ---- numbers

pub one_ratio : (text : Text) (q d : Ratio) → Lit numbers text (Ok q) → Lit numbers text (Ok d) → q ≡ d
one_ratio text q d h k = same_ok (one_number text (Ok q) (Ok d) (known q) (known d) h k)

pub one_distance : (text : Text) (q d : Ratio) → IsDistance text q → IsDistance text d → q ≡ d
one_distance text q d h k = one_ratio text q d h.0 k.0

-- a negative number is not a distance
pub negative : (text : Text) (q d : Ratio) → Lit numbers text (Ok q) → before q nil ≡ true → IsDistance text d → ⊥
negative text q d h k i =
    let above = i.1 in
    let b : before d nil ≡ true = subst (λ z. before z nil ≡ true) (one_ratio text q d h i.0) k in
    let c : before d nil ≡ false = grind (arith, above) in
    true≢false (sym b ∙ c)

-- a text that cannot be read is not a number
pub unread : (text : Text) (r : Result Ratio ReadText) (d : Ratio) → r ≢ Err NoMemory → ((v : Ratio) → r ≡ Ok v → ⊥) → Lit numbers text r → Lit numbers text (Ok d) → ⊥
unread text r d n none h i = none d (one_number text r (Ok d) n (known d) h i)
