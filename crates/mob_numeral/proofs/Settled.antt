-- A form fixes the reading of each text if no text denotes two things and each of these has one
-- value.
use Rattle.std.{specs.Prelude.{Result}, proofs.Common.{◌≡◌, ◌≢◌, refl, ap, subst, Ok, Err}}
use Rattle.mob_language.specs.Language.{Text}
use Rattle.mob_numeral.{specs.declared.fault.ReadText.{ReadText}, specs.declared.fault.ReadText.TheVariants.{NotText, Limit, TooLarge, Unsound, NoMemory}, specs.Verdict.{TextForm, Lit}}

pub settled : {S V : Type 0} (f : TextForm S V) (text : Text) → ((s t : S) → f.shape text s → f.shape text t → s ≡ t) → ((s : S) (v w : V) → f.means s v → f.means s w → v ≡ w)
    → (a b : Result V ReadText) → a ≢ Err NoMemory → b ≢ Err NoMemory → Lit f text a → Lit f text b → a ≡ b
settled f text one value (Ok v) (Ok w) n m a b = ap (λ x. Ok x) (value a.0 v w a.5 (subst (λ s. f.means s w) (one b.0 a.0 b.1 a.1) b.5))
settled f text one value (Ok v) (Err NotText) n m a b = absurd (b a.0 a.1)
settled f text one value (Ok v) (Err Limit) n m a b = absurd (a.2 (subst f.long (one b.0 a.0 b.1 a.1) b.2))
settled f text one value (Ok v) (Err TooLarge) n m a b = absurd (a.3 (subst f.large (one b.0 a.0 b.1 a.1) b.3))
settled f text one value (Ok v) (Err Unsound) n m a b = absurd (a.4 (subst f.unsound (one b.0 a.0 b.1 a.1) b.4))
settled f text one value (Ok v) (Err NoMemory) n m a b = absurd (m refl)
settled f text one value (Err NotText) (Ok w) n m a b = absurd (a b.0 b.1)
settled f text one value (Err NotText) (Err NotText) n m a b = refl
settled f text one value (Err NotText) (Err Limit) n m a b = absurd (a b.0 b.1)
settled f text one value (Err NotText) (Err TooLarge) n m a b = absurd (a b.0 b.1)
settled f text one value (Err NotText) (Err Unsound) n m a b = absurd (a b.0 b.1)
settled f text one value (Err NotText) (Err NoMemory) n m a b = absurd (m refl)
settled f text one value (Err Limit) (Ok w) n m a b = absurd (b.2 (subst f.long (one a.0 b.0 a.1 b.1) a.2))
settled f text one value (Err Limit) (Err NotText) n m a b = absurd (b a.0 a.1)
settled f text one value (Err Limit) (Err Limit) n m a b = refl
settled f text one value (Err Limit) (Err TooLarge) n m a b = absurd (b.2 (subst f.long (one a.0 b.0 a.1 b.1) a.2))
settled f text one value (Err Limit) (Err Unsound) n m a b = absurd (b.2 (subst f.long (one a.0 b.0 a.1 b.1) a.2))
settled f text one value (Err Limit) (Err NoMemory) n m a b = absurd (m refl)
settled f text one value (Err TooLarge) (Ok w) n m a b = absurd (b.3 (subst f.large (one a.0 b.0 a.1 b.1) a.3))
settled f text one value (Err TooLarge) (Err NotText) n m a b = absurd (b a.0 a.1)
settled f text one value (Err TooLarge) (Err Limit) n m a b = absurd (a.2 (subst f.long (one b.0 a.0 b.1 a.1) b.2))
settled f text one value (Err TooLarge) (Err TooLarge) n m a b = refl
settled f text one value (Err TooLarge) (Err Unsound) n m a b = absurd (b.3 (subst f.large (one a.0 b.0 a.1 b.1) a.3))
settled f text one value (Err TooLarge) (Err NoMemory) n m a b = absurd (m refl)
settled f text one value (Err Unsound) (Ok w) n m a b = absurd (b.4 (subst f.unsound (one a.0 b.0 a.1 b.1) a.4))
settled f text one value (Err Unsound) (Err NotText) n m a b = absurd (b a.0 a.1)
settled f text one value (Err Unsound) (Err Limit) n m a b = absurd (a.2 (subst f.long (one b.0 a.0 b.1 a.1) b.2))
settled f text one value (Err Unsound) (Err TooLarge) n m a b = absurd (a.3 (subst f.large (one b.0 a.0 b.1 a.1) b.3))
settled f text one value (Err Unsound) (Err Unsound) n m a b = refl
settled f text one value (Err Unsound) (Err NoMemory) n m a b = absurd (m refl)
settled f text one value (Err NoMemory) b n m a k = absurd (n refl)
