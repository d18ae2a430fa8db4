-- Which bytes a text begins with, and which may follow it.
--
-- A reader goes on as far as it can, so it reads a whole text only if the rest does not continue
-- it. Three families of facts say this by the next byte alone, and each has a law for each way to
-- build a language:
--     NoHead l test    no text of l begins with a byte that passes the test
--     Nothing r test   the reader r reads nothing if the next byte does not pass the test
--     HasByte l        each text of l has a byte
-- The laws of Exact are stated again in these words (then_stops, maybe_stops, or_stops, ..).
use Rattle.std.{proofs.Common.{◌≡◌, ℕ, [], ◌∷◌, ◌++◌, Bool, true, false, Some, None, refl, sym, ap, subst, ◌∙◌, inl, inr}, proofs.lemmas.Bool.{ne_eqb, both_ways}, proofs.lemmas.List.{append-nil}}
use Rattle.mob_language.specs.Language.{Text, Language, ◌▷◌, ◌∣◌, Maybe, Means, Where, Word, OneOf, AreAll, ManyOf, blanks, spaced, is_blank, in_middle, within_blanks}
use Rattle.mob_language.specs.Readers.{TextReader, then_at, or_at, maybe_at, means_at, text_where, word_at, one_at, spaced_at, within_blanks_at}
use Rattle.mob_language.proofs.Exact.{Exact, Stops, Any, then_exact, or_exact, maybe_exact, means_exact, word_exact, many_exact}

-- no text of the language begins with such a byte
abbrev pub NoHead : {A : Type 0} → Language A → (ℕ → Bool) → Type 0
NoHead {A} l test = (text : Text) (v : A) → l text v → Stops test text

-- no byte passes both
abbrev pub Apart : (ℕ → Bool) → (ℕ → Bool) → Type 0
Apart a b = (c : ℕ) → a c ≡ true → b c ≡ false

pub stops_both : (test : ℕ → Bool) (text rest : Text) → Stops test text → Stops test rest → Stops test (text ++ rest)
stops_both test [] rest a b = b
stops_both test (c ∷ cs) rest a b = a

pub then_head : {A B : Type 0} {l : Language A} {m : Language B} {test : ℕ → Bool} → NoHead l test → NoHead m test → NoHead (l ▷ m) test
then_head {A} {B} {l} {m} {test} h k text v said = subst (Stops test) (sym said.whole) (stops_both test said.front said.back (h said.front v.0 said.first) (k said.back v.1 said.second))

pub or_head : {A : Type 0} {l m : Language A} {test : ℕ → Bool} → NoHead l test → NoHead m test → NoHead (l ∣ m) test
or_head h k text v said = elim said [ inl a ↦ h text v a | inr b ↦ k text v b ]

pub maybe_head : {A : Type 0} {l : Language A} {test : ℕ → Bool} → NoHead l test → NoHead (Maybe l) test
maybe_head {test = test} h text None said = subst (Stops test) (sym said) tt
maybe_head h text (Some v) said = h text v said

pub means_head : {A B : Type 0} {f : A → B} {l : Language A} {test : ℕ → Bool} → NoHead l test → NoHead (Means f l) test
means_head h text v said = h text said.meant said.said

pub where_head : {A : Type 0} {p : A → Bool} {l : Language A} {test : ℕ → Bool} → NoHead l test → NoHead (Where p l) test
where_head h text v said = h text v said.said

pub word_head : (word : Text) (test : ℕ → Bool) → Stops test word → NoHead (Word word) test
word_head word test h text v said = subst (Stops test) (sym said) h

pub one_head : {p : ℕ → Bool} {test : ℕ → Bool} → Apart p test → NoHead (OneOf p) test
one_head {test = test} h text v said = subst (Stops test) (sym said.0) (h v said.1)

many_stops : (p test : ℕ → Bool) → Apart p test → (v : Text) → AreAll p v → Stops test v
many_stops p test h [] each = tt
many_stops p test h (c ∷ cs) each = h c each.0

pub many_head : {p : ℕ → Bool} {test : ℕ → Bool} → Apart p test → NoHead (ManyOf p) test
many_head {p} {test} h text v said = subst (Stops test) (sym said.is) (many_stops p test h v said.each)

-- a rest that stops a test also stops a narrower one
pub stops_less : (test some : ℕ → Bool) → ((c : ℕ) → test c ≡ false → some c ≡ false) → (rest : Text) → Stops test rest → Stops some rest
stops_less test some h [] s = tt
stops_less test some h (c ∷ cs) s = h c s

pub exact_less : {A : Type 0} {l : Language A} {r : TextReader A} {F G : Text → Type 0} → Exact l r F → ((rest : Text) → G rest → F rest) → Exact l r G
exact_less p h = record { sound = p.sound; complete = λ text rest v said after. p.complete text rest v said (h rest after) }

-- the reader reads nothing from such a rest
abbrev pub Nothing : {A : Type 0} → TextReader A → (ℕ → Bool) → Type 0
Nothing r test = (rest : Text) → Stops test rest → r rest ≡ None

pub one_nothing : (p : ℕ → Bool) → Nothing (one_at p) p
one_nothing p [] s = refl
one_nothing p (c ∷ cs) s = rw s refl

pub word_nothing : (w : ℕ) (ws : Text) (p : ℕ → Bool) → p w ≡ true → Nothing (word_at (w ∷ ws)) p
word_nothing w ws p e [] s = refl
word_nothing w ws p e (c ∷ cs) s = rw (ne_eqb c w (λ same. both_ways (p c) s (ap p same ∙ e))) refl

pub then_nothing : {A B : Type 0} {r : TextReader A} (s : TextReader B) {test : ℕ → Bool} → Nothing r test → Nothing (then_at r s) test
then_nothing s h rest stops = rw (h rest stops) refl

pub means_nothing : {A B : Type 0} (f : A → B) {r : TextReader A} {test : ℕ → Bool} → Nothing r test → Nothing (means_at f r) test
means_nothing f h rest s = rw (h rest s) refl

pub where_nothing : {A : Type 0} (p : A → Bool) {r : TextReader A} {test : ℕ → Bool} → Nothing r test → Nothing (text_where p r) test
where_nothing p h rest s = rw (h rest s) refl

pub or_nothing : {A : Type 0} {r s : TextReader A} {test : ℕ → Bool} → Nothing r test → Nothing s test → Nothing (or_at r s) test
or_nothing h k rest s = rw (h rest s) (k rest s)

-- ---- languages joined so that a test on the next byte decides how to continue

pub then_stops : {A B : Type 0} {l : Language A} {m : Language B} {r : TextReader A} {s : TextReader B} {some test : ℕ → Bool}
    → Exact l r (Stops some) → Exact m s (Stops test) → ((c : ℕ) → test c ≡ false → some c ≡ false) → NoHead m some → Exact (l ▷ m) (then_at r s) (Stops test)
then_stops {A} {B} {l} {m} {r} {s} {some} {test} p q less h =
    then_exact p q (λ text rest v said after. stops_both some text rest (h text v said) (stops_less test some less rest after))

pub after_any : {A B : Type 0} {l : Language A} {m : Language B} {r : TextReader A} {s : TextReader B} {G : Text → Type 0}
    → Exact l r Any → Exact m s G → Exact (l ▷ m) (then_at r s) G
after_any p q = then_exact p q (λ text rest v said after. tt)

pub maybe_stops : {A : Type 0} {l : Language A} {r : TextReader A} {test : ℕ → Bool} → Exact l r (Stops test) → Nothing r test → Exact (Maybe l) (maybe_at r) (Stops test)
maybe_stops {A} {l} {r} {test} p h = exact_less (maybe_exact {G = Stops test} p h) (λ rest after. (after, after))

-- the first reader reads nothing that begins a text of the second
pub or_stops : {A : Type 0} {l m : Language A} {r s : TextReader A} {some test : ℕ → Bool}
    → Exact l r (Stops test) → Exact m s (Stops test) → Nothing r some → NoHead m some → ((c : ℕ) → test c ≡ false → some c ≡ false) → Exact (l ∣ m) (or_at r s) (Stops test)
or_stops {A} {l} {m} {r} {s} {some} {test} p q none h less =
    exact_less (or_exact {G = Stops test} p q (λ text rest v said after. none (text ++ rest) (stops_both some text rest (h text v said) (stops_less test some less rest after)))) (λ rest after. (after, after))

-- a text whose first byte is known
pub word_then_head : {B : Type 0} {m : Language B} (w : ℕ) (ws : Text) (test : ℕ → Bool) → test w ≡ false → NoHead (Word (w ∷ ws) ▷ m) test
word_then_head w ws test h text v said = subst (Stops test) (sym (said.whole ∙ ap (λ (t : Text). t ++ said.back) said.first)) h

pub one_then_head : {B : Type 0} {m : Language B} (p test : ℕ → Bool) → Apart p test → NoHead (OneOf p ▷ m) test
one_then_head p test h text v said = subst (Stops test) (sym (said.whole ∙ ap (λ (t : Text). t ++ said.back) said.first.0)) (h v.0 said.first.1)

-- each text of the language has a byte
abbrev pub HasByte : {A : Type 0} → Language A → Type 0
HasByte {A} l = (text : Text) (v : A) → l text v → text ≡ [] → ⊥

pub front_nil : (a b : Text) → a ++ b ≡ [] → a ≡ []
front_nil [] b e = refl
front_nil (c ∷ cs) b e = absurd cc

pub then_byte : {A B : Type 0} {l : Language A} (m : Language B) → HasByte l → HasByte (l ▷ m)
then_byte m h text v said e = h said.front v.0 said.first (front_nil said.front said.back (sym said.whole ∙ e))

pub means_byte : {A B : Type 0} (f : A → B) {l : Language A} → HasByte l → HasByte (Means f l)
means_byte f h text v said e = h text said.meant said.said e

pub where_byte : {A : Type 0} (p : A → Bool) {l : Language A} → HasByte l → HasByte (Where p l)
where_byte p h text v said e = h text v said.said e

-- a nonempty text stops the text before it, whatever follows
pub byte_stops : (test : ℕ → Bool) (text rest : Text) → Stops test text → (text ≡ [] → ⊥) → Stops test (text ++ rest)
byte_stops test [] rest a h = absurd (h refl)
byte_stops test (c ∷ cs) rest a h = a

pub then_byte_stops : {A B : Type 0} {l : Language A} {m : Language B} {r : TextReader A} {s : TextReader B} {some : ℕ → Bool} {G : Text → Type 0}
    → Exact l r (Stops some) → Exact m s G → NoHead m some → HasByte m → Exact (l ▷ m) (then_at r s) G
then_byte_stops {A} {B} {l} {m} {r} {s} {some} {G} p q h k = then_exact p q (λ text rest v said after. byte_stops some text rest (h text v said) (k text v said))

pub byte_head : {A B : Type 0} {l : Language A} (m : Language B) {test : ℕ → Bool} → NoHead l test → HasByte l → NoHead (l ▷ m) test
byte_head m {test} h k text v said = subst (Stops test) (sym said.whole) (byte_stops test said.front said.back (h said.front v.0 said.first) (k said.front v.0 said.first))

pub one_byte : (p : ℕ → Bool) → HasByte (OneOf p)
one_byte p text v said e = nonempty (sym said.0 ∙ e)
  where
    nonempty : v ∷ [] ≡ [] → ⊥
    nonempty h = absurd cc

pub or_byte : {A : Type 0} {l m : Language A} → HasByte l → HasByte m → HasByte (l ∣ m)
or_byte h k text v said e = elim said [ inl a ↦ h text v a e | inr b ↦ k text v b e ]

pub word_byte : (w : ℕ) (ws : Text) → HasByte (Word (w ∷ ws))
word_byte w ws text v said e = nonempty (sym said ∙ e)
  where
    nonempty : w ∷ ws ≡ [] → ⊥
    nonempty h = absurd cc

-- a sign with blanks around it, not followed by a blank
pub spaced_exact : (w : ℕ) (ws : Text) → is_blank w ≡ false → Exact (spaced (w ∷ ws)) (spaced_at (w ∷ ws)) (Stops is_blank)
spaced_exact w ws h = means_exact (λ (v : Text × (Unit {0} × Text)). tt) (then_byte_stops (many_exact is_blank)
    (then_exact {F = Any} (word_exact (w ∷ ws)) (many_exact is_blank) (λ text rest v said after. tt))
    (word_then_head w ws is_blank h) (then_byte blanks (word_byte w ws)))

-- the end of the text
abbrev pub IsEnd : Text → Type 0
IsEnd rest = rest ≡ []

-- a text with blanks at both ends, which itself is not empty and begins with no blank
pub within_exact : {A : Type 0} {l : Language A} {r : TextReader A} {F : Text → Type 0}
    → Exact l r F → NoHead l is_blank → HasByte l → ((bs : Text) → AreAll is_blank bs → F (bs ++ [])) → Exact (within_blanks l) (within_blanks_at r) IsEnd
within_exact {F = F} p head byte before = means_exact in_middle (then_byte_stops (many_exact is_blank)
    (then_exact {G = IsEnd} p (exact_less (many_exact is_blank) (λ rest end. subst (Stops is_blank) (sym end) tt))
    (λ text rest bs said end. subst F (ap (λ (t : Text). text ++ t) (sym end)) (before text (subst (AreAll is_blank) (sym said.is) said.each))))
    (byte_head blanks head byte)
    (then_byte blanks byte))

-- a text without blanks at its ends
pub within_said : {A : Type 0} {l : Language A} (text : Text) (v : A) → l text v → within_blanks l text v
within_said text v said = record {
  meant = ([], (v, []));
  said = record {
    front = [];
    back = text;
    whole = refl;
    first = record { is = refl; each = tt };
    second = record { front = text; back = []; whole = sym (append-nil text); first = said; second = record { is = refl; each = tt } };
  };
  is = refl;
}

-- a byte test that fails on a blank stops before trailing blanks
pub blanks_stop : (test : ℕ → Bool) → Apart is_blank test → (bs : Text) → AreAll is_blank bs → Stops test (bs ++ [])
blanks_stop test h [] each = tt
blanks_stop test h (b ∷ bs) each = h b each.0
