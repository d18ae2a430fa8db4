-- The readers of temporal literals accept exactly their texts, given an exact reader of values.
use Rattle.std.{specs.Prelude.{◌&&◌, ◌||◌, not, nat_eq}, proofs.Common.{◌≡◌, ℕ, ℤ, [], ◌∷◌, ◌++◌, map, Bool, false, List, Option, Some, None, refl, sym, ap, subst, ◌∙◌, append_assoc, rules}}
use Rattle.mob_language.{specs.Language.{Text, Language, ◌∣◌, Means, Separated, blanks, is_blank, in_middle}, specs.Readers.{TextReader, ◌>>=◌, means_at, separated_at, items_at}}
use Rattle.mob_language.proofs.Exact.{Exact, Stops, Any, bind_some, then_exact, or_exact, means_exact, regrouped}
use Rattle.mob_language.proofs.Heads.{NoHead, Apart, HasByte, byte_stops, means_head, or_head, then_byte, means_byte, or_byte, then_byte_stops, word_then_head, one_then_head, byte_head, one_byte}
use Rattle.mob_language.{proofs.Heads.{word_byte, spaced_exact, IsEnd, within_exact}, proofs.Lists.{separated_exact}}
use Rattle.mob_scalar.{specs.Brackets.{comma, is_open, closing, opening_at, open_brace_at}, proofs.MomentExact.{Closes, moment_exact}, proofs.WholeTexts.{moment_blank, moment_byte, blanks_close}}
use Rattle.mob_scalar.proofs.BracketsExact.{comma_exact, opening_exact, closing_exact, comma_byte, head_less, list_head, list_byte, ListEnds, comma_closes, closing_ends, open_brace_exact}
use Rattle.mob_scalar.proofs.BracketsExact.{close_brace_exact, close_brace_ends, NoComma}
use Rattle.mob_numeral.proofs.WholeTexts.{back_nil}
use Rattle.mob_written.specs.Literal.{at_sign, noted_of, noted, sequence_of, sequence, alone, set_members, braced, one_sequence, one_instant, literal, Prefixed, temporal, at_sign_at, noted_at}
use Rattle.mob_written.specs.Literal.{instants_at, sequence_at, sequences_at, members_at, braced_at, temporal_literal_at, with_sequences, prefixed_at, temporal_at}
use Rattle.mob_written.{specs.declared.written.Prefixes.{Prefixes}, specs.declared.written.Sequence.{Sequence}, specs.declared.written.Literal.{Literal}}
use Rattle.mob_written.{specs.Prefix.{remaining, says_step, begins_prefix, prefixes_at}, specs.ValueText.{IsValueText, begins_no_value}}
use Rattle.mob_written.proofs.Prefixes.{pair_is, prefixes_stop, prefixes_read, prefixes_sound, step_said}

at_exact : Exact at_sign at_sign_at (Stops is_blank)
unfolding at_sign_at
at_exact = spaced_exact 64 [] refl

pub noted_exact : {B : Type 0} (day : ℤ) {value : Language (Option B)} {reader : TextReader (Option B)} {F : Text → Type 0} → IsValueText value reader F → Exact (noted day value) (noted_at day reader) Closes
unfolding noted_at
noted_exact {B} day {value} {reader} {F} v = means_exact (noted_of day) (then_exact v.exact
    (then_byte_stops at_exact moment_exact moment_blank moment_byte)
    (λ text rest w said after. subst F (sym (regrouped text said.front said.back rest said.whole)) (v.before_at said.front (said.back ++ rest) w.0 said.first)))

-- an entry of a literal: its reader, the bytes with which it begins, and that it has at least one
-- byte
pub record IsEntry {A : Type 0} (entry : Text → A → Type 0) (reader : TextReader A) : Type 0 where
  pub exact : Exact entry reader Closes
  pub well_begun : NoHead entry begins_no_value
  pub has_byte : HasByte entry

pub noted_entry : {B : Type 0} (day : ℤ) {value : Language (Option B)} {reader : TextReader (Option B)} {F : Text → Type 0} → IsValueText value reader F → IsEntry (noted day value) (noted_at day reader)
noted_entry day v = record {
  exact = noted_exact day v;
  well_begun = means_head (byte_head _ v.well_begun v.has_byte);
  has_byte = means_byte (noted_of day) (then_byte _ v.has_byte);
}

mark_blank : (c : ℕ) → begins_no_value c ≡ false → is_blank c ≡ false
mark_blank c e = search rules

mark_open : (c : ℕ) → begins_no_value c ≡ false → is_open c ≡ false
mark_open c e = search rules

mark_brace : (c : ℕ) → begins_no_value c ≡ false → nat_eq c 123 ≡ false
mark_brace c e = search rules

pub instants_exact : {A : Type 0} {entry : Language A} {reader : TextReader A} → IsEntry entry reader → Exact (Separated entry comma) (instants_at reader) ListEnds
unfolding instants_at
instants_exact {A} {entry} {reader} e = separated_exact e.exact comma_exact comma_byte
    (λ rest after. (after.no_comma, after.closes))
    (λ y rest said. comma_closes y rest said)
    (λ x rest i said. byte_stops is_blank x rest (head_less mark_blank e.well_begun x i said) (e.has_byte x i said))

pub sequence_exact : {A : Type 0} {entry : Language A} {reader : TextReader A} → IsEntry entry reader → Exact (sequence entry) (sequence_at reader) Any
unfolding sequence_at
sequence_exact {A} {entry} {reader} e = means_exact sequence_of (then_byte_stops opening_exact
    (then_exact (instants_exact e) closing_exact (λ text rest c said after. closing_ends text rest c said))
    (byte_head closing (list_head entry comma is_blank (head_less mark_blank e.well_begun) e.has_byte) (list_byte entry comma e.has_byte))
    (then_byte closing (list_byte entry comma e.has_byte)))

abbrev not_open : ℕ → Bool
not_open c = nat_eq c 123 || is_blank c

open_other : Apart is_open not_open
open_other c e = search rules

sequence_head : {A : Type 0} (entry : Language A) → NoHead (sequence entry) not_open
sequence_head entry = means_head (byte_head _ (means_head (one_then_head is_open not_open open_other)) (means_byte (λ (v : ℕ × Text). v.0) (then_byte blanks (one_byte is_open))))

sequence_byte : {A : Type 0} (entry : Language A) → HasByte (sequence entry)
sequence_byte entry = means_byte sequence_of (then_byte _ (means_byte (λ (v : ℕ × Text). v.0) (then_byte blanks (one_byte is_open))))

other_blank : (c : ℕ) → not_open c ≡ false → is_blank c ≡ false
other_blank c e = search rules

other_brace : (c : ℕ) → not_open c ≡ false → nat_eq c 123 ≡ false
other_brace c e = search rules

pub sequences_exact : {A : Type 0} {entry : Language A} {reader : TextReader A} → IsEntry entry reader → Exact (Separated (sequence entry) comma) (sequences_at reader) NoComma
unfolding sequences_at
sequences_exact {A} {entry} {reader} e = separated_exact (sequence_exact e) comma_exact comma_byte
    (λ rest after. (after, tt))
    (λ y rest said. tt)
    (λ x rest i said. byte_stops is_blank x rest (head_less other_blank (sequence_head entry) x i said) (sequence_byte entry x i said))

no_opening : (text : Text) → Stops is_open text → opening_at text ≡ None
unfolding opening_at
no_opening [] h = refl
no_opening (c ∷ cs) h = rw h refl

no_sequence : {A : Type 0} (reader : TextReader A) (text : Text) → Stops is_open text → sequence_at reader text ≡ None
unfolding sequence_at
no_sequence reader text h = rw (no_opening text h) refl

no_sequences : {A : Type 0} (reader : TextReader A) (text : Text) → Stops is_open text → sequences_at reader text ≡ None
unfolding sequences_at separated_at items_at
no_sequences reader text h = rw (no_sequence reader text h) refl

pub members_exact : {A : Type 0} {entry : Language A} {reader : TextReader A} → IsEntry entry reader → Exact (set_members entry) (members_at reader) (λ rest. NoComma rest × ListEnds rest)
unfolding members_at
members_exact {A} {entry} {reader} e = or_exact (sequences_exact e) (means_exact (map alone) (instants_exact e))
    (λ text rest v said after. no_sequences reader (text ++ rest) (byte_stops is_open text rest
    (list_head entry comma is_open (head_less mark_open e.well_begun) e.has_byte text said.meant said.said)
    (list_byte entry comma e.has_byte text said.meant said.said)))

members_head : {A : Type 0} {entry : Language A} {reader : TextReader A} → IsEntry entry reader → NoHead (set_members entry) is_blank
members_head {entry = entry} e = or_head
    (list_head (sequence entry) comma is_blank (head_less other_blank (sequence_head entry)) (sequence_byte entry))
    (means_head (list_head entry comma is_blank (head_less mark_blank e.well_begun) e.has_byte))

members_byte : {A : Type 0} {entry : Language A} {reader : TextReader A} → IsEntry entry reader → HasByte (set_members entry)
members_byte {entry = entry} e = or_byte (list_byte (sequence entry) comma (sequence_byte entry)) (means_byte (map alone) (list_byte entry comma e.has_byte))

pub braced_exact : {A : Type 0} {entry : Language A} {reader : TextReader A} → IsEntry entry reader → Exact (braced entry) (braced_at reader) Any
unfolding braced_at
braced_exact {A} {entry} {reader} e = means_exact in_middle (then_byte_stops open_brace_exact
    (then_exact (members_exact e) close_brace_exact (λ text rest v said after. let k = close_brace_ends text rest v said in (k.no_comma, k)))
    (byte_head _ (members_head e) (members_byte e)) (then_byte _ (members_byte e)))

abbrev is_brace : ℕ → Bool
is_brace c = nat_eq c 123

no_brace : {A : Type 0} (reader : TextReader A) (text : Text) → Stops is_brace text → braced_at reader text ≡ None
unfolding braced_at open_brace_at
no_brace reader [] h = refl
no_brace reader (c ∷ cs) h = rw h refl

pub literal_exact : {A : Type 0} {entry : Language A} {reader : TextReader A} → IsEntry entry reader → Exact (literal entry) (temporal_literal_at reader) (λ rest. Any rest × (Any rest × Closes rest))
unfolding temporal_literal_at
literal_exact {A} {entry} {reader} e = or_exact (braced_exact e)
    (or_exact (means_exact one_sequence (sequence_exact e)) (means_exact one_instant e.exact)
    (λ text rest v said after. sequence_none (text ++ rest) (byte_stops is_open text rest (head_less mark_open e.well_begun text said.meant said.said) (e.has_byte text said.meant said.said))))
    (λ text rest v said after. no_brace reader (text ++ rest) (byte_stops is_brace text rest (others_head text v said) (others_byte text v said)))
  where
    sequence_none : (text : Text) → Stops is_open text → means_at one_sequence (sequence_at reader) text ≡ None
    sequence_none text h = rw (no_sequence reader text h) refl

    others_head : NoHead (Means one_sequence (sequence entry) ∣ Means one_instant entry) is_brace
    others_head = or_head (means_head (head_less other_brace (sequence_head entry))) (means_head (head_less mark_brace e.well_begun))

    others_byte : HasByte (Means one_sequence (sequence entry) ∣ Means one_instant entry)
    others_byte = or_byte (means_byte one_sequence (sequence_byte entry)) (means_byte one_instant e.has_byte)

-- ---- a literal after its prefixes

abbrev pub Behind : Text → Type 0
Behind rest = Any rest × (Any rest × Closes rest)

literal_blank : {A : Type 0} {entry : Language A} {reader : TextReader A} → IsEntry entry reader → NoHead (literal entry) is_blank
literal_blank {entry = entry} e = or_head (means_head (byte_head _ (word_then_head 123 [] is_blank refl) (then_byte blanks (word_byte 123 []))))
    (or_head (means_head (head_less other_blank (sequence_head entry))) (means_head (head_less mark_blank e.well_begun)))

literal_byte : {A : Type 0} {entry : Language A} {reader : TextReader A} → IsEntry entry reader → HasByte (literal entry)
literal_byte {entry = entry} e = or_byte (means_byte in_middle (then_byte _ (then_byte blanks (word_byte 123 []))))
    (or_byte (means_byte one_sequence (sequence_byte entry)) (means_byte one_instant e.has_byte))

said_so : {A : Type 0} (s : Bool) (v : Literal A) → s ≡ v.says_step → ◌≡◌ {A = Literal A} (record { says_step = s; sequences = v.sequences }) v
said_so s v e = ap (λ (b : Bool). record { says_step = b; sequences = v.sequences }) e

prefixed_exact : {A : Type 0} (admitted : Prefixes) {entry : Language A} {reader : TextReader A} → IsEntry entry reader → Exact (Prefixed admitted entry) (prefixed_at admitted reader) Behind
unfolding prefixed_at
prefixed_exact {A} admitted {entry} {reader} e = record {
  sound = λ text rest v read.
      let a = bind_some (prefixes_at admitted text) (λ x. means_at (with_sequences admitted x.0) (temporal_literal_at reader) x.1) (v, rest) read in
      let b = bind_some (temporal_literal_at reader a.0.1) (λ x. Some (with_sequences admitted a.0.0 x.0, x.1)) (v, rest) a.2 in
      let are = prefixes_sound admitted text a.0.0 a.0.1 a.1 in
      let is = pair_is (with_sequences admitted a.0.0 b.0.0) v b.0.1 rest b.2 in
      let l = (literal_exact e).sound a.0.1 rest b.0.0 (b.1 ∙ ap (λ (t : Text). Some (b.0.0, t)) is.1) in
      let left : remaining admitted are.said ≡ a.0.0 = are.left_is in
      let said : (admitted.step && not a.0.0.step) ≡ says_step are.said = ap (λ (x : Prefixes). admitted.step && not x.step) (sym left) ∙ step_said admitted are.said are.front are.prefixes in
      record {
        front = are.front ++ l.front;
        whole = are.whole ∙ ap (λ (t : Text). are.front ++ t) l.whole ∙ sym (append_assoc are.front l.front rest);
        said = record {
          front = are.front;
          back = l.front;
          whole = refl;
          said = are.said;
          prefixes = are.prefixes;
          behind = subst (λ (x : Prefixes). Stops (begins_prefix x) l.front) (sym left) (fewer (begins_prefix a.0.0) l.front rest (subst (Stops (begins_prefix a.0.0)) l.whole are.stops));
          sequences = subst (literal entry l.front) (ap (λ (x : Literal A). x.sequences) is.0) l.said;
          step = sym (ap (λ (x : Literal A). x.says_step) is.0) ∙ said;
        };
      };
  complete = λ text rest v said after.
      let byte = literal_byte e said.back v.sequences said.sequences in
      let blank : Stops is_blank (said.back ++ rest) = byte_stops is_blank said.back rest (literal_blank e said.back v.sequences said.sequences) byte in
      let stops : Stops (begins_prefix (remaining admitted said.said)) (said.back ++ rest) = byte_stops _ said.back rest said.behind byte in
      let read = prefixes_read admitted said.said said.front (said.back ++ rest) said.prefixes blank stops in
      let lit = (literal_exact e).complete said.back rest v.sequences said.sequences after in
      let is = said_so (admitted.step && not (remaining admitted said.said).step) v (step_said admitted said.said said.front said.prefixes ∙ sym said.step) in
      ap (prefixed_at admitted reader) (regrouped text said.front said.back rest said.whole)
      ∙ bound (prefixes_at admitted (said.front ++ (said.back ++ rest))) (λ x. means_at (with_sequences admitted x.0) (temporal_literal_at reader) x.1) (remaining admitted said.said, said.back ++ rest) read
      ∙ ap (λ (o : Option (List (Sequence A) × Text)). o >>= λ x. Some (with_sequences admitted (remaining admitted said.said) x.0, x.1)) lit
      ∙ ap (λ (w : Literal A). Some (w, rest)) is;
} where
  bound : {X Y : Type 0} (o : Option X) (f : X → Option Y) (x : X) → o ≡ Some x → (o >>= f) ≡ f x
  bound o f x e = rw e refl

  fewer : (test : ℕ → Bool) (text more : Text) → Stops test (text ++ more) → Stops test text
  fewer test [] more h = tt
  fewer test (c ∷ cs) more h = h

prefixed_blank : {A : Type 0} (admitted : Prefixes) {entry : Language A} {reader : TextReader A} → IsEntry entry reader → NoHead (Prefixed admitted entry) is_blank
prefixed_blank admitted e text v said = subst (Stops is_blank) (sym said.whole) (prefixes_stop admitted said.said said.front said.back said.prefixes (literal_blank e said.back v.sequences said.sequences))

prefixed_byte : {A : Type 0} (admitted : Prefixes) {entry : Language A} {reader : TextReader A} → IsEntry entry reader → HasByte (Prefixed admitted entry)
prefixed_byte admitted e text v said none = literal_byte e said.back v.sequences said.sequences (back_nil said.front said.back (sym said.whole ∙ none))

pub temporal_exact : {A : Type 0} (admitted : Prefixes) {entry : Language A} {reader : TextReader A} → IsEntry entry reader → Exact (temporal admitted entry) (temporal_at admitted reader) IsEnd
unfolding temporal_at
temporal_exact admitted e = within_exact (prefixed_exact admitted e) (prefixed_blank admitted e) (prefixed_byte admitted e) (λ bs each. (tt, (tt, blanks_close bs each)))
