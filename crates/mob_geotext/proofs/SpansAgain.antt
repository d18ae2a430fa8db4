-- Printed spans and span sets read back as themselves.
use Rattle.std.{specs.Prelude.{MatchOption, nat_eq, nat_lt}, specs.List.{list_all}}
use Rattle.std.{proofs.Common.{◌≡◌, ◌≢◌, ℕ, ℤ, ◌≤◌, List, [], ◌∷◌, ◌++◌, map, length, Bool, true, false, cond, Option, Some, Ok, refl, sym, subst, ◌∙◌, codes, arith}, proofs.lemmas.List.{length-map}}
use Rattle.mob_ratio.specs.Ratio.{Ratio}
use Rattle.mob_language.{specs.Language.{Separated}, proofs.Heads.{within_said}}
use Rattle.mob_numeral.specs.Verdict.{Lit}
use Rattle.mob_scalar.{specs.Brackets.{comma, with_commas}, specs.MomentText.{moment_text}, specs.Traverse.{traverse}}
use Rattle.mob_scalar.proofs.BracketsSaid.{comma_said, opening_said, closing_said, Each, listed_said, within_braces_said, moment_value_said}
use Rattle.mob_span.{specs.Span.{SpanOf, has_instant}, specs.Sets.{IsSpanSet, in_some}}
use Rattle.mob_geotext.{specs.declared.noted.NotedSpan.{NotedSpan}, specs.Spans.{noted_span, has_ends, bounds_of, spans, span_sets}, specs.SpanText.{span_text, span_set_text}}
use Rattle.mob_geotext.{specs.Printable.{HasDatedEnds, HaveDatedEnds}, proofs.SpansRead.{true_false}}

-- a span as its text has it
abbrev pub note : SpanOf → NotedSpan
note s = record { lower = Some s.lower; upper = Some s.upper; lower_inc = s.lower_inc; upper_inc = s.upper_inc }

note_is : (s : SpanOf) (a b : Bool) → ◌≡◌ {A = NotedSpan} (record { lower = Some s.lower; upper = Some s.upper; lower_inc = a; upper_inc = b }) (record { lower = Some s.lower; upper = Some s.upper; lower_inc = nat_eq (cond a 91 40) 91; upper_inc = nat_eq (cond b 93 41) 93 })
note_is s true true = refl
note_is s true false = refl
note_is s false true = refl
note_is s false false = refl

pub span_said_by : (day : ℤ) (s : SpanOf) → HasDatedEnds day s → noted_span day (span_text day s) (note s)
span_said_by day s p = record {
  meant = (cond s.lower_inc 91 40, (Some s.lower, (tt, (Some s.upper, cond s.upper_inc 93 41))));
  said = record {
    front = cond s.lower_inc (codes "[") (codes "(");
    back = moment_text day s.lower ++ (codes ", " ++ (moment_text day s.upper ++ cond s.upper_inc (codes "]") (codes ")")));
    whole = refl;
    first = opening_said s.lower_inc;
    second = record {
      front = moment_text day s.lower;
      back = codes ", " ++ (moment_text day s.upper ++ cond s.upper_inc (codes "]") (codes ")"));
      whole = refl;
      first = moment_value_said day s.lower p.lower;
      second = record {
        front = codes ", ";
        back = moment_text day s.upper ++ cond s.upper_inc (codes "]") (codes ")");
        whole = refl;
        first = comma_said;
        second = record { front = moment_text day s.upper; back = cond s.upper_inc (codes "]") (codes ")"); whole = refl; first = moment_value_said day s.upper p.upper; second = closing_said s.upper_inc };
      };
    };
  };
  is = note_is s s.lower_inc s.upper_inc;
}

pub span_again : (day : ℤ) (s : SpanOf) → has_instant s ≡ true → HasDatedEnds day s → Lit (spans day) (span_text day s) (Ok s)
span_again day s there p = (note s, within_said (span_text day s) (note s) (span_said_by day s p), (λ x. x), true_false, (λ (no : has_instant s ≡ false). true_false (sym there ∙ no)), refl)

-- ---- span sets

each_said : (day : ℤ) (set : List SpanOf) → HaveDatedEnds day set → Each (noted_span day) (span_text day) note set
each_said day [] h = tt
each_said day (s ∷ set) h = (span_said_by day s h.0, each_said day set h.1)

bounds_are : (set : List SpanOf) → traverse bounds_of (map note set) ≡ Some set
bounds_are [] = refl
bounds_are (s ∷ set) = rw (bounds_are set) refl

all_fit : (set : List SpanOf) → list_all has_ends (map note set) ≡ true
all_fit [] = refl
all_fit (s ∷ set) = all_fit set

-- each span of a set has an instant
all_there : (set : List SpanOf) → IsSpanSet set → list_all has_instant set ≡ true
all_there [] h = refl
all_there (s ∷ set) h = rw h.0 (all_there set h.2)

not_many : (count : ℕ) → count ≤ 50000 → nat_lt 50000 count ≡ true → ⊥
not_many count h e = absurd (grind (arith, h, e))

pub span_set_again : (day : ℤ) (set : List SpanOf) → set ≢ [] → length set ≤ 50000 → IsSpanSet set → HaveDatedEnds day set → Lit (span_sets day) (span_set_text day set) (Ok set)
span_set_again day [] some le normal h = absurd (some refl)
span_set_again day (s ∷ set) some le normal h =
    let all = s ∷ set in
    let said = within_braces_said {l = Separated (noted_span day) comma} (with_commas (map (span_text day) all)) (map note all) (listed_said (noted_span day) (span_text day) note s set (each_said day all h)) in
    let bounds = bounds_are all in
    let sound : MatchOption (traverse bounds_of (map note all)) ⊥ (λ rs. list_all has_instant rs ≡ false) → ⊥ =
    subst (λ (o : Option (List SpanOf)). MatchOption o ⊥ (λ rs. list_all has_instant rs ≡ false) → ⊥) (sym bounds) (λ (no : list_all has_instant all ≡ false). true_false (sym (all_there all normal) ∙ no)) in
    let means : MatchOption (traverse bounds_of (map note all)) ⊥ (λ rs. IsSpanSet all × ((t : Ratio) → in_some all t ≡ in_some rs t)) =
    subst (λ (o : Option (List SpanOf)). MatchOption o ⊥ (λ rs. IsSpanSet all × ((t : Ratio) → in_some all t ≡ in_some rs t))) (sym bounds) (normal, λ t. refl) in
    (map note all, within_said (span_set_text day all) (map note all) said, (λ long. not_many (length (map note all)) (subst (λ (n : ℕ). n ≤ 50000) (sym (length-map all note)) le) long), (λ no. true_false (sym (all_fit all) ∙ no)), sound, means)
