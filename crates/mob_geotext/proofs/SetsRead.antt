-- The answers of the reader of span sets, by what it reads.
use Rattle.std.{specs.Prelude.{◌&&◌, MatchOption}, specs.List.{list_all}, proofs.Common.{◌≡◌, ℤ, List, [], ◌∷◌, Bool, true, false, cond, Option, Some, None, Ok, Err, refl, sym, subst, ◌∙◌}}
use Rattle.std.proofs.lemmas.Bool.{and_parts}
use Rattle.mob_ratio.specs.Ratio.{Ratio}
use Rattle.mob_language.{specs.Language.{Text}, specs.Readers.{◌>>=◌, all_of, within_blanks_at}, proofs.Exact.{bind_some, some_is, is_said, not_said}}
use Rattle.mob_numeral.{specs.declared.fault.ReadText.TheVariants.{NotText, Limit, TooLarge, Unsound}, specs.Verdict.{Lit}}
use Rattle.mob_scalar.specs.Traverse.{traverse}
use Rattle.mob_span.{specs.Span.{SpanOf, has_instant}, specs.Sets.{IsSpanSet, in_some}}
use Rattle.mob_geotext.{specs.declared.noted.NotedSpan.{NotedSpan}, specs.Spans.{noted_spans_at, has_ends, has_many_ends, bounds_of, span_sets, bounded, sound_span}}
use Rattle.mob_geotext.{proofs.SpansExact.{span_sets_exact}, proofs.SpansRead.{true_false, has_bounds}}

-- ---- lists of spans

-- the ends of each span fit
pub record HaveBounds (ss : List NotedSpan) : Type 0 where
  pub bounds : List SpanOf
  pub are : traverse bounds_of ss ≡ Some bounds

pub have_bounds : (ss : List NotedSpan) → list_all has_ends ss ≡ true → HaveBounds ss
have_bounds [] h = record { bounds = []; are = refl }
have_bounds (s ∷ ss) h =
    let both = and_parts (has_ends s) (list_all has_ends ss) h in
    let b = has_bounds s both.0 in
    let more = have_bounds ss both.1 in
    let those : Option (List SpanOf) = Some (b.bounds ∷ more.bounds) in
    record {
      bounds = b.bounds ∷ more.bounds;
      are = subst (λ (o : Option SpanOf). (o >>= λ y. traverse bounds_of ss >>= λ ys. Some (y ∷ ys)) ≡ those) (sym b.is)
          (subst (λ (o : Option (List SpanOf)). (o >>= λ ys. Some (b.bounds ∷ ys)) ≡ those) (sym more.are) refl);
    }

by_tests : (r : SpanOf) (rs : List SpanOf) (b c : Bool) → (cond b (Some r) None >>= λ y. cond c (Some rs) None >>= λ ys. Some (y ∷ ys)) ≡ cond (b && c) (Some (r ∷ rs)) None
by_tests r rs true true = refl
by_tests r rs true false = refl
by_tests r rs false c = refl

-- if all ends fit, the spans are made exactly if each has an instant
pub sound_all : (ss : List NotedSpan) (rs : List SpanOf) → traverse bounds_of ss ≡ Some rs → traverse sound_span ss ≡ cond (list_all has_instant rs) (Some rs) None
sound_all [] rs e =
    let is : [] ≡ rs = some_is [] rs e in
    subst (λ (xs : List SpanOf). ◌≡◌ {A = Option (List SpanOf)} (Some []) (cond (list_all has_instant xs) (Some xs) None)) is refl
sound_all (s ∷ ss) rs e =
    let a = bind_some (bounds_of s) (λ y. traverse bounds_of ss >>= λ ys. Some (y ∷ ys)) rs e in
    let b = bind_some (traverse bounds_of ss) (λ ys. Some (a.0 ∷ ys)) rs a.2 in
    let is : a.0 ∷ b.0 ≡ rs = some_is (a.0 ∷ b.0) rs b.2 in
    let more = sound_all ss b.0 b.1 in
    let those : Option (List SpanOf) = cond (list_all has_instant (a.0 ∷ b.0)) (Some (a.0 ∷ b.0)) None in
    let here : traverse sound_span (s ∷ ss) ≡ those =
    subst (λ (o : Option SpanOf). ((o >>= bounded) >>= λ y. traverse sound_span ss >>= λ ys. Some (y ∷ ys)) ≡ those) (sym a.1)
    (subst (λ (o : Option (List SpanOf)). (bounded a.0 >>= λ y. o >>= λ ys. Some (y ∷ ys)) ≡ those) (sym more) (by_tests a.0 b.0 (has_instant a.0) (list_all has_instant b.0))) in
    subst (λ (xs : List SpanOf). traverse sound_span (s ∷ ss) ≡ cond (list_all has_instant xs) (Some xs) None) is here

all_kept : (rs qs : List SpanOf) → ◌≡◌ {A = Option (List SpanOf)} (Some qs) (cond (list_all has_instant rs) (Some rs) None) → (list_all has_instant rs ≡ true) × (rs ≡ qs)
all_kept rs qs e = by_test (list_all has_instant rs) refl e
  where
    by_test : (b : Bool) → list_all has_instant rs ≡ b → ◌≡◌ {A = Option (List SpanOf)} (Some qs) (cond b (Some rs) None) → (list_all has_instant rs ≡ true) × (rs ≡ qs)
    by_test true h e = (h, cc)
    by_test false h e = absurd cc

not_all_kept : (rs : List SpanOf) → ◌≡◌ {A = Option (List SpanOf)} None (cond (list_all has_instant rs) (Some rs) None) → list_all has_instant rs ≡ false
not_all_kept rs e = by_test (list_all has_instant rs) refl e
  where
    by_test : (b : Bool) → list_all has_instant rs ≡ b → ◌≡◌ {A = Option (List SpanOf)} None (cond b (Some rs) None) → list_all has_instant rs ≡ false
    by_test true h e = absurd cc
    by_test false h e = h

-- ---- the answers of the code

abbrev whole_set : ℤ → Text → Option (List NotedSpan)
whole_set day bytes = all_of (within_blanks_at (noted_spans_at day)) bytes

pub no_set : (day : ℤ) (text bytes : Text) → bytes ≡ text → ◌≡◌ {A = Option (List NotedSpan)} None (whole_set day bytes) → Lit (span_sets day) text (Err NotText)
no_set day text bytes e h = λ ss said. not_said (span_sets_exact day) refl text bytes ss e h said

module _ (day : ℤ) (text bytes : Text) (ss : List NotedSpan) (e : bytes ≡ text) (h : ◌≡◌ {A = Option (List NotedSpan)} (Some ss) (whole_set day bytes)) where
  pub long_set : has_many_ends ss ≡ true → Lit (span_sets day) text (Err Limit)
  long_set k = (ss, is_said (span_sets_exact day) text bytes ss e h, k)

  short : has_many_ends ss ≡ false → has_many_ends ss ≡ true → ⊥
  short k n = true_false (sym n ∙ k)

  fitting : list_all has_ends ss ≡ true → list_all has_ends ss ≡ false → ⊥
  fitting k n = true_false (sym k ∙ n)

  pub large_set : has_many_ends ss ≡ false → list_all has_ends ss ≡ false → Lit (span_sets day) text (Err TooLarge)
  large_set few k = (ss, is_said (span_sets_exact day) text bytes ss e h, short few, k)

  pub unsound_set : has_many_ends ss ≡ false → list_all has_ends ss ≡ true → ◌≡◌ {A = Option (List SpanOf)} None (traverse sound_span ss) → Lit (span_sets day) text (Err Unsound)
  unsound_set few k n =
      let b = have_bounds ss k in
      let some_empty : list_all has_instant b.bounds ≡ false = not_all_kept b.bounds (n ∙ sound_all ss b.bounds b.are) in
      (ss, is_said (span_sets_exact day) text bytes ss e h, short few, fitting k, subst (λ (o : Option (List SpanOf)). MatchOption o ⊥ (λ rs. list_all has_instant rs ≡ false)) (sym b.are) some_empty)

  pub set_read : (qs set : List SpanOf) → has_many_ends ss ≡ false → list_all has_ends ss ≡ true → ◌≡◌ {A = Option (List SpanOf)} (Some qs) (traverse sound_span ss)
      → IsSpanSet set → ((t : Ratio) → in_some set t ≡ in_some qs t) → Lit (span_sets day) text (Ok set)
  set_read qs set few k n normal same =
      let b = have_bounds ss k in
      let its = all_kept b.bounds qs (n ∙ sound_all ss b.bounds b.are) in
      let are : traverse bounds_of ss ≡ Some qs = subst (λ (xs : List SpanOf). traverse bounds_of ss ≡ Some xs) its.1 b.are in
      let sound : MatchOption (traverse bounds_of ss) ⊥ (λ rs. list_all has_instant rs ≡ false) → ⊥ =
      subst (λ (o : Option (List SpanOf)). MatchOption o ⊥ (λ rs. list_all has_instant rs ≡ false) → ⊥) (sym b.are) (λ (no : list_all has_instant b.bounds ≡ false). true_false (sym its.0 ∙ no)) in
      let means : MatchOption (traverse bounds_of ss) ⊥ (λ rs. IsSpanSet set × ((t : Ratio) → in_some set t ≡ in_some rs t)) =
      subst (λ (o : Option (List SpanOf)). MatchOption o ⊥ (λ rs. IsSpanSet set × ((t : Ratio) → in_some set t ≡ in_some rs t))) (sym are) (normal, same) in
      (ss, is_said (span_sets_exact day) text bytes ss e h, short few, fitting k, sound, means)
