-- Texts whose first byte fails a test. The printed text of a temporal value is one if its values
-- are.
use Rattle.std.{specs.Prelude.{not, Contains}, specs.List.{list_all}, proofs.Common.{◌≡◌, ℕ, ℤ, List, [], ◌∷◌, ◌++◌, codes, Bool, true, false, cond, refl, sym, ap, subst}}
use Rattle.mob_language.{specs.Language.{Text, Language}, proofs.Exact.{Stops}, proofs.Heads.{NoHead, HasByte}}
use Rattle.mob_list.proofs.Entries.{first_in}
use Rattle.mob_slice.{specs.declared.slice.Slice.{Slice}, specs.CourseOf.{CourseOf}}
use Rattle.mob_written.{specs.Printed.{Style, is_long, neighbour_groups, start_text, groups_text, set_text, moving_text}, specs.Style.{style_of}}
use Rattle.mob_literal.{specs.Readable.{IsReadable}, proofs.GroupSlices.{AllHoldTogether, are_groups}}

pub record IsBegun (test : ℕ → Bool) (text : Text) : Type 0 where
  pub first : ℕ
  pub rest : Text
  pub is : text ≡ first ∷ rest
  pub other : test first ≡ false

pub begun_by : (test : ℕ → Bool) (text : Text) → Stops test text → (text ≡ [] → ⊥) → IsBegun test text
begun_by test [] stops some = absurd (some refl)
begun_by test (c ∷ cs) stops some = record { first = c; rest = cs; is = refl; other = stops }

pub begun_stops : (test : ℕ → Bool) (text : Text) → IsBegun test text → Stops test text
begun_stops test text b = subst (Stops test) (sym b.is) b.other

pub begun_front : (test : ℕ → Bool) (a b : Text) → IsBegun test a → IsBegun test (a ++ b)
begun_front test a b p = record { first = p.first; rest = p.rest ++ b; is = ap (λ (t : Text). t ++ b) p.is; other = p.other }

pub begun_said : {A : Type 0} {l : Language A} (test : ℕ → Bool) → NoHead l test → HasByte l → (text : Text) (v : A) → l text v → IsBegun test text
begun_said test head byte text v said = begun_by test text (head text v said) (byte text v said)

-- no sign with which a literal begins passes the test
pub record IsNoSign (test : ℕ → Bool) : Type 0 where
  pub brace : test 123 ≡ false
  pub included : test 91 ≡ false
  pub left_out : test 40 ≡ false

pub bracket_begun : (test : ℕ → Bool) → IsNoSign test → (included : Bool) → IsBegun test (cond included (codes "[") (codes "("))
bracket_begun test signs true = record { first = 91; rest = []; is = refl; other = signs.included }
bracket_begun test signs false = record { first = 40; rest = []; is = refl; other = signs.left_out }

module _ {C B : Type 0} (test : ℕ → Bool) (signs : IsNoSign test) (style : Style C B) where
  start_begun : (s : Slice C) → IsBegun test (style.value_text (style.course.start s.course)) → IsBegun test (start_text style s)
  start_begun s p = begun_front test (style.value_text (style.course.start s.course) ++ codes "@") (style.moment_text s.span.lower) (begun_front test (style.value_text (style.course.start s.course)) (codes "@") p)

  abbrev pub FirstBegins : List (Slice C) → Type 0
  FirstBegins slices = (s : Slice C) (rest : List (Slice C)) → slices ≡ s ∷ rest → IsBegun test (style.value_text (style.course.start s.course))

  set_begun : (slices : List (Slice C)) → FirstBegins slices → IsBegun test (set_text style slices)
  set_begun [] h = record { first = 123; rest = _; is = refl; other = signs.brace }
  set_begun (s ∷ []) h = start_begun s (h s [] refl)
  set_begun (s ∷ r ∷ rest) h = record { first = 123; rest = _; is = refl; other = signs.brace }

  groups_begun : (groups : List (List (Slice C))) → AllHoldTogether style.course groups → IsBegun test (groups_text style groups)
  groups_begun [] together = record { first = 123; rest = _; is = refl; other = signs.brace }
  groups_begun ([] ∷ []) together = absurd together
  groups_begun ((s ∷ group) ∷ []) together = begun_front test _ _ (begun_front test _ _ (bracket_begun test signs s.span.lower_inc))
  groups_begun (group ∷ next ∷ groups) together = record { first = 123; rest = _; is = refl; other = signs.brace }

  pub moving_begun : (slices : List (Slice C)) → FirstBegins slices → IsBegun test (moving_text style slices)
  moving_begun slices h = by_lengths (list_all (λ (s : Slice C). not (is_long s)) slices)
    where
      by_lengths : (set : Bool) → IsBegun test (cond set (set_text style slices) (groups_text style (neighbour_groups style.course slices)))
      by_lengths true = set_begun slices h
      by_lengths false = groups_begun (neighbour_groups style.course slices) (are_groups style.course slices).together

-- the printed text of a value that reads back, if the text of each of its values begins in this way
pub readable_begun : {C B : Type 0} (test : ℕ → Bool) → IsNoSign test → {course : CourseOf C B} {day : ℤ} {text : B → Text} {IsWritten : B → Type 0} → ((v : B) → IsWritten v → IsBegun test (text v)) → (slices : List (Slice C)) → IsReadable course day text IsWritten slices → IsBegun test (moving_text (style_of course text day) slices)
readable_begun {C} {B} test signs {course} {day} {text} {IsWritten} begun slices r = moving_begun test signs (style_of course text day) slices (λ s rest e. begun (course.start s.course) (subst (λ (xs : List (Slice C)). ((x : Slice C) → Contains xs x → IsWritten (course.start x.course)) → IsWritten (course.start s.course)) (sym e) (λ f. f s (first_in s rest)) r.starts))
