-- Tuples are in one group exactly if the columns of GROUP BY have the same values on both.
use Rattle.std.{specs.Prelude.{if◌then◌else◌}, specs.List.{AllByRecursion}, specs.Cmp.Lexicographic.{pointwise_decides, bytes_decides}}
use Rattle.std.proofs.Common.{◌≡◌, ◌∙◌, inl, inr, ℕ, ℤ, List, [], ◌∷◌, map, Bool, true, false, Ok, Err, refl, sym, ap, ap₂, subst, true≢false, codes}
use Rattle.std.proofs.lemmas.List.{append_cancel_left, append_cancel_right}
use Rattle.mob_ratio.specs.Ratio.{Ratio}
use Rattle.mob_frac.specs.Fits.{Fits}
use Rattle.mob_ast.specs.declared.types.SqlType.{SqlType}
use Rattle.mob_numeral.{specs.NumberText.{number_text}, specs.declared.fault.ReadText.TheVariants.{NotText}, specs.Numbers.{numbers}, specs.Verdict.{Lit}, proofs.Again.{number_again}}
use Rattle.mob_scalar.{specs.Moment.{is_year_second}, specs.MomentText.{far_text, moment_text, part_numerator, second_of, second_text}, specs.Moments.{moments}, proofs.FarTexts.{far_not_read}}
use Rattle.mob_scalar.{proofs.MomentAgain.{moment_again}, proofs.OneReadings.{one_moment, one_number}}
use Rattle.mob_typed.{specs.Trees.{TypedTree, type_of}, specs.Selects.{TypedSelectParts}}
use Rattle.mob_clauses.specs.Keys.{is_key}
use Rattle.mob_value.{specs.declared.value.Value.{Value}, specs.declared.store.Store.{Store}}
use Rattle.mob_literal.specs.Fields.{field_text}
use Rattle.mob_meaning.specs.Scene.{scene}
use Rattle.mob_catalog.specs.OwnTypes.{IsReadAs}
use Rattle.mob_tail.{specs.Groups.{column_on, group_fields}, specs.GroupLaws.{GroupsAreOfValues, HasSameValue, IsKeyOn, IsStoredAs}, proofs.FieldsTell.{fields_tell}}
use Rattle.mob_ast.specs.declared.types.SqlType.TheVariants as sql
use Rattle.mob_value.specs.declared.value.Value.TheVariants as value
use Rattle.mob_meaning.specs.declared.terms.Terms.{Terms}

-- ---- moments, also those outside the years 0001 to 9999

is_dated : ℤ → Ratio → Bool
is_dated day t = is_year_second (second_of day t)

far_is : (day : ℤ) (t : Ratio) → is_dated day t ≡ false → moment_text day t ≡ far_text t
unfolding moment_text is_dated
far_is day t e = ap (λ (b : Bool). if b then second_text (second_of day t) (part_numerator t) t.den else far_text t) e

number_told : (t u : Ratio) → Fits t → Fits u → number_text t ≡ number_text u → t ≡ u
number_told t u f g e =
    let same = one_number (number_text u) (Ok t) (Ok u) (λ n. cc) (λ n. cc) (subst (λ x. Lit numbers x (Ok t)) e (number_again t f)) (number_again u g) in
    cc same

far_told : (t u : Ratio) → Fits t → Fits u → far_text t ≡ far_text u → t ≡ u
unfolding far_text
far_told t u f g e = number_told t u f g (append_cancel_right (number_text t) (number_text u) (codes ")") (append_cancel_left (codes "epoch+(") _ _ e))

-- the text of a moment in these years is never that of a moment outside them
never_both : {R : Type 0} (day : ℤ) (t u : Ratio) → Fits t → is_dated day t ≡ true → is_dated day u ≡ false → moment_text day t ≡ moment_text day u → R
unfolding is_dated
never_both day t u f there far e =
    let said = subst (λ x. Lit (moments day) x (Ok t)) e (moment_again day t f there) in
    let none = far_not_read day u (λ h. true≢false (sym h ∙ far)) in
    let same = one_moment day (moment_text day u) (Ok t) (Err NotText) (λ n. cc) (λ n. cc) said none in
    absurd (cc same)

both_dated : (day : ℤ) (t u : Ratio) → Fits t → Fits u → is_dated day t ≡ true → is_dated day u ≡ true → moment_text day t ≡ moment_text day u → t ≡ u
unfolding is_dated
both_dated day t u f g p q e =
    let said = subst (λ x. Lit (moments day) x (Ok t)) e (moment_again day t f p) in
    let same = one_moment day (moment_text day u) (Ok t) (Ok u) (λ n. cc) (λ n. cc) said (moment_again day u g q) in
    cc same

moments_told : (day : ℤ) (t u : Ratio) → Fits t → Fits u → moment_text day t ≡ moment_text day u → t ≡ u
moments_told day t u f g e = by (is_dated day t) (is_dated day u) refl refl
  where
    by : (a b : Bool) → is_dated day t ≡ a → is_dated day u ≡ b → t ≡ u
    by true true p q = both_dated day t u f g p q e
    by true false p q = never_both day t u f p q e
    by false true p q = never_both day u t g q p (sym e)
    by false false p q = far_told t u f g (sym (far_is day t p) ∙ e ∙ far_is day u q)

-- no moment is printed as NULL
no_null : {R : Type 0} (day : ℤ) (t : Ratio) → Fits t → field_text day value.Null ≡ moment_text day t → R
unfolding is_dated far_text
no_null {R} day t f e = by (is_dated day t) refl
  where
    by : (b : Bool) → is_dated day t ≡ b → R
    by true p = let same = fields_tell sql.Moment day value.Null (value.Moment t) (inl refl) (inr (record { fits = f; dated = p })) e in absurd (cc same)
    by false p = no_far (e ∙ far_is day t p)
      where
        no_far : codes "\\N" ≡ far_text t → R
        no_far k = absurd (cc k)

-- ---- values of a type that a column of GROUP BY may have

bool_stored : (day : ℤ) (v : Value) → IsReadAs sql.Bool v → IsStoredAs sql.Bool day v
bool_stored day value.Null h = inl refl
bool_stored day (value.Bool b) h = inr tt
bool_stored day v h = absurd (true≢false (sym h.own.form))

text_stored : (day : ℤ) (v : Value) → IsReadAs sql.Text v → IsStoredAs sql.Text day v
text_stored day value.Null h = inl refl
text_stored day (value.Text t) h = inr tt
text_stored day v h = absurd (true≢false (sym h.own.form))

int_stored : (day : ℤ) (v : Value) → IsReadAs sql.Int v → IsStoredAs sql.Numeric day v
int_stored day value.Null h = inl refl
int_stored day (value.Number q) h = inr h.fits
int_stored day v h = absurd (true≢false (sym h.own.form))

number_stored : (day : ℤ) (v : Value) → IsReadAs sql.Numeric v → IsStoredAs sql.Numeric day v
number_stored day value.Null h = inl refl
number_stored day (value.Number q) h = inr h.fits
number_stored day v h = absurd (true≢false (sym h.own.form))

-- NULL, or a moment that fits
data IsMoment : Value → Type 0 where
  missing : IsMoment value.Null
  there : (t : Ratio) → Fits t → IsMoment (value.Moment t)

moment_stored : (v : Value) → IsReadAs sql.Moment v → IsMoment v
moment_stored value.Null h = missing
moment_stored (value.Moment t) h = there t h.fits
moment_stored v h = absurd (true≢false (sym h.own.form))

moment_told : (day : ℤ) (v w : Value) → IsMoment v → IsMoment w → field_text day v ≡ field_text day w → v ≡ w
moment_told day v w missing missing e = refl
moment_told day v w missing (there u g) e = no_null day u g e
moment_told day v w (there t f) missing e = no_null day t f (sym e)
moment_told day v w (there t f) (there u g) e = ap (λ (x : Ratio). value.Moment x) (moments_told day t u f g e)

key_told : (type : SqlType) (day : ℤ) (v w : Value) → is_key type ≡ true → IsReadAs type v → IsReadAs type w → field_text day v ≡ field_text day w → v ≡ w
key_told sql.Bool day v w k h j e = fields_tell sql.Bool day v w (bool_stored day v h) (bool_stored day w j) e
key_told sql.Int day v w k h j e = fields_tell sql.Numeric day v w (int_stored day v h) (int_stored day w j) e
key_told sql.Numeric day v w k h j e = fields_tell sql.Numeric day v w (number_stored day v h) (number_stored day w j) e
key_told sql.Text day v w k h j e = fields_tell sql.Text day v w (text_stored day v h) (text_stored day w j) e
key_told sql.Moment day v w k h j e = moment_told day v w (moment_stored v h) (moment_stored w j) e
key_told type day v w k h j e = absurd (true≢false (sym k))

-- ---- tuples

module _ (select : TypedSelectParts) (store : Store) (terms : Terms) (t u : List ℕ) where
  abbrev fields_on : List ℕ → List TypedTree → List (List ℕ)
  fields_on tuple columns = map (λ g. field_text terms.epoch (column_on (scene store select.from tuple terms) g)) columns

  values_by : (columns : List TypedTree) → AllByRecursion (IsKeyOn select store terms t) columns → AllByRecursion (IsKeyOn select store terms u) columns → fields_on t columns ≡ fields_on u columns → AllByRecursion (HasSameValue select store terms t u) columns
  values_by [] h j e = tt
  values_by (g ∷ columns) h j e =
      let first : field_text terms.epoch (column_on (scene store select.from t terms) g) ≡ field_text terms.epoch (column_on (scene store select.from u terms) g) = cc e in
      let rest : fields_on t columns ≡ fields_on u columns = cc e in
      (key_told (type_of g) terms.epoch _ _ h.0.0 h.0.1 j.0.1 first, values_by columns h.1 j.1 rest)

  fields_by : (columns : List TypedTree) → AllByRecursion (HasSameValue select store terms t u) columns → fields_on t columns ≡ fields_on u columns
  fields_by [] h = refl
  fields_by (g ∷ columns) h = ap₂ (λ (x : List ℕ) (xs : List (List ℕ)). x ∷ xs) (ap (field_text terms.epoch) h.0) (fields_by columns h.1)

pub groups_are_of_values : GroupsAreOfValues
groups_are_of_values select store terms t u h j =
    let tells = pointwise_decides bytes_decides (group_fields select store terms t) (group_fields select store terms u) in
    (λ same. values_by select store terms t u select.groups h j (tells.0 same), λ same. tells.1 (fields_by select store terms t u select.groups same))
