-- An operator that applies at each instant gives NULL only if its operands never exist together.
use Rattle.std.{specs.Prelude.{is_some, MatchOption}, proofs.Common.{◌≡◌, ◌≢◌, ◌∙◌, ℕ, Bool, true, false, true≢false, List, [], ◌∷◌, Option, Some, None, map, refl, sym, ap, subst}}
use Rattle.mob_ratio.specs.Ratio.{Ratio}
use Rattle.mob_list.proofs.Tests.{some_of}
use Rattle.mob_plane.specs.declared.point.Point.{Point as PointOf}
use Rattle.mob_value.{specs.Lines.{level_line, line_pair}, specs.declared.value.Value.{Value}, specs.declared.value.Value.TheVariants.{Null, Bool as Truth, Number, MovingBool, MovingFrac, MovingText}}
use Rattle.mob_value.{specs.Moving.{SteadySlices, OverTime, step_function, line_function, or_nothing, IsFunctionOrNull}, specs.Truths.{known}}
use Rattle.mob_value.{specs.Pairs.{OnOperands, OnPair, truth_pair, number_pair, text_pair, plane_pair}, specs.Lifted.{IsMovingBool, IsMovingText, IsMovingFrac}, proofs.Widening.{level_at}}
use Rattle.mob_slice.{specs.CourseOf.{CourseOf, steady_course, line_course}, specs.Lines.{line_value_of, plane_value_of}, specs.Operands.{steady_value, map_both, IsPointwise}, specs.Sides.{given_at}}
use Rattle.mob_slice.specs.declared.slice.Slice.{Slice}
use Rattle.mob_lift.specs.Sometime.{HaveCommon, IsEver, IsAlways}
use Rattle.mob_near.{specs.Approaches.{IsApproach}, specs.Sql.Nearness.{IsApproachValue}}
use Rattle.mob_ast.specs.declared.types.SqlType.{SqlType}
use Rattle.mob_operators.specs.declared.operator.Op.{Op}
use Rattle.mob_compare.{specs.declared.sql.when.When.{When}, specs.declared.sql.when.When.TheVariants.{Each, Ever, Always}, specs.Sql.Signs.{IsAsked}}
use Rattle.mob_catalog.specs.OwnTypes.{IsValueOf}
use Rattle.mob_operands.{specs.Rows.{is_there, AreNeverTogether, NullIsDue, IsAnswer}, proofs.Forms.{OnForms, by_types, null_answer}}
use Rattle.mob_ast.specs.declared.types.SqlType.TheVariants as sql

-- two functions that are defined at an instant have it in common
pub common : {X Y : Type 0} (f : OverTime X) (g : OverTime Y) (t : Ratio) → is_some (f t) ≡ true → is_some (g t) ≡ true → HaveCommon f g
common f g t h k = let x = some_of (f t) h in let y = some_of (g t) k in (t, x.0, y.0, x.1, y.1, tt)

-- a tint is defined as a tfrac where it is defined as a tint
pub level_there : (m : SteadySlices Ratio) (t : Ratio) → is_some (step_function m t) ≡ true → is_some (line_function (map level_line m) t) ≡ true
level_there m t h = ap is_some (level_at m (map level_line m) refl t) ∙ h

-- The value of a row on two functions has this type, and is NULL only if they have no common
-- instant.
pub record IsRow {X Y : Type 0} (ty : SqlType) (row : OverTime X → OverTime Y → Value → Type 0) : Type 0 where
  pub own : (left : OverTime X) (right : OverTime Y) (v : Value) → row left right v → IsValueOf ty v
  pub null : (left : OverTime X) (right : OverTime Y) (v : Value) → row left right v → v ≡ Null → HaveCommon left right → ⊥

-- ---- rows

-- a value at each instant
module _ {C Z X Y : Type 0} (course : CourseOf C Z) (make : List (Slice C) → Value) (ty : SqlType) (op : X → Y → Z)
    (own : (r : List (Slice C)) → IsValueOf ty (make r)) (some : (r : List (Slice C)) → make r ≢ Null) where
  abbrev Row : OverTime X → OverTime Y → Value → Type 0
  Row left right v = IsFunctionOrNull course make (IsPointwise course.value op left right) v

  own_made : (left : OverTime X) (right : OverTime Y) (r : Option (List (Slice C))) (v : Value) → v ≡ or_nothing make r → IsValueOf ty v
  own_made left right None v e = subst (IsValueOf ty) (sym e) (record { form = refl; whole = tt })
  own_made left right (Some r) v e = subst (IsValueOf ty) (sym e) (own r)

  both_there : (x : Option X) (y : Option Y) (a : X) (b : Y) → x ≡ Some a → y ≡ Some b → map_both op x y ≡ None → ⊥
  both_there None y a b e f n = absurd (cc e)
  both_there (Some x) None a b e f n = absurd (cc f)
  both_there (Some x) (Some y) a b e f n = absurd (cc n)

  null_made : (left : OverTime X) (right : OverTime Y) (r : Option (List (Slice C))) (v : Value) → IsPointwise course.value op left right r → v ≡ or_nothing make r → v ≡ Null → HaveCommon left right → ⊥
  null_made left right None v p e n h = both_there (left h.0) (right h.0) h.1 h.2 h.3 h.4 (p h.0)
  null_made left right (Some r) v p e n h = some r (sym e ∙ n)

  pub moving_row : IsRow ty Row
  moving_row = record {
    own = λ left right v h. own_made left right h.0 v h.3;
    null = λ left right v h n c. null_made left right h.0 v h.1 h.3 n c;
  }

pub truth_row : {X Y : Type 0} (op : X → Y → Bool) → IsRow sql.TBool (IsMovingBool op)
truth_row op = moving_row (steady_course _) MovingBool sql.TBool op (λ r. record { form = refl; whole = tt }) (λ r n. absurd (cc n))

pub text_row : {X Y : Type 0} (op : X → Y → List ℕ) → IsRow sql.TText (IsMovingText op)
text_row op = moving_row (steady_course _) MovingText sql.TText op (λ r. record { form = refl; whole = tt }) (λ r n. absurd (cc n))

pub frac_row : {X Y : Type 0} (op : X → Y → Ratio) → IsRow sql.TFrac (IsMovingFrac op)
frac_row op = moving_row line_course MovingFrac sql.TFrac op (λ r. record { form = refl; whole = tt }) (λ r n. absurd (cc n))

-- a truth value over all instants
known_own : (answer : Option Bool) (v : Value) → v ≡ known answer → IsValueOf sql.Bool v
known_own None v e = subst (IsValueOf sql.Bool) (sym e) (record { form = refl; whole = tt })
known_own (Some b) v e = subst (IsValueOf sql.Bool) (sym e) (record { form = refl; whole = tt })

ever_null : {X Y : Type 0} (op : X → Y → Bool) (left : OverTime X) (right : OverTime Y) (answer : Option Bool) (v : Value) → IsEver op left right answer → v ≡ known answer → v ≡ Null → HaveCommon left right → ⊥
ever_null op left right None v h e n c = h c
ever_null op left right (Some b) v h e n c = absurd (let k = sym e ∙ n in cc k)

always_null : {X Y : Type 0} (op : X → Y → Bool) (left : OverTime X) (right : OverTime Y) (answer : Option Bool) (v : Value) → IsAlways op left right answer → v ≡ known answer → v ≡ Null → HaveCommon left right → ⊥
always_null op left right None v h e n c = h c
always_null op left right (Some b) v h e n c = absurd (let k = sym e ∙ n in cc k)

-- the type of the result of a sign
abbrev pub asked_type : When → SqlType
asked_type Each = sql.TBool
asked_type Ever = sql.Bool
asked_type Always = sql.Bool

pub asked_row : {X : Type 0} (scope : When) (test : X → X → Bool) → IsRow (asked_type scope) (IsAsked scope test)
asked_row Each test = truth_row test
asked_row Ever test = record {
  own = λ left right v h. known_own h.0 v h.2;
  null = λ left right v h n c. ever_null test left right h.0 v h.1 h.2 n c;
}
asked_row Always test = record {
  own = λ left right v h. known_own h.0 v h.2;
  null = λ left right v h n c. always_null test left right h.0 v h.1 h.2 n c;
}

near_own : (answer : Option Ratio) (v : Value) → v ≡ or_nothing Number answer → IsValueOf sql.Numeric v
near_own None v e = subst (IsValueOf sql.Numeric) (sym e) (record { form = refl; whole = tt })
near_own (Some n) v e = subst (IsValueOf sql.Numeric) (sym e) (record { form = refl; whole = tt })

near_null : (left right : OverTime PointOf) (answer : Option Ratio) (v : Value) → IsApproach left right answer → v ≡ or_nothing Number answer → v ≡ Null → HaveCommon left right → ⊥
near_null left right None v h e n c = h c
near_null left right (Some m) v h e n c = absurd (let k = sym e ∙ n in cc k)

pub near_row : IsRow sql.Numeric IsApproachValue
near_row = record {
  own = λ left right v h. near_own h.0 v h.2;
  null = λ left right v h n c. near_null left right h.0 v h.1 h.2 n c;
}

-- ---- rows on operands

-- two types of truth values, at least one of which is temporal
abbrev pub are_truths : SqlType → SqlType → Bool
are_truths sql.TBool sql.TBool = true
are_truths sql.TBool sql.Bool = true
are_truths sql.Bool sql.TBool = true
are_truths _ _ = false

-- of texts, and of points
abbrev pub are_texts : SqlType → SqlType → Bool
are_texts sql.TText sql.TText = true
are_texts sql.TText sql.Text = true
are_texts sql.Text sql.TText = true
are_texts _ _ = false

abbrev pub are_points : SqlType → SqlType → Bool
are_points sql.TPoint sql.TPoint = true
are_points sql.TPoint sql.Point = true
are_points sql.Point sql.TPoint = true
are_points _ _ = false

-- of whole numbers
abbrev pub are_ints : SqlType → SqlType → Bool
are_ints sql.TInt sql.TInt = true
are_ints sql.TInt sql.Int = true
are_ints sql.Int sql.TInt = true
are_ints _ _ = false

-- of linear numbers, where one of the two is not a whole number
abbrev pub are_lines : SqlType → SqlType → Bool
are_lines sql.TFrac sql.TFrac = true
are_lines sql.TFrac sql.TInt = true
are_lines sql.TInt sql.TFrac = true
are_lines sql.TFrac sql.Int = true
are_lines sql.Int sql.TFrac = true
are_lines sql.TFrac sql.Numeric = true
are_lines sql.Numeric sql.TFrac = true
are_lines sql.TInt sql.Numeric = true
are_lines sql.Numeric sql.TInt = true
are_lines _ _ = false

-- with NULL there is no pair
pub truth_right : (a : Value) → truth_pair a Null ≡ None
truth_right Null = refl
truth_right (Truth x) = refl
truth_right _ = refl

pub text_right : (a : Value) → text_pair a Null ≡ None
text_right Null = refl
text_right (Truth x) = refl
text_right _ = refl

pub point_right : (a : Value) → plane_pair a Null ≡ None
point_right Null = refl
point_right (Truth x) = refl
point_right _ = refl

pub int_right : (a : Value) → number_pair a Null ≡ None
int_right Null = refl
int_right (Truth x) = refl
int_right _ = refl

pub line_right : (a : Value) → line_pair a Null ≡ None
line_right Null = refl
line_right (Truth x) = refl
line_right _ = refl

module _ (o : Op) (ty : SqlType) (due : (a b : Value) → AreNeverTogether (a ∷ b ∷ []) → NullIsDue o ty (a ∷ b ∷ [])) where
  -- a row on two operands that exist exactly where the functions are defined
  module _ {X Y : Type 0} (row : OverTime X → OverTime Y → Value → Type 0) (is : IsRow ty row) where
    pub row_answers : (a b : Value) (left : OverTime X) (right : OverTime Y) → ((t : Ratio) → is_there t a ≡ true → is_some (left t) ≡ true) → ((t : Ratio) → is_there t b ≡ true → is_some (right t) ≡ true) → (v : Value) → row left right v → IsAnswer o ty (a ∷ b ∷ []) v
    row_answers a b left right l r v g = record {
      own = is.own left right v g;
      null = λ n. due a b (λ t h. is.null left right v g n (common left right t (l t h.0) (r t h.1.0)));
    }

  first_missing : (b v : Value) → v ≡ Null → IsAnswer o ty (Null ∷ b ∷ []) v
  first_missing b v e = null_answer o ty (Null ∷ b ∷ []) v (due Null b (λ t h. true≢false (sym h.0))) e

  second_missing : (a v : Value) → v ≡ Null → IsAnswer o ty (a ∷ Null ∷ []) v
  second_missing a v e = null_answer o ty (a ∷ Null ∷ []) v (due a Null (λ t h. true≢false (sym h.1.0))) e

  -- a property of the pair of two operands, where there is no pair with NULL
  module _ {A : Type 0} (pair : Value → Value → Option A) (row : A → Value → Type 0) (left : (b : Value) → pair Null b ≡ None) (right : (a : Value) → pair a Null ≡ None) where
    abbrev OnBoth : Value → Value → Type 0
    OnBoth a b = (v : Value) → MatchOption (pair a b) (v ≡ Null) (λ p. row p v) → IsAnswer o ty (a ∷ b ∷ []) v

    pub by_pair : (t u : SqlType) → OnForms t (λ a. OnForms u (OnBoth a)) → (a b : Value) → IsValueOf t a → IsValueOf u b → OnBoth a b
    by_pair t u f a b h k = by_types t u OnBoth
        (λ b v g. first_missing b v (subst (λ p. MatchOption p (v ≡ Null) (λ p. row p v)) (left b) g))
        (λ a v g. second_missing a v (subst (λ p. MatchOption p (v ≡ Null) (λ p. row p v)) (right a) g)) f a b h k

  module _ (row : OverTime Bool → OverTime Bool → Value → Type 0) (is : IsRow ty row) where
    abbrev OnTruths : Value → Value → Type 0
    OnTruths a b = (v : Value) → OnPair (truth_pair a b) row v → IsAnswer o ty (a ∷ b ∷ []) v

    by_truths : (t u : SqlType) → OnForms t (λ a. OnForms u (OnTruths a)) → (a b : Value) → IsValueOf t a → IsValueOf u b → OnTruths a b
    by_truths t u f = by_pair truth_pair (λ p v. row (given_at steady_value p.0) (given_at steady_value p.1) v) (λ b. refl) truth_right t u f

    pub truth_pair_answers : (t u : SqlType) → are_truths t u ≡ true → (a b : Value) → IsValueOf t a → IsValueOf u b → OnTruths a b
    truth_pair_answers sql.TBool sql.TBool e = by_truths sql.TBool sql.TBool (λ x y v g. row_answers row is _ _ _ _ (λ t h. h) (λ t h. h) v g)
    truth_pair_answers sql.TBool sql.Bool e = by_truths sql.TBool sql.Bool (λ x y v g. row_answers row is _ _ _ _ (λ t h. h) (λ t h. h) v g)
    truth_pair_answers sql.Bool sql.TBool e = by_truths sql.Bool sql.TBool (λ x y v g. row_answers row is _ _ _ _ (λ t h. h) (λ t h. h) v g)
    truth_pair_answers _ _ e = absurd (true≢false (sym e))

  module _ (row : OverTime (List ℕ) → OverTime (List ℕ) → Value → Type 0) (is : IsRow ty row) where
    abbrev OnTexts : Value → Value → Type 0
    OnTexts a b = (v : Value) → OnPair (text_pair a b) row v → IsAnswer o ty (a ∷ b ∷ []) v

    by_texts : (t u : SqlType) → OnForms t (λ a. OnForms u (OnTexts a)) → (a b : Value) → IsValueOf t a → IsValueOf u b → OnTexts a b
    by_texts t u f = by_pair text_pair (λ p v. row (given_at steady_value p.0) (given_at steady_value p.1) v) (λ b. refl) text_right t u f

    pub text_pair_answers : (t u : SqlType) → are_texts t u ≡ true → (a b : Value) → IsValueOf t a → IsValueOf u b → OnTexts a b
    text_pair_answers sql.TText sql.TText e = by_texts sql.TText sql.TText (λ x y v g. row_answers row is _ _ _ _ (λ t h. h) (λ t h. h) v g)
    text_pair_answers sql.TText sql.Text e = by_texts sql.TText sql.Text (λ x y v g. row_answers row is _ _ _ _ (λ t h. h) (λ t h. h) v g)
    text_pair_answers sql.Text sql.TText e = by_texts sql.Text sql.TText (λ x y v g. row_answers row is _ _ _ _ (λ t h. h) (λ t h. h) v g)
    text_pair_answers _ _ e = absurd (true≢false (sym e))

  module _ (row : OverTime PointOf → OverTime PointOf → Value → Type 0) (is : IsRow ty row) where
    abbrev OnPoints : Value → Value → Type 0
    OnPoints a b = (v : Value) → OnOperands plane_value_of plane_value_of (plane_pair a b) row v → IsAnswer o ty (a ∷ b ∷ []) v

    by_points : (t u : SqlType) → OnForms t (λ a. OnForms u (OnPoints a)) → (a b : Value) → IsValueOf t a → IsValueOf u b → OnPoints a b
    by_points t u f = by_pair plane_pair (λ p v. row (given_at plane_value_of p.0) (given_at plane_value_of p.1) v) (λ b. refl) point_right t u f

    pub point_pair_answers : (t u : SqlType) → are_points t u ≡ true → (a b : Value) → IsValueOf t a → IsValueOf u b → OnPoints a b
    point_pair_answers sql.TPoint sql.TPoint e = by_points sql.TPoint sql.TPoint (λ x y v g. row_answers row is _ _ _ _ (λ t h. h) (λ t h. h) v g)
    point_pair_answers sql.TPoint sql.Point e = by_points sql.TPoint sql.Point (λ x y v g. row_answers row is _ _ _ _ (λ t h. h) (λ t h. h) v g)
    point_pair_answers sql.Point sql.TPoint e = by_points sql.Point sql.TPoint (λ x y v g. row_answers row is _ _ _ _ (λ t h. h) (λ t h. h) v g)
    point_pair_answers _ _ e = absurd (true≢false (sym e))

  module _ (row : OverTime Ratio → OverTime Ratio → Value → Type 0) (is : IsRow ty row) where
    abbrev OnInts : Value → Value → Type 0
    OnInts a b = (v : Value) → OnPair (number_pair a b) row v → IsAnswer o ty (a ∷ b ∷ []) v

    by_ints : (t u : SqlType) → OnForms t (λ a. OnForms u (OnInts a)) → (a b : Value) → IsValueOf t a → IsValueOf u b → OnInts a b
    by_ints t u f = by_pair number_pair (λ p v. row (given_at steady_value p.0) (given_at steady_value p.1) v) (λ b. refl) int_right t u f

    pub int_pair_answers : (t u : SqlType) → are_ints t u ≡ true → (a b : Value) → IsValueOf t a → IsValueOf u b → OnInts a b
    int_pair_answers sql.TInt sql.TInt e = by_ints sql.TInt sql.TInt (λ x i y j v g. row_answers row is _ _ _ _ (λ t h. h) (λ t h. h) v g)
    int_pair_answers sql.TInt sql.Int e = by_ints sql.TInt sql.Int (λ x i y j v g. row_answers row is _ _ _ _ (λ t h. h) (λ t h. h) v g)
    int_pair_answers sql.Int sql.TInt e = by_ints sql.Int sql.TInt (λ x i y j v g. row_answers row is _ _ _ _ (λ t h. h) (λ t h. h) v g)
    int_pair_answers _ _ e = absurd (true≢false (sym e))

    abbrev OnLines : Value → Value → Type 0
    OnLines a b = (v : Value) → OnOperands line_value_of line_value_of (line_pair a b) row v → IsAnswer o ty (a ∷ b ∷ []) v

    by_lines : (t u : SqlType) → OnForms t (λ a. OnForms u (OnLines a)) → (a b : Value) → IsValueOf t a → IsValueOf u b → OnLines a b
    by_lines t u f = by_pair line_pair (λ p v. row (given_at line_value_of p.0) (given_at line_value_of p.1) v) (λ b. refl) line_right t u f

    pub line_pair_answers : (t u : SqlType) → are_lines t u ≡ true → (a b : Value) → IsValueOf t a → IsValueOf u b → OnLines a b
    line_pair_answers sql.TFrac sql.TFrac e = by_lines sql.TFrac sql.TFrac (λ x y v g. row_answers row is _ _ _ _ (λ t h. h) (λ t h. h) v g)
    line_pair_answers sql.TFrac sql.TInt e = by_lines sql.TFrac sql.TInt (λ x y j v g. row_answers row is _ _ _ _ (λ t h. h) (level_there y) v g)
    line_pair_answers sql.TInt sql.TFrac e = by_lines sql.TInt sql.TFrac (λ x i y v g. row_answers row is _ _ _ _ (level_there x) (λ t h. h) v g)
    line_pair_answers sql.TFrac sql.Int e = by_lines sql.TFrac sql.Int (λ x y j v g. row_answers row is _ _ _ _ (λ t h. h) (λ t h. h) v g)
    line_pair_answers sql.Int sql.TFrac e = by_lines sql.Int sql.TFrac (λ x i y v g. row_answers row is _ _ _ _ (λ t h. h) (λ t h. h) v g)
    line_pair_answers sql.TFrac sql.Numeric e = by_lines sql.TFrac sql.Numeric (λ x y v g. row_answers row is _ _ _ _ (λ t h. h) (λ t h. h) v g)
    line_pair_answers sql.Numeric sql.TFrac e = by_lines sql.Numeric sql.TFrac (λ x y v g. row_answers row is _ _ _ _ (λ t h. h) (λ t h. h) v g)
    line_pair_answers sql.TInt sql.Numeric e = by_lines sql.TInt sql.Numeric (λ x i y v g. row_answers row is _ _ _ _ (level_there x) (λ t h. h) v g)
    line_pair_answers sql.Numeric sql.TInt e = by_lines sql.Numeric sql.TInt (λ x y j v g. row_answers row is _ _ _ _ (λ t h. h) (level_there y) v g)
    line_pair_answers _ _ e = absurd (true≢false (sym e))
