-- The operators that take a distance: eDwithin and expandSpace.
use Rattle.std.{specs.Prelude.{◌&&◌}, proofs.Common.{◌≡◌, Bool, true, false, true≢false, List, [], ◌∷◌, Option, Some, None, inl, inr, refl, sym}, proofs.lemmas.Bool.{and_parts}}
use Rattle.mob_ratio.specs.Ratio.{Ratio}
use Rattle.mob_stbox.{specs.Boxes.{BoxOf}, specs.Expansion.{expanded}}
use Rattle.mob_slice.{specs.declared.line.PlaneLine.{PlaneLine}, specs.declared.slice.Slice.{Slice}}
use Rattle.mob_near.{specs.Distances.{are_within}, specs.Sql.Nearness.{IsEverWithin}}
use Rattle.mob_ast.specs.declared.types.SqlType.{SqlType}
use Rattle.mob_value.{specs.ValueBoxes.{HasBox}, specs.declared.value.Value.{Value}, specs.declared.value.Value.TheVariants.{Null, Number, Box, MovingPoint}, specs.Moving.{or_nothing}}
use Rattle.mob_compare.{specs.declared.sql.when.When.TheVariants.{Ever}, specs.Sql.Signs.{IsAsked}}
use Rattle.mob_clip.specs.Sql.Boxes.{IsExpansion}
use Rattle.mob_catalog.specs.OwnTypes.{IsValueOf}
use Rattle.mob_operands.{specs.Rows.{IsAnswer}, proofs.Forms.{OnForms, by_type, by_types, null_answer, made_answer, first_null, second_null}, proofs.Plain.{is_plain_number}}
use Rattle.mob_operands.proofs.Together.{are_points, asked_row, point_pair_answers}
use Rattle.mob_ast.specs.declared.types.SqlType.TheVariants as sql
use Rattle.mob_operators.specs.declared.operator.Op.TheVariants as op

-- ---- whether two points are ever within a distance

abbrev pub are_near : SqlType → SqlType → SqlType → Bool
are_near t u w = are_points t u && is_plain_number w

abbrev Within : Value → Value → Value → Type 0
Within a b c = (v : Value) → IsEverWithin a b c v → IsAnswer op.EDwithin sql.Bool (a ∷ b ∷ c ∷ []) v

-- the two points alone decide, since a number exists at each instant
beside_distance : (a b : Value) (d : Ratio) (v : Value) → IsAnswer op.EDwithin sql.Bool (a ∷ b ∷ []) v → IsAnswer op.EDwithin sql.Bool (a ∷ b ∷ Number d ∷ []) v
beside_distance a b d v e = record { own = e.own; null = λ n t h. e.null n t (h.0, (h.1.0, tt)) }

within_distance : (t u : SqlType) → are_points t u ≡ true → (a b : Value) → IsValueOf t a → IsValueOf u b → (d : Ratio) → Within a b (Number d)
within_distance t u e a b h k d v g = beside_distance a b d v (point_pair_answers op.EDwithin sql.Bool (λ a b n. n) (IsAsked Ever (are_within d)) (asked_row Ever (are_within d)) t u e a b h k v g)

null_distance : (a b : Value) → Within a b Null
null_distance a b v g = null_answer op.EDwithin sql.Bool (a ∷ b ∷ Null ∷ []) v (λ t h. true≢false (sym h.1.1.0)) g

by_distance : (t u w : SqlType) → are_points t u ≡ true → is_plain_number w ≡ true → (a b c : Value) → IsValueOf t a → IsValueOf u b → IsValueOf w c → Within a b c
by_distance t u sql.Int e p a b c h k l = by_type sql.Int (Within a b) (null_distance a b) (λ d i. within_distance t u e a b h k d) c l
by_distance t u sql.Numeric e p a b c h k l = by_type sql.Numeric (Within a b) (null_distance a b) (λ d. within_distance t u e a b h k d) c l
by_distance t u _ e p a b c h k l = absurd (true≢false (sym p))

pub within_answers : (t u w : SqlType) → are_near t u w ≡ true → (a b c : Value) → IsValueOf t a → IsValueOf u b → IsValueOf w c → Within a b c
within_answers t u w e a b c h k l = let p = and_parts (are_points t u) (is_plain_number w) e in by_distance t u w p.0 p.1 a b c h k l

-- ---- expanded boxes

abbrev pub are_widened : SqlType → SqlType → Bool
are_widened sql.Box sql.Int = true
are_widened sql.Box sql.Numeric = true
are_widened sql.TPoint sql.Int = true
are_widened sql.TPoint sql.Numeric = true
are_widened _ _ = false

abbrev Expands : Value → Value → Type 0
Expands a b = (v : Value) → IsExpansion a b v → IsAnswer op.ExpandSpace sql.Box (a ∷ b ∷ []) v

pub expansion_right : (a v : Value) → IsExpansion a Null v → v ≡ Null
expansion_right (Box b) v g = g
expansion_right (MovingPoint m) v g = g.2
expansion_right _ v g = g

expansion_made : (a : Value) (b : BoxOf) (d : Ratio) (r : Option BoxOf) → HasBox a b → expanded b d ≡ r → (v : Value) → v ≡ or_nothing Box r → IsAnswer op.ExpandSpace sql.Box (a ∷ Number d ∷ []) v
expansion_made a b d None h e v g = null_answer op.ExpandSpace sql.Box (a ∷ Number d ∷ []) v (inr (b, h, e)) g
expansion_made a b d (Some r) h e v g = made_answer op.ExpandSpace sql.Box (a ∷ Number d ∷ []) v (Box r) refl tt (λ n. absurd (cc n)) g

by_widening : (t u : SqlType) → OnForms t (λ a. OnForms u (Expands a)) → (a b : Value) → IsValueOf t a → IsValueOf u b → Expands a b
by_widening t u f a b h k = by_types t u Expands
    (λ b v g. null_answer op.ExpandSpace sql.Box (Null ∷ b ∷ []) v (inl (first_null b)) g)
    (λ a v g. null_answer op.ExpandSpace sql.Box (a ∷ Null ∷ []) v (inl (second_null a)) (expansion_right a v g)) f a b h k

of_box : (b : BoxOf) (d : Ratio) → Expands (Box b) (Number d)
of_box b d v g = expansion_made (Box b) b d (expanded b d) refl refl v g

of_point : (m : List (Slice PlaneLine)) (d : Ratio) → Expands (MovingPoint m) (Number d)
of_point m d v g = expansion_made (MovingPoint m) g.0 d (expanded g.0 d) g.1 refl v g.2

pub expansion_answers : (t u : SqlType) → are_widened t u ≡ true → (a b : Value) → IsValueOf t a → IsValueOf u b → Expands a b
expansion_answers sql.Box sql.Int e = by_widening sql.Box sql.Int (λ x d j. of_box x d)
expansion_answers sql.Box sql.Numeric e = by_widening sql.Box sql.Numeric (λ x d. of_box x d)
expansion_answers sql.TPoint sql.Int e = by_widening sql.TPoint sql.Int (λ m d j. of_point m d)
expansion_answers sql.TPoint sql.Numeric e = by_widening sql.TPoint sql.Numeric (λ m d. of_point m d)
expansion_answers _ _ e = absurd (true≢false (sym e))
