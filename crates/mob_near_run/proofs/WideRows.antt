-- The text of the nearest rows does not depend on the mode, and there is one.
use Rattle.std.{specs.Prelude.{◌≡◌, ℕ, ℤ, List, map}, proofs.Common.{ap, sym, ◌∙◌, subst}}
use Rattle.mob_ratio.specs.Ratio.{Ratio}
use Rattle.mob_records.specs.AnswerText.{answer_text}
use Rattle.mob_value.specs.declared.value.Value.{Value}
use Rattle.mob_knn.{specs.Nearest.{AreNearest, HasApproach}, proofs.OneNearest.{one_first}}
use Rattle.mob_trips.specs.Rows.{id_of, trips_in}
use Rattle.mob_near_run.{specs.NearAnswers.{ArePrintable, near_fields, near_names, target_operand}, specs.WideNear.{HasOneNearText, WideWritesTheSameRows}, specs.declared.settings.Target.{Target}}

-- the text by the settings that it depends on
abbrev WritesBy : ℕ → ℤ → Target → List (List Value) → List ℕ → Type 0
WritesBy k epoch to rows text = (near : List (ℕ × Ratio)) × AreNearest (trips_in rows) (target_operand to) k near × ArePrintable near × (text ≡ answer_text near_names (map (near_fields epoch (map id_of rows)) near))

pub writes_the_same : WideWritesTheSameRows
writes_the_same one other rows text differ h =
    subst (λ z. WritesBy z other.epoch other.to rows text) differ.count (subst (λ z. WritesBy one.k z other.to rows text) differ.epoch (subst (λ z. WritesBy one.k one.epoch z rows text) differ.target h))

pub one_text : HasOneNearText
one_text settings rows a b h k =
    let e = one_first (HasApproach (trips_in rows) (target_operand settings.to)) settings.k h.0 k.0 h.1 k.1 in
    h.3 ∙ ap (λ z. answer_text near_names (map (near_fields settings.epoch (map id_of rows)) z)) e ∙ sym k.3
