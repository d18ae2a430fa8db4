-- The split of a value has one answer, apart from out of memory.
use Rattle.std.{specs.List.{flat_map}, proofs.Common.{◌≡◌, ◌≢◌, inl, inr, List, refl, sym, ap, subst, ◌∙◌, Some, None, Result, Ok, Err}, proofs.lemmas.Option.{same_Some, none-some}}
use Rattle.mob_ratio.specs.Ratio.{Ratio}
use Rattle.mob_slice.{specs.declared.slice.Slice.{Slice}, specs.declared.line.PlaneLine.{PlaneLine}, proofs.Firsts.{one_first}}
use Rattle.mob_tile.{specs.Edges.{entries_of_slice}, specs.Split.{OnRange, SplitAnswer}, specs.declared.splitting.SplitCause.{SplitCause}}
use Rattle.mob_tile.{specs.declared.splitting.SplitCause.TheVariants.{Passed, Limit}, proofs.Limits.{one_area, one_time}}
use Rattle.mob_grid.{specs.Tiles.{GridOf, range_of, range_parts}, specs.declared.tile.TileRange.{TileRange}}
use Rattle.mob_list.{specs.declared.fault.Fault.{Fault}, specs.declared.fault.Fault.TheVariants.{Because, NoMemory}}

-- two facts about the range of the box of a value are facts about one range
pub both_hold : (g : GridOf) (a : List (Slice PlaneLine)) (P Q : List Ratio → TileRange → Type 0) → OnRange g a P → OnRange g a Q → (quotients : List Ratio) × (range : TileRange) × P quotients range × Q quotients range
both_hold g a P Q h k =
    let area = one_area a h.area k.area h.time k.time h.box k.box in
    let time = one_time a h.area k.area h.time k.time h.box k.box in (
      range_parts g k.area k.time,
      range_of g k.area k.time,
      subst (λ z. P (range_parts g z k.time) (range_of g z k.time)) area (subst (λ z. P (range_parts g h.area z) (range_of g h.area z)) time h.holds),
      k.holds,
    )

module _ (V : Type 0) (g : GridOf) (a : List (Slice PlaneLine)) where
  abbrev Answers : Result V (Fault SplitCause) → List Ratio → TileRange → Type 0
  Answers r quotients range = SplitAnswer {V = V} g a quotients range r

  -- an answer excludes every refusal
  never_both : (v : V) (f : Fault SplitCause) (q : List Ratio) (r : TileRange) → f ≢ NoMemory → Answers (Ok v) q r → Answers (Err f) q r → ⊥
  never_both v (Because (Passed f)) q r some h k = elim k [ inl x ↦ x.1 h.0 | inr x ↦ none-some f (one_first (flat_map (entries_of_slice g) a) None (Some f) h.2 x.2) ]
  never_both v (Because Limit) q r some h k = h.1 k.1
  never_both v NoMemory q r some h k = some refl

  one_refusal : (e f : Fault SplitCause) (q : List Ratio) (r : TileRange) → e ≢ NoMemory → f ≢ NoMemory → Answers (Err e) q r → Answers (Err f) q r → e ≡ f
  one_refusal (Because (Passed e)) (Because (Passed f)) q r some other h k = elim h [
    | inl x ↦ elim k [ inl y ↦ ap (λ f. Because (Passed f)) (x.0 ∙ sym y.0) | inr y ↦ absurd (x.1 y.0) ]
    | inr x ↦ elim k [ inl y ↦ absurd (y.1 x.0) | inr y ↦ ap (λ f. Because (Passed f)) (same_Some e f (one_first (flat_map (entries_of_slice g) a) (Some e) (Some f) x.2 y.2)) ]
  ]
  one_refusal (Because (Passed e)) (Because Limit) q r some other h k = elim h [ inl x ↦ absurd (x.1 k.0) | inr x ↦ absurd (x.1 k.1) ]
  one_refusal (Because (Passed e)) NoMemory q r some other h k = absurd (other refl)
  one_refusal (Because Limit) (Because (Passed f)) q r some other h k = elim k [ inl y ↦ absurd (y.1 h.0) | inr y ↦ absurd (y.1 h.1) ]
  one_refusal (Because Limit) (Because Limit) q r some other h k = refl
  one_refusal (Because Limit) NoMemory q r some other h k = absurd (other refl)
  one_refusal NoMemory f q r some other h k = absurd (some refl)

  pub answer_apart : (v : V) (f : Fault SplitCause) → f ≢ NoMemory → OnRange g a (Answers (Ok v)) → OnRange g a (Answers (Err f)) → ⊥
  answer_apart v f some h k = let x = both_hold g a (Answers (Ok v)) (Answers (Err f)) h k in never_both v f x.0 x.1 some x.2 x.3

  pub one_fault : (e f : Fault SplitCause) → e ≢ NoMemory → f ≢ NoMemory → OnRange g a (Answers (Err e)) → OnRange g a (Answers (Err f)) → e ≡ f
  one_fault e f some other h k = let x = both_hold g a (Answers (Err e)) (Answers (Err f)) h k in one_refusal e f x.0 x.1 some other x.2 x.3
