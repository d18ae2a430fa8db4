-- The result on one piece: one slice, and the same values under another name.
use Rattle.std.{specs.Prelude.{◌≡◌, true, cond, List, [], ◌∷◌, Option, Some, None, Result, Ok, Err, refl}, proofs.Common.{ap, sym, ◌∙◌, subst}}
use Rattle.mob_ratio.specs.Ratio.{Ratio}
use Rattle.mob_span.{specs.Span.{SpanOf, has, has_instant}, proofs.Insides.{inside_self}}
use Rattle.mob_slice.{specs.Operands.{steady_value, steady_limit}, specs.Sides.{HasValues}, specs.Entries.{Entry, IsFirst}, specs.declared.slice.Slice.{Slice}, specs.declared.steady.Steady.{Steady}}
use Rattle.mob_slice.{specs.declared.formula.Formula.{Formula}, specs.OnPiece.{AreKeptOn, IsKeptBy}}
use Rattle.mob_list.{specs.declared.fault.Fault.{Fault}, specs.declared.fault.Fault.TheVariants.{Because, NoMemory}}

-- the slice with one value on a span
pub one_steady : {B : Type 0} (f : Ratio → Option B) (r : SpanOf) (x : B) → has_instant r ≡ true → ((t : Ratio) → has r t ≡ true → Some x ≡ f t) → AreKeptOn {C = Steady B} steady_value steady_limit steady_limit f r (record { span = r; course = record { value = x } } ∷ [])
one_steady f r x i e = record {
  ordered = (record { some = i; level = λ n. refl }, tt, tt);
  inside = (inside_self r, tt);
  values = λ t k. rw k (e t k);
}

module _ {C B : Type 0} (value : C → Ratio → Ratio → Ratio → B) (start end : C → B) where
  -- one slice with the values g, if these are the values f
  pub one_kept : (f : Ratio → Option B) (g : Ratio → B) (r : SpanOf) (s : Slice C) → HasValues value start end g r s → ((t : Ratio) → has r t ≡ true → Some (g t) ≡ f t) → AreKeptOn value start end f r (s ∷ [])
  one_kept f g r s h e = record {
    ordered = (h.sound, tt, tt);
    inside = (rw h.on (inside_self r), tt);
    values = λ t k. subst (λ z. cond (has z t) (Some (value s.course s.span.lower s.span.upper t)) None ≡ f t) (sym h.on) (rw k (ap Some (h.same t k) ∙ e t k));
  }

  pub kept_same : (f g : Ratio → Option B) (r : SpanOf) (v : List (Slice C)) → ((t : Ratio) → has r t ≡ true → f t ≡ g t) → AreKeptOn value start end f r v → AreKeptOn value start end g r v
  kept_same f g r v e h = record { ordered = h.ordered; inside = h.inside; values = λ t i. h.values t i ∙ e t i }

  -- the same values under another name, after other entries
  pub kept_behind : {V : Type 0} (items : V → List (Slice C)) (f g : Ratio → Option B) (r : SpanOf) (before after : List Entry) (q : Result V (Fault Formula)) → ((t : Ratio) → has r t ≡ true → f t ≡ g t) → ((o : Option Formula) → IsFirst after o → IsFirst before o) → IsKeptBy value start end items f r after q → IsKeptBy value start end items g r before q
  kept_behind items f g r before after (Ok v) e h m = (kept_same f g r (items v) e m.0, h None m.1)
  kept_behind items f g r before after (Err (Because x)) e h m = h (Some x) m
  kept_behind items f g r before after (Err NoMemory) e h m = tt
