-- The rows that can be printed, and the first that cannot.
use Rattle.std.{specs.Prelude.{◌≡◌, ℕ, Option, ◌+◌, ◌<◌, List, [], ◌∷◌, ◌++◌, length, get_or, take, drop}, specs.List.{AllByRecursion}, proofs.Common.{◌∙◌, ap, sym, subst}, proofs.lemmas.List.{take-append-drop, take_more}}
use Rattle.mob_ratio.specs.Ratio.{Ratio}
use Rattle.mob_frac.specs.Fits.{Fits}
use Rattle.mob_list.{specs.Faults.{OnCause}, specs.declared.fault.Fault.{Fault}, proofs.Entries.{drop_read}, proofs.Faults.{cause_weaker}}
use Rattle.mob_slice.{specs.declared.formula.Formula.{Formula}, specs.declared.formula.Formula.TheVariants.{Given}}
use Rattle.mob_knn.specs.Nearest.{Asked, AreNearest}
use Rattle.mob_trips.specs.Rows.{Trip}
use Rattle.mob_near_run.specs.NearAnswers.{IsFirstLarge, IsUnprintable}

abbrev Row : Type 0
Row = ℕ × Ratio

-- one more row is taken over
pub taken_next : (rows : List Row) (i : ℕ) (x r : Row) (old new : List Row) → i < length rows → x ≡ get_or rows i x → old ≡ take i rows → r ≡ x → new ≡ old ++ r ∷ [] → new ≡ take (i + 1) rows
taken_next rows i x r old new lt is h s e = e ∙ (λ j. h j ++ s j ∷ []) ∙ ap (λ z. take i rows ++ z ∷ []) is ∙ sym (take_more rows i x lt)

first_large : (rows : List Row) (i : ℕ) (x : Row) → i < length rows → x ≡ get_or rows i x → AllByRecursion (λ r. Fits r.1) (take i rows) → (¬ Fits x.1) → IsFirstLarge rows x.0
first_large rows i x lt is fit large = record {
  before = take i rows;
  approach = x.1;
  after = drop (i + 1) rows;
  parts = sym (take-append-drop i rows) ∙ ap (λ z. take i rows ++ z) (drop_read rows i x lt is);
  fit = fit;
  large = large;
}

-- a row that does not fit is the first one
pub stopped_row : (rows : List Row) (i : ℕ) (x : Row) → i < length rows → x ≡ get_or rows i x → AllByRecursion (λ r. Fits r.1) (take i rows) → (f : Fault (ℕ × Formula)) → OnCause (λ f. (f ≡ (x.0, Given)) × (¬ Fits x.1)) f → OnCause (λ f. (f.1 ≡ Given) × IsFirstLarge rows f.0) f
stopped_row rows i x lt is fit =
    cause_weaker (λ (f : ℕ × Formula). (f ≡ (x.0, Given)) × (¬ Fits x.1)) (λ (f : ℕ × Formula). (f.1 ≡ Given) × IsFirstLarge rows f.0)
    (λ f h. (ap (λ (g : ℕ × Formula). g.1) h.0, subst (IsFirstLarge rows) (ap (λ (g : ℕ × Formula). g.0) (sym h.0)) (first_large rows i x lt is fit h.1)))

pub unprintable : (trips : List (Option Trip)) (asked : Asked) (k : ℕ) (near : List Row) → AreNearest trips asked k near → (f : Fault (ℕ × Formula)) → OnCause (λ f. (f.1 ≡ Given) × IsFirstLarge near f.0) f → OnCause (λ f. IsUnprintable trips asked k f.0 f.1) f
unprintable trips asked k near are =
    cause_weaker (λ (f : ℕ × Formula). (f.1 ≡ Given) × IsFirstLarge near f.0) (λ (f : ℕ × Formula). IsUnprintable trips asked k f.0 f.1)
    (λ f h. record { near = near; are = are; first = h.1; named = h.0 })
