-- Settings that differ only in the number of workers ask for one answer.
use Rattle.std.{specs.Prelude.{map}, specs.List.{AllZip}, proofs.Common.{◌≡◌, ◌≢◌, ℕ, List, [], ◌∷◌, refl, sym, ap, ap₂, subst, ◌∙◌, Option, Some, None}}
use Rattle.mob_ratio.specs.Ratio.{Ratio}
use Rattle.mob_value.specs.declared.value.Value.{Value}
use Rattle.mob_grid.specs.Tiles.{GridOf, IsGrid}
use Rattle.mob_tile.proofs.OneSplit.{one_split}
use Rattle.mob_list.{specs.declared.fault.Fault.{Fault}, specs.declared.fault.Fault.TheVariants.{NoMemory}}
use Rattle.mob_pairs.{specs.declared.fault.PairCause.{PairCause}, specs.Faults.{IsPairsFault}, proofs.OneAnswer.{one_list}}
use Rattle.mob_records.specs.AnswerText.{answer_text}
use Rattle.mob_trips.specs.Rows.{Trip}
use Rattle.mob_tile_run.{specs.TileAnswers.{AreSameButWorkers, TileFailsBy, PairsText, TileFails, TileWrites, TileWritesBy}, specs.TileParts.{IsFirstSplitFault, IsSplitOf, PartsText, records_from}}
use Rattle.mob_tile_run.{specs.TileTexts.{pair_fields, pair_names, part_names}, specs.declared.settings.TileSettings.{TileSettings}, proofs.OneFault.{Parts, one_answer_fault, text_or_fault}}

module _ (g : GridOf) (ok : IsGrid g) where
  same_parts : (t : Option Trip) (ps qs : Parts) → IsSplitOf g t ps → IsSplitOf g t qs → ps ≡ qs
  same_parts None ps qs h k = h ∙ sym k
  same_parts (Some v) ps qs h k = one_split g v ok ps qs h.0 k.0

  same_splits : (trips : List (Option Trip)) (xs ys : List Parts) → AllZip (IsSplitOf g) trips xs → AllZip (IsSplitOf g) trips ys → xs ≡ ys
  same_splits [] [] [] h k = refl
  same_splits [] [] (y ∷ ys) h k = absurd k
  same_splits [] (x ∷ xs) ys h k = absurd h
  same_splits (t ∷ trips) [] ys h k = absurd h
  same_splits (t ∷ trips) (x ∷ xs) [] h k = absurd k
  same_splits (t ∷ trips) (x ∷ xs) (y ∷ ys) h k = ap₂ (λ a b. a ∷ b) (same_parts t x y h.0 k.0) (same_splits trips xs ys h.1 k.1)

same_text : (near : Option Ratio) (s : TileSettings) (ids : List Value) (trips : List (Option Trip)) (t u : List ℕ) → IsGrid s.grid → TileWritesBy near s ids trips t → TileWritesBy near s ids trips u → t ≡ u
same_text None s ids trips t u ok h k =
    let splits = same_splits s.grid ok trips h.of.splits k.of.splits h.of.are k.of.are in
    let records = h.of.records_are ∙ ap (records_from s.epoch ids 0) splits ∙ sym k.of.records_are in
    h.text_is ∙ ap (answer_text part_names) records ∙ sym k.text_is
same_text (Some d) s ids trips t u ok h k = h.text_is ∙ ap (λ z. answer_text pair_names (map (pair_fields s.epoch ids) z)) (one_list trips d h.pairs k.pairs h.are k.are) ∙ sym k.text_is

-- ---- what one of the two asks for, the other does
writes_alike : (near : Option Ratio) (a b : TileSettings) (ids : List Value) (trips : List (Option Trip)) (t : List ℕ) → AreSameButWorkers a b → TileWritesBy near b ids trips t → TileWritesBy near a ids trips t
writes_alike None a b ids trips t s h = subst (λ z. PartsText z a.epoch ids trips t) (sym s.grid) (subst (λ z. PartsText b.grid z ids trips t) (sym s.epoch) h)
writes_alike (Some d) a b ids trips t s h = subst (λ z. PairsText z d a.epoch ids trips t) (sym s.grid) (subst (λ z. PairsText b.grid d z ids trips t) (sym s.epoch) h)

fails_alike : (near : Option Ratio) (a b : TileSettings) (trips : List (Option Trip)) (f : Fault PairCause) → AreSameButWorkers a b → TileFailsBy near b trips f → TileFailsBy near a trips f
fails_alike None a b trips f s h = subst (λ z. IsFirstSplitFault z trips f) (sym s.grid) h
fails_alike (Some d) a b trips f s h = subst (λ z. IsPairsFault z d trips f) (sym s.grid) h

fails_too : (a b : TileSettings) (trips : List (Option Trip)) (f : Fault PairCause) → AreSameButWorkers a b → TileFails b trips f → TileFails a trips f
fails_too a b trips f s h = fails_alike a.near a b trips f s (subst (λ z. TileFailsBy z b trips f) (sym s.near) h)

pub one_text : (a b : TileSettings) (ids : List Value) (trips : List (Option Trip)) (t u : List ℕ) → IsGrid a.grid → AreSameButWorkers a b → TileWrites a ids trips t → TileWrites b ids trips u → t ≡ u
one_text a b ids trips t u ok s h k = same_text a.near a ids trips t u ok h (writes_alike a.near a b ids trips u s (subst (λ z. TileWritesBy z b ids trips u) (sym s.near) k))

pub one_fault : (a b : TileSettings) (trips : List (Option Trip)) (e f : Fault PairCause) → AreSameButWorkers a b → e ≢ NoMemory → f ≢ NoMemory → TileFails a trips e → TileFails b trips f → e ≡ f
one_fault a b trips e f s some other h k = one_answer_fault a.near a trips e f some other h (fails_too a b trips f s k)

pub text_apart : (a b : TileSettings) (ids : List Value) (trips : List (Option Trip)) (t : List ℕ) (f : Fault PairCause) → AreSameButWorkers a b → f ≢ NoMemory → TileWrites a ids trips t → TileFails b trips f → ⊥
text_apart a b ids trips t f s some h k = text_or_fault a.near a ids trips t f some h (fails_too a b trips f s k)
