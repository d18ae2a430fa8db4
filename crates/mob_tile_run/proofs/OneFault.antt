-- Rows never have two of a text, a limit and a formula.
use Rattle.std.{specs.Prelude.{length, map}, specs.List.{AllZip}, proofs.Common.{◌≡◌, ◌≢◌, ℕ, suc, ◌+◌, List, [], ◌∷◌, ◌++◌, arith, ap, ap₂, sym, subst, ◌∙◌, refl, Option, Some, None}}
use Rattle.mob_ratio.specs.Ratio.{Ratio}
use Rattle.mob_slice.specs.declared.formula.Formula.{Formula}
use Rattle.mob_value.specs.declared.value.Value.{Value}
use Rattle.mob_tile.proofs.OneAnswer.{answer_apart, one_fault}
use Rattle.mob_grid.{specs.Tiles.{GridOf}, specs.declared.tile.Tile.{Tile}}
use Rattle.mob_list.{specs.declared.fault.Fault.{Fault}, specs.declared.fault.Fault.TheVariants.{Because, NoMemory}}
use Rattle.mob_pairs.{specs.declared.fault.PairCause.{PairCause}, specs.declared.fault.PairCause.TheVariants.{Passed, Limit}, proofs.OneFault.{one_pairs_fault, fit_or_pairs_fault}}
use Rattle.mob_trips.{specs.Program.{IsExactWith}, specs.Rows.{Trip, id_of, trips_in}}
use Rattle.mob_tile_run.{specs.TileAnswers.{TileWritesBy, TileFailsBy}, specs.TileParts.{IsSplitOf, IsSplitFault, IsSomeSplitFault, IsFirstSplitFault}, specs.TileProgram.{tile_program}}
use Rattle.mob_tile_run.specs.declared.settings.TileSettings.{TileSettings}
use Rattle.mob_tile.specs.declared.splitting.SplitCause.TheVariants as split

abbrev pub Parts : Type 0
Parts = List (Tile × Trip)

passed_some : (f : Formula) → Because (split.Passed f) ≡ NoMemory → ⊥
passed_some f e = absurd (cc e)

limit_some : Because split.Limit ≡ NoMemory → ⊥
limit_some e = absurd (cc e)

inside_passed : (f h : Formula) → Because (split.Passed f) ≡ Because (split.Passed h) → f ≡ h
inside_passed f h e = cc e

passed_or_limit : (f : Formula) → Because (split.Passed f) ≡ Because split.Limit → ⊥
passed_or_limit f e = absurd (cc e)

module _ (g : GridOf) where
  -- ---- a row
  split_or_fault : (row : ℕ) (t : Option Trip) (parts : Parts) (f : Fault PairCause) → f ≢ NoMemory → IsSplitOf g t parts → IsSplitFault g t row f → ⊥
  split_or_fault row None parts f some h k = k
  split_or_fault row (Some v) parts (Because (Passed rows x)) some h k = answer_apart Parts g v parts (Because (split.Passed x)) (passed_some x) h.1 k.1
  split_or_fault row (Some v) parts (Because (Limit r)) some h k = answer_apart Parts g v parts (Because split.Limit) limit_some h.1 k.1
  split_or_fault row (Some v) parts NoMemory some h k = some refl

  one_split_fault : (row : ℕ) (t : Option Trip) (e f : Fault PairCause) → e ≢ NoMemory → f ≢ NoMemory → IsSplitFault g t row e → IsSplitFault g t row f → e ≡ f
  one_split_fault row None e f some other h k = absurd h
  one_split_fault row (Some v) (Because (Passed rows x)) (Because (Passed others y)) some other h k = ap₂ (λ m n. Because (Passed m n)) (h.0 ∙ sym k.0) (inside_passed x y (one_fault Parts g v (Because (split.Passed x)) (Because (split.Passed y)) (passed_some x) (passed_some y) h.1 k.1))
  one_split_fault row (Some v) (Because (Passed rows x)) (Because (Limit r)) some other h k = absurd (passed_or_limit x (one_fault Parts g v (Because (split.Passed x)) (Because split.Limit) (passed_some x) limit_some h.1 k.1))
  one_split_fault row (Some v) (Because (Passed rows x)) NoMemory some other h k = absurd (other refl)
  one_split_fault row (Some v) (Because (Limit r)) (Because (Passed others y)) some other h k = absurd (passed_or_limit y (one_fault Parts g v (Because (split.Passed y)) (Because split.Limit) (passed_some y) limit_some k.1 h.1))
  one_split_fault row (Some v) (Because (Limit r)) (Because (Limit q)) some other h k = ap (λ r. Because (Limit r)) (h.0 ∙ sym k.0)
  one_split_fault row (Some v) (Because (Limit r)) NoMemory some other h k = absurd (other refl)
  one_split_fault row (Some v) NoMemory f some other h k = absurd (some refl)

  -- ---- the first row with a fault, from row n on
  first_twice : (n : ℕ) (bs cs : List (Option Trip)) (t u : Option Trip) (us ds : List (Option Trip)) (ps qs : List Parts) (e f : Fault PairCause) → e ≢ NoMemory → f ≢ NoMemory → bs ++ t ∷ us ≡ cs ++ u ∷ ds → AllZip (IsSplitOf g) bs ps → AllZip (IsSplitOf g) cs qs → IsSplitFault g t (n + length bs) e → IsSplitFault g u (n + length cs) f → e ≡ f
  first_twice n [] [] t u us ds ps qs e f some other same h k p q = let head : t ≡ u = cc same in one_split_fault (n + 0) u e f some other (subst (λ z. IsSplitFault g z (n + 0) e) head p) q
  first_twice n [] (c ∷ cs) t u us ds ps [] e f some other same h k p q = absurd k
  first_twice n [] (c ∷ cs) t u us ds ps (y ∷ qs) e f some other same h k p q = let head : c ≡ t = cc same in absurd (split_or_fault (n + 0) t y e some (subst (λ z. IsSplitOf g z y) head k.0) p)
  first_twice n (b ∷ bs) [] t u us ds [] qs e f some other same h k p q = absurd h
  first_twice n (b ∷ bs) [] t u us ds (x ∷ ps) qs e f some other same h k p q = let head : b ≡ u = cc same in absurd (split_or_fault (n + 0) u x f other (subst (λ z. IsSplitOf g z x) head h.0) q)
  first_twice n (b ∷ bs) (c ∷ cs) t u us ds [] qs e f some other same h k p q = absurd h
  first_twice n (b ∷ bs) (c ∷ cs) t u us ds (x ∷ ps) [] e f some other same h k p q = absurd k
  first_twice n (b ∷ bs) (c ∷ cs) t u us ds (x ∷ ps) (y ∷ qs) e f some other same h k p q =
      let tails : bs ++ t ∷ us ≡ cs ++ u ∷ ds = cc same in
      let left : n + length (b ∷ bs) ≡ suc n + length bs = omega arith in
      let right : n + length (c ∷ cs) ≡ suc n + length cs = omega arith in
      first_twice (suc n) bs cs t u us ds ps qs e f some other tails h.1 k.1 (subst (λ m. IsSplitFault g t m e) left p) (subst (λ m. IsSplitFault g u m f) right q)

  one_some_fault : (trips : List (Option Trip)) (e f : Fault PairCause) → e ≢ NoMemory → f ≢ NoMemory → IsSomeSplitFault g trips e → IsSomeSplitFault g trips f → e ≡ f
  one_some_fault trips e f some other h k =
      let left : length h.before ≡ 0 + length h.before = omega arith in
      let right : length k.before ≡ 0 + length k.before = omega arith in
      first_twice 0 h.before k.before h.here k.here h.after k.after h.splits k.splits e f some other (sym h.is ∙ k.is) h.first k.first (subst (λ m. IsSplitFault g h.here m e) left h.cause) (subst (λ m. IsSplitFault g k.here m f) right k.cause)

  split_at : (bs us : List (Option Trip)) (t : Option Trip) (splits : List Parts) → AllZip (IsSplitOf g) (bs ++ t ∷ us) splits → (parts : Parts) × IsSplitOf g t parts
  split_at [] us t [] h = absurd h
  split_at [] us t (x ∷ splits) h = (x, h.0)
  split_at (b ∷ bs) us t [] h = absurd h
  split_at (b ∷ bs) us t (x ∷ splits) h = split_at bs us t splits h.1

  some_fault : (trips : List (Option Trip)) (f : Fault PairCause) → f ≢ NoMemory → IsFirstSplitFault g trips f → IsSomeSplitFault g trips f
  some_fault trips (Because cause) some h = h
  some_fault trips NoMemory some h = absurd (some refl)

  parts_or_fault : (trips : List (Option Trip)) (splits : List Parts) (f : Fault PairCause) → f ≢ NoMemory → AllZip (IsSplitOf g) trips splits → IsFirstSplitFault g trips f → ⊥
  parts_or_fault trips splits f some h k =
      let first = some_fault trips f some k in
      let x = split_at first.before first.after first.here splits (subst (λ z. AllZip (IsSplitOf g) z splits) first.is h) in
      split_or_fault (length first.before) first.here x.0 f some x.1 first.cause

  one_parts_fault : (trips : List (Option Trip)) (e f : Fault PairCause) → e ≢ NoMemory → f ≢ NoMemory → IsFirstSplitFault g trips e → IsFirstSplitFault g trips f → e ≡ f
  one_parts_fault trips e f some other h k = one_some_fault trips e f some other (some_fault trips e some h) (some_fault trips f other k)

-- ---- of parts and of pairs
pub text_or_fault : (near : Option Ratio) (s : TileSettings) (ids : List Value) (trips : List (Option Trip)) (text : List ℕ) (f : Fault PairCause) → f ≢ NoMemory → TileWritesBy near s ids trips text → TileFailsBy near s trips f → ⊥
text_or_fault None s ids trips text f some h k = parts_or_fault s.grid trips h.of.splits f some h.of.are k
text_or_fault (Some d) s ids trips text f some h k = fit_or_pairs_fault s.grid d trips f some h.fit k

pub one_answer_fault : (near : Option Ratio) (s : TileSettings) (trips : List (Option Trip)) (e f : Fault PairCause) → e ≢ NoMemory → f ≢ NoMemory → TileFailsBy near s trips e → TileFailsBy near s trips f → e ≡ f
one_answer_fault None s trips e f some other h k = one_parts_fault s.grid trips e f some other h k
one_answer_fault (Some d) s trips e f some other h k = one_pairs_fault s.grid d trips e f some other h k

names_some : (rows : List ℕ) (f : Formula) → Because (Passed rows f) ≡ NoMemory → ⊥
names_some rows f e = absurd (cc e)

row_some : (row : ℕ) → Because (Limit row) ≡ NoMemory → ⊥
row_some row e = absurd (cc e)

names_or_row : (rows : List ℕ) (f : Formula) (row : ℕ) → Because (Passed rows f) ≡ Because (Limit row) → ⊥
names_or_row rows f row e = absurd (cc e)

pub is_exact : (s : TileSettings) → IsExactWith tile_program s
is_exact s = record {
  written_stops = λ rows text names f h k. text_or_fault s.near s (map id_of rows) (trips_in rows) text (Because (Passed names f)) (names_some names f) h k;
  written_limits = λ rows text names h k. text_or_fault s.near s (map id_of rows) (trips_in rows) text (Because (Limit k.0)) (row_some k.0) h k.2;
  stopped_limits = λ rows names others f h k. names_or_row names f k.0 (one_answer_fault s.near s (trips_in rows) (Because (Passed names f)) (Because (Limit k.0)) (names_some names f) (row_some k.0) h k.2);
}
