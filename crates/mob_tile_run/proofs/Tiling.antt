-- The splits of all rows, one after another.
use Rattle.std.{specs.Prelude.{length, map}, specs.List.{AllZip}}
use Rattle.std.proofs.Common.{◌≡◌, ℕ, suc, ◌+◌, ℤ, List, [], ◌∷◌, ◌++◌, arith, refl, sym, ap, subst, ◌∙◌, append_assoc, append-nil, length-append, Option, Some, Err}
use Rattle.mob_value.specs.declared.value.Value.{Value}
use Rattle.mob_tile.{specs.Split.{OnRange, SplitAnswer}, specs.declared.splitting.SplitCause.{SplitCause}}
use Rattle.mob_grid.{specs.Tiles.{GridOf}, specs.declared.tile.Tile.{Tile}}
use Rattle.mob_list.{specs.declared.fault.Fault.{Fault}, specs.declared.fault.Fault.TheVariants.{Because, NoMemory}}
use Rattle.mob_pairs.specs.declared.fault.PairCause.{PairCause}
use Rattle.mob_trips.specs.Rows.{Trip}
use Rattle.mob_tile_run.{specs.TileTexts.{part_fields}, specs.TileParts.{IsSplitOf, IsSplitFault, IsSomeSplitFault, IsFirstSplitFault, row_fault, records_from}}
use Rattle.mob_tile.specs.declared.splitting.SplitCause.TheVariants as split

-- the rows so far are split, and their parts have their records
pub record IsTiling (g : GridOf) (day : ℤ) (ids : List Value) (all rest : List (Option Trip)) (records : List (List (List ℕ))) (row : ℕ) : Type 0 where
  pub before : List (Option Trip)
  pub splits : List (List (Tile × Trip))
  pub split : before ++ rest ≡ all
  pub count : row ≡ length before
  pub are : AllZip (IsSplitOf g) before splits
  pub made : records ≡ records_from day ids 0 splits

-- the fault of a row, from that of its trip
pub split_fault : (V : Type 0) (g : GridOf) (v : Trip) (row : ℕ) (fault : Fault SplitCause) → OnRange g v (λ quotients range. SplitAnswer {V = V} g v quotients range (Err fault)) → IsSplitFault g (Some v) row (row_fault row fault)
split_fault V g v row (Because (split.Passed formula)) h = (refl, h)
split_fault V g v row (Because split.Limit) h = (refl, h)
split_fault V g v row NoMemory h = tt

zip_push : (R : Option Trip → List (Tile × Trip) → Type 0) (xs : List (Option Trip)) (ys : List (List (Tile × Trip))) (x : Option Trip) (y : List (Tile × Trip)) → AllZip R xs ys → R x y → AllZip R (xs ++ x ∷ []) (ys ++ y ∷ [])
zip_push R [] [] x y h k = (k, tt)
zip_push R [] (z ∷ ys) x y h k = absurd h
zip_push R (w ∷ xs) [] x y h k = absurd h
zip_push R (w ∷ xs) (z ∷ ys) x y h k = (h.0, zip_push R xs ys x y h.1 k)

zip_long : (R : Option Trip → List (Tile × Trip) → Type 0) (xs : List (Option Trip)) (ys : List (List (Tile × Trip))) → AllZip R xs ys → length ys ≡ length xs
zip_long R [] [] h = refl
zip_long R [] (z ∷ ys) h = absurd h
zip_long R (w ∷ xs) [] h = absurd h
zip_long R (w ∷ xs) (z ∷ ys) h = ap (λ n. suc n) (zip_long R xs ys h.1)

one_longer : (trips : List (Option Trip)) (t : Option Trip) → length trips + 1 ≡ length (trips ++ t ∷ [])
one_longer trips t = let e = length-append trips (t ∷ []) in omega arith

module _ (day : ℤ) (ids : List Value) where
  records_push : (n : ℕ) (splits : List (List (Tile × Trip))) (parts : List (Tile × Trip)) → records_from day ids n (splits ++ parts ∷ []) ≡ records_from day ids n splits ++ map (part_fields day ids (n + length splits)) parts
  records_push n [] parts = let e : n + 0 ≡ n = omega arith in append-nil (map (part_fields day ids n) parts) ∙ ap (λ z. map (part_fields day ids z) parts) (sym e)
  records_push n (x ∷ splits) parts =
      let e : (n + 1) + length splits ≡ n + suc (length splits) = omega arith in
      ap (λ z. map (part_fields day ids n) x ++ z) (records_push (n + 1) splits parts ∙ ap (λ z. records_from day ids (n + 1) splits ++ map (part_fields day ids z) parts) e)
      ∙ sym (append_assoc (map (part_fields day ids n) x) (records_from day ids (n + 1) splits) (map (part_fields day ids (n + suc (length splits))) parts))

module _ (g : GridOf) (day : ℤ) (ids : List Value) (all : List (Option Trip)) where
  pub tiling_step : (rest later : List (Option Trip)) (t : Option Trip) (parts : List (Tile × Trip)) (records records' : List (List (List ℕ))) (row row' : ℕ) → rest ≡ t ∷ later → records' ≡ records ++ map (part_fields day ids row) parts → row' ≡ row + 1 → IsSplitOf g t parts → IsTiling g day ids all rest records row → IsTiling g day ids all later records' row'
  tiling_step rest later t parts records records' row row' e n c h m = record {
    before = m.before ++ t ∷ [];
    splits = m.splits ++ parts ∷ [];
    split = append_assoc m.before (t ∷ []) later ∙ ap (λ z. m.before ++ z) (sym e) ∙ m.split;
    count = c ∙ ap (λ z. z + 1) m.count ∙ one_longer m.before t;
    are = zip_push (IsSplitOf g) m.before m.splits t parts m.are h;
    made =
        let long : row ≡ 0 + length m.splits = (let a = m.count in let b = zip_long (IsSplitOf g) m.before m.splits m.are in omega arith) in
        n ∙ ap (λ z. z ++ map (part_fields day ids row) parts) m.made ∙ ap (λ z. records_from day ids 0 m.splits ++ map (part_fields day ids z) parts) long ∙ sym (records_push day ids 0 m.splits parts);
  }

  pub tiling_fails : (rest later : List (Option Trip)) (t : Option Trip) (records : List (List (List ℕ))) (row : ℕ) (f : Fault PairCause) → rest ≡ t ∷ later → IsSplitFault g t row f → IsTiling g day ids all rest records row → IsFirstSplitFault g all f
  tiling_fails rest later t records row f e h m = on f (record {
    before = m.before;
    here = t;
    after = later;
    splits = m.splits;
    is = sym (ap (λ z. m.before ++ z) (sym e) ∙ m.split);
    first = m.are;
    cause = subst (λ n. IsSplitFault g t n f) m.count h;
  })
    where
      on : (f : Fault PairCause) → IsSomeSplitFault g all f → IsFirstSplitFault g all f
      on (Because cause) h = h
      on NoMemory h = tt
