-- With `--wide` the tests of a row have no parts, and the text stays.
use Rattle.std.{specs.Prelude.{◌≡◌, [], ◌∷◌, ℕ, ℤ, List, Some, None, refl}, specs.List.{AllZip, AllByRecursion}, proofs.lemmas.Option.{none-some}, proofs.Common.{ap, sym, ◌∙◌, subst, inl, inr}}
use Rattle.mob_ratio.specs.Ratio.{Ratio}
use Rattle.mob_slice.{specs.Entries.{IsFirst}, specs.Modes.{mode_of}, specs.declared.formula.Formula.{Formula}, specs.declared.mode.Mode.TheVariants.{Wide}}
use Rattle.mob_value.{specs.declared.value.Value.{Value}, specs.declared.value.Value.TheVariants.{MovingPoint}}
use Rattle.mob_simplify.{proofs.Found.{found}, proofs.OneRuns.{one_thin}}
use Rattle.mob_thin_run.{specs.ThinRows.{AreThinRows, IsThinText, IsThinValue, OnTests, RowTestPasses, RowTestsFit, table_text}, specs.WideThin.{HasOneThinText, WideStopsNowhere, WideWritesTheSameTable}}

-- ---- no part stops
no_formula : (f : Formula) → IsFirst [] (Some f) → ⊥
no_formula f h = none-some f (sym h)

value_passes : (d : Ratio) (v : Value) (f : Formula) → OnTests Wide d v (λ tests. IsFirst tests (Some f)) → ⊥
value_passes d (MovingPoint slices) f h = no_formula f h.2
value_passes d v f h = no_formula f h

row_passes : (d : Ratio) (row : List Value) (f : Formula) → RowTestPasses Wide d row f → ⊥
row_passes d [] f h = h
row_passes d (v ∷ row) f (inl h) = value_passes d v f h
row_passes d (v ∷ row) f (inr h) = row_passes d row f h.1

pub stops_nowhere : WideStopsNowhere
stops_nowhere settings rows names f e h = row_passes settings.within h.2.here f (subst (λ z. RowTestPasses (mode_of z) settings.within h.2.here f) e h.2.passes)

-- ---- all parts fit
value_fits : (d : Ratio) (v : Value) → OnTests Wide d v (λ tests. IsFirst tests None)
value_fits d (MovingPoint slices) = let f = found d slices in (f.runs, f.of, refl)
value_fits d v = refl

row_fits : (d : Ratio) (row : List Value) → RowTestsFit Wide d row
row_fits d [] = tt
row_fits d (v ∷ row) = (value_fits d v, row_fits d row)

rows_fit : (d : Ratio) (rows : List (List Value)) → AllByRecursion (RowTestsFit Wide d) rows
rows_fit d [] = tt
rows_fit d (row ∷ rows) = (row_fits d row, rows_fit d rows)

text_moves : (d e : Ratio) (day dawn : ℤ) (rows : List (List Value)) (text : List ℕ) → d ≡ e → day ≡ dawn → IsThinText d day rows text → IsThinText e dawn rows text
text_moves d e day dawn rows text h k is = subst (λ z. IsThinText z dawn rows text) h (subst (λ z. IsThinText d z rows text) k is)

pub writes_the_same : WideWritesTheSameTable
writes_the_same one other rows text differ h = (
  subst (λ z. AllByRecursion (RowTestsFit (mode_of z) other.within) rows) (sym differ.asks) (rows_fit other.within rows),
  text_moves one.within other.within one.epoch other.epoch rows text differ.within differ.epoch h.1,
)

-- ---- one text
one_value : (d : Ratio) (v a b : Value) → IsThinValue d v a → IsThinValue d v b → a ≡ b
one_value d (MovingPoint slices) (MovingPoint a) (MovingPoint b) h k = ap MovingPoint (one_thin d slices a b h k)
one_value d (MovingPoint slices) (MovingPoint a) b h k = absurd k
one_value d (MovingPoint slices) a b h k = absurd h
one_value d v a b h k = h ∙ sym k

one_row : (d : Ratio) (row a b : List Value) → AllZip (IsThinValue d) row a → AllZip (IsThinValue d) row b → a ≡ b
one_row d [] [] [] h k = refl
one_row d [] [] (y ∷ b) h k = absurd k
one_row d [] (x ∷ a) b h k = absurd h
one_row d (v ∷ row) [] b h k = absurd h
one_row d (v ∷ row) (x ∷ a) [] h k = absurd k
one_row d (v ∷ row) (x ∷ a) (y ∷ b) h k = ap (λ z. z ∷ a) (one_value d v x y h.0 k.0) ∙ ap (λ z. y ∷ z) (one_row d row a b h.1 k.1)

one_table : (d : Ratio) (rows a b : List (List Value)) → AreThinRows d rows a → AreThinRows d rows b → a ≡ b
one_table d [] [] [] h k = refl
one_table d [] [] (y ∷ b) h k = absurd k
one_table d [] (x ∷ a) b h k = absurd h
one_table d (row ∷ rows) [] b h k = absurd h
one_table d (row ∷ rows) (x ∷ a) [] h k = absurd k
one_table d (row ∷ rows) (x ∷ a) (y ∷ b) h k = ap (λ z. z ∷ a) (one_row d row x y h.0 k.0) ∙ ap (λ z. y ∷ z) (one_table d rows a b h.1 k.1)

pub one_text : HasOneThinText
one_text settings rows a b h k = h.1.3 ∙ ap (table_text settings.epoch) (one_table settings.within rows h.1.0 k.1.0 h.1.1 k.1.1) ∙ sym k.1.3
