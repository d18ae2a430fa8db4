-- The walk over the rows of an INSERT.
use Rattle.std.{specs.Prelude.{IfSome, not, codes}, specs.List.{AllByRecursion, AllZip, flat_map}, proofs.Common.{◌≡◌, ◌==◌, refl, ap, ℕ, suc, List, [], ◌∷◌, ◌++◌, length, Option, Some, None}}
use Rattle.std.proofs.lemmas.Bool.{eqb-true, not-false}
use Rattle.mob_list.proofs.Each.{each_parts}
use Rattle.mob_ast.{specs.declared.types.TypeWord.{TypeWord}, specs.declared.types.SqlType.{SqlType}, specs.declared.expression.Node.{Node}}
use Rattle.mob_ast.specs.Trees.{Tree, tree, Trees, none as no_trees, more as more_trees, RowParts}
use Rattle.mob_operators.specs.Lookup.{same_type}
use Rattle.mob_typed.{specs.declared.typed.ConstText.{ConstText}, specs.Statements.{ColumnList}}
use Rattle.mob_expression.{specs.Words.{literal_type}, specs.Expressions.{is_signed}}
use Rattle.mob_typing.{specs.Statements.{lone_number, signed_value, bool_value, typed_value, node_value, tree_value, row_values, typed_row, typed_rows}, specs.WellTyped.{IsOfColumn}}
use Rattle.mob_typing.proofs.Walk.{GivesOrStops, gives, stops, then, also, passes, finds, adds_none, adds_one, adds_within, adds_both, Steps, still}
use Rattle.mob_typing.proofs.Sound.{constant_here, value_stays, row_stays}
use Rattle.mob_grammar.{specs.Places.{IsWithin, nothing, other, same, literal_place, tree_places, trees_places, row_places}, specs.Sites.{node_sites, tree_sites, trees_sites, row_sites}}
use Rattle.mob_grammar.proofs.Within.{within_all}
use Rattle.mob_ast.specs.declared.types.SqlType.TheVariants as sql
use Rattle.mob_ast.specs.declared.refusal.Kind.TheVariants as kind
use Rattle.mob_ast.specs.declared.expression.Node.TheVariants as node

-- the place of a lone number is among those of its trees
lone_stands : (args : Trees) → IfSome (lone_number args) (λ x. IsWithin (x.1 ∷ []) (trees_places args))
lone_stands no_trees = tt
lone_stands (more_trees (tree (node.Number s) p us) no_trees) = same nothing
lone_stands (more_trees (tree nd p us) no_trees) = tt
lone_stands (more_trees t (more_trees u us)) = tt

module _ (At : ℕ → Type 0) (n : ℕ) where
  module _ (column : List ℕ × SqlType) where
    abbrev Fits : List ConstText → Option ℕ → Type 0
    Fits cs v = IsOfColumn cs column v

    constant_steps : (text : List ℕ) (p : ℕ) (ps : List ℕ) (cs : List ConstText) → Steps n (p ∷ ps) Fits cs (Some (length cs), cs ++ record { ty = column.1; text = text; statement = n; place = p } ∷ [])
    constant_steps text p ps cs =
        let c : ConstText = record { ty = column.1; text = text; statement = n; place = p } in
        record { adds = adds_one cs c; sound = constant_here cs c }

    bool_walked : (text : List ℕ) (p : ℕ) (ps : List ℕ) (cs : List ConstText) → At p → GivesOrStops At (Steps n (p ∷ ps) Fits cs) (bool_value n column.1 text p cs)
    bool_walked text p ps cs at = then (passes (not (same_type column.1 sql.Bool)) kind.NoSuchOperator p at) (λ _ is. gives (constant_steps text p ps cs))

    typed_walked : (w : TypeWord) (text : List ℕ) (p : ℕ) (ps : List ℕ) (cs : List ConstText) → At p → At w.name.place → GivesOrStops At (Steps n (p ∷ ps) Fits cs) (typed_value n column.1 w text p cs)
    typed_walked w text p ps cs at named =
        then (finds kind.UnknownName w.name.place (literal_type w.name.text w.inner text) named) (λ own is. then (passes (not (same_type own column.1)) kind.NoSuchOperator p at) (λ _ fits. gives (constant_steps text p ps cs)))

    signed_walked : (g : List ℕ) (p : ℕ) (ps : List ℕ) (cs : List ConstText) (o : Option (List ℕ × ℕ)) → At p → IfSome o (λ x. IsWithin (x.1 ∷ []) ps) → GivesOrStops At (Steps n ps Fits cs) (signed_value n column.1 g p o cs)
    signed_walked g p ps cs None at h = stops at
    signed_walked g p ps cs (Some d) at h =
        then (passes (not (is_signed g)) kind.NoSuchOperator p at) (λ _ signed.
        let own = constant_steps (g ++ d.0) d.1 [] cs in
        gives (record { adds = adds_within h own.adds; sound = own.sound }))

    node_walked : (nd : Node) (p : ℕ) (args : Trees) (cs : List ConstText) → At p → AllByRecursion At (node_sites nd) → GivesOrStops At (Steps n (literal_place nd p ++ trees_places args) Fits cs) (node_value n column.1 nd p args cs)
    unfolding node_value
    node_walked node.Null p args cs at h = gives (record { adds = adds_none; sound = tt })
    node_walked node.True p args cs at h = bool_walked (codes "true") p (trees_places args) cs at
    node_walked node.False p args cs at h = bool_walked (codes "false") p (trees_places args) cs at
    node_walked (node.Number s) p args cs at h = gives (constant_steps s p (trees_places args) cs)
    node_walked (node.Str s) p args cs at h = gives (constant_steps s p (trees_places args) cs)
    node_walked (node.Literal w s) p args cs at h = typed_walked w s p (trees_places args) cs at h.0
    node_walked (node.Sign g) p args cs at h = signed_walked g p (trees_places args) cs (lone_number args) at (lone_stands args)
    node_walked nd p args cs at h = stops at

    value_walked : (t : Tree) (cs : List ConstText) → AllByRecursion At (tree_sites t) → GivesOrStops At (Steps n (tree_places t) Fits cs) (tree_value n column.1 t cs)
    value_walked (tree nd p args) cs h = node_walked nd p args cs h.0 (each_parts At (node_sites nd) (trees_sites args) h.1).0

  -- a row with as many values as columns
  values_walked : (columns : ColumnList) (ts : List Tree) (cs : List ConstText) → length ts ≡ length columns → AllByRecursion At (flat_map tree_sites ts) → GivesOrStops At (Steps n (flat_map tree_places ts) (λ ds vs. AllZip (IsOfColumn ds) columns vs) cs) (row_values n columns ts cs)
  values_walked [] ts cs long h = gives (record { adds = adds_none; sound = tt })
  values_walked (c ∷ columns) [] cs long h = absurd (cc)
  values_walked (c ∷ columns) (t ∷ ts) cs long h =
      let parts = each_parts At (tree_sites t) (flat_map tree_sites ts) h in
      then (value_walked c t cs parts.0) (λ v a.
      then (values_walked columns ts v.1 (cc) parts.1) (λ vs b. gives (record { adds = adds_both a.adds b.adds; sound = (still (λ ds x. IsOfColumn ds c x) (value_stays c) v.0 b.adds a.sound, b.sound) })))

  row_walked : (columns : ColumnList) (r : RowParts) (cs : List ConstText) → AllByRecursion At (row_sites r) → GivesOrStops At (Steps n (row_places r) (λ ds vs. AllZip (IsOfColumn ds) columns vs) cs) (typed_row n columns r cs)
  row_walked columns r cs h =
      then (passes (not (length r.values == length columns)) kind.BadCount r.place h.0) (λ _ as_many.
      also (values_walked columns r.values cs (eqb-true (length r.values) (length columns) (not-false (length r.values == length columns) as_many)) h.1)
      (λ x q. record { adds = adds_within (other (within_all (flat_map tree_places r.values))) q.adds; sound = q.sound }))

  pub rows_walked : (columns : ColumnList) (rs : List RowParts) (cs : List ConstText) → AllByRecursion At (flat_map row_sites rs)
      → GivesOrStops At (Steps n (flat_map row_places rs) (λ ds rows. AllByRecursion (AllZip (IsOfColumn ds) columns) rows × (length rs ≡ length rows)) cs) (typed_rows n columns rs cs)
  rows_walked columns [] cs h = gives (record { adds = adds_none; sound = (tt, refl) })
  rows_walked columns (r ∷ rs) cs h =
      let parts = each_parts At (row_sites r) (flat_map row_sites rs) h in
      then (row_walked columns r cs parts.0) (λ x a.
      then (rows_walked columns rs x.1 parts.1) (λ xs b.
      gives (record { adds = adds_both a.adds b.adds; sound = ((still (λ ds row. AllZip (IsOfColumn ds) columns row) (row_stays columns) x.0 b.adds a.sound, b.sound.0), ap (λ k. suc k) b.sound.1) })))
