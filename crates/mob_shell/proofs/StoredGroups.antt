-- The field of a column of GROUP BY determines its value.
use Rattle.std.{specs.List.{AllByRecursion}, proofs.Common.{◌≡◌, inl, inr, subst, ℕ, List, [], Some, arith, refl}}
use Rattle.mob_list.proofs.Each.{each_on}
use Rattle.mob_ast.specs.declared.types.SqlType.{SqlType}
use Rattle.mob_operators.specs.declared.operator.Op.{Op}
use Rattle.mob_typed.{specs.Trees.{TypedTree, typed, none, more}, specs.Selects.{TypedSelectParts}, specs.Statements.{query}}
use Rattle.mob_typing.specs.WellTyped.{IsGroup, from_type}
use Rattle.mob_value.{specs.declared.value.Value.{Value}, specs.declared.value.Value.TheVariants.{Null}}
use Rattle.mob_catalog.{specs.Catalogue.{Catalogue}, specs.OwnTypes.{IsReadAs}, specs.TypedTables.{columns_of_tables}}
use Rattle.mob_meaning.{specs.Scene.{Scene, scene, leaf_value}, specs.Stored.{ColumnsAreRead, MissingRowsAreNull}, specs.Operators.{OperatorGives}, specs.Values.{TreeHasValue}}
use Rattle.mob_join.specs.TypedFor.{HasStoredTypes, IsTypedFor}
use Rattle.mob_tail.specs.GroupLaws.{GroupsAreOfValues, IsKeyOn}
use Rattle.mob_shell.{specs.ReadAsStored.{IsLiveTuple}, specs.StoredGroups.{QueriesGroupByValues, TypedQueriesGroupByValues}, specs.StoredTypes.{QueriesAreTyped}, proofs.ReadAsStored.{value_of_place}}
use Rattle.mob_operators.specs.declared.operator.Op.TheVariants as op
use Rattle.mob_meaning.specs.declared.terms.Terms.{Terms}
use Rattle.mob_shell.specs.Terms.{terms_of}

null_as : (ty : SqlType) → IsReadAs ty Null
null_as ty = record { own = record { form = refl; whole = tt }; fits = tt }

leaf_of : (s : Scene) (o : Op) (ty : SqlType) (place : ℕ) (v : Value) → TreeHasValue s (typed o ty place none) v → v ≡ leaf_value s o ty
leaf_of s o ty place v h = subst (λ vs. OperatorGives s o ty [] vs v) h.1 h.2

module _ (columns : ColumnsAreRead) (missing : MissingRowsAreNull) where
  module _ (c : Catalogue) (q : TypedSelectParts) (terms : Terms) (typed_for : IsTypedFor c q) (tuple : List ℕ) (live : IsLiveTuple c q.joins q.from tuple) where
    abbrev here : Scene
    here = scene c.store q.from tuple terms

    column_as : (f k place : ℕ) (ty : SqlType) → from_type (columns_of_tables c) q.from f k ≡ Some ty → IsReadAs ty (leaf_value here (op.Column f k) ty)
    column_as f k place ty is = elim (value_of_place k ty c.heads c.store.tables typed_for.rows typed_for.live c q.joins refl 0 q.from tuple f live is) [
      | inl at ↦ subst (IsReadAs ty) (leaf_of here (op.Column f k) ty place Null (missing here f k place ty at)) (null_as ty)
      | inr stands ↦ subst (IsReadAs ty) (leaf_of here (op.Column f k) ty place stands.0 (columns here f k place ty stands.0 stands.1 stands.2.own.form)) stands.2
    ]

    group_as : (g : TypedTree) → HasStoredTypes c q.from g × IsGroup g → IsKeyOn q c.store terms tuple g
    group_as (typed (op.Column f k) ty place none) h = (h.1.1, column_as f k place ty h.0.0)
    group_as (typed (op.Column f k) ty place (more e es)) h = (h.1.1, null_as ty)
    group_as (typed o ty place args) h = absurd (omega (arith, h.1.0))

    groups_as : AllByRecursion (IsKeyOn q c.store terms tuple) q.groups
    groups_as = each_on (λ g. HasStoredTypes c q.from g × IsGroup g) (IsKeyOn q c.store terms tuple) group_as q.groups typed_for.groups

  module _ (tell : GroupsAreOfValues) where
    pub typed_queries_group : TypedQueriesGroupByValues
    typed_queries_group c q terms t u h live also = tell q c.store terms t u (groups_as c q terms h t live) (groups_as c q terms h u also)

    pub queries_group : QueriesAreTyped → QueriesGroupByValues
    queries_group fit settings input count text run q t u next live also = typed_queries_group run.stands.catalogue q (terms_of settings) t u (fit settings input count text run (query q) next) live also
