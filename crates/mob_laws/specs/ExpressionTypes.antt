-- Each value of an expression of a typed query is of the expression's type.
use Rattle.std.{specs.Prelude.{◌≡◌, ◌⊎◌, ℕ, List, Some, slice_get}, specs.List.{AllByRecursion}}
use Rattle.mob_typed.{specs.Selects.{TypedSelectParts}, specs.Statements.{deletion, query}, specs.Trees.{TypedTree, type_of}}
use Rattle.mob_typing.specs.WellTyped.{expressions_of}
use Rattle.mob_value.specs.declared.value.Value.{Value}
use Rattle.mob_catalog.{specs.Catalogue.{Catalogue}, specs.OwnTypes.{IsValueOf}}
use Rattle.mob_meaning.{specs.Scene.{Scene, scene}, specs.Values.{TreeHasValue}}
use Rattle.mob_join.specs.TypedFor.{IsTypedFor}
use Rattle.mob_arguments.specs.declared.options.Settings.{Settings}
use Rattle.mob_shell.{specs.Inputs.{Input}, specs.Program.{WritesFirst}}
use Rattle.mob_meaning.specs.declared.terms.Terms.{Terms}
use Rattle.mob_shell.specs.Terms.{terms_of}

-- whatever value an expression has, it is NULL or one of the expression's type
abbrev pub HasItsType : Scene → TypedTree → Type 0
HasItsType s e = (v : Value) → TreeHasValue s e v → IsValueOf (type_of e) v

-- This holds for each expression of a query that is typed for a catalogue, on any rows of its
-- tables.
abbrev pub TypedExpressionsHaveTheirTypes : Type 0
TypedExpressionsHaveTheirTypes = (c : Catalogue) (q : TypedSelectParts) (terms : Terms) (tuple : List ℕ) → IsTypedFor c q → AllByRecursion (HasItsType (scene c.store q.from tuple terms)) (expressions_of q)

-- This holds for each expression of the next query, or the next DELETE, of a run.
abbrev pub RunExpressionsHaveTheirTypes : Type 0
RunExpressionsHaveTheirTypes = (settings : Settings) (input : Input) (count : ℕ) (text : List ℕ) (run : WritesFirst settings input count text) (q : TypedSelectParts) (tuple : List ℕ)
    → (slice_get run.out.statements count ≡ Some (query q)) ⊎ (slice_get run.out.statements count ≡ Some (deletion q))
    → AllByRecursion (HasItsType (scene run.stands.catalogue.store q.from tuple (terms_of settings))) (expressions_of q)
