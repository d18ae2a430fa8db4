-- No count over kept tuples overflows.
use Rattle.std.{specs.Prelude.{◌≡◌, ◌+◌, ◌<◌, ◌^◌, Bool, true, false, ℕ, List, Option, Some, None, option_map, length}, proofs.Common.{arith, sym}, proofs.lemmas.Option.{none-some}, proofs.lemmas.Slice.Zip.{AllZip-long}}
use Rattle.mob_slice.{specs.declared.formula.Formula.{Formula}, proofs.Firsts.{one_first}}
use Rattle.mob_ast.specs.declared.types.SqlType.{SqlType}
use Rattle.mob_operators.specs.declared.aggregate.AggKind.{AggKind}
use Rattle.mob_typed.{specs.Trees.{TypedTree}, specs.Selects.{TypedSelectParts}, specs.declared.typed.Agg.{Agg}}
use Rattle.mob_value.{specs.declared.value.Value.{Value}, specs.declared.store.Store.{Store}}
use Rattle.mob_meaning.specs.Evaluation.{PlacedFormula}
use Rattle.mob_tagg.specs.Rows.{earlier}
use Rattle.mob_tail.{specs.Aggregated.{leaves_out, adding_entries, AddingPasses}, specs.Groups.{same_group}, specs.GroupedAnswers.{AddingFails}, specs.States.{is_counting}}
use Rattle.mob_tail.proofs.CountsFit.{count_fits, fewer}
use Rattle.mob_meaning.specs.declared.terms.Terms.{Terms}

passes_none : (b : Bool) (kind : AggKind) (ty : SqlType) (vs : List Value) (v : Value) (g : Formula) → is_counting kind ≡ true → length vs + 1 < 2 ^ 62 → AddingPasses b kind ty vs v (Some g) → ⊥
passes_none true kind ty vs v g is few h = none-some g (sym h)
passes_none false kind ty vs v g is few h = none-some g (one_first (adding_entries kind ty h.0 h.2.0) None (Some g) (count_fits kind ty vs v h.0 h.2.0 is few h.1 h.2.1) h.2.2)

pub no_count_passes : (select : TypedSelectParts) (store : Store) (terms : Terms) (before : List (List ℕ)) (tuple : List ℕ) (e : TypedTree) (agg : Agg) (f : PlacedFormula) → is_counting agg.kind ≡ true → length before + 1 < 2 ^ 62 → AddingFails select store terms before tuple (e, Some agg) f → ⊥
no_count_passes select store terms before tuple e agg f is few h =
    let vs = h.2.0 in
    let long : length vs ≡ length (earlier (same_group select store terms) before tuple) = AllZip-long _ (earlier (same_group select store terms) before tuple) vs h.2.1 in
    let less = fewer (same_group select store terms tuple) before in
    by h.2.2.0 (omega (arith, few, long, less)) h.2.2.1 h.2.2.2
  where
    by : (g : Option Formula) → length h.2.0 + 1 < 2 ^ 62 → AddingPasses (leaves_out agg.kind h.0) agg.kind agg.ty h.2.0 h.0 g → Some f ≡ option_map (λ formula. (agg.place, formula)) g → ⊥
    by None short k i = none-some f (sym i)
    by (Some g) short k i = passes_none (leaves_out agg.kind h.0) agg.kind agg.ty h.2.0 h.0 g is short k
