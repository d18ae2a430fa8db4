-- The fault of a statement is a part of a formula of its query that does not fit.
use Rattle.std.{specs.List.{Contains}, specs.Prelude.{◌⊎◌, true, false}, proofs.Common.{◌≡◌, inl, inr, refl, sym, subst, Bool, ℕ, List, [], ◌∷◌, Option, Some, None, Result, Err}}
use Rattle.mob_list.proofs.Entries.{first_in, later_in, parts-Contains}
use Rattle.mob_operators.{specs.declared.aggregate.AggKind.{AggKind}, specs.declared.aggregate.AggKind.TheVariants.{CountAll}}
use Rattle.mob_typed.{specs.Trees.{TypedTree}, specs.Selects.{TypedSelectParts}, specs.Statements.{StatementOut, deletion, query}}
use Rattle.mob_catalog.specs.Catalogue.{Catalogue}
use Rattle.mob_meaning.{specs.Scene.{Scene, scene}, specs.Evaluation.{PlacedFormula}, specs.Passes.{FaultsPass, TreePasses}}
use Rattle.mob_eval.specs.QueryFaults.{TupleFault}
use Rattle.mob_join.specs.Query.{FailsBy, IsKept, condition_at}
use Rattle.mob_tail.specs.Answers.{IsAnswerBy, IsField, IsKey, IsRowOf, IsTupleRow}
use Rattle.mob_tail.{specs.GroupedAnswers.{AnswerColumn, IsAddingTo, IsArgument, IsArgumentOf, IsArgumentOn, IsGroupedFault, columns_of}, specs.Groups.{same_group}, specs.IsMadeOfEach.{IsMadeOfEach}}
use Rattle.mob_arguments.specs.declared.options.Settings.{Settings}
use Rattle.mob_shell.{specs.Answers.{QueryAnswers}, specs.Fits.{ArgumentOfPasses, ArgumentPasses, ColumnPasses, ConditionPasses, PartPasses, PassesAt, RowPasses, StatementPasses, TuplePasses}}
use Rattle.mob_shell.{specs.Inputs.{Input}, specs.Program.{StopsWith}, specs.Runs.{RunState, Stops}, proofs.GroupFaults.{FailsAt, tuple_fails}}
use Rattle.mob_meaning.specs.declared.terms.Terms.{Terms}
use Rattle.mob_shell.specs.Terms.{terms_of}

-- the first fault over a list comes from one of its entries
failing_entry : {X Y F : Type 0} (R : X → Result Y F → Type 0) (xs : List X) (f : F) → IsMadeOfEach R xs (Err f) → (x : X) × Contains xs x × R x (Err f)
failing_entry R [] f h = absurd h
failing_entry R (x ∷ xs) f (inl h) = (x, first_in x xs, h)
failing_entry R (x ∷ xs) f (inr h) = let later = failing_entry R xs f h.2 in (later.0, later_in x xs later.0 later.1, later.2)

module _ (pass : FaultsPass) where
  unfit_condition : (s : Scene) (c : Option TypedTree) (f : PlacedFormula) → FailsBy c s f → (e : TypedTree) × (c ≡ Some e) × TreePasses s e f
  unfit_condition s None f h = absurd h
  unfit_condition s (Some e) f h = (e, refl, pass s e f h)

  unfit_argument_of : (kind : AggKind) (s : Scene) (e : TypedTree) (f : PlacedFormula) → IsArgumentOf kind s e (Err f) → ArgumentOfPasses kind s e f
  unfit_argument_of CountAll s e f h = absurd (cc h)
  unfit_argument_of _ s e f h = pass s e f h

  unfit_argument : (s : Scene) (column : AnswerColumn) (f : PlacedFormula) → IsArgument s column (Err f) → ArgumentPasses s column f
  unfit_argument s (e, None) f h = absurd (cc h)
  unfit_argument s (e, Some agg) f h = unfit_argument_of agg.kind s e f h

  module _ (select : TypedSelectParts) (catalogue : Catalogue) (terms : Terms) where
    unfit_part : (f : TupleFault) → IsRowOf select (scene catalogue.store select.from f.0 terms) (Err f.1) → PartPasses select catalogue terms f
    unfit_part f (inl item) =
        let s = scene catalogue.store select.from f.0 terms in
        let of = failing_entry (IsField s) select.items f.1 item in
        inl (of.0, of.1, pass s of.0.0 f.1 of.2)
    unfit_part f (inr key) =
        let s = scene catalogue.store select.from f.0 terms in
        let of = failing_entry (IsKey s) select.keys f.1 key.2 in
        inr (of.0, of.1, pass s of.0.0 f.1 of.2)

    unfit_row : (kept : List (List ℕ)) (f : TupleFault) → IsMadeOfEach (IsTupleRow select catalogue.store terms) kept (Err f) → Contains kept f.0 × PartPasses select catalogue terms f
    unfit_row kept f h =
        let of = failing_entry (IsTupleRow select catalogue.store terms) kept f h in
        let same = sym of.2.0 in
        (subst (Contains kept) same of.1, unfit_part f (subst (λ (t : List ℕ). IsRowOf select (scene catalogue.store select.from t terms) (Err f.1)) same of.2.1))

    -- a column of a grouped query
    unfit_column : (kept : List (List ℕ)) (f : TupleFault) → FailsAt (IsArgumentOn select catalogue.store terms) (IsAddingTo terms.mode) (same_group select catalogue.store terms) (columns_of select) kept f → (column : AnswerColumn) × Contains (columns_of select) column × ColumnPasses select catalogue terms kept f column
    unfit_column kept f at = (
      at.item,
      at.stands,
      elim at.fails [
        | inl argument ↦ inl (unfit_argument (scene catalogue.store select.from f.0 terms) at.item f.1 argument)
        | inr adding ↦ inr (record { before = at.before; behind = at.behind; in_order = at.in_order; unfit = adding })
      ],
    )

    unfit_group : (kept : List (List ℕ)) (f : TupleFault) → IsGroupedFault select catalogue.store terms kept (Some f) → Contains kept f.0 × TuplePasses true select catalogue terms kept f
    unfit_group kept f h =
        let at = tuple_fails (IsArgumentOn select catalogue.store terms) (IsAddingTo terms.mode) (same_group select catalogue.store terms) (columns_of select) [] kept f h in
        (subst (λ z. Contains z f.0) (sym at.in_order) (parts-Contains at.before f.0 at.behind), unfit_column kept f at)

    unfit_tuple : (grouped : Bool) (kept : List (List ℕ)) (f : TupleFault) → IsAnswerBy grouped select catalogue.store terms kept (Err f) → Contains kept f.0 × TuplePasses grouped select catalogue terms kept f
    unfit_tuple true kept f h = unfit_group kept f h
    unfit_tuple false kept f h = unfit_row kept f h

    unfit_visit : (f : TupleFault) → IsKept select catalogue terms (Err f) → ConditionPasses select catalogue terms f
    unfit_visit f h =
        let of = unfit_condition (scene catalogue.store select.from f.0 terms) (condition_at select h.0) f.1 h.1.3 in
        record { on = h.0; before = h.1.0; visited = h.1.1; condition = of.0; is = of.1; unfit = of.2 }

    unfit_query : (f : TupleFault) → QueryAnswers select catalogue terms (Err f) → ConditionPasses select catalogue terms f ⊎ RowPasses select catalogue terms f
    unfit_query f (inl h) = inl (unfit_visit f h)
    unfit_query f (inr h) =
        let row = unfit_tuple select.grouped h.0 f h.2 in
        inr (record { kept = h.0; are = h.1; stands = row.0; unfit = row.1 })

  unfit_statement : (terms : Terms) (s : RunState) (x : StatementOut) (f : TupleFault) → Stops terms s x f → StatementPasses x s.catalogue terms f
  unfit_statement terms s (query q) f h = unfit_query q s.catalogue terms f h
  unfit_statement terms s (deletion q) f h = unfit_visit q s.catalogue terms f h
  unfit_statement terms s _ f h = h

  pub stops_unfit : (settings : Settings) (input : Input) (text : List ℕ) (number : ℕ) (f : TupleFault) → StopsWith settings input text number f → PassesAt settings input number f
  stops_unfit settings input text number f h =
      record {
        out = h.out;
        program = h.program;
        is = h.is;
        before = h.before;
        counts = h.counts;
        stands = h.stands;
        text = text;
        ran = h.ran;
        statement = h.statement;
        there = h.there;
        unfit = unfit_statement (terms_of settings) h.stands h.statement f h.stops;
      }
