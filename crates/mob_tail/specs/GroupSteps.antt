-- A group with one more tuple.
use Rattle.std.{specs.Prelude.{◌≡◌, ◌⊎◌, Bool, true, false, ℕ, List, [], ◌∷◌, Option, Some, None, Result, Ok, Err, cond, map}, specs.List.{AllZip, position_or_len}}
use Rattle.mob_list.specs.declared.fault.Fault.TheVariants.{Because}
use Rattle.mob_typed.{specs.declared.typed.Agg.{Agg}, specs.Selects.{TypedSelectParts}, specs.Trees.{TypedTree, typed_of}}
use Rattle.mob_value.{specs.declared.value.Value.{Value}, specs.declared.value.Value.TheVariants.{Null}, specs.declared.store.Store.{Store}}
use Rattle.mob_meaning.{specs.Scene.{Scene}, specs.Evaluation.{PlacedFormula}}
use Rattle.mob_groups.specs.Groups.{first_keys, members}
use Rattle.mob_tail.{specs.declared.columns.Column.{Column as ColumnOf}, specs.declared.group_memos.GroupMemo.{GroupMemo}, specs.declared.group_memos.Group.{Group}, specs.declared.state.State.{State}}
use Rattle.mob_tail.{specs.declared.state.State.TheVariants.{Whole}, specs.Aggregated.{leaves_out}, specs.States.{IsKeptIn, IsStartState, IsStateWith}}
use Rattle.mob_tail.{specs.Groups.{column_on, group_fields, same_texts, has_groups, under_fields}, specs.GroupedAnswers.{AnswerColumn, columns_of, IsArgumentOf, IsColumnValue}}
use Rattle.mob_meaning.specs.declared.terms.Terms.{Terms}

-- a column of the answer in the program, as the definitions have it
abbrev pub column_seen : ColumnOf → AnswerColumn
column_seen c = (typed_of c.expression.now, c.agg)

-- an aggregate with one more tuple, or its fault there
abbrev pub IsAggregateOn : Scene → TypedTree → Agg → State → Result State PlacedFormula → Type 0
IsAggregateOn s e agg before (Ok x) = (w : Value) × IsArgumentOf agg.kind s e (Ok w) × IsStateWith (leaves_out agg.kind w) agg.kind agg.ty before w (Ok x)
IsAggregateOn s e agg before (Err f) = IsArgumentOf agg.kind s e (Err f) ⊎ ((w : Value) × IsArgumentOf agg.kind s e (Ok w) × (f.0 ≡ agg.place) × IsStateWith (leaves_out agg.kind w) agg.kind agg.ty before w (Err (Because f.1)))

-- a column that is not an aggregate, with one more tuple: its value on the first tuple, later the
-- state as before
abbrev pub IsPlainOn : Scene → TypedTree → Bool → State → State → Type 0
IsPlainOn s e true before x = x ≡ Whole (column_on s e)
IsPlainOn s e false before x = x ≡ before

-- a column of the answer with one more tuple, or its fault there; the fourth argument is whether
-- the tuple is the first of its group
abbrev pub IsColumnWith : Scene → AnswerColumn → State → Bool → Result State PlacedFormula → Type 0
IsColumnWith s (e, Some agg) before first r = IsAggregateOn s e agg before r
IsColumnWith s (e, None) before first (Ok x) = IsPlainOn s e first before x
IsColumnWith s (e, None) before first (Err f) = ⊥

-- a memo with one more tuple
pub record IsMemoWith (s : Scene) (first : Bool) (old new : GroupMemo) : Type 0 where
  pub column : column_seen new.column ≡ column_seen old.column
  pub state : IsColumnWith s (column_seen old.column) old.state first (Ok new.state)

-- a fault in a memo, if those before it have none
abbrev pub FailsInMemos : Scene → Bool → List GroupMemo → PlacedFormula → Type 0
FailsInMemos s first [] f = ⊥
FailsInMemos s first (c ∷ memos) f = IsColumnWith s (column_seen c.column) c.state first (Err f) ⊎ ((x : State) × IsColumnWith s (column_seen c.column) c.state first (Ok x) × FailsInMemos s first memos f)

-- the state of a column has this value
abbrev pub IsKeptOf : AnswerColumn → State → Value → Type 0
IsKeptOf (e, None) x r = x ≡ Whole r
IsKeptOf (e, Some agg) x r = IsKeptIn agg.kind x r

abbrev pub IsMemoKept : Value → GroupMemo → Type 0
IsMemoKept r memo = IsKeptOf (column_seen memo.column) memo.state r

-- the state of a column for a group without tuples
abbrev pub IsStart : AnswerColumn → State → Type 0
IsStart (e, None) x = x ≡ Whole Null
IsStart (e, Some agg) x = IsStartState agg.kind x

-- a memo for a group without tuples
abbrev pub IsStartMemo : ColumnOf → GroupMemo → Type 0
IsStartMemo column memo = (column_seen memo.column ≡ column_seen column) × IsStart (column_seen column) memo.state

-- the program's record of a group without tuples
pub record IsStartGroup (columns : List ColumnOf) (g : Group) : Type 0 where
  pub first : g.first ≡ None
  pub memos : AllZip IsStartMemo columns g.memos.items

-- the first tuple of a group
abbrev pub first_of : List (List ℕ) → Option (List ℕ)
first_of [] = None
first_of (t ∷ group) = Some t

-- the state of a column has its value for a group
abbrev pub IsStateOf : TypedSelectParts → Store → Terms → List (List ℕ) → AnswerColumn → State → Type 0
IsStateOf select store terms group column x = (r : Value) × IsKeptOf column x r × IsColumnValue select store terms group column r

-- a memo holds the value of its column for a group
abbrev pub IsGroupMemoOf : TypedSelectParts → Store → Terms → List (List ℕ) → AnswerColumn → GroupMemo → Type 0
IsGroupMemoOf select store terms group column memo = (column_seen memo.column ≡ column) × IsStateOf select store terms group column memo.state

-- the program's record of a group of these tuples
pub record IsGroupOf (select : TypedSelectParts) (store : Store) (terms : Terms) (group : List (List ℕ)) (g : Group) : Type 0 where
  pub first : g.first ≡ first_of group
  pub memos : AllZip (IsGroupMemoOf select store terms group) (columns_of select) g.memos.items

-- the fields of each group: without GROUP BY there is one group, without fields
abbrev pub keys_on : TypedSelectParts → Store → Terms → List (List ℕ) → List (List (List ℕ))
keys_on select store terms kept = cond (has_groups select) (first_keys same_texts (map (group_fields select store terms) kept)) ([] ∷ [])

-- the number of the group of a tuple
abbrev pub number_on : TypedSelectParts → Store → Terms → List (List ℕ) → List ℕ → ℕ
number_on select store terms kept tuple = position_or_len (same_texts (group_fields select store terms tuple)) (keys_on select store terms kept)

-- the program's records of the groups of tuples that have these fields
abbrev pub AreGroupsOf : TypedSelectParts → Store → Terms → List (List (List ℕ)) → List (List ℕ) → List Group → Type 0
AreGroupsOf select store terms keys tuples groups = AllZip (λ k g. IsGroupOf select store terms (members same_texts k (under_fields select store terms tuples)) g) keys groups
