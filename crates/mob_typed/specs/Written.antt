-- When a typed script is in written order.
use Rattle.std.{specs.Prelude.{◌≡◌, ◌≤◌, ◌<◌, ◌⊎◌, ℕ, List, [], ◌∷◌}, specs.List.{AllByRecursion}}
use Rattle.mob_typed.{specs.declared.typed.ConstText.{ConstText}, specs.Statements.{ScriptOut, StatementOut, new_rows}}

-- each element has this relation to all that follow it
abbrev pub Rises : {A : Type 0} → (A → A → Type 0) → List A → Type 0
Rises R [] = Unit {0}
Rises R (x ∷ xs) = AllByRecursion (R x) xs × Rises R xs

-- the first place, in statement n, is before the second place, in statement k, or equal to it
abbrev pub IsUpTo : ℕ → ℕ → ℕ → ℕ → Type 0
IsUpTo n p k q = (n < k) ⊎ ((n ≡ k) × (p ≤ q))

abbrev pub LiteralUpTo : ConstText → ConstText → Type 0
LiteralUpTo c d = IsUpTo c.statement c.place d.statement d.place

-- the brackets of the rows of a statement
abbrev pub brackets_of : StatementOut → List ℕ
brackets_of (new_rows t rows places) = places
brackets_of _ = []

-- the brackets of an INSERT are sorted
abbrev pub HasRisingRows : StatementOut → Type 0
HasRisingRows s = Rises (λ p q. p ≤ q) (brackets_of s)

-- the literals are in written order, and so are the brackets of each INSERT
pub record IsWritten (out : ScriptOut) : Type 0 where
  pub literals : Rises LiteralUpTo out.consts
  pub rows : AllByRecursion HasRisingRows out.statements
