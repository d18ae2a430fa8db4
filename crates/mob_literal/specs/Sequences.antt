-- The value that the written instants of a sequence define.
--
-- Under step interpolation the value at an instant between the first and the last is that of the
-- last written instant that is not later. Otherwise a written instant has its own value, and an
-- instant between two neighbouring ones has the value of the course from the one value to the
-- other. The two brackets say whether the first and the last instant belong to the sequence.
use Rattle.std.specs.Prelude.{◌≡◌, List, [], ◌∷◌, Contains, Bool, true, false, cond, ◌&&◌, ◌||◌, ◌⊎◌}
use Rattle.mob_ratio.{specs.Ratio.{Ratio}, specs.Order.{before, up_to}}
use Rattle.mob_slice.specs.CourseOf.{CourseOf}
use Rattle.mob_written.specs.declared.written.Written.{Written}

-- i is the last written instant that is not later than t
pub record IsLastBy {B : Type 0} (instants : List (Written B)) (t : Ratio) (i : Written B) : Type 0 where
  pub listed : Contains instants i
  pub not_later : up_to i.instant t ≡ true
  pub last : (j : Written B) → Contains instants j → up_to j.instant t ≡ true → up_to j.instant i.instant ≡ true

-- a is before b, or equals b and the bracket includes it
abbrev pub reaches_to : Bool → Ratio → Ratio → Bool
reaches_to included a b = before a b || (included && up_to a b)

-- t is in the span of the sequence: after one of its instants and before one of them, or equal to
-- one that a bracket includes
pub record IsInSequence {B : Type 0} (lower_inc : Bool) (instants : List (Written B)) (upper_inc : Bool) (t : Ratio) : Type 0 where
  pub begun : (i : Written B) × Contains instants i × (reaches_to lower_inc i.instant t ≡ true)
  pub not_ended : (j : Written B) × Contains instants j × (reaches_to upper_inc t j.instant ≡ true)

-- a literal has step interpolation by its prefix, or because the courses of its type are steady
abbrev pub is_step : Bool → Bool → Bool
is_step steady says_step = cond says_step true steady

-- j is the first written instant that is later than t
pub record IsNextAfter {B : Type 0} (instants : List (Written B)) (t : Ratio) (j : Written B) : Type 0 where
  pub listed : Contains instants j
  pub later : before t j.instant ≡ true
  pub first : (k : Written B) → Contains instants k → before t k.instant ≡ true → up_to j.instant k.instant ≡ true

-- t is the instant of i, whose value is v
pub record IsWrittenAt {B : Type 0} (i : Written B) (t : Ratio) (v : B) : Type 0 where
  pub instant : i.instant ≡ t
  pub value : i.value ≡ v

-- j is the next written instant after i, and the course from the value of i to that of j has the
-- value v at t
pub record IsOnTheWay {C B : Type 0} (course : CourseOf C B) (instants : List (Written B)) (i : Written B) (t : Ratio) (v : B) : Type 0 where
  pub to : Written B
  pub next : IsNextAfter instants t to
  pub value : course.value (course.make i.value to.value) i.instant to.instant t ≡ v

-- the value at t, if i is the last written instant that is not later
abbrev pub IsValueFrom : {C B : Type 0} → CourseOf C B → Bool → List (Written B) → Written B → Ratio → B → Type 0
IsValueFrom course true instants i t v = i.value ≡ v
IsValueFrom course false instants i t v = IsWrittenAt i t v ⊎ IsOnTheWay course instants i t v

-- the sequence has the value v at t; `step` says whether it has step interpolation
pub record SequenceAt {C B : Type 0} (course : CourseOf C B) (step : Bool) (lower_inc : Bool) (instants : List (Written B)) (upper_inc : Bool) (t : Ratio) (v : B) : Type 0 where
  pub within : IsInSequence lower_inc instants upper_inc t
  pub by : Written B
  pub last : IsLastBy instants t by
  pub value : IsValueFrom course step instants by t v

-- each written instant is later than the one before it
abbrev pub rises : {B : Type 0} → List (Written B) → Bool
rises [] = true
rises (i ∷ []) = true
rises (i ∷ j ∷ is) = before i.instant j.instant && rises (j ∷ is)
