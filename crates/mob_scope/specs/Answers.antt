-- What typing gives: a value, or the first thing that is wrong.
use Rattle.std.specs.Prelude.{◌≡◌, ℕ, Bool, Option, Some, None, Result, Ok, Err, if◌then◌else◌}
use Rattle.mob_ast.specs.declared.refusal.Kind.{Kind}
use Rattle.mob_list.{specs.declared.fault.Fault.{Fault}, specs.declared.fault.Fault.TheVariants.{Because, NoMemory}}
use Rattle.mob_scope.specs.declared.fault.Mistake.{Mistake}

abbrev pub refuse : {A : Type 0} → Kind → ℕ → Result A Mistake
refuse kind place = Err (record { kind = kind; place = place })

-- one after the other; the first mistake decides
infixl 10 ◌>>=◌
abbrev pub ◌>>=◌ : {A B : Type 0} → Result A Mistake → (A → Result B Mistake) → Result B Mistake
(Ok x) >>= f = f x
(Err w) >>= f = Err w

-- wrong if the test holds
abbrev pub unless : Bool → Kind → ℕ → Result (Unit {0}) Mistake
unless test kind place = if test then refuse kind place else Ok tt

-- the value, or wrong if there is none
abbrev pub found : {A : Type 0} → Kind → ℕ → Option A → Result A Mistake
found kind place None = refuse kind place
found kind place (Some x) = Ok x

-- the fault that the program reports for this result of the definition; a failed allocation is
-- always possible
abbrev pub StopsTyping : {Y : Type 0} → Fault Mistake → Result Y Mistake → Type 0
StopsTyping (Because wrong) read = read ≡ Err wrong
StopsTyping NoMemory read = Unit {0}

-- the program answers as the definition says
abbrev pub AnswersAs : {X Y : Type 0} → (X → Y) → Result X (Fault Mistake) → Result Y Mistake → Type 0
AnswersAs view (Ok x) read = read ≡ Ok (view x)
AnswersAs view (Err e) read = StopsTyping e read
