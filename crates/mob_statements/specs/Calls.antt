-- The meaning of a closure that runs one statement on a state.
use Rattle.std.{specs.Prelude.{◌≡◌, ℕ, List, Result, Ok, Err}, specs.Borrow.{Bor, MutBor}, specs.Fn.{Shared}, specs.declared.vec.Vec.{Vec}}
use Rattle.mob_eval.specs.QueryFaults.{TupleFault}
use Rattle.mob_list.{specs.declared.fault.Fault.{Fault}, specs.declared.fault.Fault.TheVariants.{Because}}

module _ {F S X A : Type 0} (g : Shared F (A × (MutBor S × (Bor X × Unit {0}))) (Result (Vec ℕ A) (Fault TupleFault) × (MutBor S × Unit {0}))) (f : F) where
  -- it may be called for a state and a statement
  abbrev pub CallCanRun : S → X → Type 0
  CallCanRun s x = (a : A) (p : MutBor S) (q : Bor X) → p.now ≡ s → q.now ≡ x → g.pre f (a, (p, (q, tt)))

  -- a call for s and x may return this, and leave t
  pub record CallGives (s : S) (x : X) (given : Result (Vec ℕ A) (Fault TupleFault)) (t : S) : Type 0 where
    pub alloc : A
    pub shown : MutBor S
    pub statement : Bor X
    pub left : MutBor S
    pub shows : shown.now ≡ s
    pub reads : statement.now ≡ x
    pub met : g.post f (alloc, (shown, (statement, tt))) (given, (left, tt))
    pub leaves : left.now ≡ t

  -- it runs the statement x, takes s to t, and returns the text
  abbrev pub CallRuns : S → X → S → List ℕ → Type 0
  CallRuns s x t text = (answer : Vec ℕ A) × CallGives s x (Ok answer) t × (answer.items ≡ text)

  -- the statement x has this fault
  abbrev pub CallStops : S → X → TupleFault → Type 0
  CallStops s x f = (t : S) × CallGives s x (Err (Because f)) t
