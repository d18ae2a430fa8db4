-- Statements that run by one relation run by each wider one.
use Rattle.std.{specs.Prelude.{Option}, proofs.Common.{◌≡◌, sym, subst, ℕ, zero, suc, List, [], ◌∷◌, take}}
use Rattle.mob_outside.specs.EndsSeen.{StreamSeen}
use Rattle.mob_eval.specs.QueryFaults.{TupleFault}
use Rattle.mob_ending.{specs.declared.ending.Ending.{Ending}, specs.declared.ending.Ending.TheVariants.{Done, WriteFault, NoMemory, Overflow}}
use Rattle.mob_statements.specs.Statements.{CanAllRun, CanRunEach, Ran, RanFirst, StatementsEnd}

module _ {E S : Type 0} (step wider : E → S → E → List ℕ → Type 0) (widen : (s : E) (x : S) (t : E) (text : List ℕ) → step s x t text → wider s x t text) where
  pub ran_wider : (xs : List S) (s t : E) (text : List ℕ) → Ran step s xs t text → Ran wider s xs t text
  ran_wider [] s t text h = h
  ran_wider (x ∷ xs) s t text h = (h.0, h.1, h.2, widen s x h.0 h.1 h.3, ran_wider xs h.0 t h.2 h.4, h.5)

  first_wider : (s : E) (all : List S) (j : ℕ) (t : E) (old now : Option (List ℕ)) → RanFirst step s all j t old now → RanFirst wider s all j t old now
  first_wider s all j t old now h = record { text = h.text; ran = ran_wider (take j all) s t h.text h.ran; put = h.put }

  pub ends_wider : (stops more : E → S → TupleFault → Type 0) → ((s : E) (x : S) (f : TupleFault) → stops s x f → more s x f)
      → (s left : E) (all : List S) (out : StreamSeen) (ending : Ending) → StatementsEnd step stops s left all out ending → StatementsEnd wider more s left all out ending
  ends_wider stops more admit s left all out Done h = (h.0, ran_wider all s left h.0 h.1, h.2)
  ends_wider stops more admit s left all out (Overflow number rows place formula) h =
      (h.0, h.1, h.2, h.3, first_wider s all h.0 h.2 out.told_before out.told_now h.4, h.5, admit h.2 h.3 (rows, (place, formula)) h.6)
  ends_wider stops more admit s left all out WriteFault h =
      (record { j = h.0.j; end = h.0.end; text = h.0.text; ran = ran_wider (take h.0.j all) s h.0.end h.0.text h.0.ran; part = h.0.part }, h.1)
  ends_wider stops more admit s left all out NoMemory h = (h.0, h.1, first_wider s all h.0 h.1 out.told_before out.told_now h.2)
  ends_wider stops more admit s left all out _ h = absurd h

-- statements that can run in every state that those before them may leave can run in those to which
-- they lead
pub can_at : {E S : Type 0} (step : E → S → E → List ℕ → Type 0) (can : E → S → Type 0) (all : List S) (s : E) → CanAllRun step can s all → CanRunEach step can s all
can_at step can [] s h j t text x ran at = absurd (cc)
can_at step can (y ∷ ys) s h zero t text x ran at =
    let same : y ≡ x = cc in
    subst (λ z. can t z) same (subst (λ z. can z y) (sym ran.0) h.0)
can_at step can (y ∷ ys) s h (suc j) t text x ran at = can_at step can ys ran.0 (h.1 ran.0 ran.1 ran.3) j t ran.2 x ran.4 at
