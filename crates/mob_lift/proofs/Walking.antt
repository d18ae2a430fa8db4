-- A walk over the pieces of two operands: the answer so far, and the entries seen.
use Rattle.std.{specs.Prelude.{◌≡◌, List, [], ◌∷◌, Option, Some, None, refl}, specs.List.{flat_map}, proofs.Common.{ap, sym, ◌∙◌, subst}}
use Rattle.mob_slice.{specs.Entries.{Entry, IsFirst}, specs.declared.formula.Formula.{Formula}, proofs.JoinedFirsts.{first_joined, first_front}}

-- the answer so far, and then that of the pieces
abbrev pub walked : {P V : Type 0} → (Option V → V → V) → (P → V) → Option V → List P → Option V
walked more gives found [] = found
walked more gives found (p ∷ ps) = walked more gives (Some (more found (gives p))) ps

-- with these pieces still to come, the answer and the first entry that does not fit are those of
-- all
pub record IsWalking {P V : Type 0} (more : Option V → V → V) (gives : P → V) (entries : P → List Entry) (all left : List P) (found : Option V) : Type 0 where
  pub answer : walked more gives found left ≡ walked more gives None all
  pub first : (r : Option Formula) → IsFirst (flat_map entries left) r → IsFirst (flat_map entries all) r

module _ {P V : Type 0} (more : Option V → V → V) (gives : P → V) (entries : P → List Entry) where
  pub walking_start : (all left : List P) → left ≡ all → IsWalking more gives entries all left None
  walking_start all left e = record { answer = ap (walked more gives None) e; first = λ r h. subst (λ l. IsFirst (flat_map entries l) r) e h }

  pub walking_step : (all left rest : List P) (found : Option V) (p : P) (v : V) → left ≡ p ∷ rest → v ≡ gives p → IsFirst (entries p) None → IsWalking more gives entries all left found → IsWalking more gives entries all rest (Some (more found v))
  walking_step all left rest found p v e m f h = record {
    answer = ap (λ z. walked more gives (Some (more found z)) rest) m ∙ sym (ap (walked more gives found) e) ∙ h.answer;
    first = λ r k. h.first r (subst (λ l. IsFirst (flat_map entries l) r) (sym e) (first_joined (entries p) (flat_map entries rest) r f k));
  }

  pub walking_fails : (all left rest : List P) (found : Option V) (p : P) (f : Formula) → left ≡ p ∷ rest → IsFirst (entries p) (Some f) → IsWalking more gives entries all left found → IsFirst (flat_map entries all) (Some f)
  walking_fails all left rest found p f e k h = h.first (Some f) (subst (λ l. IsFirst (flat_map entries l) (Some f)) (sym e) (first_front (entries p) (flat_map entries rest) f k))

  pub walking_end : (all left : List P) (found : Option V) → left ≡ [] → IsWalking more gives entries all left found → (found ≡ walked more gives None all) × IsFirst (flat_map entries all) None
  walking_end all left found e h = (sym (ap (walked more gives found) e) ∙ h.answer, h.first None (subst (λ l. IsFirst (flat_map entries l) None) (sym e) refl))
