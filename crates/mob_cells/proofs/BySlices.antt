-- A restriction, slice by slice.
use Rattle.std.{specs.Prelude.{◌≡◌, Bool, true, false, cond, ℕ, zero, suc, slice_get, List, [], ◌∷◌, ◌++◌, Option, Some, None, MatchOption, refl}, specs.List.{flat_map}}
use Rattle.std.proofs.Common.{sym, ◌∙◌, subst, append_assoc, append-nil}
use Rattle.mob_ratio.specs.Ratio.{Ratio}
use Rattle.mob_span.{specs.Span.{has}, specs.Neighbours.{is_clear}, specs.Pieces.{piece_at, PiecesAreClear}}
use Rattle.mob_slice.{specs.Slices.{value_at, IsRisingInTime, IsSound, IsClearOf, OfHead}, specs.Cut.{slice_value}, specs.Entries.{Entry, IsFirst}, specs.declared.slice.Slice.{Slice}}
use Rattle.mob_slice.{specs.declared.formula.Formula.{Formula}, specs.OnPiece.{AreKeptOn}, specs.Piecewise.{AreGivenInOrder, IsPiecewise}, proofs.Making.{is_lifted}}
use Rattle.mob_slice.{proofs.Options.{none_some, same_some}, proofs.JoinedFirsts.{first_joined, first_front}}
use Rattle.mob_list.{specs.Faults.{OnCause}, specs.declared.fault.Fault.{Fault}, specs.declared.fault.Fault.TheVariants.{Because, NoMemory}}
use Rattle.mob_cells.specs.Restricted.{kept_value, where_wanted, AreRestricted}

module _ {C B : Type 0} (value : C → Ratio → Ratio → Ratio → B) (start end : C → B) (want : Bool) (holds : Ratio → B → Bool) where
  abbrev pub GivesSlice : Slice C → List (Slice C) → Type 0
  GivesSlice s v = AreKeptOn value start end (λ t. kept_value want (holds t (slice_value value s t)) (slice_value value s t)) s.span v

  clear_parts : (v : List (Slice C)) → IsRisingInTime start end v → PiecesAreClear (λ s. s.span) v
  clear_parts [] h = tt
  clear_parts (s ∷ v) h = (h.0.some, head s v h.1, clear_parts v h.2)
    where
      head : (s : Slice C) (v : List (Slice C)) → OfHead IsClearOf s v → OfHead (λ p q. is_clear p.span q.span ≡ true) s v
      head s [] h = tt
      head s (r ∷ v) h = h

  found_by : (s : Slice C) (v : List (Slice C)) (t : Ratio) (o : Option B) (b : Bool) → has s.span t ≡ b → (MatchOption (piece_at (λ s. s.span) v t) (o ≡ None) (λ p. (w : List (Slice C)) × GivesSlice p w × (o ≡ value_at value w t)) → o ≡ where_wanted want (holds t) (value_at value v t)) → MatchOption (cond b (Some s) (piece_at (λ s. s.span) v t)) (o ≡ None) (λ p. (w : List (Slice C)) × GivesSlice p w × (o ≡ value_at value w t)) → o ≡ where_wanted want (holds t) (cond b (Some (value s.course s.span.lower s.span.upper t)) (value_at value v t))
  found_by s v t o true e f m = m.2 ∙ m.1.values t e
  found_by s v t o false e f m = f m

  found : (v : List (Slice C)) (t : Ratio) (o : Option B) → MatchOption (piece_at (λ s. s.span) v t) (o ≡ None) (λ p. (w : List (Slice C)) × GivesSlice p w × (o ≡ value_at value w t)) → o ≡ where_wanted want (holds t) (value_at value v t)
  found [] t o m = m
  found (s ∷ v) t o m = found_by s v t o (has s.span t) refl (found v t o) m

  -- the slices already kept, and then those of the rest, are those of the whole
  abbrev pub IsLeft : List (Slice C) → List (Slice C) → List (Slice C) → Type 0
  IsLeft all rest out = (v : List (Slice C)) → AreGivenInOrder (λ v. v) GivesSlice rest v → AreGivenInOrder (λ v. v) GivesSlice all (out ++ v)

  pub left_step : (all rest later out out' more : List (Slice C)) (s : Slice C) → rest ≡ s ∷ later → out' ≡ out ++ more → GivesSlice s more → IsLeft all rest out → IsLeft all later out'
  left_step all rest later out out' more s e n g m v k = rw (n, append_assoc out more v) (m (more ++ v) (subst (λ z. AreGivenInOrder (λ v. v) GivesSlice z (more ++ v)) (sym e) (more, v, g, k, refl)))

  pub left_end : (all rest out : List (Slice C)) → rest ≡ [] → IsRisingInTime start end all → IsLeft all rest out → AreRestricted value start end want holds all out
  left_end all rest out e h m =
      let l : IsPiecewise value start end (λ s. s.span) (λ v. v) GivesSlice all out = is_lifted value start end (λ s. s.span) (λ v. v) GivesSlice (λ p v k g. (g.ordered, g.inside)) all out (rw append-nil at (m [] (rw e refl))) (clear_parts all h) in
      record { ordered = l.ordered; values = λ t. found all t (value_at value out t) (l.at_each t) }

-- the entries of the slices so far all fit
pub record IsFitting {A : Type 0} (entries : A → List Entry) (all rest : List A) : Type 0 where
  pub pass : (r : Option Formula) → IsFirst (flat_map entries rest) r → IsFirst (flat_map entries all) r

module _ {A : Type 0} (entries : A → List Entry) where
  pub fitting_start : (all : List A) → IsFitting entries all all
  fitting_start all = record { pass = λ r h. h }

  pub fitting_step : (all rest later : List A) (x : A) → rest ≡ x ∷ later → IsFirst (entries x) None → IsFitting entries all rest → IsFitting entries all later
  fitting_step all rest later x e h m = record { pass = λ r k. m.pass r (subst (λ z. IsFirst (flat_map entries z) r) (sym e) (first_joined (entries x) (flat_map entries later) r h k)) }

  pub fitting_fails : (all rest later : List A) (x : A) (f : Fault Formula) → rest ≡ x ∷ later → IsFitting entries all rest → OnCause (λ g. IsFirst (entries x) (Some g)) f → OnCause (λ g. IsFirst (flat_map entries all) (Some g)) f
  fitting_fails all rest later x (Because g) e m h = m.pass (Some g) (subst (λ z. IsFirst (flat_map entries z) (Some g)) (sym e) (first_front (entries x) (flat_map entries later) g h))
  fitting_fails all rest later x NoMemory e m h = tt

  pub fitting_end : (all rest : List A) → rest ≡ [] → IsFitting entries all rest → IsFirst (flat_map entries all) None
  fitting_end all rest e m = m.pass None (rw e refl)

pub sound_at : {C B : Type 0} (start end : C → B) (v : List (Slice C)) (i : ℕ) (s : Slice C) → IsRisingInTime start end v → slice_get v i ≡ Some s → IsSound start end s
sound_at start end [] i s h e = none_some s e
sound_at start end (r ∷ v) zero s h e = subst (IsSound start end) (same_some e) h.0
sound_at start end (r ∷ v) (suc i) s h e = sound_at start end v i s h.2 e
