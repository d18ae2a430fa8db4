-- Lists made from others, part by part.
use Rattle.mob_slice.{specs.Entries.{IsPartFault}, specs.declared.formula.Formula.{Formula}, proofs.Cuts.{all_both, all_first, all_second}}
use Rattle.std.{specs.Prelude.{◌≡◌, List, [], ◌∷◌, ◌++◌, map}, specs.List.{flat_map}, proofs.Common.{ap, sym, ◌∙◌, subst, append_assoc, append-nil}}
use Rattle.mob_ratio.specs.Ratio.{Ratio}
use Rattle.mob_frac.specs.Formula.{AllFit}
use Rattle.mob_list.{specs.declared.fault.Fault.{Fault}, specs.declared.fault.Fault.TheVariants.{Because, NoMemory}}

-- the parts of a list fit if those of the rest do
pub record IsChecking {A : Type 0} (parts : A → List Ratio) (all rest : List A) : Type 0 where
  pub fit : AllFit (flat_map parts rest) → AllFit (flat_map parts all)
  pub fail : AllFit (flat_map parts all) → AllFit (flat_map parts rest)

module _ {A : Type 0} (parts : A → List Ratio) where
  pub checking_step : (all rest later : List A) (x : A) → rest ≡ x ∷ later → AllFit (parts x) → IsChecking parts all rest → IsChecking parts all later
  checking_step all rest later x e h m = record {
    fit = λ k. m.fit (subst (λ z. AllFit (flat_map parts z)) (sym e) (all_both (parts x) (flat_map parts later) h k));
    fail = λ k. all_second (parts x) (flat_map parts later) (subst (λ z. AllFit (flat_map parts z)) e (m.fail k));
  }

  pub checking_fails : (all rest later : List A) (x : A) → rest ≡ x ∷ later → (¬ AllFit (parts x)) → IsChecking parts all rest → ¬ AllFit (flat_map parts all)
  checking_fails all rest later x e n m h = n (all_first (parts x) (flat_map parts later) (subst (λ z. AllFit (flat_map parts z)) e (m.fail h)))

  pub checking_end : (all rest : List A) → rest ≡ [] → IsChecking parts all rest → AllFit (flat_map parts all)
  checking_end all rest e m = m.fit (rw e tt)

-- a list with nothing after it
pub all_made : {A : Type 0} (out rest all : List A) → rest ≡ [] → out ++ rest ≡ all → out ≡ all
all_made out rest all e h = sym (append-nil out) ∙ ap (λ z. out ++ z) (sym e) ∙ h

-- a list made from another part by part; f makes a part from the first entry
pub walk_step : {A B : Type 0} (f : List A → List B) (rest later : List A) (x : A) (part out out' all : List B) → rest ≡ x ∷ later → f (x ∷ later) ≡ part ++ f later → out' ≡ out ++ part → out ++ f rest ≡ all → out' ++ f later ≡ all
walk_step f rest later x part out out' all e g n m = rw (n, append_assoc out part (f later)) (ap (λ z. out ++ z) (sym g) ∙ ap (λ z. out ++ f z) (sym e) ∙ m)

pub walk_end : {A B : Type 0} (f : List A → List B) (rest : List A) (out all : List B) → rest ≡ [] → f [] ≡ [] → out ++ f rest ≡ all → out ≡ all
walk_end f rest out all e g m = all_made out (f rest) all (ap f e ∙ g) m

-- the list so far, followed by that of the rest, is that of all; and all parts fit if those of the
-- rest do
pub record IsMapping {A B : Type 0} (f : A → B) (parts : A → List Ratio) (all rest : List A) (out : List B) : Type 0 where
  pub made : out ++ map f rest ≡ map f all
  pub checked : IsChecking parts all rest

module _ {A B : Type 0} (f : A → B) (parts : A → List Ratio) where
  pub mapping_step : (all rest later : List A) (out out' : List B) (x : A) (y : B) → rest ≡ x ∷ later → out' ≡ out ++ y ∷ [] → y ≡ f x → AllFit (parts x) → IsMapping f parts all rest out → IsMapping f parts all later out'
  mapping_step all rest later out out' x y e n i h m = record {
    made = ap (λ z. z ++ map f later) (n ∙ ap (λ z. out ++ z ∷ []) i) ∙ append_assoc out (f x ∷ []) (map f later) ∙ ap (λ z. out ++ map f z) (sym e) ∙ m.made;
    checked = checking_step parts all rest later x e h m.checked;
  }

  pub mapping_end : (all rest : List A) (out : List B) → rest ≡ [] → IsMapping f parts all rest out → (out ≡ map f all) × AllFit (flat_map parts all)
  mapping_end all rest out e m = (all_made out (map f rest) (map f all) (ap (map f) e) m.made, checking_end parts all rest e m.checked)

-- a fault of some parts is a fault of all
pub fault_of_all : (formula : Formula) (p q : List Ratio) (f : Fault Formula) → IsPartFault formula p f → ((¬ AllFit p) → ¬ AllFit q) → IsPartFault formula q f
fault_of_all formula p q (Because f) h k = (h.0, k h.1)
fault_of_all formula p q NoMemory h k = tt
