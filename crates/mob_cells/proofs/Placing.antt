-- Functions with their roots, and the cells of a span that is cut at the roots.
use Rattle.std.{specs.Prelude.{true, Contains, MatchOption}, specs.List.{AllByRecursion}}
use Rattle.std.proofs.Common.{◌≡◌, List, [], ◌∷◌, ◌++◌, Option, Some, None, refl, sym, ap, ap₂, subst, ◌∙◌, append_assoc, append-nil}
use Rattle.std.proofs.lemmas.List.Elements.{Contains-append_left, Contains-append_right}
use Rattle.mob_list.{proofs.Each.{each_more}, proofs.Entries.{first_in}}
use Rattle.mob_ratio.specs.Ratio.{Ratio}
use Rattle.mob_frac.specs.Formula.{AllFit}
use Rattle.mob_span.specs.Span.{SpanOf, has_instant}
use Rattle.mob_slice.proofs.Cuts.{all_both, all_first, all_second}
use Rattle.mob_cells.{specs.declared.linear.Ends.{Ends}, specs.declared.signs.Placed.{Placed}, specs.Roots.{IsLevel, root_parts, root_of, roots, roots_parts, as_list}}
use Rattle.mob_cells.{specs.Cells.{AreSigned, IsPlaced, IsApart, NoneWithin, functions_of, placed_roots, split_all, start_cells}, proofs.Splits.{start_are}}
use Rattle.mob_cells.proofs.Walking.{all_split, all_self, only_cuts}

-- ---- the loop over the functions
-- the functions before the rest, with their roots
pub record IsPlacing (s : SpanOf) (fs rest : List Ends) (placed : List Placed) : Type 0 where
  pub good : AllByRecursion (IsPlaced s) placed
  pub made : functions_of placed ++ rest ≡ fs
  pub level : AllByRecursion (IsLevel s) rest
  pub fit : AllFit (roots_parts s rest) → AllFit (roots_parts s fs)
  pub fail : AllFit (roots_parts s fs) → AllFit (roots_parts s rest)

map_more : (xs : List Placed) (x : Placed) → functions_of (xs ++ x ∷ []) ≡ functions_of xs ++ x.ends ∷ []
map_more [] x = refl
map_more (y ∷ xs) x = ap (λ z. y.ends ∷ z) (map_more xs x)

pub placing_start : (s : SpanOf) (fs : List Ends) → AllByRecursion (IsLevel s) fs → IsPlacing s fs fs []
placing_start s fs h = record { good = tt; made = refl; level = h; fit = λ z. z; fail = λ z. z }

pub placing_step : (s : SpanOf) (fs rest later : List Ends) (f : Ends) (r : Option Ratio) (placed placed' : List Placed) → rest ≡ f ∷ later → r ≡ root_of s f → AllFit (root_parts s f) → placed' ≡ placed ++ record { ends = f; root = r } ∷ [] → IsPlacing s fs rest placed → IsPlacing s fs later placed'
placing_step s fs rest later f r placed placed' e er fits ep m =
    let p : Placed = record { ends = f; root = r } in
    let level = subst (λ z. AllByRecursion (IsLevel s) z) e m.level in
    rw ep (record {
      good = each_more (IsPlaced s) placed p m.good (record { level = level.0; root = er });
      made = ap (λ z. z ++ later) (map_more placed p) ∙ append_assoc (functions_of placed) (f ∷ []) later ∙ ap (λ z. functions_of placed ++ z) (sym e) ∙ m.made;
      level = level.1;
      fit = λ h. m.fit (subst (λ z. AllFit (roots_parts s z)) (sym e) (all_both (root_parts s f) (roots_parts s later) fits h));
      fail = λ h. all_second (root_parts s f) (roots_parts s later) (subst (λ z. AllFit (roots_parts s z)) e (m.fail h));
    })

pub placing_level : (s : SpanOf) (fs rest later : List Ends) (f : Ends) (placed : List Placed) → rest ≡ f ∷ later → IsPlacing s fs rest placed → IsLevel s f
placing_level s fs rest later f placed e m = (subst (λ z. AllByRecursion (IsLevel s) z) e m.level).0

pub placing_fails : (s : SpanOf) (fs rest later : List Ends) (f : Ends) (placed : List Placed) → rest ≡ f ∷ later → (¬ AllFit (root_parts s f)) → IsPlacing s fs rest placed → ¬ AllFit (roots_parts s fs)
placing_fails s fs rest later f placed e n m h = n (all_first (root_parts s f) (roots_parts s later) (subst (λ z. AllFit (roots_parts s z)) e (m.fail h)))

pub placing_all : (s : SpanOf) (fs rest : List Ends) (placed : List Placed) → rest ≡ [] → IsPlacing s fs rest placed → functions_of placed ≡ fs
placing_all s fs rest placed e m = sym (append-nil (functions_of placed)) ∙ (rw e at m.made)

pub placing_fits : (s : SpanOf) (fs rest : List Ends) (placed : List Placed) → rest ≡ [] → IsPlacing s fs rest placed → AllFit (roots_parts s fs)
placing_fits s fs rest placed e m = m.fit (rw e tt)

-- ---- the cells
pub levels_of : (s : SpanOf) (placed : List Placed) → AllByRecursion (IsPlaced s) placed → AllByRecursion (IsLevel s) (functions_of placed)
levels_of s [] h = tt
levels_of s (p ∷ ps) h = (h.0.level, levels_of s ps h.1)

pub roots_placed : (s : SpanOf) (placed : List Placed) → AllByRecursion (IsPlaced s) placed → placed_roots placed ≡ roots s (functions_of placed)
roots_placed s [] h = refl
roots_placed s (p ∷ ps) h = ap₂ (λ (a b : List Ratio). a ++ b) (ap as_list h.0.root) (roots_placed s ps h.1)

all_apart : (cells : List SpanOf) (ps : List Placed) → ((r : Ratio) → Contains (placed_roots ps) r → AllByRecursion (NoneWithin r) cells) → AllByRecursion (IsApart cells) ps
all_apart cells [] f = tt
all_apart cells (p ∷ ps) f = (
  by p.root (λ r k. f r (Contains-append_left (as_list p.root) (placed_roots ps) r k)),
  all_apart cells ps (λ r k. f r (Contains-append_right (as_list p.root) (placed_roots ps) r k)),
)
  where
    by : (o : Option Ratio) → ((r : Ratio) → Contains (as_list o) r → AllByRecursion (NoneWithin r) cells) → MatchOption o (Unit {0}) (λ r. AllByRecursion (NoneWithin r) cells)
    by None g = tt
    by (Some r) g = g r (first_in r [])

-- the span cut at the roots in any order
pub are_signed : (s : SpanOf) (placed : List Placed) (sorted : List Ratio) → has_instant s ≡ true → AllByRecursion (IsPlaced s) placed → ((r : Ratio) → Contains (placed_roots placed) r → Contains sorted r) → ((r : Ratio) → Contains sorted r → Contains (placed_roots placed) r) → AreSigned s placed (split_all sorted (start_cells s))
are_signed s placed sorted i good forth back =
    let cells = split_all sorted (start_cells s) in
    record {
      are = all_split s sorted (start_cells s) (start_are s i);
      good = good;
      apart = all_apart cells placed (λ r k. all_self r sorted (start_cells s) (forth r k));
      only = only_cuts s (roots s (functions_of placed)) sorted (λ r k. subst (λ l. Contains l r) (roots_placed s placed good) (back r k));
    }
