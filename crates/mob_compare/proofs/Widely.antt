-- Comparisons in numbers of any size, over all pieces.
use Rattle.std.{specs.Prelude.{◌≡◌, Bool, true, false, cond, ◌||◌, List, [], ◌∷◌, Option, Some, None, Result, Ok, Err, IfOk, refl}, specs.declared.cmp.Ordering.{Ordering}}
use Rattle.std.proofs.Common.{ap, sym, ◌∙◌, subst}
use Rattle.mob_ratio.specs.Ratio.{Ratio}
use Rattle.mob_span.{specs.Meets.{PieceOf}, specs.Flags.{same_bool}}
use Rattle.mob_slice.{specs.Ranks.{holds}, specs.Sides.{SideOf}, specs.declared.comparison.Rel.{Rel}, specs.declared.comparison.Gaps.{Gaps}}
use Rattle.mob_lift.{specs.Sometime.{either}, proofs.Walking.{IsWalking, walked}}
use Rattle.mob_cells.{specs.Gaps.{piece_gaps}, specs.declared.differences.EndGaps.{EndGaps}}
use Rattle.mob_compare.specs.{Met.{gaps_meet, piece_meets}, Small.{AreDecidedAlike}}

-- the answer by small gaps is that of the piece
pub met_alike : {C B : Type 0} (steady : Bool) (value : C → Ratio → Ratio → Ratio → B) (start : C → B) (relation : Rel → B → B → Bool) (gaps : B → B → Gaps) (rel : Rel) (want : Bool) (p : PieceOf (SideOf C B) (SideOf C B)) (l u : Ratio) (f g : Gaps) (ends : EndGaps) (met : Bool) → steady ≡ false
    → l ≡ p.span.lower → u ≡ p.span.upper → f ≡ piece_gaps value gaps p l → g ≡ piece_gaps value gaps p u → AreDecidedAlike f g ends → met ≡ gaps_meet (λ o. same_bool (holds rel o) want) p.span ends.at_lower ends.at_upper → met ≡ piece_meets steady value start relation gaps rel want p
met_alike steady value start relation gaps rel want p l u f g ends met moves el eu ef eg alike e =
    let test : Ordering → Bool = λ o. same_bool (holds rel o) want in
    rw moves (e ∙ alike.alike test p.span ∙ ap (λ z. gaps_meet test p.span z g) (ef ∙ ap (piece_gaps value gaps p) el) ∙ ap (gaps_meet test p.span (piece_gaps value gaps p p.span.lower)) (eg ∙ ap (piece_gaps value gaps p) eu))

-- ---- a walk that stops at a hit
module _ {P : Type 0} (gives : P → Bool) where
  stays_true : (ps : List P) → walked either gives (Some true) ps ≡ Some true
  stays_true [] = refl
  stays_true (p ∷ ps) = stays_true ps

  or_true : (found : Option Bool) → either found true ≡ true
  or_true None = refl
  or_true (Some true) = refl
  or_true (Some false) = refl

  pub hit_is : (all left rest : List P) (found : Option Bool) (p : P) (here : Bool) → left ≡ p ∷ rest → here ≡ gives p → here ≡ true → IsWalking either gives (λ _. []) all left found → Some true ≡ walked either gives None all
  hit_is all left rest found p here e g h w =
      sym (ap (λ z. walked either gives (Some z) rest) (ap (either found) (sym g ∙ h) ∙ or_true found) ∙ stays_true rest) ∙ sym (ap (walked either gives found) e) ∙ w.answer
