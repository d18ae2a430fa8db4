-- The gaps of two values from their coordinates.
use Rattle.std.{specs.Prelude.{◌≡◌, Result, Ok, Err, IfOk}, proofs.Common.{ap, sym, ◌∙◌}}
use Rattle.mob_slice.specs.declared.comparison.Gaps.{Gaps}
use Rattle.mob_cells.{specs.Coordinates.{AreCoordinates, apart_of, as_gaps}, specs.declared.coordinates.Coordinates.{Coordinates}}

pub gaps_by : {B E : Type 0} (gaps : B → B → Gaps) (coordinates : B → Gaps) → AreCoordinates gaps coordinates → (x y : B) (a b : Gaps) → a ≡ coordinates x → b ≡ coordinates y → (r : Result Coordinates E) → IfOk r (λ c. as_gaps c ≡ apart_of a b) → IfOk r (λ c. as_gaps c ≡ gaps x y)
gaps_by gaps coordinates law x y a b ea eb (Ok c) h = h ∙ ap (λ z. apart_of z b) ea ∙ ap (apart_of (coordinates x)) eb ∙ sym (law x y)
gaps_by gaps coordinates law x y a b ea eb (Err f) h = tt
