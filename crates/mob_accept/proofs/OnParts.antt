-- What holds for the elements of a list holds for those of a list within it.
use Rattle.std.{specs.List.{AllByRecursion}, proofs.Common.{List}}
use Rattle.mob_typed.specs.Written.{Rises}
use Rattle.mob_grammar.specs.Places.{IsWithin, nothing, other, same}

pub all_within : {A : Type 0} (P : A → Type 0) {xs ys : List A} → IsWithin xs ys → AllByRecursion P ys → AllByRecursion P xs
all_within P nothing h = tt
all_within P (other w) h = all_within P w h.1
all_within P (same w) h = (h.0, all_within P w h.1)

pub rises_within : {A : Type 0} (R : A → A → Type 0) {xs ys : List A} → IsWithin xs ys → Rises R ys → Rises R xs
rises_within R nothing h = tt
rises_within R (other w) h = rises_within R w h.1
rises_within R (same {x = x} w) h = (all_within (R x) w h.0, rises_within R w h.1)
