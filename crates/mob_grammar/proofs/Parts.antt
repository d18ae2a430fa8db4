-- What a form builds has no more nodes, and no other places, than what it is built of.
use Rattle.std.{specs.Prelude.{◌≤◌, ℕ, List, []}, specs.List.{AllByRecursion}}
use Rattle.mob_grammar.{specs.Forms.{Sort, Meaning, Form, built, made, both, behind, ended, choice, either, separated}, specs.Sizes.{sort_size}, specs.Places.{IsWithin, sort_places}}
use Rattle.mob_grammar.specs.Sites.{sort_sites}

-- a property of the places in one list holds for those in the other
abbrev pub Covers : List ℕ → List ℕ → Type 1
Covers us vs = (P : ℕ → Type 0) → AllByRecursion P us → AllByRecursion P vs

abbrev pub IsBuiltOf : (a b : Sort) → Meaning a → Meaning b → Type 1
IsBuiltOf a b x y = (sort_size b y ≤ sort_size a x) × IsWithin (sort_places b y) (sort_places a x) × Covers (sort_sites a x) (sort_sites b y)

abbrev pub KeepsParts : {a : Sort} → Form a → Type 1
KeepsParts (built a v) = (sort_size a v ≤ 0) × IsWithin (sort_places a v) [] × Covers [] (sort_sites a v)
KeepsParts (made {a} {b} h f) = ((x : Meaning a) → IsBuiltOf a b x (h x)) × KeepsParts f
KeepsParts (both f g) = KeepsParts f × KeepsParts g
KeepsParts (behind m f) = KeepsParts f
KeepsParts (ended f m) = KeepsParts f
KeepsParts (choice m f g) = KeepsParts f × KeepsParts g
KeepsParts (either f g) = KeepsParts f × KeepsParts g
KeepsParts (separated m f) = KeepsParts f
KeepsParts _ = Unit {1}
