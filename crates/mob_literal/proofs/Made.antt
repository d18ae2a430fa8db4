-- The slices of a sequence as a loop makes them.
use Rattle.std.proofs.Common.{◌≡◌, List, [], ◌∷◌, ◌++◌, Bool, true, false, Option, Some, None, refl, ap, ◌∙◌, arith, append_assoc, option_map}
use Rattle.mob_ratio.{specs.Ratio.{Ratio}, specs.Order.{before}, proofs.Order.{before-self}}
use Rattle.mob_span.specs.Span.{has_instant}
use Rattle.mob_slice.{specs.declared.slice.Slice.{Slice}, specs.CourseOf.{CourseOf}}
use Rattle.mob_written.specs.declared.written.Written.{Written}
use Rattle.mob_literal.specs.Slices.{made, stretch, instant_slice, arrives}
use Rattle.mob_scalar.proofs.Traversed.{with_list}

-- if a span without its upper end has an instant, its lower end is before its upper end
pub opens_before : (included : Bool) (a b : Ratio) → has_instant (record { lower = a; upper = b; lower_inc = included; upper_inc = false }) ≡ true → before a b ≡ true
opens_before included a b h = grind (arith, h)

pub point_included : (included : Bool) (a : Ratio) → has_instant (record { lower = a; upper = a; lower_inc = included; upper_inc = true }) ≡ true → included ≡ true
point_included true a h = refl
point_included false a h = grind (arith, h, before-self a)

module _ {C B : Type 0} (course : CourseOf C B) (step : Bool) where
  -- no slice is made yet
  pub made_begins : (slices : List (Slice C)) (lower upper : Bool) (i : Written B) (is all : List (Written B)) → slices ≡ [] → all ≡ i ∷ is → with_list slices (made course step false lower (i ∷ is) upper) ≡ made course step false lower all upper
  made_begins slices lower upper i is all none e = rw (none, e) (same (made course step false lower (i ∷ is) upper))
    where
      same : (o : Option (List (Slice C))) → with_list [] o ≡ o
      same None = refl
      same (Some x) = refl

  -- one more slice
  pub made_more : (front pushed : List (Slice C)) (level next_level lower upper : Bool) (i j : Written B) (is : List (Written B)) → before i.instant j.instant ≡ true → next_level ≡ arrives course step i.value j.value → pushed ≡ front ++ stretch course step lower i j ∷ [] → with_list pushed (made course step next_level true (j ∷ is) upper) ≡ with_list front (made course step level lower (i ∷ j ∷ is) upper)
  made_more front pushed level next_level lower upper i j is h k e = rw (h, k, e) (regroup (made course step (arrives course step i.value j.value) true (j ∷ is) upper))
    where
      regroup : (o : Option (List (Slice C))) → with_list (front ++ stretch course step lower i j ∷ []) o ≡ with_list front (option_map (λ slices. stretch course step lower i j ∷ slices) o)
      regroup None = refl
      regroup (Some slices) = ap (λ (x : List (Slice C)). Some x) (append_assoc front (stretch course step lower i j ∷ []) slices)

  -- the last slice
  pub made_ends : (slices pushed : List (Slice C)) (level included upper : Bool) (last : Written B) → upper ≡ true → included ≡ true → pushed ≡ slices ++ instant_slice course included last ∷ [] → Some pushed ≡ with_list slices (made course step level included (last ∷ []) upper)
  made_ends slices pushed level included upper last u k e = ap (λ (x : List (Slice C)). Some x) e ∙ rw (u, k) refl
