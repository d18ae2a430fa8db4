-- The numbers of a line at an instant, where they are held and where they are computed.
use Rattle.std.specs.Prelude.{◌≡◌, true, false, List, [], ◌∷◌, ◌++◌, Result, refl}
use Rattle.std.proofs.Common.{ap, sym, subst, ◌∙◌}
use Rattle.mob_ratio.{specs.Ratio.{Ratio}, specs.Order.{before, same}, specs.Line.{line_at}, proofs.LineAt.{line_at-short, line_at-lower, line_at-upper, line_at-level}, proofs.Order.{same_exact}}
use Rattle.mob_frac.{specs.Formula.{AllFit}, proofs.Fitting.{all_first, all_second}}
use Rattle.mob_list.{specs.declared.fault.Fault.{Fault}, specs.declared.fault.Fault.TheVariants.{Because, NoMemory}}
use Rattle.mob_slice.{specs.Entries.{IsMadeBy, IsPartFault}, specs.Numbers.{line_numbers}, specs.declared.formula.Formula.{Formula}, specs.declared.formula.Formula.TheVariants.{Given}}

module _ (x0 x1 l u t : Ratio) where
  -- a number that is held
  pub held_short : before l u ≡ false → (x0 ≡ line_at x0 x1 l u t) × AllFit (line_numbers x0 x1 l u t)
  held_short h = (sym (line_at-short x0 x1 l u t h), rw h tt)

  pub held_first : before l u ≡ true → same t l ≡ true → (x0 ≡ line_at x0 x1 l u t) × AllFit (line_numbers x0 x1 l u t)
  held_first h e = (sym (ap (λ z. line_at x0 x1 l u z) ((same_exact t l).0 e) ∙ line_at-lower x0 x1 l u), rw (h, e) tt)

  pub held_last : before l u ≡ true → same t l ≡ false → same t u ≡ true → (x1 ≡ line_at x0 x1 l u t) × AllFit (line_numbers x0 x1 l u t)
  held_last h a e = (sym (ap (λ z. line_at x0 x1 l u z) ((same_exact t u).0 e) ∙ line_at-upper x0 x1 l u h), rw (h, a, e) tt)

  pub held_level : before l u ≡ true → same t l ≡ false → same t u ≡ false → same x0 x1 ≡ true → (x0 ≡ line_at x0 x1 l u t) × AllFit (line_numbers x0 x1 l u t)
  held_level h a b e = (sym (ap (λ z. line_at x0 z l u t) (sym ((same_exact x0 x1).0 e)) ∙ line_at-level x0 l u t), rw (h, a, b, e) tt)

  one_number : before l u ≡ true → same t l ≡ false → same t u ≡ false → same x0 x1 ≡ false → line_numbers x0 x1 l u t ≡ line_at x0 x1 l u t ∷ []
  one_number h a b e = rw (h, a, b, e) refl

  -- one that is computed
  pub computed : (n : Ratio) (r : Result Ratio (Fault Formula)) → before l u ≡ true → same t l ≡ false → same t u ≡ false → same x0 x1 ≡ false → n ≡ line_at x0 x1 l u t → IsMadeBy Given (n ∷ []) (λ v. v ≡ n) r → IsMadeBy Given (line_numbers x0 x1 l u t) (λ v. v ≡ line_at x0 x1 l u t) r
  computed n r h a b e is m = subst (λ z. IsMadeBy Given z (λ v. v ≡ line_at x0 x1 l u t) r) (sym (one_number h a b e)) (subst (λ z. IsMadeBy Given (z ∷ []) (λ v. v ≡ z) r) is m)

-- the fault of one of two coordinates
pub front_fails : (xs ys : List Ratio) (f : Fault Formula) → IsPartFault Given xs f → IsPartFault Given (xs ++ ys) f
front_fails xs ys (Because g) h = (h.0, λ all. h.1 (all_first xs ys all))
front_fails xs ys NoMemory h = tt

pub back_fails : (xs ys : List Ratio) (f : Fault Formula) → IsPartFault Given ys f → IsPartFault Given (xs ++ ys) f
back_fails xs ys (Because g) h = (h.0, λ all. h.1 (all_second xs ys all))
back_fails xs ys NoMemory h = tt
