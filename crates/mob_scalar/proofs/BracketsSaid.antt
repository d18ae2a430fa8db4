-- The printed texts of brackets, braces, commas and moments are texts of their languages.
use Rattle.std.proofs.Common.{◌≡◌, ℤ, List, [], ◌∷◌, ◌++◌, map, codes, Bool, true, false, cond, Some, refl, sym, append_assoc}
use Rattle.mob_ratio.specs.Ratio.{Ratio}
use Rattle.mob_language.specs.Language.{Text, Language, Separated}
use Rattle.mob_numeral.{specs.Fitting.{fitting}, proofs.Fitted.{fitting_fits}}
use Rattle.mob_scalar.{specs.declared.stamp.Stamp.{Stamp}, specs.Brackets.{comma, opening, closing, within_braces, with_commas, in_braces}, specs.Moment.{moment, instant}}
use Rattle.mob_scalar.{specs.Moments.{moment_value}, specs.MomentText.{moment_text, IsDated}, proofs.MomentAgain.{moment_plain}}

-- ---- printed signs

pub comma_said : comma (codes ", ") tt
comma_said = record {
  meant = ([], (tt, codes " "));
  said = record { front = []; back = codes ", "; whole = refl; first = record { is = refl; each = tt }; second = record { front = codes ","; back = codes " "; whole = refl; first = refl; second = record { is = refl; each = (refl, tt) } } };
  is = refl;
}

pub opening_said : (included : Bool) → opening (cond included (codes "[") (codes "(")) (cond included 91 40)
opening_said true = record { meant = (91, []); said = record { front = codes "["; back = []; whole = refl; first = (refl, refl); second = record { is = refl; each = tt } }; is = refl }
opening_said false = record { meant = (40, []); said = record { front = codes "("; back = []; whole = refl; first = (refl, refl); second = record { is = refl; each = tt } }; is = refl }

pub closing_said : (included : Bool) → closing (cond included (codes "]") (codes ")")) (cond included 93 41)
closing_said true = record { meant = ([], 93); said = record { front = []; back = codes "]"; whole = refl; first = record { is = refl; each = tt }; second = (refl, refl) }; is = refl }
closing_said false = record { meant = ([], 41); said = record { front = []; back = codes ")"; whole = refl; first = record { is = refl; each = tt }; second = (refl, refl) }; is = refl }

-- each value has its printed text in the language
abbrev pub Each : {A X : Type 0} → (Text → A → Type 0) → (X → Text) → (X → A) → List X → Type 0
Each l f g [] = Unit {0}
Each l f g (x ∷ xs) = l (f x) (g x) × Each l f g xs

pub listed_said : {A X : Type 0} (l : Text → A → Type 0) (f : X → Text) (g : X → A) (x : X) (xs : List X) → Each l f g (x ∷ xs) → Separated l comma (with_commas (map f (x ∷ xs))) (map g (x ∷ xs))
listed_said l f g x [] h = h.0
listed_said l f g x (y ∷ ys) h = (f x, codes ", ", with_commas (map f (y ∷ ys)), append_assoc (f x) (codes ", ") (with_commas (map f (y ∷ ys))), h.0, comma_said, listed_said l f g y ys h.1)

pub within_braces_said : {A : Type 0} {l : Language A} (inner : Text) (v : A) → l inner v → within_braces l (in_braces inner) v
within_braces_said inner v h = record {
  meant = ((tt, []), (v, ([], tt)));
  said = record {
    front = codes "{";
    back = inner ++ codes "}";
    whole = append_assoc (codes "{") inner (codes "}");
    first = record { front = codes "{"; back = []; whole = refl; first = refl; second = record { is = refl; each = tt } };
    second = record { front = inner; back = codes "}"; whole = refl; first = h; second = record { front = []; back = codes "}"; whole = refl; first = record { is = refl; each = tt }; second = refl } };
  };
  is = refl;
}

-- ---- printed moments

-- the printed text of a moment is read, and the moment fits
pub record IsMomentSaid (day : ℤ) (t : Ratio) : Type 0 where
  pub stamp : Stamp
  pub said : moment (moment_text day t) stamp
  pub fits : fitting (instant day stamp) ≡ Some t

pub moment_said : (day : ℤ) (t : Ratio) → IsDated day t → IsMomentSaid day t
moment_said day t d =
    let m = moment_plain day t d.fits d.dated in
    record { stamp = m.0; said = m.1; fits = fitting_fits t _ d.fits m.2 }

pub moment_value_said : (day : ℤ) (t : Ratio) → IsDated day t → moment_value day (moment_text day t) (Some t)
moment_value_said day t d =
    let m = moment_said day t d in
    record { meant = m.stamp; said = m.said; is = sym m.fits }
