-- Whether a digit other than 0 comes before the byte that ends the digits, byte by byte.
use Rattle.std.{specs.Prelude.{take_while}, specs.List.{list_any}, proofs.Common.{◌≡◌, ◌∙◌, refl, ap, ℕ, ◌==◌, List, [], ◌∷◌, Bool, true, false, ◌||◌, not, cond}}
use Rattle.std.proofs.lemmas.List.Sums.{take_while-cons}
use Rattle.mob_language.{specs.Language.{is_exponent_letter}, specs.NonZero.{is_figure, has_figure}}

abbrev ends : ℕ → Bool
ends b = is_exponent_letter b || b == 47

abbrev seen : Bool → ℕ → List ℕ → Bool
seen e b bs = cond e false (is_figure b || has_figure bs)

next : (b : ℕ) (bs : List ℕ) → has_figure (b ∷ bs) ≡ seen (ends b) b bs
next b bs = ap (list_any is_figure) (take_while-cons (λ c. not (ends c)) b bs) ∙ by (ends b)
  where
    by : (e : Bool) → list_any is_figure (cond (not e) (b ∷ take_while (λ c. not (ends c)) bs) []) ≡ seen e b bs
    by true = refl
    by false = refl

pub no_figure : has_figure [] ≡ false
no_figure = refl

pub figures_end : (b : ℕ) (bs : List ℕ) → ends b ≡ true → has_figure (b ∷ bs) ≡ false
figures_end b bs h = next b bs ∙ ap (λ e. seen e b bs) h

pub figure_first : (b : ℕ) (bs : List ℕ) → ends b ≡ false → is_figure b ≡ true → has_figure (b ∷ bs) ≡ true
figure_first b bs h f = next b bs ∙ ap (λ e. seen e b bs) h ∙ ap (λ e. e || has_figure bs) f

pub figure_later : (b : ℕ) (bs : List ℕ) → ends b ≡ false → is_figure b ≡ false → has_figure (b ∷ bs) ≡ has_figure bs
figure_later b bs h f = next b bs ∙ ap (λ e. seen e b bs) h ∙ ap (λ e. e || has_figure bs) f
