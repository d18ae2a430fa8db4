-- Texts of numbers that are not 0, by their digits.
use Rattle.std.{specs.Prelude.{ℕ, Bool, ◌&&◌, ◌||◌, not, nat_eq, nat_le, take_while}, specs.List.{list_any}}
use Rattle.mob_language.specs.Language.{Text, is_exponent_letter}

-- a digit other than 0
abbrev pub is_figure : ℕ → Bool
is_figure c = nat_le 49 c && nat_le c 57

-- a digit other than 0 comes before any exponent letter and any slash
abbrev pub has_figure : Text → Bool
has_figure text = list_any is_figure (take_while (λ c. not (is_exponent_letter c || nat_eq c 47)) text)
