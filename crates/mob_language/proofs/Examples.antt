-- Worked examples.
use Rattle.std.proofs.Common.{◌≡◌, [], ◌∷◌, Some, None, codes, refl}
use Rattle.mob_language.{specs.Language.{AnyCase, Separated, Word, is_blank, spaced}, specs.Readers.{any_case_at, spaced_at, split_while, all_of}}

any_case : AnyCase (codes "point") (codes "PoInt") tt
any_case = refl

-- the bytes next to the capital letters are no letters
other_bytes : any_case_at (codes "point") (codes "P0INT") ≡ None
other_bytes = refl

two_words : Separated (Word (codes "a")) (Word (codes ",")) (codes "a,a") (tt ∷ tt ∷ [])
two_words = (codes "a", codes ",", codes "a", refl, refl, refl, refl)

blank_run : split_while is_blank (codes " \t\n1 ") ≡ (codes " \t\n", codes "1 ")
blank_run = refl

sign : spaced (codes "@") (codes " @  ") tt
sign = record {
  meant = (codes " ", (tt, codes "  "));
  said = record {
    front = codes " ";
    back = codes "@  ";
    whole = refl;
    first = record { is = refl; each = (refl, tt) };
    second = record { front = codes "@"; back = codes "  "; whole = refl; first = refl; second = record { is = refl; each = (refl, (refl, tt)) } };
  };
  is = refl;
}

sign_read : all_of (spaced_at (codes "@")) (codes " @  ") ≡ Some tt
sign_read = refl
