-- The tokens found so far, and the remaining ones.
use Rattle.std.proofs.Common.{◌≡◌, ◌<◌, ◌≤◌, ◌+◌, ◌-◌, ◌∙◌, ℕ, zero, suc, List, [], ◌∷◌, ◌++◌, length, take, drop, length-drop, get_or, Some, None, Result, Ok, Err, refl, sym, ap, arith, append_assoc}
use Rattle.std.proofs.lemmas.List.{drop_more, drop_all, take_all, drop-drop}
use Rattle.mob_chars.{specs.declared.token.TokenKind.{TokenKind}, specs.declared.token.Token.{Token}, specs.Scan.{gap_length}}
use Rattle.mob_chars.specs.Tokens.{token_at, token, end_at, before_others, from_place, tokens_from}

abbrev pub before : List Token → Result (List Token) ℕ → Result (List Token) ℕ
before ts (Ok us) = Ok (ts ++ us)
before ts (Err p) = Err p

pub before_one : (ts : List Token) (t : Token) (r : Result (List Token) ℕ) → before ts (before_others t r) ≡ before (ts ++ t ∷ []) r
before_one ts t (Ok us) = ap Ok (sym (append_assoc ts (t ∷ []) us))
before_one ts t (Err p) = refl

-- skipped bytes
pub passed : (l : List ℕ) (p k : ℕ) → k ≤ length l → tokens_from l p k ≡ tokens_from (drop k l) (p + k) 0
unfolding tokens_from
passed [] p zero h = ap (λ q. tokens_from [] q 0) (omega arith)
passed [] p (suc k) h = absurd (omega arith)
passed (b ∷ l) p zero h = ap (λ q. tokens_from (b ∷ l) q 0) (omega arith)
passed (b ∷ l) p (suc k) h = passed l (p + 1) k (omega arith) ∙ ap (λ q. tokens_from (drop k l) q 0) (omega arith)

gap_first : (b : ℕ) (l : List ℕ) (p g : ℕ) → gap_length (b ∷ l) ≡ suc g → g ≤ length l → tokens_from (b ∷ l) p 0 ≡ tokens_from (drop g l) (p + 1 + g) 0
unfolding tokens_from
gap_first b l p g e h = ap (λ k. from_place (tokens_from l) p k (token_at (b ∷ l))) e ∙ passed l (p + 1) g h

token_first : (b : ℕ) (l : List ℕ) (p n : ℕ) (k : TokenKind) → gap_length (b ∷ l) ≡ 0 → token_at (b ∷ l) ≡ Some (k, suc n) → n ≤ length l
    → tokens_from (b ∷ l) p 0 ≡ before_others (token k p (suc n)) (tokens_from (drop n l) (p + 1 + n) 0)
unfolding tokens_from
token_first b l p n k e f h = ap (λ g. from_place (tokens_from l) p g (token_at (b ∷ l))) e ∙ ap (from_place (tokens_from l) p 0) f
    ∙ ap (λ m. before_others (token k p (suc n)) (tokens_from l (p + 1) m)) (omega arith) ∙ ap (before_others (token k p (suc n))) (passed l (p + 1) n h)

fault_first : (b : ℕ) (l : List ℕ) (p : ℕ) → gap_length (b ∷ l) ≡ 0 → token_at (b ∷ l) ≡ None → tokens_from (b ∷ l) p 0 ≡ Err p
unfolding tokens_from
fault_first b l p e f = ap (λ g. from_place (tokens_from l) p g (token_at (b ∷ l))) e ∙ ap (from_place (tokens_from l) p 0) f

module _ (s : List ℕ) (i : ℕ) (h : i < length s) where
  here : drop i s ≡ get_or s i 0 ∷ drop (i + 1) s
  here = drop_more s i 0 h

  further : (n : ℕ) → 0 < n → i + n ≤ length s → tokens_from (drop (n - 1) (drop (i + 1) s)) (i + 1 + (n - 1)) 0 ≡ tokens_from (drop (i + n) s) (i + n) 0
  further n positive fits = ap (λ q. tokens_from (drop (n - 1) (drop (i + 1) s)) q 0) (omega arith)
      ∙ ap (λ l. tokens_from l (i + n) 0) (drop-drop (n - 1) (i + 1) s ∙ ap (λ q. drop q s) (omega arith))

  pub at_gap : (g : ℕ) → gap_length (drop i s) ≡ g → 0 < g → i + g ≤ length s → tokens_from (drop i s) i 0 ≡ tokens_from (drop (i + g) s) (i + g) 0
  at_gap g e positive fits = ap (λ l. tokens_from l i 0) here
      ∙ gap_first (get_or s i 0) (drop (i + 1) s) i (g - 1) (sym (ap gap_length here) ∙ e ∙ omega arith) (omega (arith, length-drop (i + 1) s))
      ∙ further g positive fits

  pub at_token : (k : TokenKind) (n : ℕ) → gap_length (drop i s) ≡ 0 → token_at (drop i s) ≡ Some (k, n) → 0 < n → i + n ≤ length s
      → tokens_from (drop i s) i 0 ≡ before_others (token k i n) (tokens_from (drop (i + n) s) (i + n) 0)
  at_token k n e f positive fits = ap (λ l. tokens_from l i 0) here
      ∙ token_first (get_or s i 0) (drop (i + 1) s) i (n - 1) k (sym (ap gap_length here) ∙ e) (sym (ap token_at here) ∙ f ∙ ap (λ m. Some (k, m)) (omega arith)) (omega (arith, length-drop (i + 1) s))
      ∙ ap (λ m. before_others (token k i m) (tokens_from (drop (n - 1) (drop (i + 1) s)) (i + 1 + (n - 1)) 0)) (omega arith)
      ∙ ap (before_others (token k i n)) (further n positive fits)

  pub at_fault : gap_length (drop i s) ≡ 0 → token_at (drop i s) ≡ None → tokens_from (drop i s) i 0 ≡ Err i
  at_fault e f = ap (λ l. tokens_from l i 0) here ∙ fault_first (get_or s i 0) (drop (i + 1) s) i (sym (ap gap_length here) ∙ e) (sym (ap token_at here) ∙ f)

pub at_end : (s : List ℕ) (i : ℕ) → length s ≤ i → tokens_from (drop i s) i 0 ≡ Ok (end_at i ∷ [])
unfolding tokens_from
at_end s i h = ap (λ l. tokens_from l i 0) (drop_all i s h)

-- the slice from i to the end
pub slice_from : (s : List ℕ) (i : ℕ) → take (length s - i) (drop i s) ≡ drop i s
slice_from s i = take_all (length s - i) (drop i s) (omega (arith, length-drop i s))
