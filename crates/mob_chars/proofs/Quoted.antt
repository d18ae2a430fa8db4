-- Strings, a byte at a time.
use Rattle.std.specs.Prelude.{option_map, ◌==◌}
use Rattle.std.proofs.Common.{◌≡◌, ◌≢◌, ◌<◌, ◌+◌, ◌∙◌, ℕ, List, [], ◌∷◌, length, drop, get_or, false, cond, Option, Some, None, refl, sym, ap, arith, add_assoc, inl, inr}
use Rattle.std.{proofs.lemmas.List.{drop_more}, proofs.lemmas.Bool.Decides.{eqb_tells}}
use Rattle.mob_chars.specs.Scan.{quoted_length}

unequal : (b k : ℕ) → b ≢ k → (b == k) ≡ false
unequal b k h = elim (eqb_tells b k) [ inl p ↦ absurd (h p.1) | inr p ↦ p.0 ]

plain : (b : ℕ) (l : List ℕ) → b ≢ 39 → quoted_length (b ∷ l) ≡ option_map (λ n. 1 + n) (quoted_length l)
plain b [] h = ap (λ v. cond v (Some 1) None) (unequal b 39 h)
plain b (c ∷ l) h = ap (λ v. cond v (cond (c == 39) (option_map (λ n. 2 + n) (quoted_length l)) (Some 1)) (option_map (λ n. 1 + n) (quoted_length (c ∷ l)))) (unequal b 39 h)

further : (i k : ℕ) (o : Option ℕ) → option_map (λ n. i + n) (option_map (λ n. k + n) o) ≡ option_map (λ n. (i + k) + n) o
further i k None = refl
further i k (Some n) = ap Some (sym (add_assoc i k n))

pub plain_at : (s : List ℕ) (i : ℕ) → i < length s → get_or s i 0 ≢ 39 → option_map (λ n. i + n) (quoted_length (drop i s)) ≡ option_map (λ n. (i + 1) + n) (quoted_length (drop (i + 1) s))
plain_at s i h b = ap (λ l. option_map (λ n. i + n) (quoted_length l)) (drop_more s i 0 h) ∙ ap (option_map (λ n. i + n)) (plain (get_or s i 0) (drop (i + 1) s) b) ∙ further i 1 (quoted_length (drop (i + 1) s))

pub doubled_at : (s : List ℕ) (i : ℕ) → i + 1 < length s → get_or s i 0 ≡ 39 → get_or s (i + 1) 0 ≡ 39 → option_map (λ n. i + n) (quoted_length (drop i s)) ≡ option_map (λ n. (i + 2) + n) (quoted_length (drop (i + 2) s))
doubled_at s i h b c =
    let two : drop i s ≡ get_or s i 0 ∷ get_or s (i + 1) 0 ∷ drop ((i + 1) + 1) s = drop_more s i 0 (omega arith) ∙ ap (λ l. get_or s i 0 ∷ l) (drop_more s (i + 1) 0 h) in
    ap (λ l. option_map (λ n. i + n) (quoted_length l)) (two ∙ ap (λ x. x ∷ get_or s (i + 1) 0 ∷ drop ((i + 1) + 1) s) b ∙ ap (λ x. 39 ∷ x ∷ drop ((i + 1) + 1) s) c)
    ∙ further i 2 (quoted_length (drop ((i + 1) + 1) s)) ∙ ap (λ j. option_map (λ n. (i + 2) + n) (quoted_length (drop j s))) (add_assoc i 1 1)
