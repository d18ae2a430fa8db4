-- The places of tokens, proved along the text.
use Rattle.std.specs.Prelude.{IfSome}
use Rattle.std.proofs.Common.{◌≡◌, ◌<◌, ◌≤◌, ◌+◌, ◌-◌, ◌∙◌, ℕ, zero, suc, List, [], ◌∷◌, ◌++◌, length, drop, length-drop, Bool, true, false, cond, Option, Some, None, Result, Ok, Err, refl, sym, ap}
use Rattle.std.proofs.Common.{subst, arith}
use Rattle.mob_chars.{specs.declared.token.TokenKind.{TokenKind}, specs.declared.token.Token.{Token}, specs.Scan.{begins_comment, comment_length, gap_length}}
use Rattle.mob_chars.specs.Tokens.{token_at, token, end_at, before_others, from_place, tokens_from, tokens_of}
use Rattle.mob_chars.{specs.Layout.{Leads, here, blank, comment, next, BeginsNone, InTextOrder, TokensAreLaid, FaultsAreStuck, TokensAreInOrder}, proofs.Sizes.{token_within, gap_upto}}
use Rattle.mob_language.specs.Language.{is_blank}

-- the tokens from a place on lead to the end, or to a place at which none begins
abbrev pub Says : ℕ → List ℕ → Result (List Token) ℕ → Type 0
Says p l (Ok ts) = (all : List Token) × (ts ≡ all ++ end_at (p + length l) ∷ []) × Leads p l all (p + length l) []
Says p l (Err q) = (all : List Token) × (m : List ℕ) × Leads p l all q m × BeginsNone m

blank_leads : (v : Bool) (b : ℕ) (l : List ℕ) (g p q : ℕ) (ts : List Token) (m : List ℕ) → v ≡ is_blank b → cond v 1 0 ≡ suc g → Leads (p + suc g) (drop g l) ts q m → Leads p (b ∷ l) ts q m
blank_leads true b l zero p q ts m is e way = blank (sym is) way
blank_leads true b l (suc g) p q ts m is e way = absurd (omega (arith, e))
blank_leads false b l g p q ts m is e way = absurd (omega (arith, e))

gap_leads : (v : Bool) (b : ℕ) (l : List ℕ) (g p q : ℕ) (ts : List Token) (m : List ℕ) → v ≡ begins_comment (b ∷ l) → cond v (comment_length (b ∷ l)) (cond (is_blank b) 1 0) ≡ suc g
    → Leads (p + suc g) (drop g l) ts q m → Leads p (b ∷ l) ts q m
gap_leads true b l g p q ts m is e way = let P : ℕ → Type 0 = λ n. Leads (p + n) (drop n (b ∷ l)) ts q m in comment (sym is) (subst P (sym e) way)
gap_leads false b l g p q ts m is e way = blank_leads (is_blank b) b l g p q ts m refl e way

-- the same text, its place written in another form
moved : (p q : ℕ) (l : List ℕ) (r : Result (List Token) ℕ) → p ≡ q → Says p l r → Says q l r
moved p q l r e h = let P : ℕ → Type 0 = λ n. Says n l r in subst P e h

after_gap : (b : ℕ) (l : List ℕ) (g p : ℕ) (r : Result (List Token) ℕ) → gap_length (b ∷ l) ≡ suc g → g ≤ length l → Says (p + suc g) (drop g l) r → Says p (b ∷ l) r
after_gap b l g p (Ok ts) e h (all, is, way) =
    let same : p + suc g + length (drop g l) ≡ p + length (b ∷ l) = omega (arith, length-drop g l) in
    (all, is ∙ ap (λ q. all ++ end_at q ∷ []) same, (let P : ℕ → Type 0 = λ q. Leads p (b ∷ l) all q [] in subst P same (gap_leads (begins_comment (b ∷ l)) b l g p (p + suc g + length (drop g l)) all [] refl e way)))
after_gap b l g p (Err q) e h (all, m, way, none) = (all, m, gap_leads (begins_comment (b ∷ l)) b l g p q all m refl e way, none)

after_token : (b : ℕ) (l : List ℕ) (k : TokenKind) (n p : ℕ) (r : Result (List Token) ℕ) → gap_length (b ∷ l) ≡ 0 → token_at (b ∷ l) ≡ Some (k, suc n) → n ≤ length l → Says (p + suc n) (drop n l) r
    → Says p (b ∷ l) (before_others (token k p (suc n)) r)
after_token b l k n p (Ok ts) e f h (all, is, way) =
    let same : p + suc n + length (drop n l) ≡ p + length (b ∷ l) = omega (arith, length-drop n l) in
    (token k p (suc n) ∷ all, ap (λ us. token k p (suc n) ∷ us) (is ∙ ap (λ q. all ++ end_at q ∷ []) same), (let P : ℕ → Type 0 = λ q. Leads p (b ∷ l) (token k p (suc n) ∷ all) q [] in subst P same (next e f way)))
after_token b l k n p (Err q) e f h (all, m, way, none) = (token k p (suc n) ∷ all, m, next e f way, none)

from_here : (b : ℕ) (l : List ℕ) (p g : ℕ) (o : Option (TokenKind × ℕ)) → gap_length (b ∷ l) ≡ g → token_at (b ∷ l) ≡ o → g ≤ length (b ∷ l) → IfSome o (λ x. (0 < x.1) × (x.1 ≤ length (b ∷ l)))
    → ((q k : ℕ) → k ≤ length l → Says (q + k) (drop k l) (tokens_from l q k)) → Says p (b ∷ l) (from_place (tokens_from l) p g o)
from_here b l p (suc g) o e f h w others = after_gap b l g p (tokens_from l (p + 1) g) e (omega arith) (moved (p + 1 + g) (p + suc g) (drop g l) (tokens_from l (p + 1) g) (omega arith) (others (p + 1) g (omega arith)))
from_here b l p zero None e f h w others = ([], b ∷ l, here, record { goes_on = omega arith; no_gap = e; no_token = f })
from_here b l p zero (Some (k, zero)) e f h w others = absurd (omega (arith, w.0))
from_here b l p zero (Some (k, suc n)) e f h w others =
    let one : suc n - 1 ≡ n = omega arith in
    let P : ℕ → Type 0 = λ j. Says p (b ∷ l) (before_others (token k p (suc n)) (tokens_from l (p + 1) j)) in
    subst P (sym one) (after_token b l k n p (tokens_from l (p + 1) n) e f (omega (arith, w.1)) (moved (p + 1 + n) (p + suc n) (drop n l) (tokens_from l (p + 1) n) (omega arith) (others (p + 1) n (omega (arith, w.1)))))

pub says : (l : List ℕ) (p k : ℕ) → k ≤ length l → Says (p + k) (drop k l) (tokens_from l p k)
unfolding tokens_from
says [] p zero h = ([], ap (λ q. end_at q ∷ []) (omega arith), (let P : ℕ → Type 0 = λ q. Leads (p + 0) [] [] q [] in subst P (omega arith) (here {p = p + 0} {l = []})))
says [] p (suc k) h = absurd (omega arith)
says (b ∷ l) p (suc k) h = moved (p + 1 + k) (p + suc k) (drop k l) (tokens_from l (p + 1) k) (omega arith) (says l (p + 1) k (omega arith))
says (b ∷ l) p zero h = moved p (p + 0) (b ∷ l) (tokens_from (b ∷ l) p 0) (omega arith) (from_here b l p (gap_length (b ∷ l)) (token_at (b ∷ l)) refl refl (gap_upto (b ∷ l)) (token_within (b ∷ l)) (says l))

whole : (text : List ℕ) → Says 0 text (tokens_of text)
whole text = says text 0 0 (omega arith)

pub are_laid : TokensAreLaid
are_laid text ts h = let P : Result (List Token) ℕ → Type 0 = Says 0 text in let x : Says 0 text (Ok ts) = subst P h (whole text) in
    let none : 0 + length text ≡ length text = omega arith in
    let Q : ℕ → Type 0 = λ q. Leads 0 text x.0 q [] in
    record { all = x.0; parts = x.1 ∙ ap (λ q. x.0 ++ end_at q ∷ []) none; leads = subst Q none x.2 }

pub are_stuck : FaultsAreStuck
are_stuck text place h = let P : Result (List Token) ℕ → Type 0 = Says 0 text in let x : Says 0 text (Err place) = subst P h (whole text) in
    record { before = x.0; rest = x.1; leads = x.2; none_begins = x.3 }

sooner : (p q e : ℕ) (ts : List Token) → p ≤ q → InTextOrder q e ts → InTextOrder p e ts
sooner p q e [] h k = omega (arith, k)
sooner p q e (t ∷ ts) h k = (omega (arith, k.0), k.1, k.2)

ordered : (p : ℕ) (l : List ℕ) (ts : List Token) (q : ℕ) (m : List ℕ) (us : List Token) (e : ℕ) → Leads p l ts q m → InTextOrder q e us → InTextOrder p e (ts ++ us)
ordered _ _ _ _ _ us e here h = h
ordered p _ ts q m us e (blank {l = l} is way) h = sooner p (p + 1) e (ts ++ us) (omega arith) (ordered (p + 1) l ts q m us e way h)
ordered p l ts q m us e (comment is way) h = sooner p (p + comment_length l) e (ts ++ us) (omega arith) (ordered (p + comment_length l) (drop (comment_length l) l) ts q m us e way h)
ordered p l _ q m us e (next {n = n} {ts = ts} no_gap is way) h = (omega arith, omega arith, ordered (p + n) (drop n l) ts q m us e way h)

pub are_in_order : TokensAreInOrder
are_in_order text ts h =
    let x = are_laid text ts h in
    let P : List Token → Type 0 = InTextOrder 0 (length text) in
    subst P (sym x.parts) (ordered 0 text x.all (length text) [] (end_at (length text) ∷ []) (length text) x.leads (omega arith, omega arith, omega arith))
