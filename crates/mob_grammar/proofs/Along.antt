-- The literals and rows of a text are at its tokens, in the same order, and all sites of its value
-- are at its tokens: one proof for all forms without `;`.
use Rattle.std.proofs.Common.{◌≡◌, inl, inr, ℕ, List, [], ◌∷◌, ◌++◌, Bool, true, false, cond, refl, sym, subst}
use Rattle.mob_grammar.{specs.declared.mark.Mark.{Mark}, specs.declared.mark.Mark.TheVariants.{Semicolon}, specs.Marks.{is}, specs.Symbols.{PlacedSymbol, sign, identifier, numeral, string}}
use Rattle.mob_grammar.specs.Forms.{single, several, Sort, Meaning, counted, pair, Form, built, mark, a_name, a_number, a_string, a_type, an_expression, a_count_or_expression, made, both, behind}
use Rattle.mob_grammar.{specs.Forms.{ended, choice, either, separated, Derives}, specs.Places.{IsWithin, sort_places}, specs.Sites.{sort_sites}, proofs.Parts.{Covers, KeepsParts}}
use Rattle.mob_grammar.{proofs.Places.{IsInside, IsTokenPlace, Passes, here, by, note, at, join, onto, type_passes, phrase_passes}, proofs.Sets.{both_true, second_alone}, proofs.Within.{within_trans}}

-- no mark of the form is `;`
abbrev pub whole : {a : Sort} → Form a → Bool
whole (mark m) = cond (is m Semicolon) false true
whole (made h f) = whole f
whole (both f g) = cond (whole f) (whole g) false
whole (behind m f) = cond (is m Semicolon) false (whole f)
whole (ended f m) = cond (is m Semicolon) false (whole f)
whole (choice m f g) = cond (is m Semicolon) false (cond (whole f) (whole g) false)
whole (either f g) = cond (whole f) (whole g) false
whole (separated m f) = cond (is m Semicolon) false (whole f)
whole _ = true

-- a text passes the places of its value
abbrev pub Along : {a : Sort} → Form a → Type 0
Along {a} f = (l : List PlacedSymbol) (x : Meaning a) (r : List PlacedSymbol) → Derives f l x r → Passes l (sort_places a x) (sort_sites a x) r

fewer : {l r : List PlacedSymbol} (ps ps' qs qs' : List ℕ) → IsWithin ps' ps → Covers qs qs' → Passes l ps qs r → Passes l ps' qs' r
fewer ps ps' qs qs' h on w = record { own = w.own; parts = w.parts; whole = w.whole; places = within_trans h w.places; sites = on (IsTokenPlace w.own) w.sites }

-- a stretch ends, skips a token, has a site at it, or has a place and a site at it
over : {l r : List PlacedSymbol} → l ≡ r → Passes l [] [] r
over {l} z = subst (Passes l [] []) z here

past : {l m r : List PlacedSymbol} {ps qs : List ℕ} (t : PlacedSymbol) → l ≡ t ∷ m → IsInside t → Passes m ps qs r → Passes l ps qs r
past {l} {m} {r} {ps} {qs} t e i d = subst (λ k. Passes k ps qs r) (sym e) (by i d)

site : {l m r : List PlacedSymbol} {ps qs : List ℕ} (t : PlacedSymbol) → l ≡ t ∷ m → IsInside t → Passes m ps qs r → Passes l ps (t.place ∷ qs) r
site {l} {m} {r} {ps} {qs} t e i d = subst (λ k. Passes k ps (t.place ∷ qs) r) (sym e) (note i d)

stand : {l m r : List PlacedSymbol} {ps qs : List ℕ} (t : PlacedSymbol) → l ≡ t ∷ m → IsInside t → Passes m ps qs r → Passes l (t.place ∷ ps) (t.place ∷ qs) r
stand {l} {m} {r} {ps} {qs} t e i d = subst (λ k. Passes k (t.place ∷ ps) (t.place ∷ qs) r) (sym e) (at i d)

along_list : {a : Sort} (m : Mark) → ((p : ℕ) → IsInside (sign m p)) → (f : Form a) → Along f → Along (separated m f)
along_list m inside f one l _ r (single {x = x} d) = join (one l x r d) here
along_list m inside f one l _ r (several {u = u} {x = x} {xs = xs} {p = p} d ds) = join (one l x (sign m p ∷ u) d) (by (inside p) (along_list m inside f one u xs r ds))

pub form_along : {a : Sort} (f : Form a) → whole f ≡ true → KeepsParts f → Along f
form_along (built a v) h k l x r d = subst (λ z. Passes l (sort_places a z) (sort_sites a z) r) (sym d.0) (fewer [] (sort_places a v) [] (sort_sites a v) k.1 k.2 (over d.1))
form_along (mark m) h k l p r d = stand (sign m p) d (second_alone (is m Semicolon) true h).0 (over refl)
form_along a_name h k l w r d = stand (identifier w.text w.place) d refl (over refl)
form_along a_number h k l w r d = stand (numeral w.text w.place) d refl (over refl)
form_along a_string h k l s r d = stand (string s.text s.place) d refl (over refl)
form_along a_type h k l t r d = type_passes d
form_along an_expression h k l e r d = phrase_passes d
form_along a_count_or_expression h k l x r (inl (p, m, e, (q, n, f, (o, i, g, (c, v, j, (y, z)))))) =
    subst (λ u. Passes l (sort_places counted u) (sort_sites counted u) r) (sym y) (site _ e refl (past _ f refl (past _ g refl (past _ j refl (over z)))))
form_along a_count_or_expression h k l x r (inr (e, m, d, (y, z))) = subst (λ u. Passes l (sort_places counted u) (sort_sites counted u) r) (sym y) (onto (phrase_passes d) (over z))
form_along (made {a} {b} g f) h k l y r (x, m, d, (e, w)) =
    subst (λ z. Passes l (sort_places b z) (sort_sites b z) r) (sym e) (subst (λ z. Passes l (sort_places b (g x)) (sort_sites b (g x)) z) w
    (fewer (sort_places a x) (sort_places b (g x)) (sort_sites a x) (sort_sites b (g x)) (k.0 x).1 (k.0 x).2 (form_along f h k.1 l x m d)))
form_along (both {a} {b} f g) h k l z r (x, m, d, (y, n, e, (v, w))) =
    let t = both_true (whole f) (whole g) h in
    subst (λ u. Passes l (sort_places (pair a b) u) (sort_sites (pair a b) u) r) (sym v) (subst (λ u. Passes l (sort_places a x ++ sort_places b y) (sort_sites a x ++ sort_sites b y) u) w (join (form_along f t.0 k.0 l x m d) (form_along g t.1 k.1 m y n e)))
form_along (behind m f) h k l x r (p, u, e, d) = let t = second_alone (is m Semicolon) (whole f) h in past (sign m p) e t.0 (form_along f t.1 k u x r d)
form_along (ended {a} f m) h k l x r (y, u, d, (p, v, e, (w, z))) =
    let t = second_alone (is m Semicolon) (whole f) h in
    subst (λ q. Passes l (sort_places a q) (sort_sites a q) r) (sym w) (onto (form_along f t.1 k l y u d) (past (sign m p) e t.0 (over z)))
form_along (choice m f g) h k l x r (inl (p, u, e, d)) = let t = second_alone (is m Semicolon) _ h in past (sign m p) e t.0 (form_along f (both_true (whole f) (whole g) t.1).0 k.0 u x r d)
form_along (choice m f g) h k l x r (inr d) = let t = second_alone (is m Semicolon) _ h in form_along g (both_true (whole f) (whole g) t.1).1 k.1 l x r d
form_along (either f g) h k l x r (inl d) = form_along f (both_true (whole f) (whole g) h).0 k.0 l x r d
form_along (either f g) h k l x r (inr d) = form_along g (both_true (whole f) (whole g) h).1 k.1 l x r d
form_along (separated {a} m f) h k l xs r d = let t = second_alone (is m Semicolon) (whole f) h in along_list m (λ p. t.0) f (form_along f t.1 k) l xs r d
