-- Each form that fits is read: one proof for all productions. It fits if one token tells at each
-- place which way to go on.
use Rattle.std.proofs.Common.{◌≡◌, ◌⊎◌, inl, inr, List, [], ◌∷◌, Bool, true, false, cond, Ok, refl, sym, ap, subst, ◌∙◌}
use Rattle.mob_grammar.specs.declared.mark.Mark.TheVariants.{Open}
use Rattle.mob_grammar.specs.TokenKinds.{TokenKinds, of_mark, names, no_kind, only_kind, only_mark, ◌∪◌, where_so, apart, expression_heads, expression_continues}
use Rattle.mob_grammar.{specs.Symbols.{PlacedSymbol, sign, among, begins, starts}, specs.Expressions.{disjunction}}
use Rattle.mob_grammar.specs.Forms.{Builds, ◌⇒◌, ◌▸◌, single, several, Sort, Meaning, Form, built, mark, a_name, a_number, a_string, a_type, an_expression, a_count_or_expression, made, both, behind}
use Rattle.mob_grammar.{specs.Forms.{ended, choice, either, separated, Derives}, specs.Reading.{◌>>=◌, closed, nullable, heads, read}, proofs.Complete.{Stops}}
use Rattle.mob_grammar.{proofs.Heads.{not_this, begins_mark, type_begins, phrase_begins, loose_symbol}, proofs.Counts.{read_counted}}
use Rattle.mob_grammar.proofs.ReadRules.{IsRead, NoOpen, built_keeps, read_behind, read_built, read_closed, read_either, read_expression, read_if, read_list, read_mark, read_name, read_number}
use Rattle.mob_grammar.proofs.ReadRules.{read_string, read_then, read_type, read_weaker}
use Rattle.mob_grammar.proofs.Sets.{both_true, not_true, one_right, begins_left, begins_right, not_left, not_right, begins_where, not_where, apart_begins}

-- what can continue a text of the form
abbrev pub continues : {a : Sort} → Form a → TokenKinds
continues a_type = only_mark Open
continues an_expression = expression_continues
continues a_count_or_expression = expression_continues
continues (made h f) = continues f
continues (both f g) = continues g ∪ where_so (nullable g) (continues f)
continues (behind m f) = continues f
continues (choice m f g) = continues f ∪ continues g ∪ where_so (nullable g) (only_mark m)
continues (either f g) = continues f ∪ continues g ∪ where_so (nullable g) (heads f)
continues (separated m f) = continues f ∪ only_mark m
continues _ = no_kind

-- one token tells each form from what else could follow there
abbrev pub fits : {a : Sort} → Form a → Bool
fits (made h f) = fits f
fits (both f g) = cond (fits f) (cond (fits g) (apart (continues f) (heads g)) false) false
fits (behind m f) = fits f
fits (ended f m) = cond (fits f) (cond (continues f (of_mark m)) false true) false
fits (choice m f g) = cond (fits f) (cond (fits g) (cond (heads g (of_mark m)) false true) false) false
fits (either f g) = cond (fits f) (cond (fits g) (cond (nullable f) false (apart (heads f) (heads g))) false) false
fits (separated m f) = cond (fits f) (cond (continues f (of_mark m)) false true) false
fits _ = true

-- what may follow a text
abbrev pub Stop : {a : Sort} → Form a → List PlacedSymbol → Type 0
Stop f r = begins (among (continues f)) r ≡ false

expression_stops : (r : List PlacedSymbol) → begins (among expression_continues) r ≡ false → Stops disjunction r
expression_stops [] h = tt
expression_stops (t ∷ r) h = loose_symbol t.symbol h

-- a text begins with one of the heads, or has no token
abbrev pub Begun : {a : Sort} → Form a → List PlacedSymbol → List PlacedSymbol → Type 0
Begun f l r = (begins (among (heads f)) l ≡ true) ⊎ ((nullable f ≡ true) × (l ≡ r))

pub begun : {a : Sort} (f : Form a) (l : List PlacedSymbol) (x : Meaning a) (r : List PlacedSymbol) → Derives f l x r → Begun f l r
begun (built a v) l y r d = inr (refl, d.1)
begun (mark m) l y r d = inl (begins_mark m d)
begun a_name l y r d = inl (ap (begins (among (only_kind names))) d)
begun a_number l y r d = inl (ap (begins (among (heads a_number))) d)
begun a_string l y r d = inl (ap (begins (among (heads a_string))) d)
begun a_type l y r d = inl (type_begins d)
begun an_expression l y r d = inl (phrase_begins d)
begun a_count_or_expression l y r (inl d) = inl (ap (begins (among expression_heads)) d.2)
begun a_count_or_expression l y r (inr d) = inl (phrase_begins d.2)
begun (made h f) l y r (x, m, d, (v, e)) = elim (begun f l x m d) [ inl b ↦ inl b | inr b ↦ inr (b.0, b.1 ∙ e) ]
begun (both f g) l z r (x, m, d, (y, n, e, (v, w))) = elim (begun f l x m d) [
  | inl b ↦ inl (begins_left (heads f) (where_so (nullable f) (heads g)) l b)
  | inr b ↦ elim (begun g m y n e) [
    | inl c ↦ inl (begins_right (heads f) (where_so (nullable f) (heads g)) l (begins_where (nullable f) (heads g) l b.0 (ap (begins (among (heads g))) b.1 ∙ c)))
    | inr c ↦ inr (ap (λ z. cond z (nullable g) false) b.0 ∙ c.0, b.1 ∙ c.1 ∙ w)
  ]
]
begun (behind m f) l y r (p, u, e, d) = inl (begins_mark m e)
begun (ended f m) l y r (x, u, d, (p, v, e, w)) = elim (begun f l x u d) [
  | inl b ↦ inl (begins_left (heads f) (where_so (nullable f) (only_mark m)) l b)
  | inr b ↦ inl (begins_right (heads f) (where_so (nullable f) (only_mark m)) l (begins_where (nullable f) (only_mark m) l b.0 (begins_mark m (b.1 ∙ e))))
]
begun (choice m f g) l y r (inl (p, u, e, d)) = inl (begins_left (only_mark m) (heads g) l (begins_mark m e))
begun (choice m f g) l y r (inr d) = elim (begun g l y r d) [ inl b ↦ inl (begins_right (only_mark m) (heads g) l b) | inr b ↦ inr b ]
begun (either f g) l y r (inl d) = elim (begun f l y r d) [ inl b ↦ inl (begins_left (heads f) (heads g) l b) | inr b ↦ inr (ap (λ z. cond z true (nullable g)) b.0, b.1) ]
begun (either f g) l y r (inr d) = elim (begun g l y r d) [ inl b ↦ inl (begins_right (heads f) (heads g) l b) | inr b ↦ inr (one_right (nullable f) (nullable g) b.0, b.1) ]
begun (separated m f) l _ r (single {x = x} d) = elim (begun f l x r d) [ inl b ↦ inl (begins_left (heads f) (where_so (nullable f) (only_mark m)) l b) | inr b ↦ inr b ]
begun (separated m f) l _ r (several {u = u} {x = x} {p = p} d ds) = elim (begun f l x (sign m p ∷ u) d) [
  | inl b ↦ inl (begins_left (heads f) (where_so (nullable f) (only_mark m)) l b)
  | inr b ↦ inl (begins_right (heads f) (where_so (nullable f) (only_mark m)) l (begins_where (nullable f) (only_mark m) l b.0 (begins_mark m b.1)))
]

-- what follows a text of f in a text of both does not continue it
follows : {a b : Sort} (f : Form a) (g : Form b) → apart (continues f) (heads g) ≡ true → (l : List PlacedSymbol) (y : Meaning b) (m r : List PlacedSymbol) → Derives g l y m → m ≡ r → Stop (both f g) r → Stop f l
follows f g h l y m r d e stop = elim (begun g l y m d) [
  | inl b ↦ apart_begins (continues f) (heads g) h l b
  | inr b ↦ subst (λ v. begins (among (continues f)) v ≡ false) (sym (b.1 ∙ e)) (not_where (nullable g) (continues f) r b.0 (not_right (continues g) (where_so (nullable g) (continues f)) r stop))
]

-- the reader of a form that fits is lawful, and reads each text of the form that nothing continues
pub form_read : {a : Sort} (f : Form a) → fits f ≡ true → IsRead (Derives f) (read f) (Stop f)
unfolding read
form_read (built a v) h = read_built (Stop (built a v)) v
form_read (mark m) h = read_mark (Stop (mark m)) m
form_read a_name h = read_name (Stop a_name)
form_read a_number h = read_number (Stop a_number)
form_read a_string h = read_string (Stop a_string)
form_read a_type h = read_weaker _ _ NoOpen (Stop a_type) read_type (λ r k. k)
form_read an_expression h = read_weaker _ _ (Stops disjunction) (Stop an_expression) read_expression expression_stops
form_read a_count_or_expression h = read_weaker _ _ (Stops disjunction) (Stop a_count_or_expression) read_counted expression_stops
form_read (made b f) h = read_then (Derives f) (λ x. Builds (b x)) (read f) (λ x l. Ok (b x, l)) (Stop f) (Stop f) (form_read f h) (λ x. read_built (Stop f) (b x)) (λ x l y r d k. built_keeps (Stop f) d k)
form_read (both f g) h =
    let k = both_true (fits f) _ h in
    let m = both_true (fits g) _ k.1 in
    let S = Stop (both f g) in
    read_then (Derives f) (λ x. Derives g ⇒ λ y. Builds (x, y)) (read f) (λ x l. read g l >>= λ y. Ok ((x, y.0), y.1)) (Stop f) S (form_read f k.0)
    (λ x. read_then (Derives g) (λ y. Builds (x, y)) (read g) (λ y l. Ok ((x, y), l)) (Stop g) S (form_read g m.0) (λ y. read_built S (x, y)) (λ y l z r d s. not_left (continues g) (where_so (nullable g) (continues f)) l (built_keeps S d s)))
    (λ x l z r d s. follows f g m.1 l d.0 d.1 r d.2 d.3.1 s)
form_read (behind m f) h = read_behind (Stop f) m (Derives f) (read f) (form_read f h)
form_read (ended f m) h =
    let k = both_true (fits f) _ h in
    let S = Stop (ended f m) in
    read_then (Derives f) (λ x. m ▸ Builds x) (read f) (λ x. closed m x) (Stop f) S (form_read f k.0) (λ x. read_closed S m x)
    (λ x l y r d s. subst (λ v. begins (among (continues f)) v ≡ false) (sym d.2) (not_true _ k.1))
form_read (choice m f g) h =
    let k = both_true (fits f) _ h in
    let n = both_true (fits g) _ k.1 in
    let S = Stop (choice m f g) in
    read_if S m (Derives f) (Derives g) (read f) (read g)
    (read_weaker (Derives f) (read f) (Stop f) S (form_read f k.0) (λ r s. not_left (continues f) (continues g) r (not_left (continues f ∪ continues g) (where_so (nullable g) (only_mark m)) r s)))
    (read_weaker (Derives g) (read g) (Stop g) S (form_read g n.0) (λ r s. not_right (continues f) (continues g) r (not_left (continues f ∪ continues g) (where_so (nullable g) (only_mark m)) r s)))
    (λ l y r d s. elim (begun g l y r d) [
      | inl b ↦ not_this m (heads g) (not_true _ n.1) l b
      | inr b ↦ ap (starts m) b.1 ∙ not_where (nullable g) (only_mark m) r b.0 (not_right (continues f ∪ continues g) (where_so (nullable g) (only_mark m)) r s)
    ])
form_read (either f g) h =
    let k = both_true (fits f) _ h in
    let n = both_true (fits g) _ k.1 in
    let S = Stop (either f g) in
    read_either S (among (heads f)) (Derives f) (Derives g) (read f) (read g)
    (read_weaker (Derives f) (read f) (Stop f) S (form_read f k.0) (λ r s. not_left (continues f) (continues g) r (not_left (continues f ∪ continues g) (where_so (nullable g) (heads f)) r s)))
    (read_weaker (Derives g) (read g) (Stop g) S (form_read g n.0) (λ r s. not_right (continues f) (continues g) r (not_left (continues f ∪ continues g) (where_so (nullable g) (heads f)) r s)))
    (λ l y r d s. elim (begun f l y r d) [ inl b ↦ b | inr b ↦ absurd (no_null (nullable f) _ n.1 b.0) ])
    (λ l y r d s. elim (begun g l y r d) [
      | inl b ↦ apart_begins (heads f) (heads g) (null_apart (nullable f) _ n.1) l b
      | inr b ↦ ap (begins (among (heads f))) b.1 ∙ not_where (nullable g) (heads f) r b.0 (not_right (continues f ∪ continues g) (where_so (nullable g) (heads f)) r s)
    ]) where
      no_null : (b c : Bool) → cond b false c ≡ true → b ≡ true → ⊥
      no_null true c h e = cc h
      no_null false c h e = cc e

      null_apart : (b c : Bool) → cond b false c ≡ true → c ≡ true
      null_apart true c h = absurd (cc h)
      null_apart false c h = h
form_read (separated m f) h =
    let k = both_true (fits f) _ h in
    let S = Stop (separated m f) in
    read_list S (Stop f) m (Derives f) (read f) (form_read f k.0) (λ p u. not_true _ k.1) (λ r s. not_left (continues f) (only_mark m) r s) (λ r s. not_right (continues f) (only_mark m) r s)
