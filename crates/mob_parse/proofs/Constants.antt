-- If the grammar reads a constant of one token, it is the first token.
use Rattle.std.{proofs.Common.{◌≡◌, ◌∙◌, ℕ, List, [], ◌∷◌, true, false, cond, Ok, Err, refl, sym, ap, subst}, proofs.lemmas.Bool.{eq-eqb}}
use Rattle.mob_ast.{specs.declared.types.Quoted.{Quoted}, specs.declared.types.TypeWord.{TypeWord}, specs.declared.types.Word.{Word}, specs.Trees.{Tree}}
use Rattle.mob_grammar.{specs.declared.mark.Mark.{Mark}, specs.declared.mark.Mark.TheVariants.{Open, Plus, Minus}, specs.Marks.{code, is}}
use Rattle.mob_grammar.specs.Symbols.{Symbol, fixed, name, number, quoted, PlacedSymbol, sign, is_mark, is_name, is_name_symbol, begins, starts, first, rest, unary, leaf}
use Rattle.mob_grammar.specs.Reading.{Answer, TokenReader, ◌>>=◌, primary, mark_primary, mark_at, type_at, name_at, string_at, number_at, literal_at, read}
use Rattle.mob_grammar.{specs.Scripts.{string_form, signed_form, number_form, typed_form, const_form}, proofs.Steps.{token_is}, proofs.Tells.{through}}
use Rattle.mob_parse.{specs.Constants.{constant_leaf_at}, proofs.Mapped.{mapped, after, mapped_after}}
use Rattle.mob_ast.specs.declared.expression.Node.TheVariants as node

-- in an expression, if neither a name nor a bracket comes next
primary_mark : (inner : TokenReader Tree) (g : Mark) (p : ℕ) (l : List PlacedSymbol) → starts Open (record { symbol = fixed g; place = p } ∷ l) ≡ false → primary inner (record { symbol = fixed g; place = p } ∷ l) ≡ constant_leaf_at (record { symbol = fixed g; place = p } ∷ l)
unfolding primary mark_primary constant_leaf_at
primary_mark inner Open p l no_bracket = absurd (cc no_bracket)
primary_mark inner _ p l no_bracket = refl

primary_symbol : (inner : TokenReader Tree) (s : Symbol) (p : ℕ) (l : List PlacedSymbol) → begins is_name (record { symbol = s; place = p } ∷ l) ≡ false → starts Open (record { symbol = s; place = p } ∷ l) ≡ false
    → primary inner (record { symbol = s; place = p } ∷ l) ≡ constant_leaf_at (record { symbol = s; place = p } ∷ l)
unfolding primary constant_leaf_at
primary_symbol inner (fixed g) p l no_name no_bracket = primary_mark inner g p l no_bracket
primary_symbol inner (name n) p l no_name no_bracket = absurd (cc no_name)
primary_symbol inner (number n) p l no_name no_bracket = refl
primary_symbol inner (quoted s) p l no_name no_bracket = refl

pub primary_constant : (inner : TokenReader Tree) (l : List PlacedSymbol) → begins is_name l ≡ false → starts Open l ≡ false → primary inner l ≡ constant_leaf_at l
unfolding primary constant_leaf_at
primary_constant inner [] no_name no_bracket = refl
primary_constant inner (t ∷ l) no_name no_bracket = primary_symbol inner t.symbol t.place l no_name no_bracket

-- in an INSERT, if neither a sign nor a name comes next
const_mark : (g : Mark) (p : ℕ) (l : List PlacedSymbol) → is g Plus ≡ false → is g Minus ≡ false → read const_form (sign g p ∷ l) ≡ constant_leaf_at (sign g p ∷ l)
unfolding read const_form string_form signed_form number_form typed_form mark_at type_at name_at constant_leaf_at
const_mark Plus p l no_plus no_minus = absurd (cc no_plus)
const_mark Minus p l no_plus no_minus = absurd (cc no_minus)
const_mark _ p l no_plus no_minus = refl

const_symbol : (s : Symbol) (p : ℕ) (l : List PlacedSymbol) → is_mark Plus s ≡ false → is_mark Minus s ≡ false → is_name_symbol s ≡ false → read const_form (record { symbol = s; place = p } ∷ l) ≡ constant_leaf_at (record { symbol = s; place = p } ∷ l)
unfolding read const_form string_form signed_form number_form typed_form string_at number_at constant_leaf_at
const_symbol (fixed g) p l no_plus no_minus no_name = const_mark g p l no_plus no_minus
const_symbol (name n) p l no_plus no_minus no_name = absurd (cc no_name)
const_symbol (number n) p l no_plus no_minus no_name = refl
const_symbol (quoted s) p l no_plus no_minus no_name = refl

pub const_constant : (l : List PlacedSymbol) → starts Plus l ≡ false → starts Minus l ≡ false → begins is_name l ≡ false → read const_form l ≡ constant_leaf_at l
unfolding read const_form string_form signed_form number_form typed_form type_at name_at constant_leaf_at
const_constant [] no_plus no_minus no_name = refl
const_constant (t ∷ l) no_plus no_minus no_name = const_symbol t.symbol t.place l no_plus no_minus no_name

-- in an INSERT, if a name comes next
const_name : (s : Symbol) (p : ℕ) (l : List PlacedSymbol) → is_name_symbol s ≡ true → read const_form (record { symbol = s; place = p } ∷ l) ≡ read typed_form (record { symbol = s; place = p } ∷ l)
unfolding read const_form string_form signed_form number_form
const_name (fixed g) p l named = absurd (cc named)
const_name (name n) p l named = refl
const_name (number n) p l named = absurd (cc named)
const_name (quoted s) p l named = absurd (cc named)

pub const_typed : (l : List PlacedSymbol) → begins is_name l ≡ true → read const_form l ≡ read typed_form l
const_typed [] named = absurd (cc named)
const_typed (t ∷ l) named = const_name t.symbol t.place l named

pub typed_read : (l m : List PlacedSymbol) (ty : TypeWord) → type_at l ≡ Ok (ty, m) → read typed_form l ≡ literal_at ty m
unfolding read typed_form literal_at
typed_read l m ty h =
    let made : TypeWord × Quoted → Tree = λ z. leaf (node.Literal z.0 z.1.text) z.1.place in
    ap (λ (a : Answer TypeWord). mapped made (a >>= λ x. after x.0 (string_at x.1))) h ∙ mapped_after made ty (string_at m)

-- in an INSERT, if a sign comes next
pub const_plus : (l : List PlacedSymbol) → starts Plus l ≡ true → read const_form l ≡ read (signed_form Plus) l
unfolding read const_form string_form signed_form number_form
const_plus [] signed = absurd (cc signed)
const_plus (t ∷ l) signed = subst (λ v. read const_form (v ∷ l) ≡ read (signed_form Plus) (v ∷ l)) (sym (token_is Plus t signed)) refl

pub const_minus : (l : List PlacedSymbol) → starts Minus l ≡ true → read const_form l ≡ read (signed_form Minus) l
unfolding read const_form string_form signed_form number_form
const_minus [] signed = absurd (cc signed)
const_minus (t ∷ l) signed = subst (λ v. read const_form (v ∷ l) ≡ read (signed_form Minus) (v ∷ l)) (sym (token_is Minus t signed)) refl

-- a sign and a number
pub signed_read : (m : Mark) (p : ℕ) (l u : List PlacedSymbol) → l ≡ sign m p ∷ u → read (signed_form m) l ≡ mapped (λ (n : Word). unary (sign m p) (leaf (node.Number n.text) n.place)) (number_at u)
unfolding read signed_form mark_at
signed_read m p l u parts =
    let made : ℕ × Word → Tree = λ z. unary (sign m z.0) (leaf (node.Number z.1.text) z.1.place) in
    ap (read (signed_form m)) parts ∙ ap (λ b. mapped made (cond b (Ok (p, u)) (Err (sign m p ∷ u)) >>= λ x. after x.0 (number_at x.1))) (eq-eqb (code m) (code m) refl) ∙ mapped_after made p (number_at u)

-- the tree made of them
pub signed_made : (m : Mark) (p : ℕ) (l u r : List PlacedSymbol) (w : Word) (value whole : Tree) → l ≡ sign m p ∷ u → number_at u ≡ Ok (w, r) → value ≡ leaf (node.Number w.text) w.place → whole ≡ unary (sign m p) value → read (signed_form m) l ≡ Ok (whole, r)
signed_made m p l u r w value whole parts reads made over =
    signed_read m p l u parts ∙ through (number_at u) w r _ reads ∙ ap (λ t. Ok (t, r)) (sym (over ∙ ap (unary (sign m p)) made))

pub signed_stops : (m : Mark) (l : List PlacedSymbol) → starts m l ≡ false → read (signed_form m) l ≡ Err l
unfolding read signed_form mark_at
signed_stops m l none =
    let made : ℕ × Word → Tree = λ z. unary (sign m z.0) (leaf (node.Number z.1.text) z.1.place) in
    ap (λ b. mapped made (cond b (Ok ((first l).place, rest l)) (Err l) >>= λ x. after x.0 (number_at x.1))) none
