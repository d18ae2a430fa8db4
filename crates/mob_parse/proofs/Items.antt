-- An item is read by its first tokens, and a column of GROUP BY by the token after its name.
use Rattle.std.proofs.Common.{◌≡◌, ◌∙◌, ◌⊎◌, inl, inr, ℕ, List, [], ◌∷◌, Bool, true, false, cond, Option, Some, None, Ok, Err, refl, sym, ap}
use Rattle.mob_ast.{specs.declared.types.Word.{Word}, specs.Trees.{Tree, ItemParts, every, one, count_all}}
use Rattle.mob_grammar.specs.declared.mark.Mark.TheVariants.{Times, Dot, Close}
use Rattle.mob_grammar.specs.Symbols.{Symbol, fixed, name, number, quoted, PlacedSymbol, sign, is_mark, is_sign, is_count, is_count_symbol, counts_all, first, rest, begins, starts}
use Rattle.mob_grammar.specs.Reading.{Answer, ◌>>=◌, behind_mark, if_mark, closed, mark_at, name_at, column_at, counted_at, expression_at, read}
use Rattle.mob_grammar.{specs.Scripts.{some_name_form, alias_form, named_item, item_form, column_leaf, group_column_form}, proofs.Sets.{both_true}, proofs.Steps.{chosen, passed}}
use Rattle.mob_parse.{specs.Items.{count_form, one_form}, proofs.Mapped.{mapped, after, mapped_after, mapped_twice}}

pub item_every : (l u : List PlacedSymbol) (p : ℕ) → l ≡ sign Times p ∷ u → read item_form l ≡ Ok (every p, u)
unfolding read item_form mark_at
item_every l u p e = ap (read item_form) e

-- an item that is not `*`
abbrev value_at : Answer (ℕ ⊎ Tree) → Answer ItemParts
value_at c = mapped named_item (c >>= λ v. after v.0 (read alias_form v.1))

not_every : (l : List PlacedSymbol) → starts Times l ≡ false → read item_form l ≡ value_at (counted_at l)
unfolding read item_form
not_every l h = passed (starts Times l) _ _ h

count_closed : (p : ℕ) (m : List PlacedSymbol) (b : Bool) → value_at (cond b (Ok (inl p, rest m)) (Err m)) ≡ mapped (count_all p) (cond b (read alias_form (rest m)) (Err m))
count_closed p m true = mapped_after named_item (inl p) (read alias_form (rest m))
count_closed p m false = refl

count_end : (p : ℕ) (m : List PlacedSymbol) → value_at (closed Close (inl p) m) ≡ read (count_form p) m
unfolding read count_form closed behind_mark
count_end p m = count_closed p m (starts Close m)

no_star : (x : Symbol) → is_count_symbol x ≡ true → is_mark Times x ≡ false
no_star (fixed g) h = absurd (cc h)
no_star (name n) h = refl
no_star (number n) h = absurd (cc h)
no_star (quoted s) h = absurd (cc h)

counts_no_star : (l : List PlacedSymbol) → counts_all l ≡ true → starts Times l ≡ false
counts_no_star [] h = refl
counts_no_star (t ∷ l) h = no_star t.symbol (both_true (is_count t) _ h).0

pub item_count : (l : List PlacedSymbol) → counts_all l ≡ true → read item_form l ≡ read (count_form (first l).place) (rest (rest (rest l)))
unfolding counted_at
item_count l h = not_every l (counts_no_star l h) ∙ ap value_at (chosen (counts_all l) _ _ h) ∙ count_end (first l).place (rest (rest (rest l)))

abbrev one_of : Tree × Option Word → ItemParts
one_of z = one z.0 z.1

one_by : (a : Answer Tree) → value_at (mapped inr a) ≡ mapped one_of (a >>= λ x. after x.0 (read alias_form x.1))
one_by (Ok e) = mapped_after named_item (inr e.0) (read alias_form e.1) ∙ sym (mapped_after one_of e.0 (read alias_form e.1))
one_by (Err r) = refl

pub item_one : (l : List PlacedSymbol) → starts Times l ≡ false → counts_all l ≡ false → read item_form l ≡ read one_form l
unfolding read one_form counted_at
item_one l no_times no_count = not_every l no_times ∙ ap value_at (passed (counts_all l) _ _ no_count) ∙ one_by (expression_at l)

-- a column of GROUP BY with its table
pub group_table : (l m : List PlacedSymbol) (w : Word) → name_at l ≡ Ok (w, m) → starts Dot m ≡ true → read group_column_form l ≡ column_at w (rest m)
unfolding read group_column_form some_name_form if_mark column_at
group_table l m w named dot =
    let second : Bool → Answer (Option Word) = λ b. cond b (mapped Some (name_at (rest m))) (Ok (None, m)) in
    ap (λ (a : Answer Word). mapped column_leaf (a >>= λ x. after x.0 (if_mark Dot (λ u. mapped Some (name_at u)) (λ u. Ok (None, u)) x.1))) named
    ∙ ap (λ b. mapped column_leaf (after w (second b))) dot ∙ mapped_after column_leaf w (mapped Some (name_at (rest m))) ∙ mapped_twice (λ y. column_leaf (w, y)) Some (name_at (rest m))
