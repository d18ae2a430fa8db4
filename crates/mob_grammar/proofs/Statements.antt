-- Each production of the table fits, has no `;`, and keeps the nodes and places of its parts. So
-- scripts are read, have no more nodes than tokens, and have their sites at their tokens.
use Rattle.std.{specs.List.{AllByRecursion, flat_map, sum_by}, proofs.Common.{◌≡◌, ◌∙◌, ◌≤◌, ◌++◌, inl, inr, map, refl, sym, ap, subst, ℕ, List, [], ◌∷◌, true, false, Some, None, arith}}
use Rattle.std.{proofs.lemmas.List.{map-append}, proofs.lemmas.List.Concat.{flat_map-append}, proofs.lemmas.List.Sums.{sum_by-cons, sum_by-append}}
use Rattle.mob_list.proofs.Each.{each_both, each_parts}
use Rattle.mob_ast.specs.Trees.{FromParts}
use Rattle.mob_grammar.{specs.declared.mark.Mark.TheVariants.{Plus, Minus, Semicolon}, specs.Symbols.{PlacedSymbol, sign}}
use Rattle.mob_grammar.specs.Forms.{single, several, Meaning, flag, word, text, expression, counted, from, item, many, maybe, pair, built, Derives}
use Rattle.mob_grammar.specs.Scripts.{string_form, signed_form, number_form, typed_form, const_form, row_form, column_type_form, create_table_form, indexed_form, create_index_form, create_form, insert_form}
use Rattle.mob_grammar.specs.Scripts.{header_form, format_form, delimiter_form, options_form, copy_form, some_name_form, second_name_form, entry_form, joined_form, joins_form, source_form, tables_of}
use Rattle.mob_grammar.specs.Scripts.{sources_form, from_form, alias_form, named_item, item_form, direction_form, key_form, distinct_form, where_form, column_leaf, group_column_form, by_form}
use Rattle.mob_grammar.{specs.Scripts.{group_form, order_form, limit_form, ordering_form, select_form, delete_form, explain_form, statement_form, script_form}, specs.Reading.{read}}
use Rattle.mob_grammar.specs.Sizes.{from_nodes, HasFewNodes}
use Rattle.mob_grammar.specs.Places.{IsWithin, nothing, other, item_places, condition_places, from_places, key_places, sort_places, statement_places, script_places, StandsAtTokens}
use Rattle.mob_grammar.{specs.Sites.{word_sites, type_sites, tree_sites, from_sites, statement_sites}, proofs.Along.{Along, whole, form_along}, proofs.Forms.{Stop, fits, form_read}}
use Rattle.mob_grammar.{proofs.Parts.{IsBuiltOf, KeepsParts}, proofs.Places.{Passes, in_front}, proofs.ReadRules.{IsRead}, proofs.Sets.{both_true}, proofs.Sizes.{form_few}}
use Rattle.mob_grammar.proofs.Within.{within_all, within_back, within_both, within_front}

-- what is tested of the whole table
table_tests : (fits script_form ≡ true) × (whole statement_form ≡ true)
unfolding string_form signed_form number_form typed_form const_form row_form column_type_form create_table_form indexed_form create_index_form create_form insert_form header_form format_form delimiter_form options_form copy_form some_name_form second_name_form entry_form joined_form joins_form source_form sources_form from_form alias_form item_form direction_form key_form distinct_form where_form group_column_form by_form group_form order_form limit_form ordering_form select_form delete_form explain_form statement_form
table_tests = (refl, refl)

pub script_fits : fits script_form ≡ true
script_fits = table_tests.0

-- the entries of lists
pub const_fits : fits const_form ≡ true
unfolding string_form signed_form number_form typed_form const_form
const_fits = refl

pub row_fits : fits row_form ≡ true
unfolding string_form signed_form number_form typed_form const_form row_form
row_fits = refl

pub column_type_fits : fits column_type_form ≡ true
unfolding column_type_form
column_type_fits = refl

pub joined_fits : fits joined_form ≡ true
unfolding some_name_form second_name_form joined_form
joined_fits = refl

pub source_fits : fits source_form ≡ true
unfolding some_name_form second_name_form entry_form joined_form joins_form source_form
source_fits = refl

pub item_fits : fits item_form ≡ true
unfolding some_name_form alias_form item_form
item_fits = refl

pub group_column_fits : fits group_column_form ≡ true
unfolding some_name_form group_column_form
group_column_fits = refl

pub key_fits : fits key_form ≡ true
unfolding direction_form key_form
key_fits = refl

pub statement_fits : fits statement_form ≡ true
statement_fits = (both_true (fits statement_form) _ script_fits).0

-- what each production keeps
string_keeps : KeepsParts string_form
unfolding string_form
string_keeps = ((λ s. (omega arith, within_all _, λ P h. h)), tt)

plus_keeps : KeepsParts (signed_form Plus)
unfolding signed_form
plus_keeps = ((λ (p, n). (omega arith, other (within_all _), λ P h. h)), (tt, tt))

minus_keeps : KeepsParts (signed_form Minus)
unfolding signed_form
minus_keeps = ((λ (p, n). (omega arith, other (within_all _), λ P h. h)), (tt, tt))

number_keeps : KeepsParts number_form
unfolding number_form
number_keeps = ((λ n. (omega arith, within_all _, λ P h. h)), tt)

typed_keeps : KeepsParts typed_form
unfolding typed_form
typed_keeps = ((λ (ty, s). (omega arith, within_all _, in_front (type_sites ty) s.place [])), (tt, tt))

const_keeps : KeepsParts const_form
unfolding const_form
const_keeps = (string_keeps, (plus_keeps, (minus_keeps, (number_keeps, (((λ p. (omega arith, within_all _, λ P h. h)), tt), (((λ p. (omega arith, within_all _, λ P h. h)), tt), (((λ p. (omega arith, nothing, λ P h. h)), tt), typed_keeps)))))))

row_keeps : KeepsParts row_form
unfolding row_form
row_keeps = ((λ (p, values). (omega arith, within_all _, λ P h. h)), (tt, const_keeps))

create_keeps : KeepsParts create_form
unfolding create_form create_table_form indexed_form create_index_form column_type_form
create_keeps = (((λ (name, columns). (omega arith, nothing, λ P h. h)), (tt, (tt, tt))), ((λ (name, (table, column)). (omega arith, nothing, λ P h. h)), (tt, (tt, tt))))

insert_keeps : KeepsParts insert_form
unfolding insert_form
insert_keeps = ((λ (table, rows). (omega arith, other (within_all _), λ P h. h)), (tt, row_keeps))

-- an optional part that is absent
no_text : KeepsParts (built (maybe text) None)
no_text = (omega arith, nothing, λ P h. h)

no_word : KeepsParts (built (maybe word) None)
no_word = (omega arith, nothing, λ P h. h)

no_flag : (b : Meaning flag) → KeepsParts (built flag b)
no_flag b = (omega arith, nothing, λ P h. h)

options_keep : KeepsParts options_form
unfolding options_form header_form format_form delimiter_form
options_keep = ((no_text, no_text), ((λ s. (omega arith, within_all _, λ P h. h)), tt))

copy_keeps : KeepsParts copy_form
unfolding copy_form
copy_keeps = ((λ (table, (file, delimiter)). (omega arith, nothing, λ P h. h)), (tt, (tt, options_keep)))

some_name_keeps : KeepsParts some_name_form
unfolding some_name_form
some_name_keeps = ((λ w. (omega arith, within_all _, λ P h. h)), tt)

second_name_keeps : KeepsParts second_name_form
unfolding second_name_form
second_name_keeps = (some_name_keeps, (some_name_keeps, no_word))

entry_keeps : KeepsParts entry_form
unfolding entry_form
entry_keeps = ((λ (table, alias). (omega arith, nothing, λ P h. (h.0, each_both P (word_sites alias) [] h.1 tt))), (tt, second_name_keeps))

joined_keeps : KeepsParts joined_form
unfolding joined_form
joined_keeps = ((λ (table, (alias, cond)). (omega arith, other (within_back (sort_places (maybe word) alias) (within_all _)), λ P h. h)), (tt, (second_name_keeps, tt)))

source_keeps : KeepsParts source_form
unfolding source_form joins_form
source_keeps = ((λ (entry, joined). (omega (arith, sum_by-cons from_nodes entry joined), within_all _, λ P h. h)), (entry_keeps, (joined_keeps, (omega arith, nothing, λ P h. h))))

tables_few : (ss : List (List FromParts)) → sum_by from_nodes (tables_of ss) ≤ sum_by (λ s. sum_by from_nodes s) ss
tables_few [] = omega arith
tables_few (s ∷ ss) = omega (arith, sum_by-append from_nodes s (tables_of ss), tables_few ss, sum_by-cons (λ s. sum_by from_nodes s) s ss)

tables_flat : (f : FromParts → List ℕ) (ss : List (List FromParts)) → flat_map (λ s. flat_map f s) ss ≡ flat_map f (tables_of ss)
tables_flat f [] = refl
tables_flat f (s ∷ ss) = ap (λ u. flat_map f s ++ u) (tables_flat f ss) ∙ sym (flat_map-append f s (tables_of ss))

tables_part : (ss : Meaning (many (many from))) → IsBuiltOf (many (many from)) (many from) ss (tables_of ss)
tables_part ss = (tables_few ss, subst (IsWithin (flat_map from_places (tables_of ss))) (sym (tables_flat from_places ss)) (within_all _), λ P h. subst (AllByRecursion P) (tables_flat from_sites ss) h)

from_keeps : KeepsParts from_form
unfolding from_form sources_form
from_keeps = ((tables_part, source_keeps), (omega arith, nothing, λ P h. h))

alias_keeps : KeepsParts alias_form
unfolding alias_form
alias_keeps = (some_name_keeps, no_word)

item_part : (x : Meaning (pair counted (maybe word))) → IsBuiltOf (pair counted (maybe word)) item x (named_item x)
item_part (inl p, alias) = (omega arith, nothing, λ P h. h)
item_part (inr value, alias) = (omega arith, within_front (sort_places (maybe word) alias) (within_all _), λ P h. h)

item_keeps : KeepsParts item_form
unfolding item_form
item_keeps = (((λ p. (omega arith, nothing, λ P h. h)), tt), (item_part, (tt, alias_keeps)))

key_keeps : KeepsParts key_form
unfolding key_form direction_form
key_keeps = ((λ (value, descending). (omega arith, within_front [] (within_all _), λ P h. (each_parts P (tree_sites value) [] h).0)), (tt, (no_flag false, (no_flag true, no_flag false))))

distinct_keeps : KeepsParts distinct_form
unfolding distinct_form
distinct_keeps = (no_flag true, no_flag false)

where_keeps : KeepsParts where_form
unfolding where_form
where_keeps = (((λ e. (omega arith, within_all _, λ P h. h)), tt), (omega arith, nothing, λ P h. h))

column_part : (x : Meaning (pair word (maybe word))) → IsBuiltOf (pair word (maybe word)) expression x (column_leaf x)
column_part (name, None) = (omega arith, nothing, λ P h. (h.0, h))
column_part (table, Some name) = (omega arith, nothing, λ P h. (h.0, (h.1.0, (h.0, tt))))

group_keeps : KeepsParts group_form
unfolding group_form by_form group_column_form
group_keeps = ((column_part, (tt, (some_name_keeps, no_word))), (omega arith, nothing, λ P h. h))

order_keeps : KeepsParts order_form
unfolding order_form by_form
order_keeps = (key_keeps, (omega arith, nothing, λ P h. h))

limit_keeps : KeepsParts limit_form
unfolding limit_form
limit_keeps = (((λ w. (omega arith, within_all _, λ P h. h)), tt), no_word)

select_keeps : KeepsParts select_form
unfolding select_form ordering_form
select_keeps = (
  (λ (distinct, (items, (from_parts, (cond, (groups, (keys, limit)))))). (
    omega arith,
    within_both (within_all (flat_map item_places items)) (within_both (within_all (flat_map from_places from_parts)) (within_both (within_all (condition_places cond)) (within_back (flat_map (sort_places expression) groups) (within_front (sort_places (maybe word) limit) (within_all (flat_map key_places keys)))))),
    λ P h. h,
  )),
  (distinct_keeps, (item_keeps, (from_keeps, (where_keeps, (group_keeps, (order_keeps, limit_keeps)))))),
)

delete_keeps : KeepsParts delete_form
unfolding delete_form
delete_keeps = ((λ (table, cond). (omega arith, other (within_all _), λ P h. h)), (tt, where_keeps))

statement_keeps : KeepsParts statement_form
unfolding statement_form explain_form
statement_keeps =
    (create_keeps, (insert_keeps, (copy_keeps, (delete_keeps, (((λ s. (omega arith, within_all _, λ P h. h)), select_keeps), (((λ s. (omega arith, within_all _, λ P h. h)), select_keeps), (omega arith, nothing, λ P h. h)))))))

-- the laws of scripts
pub read_script : IsRead (Derives script_form) (read script_form) (Stop script_form)
read_script = form_read script_form script_fits

pub few_nodes : HasFewNodes
few_nodes l x d = omega (arith, form_few script_form statement_keeps l x [] d)

pub statement_along : Along statement_form
statement_along = form_along statement_form table_tests.1 statement_keeps

one_way : (l r : List PlacedSymbol) (ps us qs : List ℕ) → Passes l ps us r → IsWithin qs (map (λ t. t.place) r) → IsWithin (ps ++ qs) (map (λ t. t.place) l)
one_way l r ps us qs w rest = subst (λ k. IsWithin (ps ++ qs) (map (λ t. t.place) k)) (sym w.parts) (subst (IsWithin (ps ++ qs)) (sym (map-append (λ t. t.place) w.own r)) (within_both w.places rest))

pub stands_at_tokens : StandsAtTokens
stands_at_tokens l _ (single {x = s} d) = one_way l [] (statement_places s) (statement_sites s) [] (statement_along l s [] d) nothing
stands_at_tokens l _ (several {u = u} {x = s} {xs = ss} {p = p} d ds) =
    one_way l (sign Semicolon p ∷ u) (statement_places s) (statement_sites s) (script_places ss) (statement_along l s (sign Semicolon p ∷ u) d) (other (stands_at_tokens u ss ds))
