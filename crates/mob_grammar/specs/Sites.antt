-- The sites of a statement: all places in its tree, those of its nodes, of its words and of its
-- strings.
use Rattle.std.{specs.Prelude.{ℕ, List, [], ◌∷◌, ◌++◌, Option}, specs.List.{flat_map}}
use Rattle.mob_ast.{specs.declared.types.Word.{Word}, specs.declared.types.Quoted.{Quoted}, specs.declared.types.TypeWord.{TypeWord}, specs.declared.expression.Node.{Node}}
use Rattle.mob_ast.specs.Trees.{Tree, tree, Trees, none, more, StatementParts, empty, create_table, create_index, insert, copy, delete, select, explain, RowParts, ItemParts, every, one, count_all}
use Rattle.mob_ast.specs.Trees.{FromParts, KeyParts, SelectParts}
use Rattle.mob_grammar.specs.Forms.{Sort, Meaning, place, flag, word, text, type_word, expression, counted, row, from, item, key, select as select_sort, statement, maybe, many, pair}
use Rattle.mob_grammar.specs.Places.{places_of_some}
use mathlib.Core.Logic.{inl, inr}
use Rattle.mob_ast.specs.declared.expression.Node.TheVariants as node

abbrev pub word_sites : Option Word → List ℕ
word_sites = places_of_some (λ (w : Word). w.place ∷ [])

abbrev pub string_sites : Option Quoted → List ℕ
string_sites = places_of_some (λ (s : Quoted). s.place ∷ [])

-- the place of the name of a type, and that of the name in its brackets
abbrev pub type_sites : TypeWord → List ℕ
type_sites w = w.name.place ∷ word_sites w.inner

abbrev pub node_sites : Node → List ℕ
node_sites (node.Literal w s) = type_sites w
node_sites (node.Cast w) = type_sites w
node_sites (node.Column t c) = c.place ∷ word_sites t
node_sites _ = []

abbrev mutual
  pub tree_sites : Tree → List ℕ
  tree_sites (tree n p ts) = p ∷ (node_sites n ++ trees_sites ts)

  pub trees_sites : Trees → List ℕ
  trees_sites none = []
  trees_sites (more t ts) = tree_sites t ++ trees_sites ts

abbrev pub row_sites : RowParts → List ℕ
row_sites r = r.place ∷ flat_map tree_sites r.values

abbrev pub column_sites : Word × TypeWord → List ℕ
column_sites c = c.0.place ∷ type_sites c.1

abbrev pub item_sites : ItemParts → List ℕ
item_sites (every p) = p ∷ []
item_sites (one e a) = tree_sites e ++ word_sites a
item_sites (count_all p a) = p ∷ word_sites a

abbrev pub condition_sites : Option Tree → List ℕ
condition_sites = places_of_some tree_sites

abbrev pub from_sites : FromParts → List ℕ
from_sites f = f.table.place ∷ (word_sites f.alias ++ condition_sites f.on)

abbrev pub key_sites : KeyParts → List ℕ
key_sites k = tree_sites k.value

abbrev pub select_sites : SelectParts → List ℕ
select_sites s = flat_map item_sites s.items ++ (flat_map from_sites s.from ++ (condition_sites s.cond ++ (flat_map tree_sites s.groups ++ (flat_map key_sites s.keys ++ word_sites s.limit))))

abbrev pub statement_sites : StatementParts → List ℕ
statement_sites empty = []
statement_sites (create_table n cs) = n.place ∷ flat_map column_sites cs
statement_sites (create_index n t c) = n.place ∷ (t.place ∷ (c.place ∷ []))
statement_sites (insert t rs) = t.place ∷ flat_map row_sites rs
statement_sites (copy t f d) = t.place ∷ (f.place ∷ string_sites d)
statement_sites (delete t e) = t.place ∷ condition_sites e
statement_sites (select s) = select_sites s
statement_sites (explain s) = select_sites s

-- the sites of a value by its sort
abbrev pub sort_sites : (a : Sort) → Meaning a → List ℕ
sort_sites place p = p ∷ []
sort_sites flag b = []
sort_sites word w = w.place ∷ []
sort_sites text s = s.place ∷ []
sort_sites type_word t = type_sites t
sort_sites expression e = tree_sites e
sort_sites counted (inl p) = p ∷ []
sort_sites counted (inr e) = tree_sites e
sort_sites row r = row_sites r
sort_sites from f = from_sites f
sort_sites item i = item_sites i
sort_sites key k = key_sites k
sort_sites select_sort s = select_sites s
sort_sites statement s = statement_sites s
sort_sites (maybe a) x = places_of_some (sort_sites a) x
sort_sites (many a) xs = flat_map (sort_sites a) xs
sort_sites (pair a b) x = sort_sites a x.0 ++ sort_sites b x.1
