-- Names in a map: the place of the first entry with a name, and that a new name goes last.
use Rattle.std.{specs.Prelude.{string_bytes, is_some}, specs.List.{position_from, list_any}, specs.Str.{bytes_eq}, specs.String.{string_eq}, specs.Map.{keys_of, lookup}}
use Rattle.std.proofs.Common.{◌≡◌, ◌∙◌, sym, ap, refl, ℕ, ◌+◌, List, [], ◌∷◌, ◌++◌, map, Bool, true, false, cond, ◌||◌, Option, Some, None, String, Global, position}
use Rattle.std.proofs.lemmas.Iterator.Adapters.{position_from-zero}
use Rattle.indexmap.{specs.IndexMap.{insert_entry}, specs.IndexSet.{insert_key}}
use Rattle.mob_scope.specs.Names.{entry_from, has_entry}

abbrev is : List ℕ → String Global → Bool
is name k = bytes_eq name (string_bytes k)

module _ {V : Type 0} where
  abbrev seen : String Global × V → List ℕ × V
  seen e = (string_bytes e.0, e.1)

  abbrev joined : Option ℕ → Option V → Option (ℕ × V)
  joined None v = None
  joined (Some i) None = None
  joined (Some i) (Some v) = Some (i, v)

  from_parts : (name : List ℕ) (n : ℕ) (es : List (String Global × V)) → entry_from n (map seen es) name ≡ joined (position_from (is name) n (keys_of es)) (lookup (is name) es)
  from_parts name n [] = refl
  from_parts name n (e ∷ es) =
      elim (is name e.0) as (λ b. cond b (Some (n, e.1)) (entry_from (n + 1) (map seen es) name) ≡ joined (cond b (Some n) (position_from (is name) (n + 1) (keys_of es))) (cond b (Some e.1) (lookup (is name) es)))
      [ true ↦ refl | false ↦ from_parts name (n + 1) es ]

  whole : (name : List ℕ) (es : List (String Global × V)) → entry_from 0 (map seen es) name ≡ joined (position (is name) (keys_of es)) (lookup (is name) es)
  whole name es = from_parts name 0 es ∙ ap (λ r. joined r (lookup (is name) es)) (sym (position_from-zero (is name) (keys_of es)))

  pub entry_there : (name : List ℕ) (es : List (String Global × V)) (xs : List (List ℕ × V)) (i : ℕ) (v : V) → xs ≡ map seen es → Some i ≡ position (is name) (keys_of es) → Some v ≡ lookup (is name) es → Some (i, v) ≡ entry_from 0 xs name
  entry_there name es xs i v view at value = sym (ap (λ ys. entry_from 0 ys name) view ∙ whole name es ∙ ap (λ r. joined r (lookup (is name) es)) (sym at) ∙ ap (λ w. joined (Some i) w) (sym value))

  pub entry_missing : (name : List ℕ) (es : List (String Global × V)) (xs : List (List ℕ × V)) → xs ≡ map seen es → None ≡ position (is name) (keys_of es) → None ≡ entry_from 0 xs name
  entry_missing name es xs view at = sym (ap (λ ys. entry_from 0 ys name) view ∙ whole name es ∙ ap (λ r. joined r (lookup (is name) es)) (sym at))

  new_last_from : (n : ℕ) (k : String Global) (v : V) (es : List (String Global × V)) → entry_from n (map seen es) (string_bytes k) ≡ None → insert_entry string_eq es k v ≡ es ++ (k, v) ∷ []
  new_last_from n k v [] h = refl
  new_last_from n k v (e ∷ es) h =
      (elim (string_eq k e.0) as (λ b. cond b (Some (n, e.1)) (entry_from (n + 1) (map seen es) (string_bytes k)) ≡ None → cond b ((e.0, v) ∷ es) (e ∷ insert_entry string_eq es k v) ≡ e ∷ (es ++ (k, v) ∷ []))
      [ true ↦ (λ g. absurd (cc)) | false ↦ (λ g. ap (λ xs. e ∷ xs) (new_last_from (n + 1) k v es g)) ]) h

  map_last : (k : String Global) (v : V) (es : List (String Global × V)) → map seen (es ++ (k, v) ∷ []) ≡ map seen es ++ (string_bytes k, v) ∷ []
  map_last k v [] = refl
  map_last k v (e ∷ es) = ap (λ xs. seen e ∷ xs) (map_last k v es)

  none_there : (o : Option (ℕ × V)) → is_some o ≡ false → o ≡ None
  none_there None h = refl
  none_there (Some x) h = absurd (cc)

  -- a new name goes last
  pub new_last : (name : List ℕ) (k : String Global) (v : V) (es fs : List (String Global × V)) (xs : List (List ℕ × V)) → xs ≡ map seen es → string_bytes k ≡ name → has_entry xs name ≡ false → fs ≡ insert_entry string_eq es k v → map seen fs ≡ xs ++ (name, v) ∷ []
  new_last name k v es fs xs view is_name absent inserted =
      ap (map seen) (inserted ∙ new_last_from 0 k v es (ap (λ n. entry_from 0 (map seen es) n) is_name ∙ ap (λ ys. entry_from 0 ys name) (sym view) ∙ none_there (entry_from 0 xs name) absent)) ∙ map_last k v es
      ∙ ap (λ n. map seen es ++ (n, v) ∷ []) is_name ∙ ap (λ ys. ys ++ (name, v) ∷ []) (sym view)

pub any_bytes : (name : List ℕ) (ks : List (String Global)) (xs : List (List ℕ)) → xs ≡ map string_bytes ks → list_any (λ k. bytes_eq name (string_bytes k)) ks ≡ list_any (λ n. bytes_eq name n) xs
any_bytes name ks xs view = by ks ∙ ap (λ ys. list_any (λ n. bytes_eq name n) ys) (sym view)
  where
    by : (ks : List (String Global)) → list_any (λ k. bytes_eq name (string_bytes k)) ks ≡ list_any (λ n. bytes_eq name n) (map string_bytes ks)
    by [] = refl
    by (k ∷ ks) = ap (λ b. bytes_eq name (string_bytes k) || b) (by ks)

pub name_last : (name : List ℕ) (k : String Global) (ks ls : List (String Global)) (xs : List (List ℕ)) → xs ≡ map string_bytes ks → string_bytes k ≡ name → list_any (λ n. bytes_eq name n) xs ≡ false → ls ≡ insert_key string_eq ks k → map string_bytes ls ≡ xs ++ name ∷ []
name_last name k ks ls xs view is_name absent inserted =
    let missing : list_any (string_eq k) ks ≡ false = any_bytes (string_bytes k) ks xs view ∙ ap (λ n. list_any (λ m. bytes_eq n m) xs) is_name ∙ absent in
    ap (map string_bytes) (inserted ∙ ap (λ b. cond b ks (ks ++ k ∷ [])) missing) ∙ by ks ∙ ap (λ n. map string_bytes ks ++ n ∷ []) is_name ∙ ap (λ ys. ys ++ name ∷ []) (sym view)
  where
    by : (ks : List (String Global)) → map string_bytes (ks ++ k ∷ []) ≡ map string_bytes ks ++ string_bytes k ∷ []
    by [] = refl
    by (l ∷ ks) = ap (λ xs. string_bytes l ∷ xs) (by ks)
