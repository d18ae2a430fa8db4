-- Appending a new name to distinct names keeps them distinct.
use Rattle.std.{specs.Prelude.{is_some}, specs.List.{IsDistinct, list_any}, specs.Str.{bytes_eq}}
use Rattle.std.{proofs.Common.{◌≡◌, refl, sym, subst, ℕ, ◌+◌, List, [], ◌∷◌, ◌++◌, map, Bool, true, false, cond, ◌||◌, Some}, proofs.lemmas.Bool.{or_parts}, proofs.lemmas.List.{map-append}}
use Rattle.std.proofs.lemmas.Slice.Eq.{bytes_eq-Decides}
use Rattle.mob_operators.specs.Table.{is_one_of}
use Rattle.mob_scope.specs.Names.{entry_from, has_entry}
use Rattle.mob_list.proofs.Each.{each_both}

other_way : (a b : List ℕ) → bytes_eq a b ≡ false → bytes_eq b a ≡ false
other_way a b h = by (bytes_eq b a) refl
  where
    by : (c : Bool) → bytes_eq b a ≡ c → bytes_eq b a ≡ false
    by true is = let same = (bytes_eq-Decides a b).1 (sym ((bytes_eq-Decides b a).0 is)) in absurd (cc)
    by false is = is

pub name_last : (ns : List (List ℕ)) (name : List ℕ) → IsDistinct bytes_eq ns → is_one_of ns name ≡ false → IsDistinct bytes_eq (ns ++ name ∷ [])
unfolding IsDistinct
name_last [] name h new = (tt, tt)
name_last (n ∷ ns) name h new =
    let parts = or_parts (bytes_eq name n) (list_any (λ k. bytes_eq name k) ns) new in
    (each_both (λ y. bytes_eq n y ≡ false) ns (name ∷ []) h.0 (other_way name n parts.0, tt), name_last ns name h.1 parts.1)

pub none_named : {A : Type 0} (n : ℕ) (es : List (List ℕ × A)) (name : List ℕ) → is_some (entry_from n es name) ≡ false → is_one_of (map (λ e. e.0) es) name ≡ false
none_named n [] name h = refl
none_named {A} n (e ∷ es) name h = by (bytes_eq name e.0) h (none_named (n + 1) es name)
  where
    by : (b : Bool) → is_some (cond b (Some (n, e.1)) (entry_from (n + 1) es name)) ≡ false → (is_some (entry_from (n + 1) es name) ≡ false → is_one_of (map (λ (x : List ℕ × A). x.0) es) name ≡ false)
        → (b || is_one_of (map (λ (x : List ℕ × A). x.0) es) name) ≡ false
    by true so later = absurd (cc)
    by false so later = later so

-- entries with distinct names, and one more with a new name
pub entry_last : {A : Type 0} (es : List (List ℕ × A)) (name : List ℕ) (x : A) → IsDistinct bytes_eq (map (λ e. e.0) es) → has_entry es name ≡ false → IsDistinct bytes_eq (map (λ e. e.0) (es ++ (name, x) ∷ []))
entry_last {A} es name x h new =
    subst (IsDistinct bytes_eq) (sym (map-append (λ (e : List ℕ × A). e.0) es ((name, x) ∷ []))) (name_last (map (λ (e : List ℕ × A). e.0) es) name h (none_named 0 es name new))
