-- The conditions of ON, one after another.
use Rattle.std.{specs.Prelude.{option_map, slice_range}, proofs.Common.{◌≡◌, ◌∙◌, ◌<◌, ◌+◌, ◌-◌, refl, sym, ap, ℕ, zero, suc, List, [], ◌∷◌, ◌++◌, length, map, take, drop, get_or, Option, Result, Ok}}
use Rattle.std.proofs.lemmas.List.{drop_more}
use Rattle.mob_ast.{specs.declared.statement.FromTable.{FromTable}, specs.Trees.{tree_of, from_of}}
use Rattle.mob_typed.{specs.declared.typed.ConstText.{ConstText}, specs.Trees.{TypedTree}}
use Rattle.mob_scope.{specs.declared.scope.ScopeTable.{ScopeTable}, specs.Answers.{StopsTyping}, specs.declared.fault.Mistake.{Mistake}, specs.Scopes.{ScopeParts, source_of, sources_of}}
use Rattle.mob_list.specs.declared.fault.Fault.{Fault}
use Rattle.mob_expression.{specs.Steps.{one_more}, proofs.Behind.{behind, none_behind, more_behind, fails_behind}, proofs.Wrongs.{fails_along}}
use Rattle.mob_clauses.specs.Conditions.{condition, source_start, seen_by_on, joins_from}

map_drop : {A B : Type 0} (f : A → B) (n : ℕ) (xs : List A) → map f (drop n xs) ≡ drop n (map f xs)
map_drop f zero xs = refl
map_drop f (suc n) [] = refl
map_drop f (suc n) (x ∷ xs) = map_drop f n xs

map_take : {A B : Type 0} (f : A → B) (n : ℕ) (xs : List A) → map f (take n xs) ≡ take n (map f xs)
map_take f zero xs = refl
map_take f (suc n) [] = refl
map_take f (suc n) (x ∷ xs) = ap (λ ys. f x ∷ ys) (map_take f n xs)

-- a part of FROM as plain tables
pub part_seen : (from : List ScopeTable) (a b : ℕ) → sources_of (slice_range from a b) ≡ slice_range (sources_of from) a b
part_seen from a b = map_take source_of (b - a) (drop a from) ∙ ap (take (b - a)) (map_drop source_of a from)

-- the ON of each table after the first, if those before this position are typed
module _ (s : ScopeParts) (k n : ℕ) (fs : List FromTable) (i : ℕ) (done : List (Option TypedTree)) (cs : List ConstText) (whole : Result (List (Option TypedTree) × List ConstText) Mistake)
    (so_far : whole ≡ behind done (joins_from s k n (map from_of (drop i fs))) cs) where
  module _ (f : FromTable) (within : i < length fs) (at : f ≡ get_or fs i f) (start : ℕ) (begins : start ≡ source_start k n (option_map tree_of f.on)) where
    abbrev others : List ConstText → Result (List (Option TypedTree) × List ConstText) Mistake
    others ds = joins_from s start (n + 1) (map from_of (drop (i + 1) fs)) ds

    abbrev own : List ConstText → Result (Option TypedTree × List ConstText) Mistake
    own ds = condition (seen_by_on s start n) (option_map tree_of f.on) ds

    next : whole ≡ behind done (one_more own others) cs
    next = so_far ∙ ap (λ ys. behind done (joins_from s k n (map from_of ys)) cs) (drop_more fs i f within ∙ ap (λ y. y ∷ drop (i + 1) fs) (sym at))
        ∙ ap (λ j. behind done (one_more (condition (seen_by_on s j n) (option_map tree_of f.on)) (joins_from s j (n + 1) (map from_of (drop (i + 1) fs)))) cs) (sym begins)

    pub join_fails : (e : Fault Mistake) → StopsTyping e (own cs) → StopsTyping e whole
    join_fails e h = fails_along e (behind done (one_more own others) cs) whole next (fails_behind own others cs e done h)

    pub join_made : (x : Option TypedTree) (ds : List ConstText) (after : List (Option TypedTree)) → own cs ≡ Ok (x, ds) → after ≡ done ++ x ∷ [] → whole ≡ behind after others ds
    join_made x ds after h pushed = next ∙ more_behind own others cs done x ds h ∙ ap (λ d. behind d others ds) (sym pushed)

  pub joins_made : drop i fs ≡ [] → whole ≡ Ok (done, cs)
  joins_made gone = so_far ∙ ap (λ ys. behind done (joins_from s k n (map from_of ys)) cs) gone ∙ none_behind done cs
