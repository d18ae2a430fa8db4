-- The walk finds the runs and their kept breaks.
use Rattle.std.{specs.Prelude.{◌≡◌, Bool, true, false, cond, ◌&&◌, not, List, [], ◌∷◌, ◌++◌, map, refl}, specs.List.{flat_map}}
use Rattle.std.proofs.Common.{ap, sym, ◌∙◌, subst, append_assoc, append-nil, true≢false}
use Rattle.mob_ratio.specs.Ratio.{Ratio}
use Rattle.mob_slice.{specs.Entries.{Entry}, specs.Slices.{OfHead}, specs.declared.line.PlaneLine.{PlaneLine}, specs.declared.slice.Slice.{Slice}}
use Rattle.mob_simplify.{specs.Breaks.{start_of, end_of, passes_within}, specs.Runs.{GoesOn, last_slice, IsChain, later_breaks, KeptBreak, AllPass, AreKeptBreaks, RunOf, AreRuns}}
use Rattle.mob_simplify.{specs.Tests.{tests_within, tests_after}, specs.Thinned.{leg, legs_from, legs_of, tests_of_run}}
use Rattle.mob_simplify.{specs.Walk.{continues_run, leg_over, legs_along, tests_along, all_legs, all_tests}, specs.declared.breaks.Break.{Break}}
use Rattle.mob_simplify.proofs.NearAlong.{goes_on_is, is_goes_on, last_more, starts_more, chain_more, legs_more}

-- if r continues s, the end of s and the start of r are one break
pub one_break : (s r : Slice PlaneLine) → GoesOn s r → start_of r ≡ end_of s
one_break s r g = λ i. record { instant = (sym g.meets.at_one) i; place = (sym g.level) i }

-- ---- breaks that all pass
all_more : (d : Ratio) (p : Break) (bs xs : List Break) (n : Break) → AllPass d p bs xs → passes_within d p (bs ++ xs) n ≡ true → AllPass d p bs (xs ++ n ∷ [])
all_more d p bs [] n h e = (subst (λ z. passes_within d p z n ≡ true) (append-nil bs) e, tt)
all_more d p bs (x ∷ xs) n h e = (h.0, all_more d p (bs ++ x ∷ []) xs n h.1 (subst (λ z. passes_within d p z n ≡ true) (sym (append_assoc bs (x ∷ []) xs)) e))

-- their tests come first
tests_joined : (d : Ratio) (p : Break) (bs xs ys : List Break) → AllPass d p bs xs → tests_after d p bs (xs ++ ys) ≡ tests_after d p bs xs ++ tests_after d p (bs ++ xs) ys
tests_joined d p bs [] ys h = ap (λ z. tests_after d p z ys) (sym (append-nil bs))
tests_joined d p bs (x ∷ xs) ys h =
    let on = tests_joined d p (bs ++ x ∷ []) xs ys h.1 ∙ ap (λ z. tests_after d p (bs ++ x ∷ []) xs ++ tests_after d p z ys) (append_assoc bs (x ∷ []) xs) in
    ap (λ z. tests_within d p bs x ++ cond z (tests_after d p (bs ++ x ∷ []) (xs ++ ys)) []) h.0
    ∙ ap (λ z. tests_within d p bs x ++ z) on
    ∙ sym (append_assoc (tests_within d p bs x) (tests_after d p (bs ++ x ∷ []) xs) (tests_after d p (bs ++ x ∷ xs) ys))
    ∙ ap (λ z. (tests_within d p bs x ++ cond z (tests_after d p (bs ++ x ∷ []) xs) []) ++ tests_after d p (bs ++ x ∷ xs) ys) (sym h.0)

-- and if the next fails, it has the last of the tests
tests_stop : (d : Ratio) (p : Break) (bs : List Break) (n : Break) (ns : List Break) → passes_within d p bs n ≡ false → tests_after d p bs (n ∷ ns) ≡ tests_within d p bs n
tests_stop d p bs n ns h = ap (λ z. tests_within d p bs n ++ cond z (tests_after d p (bs ++ n ∷ []) ns) []) h ∙ append-nil (tests_within d p bs n)

tests_last : (d : Ratio) (p : Break) (bs : List Break) (n : Break) (b : Bool) → tests_within d p bs n ++ cond b [] [] ≡ tests_within d p bs n
tests_last d p bs n true = append-nil (tests_within d p bs n)
tests_last d p bs n false = append-nil (tests_within d p bs n)

-- ---- chains
last_joined : (s : Slice PlaneLine) (more : List (Slice PlaneLine)) (r : Slice PlaneLine) (xs : List (Slice PlaneLine)) → last_slice s (more ++ r ∷ xs) ≡ last_slice r xs
last_joined s [] r xs = refl
last_joined s (q ∷ more) r xs = last_joined q more r xs

chain_joined : (s : Slice PlaneLine) (more : List (Slice PlaneLine)) (r : Slice PlaneLine) (xs : List (Slice PlaneLine)) → IsChain s more → GoesOn (last_slice s more) r → IsChain r xs → IsChain s (more ++ r ∷ xs)
chain_joined s [] r xs c g k = (g, k)
chain_joined s (q ∷ more) r xs c g k = (c.0, chain_joined q more r xs c.1 g k)

starts_joined : (more : List (Slice PlaneLine)) (r : Slice PlaneLine) (xs : List (Slice PlaneLine)) (ys : List Break) → map start_of (more ++ r ∷ xs) ++ ys ≡ map start_of more ++ start_of r ∷ (map start_of xs ++ ys)
starts_joined [] r xs ys = refl
starts_joined (q ∷ more) r xs ys = ap (λ z. start_of q ∷ z) (starts_joined more r xs ys)

-- the breaks after s, up to the end of l and after it
later_joined : (s : Slice PlaneLine) (more : List (Slice PlaneLine)) (r : Slice PlaneLine) (xs : List (Slice PlaneLine)) → GoesOn (last_slice s more) r → later_breaks s (more ++ r ∷ xs) ≡ map start_of more ++ end_of (last_slice s more) ∷ later_breaks r xs
later_joined s more r xs g =
    ap (λ z. map start_of (more ++ r ∷ xs) ++ end_of z ∷ []) (last_joined s more r xs)
    ∙ starts_joined more r xs (end_of (last_slice r xs) ∷ [])
    ∙ ap (λ z. map start_of more ++ z ∷ later_breaks r xs) (one_break (last_slice s more) r g)

-- ---- the slices from a kept break on, which all continue the run and pass so far
record IsSoFar (d : Ratio) (s : Slice PlaneLine) (more : List (Slice PlaneLine)) : Type 0 where
  pub chain : IsChain s more
  pub all : AllPass d (start_of s) [] (later_breaks s more)

-- runs, the first of which begins with s, with their legs and their tests
pub record IsFound (d : Ratio) (s : Slice PlaneLine) (slices out : List (Slice PlaneLine)) (entries : List Entry) : Type 0 where
  pub more : List (Slice PlaneLine)
  pub kept : List KeptBreak
  pub others : List RunOf
  pub of : AreRuns d (record { first = s; more = more; kept = kept } ∷ others) slices
  pub legs : flat_map legs_of (record { first = s; more = more; kept = kept } ∷ others) ≡ out
  pub tests : flat_map (tests_of_run d) (record { first = s; more = more; kept = kept } ∷ others) ≡ entries

module _ (d : Ratio) where
  abbrev before : Slice PlaneLine → List (Slice PlaneLine) → List Entry
  before s more = tests_after d (start_of s) [] (later_breaks s more)

  -- the run ends with l
  abbrev ending : Slice PlaneLine → List (Slice PlaneLine) → List KeptBreak
  ending s more = record { at = end_of (last_slice s more); later = [] } ∷ []

  kept_ending : (s : Slice PlaneLine) (more : List (Slice PlaneLine)) → IsSoFar d s more → AreKeptBreaks d (record { at = start_of s; later = later_breaks s more }) (ending s more)
  kept_ending s more h = (record { skipped = map start_of more; split = refl; pass = h.all; last = tt }, refl)

  ends : (s : Slice PlaneLine) (more : List (Slice PlaneLine)) → IsSoFar d s more → IsFound d s (s ∷ more ++ []) (leg_over s (last_slice s more) ∷ []) (before s more ++ [])
  ends s more h = record {
    more = more;
    kept = ending s more;
    others = [];
    of = ([], refl, h.chain, tt, kept_ending s more h, refl);
    legs = refl;
    tests = append-nil (before s more ++ []);
  }

  -- it ends with l, and another begins with r
  parts : (s : Slice PlaneLine) (more : List (Slice PlaneLine)) (r : Slice PlaneLine) (rest legs : List (Slice PlaneLine)) (tests : List Entry) → IsSoFar d s more → (¬ GoesOn (last_slice s more) r) → IsFound d r (r ∷ rest) legs tests → IsFound d s (s ∷ more ++ r ∷ rest) (leg_over s (last_slice s more) ∷ legs) (before s more ++ tests)
  parts s more r rest legs tests h stop f = record {
    more = more;
    kept = ending s more;
    others = record { first = r; more = f.more; kept = f.kept } ∷ f.others;
    of = (r ∷ rest, refl, h.chain, stop, kept_ending s more h, f.of);
    legs = ap (λ z. leg_over s (last_slice s more) ∷ z) f.legs;
    tests = ap (λ z. (before s more ++ []) ++ z) f.tests ∙ append_assoc (before s more) [] tests;
  }

  -- it continues with r, whose end does not pass
  fails_first : (s : Slice PlaneLine) (more : List (Slice PlaneLine)) (r : Slice PlaneLine) (xs : List (Slice PlaneLine)) → IsChain r xs → passes_within d (start_of s) (later_breaks s more) (end_of r) ≡ false → OfHead (λ m n. passes_within d (start_of s) (map start_of more ++ m ∷ []) n ≡ false) (end_of (last_slice s more)) (later_breaks r xs)
  fails_first s more r [] c e = e
  fails_first s more r (q ∷ xs) c e = subst (λ z. passes_within d (start_of s) (later_breaks s more) z ≡ false) (sym (one_break r q c.0)) e

  legs_joined : (inc up b : Bool) (p m : Break) (later : List Break) (kept : List KeptBreak) → b ≡ false → (q : KeptBreak) → AreKeptBreaks d q kept → (q.later ≡ [] → ⊥) → legs_from inc p (record { at = m; later = later } ∷ kept) up ≡ leg inc p m b ∷ legs_from true m kept up
  legs_joined inc up b p m later [] e q h some = absurd (some h)
  legs_joined inc up b p m later (k ∷ kept) e q h some = ap (λ z. leg inc p m z ∷ legs_from true m (k ∷ kept) up) (sym e)

  some_later : (r : Slice PlaneLine) (xs : List (Slice PlaneLine)) → later_breaks r xs ≡ [] → ⊥
  some_later r [] e = cc
  some_later r (q ∷ xs) e = cc

  tests_first : (s : Slice PlaneLine) (more : List (Slice PlaneLine)) (r : Slice PlaneLine) (xs : List (Slice PlaneLine)) → IsChain r xs → passes_within d (start_of s) (later_breaks s more) (end_of r) ≡ false → tests_after d (start_of s) (later_breaks s more) (later_breaks r xs) ≡ tests_within d (start_of s) (later_breaks s more) (end_of r)
  tests_first s more r [] c e = tests_stop d (start_of s) (later_breaks s more) (end_of r) [] e
  tests_first s more r (q ∷ xs) c e =
      let o = one_break r q c.0 in
      tests_stop d (start_of s) (later_breaks s more) (start_of q) (later_breaks q xs) (subst (λ z. passes_within d (start_of s) (later_breaks s more) z ≡ false) (sym o) e)
      ∙ ap (λ z. tests_within d (start_of s) (later_breaks s more) z) o

  bends : (s : Slice PlaneLine) (more : List (Slice PlaneLine)) (r : Slice PlaneLine) (rest legs : List (Slice PlaneLine)) (tests : List Entry) → IsSoFar d s more → GoesOn (last_slice s more) r → passes_within d (start_of s) (later_breaks s more) (end_of r) ≡ false → IsFound d r (r ∷ rest) legs tests
      → IsFound d s (s ∷ more ++ r ∷ rest) (leg_over s (last_slice s more) ∷ legs) (before s more ++ (tests_within d (start_of s) (later_breaks s more) (end_of r) ++ tests))
  bends s more r rest legs tests h g e f =
      let l = last_slice s more in
      let xs = f.more in
      let m : KeptBreak = record { at = end_of l; later = later_breaks r xs } in
      let q : KeptBreak = record { at = start_of r; later = later_breaks r xs } in
      let o = one_break l r g in
      let split = later_joined s more r xs g in
      let behind = f.of.0 in
      let up : l.span.upper_inc ≡ false = g.meets.in_one ∙ ap not g.held in
      let same_legs : legs_from r.span.lower_inc (start_of r) f.kept (last_slice r xs).span.upper_inc ≡ legs_from true (end_of l) f.kept (last_slice r xs).span.upper_inc = ap (λ z. legs_from z (start_of r) f.kept (last_slice r xs).span.upper_inc) g.held ∙ ap (λ z. legs_from true z f.kept (last_slice r xs).span.upper_inc) o in
      let run : RunOf = record { first = s; more = more ++ r ∷ xs; kept = m ∷ f.kept } in
      let of_kept : List Entry = flat_map (λ k. tests_after d k.at [] k.later) f.kept in
      let first_tests : tests_after d (start_of s) [] (later_breaks s (more ++ r ∷ xs)) ≡ before s more ++ tests_within d (start_of s) (later_breaks s more) (end_of r) =
      ap (λ z. tests_after d (start_of s) [] z) (split ∙ sym (append_assoc (map start_of more) (end_of l ∷ []) (later_breaks r xs)))
      ∙ tests_joined d (start_of s) [] (later_breaks s more) (later_breaks r xs) h.all
      ∙ ap (λ z. before s more ++ z) (tests_first s more r xs f.of.2 e) in
      record {
        more = more ++ r ∷ xs;
        kept = m ∷ f.kept;
        others = f.others;
        of = (
          behind,
          ap (λ z. s ∷ more ++ z) f.of.1 ∙ ap (λ z. s ∷ z) (sym (append_assoc more (r ∷ xs) behind)),
          chain_joined s more r xs h.chain g f.of.2,
          subst (λ z. OfHead (λ s r. ¬ GoesOn s r) z behind) (sym (last_joined s more r xs)) f.of.3,
          (record { skipped = map start_of more; split = split; pass = h.all; last = fails_first s more r xs f.of.2 e }, subst (λ z. AreKeptBreaks d (record { at = z; later = later_breaks r xs }) f.kept) o f.of.4),
          f.of.5,
        );
        legs =
            ap (λ z. legs_from s.span.lower_inc (start_of s) (m ∷ f.kept) z.span.upper_inc ++ flat_map legs_of f.others) (last_joined s more r xs)
            ∙ ap (λ z. z ++ flat_map legs_of f.others) (legs_joined s.span.lower_inc (last_slice r xs).span.upper_inc l.span.upper_inc (start_of s) (end_of l) (later_breaks r xs) f.kept up q f.of.4 (some_later r xs))
            ∙ ap (λ z. leg_over s l ∷ z ++ flat_map legs_of f.others) (sym same_legs)
            ∙ ap (λ z. leg_over s l ∷ z) f.legs;
        tests =
            ap (λ z. (z ++ (tests_after d (end_of l) [] (later_breaks r xs) ++ of_kept)) ++ flat_map (tests_of_run d) f.others) first_tests
            ∙ ap (λ z. ((before s more ++ tests_within d (start_of s) (later_breaks s more) (end_of r)) ++ (tests_after d z [] (later_breaks r xs) ++ of_kept)) ++ flat_map (tests_of_run d) f.others) (sym o)
            ∙ append_assoc (before s more ++ tests_within d (start_of s) (later_breaks s more) (end_of r)) (tests_after d (start_of r) [] (later_breaks r xs) ++ of_kept) (flat_map (tests_of_run d) f.others)
            ∙ append_assoc (before s more) (tests_within d (start_of s) (later_breaks s more) (end_of r)) ((tests_after d (start_of r) [] (later_breaks r xs) ++ of_kept) ++ flat_map (tests_of_run d) f.others)
            ∙ ap (λ z. before s more ++ (tests_within d (start_of s) (later_breaks s more) (end_of r) ++ z)) f.tests;
      }

  -- the tests of one more slice
  abbrev wide : Slice PlaneLine → List (Slice PlaneLine) → Slice PlaneLine → List Break
  wide s more r = map start_of more ++ start_of r ∷ []

  wide_is : (s : Slice PlaneLine) (more : List (Slice PlaneLine)) (r : Slice PlaneLine) → GoesOn (last_slice s more) r → wide s more r ≡ later_breaks s more
  wide_is s more r g = ap (λ z. map start_of more ++ z ∷ []) (one_break (last_slice s more) r g)

  later_more : (s : Slice PlaneLine) (more : List (Slice PlaneLine)) (r : Slice PlaneLine) → GoesOn (last_slice s more) r → later_breaks s (more ++ r ∷ []) ≡ later_breaks s more ++ end_of r ∷ []
  later_more s more r g = later_joined s more r [] g ∙ sym (append_assoc (map start_of more) (end_of (last_slice s more) ∷ []) (end_of r ∷ []))

  so_far_more : (s : Slice PlaneLine) (more : List (Slice PlaneLine)) (r : Slice PlaneLine) → IsSoFar d s more → GoesOn (last_slice s more) r → passes_within d (start_of s) (later_breaks s more) (end_of r) ≡ true → IsSoFar d s (more ++ r ∷ [])
  so_far_more s more r h g e = record {
    chain = chain_more s more r h.chain g;
    all = subst (λ z. AllPass d (start_of s) [] z) (sym (later_more s more r g)) (all_more d (start_of s) [] (later_breaks s more) (end_of r) h.all e);
  }

  before_more : (s : Slice PlaneLine) (more : List (Slice PlaneLine)) (r : Slice PlaneLine) → IsSoFar d s more → GoesOn (last_slice s more) r → before s (more ++ r ∷ []) ≡ before s more ++ tests_within d (start_of s) (later_breaks s more) (end_of r)
  before_more s more r h g =
      ap (λ z. tests_after d (start_of s) [] z) (later_more s more r g)
      ∙ tests_joined d (start_of s) [] (later_breaks s more) (end_of r ∷ []) h.all
      ∙ ap (λ z. before s more ++ z) (tests_last d (start_of s) (later_breaks s more) (end_of r) (passes_within d (start_of s) (later_breaks s more) (end_of r)))

  tests_more : (s : Slice PlaneLine) (more : List (Slice PlaneLine)) (r : Slice PlaneLine) (rest : List (Slice PlaneLine)) → tests_along d s (map start_of (more ++ r ∷ [])) (last_slice s (more ++ r ∷ [])) rest ≡ tests_along d s (wide s more r) r rest
  tests_more s more r rest = ap (λ z. tests_along d s z (last_slice s (more ++ r ∷ [])) rest) (starts_more more r) ∙ ap (λ z. tests_along d s (wide s more r) z rest) (last_more s more r)

  so_far_one : (r : Slice PlaneLine) → IsSoFar d r []
  so_far_one r = record { chain = tt; all = (refl, tt) }

  abbrev found_legs : Slice PlaneLine → List (Slice PlaneLine) → Slice PlaneLine → List (Slice PlaneLine) → Bool → List (Slice PlaneLine)
  found_legs s more r rest b = cond b (legs_along d s (wide s more r) r rest) (leg_over s (last_slice s more) ∷ legs_along d r [] r rest)

  abbrev found_tests : Slice PlaneLine → List (Slice PlaneLine) → Slice PlaneLine → List (Slice PlaneLine) → Bool → Bool → List Entry
  found_tests s more r rest a b = cond a (tests_within d (start_of s) (wide s more r) (end_of r)) [] ++ cond b (tests_along d s (wide s more r) r rest) (tests_along d r [] r rest)

  step : (s : Slice PlaneLine) (more : List (Slice PlaneLine)) (r : Slice PlaneLine) (rest : List (Slice PlaneLine)) → IsSoFar d s more
      → (IsSoFar d s (more ++ r ∷ []) → IsFound d s (s ∷ (more ++ r ∷ []) ++ rest) (legs_along d s (map start_of (more ++ r ∷ [])) (last_slice s (more ++ r ∷ [])) rest) (before s (more ++ r ∷ []) ++ tests_along d s (map start_of (more ++ r ∷ [])) (last_slice s (more ++ r ∷ [])) rest))
      → IsFound d r (r ∷ rest) (legs_along d r [] r rest) (tests_along d r [] r rest)
      → (a b : Bool) → continues_run (last_slice s more) r ≡ a → passes_within d (start_of s) (wide s more r) (end_of r) ≡ b
      → IsFound d s (s ∷ more ++ r ∷ rest) (found_legs s more r rest (a && b)) (before s more ++ found_tests s more r rest a (a && b))
  step s more r rest h on new true true e k =
      let g = goes_on_is (last_slice s more) r e in
      let w = wide_is s more r g in
      let pass : passes_within d (start_of s) (later_breaks s more) (end_of r) ≡ true = ap (λ z. passes_within d (start_of s) z (end_of r)) (sym w) ∙ k in
      let f = on (so_far_more s more r h g pass) in
      let tests : before s (more ++ r ∷ []) ++ tests_along d s (map start_of (more ++ r ∷ [])) (last_slice s (more ++ r ∷ [])) rest ≡ before s more ++ (tests_within d (start_of s) (wide s more r) (end_of r) ++ tests_along d s (wide s more r) r rest) =
      ap (λ z. before s (more ++ r ∷ []) ++ z) (tests_more s more r rest)
      ∙ ap (λ z. z ++ tests_along d s (wide s more r) r rest) (before_more s more r h g)
      ∙ append_assoc (before s more) (tests_within d (start_of s) (later_breaks s more) (end_of r)) (tests_along d s (wide s more r) r rest)
      ∙ ap (λ z. before s more ++ (tests_within d (start_of s) z (end_of r) ++ tests_along d s (wide s more r) r rest)) (sym w) in
      subst (λ z. IsFound d s z (legs_along d s (wide s more r) r rest) (before s more ++ (tests_within d (start_of s) (wide s more r) (end_of r) ++ tests_along d s (wide s more r) r rest))) (ap (λ z. s ∷ z) (append_assoc more (r ∷ []) rest))
      (subst (λ z. IsFound d s (s ∷ (more ++ r ∷ []) ++ rest) z (before s more ++ (tests_within d (start_of s) (wide s more r) (end_of r) ++ tests_along d s (wide s more r) r rest))) (legs_more d s more r rest)
      (subst (λ z. IsFound d s (s ∷ (more ++ r ∷ []) ++ rest) (legs_along d s (map start_of (more ++ r ∷ [])) (last_slice s (more ++ r ∷ [])) rest) z) tests f))
  step s more r rest h on new true false e k =
      let g = goes_on_is (last_slice s more) r e in
      let w = wide_is s more r g in
      subst (λ z. IsFound d s (s ∷ more ++ r ∷ rest) (leg_over s (last_slice s more) ∷ legs_along d r [] r rest) (before s more ++ (tests_within d (start_of s) z (end_of r) ++ tests_along d r [] r rest))) (sym w)
      (bends s more r rest (legs_along d r [] r rest) (tests_along d r [] r rest) h g (ap (λ z. passes_within d (start_of s) z (end_of r)) (sym w) ∙ k) new)
  step s more r rest h on new false b e k = parts s more r rest (legs_along d r [] r rest) (tests_along d r [] r rest) h (λ g. true≢false (sym (is_goes_on (last_slice s more) r g) ∙ e)) new

  find : (s : Slice PlaneLine) (more rest : List (Slice PlaneLine)) → IsSoFar d s more → IsFound d s (s ∷ more ++ rest) (legs_along d s (map start_of more) (last_slice s more) rest) (before s more ++ tests_along d s (map start_of more) (last_slice s more) rest)
  find s more [] h = ends s more h
  find s more (r ∷ rest) h =
      step s more r rest h (λ k. find s (more ++ r ∷ []) rest k) (find r [] rest (so_far_one r)) (continues_run (last_slice s more) r) (passes_within d (start_of s) (wide s more r) (end_of r)) refl refl

  -- ---- all slices
  pub record AreFound (slices : List (Slice PlaneLine)) : Type 0 where
    pub runs : List RunOf
    pub of : AreRuns d runs slices
    pub legs : flat_map legs_of runs ≡ all_legs d slices
    pub tests : flat_map (tests_of_run d) runs ≡ all_tests d slices

  pub found : (slices : List (Slice PlaneLine)) → AreFound slices
  found [] = record { runs = []; of = refl; legs = refl; tests = refl }
  found (s ∷ rest) = let f = find s [] rest (so_far_one s) in record { runs = record { first = s; more = f.more; kept = f.kept } ∷ f.others; of = f.of; legs = f.legs; tests = f.tests }
