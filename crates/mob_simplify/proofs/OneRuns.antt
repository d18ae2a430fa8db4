-- A list of slices has one list of runs with their kept breaks.
use Rattle.std.{specs.Prelude.{◌≡◌, false, List, [], ◌∷◌, ◌++◌, refl}, specs.List.{flat_map}, proofs.Common.{ap, sym, ◌∙◌, subst, append_assoc, true≢false}}
use Rattle.mob_ratio.{specs.Ratio.{Ratio, ◌*ℚ◌}, specs.Sign.{nil}}
use Rattle.mob_lift.proofs.Unique.{unique}
use Rattle.mob_slice.{specs.PlaneLaws.{plane_laws}, specs.Slices.{OfHead}, specs.declared.line.PlaneLine.{PlaneLine}, specs.declared.slice.Slice.{Slice}}
use Rattle.mob_simplify.{specs.Breaks.{passes_within}, specs.Runs.{GoesOn, last_slice, IsChain, KeptBreak, AllPass, IsNextKept, AreKeptBreaks, RunOf, first_kept, AreRuns}}
use Rattle.mob_simplify.{specs.Thinned.{IsThin, AreNear, legs_of}, specs.Walk.{all_legs}, specs.declared.breaks.Break.{Break}, proofs.Answering.{IsNormalLines, At, is_near, is_same}}
use Rattle.mob_simplify.{proofs.Convexity.{no_square}, proofs.Found.{found}}

first_same : {A : Type 0} {x y : A} {xs ys : List A} → x ∷ xs ≡ y ∷ ys → x ≡ y
first_same e = cc

rest_same : {A : Type 0} {x y : A} {xs ys : List A} → x ∷ xs ≡ y ∷ ys → xs ≡ ys
rest_same e = cc

none_some : {A : Type 0} {x : A} {xs : List A} → [] ≡ x ∷ xs → ⊥
none_some e = cc

-- ---- the slices of a run
more_same : (s : Slice PlaneLine) (xs ys rest rest' : List (Slice PlaneLine)) → xs ++ rest ≡ ys ++ rest' → IsChain s xs → IsChain s ys → OfHead (λ s r. ¬ GoesOn s r) (last_slice s xs) rest → OfHead (λ s r. ¬ GoesOn s r) (last_slice s ys) rest' → (xs ≡ ys) × (rest ≡ rest')
more_same s [] [] rest rest' e c k h i = (refl, e)
more_same s [] (y ∷ ys) rest rest' e c k h i = absurd ((subst (λ z. OfHead (λ s r. ¬ GoesOn s r) s z) e h) k.0)
more_same s (x ∷ xs) [] rest rest' e c k h i = absurd ((subst (λ z. OfHead (λ s r. ¬ GoesOn s r) s z) (sym e) i) c.0)
more_same s (x ∷ xs) (y ∷ ys) rest rest' e c k h i =
    let f = sym (first_same e) in
    let w = more_same x xs ys rest rest' (rest_same e) c.1 (subst (λ z. IsChain z ys) f k.1) h (subst (λ z. OfHead (λ s r. ¬ GoesOn s r) (last_slice z ys) rest') f i) in
    (ap (λ z. z ∷ xs) (sym f) ∙ ap (λ z. y ∷ z) w.0, w.1)

-- ---- the kept breaks
module _ (d : Ratio) (p : Break) where
  -- if x is the last that passes, no later one does
  not_further : (bs : List Break) (x y : Break) (u ys v : List Break) → u ≡ ys ++ y ∷ v → AllPass d p (bs ++ x ∷ []) (ys ++ y ∷ []) → OfHead (λ m n. passes_within d p (bs ++ m ∷ []) n ≡ false) x u → ⊥
  not_further bs x y u [] v e h k = true≢false (sym h.0 ∙ subst (λ z. OfHead (λ m n. passes_within d p (bs ++ m ∷ []) n ≡ false) x z) e k)
  not_further bs x y u (q ∷ ys) v e h k = true≢false (sym h.0 ∙ subst (λ z. OfHead (λ m n. passes_within d p (bs ++ m ∷ []) n ≡ false) x z) e k)

  moved : (bs cs : List Break) (x : Break) (u : List Break) → bs ≡ cs → OfHead (λ m n. passes_within d p bs n ≡ false) x u → OfHead (λ m n. passes_within d p cs n ≡ false) x u
  moved bs cs x u e h = subst (λ z. OfHead (λ m n. passes_within d p z n ≡ false) x u) e h

  plain : (bs : List Break) (x : Break) (u : List Break) → OfHead (λ m n. passes_within d p (bs ++ x ∷ []) n ≡ false) x u → OfHead (λ m n. passes_within d p (bs ++ m ∷ []) n ≡ false) x u
  plain bs x [] h = tt
  plain bs x (n ∷ u) h = h

  known : (bs xs : List Break) (x : Break) (u : List Break) → OfHead (λ m n. passes_within d p (bs ++ (xs ++ m ∷ [])) n ≡ false) x u → OfHead (λ m n. passes_within d p (bs ++ (xs ++ x ∷ [])) n ≡ false) x u
  known bs xs x [] h = tt
  known bs xs x (n ∷ u) h = h

  open_at : (bs xs : List Break) (x : Break) (u : List Break) → OfHead (λ m n. passes_within d p (bs ++ (xs ++ x ∷ [])) n ≡ false) x u → OfHead (λ m n. passes_within d p (bs ++ (xs ++ m ∷ [])) n ≡ false) x u
  open_at bs xs x [] h = tt
  open_at bs xs x (n ∷ u) h = h

  deeper : (bs xs : List Break) (b x : Break) (u : List Break) → OfHead (λ m n. passes_within d p (bs ++ ((b ∷ xs) ++ m ∷ [])) n ≡ false) x u → OfHead (λ m n. passes_within d p ((bs ++ b ∷ []) ++ (xs ++ m ∷ [])) n ≡ false) x u
  deeper bs xs b x u h =
      let e : bs ++ ((b ∷ xs) ++ x ∷ []) ≡ (bs ++ b ∷ []) ++ (xs ++ x ∷ []) = sym (append_assoc bs (b ∷ []) (xs ++ x ∷ [])) in
      open_at (bs ++ b ∷ []) xs x u (moved (bs ++ ((b ∷ xs) ++ x ∷ [])) ((bs ++ b ∷ []) ++ (xs ++ x ∷ [])) x u e (known bs (b ∷ xs) x u h))

  next_same : (bs xs ys : List Break) (x y : Break) (u v : List Break) → xs ++ x ∷ u ≡ ys ++ y ∷ v → AllPass d p bs (xs ++ x ∷ []) → AllPass d p bs (ys ++ y ∷ [])
      → OfHead (λ m n. passes_within d p (bs ++ (xs ++ m ∷ [])) n ≡ false) x u → OfHead (λ m n. passes_within d p (bs ++ (ys ++ m ∷ [])) n ≡ false) y v → (x ≡ y) × (u ≡ v)
  next_same bs [] [] x y u v e h k i j = (first_same e, rest_same e)
  next_same bs [] (b ∷ ys) x y u v e h k i j = absurd (not_further bs x y u ys v (rest_same e) (subst (λ z. AllPass d p (bs ++ z ∷ []) (ys ++ y ∷ [])) (sym (first_same e)) k.1) (plain bs x u (known bs [] x u i)))
  next_same bs (b ∷ xs) [] x y u v e h k i j = absurd (not_further bs y x v xs u (sym (rest_same e)) (subst (λ z. AllPass d p (bs ++ z ∷ []) (xs ++ x ∷ [])) (first_same e) h.1) (plain bs y v (known bs [] y v j)))
  next_same bs (b ∷ xs) (c ∷ ys) x y u v e h k i j =
      let f = sym (first_same e) in
      next_same (bs ++ b ∷ []) xs ys x y u v (rest_same e) h.1 (subst (λ z. AllPass d p (bs ++ z ∷ []) (ys ++ y ∷ [])) f k.1) (deeper bs xs b x u i)
      (deeper bs ys b y v (subst (λ z. OfHead (λ m n. passes_within d p (bs ++ ((z ∷ ys) ++ m ∷ [])) n ≡ false) y v) f j))

one_next : (d : Ratio) (p k m : KeptBreak) → IsNextKept d p k → IsNextKept d p m → k ≡ m
one_next d p k m h i =
    let w = next_same d p.at [] h.skipped i.skipped k.at m.at k.later m.later (sym h.split ∙ i.split) h.pass i.pass h.last i.last in
    λ j. record { at = w.0 j; later = w.1 j }

none_joined : (xs : List Break) (x : Break) (u : List Break) → [] ≡ xs ++ x ∷ u → ⊥
none_joined [] x u e = none_some e
none_joined (y ∷ xs) x u e = none_some e

one_kept : (d : Ratio) (p : KeptBreak) (ks ms : List KeptBreak) → AreKeptBreaks d p ks → AreKeptBreaks d p ms → ks ≡ ms
one_kept d p [] [] h i = refl
one_kept d p [] (m ∷ ms) h i = absurd (none_joined i.0.skipped m.at m.later (sym h ∙ i.0.split))
one_kept d p (k ∷ ks) [] h i = absurd (none_joined h.0.skipped k.at k.later (sym i ∙ h.0.split))
one_kept d p (k ∷ ks) (m ∷ ms) h i =
    let e = one_next d p k m h.0 i.0 in
    ap (λ z. z ∷ ks) e ∙ ap (λ z. m ∷ z) (one_kept d m ks ms (subst (λ z. AreKeptBreaks d z ks) e h.1) i.1)

-- ---- all runs
one_run : (d : Ratio) (g h : RunOf) → g.first ≡ h.first → g.more ≡ h.more → AreKeptBreaks d (first_kept g) g.kept → AreKeptBreaks d (first_kept h) h.kept → g ≡ h
one_run d g h e f k m =
    let same : first_kept g ≡ first_kept h = λ i. first_kept (record { first = e i; more = f i; kept = [] }) in
    let kept : g.kept ≡ h.kept = one_kept d (first_kept h) g.kept h.kept (subst (λ z. AreKeptBreaks d z g.kept) same k) m in
    λ i. record { first = e i; more = f i; kept = kept i }

pub one_runs : (d : Ratio) (gs hs : List RunOf) (a b : List (Slice PlaneLine)) → a ≡ b → AreRuns d gs a → AreRuns d hs b → gs ≡ hs
one_runs d [] [] a b e k m = refl
one_runs d [] (h ∷ hs) a b e k m = absurd (none_some (sym k ∙ e ∙ m.1))
one_runs d (g ∷ gs) [] a b e k m = absurd (none_some (sym m ∙ sym e ∙ k.1))
one_runs d (g ∷ gs) (h ∷ hs) a b e k m =
    let l = sym k.1 ∙ e ∙ m.1 in
    let f = sym (first_same l) in
    let w = more_same g.first g.more h.more k.0 m.0 (rest_same l) k.2 (subst (λ z. IsChain z h.more) f m.2) k.3 (subst (λ z. OfHead (λ s r. ¬ GoesOn s r) (last_slice z h.more) m.0) f m.3) in
    let r = one_run d g h (sym f) w.0 k.4 m.4 in
    ap (λ z. z ∷ gs) r ∙ ap (λ z. h ∷ z) (one_runs d gs hs k.0 m.0 w.1 k.5 m.5)

-- ---- the simplified moving point
pub same_values : (d : Ratio) (slices thin : List (Slice PlaneLine)) → IsThin d slices thin → (t : Ratio) → At thin t ≡ At (all_legs d slices) t
same_values d slices thin h t =
    let f = found d slices in
    h.same t ∙ ap (λ z. At (flat_map legs_of z) t) (one_runs d h.runs f.runs slices slices refl h.of f.of) ∙ ap (λ z. At z t) f.legs

pub one_thin : (d : Ratio) (slices a b : List (Slice PlaneLine)) → IsThin d slices a → IsThin d slices b → a ≡ b
one_thin d slices a b h k = unique plane_laws a b h.normal.chained k.normal.chained (λ t. same_values d slices a h t ∙ sym (same_values d slices b k t))

pub thin_near : (d : Ratio) (slices thin : List (Slice PlaneLine)) → IsThin d slices thin → (t : Ratio) → AreNear (d *ℚ d) (At thin t) (At slices t)
thin_near d slices thin h = is_near d slices thin (same_values d slices thin h)

pub thin_nil : (slices thin : List (Slice PlaneLine)) → IsNormalLines slices → IsThin nil slices thin → thin ≡ slices
thin_nil slices thin n h = is_same nil slices thin (no_square nil refl) n h.normal (thin_near nil slices thin h)
