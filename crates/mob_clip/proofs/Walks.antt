-- The merge of two walks.
use Rattle.std.{specs.Prelude.{◌≡◌, Bool, true, false, cond, ℕ, List, [], ◌∷◌, ◌++◌, drop, refl}, proofs.Common.{ap, sym, ◌∙◌, subst, append_assoc, append-nil}}
use Rattle.mob_ratio.{specs.Ratio.{Ratio}, specs.Order.{before}, proofs.Order.{before-back, before-neither, before-from}}
use Rattle.mob_frac.specs.Formula.{AllFit}
use Rattle.mob_clip.{specs.declared.timeline.Change.{Change}, specs.declared.timeline.MetChange.{MetChange}, specs.declared.timeline.Timeline.{Timeline}}
use Rattle.mob_clip.specs.Timelines.{step_at, timeline_at, ChangesFit, IsNextChange}

module _ {T : Type 0} (mix : T → T → T) where
  -- the first change of a walk is after x
  abbrev pub IsAhead : Ratio → List (Change T) → Type 0
  IsAhead x [] = Unit {0}
  IsAhead x (c ∷ rest) = before x c.at ≡ true

  ahead_at : (g : T) (ys : List (Change T)) (x t : Ratio) → IsAhead x ys → before x t ≡ false → step_at g ys t ≡ g
  ahead_at g [] x t h k = refl
  ahead_at g (y ∷ ys) x t h k = rw (before-from t x y.at k h) refl

  -- a change of the first walk only
  pub met_left : (f g : T) (x : Change T) (xs ys : List (Change T)) → IsAhead x.at ys → IsNextChange mix f g (x ∷ xs) ys (record { at = x.at; there = mix x.there g; after = mix x.after g }) x.after g xs ys
  met_left f g x xs ys h = record {
    whole = λ rest t k. by rest t k (before t x.at) refl (before x.at t) refl;
    after = refl;
    fit = λ parts k l. (k.0, k.1, l);
  }
    where
      by : (rest : List (Change T)) (t : Ratio) → step_at (mix x.after g) rest t ≡ mix (step_at x.after xs t) (step_at g ys t) → (a : Bool) → before t x.at ≡ a → (b : Bool) → before x.at t ≡ b
          → cond a (mix f g) (cond b (step_at (mix x.after g) rest t) (mix x.there g)) ≡ mix (cond a f (cond b (step_at x.after xs t) x.there)) (step_at g ys t)
      by rest t k true p b q = ap (mix f) (sym (ahead_at g ys x.at t h (before-back t x.at p)))
      by rest t k false p true q = k
      by rest t k false p false q = ap (mix x.there) (sym (ahead_at g ys x.at t h q))

  -- a change of the second walk only
  pub met_right : (f g : T) (xs : List (Change T)) (y : Change T) (ys : List (Change T)) → IsAhead y.at xs → IsNextChange mix f g xs (y ∷ ys) (record { at = y.at; there = mix f y.there; after = mix f y.after }) f y.after xs ys
  met_right f g xs y ys h = record {
    whole = λ rest t k. by rest t k (before t y.at) refl (before y.at t) refl;
    after = refl;
    fit = λ parts k l. (l.0, k, l.1);
  }
    where
      by : (rest : List (Change T)) (t : Ratio) → step_at (mix f y.after) rest t ≡ mix (step_at f xs t) (step_at y.after ys t) → (a : Bool) → before t y.at ≡ a → (b : Bool) → before y.at t ≡ b
          → cond a (mix f g) (cond b (step_at (mix f y.after) rest t) (mix f y.there)) ≡ mix (step_at f xs t) (cond a g (cond b (step_at y.after ys t) y.there))
      by rest t k true p b q = ap (λ z. mix z g) (sym (ahead_at f xs y.at t h (before-back t y.at p)))
      by rest t k false p true q = k
      by rest t k false p false q = ap (λ z. mix z y.there) (sym (ahead_at f xs y.at t h q))

  -- a change of both at the same instant
  pub met_both : (f g : T) (x : Change T) (xs : List (Change T)) (y : Change T) (ys : List (Change T)) → x.at ≡ y.at → IsNextChange mix f g (x ∷ xs) (y ∷ ys) (record { at = x.at; there = mix x.there y.there; after = mix x.after y.after }) x.after y.after xs ys
  met_both f g x xs y ys e = record {
    whole = λ rest t k. subst (λ z. cond (before t x.at) (mix f g) (cond (before x.at t) (step_at (mix x.after y.after) rest t) (mix x.there y.there)) ≡ mix (cond (before t x.at) f (cond (before x.at t) (step_at x.after xs t) x.there)) (cond (before t z) g (cond (before z t) (step_at y.after ys t) y.there))) e (by rest t k (before t x.at) (before x.at t));
    after = refl;
    fit = λ parts k l. (k.0, k.1, l.1);
  }
    where
      by : (rest : List (Change T)) (t : Ratio) → step_at (mix x.after y.after) rest t ≡ mix (step_at x.after xs t) (step_at y.after ys t) → (a b : Bool)
          → cond a (mix f g) (cond b (step_at (mix x.after y.after) rest t) (mix x.there y.there)) ≡ mix (cond a f (cond b (step_at x.after xs t) x.there)) (cond a g (cond b (step_at y.after ys t) y.there))
      by rest t k true b = refl
      by rest t k false true = k
      by rest t k false false = refl

  pub left_met : (f g : T) (xs ys : List (Change T)) (i j k n : ℕ) (x y : Change T) (m : MetChange T) → drop i xs ≡ x ∷ drop k xs → drop j ys ≡ y ∷ drop n ys → before x.at y.at ≡ true → m ≡ record { change = record { at = x.at; there = mix x.there g; after = mix x.after g }; left = x.after; right = g; i = k; j = j } → IsNextChange mix f g (drop i xs) (drop j ys) m.change m.left m.right (drop m.i xs) (drop m.j ys)
  left_met f g xs ys i j k n x y m e d h q = rw (q, e, d) (met_left f g x (drop k xs) (y ∷ drop n ys) h)

  pub right_met : (f g : T) (xs ys : List (Change T)) (i j k n : ℕ) (x y : Change T) (m : MetChange T) → drop i xs ≡ x ∷ drop k xs → drop j ys ≡ y ∷ drop n ys → before y.at x.at ≡ true → m ≡ record { change = record { at = y.at; there = mix f y.there; after = mix f y.after }; left = f; right = y.after; i = i; j = n } → IsNextChange mix f g (drop i xs) (drop j ys) m.change m.left m.right (drop m.i xs) (drop m.j ys)
  right_met f g xs ys i j k n x y m e d h q = rw (q, e, d) (met_right f g (x ∷ drop k xs) y (drop n ys) h)

  pub both_met : (f g : T) (xs ys : List (Change T)) (i j k n : ℕ) (x y : Change T) (m : MetChange T) → drop i xs ≡ x ∷ drop k xs → drop j ys ≡ y ∷ drop n ys → before x.at y.at ≡ false → before y.at x.at ≡ false → m ≡ record { change = record { at = x.at; there = mix x.there y.there; after = mix x.after y.after }; left = x.after; right = y.after; i = k; j = n } → IsNextChange mix f g (drop i xs) (drop j ys) m.change m.left m.right (drop m.i xs) (drop m.j ys)
  both_met f g xs ys i j k n x y m e d a b q = rw (q, e, d) (met_both f g x (drop k xs) y (drop n ys) (before-neither x.at y.at a b))

  -- the other walk has ended
  pub left_alone : (f g : T) (xs ys : List (Change T)) (i j k : ℕ) (x : Change T) (m : MetChange T) → drop i xs ≡ x ∷ drop k xs → drop j ys ≡ [] → m ≡ record { change = record { at = x.at; there = mix x.there g; after = mix x.after g }; left = x.after; right = g; i = k; j = j } → IsNextChange mix f g (drop i xs) (drop j ys) m.change m.left m.right (drop m.i xs) (drop m.j ys)
  left_alone f g xs ys i j k x m e d q = rw (q, e, d) (met_left f g x (drop k xs) [] tt)

  pub right_alone : (f g : T) (xs ys : List (Change T)) (i j n : ℕ) (y : Change T) (m : MetChange T) → drop i xs ≡ [] → drop j ys ≡ y ∷ drop n ys → m ≡ record { change = record { at = y.at; there = mix f y.there; after = mix f y.after }; left = f; right = y.after; i = i; j = n } → IsNextChange mix f g (drop i xs) (drop j ys) m.change m.left m.right (drop m.i xs) (drop m.j ys)
  right_alone f g xs ys i j n y m e d q = rw (q, e, d) (met_right f g [] y (drop n ys) tt)

  -- the merge so far, and the rest of both walks
  pub record IsMerging (f0 g0 : T) (all all' : List (Change T)) (f g : T) (xs ys out : List (Change T)) : Type 0 where
    pub whole : (rest : List (Change T)) (t : Ratio) → step_at (mix f g) rest t ≡ mix (step_at f xs t) (step_at g ys t) → step_at (mix f0 g0) (out ++ rest) t ≡ mix (step_at f0 all t) (step_at g0 all' t)
    pub fit : (parts : Ratio → List Ratio) → ChangesFit parts all → ChangesFit parts all' → ChangesFit parts out × ChangesFit parts xs × ChangesFit parts ys

  fit_more : (parts : Ratio → List Ratio) (out : List (Change T)) (c : Change T) → ChangesFit parts out → AllFit (parts c.at) → ChangesFit parts (out ++ c ∷ [])
  fit_more parts [] c h k = (k, tt)
  fit_more parts (d ∷ out) c h k = (h.0, fit_more parts out c h.1 k)

  pub merging_step : (f0 g0 : T) (all all' : List (Change T)) (f g f' g' : T) (xs ys xs' ys' out out' : List (Change T)) (c : Change T) → out' ≡ out ++ c ∷ [] → IsNextChange mix f g xs ys c f' g' xs' ys' → IsMerging f0 g0 all all' f g xs ys out → IsMerging f0 g0 all all' f' g' xs' ys' out'
  merging_step f0 g0 all all' f g f' g' xs ys xs' ys' out out' c e m h = record {
    whole = λ rest t k. ap (λ z. step_at (mix f0 g0) (z ++ rest) t) e ∙ ap (λ z. step_at (mix f0 g0) z t) (append_assoc out (c ∷ []) rest) ∙ h.whole (c ∷ rest) t (m.whole rest t k);
    fit = λ parts k l. let w = h.fit parts k l in let v = m.fit parts w.1 w.2 in (subst (ChangesFit parts) (sym e) (fit_more parts out c w.0 v.0), v.1, v.2);
  }

  pub merging_end : (f0 g0 : T) (all all' : List (Change T)) (f g : T) (xs ys out : List (Change T)) → xs ≡ [] → ys ≡ [] → IsMerging f0 g0 all all' f g xs ys out → (t : Ratio) → step_at (mix f0 g0) out t ≡ mix (step_at f0 all t) (step_at g0 all' t)
  merging_end f0 g0 all all' f g xs ys out e k h t = ap (λ z. step_at (mix f0 g0) z t) (sym (append-nil out)) ∙ h.whole [] t (rw (e, k) refl)

  pub merging_fit : (f0 g0 : T) (all all' : List (Change T)) (f g : T) (xs ys out : List (Change T)) → IsMerging f0 g0 all all' f g xs ys out → (parts : Ratio → List Ratio) → ChangesFit parts all → ChangesFit parts all' → ChangesFit parts out
  merging_fit f0 g0 all all' f g xs ys out h parts k l = (h.fit parts k l).0

  pub merged_values : (a b : Timeline T) (first f g : T) (xs ys xs' ys' out : List (Change T)) → first ≡ mix a.first b.first → xs ≡ a.changes.items → ys ≡ b.changes.items → xs' ≡ [] → ys' ≡ [] → IsMerging a.first b.first xs ys f g xs' ys' out → (t : Ratio) → step_at first out t ≡ mix (timeline_at a t) (timeline_at b t)
  merged_values a b first f g xs ys xs' ys' out e k l m n h t = ap (λ z. step_at z out t) e ∙ merging_end a.first b.first xs ys f g xs' ys' out m n h t ∙ ap (λ z. mix (step_at a.first z t) (step_at b.first ys t)) k ∙ ap (λ z. mix (timeline_at a t) (step_at b.first z t)) l

  pub merged_fit : (a b : Timeline T) (f g : T) (xs ys xs' ys' out : List (Change T)) → xs ≡ a.changes.items → ys ≡ b.changes.items → IsMerging a.first b.first xs ys f g xs' ys' out → (parts : Ratio → List Ratio) → ChangesFit parts a.changes.items → ChangesFit parts b.changes.items → ChangesFit parts out
  merged_fit a b f g xs ys xs' ys' out k l h parts p q = merging_fit a.first b.first xs ys f g xs' ys' out h parts (subst (ChangesFit parts) (sym k) p) (subst (ChangesFit parts) (sym l) q)
