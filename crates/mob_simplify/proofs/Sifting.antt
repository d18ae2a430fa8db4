-- The tests that are skipped, and the breaks that are not held any longer.
use Rattle.std.{specs.Prelude.{◌≡◌, Bool, true, false, ◌&&◌, List, [], ◌∷◌, ◌++◌, refl}, specs.List.{AllByRecursion}, proofs.Common.{ap, sym, ◌∙◌, subst, append_assoc, append-nil}}
use Rattle.mob_list.proofs.Each.{each_both, each_on}
use Rattle.mob_ratio.{specs.Ratio.{Ratio, ◌*ℚ◌}, specs.Order.{before, up_to}, proofs.Order.{before-weak, up_to-before, up_to-self}}
use Rattle.mob_simplify.{specs.Breaks.{off_course, passes_within}, specs.Skips.{AreSure, DecideAlike, DecidesFor, IsInCircle, IsKnownBetween, has_velocity, is_sure, rate_east, rate_north, velocities_near}}
use Rattle.mob_simplify.{specs.declared.breaks.Break.{Break}, specs.declared.velocities.Sure.{Sure}, specs.declared.velocities.Sure.TheVariants.{All}, proofs.InTurn.{IsWithin}, proofs.Squares.{near_by_square}}

-- ---- tests of two lists
and_assoc : (a b c : Bool) → (a && (b && c)) ≡ ((a && b) && c)
and_assoc true b c = refl
and_assoc false b c = refl

and_last : (a b : Bool) → (a && b) ≡ (b && (a && true))
and_last true true = refl
and_last true false = refl
and_last false true = refl
and_last false false = refl

abbrev is_near : Ratio → Break → Break → Break → Bool
is_near d p n b = up_to (off_course p n b) (d *ℚ d)

pub passes_both : (d : Ratio) (p : Break) (xs ys : List Break) (n : Break) → passes_within d p (xs ++ ys) n ≡ (passes_within d p xs n && passes_within d p ys n)
passes_both d p [] ys n = refl
passes_both d p (b ∷ xs) ys n = ap (λ z. is_near d p n b && z) (passes_both d p xs ys n) ∙ and_assoc (is_near d p n b) (passes_within d p xs n) (passes_within d p ys n)

-- ---- the breaks that are held
-- b is between p and q, or is q
abbrev pub IsUntil : Ratio → Ratio → Break → Type 0
IsUntil l u b = (before l b.instant ≡ true) × (up_to b.instant u ≡ true)

-- they are between p and each later break
pub until_within : (l u t : Ratio) (bs : List Break) → before u t ≡ true → AllByRecursion (IsUntil l u) bs → AllByRecursion (IsWithin l t) bs
until_within l u t bs later = each_on (IsUntil l u) (IsWithin l t) (λ b h. (h.0, up_to-before b.instant u t h.1 later)) bs

-- with q itself, the breaks between p and q are such breaks
pub until_more : (l : Ratio) (q : Break) (held more : List Break) → before l q.instant ≡ true → more ≡ held ++ q ∷ [] → AllByRecursion (IsWithin l q.instant) held → AllByRecursion (IsUntil l q.instant) more
until_more l q held more long put h =
    subst (AllByRecursion (IsUntil l q.instant)) (sym put)
    (each_both (IsUntil l q.instant) held (q ∷ []) (each_on (IsWithin l q.instant) (IsUntil l q.instant) (λ b k. (k.0, before-weak b.instant q.instant k.1)) held h) ((long, up_to-self q.instant), tt))

-- the breaks before the rest are sifted: left are q and those for which it does not decide
pub record IsSifting (d : Ratio) (p q : Break) (all left rest : List Break) : Type 0 where
  pub others : List Break
  pub first : left ≡ q ∷ others
  pub alike : (n : Break) → before q.instant n.instant ≡ true → passes_within d p (left ++ rest) n ≡ passes_within d p (all ++ q ∷ []) n
  pub done : AllByRecursion (IsUntil p.instant q.instant) left
  pub todo : AllByRecursion (IsWithin p.instant q.instant) rest

pub sifting_start : (d : Ratio) (p q : Break) (all left : List Break) → before p.instant q.instant ≡ true → AllByRecursion (IsWithin p.instant q.instant) all → left ≡ q ∷ [] → IsSifting d p q all left all
sifting_start d p q all left long h e = record {
  others = [];
  first = e;
  alike = λ n later. ap (λ z. passes_within d p (z ++ all) n) e ∙ and_last (is_near d p n q) (passes_within d p all n) ∙ sym (passes_both d p all (q ∷ []) n);
  done = subst (AllByRecursion (IsUntil p.instant q.instant)) (sym e) ((long, up_to-self q.instant), tt);
  todo = h;
}

module _ (d : Ratio) (p q : Break) (all left rest : List Break) (b : Break) (later : List Break) (e : rest ≡ b ∷ later) (m : IsSifting d p q all left rest) where
  here : IsWithin p.instant q.instant b
  here = (subst (AllByRecursion (IsWithin p.instant q.instant)) e m.todo).0

  -- where q is near, so is b
  dropped_by : (n : Break) (others : List Break) (c : Bool) → is_near d p n q ≡ c → (c ≡ true → is_near d p n b ≡ true) → (c && passes_within d p (others ++ later) n) ≡ (c && passes_within d p (others ++ b ∷ later) n)
  dropped_by n others true h k =
      passes_both d p others later n
      ∙ ap (λ z. passes_within d p others n && (z && passes_within d p later n)) (sym (k refl))
      ∙ sym (passes_both d p others (b ∷ later) n)
  dropped_by n others false h k = refl

  pub sifting_drop : DecidesFor d p q b → IsSifting d p q all left later
  sifting_drop decides = record {
    others = m.others;
    first = m.first;
    alike = λ n later_than.
        ap (λ z. passes_within d p (z ++ later) n) m.first
        ∙ dropped_by n m.others (is_near d p n q) refl (λ k. decides n later_than k)
        ∙ ap (λ z. passes_within d p (z ++ b ∷ later) n) (sym m.first)
        ∙ ap (λ z. passes_within d p (left ++ z) n) (sym e)
        ∙ m.alike n later_than;
    done = m.done;
    todo = (subst (AllByRecursion (IsWithin p.instant q.instant)) e m.todo).1;
  }

  pub sifting_keep : (more : List Break) → more ≡ left ++ b ∷ [] → IsSifting d p q all more later
  sifting_keep more put = record {
    others = m.others ++ b ∷ [];
    first = put ∙ ap (λ z. z ++ b ∷ []) m.first;
    alike = λ n later_than.
        ap (λ z. passes_within d p (z ++ later) n) put
        ∙ ap (λ z. passes_within d p z n) (append_assoc left (b ∷ []) later)
        ∙ ap (λ z. passes_within d p (left ++ z) n) (sym e)
        ∙ m.alike n later_than;
    done = subst (AllByRecursion (IsUntil p.instant q.instant)) (sym put) (each_both (IsUntil p.instant q.instant) left (b ∷ []) m.done ((here.0, before-weak b.instant q.instant here.1), tt));
    todo = (subst (AllByRecursion (IsWithin p.instant q.instant)) e m.todo).1;
  }

pub sifting_end : (d : Ratio) (p q : Break) (all left rest : List Break) → rest ≡ [] → IsSifting d p q all left rest → DecideAlike d p q.instant left (all ++ q ∷ []) × AllByRecursion (IsUntil p.instant q.instant) left
sifting_end d p q all left rest e m = (λ n later. ap (λ z. passes_within d p z n) (sym (append-nil left) ∙ ap (λ z. left ++ z) (sym e)) ∙ m.alike n later, m.done)

-- ---- the tests of those that are held
-- the breaks before the rest are near
pub record IsTesting (d : Ratio) (p : Break) (all rest : List Break) (n : Break) : Type 0 where
  pub ahead : passes_within d p rest n ≡ passes_within d p all n
  pub hold : AllByRecursion (IsWithin p.instant n.instant) rest

module _ (d : Ratio) (p : Break) (all rest : List Break) (n : Break) where
  pub testing_next : (later : List Break) (b : Break) → rest ≡ b ∷ later → true ≡ up_to (off_course p n b) (d *ℚ d) → IsTesting d p all rest n → IsTesting d p all later n
  testing_next later b e near m = record {
    ahead = sym (ap (λ r. passes_within d p r n) e ∙ ap (λ z. z && passes_within d p later n) (sym near)) ∙ m.ahead;
    hold = (subst (AllByRecursion (IsWithin p.instant n.instant)) e m.hold).1;
  }

  pub testing_fails : (later : List Break) (b : Break) → rest ≡ b ∷ later → false ≡ up_to (off_course p n b) (d *ℚ d) → IsTesting d p all rest n → false ≡ passes_within d p all n
  testing_fails later b e far m = sym (ap (λ r. passes_within d p r n) e ∙ ap (λ z. z && passes_within d p later n) (sym far)) ∙ m.ahead

  pub testing_end : rest ≡ [] → IsTesting d p all rest n → true ≡ passes_within d p all n
  testing_end e m = sym (ap (λ r. passes_within d p r n) e) ∙ m.ahead

-- ---- one more break between
module _ (d : Ratio) (p : Break) (u : Ratio) (here : Break) (until : up_to u here.instant ≡ true) where
  pub alike_more : (held between : List Break) → DecideAlike d p u held between → DecideAlike d p here.instant (held ++ here ∷ []) (between ++ here ∷ [])
  alike_more held between h n later =
      passes_both d p held (here ∷ []) n
      ∙ ap (λ z. z && passes_within d p (here ∷ []) n) (h n (up_to-before u here.instant n.instant until later))
      ∙ sym (passes_both d p between (here ∷ []) n)

  pub sure_more : (h : Ratio) (between : List Break) (sure more : Sure) → before p.instant here.instant ≡ true → IsInCircle h d
      → ((x y : Ratio) → is_sure more x y ≡ true → is_sure sure x y ≡ true)
      → ((x y : Ratio) → is_sure more x y ≡ true → has_velocity (velocities_near h p here) x y ≡ true)
      → AreSure d p u between sure → AreSure d p here.instant (between ++ here ∷ []) more
  sure_more h between sure more long inside narrow near known n later k =
      passes_both d p between (here ∷ []) n
      ∙ ap (λ z. z && passes_within d p (here ∷ []) n) (known n (up_to-before u here.instant n.instant until later) (narrow (rate_east p n) (rate_north p n) k))
      ∙ ap (λ z. z && true) (near_by_square h d p here n long later inside (near (rate_east p n) (rate_north p n) k))

-- ---- the test of a break, by what is known
-- by the breaks that are held, which say the same as those before and the last one
pub by_held : (d : Ratio) (p : Break) (u : Ratio) (now then between : List Break) (n : Break) (pass : Bool) → before u n.instant ≡ true → DecideAlike d p u now then → DecideAlike d p u then between → pass ≡ passes_within d p now n → pass ≡ passes_within d p between n
by_held d p u now then between n pass later h k e = e ∙ h n later ∙ k n later

-- nothing is between
pub known_nothing : (d : Ratio) (p : Break) (u : Ratio) (held : List Break) (sure : Sure) → held ≡ [] → sure ≡ All → IsKnownBetween d p u [] held sure
known_nothing d p u held sure e k = record {
  alike = λ n later. ap (λ z. passes_within d p z n) e;
  all_near = λ n later h. refl;
}
