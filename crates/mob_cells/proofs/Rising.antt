-- Sorted instants of a span.
use Rattle.std.{specs.Prelude.{Contains}, specs.List.{AllByRecursion}, specs.List.Sorted.{IsSortedBy}, specs.Ordering.{is_lt}, specs.declared.cmp.Ordering.TheVariants.{Less, Equal, Greater}}
use Rattle.std.{proofs.Common.{◌≡◌, ℕ, Bool, true, false, true≢false, List, [], ◌∷◌, arith, subst, cond, ◌<◌, ◌+◌, suc, length, get_or, Some, None, refl}, proofs.lemmas.List.Sorted.{sorted_far}}
use Rattle.std.proofs.lemmas.List.MinMax.{ranks_by}
use Rattle.mob_list.{proofs.Each.{each_both}, proofs.Entries.{each_of_all, first_in}}
use Rattle.mob_ratio.{specs.Ratio.{Ratio}, specs.Order.{before, up_to}, specs.Sign.{opposite, root_at}, proofs.Order.{before-weak}}
use Rattle.mob_span.specs.Span.{SpanOf}
use Rattle.mob_slice.{specs.Ranks.{compare_ratio}, specs.RankLaws.{ranking_ratio}}
use Rattle.mob_cells.{specs.declared.linear.Ends.{Ends}, specs.Roots.{IsLevel, root_of, roots, as_list}, specs.Cells.{IsRisingFrom}, proofs.Zeros.{one_root}}

-- ---- sorted instants rise
-- no instant is before x
abbrev Leads : Ratio → List Ratio → Type 0
Leads x [] = Unit {0}
Leads x (y ∷ ys) = (before y x ≡ false) × Leads x ys

-- none is before an earlier one
abbrev pub Rises : List Ratio → Type 0
Rises [] = Unit {0}
Rises (x ∷ xs) = Leads x xs × Rises xs

rising_on : (x : Ratio) (xs : List Ratio) → Leads x xs → Rises xs → IsRisingFrom x xs
rising_on x [] h up = tt
rising_on x (y ∷ xs) h up = (grind (arith, h.0), rising_on y xs up.0 up.1)

not_before : (a b : Ratio) → is_lt (compare_ratio a b) ≡ false → before a b ≡ false
not_before a b h = by (before a b) refl h
  where
    by : (d : Bool) → before a b ≡ d → is_lt (cond d Less (cond (before b a) Greater Equal)) ≡ false → d ≡ false
    by true e k = absurd (true≢false k)
    by false e k = refl

leads_each : (x : Ratio) (ys : List Ratio) → ((k : ℕ) (d : Ratio) → k < length ys → is_lt (compare_ratio (get_or ys k d) x) ≡ false) → Leads x ys
leads_each x [] f = tt
leads_each x (y ∷ ys) f = (not_before y x (f 0 y (omega arith)), leads_each x ys (λ k d h. f (suc k) d (omega arith)))

pub rises_sorted : (xs : List Ratio) → IsSortedBy (λ a b. is_lt (compare_ratio a b)) xs → Rises xs
rises_sorted [] up = tt
rises_sorted (x ∷ xs) up = (
  leads_each x xs (λ k d h. sorted_far (λ a b. is_lt (compare_ratio a b)) (ranks_by ranking_ratio.total (λ (z : Ratio). z)) (x ∷ xs) up 0 (suc k) d (omega arith) (omega arith)),
  rises_sorted xs (λ k d low h.
      let next : suc k + 1 ≡ suc (k + 1) = omega arith in
      subst (λ n. is_lt (compare_ratio (get_or (x ∷ xs) n d) (get_or (x ∷ xs) (suc k) d)) ≡ false) next (up (suc k) d (omega arith) (omega arith))),
)

-- ---- instants between the ends of a span
abbrev pub IsBetween : SpanOf → Ratio → Type 0
IsBetween s r = (up_to s.lower r ≡ true) × (up_to r s.upper ≡ true)

root_between : (s : SpanOf) (f : Ends) → IsLevel s f → AllByRecursion (IsBetween s) (as_list (root_of s f))
root_between s f level = by (opposite f.at_lower f.at_upper) refl
  where
    by : (o : Bool) → opposite f.at_lower f.at_upper ≡ o → AllByRecursion (IsBetween s) (as_list (cond o (Some (root_at f.at_lower f.at_upper s.lower s.upper)) None))
    by false e = tt
    by true e = let m = one_root s f level e in ((before-weak s.lower _ m.after, before-weak _ s.upper m.until), tt)

pub roots_between : (s : SpanOf) (fs : List Ends) → AllByRecursion (IsLevel s) fs → AllByRecursion (IsBetween s) (roots s fs)
roots_between s [] h = tt
roots_between s (f ∷ fs) h = each_both (IsBetween s) (as_list (root_of s f)) (roots s fs) (root_between s f h.0) (roots_between s fs h.1)

-- sorted instants of a span rise from its lower end
pub rising_cuts : (s : SpanOf) (cuts sorted : List Ratio) → AllByRecursion (IsBetween s) cuts → ((r : Ratio) → Contains sorted r → Contains cuts r) → IsSortedBy (λ a b. is_lt (compare_ratio a b)) sorted → IsRisingFrom s.lower sorted
rising_cuts s cuts [] h b up = tt
rising_cuts s cuts (r ∷ sorted) h b up =
    let rises = rises_sorted (r ∷ sorted) up in
    ((each_of_all (IsBetween s) cuts h r (b r (first_in r sorted))).0, rising_on r sorted rises.0 rises.1)
