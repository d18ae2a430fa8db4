-- The order of the items.
use Rattle.std.{specs.Prelude.{cond, Contains, nat_lt, ◌==◌}, specs.BinaryHeap.{IsUpperBound}, specs.Ordering.{is_lt, ordering_then}, specs.declared.cmp.Ordering.{Ordering}}
use Rattle.std.{specs.declared.cmp.Ordering.TheVariants.{Less, Equal, Greater}, proofs.Common.{◌≡◌, ◌⊎◌, inl, inr, ℕ, ◌<◌, ◌≤◌, Bool, true, false, List, arith, refl, sym, subst, true≢false}}
use Rattle.mob_ratio.{specs.Ratio.{Ratio}, specs.Order.{before, up_to}, proofs.Order.{before-neither, before-weak, up_to-self, up_to-trans}}
use Rattle.mob_list.proofs.Entries.{each_of_all}
use Rattle.mob_knn.{specs.Gaps.{gap_reaches}, specs.declared.gaps.kind.Gap.{Gap}, specs.declared.gaps.kind.Gap.TheVariants.{Apart, AtLeast}, specs.declared.waiting.Waiting.{Waiting}}
use Rattle.mob_knn.specs.Waits.{rank_of, waiting_number, waiting_cmp}
use borrow.Author.Tests.{ltb-false, eqb-true, eqb-false}

-- ---- numbers

-- a gap that reaches a number reaches each greater one
pub reaches_on : (g : Gap) (a b : Ratio) → gap_reaches g a ≡ true → up_to a b ≡ true → gap_reaches g b ≡ true
reaches_on Apart a b h k = absurd (true≢false (sym h))
reaches_on (AtLeast g) a b h k = up_to-trans g a b h k

-- ---- the first item

-- y is not taken before x
abbrev pub IsNext : Waiting → Waiting → Type 0
IsNext x y = (before x.key y.key ≡ true) ⊎ ((y.key ≡ x.key) × ((rank_of x.what < rank_of y.what) ⊎ ((rank_of y.what ≡ rank_of x.what) × (waiting_number x.what ≤ waiting_number y.what))))

not_less : (a b : Ordering) → is_lt (ordering_then a b) ≡ false → (a ≡ Greater) ⊎ ((a ≡ Equal) × (is_lt b ≡ false))
not_less Less b h = absurd (true≢false h)
not_less Equal b h = inr (refl, h)
not_less Greater b h = inl refl

ratio_greater : (a b : Ratio) (s t : Bool) → before a b ≡ s → before b a ≡ t → cond s Less (cond t Greater Equal) ≡ Greater → before b a ≡ true
ratio_greater a b true t e f h = absurd cc
ratio_greater a b false true e f h = f
ratio_greater a b false false e f h = absurd cc

ratio_equal : (a b : Ratio) (s t : Bool) → before a b ≡ s → before b a ≡ t → cond s Less (cond t Greater Equal) ≡ Equal → a ≡ b
ratio_equal a b true t e f h = absurd cc
ratio_equal a b false true e f h = absurd cc
ratio_equal a b false false e f h = before-neither a b e f

nat_greater : (a b : ℕ) (s t : Bool) → nat_lt a b ≡ s → (a == b) ≡ t → cond s Less (cond t Equal Greater) ≡ Greater → b < a
nat_greater a b true t e f h = absurd cc
nat_greater a b false true e f h = absurd cc
nat_greater a b false false e f h = let lt = ltb-false a b e in let ne = eqb-false a b f in omega (arith, lt, ne)

nat_equal : (a b : ℕ) (s t : Bool) → nat_lt a b ≡ s → (a == b) ≡ t → cond s Less (cond t Equal Greater) ≡ Equal → a ≡ b
nat_equal a b true t e f h = absurd cc
nat_equal a b false true e f h = eqb-true a b f
nat_equal a b false false e f h = absurd cc

nat_not_less : (a b : ℕ) (s : Bool) → nat_lt a b ≡ s → is_lt (cond s Less (cond (a == b) Equal Greater)) ≡ false → b ≤ a
nat_not_less a b true e h = absurd (true≢false h)
nat_not_less a b false e h = ltb-false a b e

next_of : (x y : Waiting) → is_lt (waiting_cmp x y) ≡ false → IsNext x y
next_of x y h = elim (not_less _ _ h) [
  | inl g ↦ inl (ratio_greater y.key x.key _ _ refl refl g)
  | inr e ↦ inr (
    ratio_equal y.key x.key _ _ refl refl e.0,
    elim (not_less _ _ e.1) [
      | inl g ↦ inl (nat_greater (rank_of y.what) (rank_of x.what) _ _ refl refl g)
      | inr f ↦ inr (nat_equal (rank_of y.what) (rank_of x.what) _ _ refl refl f.0, nat_not_less (waiting_number y.what) (waiting_number x.what) _ refl f.1)
    ],
  )
]

pub next_each : (x : Waiting) (rest : List Waiting) → IsUpperBound waiting_cmp x rest → (y : Waiting) → Contains rest y → IsNext x y
next_each x rest h y c = next_of x y (each_of_all (λ z. is_lt (waiting_cmp x z) ≡ false) rest h y c)

pub next_key : (x y : Waiting) → IsNext x y → up_to x.key y.key ≡ true
next_key x y (inl h) = before-weak x.key y.key h
next_key x y (inr h) = subst (λ z. up_to x.key z ≡ true) (sym h.0) (up_to-self x.key)
