-- When one course has two pieces, and when two courses are equal on a span.
use Rattle.std.specs.Prelude.{◌≡◌, ◌↔◌, Bool, true, false}
use Rattle.mob_ratio.{specs.Ratio.{Ratio}, specs.Order.{before, up_to}}

-- the course w, used from lower to upper, has the values of c up to the middle and those of d from
-- there on
pub record HasBothParts {C B : Type 0} (value : C → Ratio → Ratio → Ratio → B) (w c d : C) (lower middle upper : Ratio) : Type 0 where
  pub first : (t : Ratio) → up_to lower t ≡ true → up_to t middle ≡ true → value w lower upper t ≡ value c lower middle t
  pub second : (t : Ratio) → up_to middle t ≡ true → up_to t upper ≡ true → value w lower upper t ≡ value d middle upper t

-- Two neighbouring spans, each with a course: from lower to middle and from middle to upper. One of
-- the two may be a single instant, but not both, and a course on a single instant has equal limits.
pub record AreNeighbours {C B : Type 0} (start end : C → B) (c d : C) (lower middle upper : Ratio) : Type 0 where
  pub long : before lower upper ≡ true
  pub in_order : (up_to lower middle ≡ true) × (up_to middle upper ≡ true)
  pub first_level : before lower middle ≡ false → start c ≡ end c
  pub second_level : before middle upper ≡ false → start d ≡ end d

-- on neighbouring spans, `continues` is true exactly if some course has both pieces
abbrev pub ContinuesAsOne : {C B : Type 0} → (C → Ratio → Ratio → Ratio → B) → (C → B) → (C → B) → (C → C → Ratio → Ratio → Ratio → Bool) → Type 0
ContinuesAsOne {C} value start end continues = (c d : C) (lower middle upper : Ratio) → AreNeighbours start end c d lower middle upper → (continues c d lower middle upper ≡ true) ↔ ((w : C) × HasBothParts value w c d lower middle upper)

-- two courses on one span that have the same values at two instants have the same values at every
-- instant
abbrev pub TwoInstantsFix : {C B : Type 0} → (C → Ratio → Ratio → Ratio → B) → Type 0
TwoInstantsFix {C} value = (c d : C) (lower upper s t : Ratio) → before lower upper ≡ true → before s t ≡ true → value c lower upper s ≡ value d lower upper s → value c lower upper t ≡ value d lower upper t → (x : Ratio) → value c lower upper x ≡ value d lower upper x
