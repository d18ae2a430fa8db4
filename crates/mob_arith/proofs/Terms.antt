-- The result, on one piece, of an operation that is computed from the limits.
use Rattle.std.{specs.Prelude.{◌≡◌, Bool, true, false, List, ◌++◌, Some, None, refl}, proofs.Common.{ap, sym, ◌∙◌, subst, inl, inr}}
use Rattle.mob_ratio.{specs.Ratio.{Ratio}, specs.Order.{before}}
use Rattle.mob_frac.specs.Formula.{AllFit}
use Rattle.mob_span.{specs.Span.{SpanOf, has, has_instant}, specs.Meets.{PieceOf}}
use Rattle.mob_slice.{specs.Course.{IsCourse}, specs.Look.{IsLookFault}, specs.Sides.{SideOf, side_at, side_parts, at_ends, HasValues}, specs.Entries.{Entry, IsFirst}}
use Rattle.mob_slice.{specs.declared.slice.Slice.{Slice}, specs.declared.formula.Formula.{Formula}, specs.declared.formula.Formula.TheVariants.{F2}, proofs.Cuts.{all_both, all_first, all_second}}
use Rattle.mob_list.{specs.Faults.{OnCause}, specs.declared.fault.Fault.{Fault}, specs.declared.fault.Fault.TheVariants.{Because, NoMemory}}
use Rattle.mob_arith.{specs.Summed.{IsTermwise}, specs.Termwise.{entries_at_ends}}

-- a slice on a span of one instant has equal limits
level_of : {C B : Type 0} (value : C → Ratio → Ratio → Ratio → B) (start end : C → B) (e : Ratio → B) (r : SpanOf) (n : Slice C) → HasValues value start end e r n → before r.lower r.upper ≡ false → start n.course ≡ end n.course
level_of value start end e r n i z = i.sound.level (subst (λ s. before s.lower s.upper ≡ false) (sym i.on) z)

value_of : {C B : Type 0} (value : C → Ratio → Ratio → Ratio → B) (start end : C → B) (e : Ratio → B) (r : SpanOf) (n : Slice C) → HasValues value start end e r n → (t : Ratio) → has r t ≡ true → value n.course r.lower r.upper t ≡ e t
value_of value start end e r n i t z = subst (λ s. value n.course s.lower s.upper t ≡ e t) i.on (i.same t z)

-- the operation on the limits of two slices on one span makes a slice that has the operation at
-- each instant
module _ {D Z : Type 0} {steady copies : Bool} {result : D → Ratio → Ratio → Ratio → Z} {first last : D → Z} {can_make : Z → Z → Type 0} {make : Z → Z → D} {continues : D → D → Ratio → Ratio → Ratio → Bool} {lines : D → Ratio → Ratio → Ratio → List Ratio} (laws : IsCourse steady copies result first last can_make make continues lines)
    {A X B Y : Type 0} (value : A → Ratio → Ratio → Ratio → X) (start end : A → X) (value' : B → Ratio → Ratio → Ratio → Y) (start' end' : B → Y) (op : X → Y → Z) (law : (c : A) (d : B) (lower upper : Ratio) → IsTermwise value start end value' start' end' result can_make make op c d lower upper)
    (f : Ratio → X) (g : Ratio → Y) (r : SpanOf) (l : Slice A) (m : Slice B) (h : HasValues value start end f r l) (k : HasValues value' start' end' g r m) (a b : Z) (p : a ≡ op (start l.course) (start' m.course)) (q : b ≡ op (end l.course) (end' m.course)) where
  pub can_be : can_make a b
  can_be = rw (p, q) ((law l.course m.course r.lower r.upper).made)

  pub has_values : has_instant r ≡ true → HasValues result first last (λ t. op (f t) (g t)) r (record { span = r; course = make a b })
  has_values s = record {
    on = refl;
    sound = record {
      some = s;
      level = λ z. laws.start_made a b can_be ∙ p ∙ ap (λ x. op x (start' m.course)) (level_of value start end f r l h z) ∙ ap (λ y. op (end l.course) y) (level_of value' start' end' g r m k z) ∙ sym q ∙ sym (laws.end_made a b can_be);
    };
    from = laws.start_made a b can_be ∙ p ∙ ap (λ x. op x (start' m.course)) h.from ∙ ap (λ y. op (f r.lower) y) k.from;
    to = laws.end_made a b can_be ∙ q ∙ ap (λ x. op x (end' m.course)) h.to ∙ ap (λ y. op (f r.upper) y) k.to;
    same = λ t z. ap (λ x. result (make x b) r.lower r.upper t) p ∙ ap (λ y. result (make (op (start l.course) (start' m.course)) y) r.lower r.upper t) q ∙ (law l.course m.course r.lower r.upper).same t ∙ ap (λ x. op x (value' m.course r.lower r.upper t)) (value_of value start end f r l h t z) ∙ ap (λ y. op (f t) y) (value_of value' start' end' g r m k t z);
  }

-- the entries of one piece
module _ {A X B Y : Type 0} (value : A → Ratio → Ratio → Ratio → X) (lines : A → Ratio → Ratio → Ratio → List Ratio) (value' : B → Ratio → Ratio → Ratio → Y) (lines' : B → Ratio → Ratio → Ratio → List Ratio) (parts : X → Y → List Ratio) (p : PieceOf (SideOf A X) (SideOf B Y)) where
  abbrev lefts : List Ratio
  lefts = at_ends (side_parts lines p.left) p.span

  abbrev rights : List Ratio
  rights = at_ends (side_parts lines' p.right) p.span

  abbrev entries : List Entry
  entries = entries_at_ends value lines value' lines' parts p

  pub left_fails : (copies : Bool) (f : Fault Formula) → IsLookFault copies lefts f → OnCause (λ f. IsFirst entries (Some f)) f
  left_fails copies (Because f) h = inr (λ k. h.1 (all_first lefts rights k), ap Some h.0)
  left_fails copies NoMemory h = tt

  pub right_fails : (copies : Bool) (f : Fault Formula) → IsLookFault copies rights f → OnCause (λ f. IsFirst entries (Some f)) f
  right_fails copies (Because f) h = inr (λ k. h.1 (all_second lefts rights k), ap Some h.0)
  right_fails copies NoMemory h = tt

  module _ (fl : AllFit lefts) (fr : AllFit rights) where
    -- the operation on the limits does not fit
    pub limits_fail : (f : Formula) (x : X) (y : Y) (z : X) (w : Y) → x ≡ side_at value p.left p.span.lower → y ≡ side_at value' p.right p.span.lower → z ≡ side_at value p.left p.span.upper → w ≡ side_at value' p.right p.span.upper → f ≡ F2 → ¬ AllFit (parts x y ++ parts z w) → IsFirst entries (Some f)
    limits_fail f x y z w i j k l e n = inl (all_both lefts rights fl fr, inr (rw (i, j, k, l) at n, ap Some e))

    pub lower_fails : (f : Formula) (x : X) (y : Y) → x ≡ side_at value p.left p.span.lower → y ≡ side_at value' p.right p.span.lower → f ≡ F2 → ¬ AllFit (parts x y) → IsFirst entries (Some f)
    lower_fails f x y i j e n =
        let z = side_at value p.left p.span.upper in
        let w = side_at value' p.right p.span.upper in
        limits_fail f x y z w i j refl refl e (λ k. n (all_first (parts x y) (parts z w) k))

    pub upper_fails : (f : Formula) (x : X) (y : Y) → x ≡ side_at value p.left p.span.upper → y ≡ side_at value' p.right p.span.upper → f ≡ F2 → ¬ AllFit (parts x y) → IsFirst entries (Some f)
    upper_fails f x y i j e n =
        let z = side_at value p.left p.span.lower in
        let w = side_at value' p.right p.span.lower in
        limits_fail f z w x y refl refl i j e (λ k. n (all_second (parts z w) (parts x y) k))

    pub all_fit : (x : X) (y : Y) (z : X) (w : Y) → x ≡ side_at value p.left p.span.lower → y ≡ side_at value' p.right p.span.lower → z ≡ side_at value p.left p.span.upper → w ≡ side_at value' p.right p.span.upper → AllFit (parts x y) → AllFit (parts z w) → IsFirst entries None
    all_fit x y z w i j k l a b =
        let first = parts (side_at value p.left p.span.lower) (side_at value' p.right p.span.lower) in
        let next = parts (side_at value p.left p.span.upper) (side_at value' p.right p.span.upper) in
        inl (all_both lefts rights fl fr, inl (all_both first next (rw (i, j) at a) (rw (k, l) at b), refl))
