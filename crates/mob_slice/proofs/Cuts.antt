-- Cutting a slice.
use Rattle.std.{specs.Prelude.{◌≡◌, Bool, true, false, List, [], ◌++◌, refl, MatchResult, Result, Ok, Err}, proofs.Common.{arith, ap, sym, ◌∙◌, subst}}
use Rattle.mob_ratio.{specs.Ratio.{Ratio}, specs.Order.{before, up_to, same}, proofs.Order.{before-back, before-trans, before-neither, same_exact, up_to-trans, strictly-later}}
use Rattle.mob_frac.specs.Formula.{AllFit}
use Rattle.mob_span.{specs.Span.{SpanOf, has, has_instant}, specs.Neighbours.{is_inside}, proofs.SpanLemmas.{some_upto}}
use Rattle.mob_slice.{specs.Course.{IsCourse}, specs.Look.{IsLooked, IsLookFault}, specs.declared.slice.Slice.{Slice}, specs.Sides.{HasValues, at_ends}, specs.Cut.{slice_value}}
use Rattle.mob_slice.specs.declared.formula.Formula.{Formula}
use Rattle.mob_list.{specs.declared.fault.Fault.{Fault}, specs.declared.fault.Fault.TheVariants.{Because, NoMemory}}
pub use Rattle.mob_frac.proofs.Fitting.{all_both, all_first, all_second}

pub inside_has : (s : SpanOf) (t : Ratio) → up_to s.lower t ≡ true → up_to t s.upper ≡ true → same t s.lower ≡ false → same t s.upper ≡ false → has s t ≡ true
unfolding same
inside_has s t h k i j = grind (arith, h, k, i, j)

upto_low : (s r : SpanOf) → is_inside s r ≡ true → up_to s.lower r.lower ≡ true
upto_low s r h = grind (arith, h, before-back s.lower r.lower)

upto_high : (s r : SpanOf) → is_inside s r ≡ true → up_to r.upper s.upper ≡ true
upto_high s r h = grind (arith, h, before-back r.upper s.upper)

pub low_after : (s r : SpanOf) (t : Ratio) → is_inside s r ≡ true → t ≡ r.lower → up_to s.lower t ≡ true
low_after s r t h e = rw e (upto_low s r h)

pub low_until : (s r : SpanOf) (t : Ratio) → is_inside s r ≡ true → has_instant r ≡ true → t ≡ r.lower → up_to t s.upper ≡ true
low_until s r t h k e = rw e (up_to-trans r.lower r.upper s.upper (some_upto r k) (upto_high s r h))

pub high_after : (s r : SpanOf) (t : Ratio) → is_inside s r ≡ true → has_instant r ≡ true → t ≡ r.upper → up_to s.lower t ≡ true
high_after s r t h k e = rw e (up_to-trans s.lower r.lower r.upper (upto_low s r h) (some_upto r k))

pub high_until : (s r : SpanOf) (t : Ratio) → is_inside s r ≡ true → t ≡ r.upper → up_to t s.upper ≡ true
high_until s r t h e = rw e (upto_high s r h)

long_of : (s r : SpanOf) → is_inside s r ≡ true → before r.lower r.upper ≡ true → before s.lower s.upper ≡ true
long_of s r h k = let a = upto_low s r h in let b = upto_high s r h in grind (arith, a, b, k, before-trans s.lower r.lower r.upper, before-trans s.lower r.upper s.upper, before-neither s.lower r.lower, before-neither r.upper s.upper)

only_at : (r : SpanOf) (t : Ratio) → before r.lower r.upper ≡ false → r.lower ≡ r.upper → has r t ≡ true → r.lower ≡ t
only_at r t h e k = before-neither r.lower t (grind (arith, h, e, k, before-back t r.upper)) (grind (arith, h, e, k, before-back r.lower t))

module _ {C B : Type 0} {steady copies : Bool} {value : C → Ratio → Ratio → Ratio → B} {start end : C → B} {can_make : B → B → Type 0} {make : B → B → C} {continues : C → C → Ratio → Ratio → Ratio → Bool} {parts : C → Ratio → Ratio → Ratio → List Ratio} (laws : IsCourse steady copies value start end can_make make continues parts) where
  made_by : (s : Slice C) (r : SpanOf) → is_inside s.span r ≡ true → has_instant r ≡ true → (b : Bool) → before r.lower r.upper ≡ b → can_make (value s.course s.span.lower s.span.upper r.lower) (value s.course s.span.lower s.span.upper r.upper)
  made_by s r h k true e = (laws.part s.course s.span.lower s.span.upper r.lower r.upper (long_of s.span r h e) e).made
  made_by s r h k false e =
      let at : r.lower ≡ r.upper = before-neither r.lower r.upper e (let u = some_upto r k in grind (arith, u)) in
      subst (λ t. can_make (value s.course s.span.lower s.span.upper r.lower) (value s.course s.span.lower s.span.upper t)) at (laws.can_level (value s.course s.span.lower s.span.upper r.lower))

  pub can_cut : (s : Slice C) (r : SpanOf) (a b : B) → is_inside s.span r ≡ true → has_instant r ≡ true → a ≡ value s.course s.span.lower s.span.upper r.lower → b ≡ value s.course s.span.lower s.span.upper r.upper → can_make a b
  can_cut s r a b h k e f = rw (e, f) (made_by s r h k (before r.lower r.upper) refl)

  same_by : (s : Slice C) (r : SpanOf) (t : Ratio) → is_inside s.span r ≡ true → has_instant r ≡ true → has r t ≡ true → (b : Bool) → before r.lower r.upper ≡ b → value (make (value s.course s.span.lower s.span.upper r.lower) (value s.course s.span.lower s.span.upper r.upper)) r.lower r.upper t ≡ value s.course s.span.lower s.span.upper t
  same_by s r t h k i true e = (laws.part s.course s.span.lower s.span.upper r.lower r.upper (long_of s.span r h e) e).same t
  same_by s r t h k i false e =
      let at : r.lower ≡ r.upper = before-neither r.lower r.upper e (let u = some_upto r k in grind (arith, u)) in
      let v : Ratio → B = λ t. value s.course s.span.lower s.span.upper t in
      let m = make (v r.lower) (v r.upper) in
      subst (λ z. value m r.lower r.upper z ≡ v z) (only_at r t e at i) (laws.at_lower m r.lower r.upper ∙ laws.start_made (v r.lower) (v r.upper) (made_by s r h k false e))

  pub cut_is : (s : Slice C) (r : SpanOf) (a b : B) → is_inside s.span r ≡ true → has_instant r ≡ true → a ≡ value s.course s.span.lower s.span.upper r.lower → b ≡ value s.course s.span.lower s.span.upper r.upper → HasValues value start end (slice_value value s) r (record { span = r; course = make a b })
  cut_is s r a b h k e f =
      let c = can_cut s r a b h k e f in
      record {
        on = refl;
        sound = record {
          some = k;
          level = λ n.
              let at : r.lower ≡ r.upper = before-neither r.lower r.upper n (let u = some_upto r k in grind (arith, u)) in
              laws.start_made a b c ∙ e ∙ ap (λ t. value s.course s.span.lower s.span.upper t) at ∙ sym f ∙ sym (laws.end_made a b c);
        };
        from = laws.start_made a b c ∙ e;
        to = laws.end_made a b c ∙ f;
        same = λ t i. ap (λ x. value (make x b) r.lower r.upper t) e ∙ ap (λ y. value (make (value s.course s.span.lower s.span.upper r.lower) y) r.lower r.upper t) f ∙ same_by s r t h k i (before r.lower r.upper) refl;
      }

  -- one value on a span
  pub level_is : (x a b : B) (r : SpanOf) → has_instant r ≡ true → a ≡ x → b ≡ x → HasValues value start end (λ t. x) r (record { span = r; course = make a b })
  level_is x a b r k e f =
      let c : can_make a b = rw (e, f) (laws.can_level x) in
      record {
        on = refl;
        sound = record { some = k; level = λ n. laws.start_made a b c ∙ e ∙ sym f ∙ sym (laws.end_made a b c) };
        from = laws.start_made a b c ∙ e;
        to = laws.end_made a b c ∙ f;
        same = λ t i. rw (e, f) (laws.level x r.lower r.upper t);
      }

  pub can_be_level : (x a b : B) → a ≡ x → b ≡ x → can_make a b
  can_be_level x a b e f = rw (e, f) (laws.can_level x)

  -- the limits at the ends
  pub at_low : (s : Slice C) (t : Ratio) (r : Result B (Fault Formula)) → same t s.span.lower ≡ true → MatchResult r (λ b. b ≡ start s.course) (IsLookFault copies []) → IsLooked copies (parts s.course s.span.lower s.span.upper t) (value s.course s.span.lower s.span.upper t) r
  at_low s t r h m =
      let e : s.span.lower ≡ t = sym ((same_exact t s.span.lower).0 h) in
      subst (λ z. IsLooked copies (parts s.course s.span.lower s.span.upper z) (value s.course s.span.lower s.span.upper z) r) e (rw (laws.lower_parts s.course s.span.lower s.span.upper, laws.at_lower s.course s.span.lower s.span.upper) (looked r (start s.course) m))
    where
      looked : (r : Result B (Fault Formula)) (x : B) → MatchResult r (λ b. b ≡ x) (IsLookFault copies []) → IsLooked copies [] x r
      looked (Ok b) x m = (m, tt)
      looked (Err f) x m = m

  pub at_high : (s : Slice C) (t : Ratio) (r : Result B (Fault Formula)) → up_to s.span.lower t ≡ true → same t s.span.lower ≡ false → same t s.span.upper ≡ true → MatchResult r (λ b. b ≡ end s.course) (IsLookFault copies []) → IsLooked copies (parts s.course s.span.lower s.span.upper t) (value s.course s.span.lower s.span.upper t) r
  at_high s t r a n h m =
      let e : s.span.upper ≡ t = sym ((same_exact t s.span.upper).0 h) in
      let long : before s.span.lower s.span.upper ≡ true = rw e (strictly-later s.span.lower t a n) in
      subst (λ z. IsLooked copies (parts s.course s.span.lower s.span.upper z) (value s.course s.span.lower s.span.upper z) r) e (rw (laws.upper_parts s.course s.span.lower s.span.upper, laws.at_upper s.course s.span.lower s.span.upper long) (looked r (end s.course) m))
    where
      looked : (r : Result B (Fault Formula)) (x : B) → MatchResult r (λ b. b ≡ x) (IsLookFault copies []) → IsLooked copies [] x r
      looked (Ok b) x m = (m, tt)
      looked (Err f) x m = m

pub fault_first : (copies : Bool) (p q : List Ratio) (f : Fault Formula) → IsLookFault copies p f → IsLookFault copies (p ++ q) f
fault_first copies p q (Because f) h = (h.0, λ all. h.1 (all_first p q all))
fault_first copies p q NoMemory h = h

pub fault_second : (copies : Bool) (p q : List Ratio) (f : Fault Formula) → IsLookFault copies q f → IsLookFault copies (p ++ q) f
fault_second copies p q (Because f) h = (h.0, λ all. h.1 (all_second p q all))
fault_second copies p q NoMemory h = h

-- the reason why the first or the second end has no value
module _ (parts : Ratio → List Ratio) (r : SpanOf) where
  pub first_fault : (copies : Bool) (t : Ratio) (f : Fault Formula) → t ≡ r.lower → IsLookFault copies (parts t) f → IsLookFault copies (at_ends parts r) f
  first_fault copies t f e h = fault_first copies (parts r.lower) (parts r.upper) f (subst (λ z. IsLookFault copies (parts z) f) e h)

  pub second_fault : (copies : Bool) (t : Ratio) (f : Fault Formula) → t ≡ r.upper → IsLookFault copies (parts t) f → IsLookFault copies (at_ends parts r) f
  second_fault copies t f e h = fault_second copies (parts r.lower) (parts r.upper) f (subst (λ z. IsLookFault copies (parts z) f) e h)

  pub both_fit : (t u : Ratio) → t ≡ r.lower → u ≡ r.upper → AllFit (parts t) → AllFit (parts u) → AllFit (at_ends parts r)
  both_fit t u e f h k = all_both (parts r.lower) (parts r.upper) (subst (λ z. AllFit (parts z)) e h) (subst (λ z. AllFit (parts z)) f k)

pub at_of : {C B : Type 0} (value : C → Ratio → Ratio → Ratio → B) (s : Slice C) (t u : Ratio) (b : B) → t ≡ u → b ≡ value s.course s.span.lower s.span.upper t → b ≡ value s.course s.span.lower s.span.upper u
at_of value s t u b e h = h ∙ ap (λ z. value s.course s.span.lower s.span.upper z) e

pub parts_at : (parts : Ratio → List Ratio) (t u : Ratio) → t ≡ u → AllFit (parts t) → AllFit (parts u)
parts_at parts t u e h = subst (λ z. AllFit (parts z)) e h
