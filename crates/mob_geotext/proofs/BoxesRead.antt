-- The answers of the reader of boxes, by what it reads.
use Rattle.std.{specs.Prelude.{◌&&◌, is_some, MatchOption}, proofs.Common.{◌≡◌, ℤ, Bool, true, false, cond, Option, Some, None, Ok, Err, refl, sym, subst, ◌∙◌}, proofs.lemmas.Bool.{and_parts}}
use Rattle.mob_language.{specs.Language.{Text}, specs.Readers.{◌>>=◌, all_of, within_blanks_at}, proofs.Exact.{is_said, not_said}}
use Rattle.mob_numeral.{specs.declared.fault.ReadText.TheVariants.{NotText, TooLarge, Unsound}, specs.Verdict.{Lit}}
use Rattle.mob_plane.specs.declared.point.Point.{Point}
use Rattle.mob_span.specs.Span.{SpanOf, has_instant}
use Rattle.mob_stbox.{specs.Areas.{area_between}, specs.Boxes.{BoxOf, span_stands}, specs.declared.area.Area.{Area}}
use Rattle.mob_geotext.{specs.declared.boxes.NotedBox.{NotedBox}, specs.declared.boxes.NotedBox.TheVariants.{Space, Time, Both}, specs.declared.boxes.NotedCorners.{NotedCorners}}
use Rattle.mob_geotext.{specs.Spans.{bounded}, specs.Boxes.{area_of, has_corners, has_sides, box_in_both, sides_said, boxes, written_box_at, with_instant, sound_box}, proofs.BoxesExact.{boxes_exact}}
use Rattle.mob_geotext.proofs.SpansRead.{true_false, has_bounds}

-- ---- the sides

-- the rectangle, if both corners fit
pub record HasArea (c : NotedCorners) : Type 0 where
  pub area : Area
  pub is : area_of c ≡ Some area

has_area : (c : NotedCorners) → has_corners c ≡ true → HasArea c
has_area c h = by_corners c.first c.second refl refl h
  where
    by_corners : (a b : Option Point) → c.first ≡ a → c.second ≡ b → (is_some a && is_some b) ≡ true → HasArea c
    by_corners (Some a) (Some b) e f h = record { area = area_between a b; is = rw (e, f) refl }
    by_corners (Some a) None e f h = absurd (true_false (sym h))
    by_corners None b e f h = absurd (true_false (sym h))

-- all coordinates and ends fit
pub record HasSides (b : NotedBox) : Type 0 where
  pub sides : BoxOf
  pub is : sides_said b ≡ Some sides

sides : (b : NotedBox) → has_sides b ≡ true → HasSides b
sides (Space c) h = let a = has_area c h in record { sides = record { space = Some a.area; time = None }; is = rw a.is refl }
sides (Time s) h = let r = has_bounds s h in record { sides = record { space = None; time = Some r.bounds }; is = rw r.is refl }
sides (Both c s) h =
    let k = and_parts (has_corners c) _ h in
    let a = has_area c k.0 in
    let r = has_bounds s k.1 in
    record { sides = record { space = Some a.area; time = Some r.bounds }; is = rw (a.is, r.is) refl }

-- ---- what the parts of the code make

-- both dimensions, if the span has an instant
pub both_sound : (a : Option Area) (o : Option SpanOf) → box_in_both a (o >>= bounded) ≡ (box_in_both a o >>= with_instant)
both_sound None o = refl
both_sound (Some x) None = refl
both_sound (Some x) (Some s) = by_test (has_instant s)
  where
    by_test : (b : Bool) → box_in_both (Some x) (cond b (Some s) None) ≡ cond b (Some (record { space = Some x; time = Some s })) None
    by_test true = refl
    by_test false = refl

-- the test for an instant, with a box that passes it and one that does not
kept : (r p : BoxOf) → ◌≡◌ {A = Option BoxOf} (Some p) (with_instant r) → (span_stands r.time ≡ true) × (r ≡ p)
kept r p e = by_test (span_stands r.time) refl e
  where
    by_test : (b : Bool) → span_stands r.time ≡ b → ◌≡◌ {A = Option BoxOf} (Some p) (cond b (Some r) None) → (span_stands r.time ≡ true) × (r ≡ p)
    by_test true h e = (h, cc)
    by_test false h e = absurd cc

not_kept : (r : BoxOf) → ◌≡◌ {A = Option BoxOf} None (with_instant r) → span_stands r.time ≡ false
not_kept r e = by_test (span_stands r.time) refl e
  where
    by_test : (b : Bool) → span_stands r.time ≡ b → ◌≡◌ {A = Option BoxOf} None (cond b (Some r) None) → span_stands r.time ≡ false
    by_test true h e = absurd cc
    by_test false h e = h

-- ---- the answers of the code

abbrev whole_box : ℤ → Text → Option NotedBox
whole_box day bytes = all_of (within_blanks_at (written_box_at day)) bytes

pub no_box : (day : ℤ) (text bytes : Text) → bytes ≡ text → ◌≡◌ {A = Option NotedBox} None (whole_box day bytes) → Lit (boxes day) text (Err NotText)
no_box day text bytes e h = λ s said. not_said (boxes_exact day) refl text bytes s e h said

module _ (day : ℤ) (text bytes : Text) (b : NotedBox) (e : bytes ≡ text) (h : ◌≡◌ {A = Option NotedBox} (Some b) (whole_box day bytes)) where
  pub large_box : has_sides b ≡ false → Lit (boxes day) text (Err TooLarge)
  large_box k = (b, is_said (boxes_exact day) text bytes b e h, (λ x. x), k)

  fitting : has_sides b ≡ true → has_sides b ≡ false → ⊥
  fitting k n = true_false (sym k ∙ n)

  pub unsound_box : has_sides b ≡ true → ◌≡◌ {A = Option BoxOf} None (sound_box b) → Lit (boxes day) text (Err Unsound)
  unsound_box k n =
      let s = sides b k in
      let empty : span_stands s.sides.time ≡ false = not_kept s.sides (subst (λ (o : Option BoxOf). ◌≡◌ {A = Option BoxOf} None (o >>= with_instant)) s.is n) in
      (b, is_said (boxes_exact day) text bytes b e h, (λ x. x), fitting k, subst (λ (o : Option BoxOf). MatchOption o ⊥ (λ r. span_stands r.time ≡ false)) (sym s.is) empty)

  pub box_read : (r : BoxOf) → has_sides b ≡ true → ◌≡◌ {A = Option BoxOf} (Some r) (sound_box b) → Lit (boxes day) text (Ok r)
  box_read r k n =
      let s = sides b k in
      let its = kept s.sides r (subst (λ (o : Option BoxOf). ◌≡◌ {A = Option BoxOf} (Some r) (o >>= with_instant)) s.is n) in
      let is : sides_said b ≡ Some r = subst (λ (x : BoxOf). sides_said b ≡ Some x) its.1 s.is in
      let sound : MatchOption (sides_said b) ⊥ (λ x. span_stands x.time ≡ false) → ⊥ = subst (λ (o : Option BoxOf). MatchOption o ⊥ (λ x. span_stands x.time ≡ false) → ⊥) (sym s.is) (λ (no : span_stands s.sides.time ≡ false). true_false (sym its.0 ∙ no)) in
      (b, is_said (boxes_exact day) text bytes b e h, (λ x. x), fitting k, sound, is)
