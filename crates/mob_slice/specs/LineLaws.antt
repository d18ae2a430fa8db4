-- Lines satisfy the laws of courses.
use Rattle.std.{specs.Prelude.{◌≡◌, Bool, true, false, refl, ◌||◌, [], ⊤}, proofs.lemmas.Bool.{and_parts, and_from}, proofs.Common.{sym, arith, true≢false}}
use Rattle.mob_ratio.{specs.Ratio.{Ratio}, specs.Order.{same}, specs.Line.{line_at, line_continues}, proofs.Order.{same_exact}}
use Rattle.mob_ratio.proofs.LineAt.{line_at-lower, line_at-upper, line_at-level, line_at-part}
use Rattle.mob_frac.specs.Formula.{line_parts}
use Rattle.mob_slice.{specs.Course.{IsCourse}, specs.Lines.{line_value_of, line_continued, line_parts_of}, specs.declared.line.Line.{Line}}

or_true : (a b c : Bool) → b ≡ true → (a || b || c) ≡ true
or_true a b c h = grind (arith, h)

-- the numbers at the two ends are stored
pub none_at_lower : (x0 x1 l u : Ratio) → line_parts x0 x1 l u l ≡ []
none_at_lower x0 x1 l u = rw ((same_exact l l).1 refl) refl

pub none_at_upper : (x0 x1 l u : Ratio) → line_parts x0 x1 l u u ≡ []
none_at_upper x0 x1 l u = rw (or_true (same u l) (same u u) (same x0 x1) ((same_exact u u).1 refl)) refl

-- the meaning of one line continuing as another
pub goes_on_is : (x0 x1 y0 y1 l m u : Ratio) → line_continues x0 x1 y0 y1 l m u ≡ true → (x1 ≡ y0) × (line_at x0 y1 l u m ≡ x1)
unfolding line_continues
goes_on_is x0 x1 y0 y1 l m u h = let p = and_parts (same x1 y0) (same (line_at x0 y1 l u m) x1) h in ((same_exact x1 y0).0 p.0, (same_exact (line_at x0 y1 l u m) x1).0 p.1)

pub is_goes_on : (x0 x1 y0 y1 l m u : Ratio) → x1 ≡ y0 → line_at x0 y1 l u m ≡ x1 → line_continues x0 x1 y0 y1 l m u ≡ true
unfolding line_continues
is_goes_on x0 x1 y0 y1 l m u e f = and_from (same x1 y0) (same (line_at x0 y1 l u m) x1) ((same_exact x1 y0).1 e) ((same_exact (line_at x0 y1 l u m) x1).1 f)

pub line_laws : IsCourse {C = Line} {B = Ratio} false false line_value_of (λ c. c.from) (λ c. c.to) (λ a b. ⊤) (λ a b. record { from = a; to = b }) line_continued line_parts_of
line_laws = record {
  at_lower = λ c l u. line_at-lower c.from c.to l u;
  at_upper = λ c l u h. line_at-upper c.from c.to l u h;
  by_ends = λ c d p q. λ i. record { from = p i; to = q i };
  start_made = λ a b h. refl;
  end_made = λ a b h. refl;
  can_level = λ a. tt;
  level = λ a l u t. line_at-level a l u t;
  part = λ c l u from to h k. record { made = tt; same = λ t. line_at-part c.from c.to l u from to t h k };
  whole = λ c d l m u. (
    λ h. let p = goes_on_is c.from c.to d.from d.to l m u h in record { made = tt; met = p.0; straight = p.1 },
    λ w. is_goes_on c.from c.to d.from d.to l m u w.met w.straight,
  );
  one_value = λ h. absurd (true≢false (sym h));
  one_end = λ h. absurd (true≢false (sym h));
  no_parts = λ h. absurd (true≢false (sym h));
  no_copies = λ h. refl;
  lower_parts = λ c l u. none_at_lower c.from c.to l u;
  upper_parts = λ c l u. none_at_upper c.from c.to l u;
  any_ends = λ h a b. tt;
}
