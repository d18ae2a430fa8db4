-- A normal list of steps stays normal as constant lines, and keeps its values.
use Rattle.std.{specs.Prelude.{◌≡◌, ◌≢◌, Bool, false, cond, List, [], ◌∷◌, ◌++◌, map, Some, refl, ℕ, ◌≤◌, length}, proofs.Common.{ap, sym, ◌∙◌, append-nil, drop, true≢false}}
use Rattle.std.proofs.lemmas.List.{drop_all}
use Rattle.mob_ratio.{specs.Ratio.{Ratio}, specs.Order.{same}, proofs.Order.{same_exact}, proofs.LineAt.{line_at-level}}
use Rattle.mob_span.specs.Span.{has}
use Rattle.mob_slice.{specs.Lines.{line_value_of, line_continued}, specs.Operands.{steady_value, steady_limit}, specs.Slices.{OfHead, IsNormalPair, AreNormal, IsNormal, value_at}}
use Rattle.mob_slice.{specs.declared.line.Line.{Line}, specs.declared.slice.Slice.{Slice}, specs.declared.steady.Steady.{Steady}, proofs.Straight.{two_lines}}
use Rattle.mob_value.specs.Lines.{level_line}

-- two steps continue as one if their values are equal
abbrev pub steps_continue : Steady Ratio → Steady Ratio → Ratio → Ratio → Ratio → Bool
steps_continue c d lower middle upper = same c.value d.value

abbrev pub line_start : Line → Ratio
line_start c = c.from

abbrev pub line_end : Line → Ratio
line_end c = c.to

differ : (s r : Slice (Steady Ratio)) → same s.course.value r.course.value ≡ false → s.course.value ≢ r.course.value
differ s r h = λ e. true≢false (sym ((same_exact s.course.value r.course.value).1 e) ∙ h)

-- steps that meet have different values, and constant lines with different values do not continue
-- as one
level_pair : (s r : Slice (Steady Ratio)) → IsNormalPair steady_limit steady_limit steps_continue s r → IsNormalPair line_start line_end line_continued (level_line s) (level_line r)
level_pair s r h = record {
  in_order = h.in_order;
  apart = λ m. sym (two_lines s.course.value s.course.value r.course.value r.course.value s.span.lower s.span.upper r.span.upper (h.apart m));
  given_late = λ m i l. differ s r (h.apart m);
  own_value = λ m b. differ s r (h.apart m);
}

level_head : (s : Slice (Steady Ratio)) (v : List (Slice (Steady Ratio))) → OfHead (IsNormalPair steady_limit steady_limit steps_continue) s v → OfHead (IsNormalPair line_start line_end line_continued) (level_line s) (map level_line v)
level_head s [] h = tt
level_head s (r ∷ v) h = level_pair s r h

level_chain : (v : List (Slice (Steady Ratio))) → AreNormal steady_limit steady_limit steps_continue v → AreNormal line_start line_end line_continued (map level_line v)
level_chain [] h = tt
level_chain (s ∷ v) h = (record { some = h.0.some; level = λ n. refl }, level_head s v h.1, level_chain v h.2)

not_empty : (v : List (Slice (Steady Ratio))) → v ≢ [] → map level_line v ≢ []
not_empty [] h = λ e. h refl
not_empty (s ∷ v) h = λ e. cc

pub level_normal : (v : List (Slice (Steady Ratio))) (lines : List (Slice Line)) → IsNormal steady_limit steady_limit steps_continue v → lines ≡ map level_line v → IsNormal line_start line_end line_continued lines
level_normal v lines h e = rw e record { some = not_empty v h.some; chained = level_chain v h.chained }

level_values : (v : List (Slice (Steady Ratio))) (t : Ratio) → value_at line_value_of (map level_line v) t ≡ value_at steady_value v t
level_values [] t = refl
level_values (s ∷ v) t =
    ap (λ z. cond (has s.span t) (Some z) (value_at line_value_of (map level_line v) t)) (line_at-level s.course.value s.span.lower s.span.upper t)
    ∙ ap (λ z. cond (has s.span t) (Some s.course.value) z) (level_values v t)

pub level_at : (v : List (Slice (Steady Ratio))) (lines : List (Slice Line)) → lines ≡ map level_line v → (t : Ratio) → value_at line_value_of lines t ≡ value_at steady_value v t
level_at v lines e t = ap (λ z. value_at line_value_of z t) e ∙ level_values v t

-- at the end of the walk, all slices are made
pub all_level : (v w : List (Slice (Steady Ratio))) (o : List (Slice Line)) (i : ℕ) → v ≡ w → length v ≤ i → o ++ map level_line (drop i v) ≡ map level_line v → o ≡ map level_line w
all_level v w o i e h k =
    let none : drop i v ≡ [] = drop_all i v h in
    let all : o ++ [] ≡ map level_line v = ap (λ z. o ++ map level_line z) (sym none) ∙ k in
    sym (append-nil o) ∙ all ∙ ap (map level_line) e
