-- The groups of slices, written from left to right.
use Rattle.std.{specs.Prelude.{◌≢◌}, proofs.Common.{◌≡◌, ℕ, ◌≤◌, length, drop, List, [], ◌∷◌, ◌++◌, map, codes, Bool, true, false, cond, refl, sym, ap, ◌∙◌, append_assoc, append-nil, arith}}
use Rattle.std.proofs.lemmas.List.{drop_all}
use Rattle.mob_language.specs.Language.{Text}
use Rattle.mob_slice.{specs.declared.slice.Slice.{Slice}, specs.CourseOf.{CourseOf}}
use Rattle.mob_written.specs.Neighbours.{all_neighbours}
use Rattle.mob_written.specs.Printed.{Style, is_long, shares_group, start_text, end_text, opening_text, closing_text, instants_of, group_text, neighbour_groups, put_in_group, groups_text}
use Rattle.mob_written.{specs.FromLeft.{end_part, text_behind, all_share_group, is_one_group}, proofs.Small.{false_true, cons_nil}}
use Rattle.mob_scalar.specs.Brackets.{with_commas, in_braces}

-- a group without its opening bracket
inside : {C B : Type 0} → Style C B → List (Slice C) → Text
inside style group = with_commas (instants_of style group) ++ closing_text group

-- the text after the first group
behind : {C B : Type 0} → Style C B → List (List (Slice C)) → Text
behind style [] = []
behind style (group ∷ groups) = codes ", " ++ with_commas (map (group_text style) (group ∷ groups))

listed-cons : {C B : Type 0} (style : Style C B) (x : Text) (groups : List (List (Slice C))) → with_commas (x ∷ map (group_text style) groups) ≡ x ++ behind style groups
unfolding behind
listed-cons style x [] = sym (append-nil x)
listed-cons style x (group ∷ groups) = append_assoc x (codes ", ") (with_commas (map (group_text style) (group ∷ groups)))

inside-one : {C B : Type 0} (style : Style C B) (s : Slice C) → inside style (s ∷ []) ≡ start_text style s ++ end_part style s
unfolding inside
inside-one style s = by_length (is_long s)
  where
    by_length : (long : Bool) → with_commas (start_text style s ∷ cond long (end_text style s ∷ []) []) ++ closing_text (s ∷ []) ≡ start_text style s ++ (cond long (codes ", " ++ end_text style s) [] ++ closing_text (s ∷ []))
    by_length true = simp append_assoc
    by_length false = refl

inside-more : {C B : Type 0} (style : Style C B) (s r : Slice C) (group : List (Slice C)) → inside style (s ∷ r ∷ group) ≡ start_text style s ++ (codes ", " ++ inside style (r ∷ group))
unfolding inside
inside-more style s r [] = by_length (is_long r)
  where
    by_length : (long : Bool) → with_commas (start_text style s ∷ start_text style r ∷ cond long (end_text style r ∷ []) []) ++ closing_text (r ∷ []) ≡ start_text style s ++ (codes ", " ++ (with_commas (start_text style r ∷ cond long (end_text style r ∷ []) []) ++ closing_text (r ∷ [])))
    by_length true = simp append_assoc
    by_length false = simp append_assoc
inside-more style s r (q ∷ group) = simp append_assoc

group-inside : {C B : Type 0} (style : Style C B) (group : List (Slice C)) → group_text style group ≡ opening_text group ++ inside style group
unfolding inside
group-inside style group = append_assoc (opening_text group) (with_commas (instants_of style group)) (closing_text group)

same_group : (a b c d e f : Text) → c ++ d ≡ e ++ f → (a ++ (b ++ c)) ++ d ≡ a ++ ((b ++ e) ++ f)
same_group a b c d e f h = simp append_assoc (ap (λ (x : Text). a ++ (b ++ x)) h)

next_group : (a b c o i d e f : Text) → i ++ d ≡ e ++ f → (a ++ b) ++ (c ++ ((o ++ i) ++ d)) ≡ a ++ (((b ++ c ++ o) ++ e) ++ f)
next_group a b c o i d e f h = simp append_assoc (ap (λ (x : Text). a ++ (b ++ (c ++ (o ++ x)))) h)

-- the first group begins with the first slice, and the text of all groups is the text written from
-- left to right
record IsGrouped {C B : Type 0} (style : Style C B) (s : Slice C) (rest : List (Slice C)) : Type 0 where
  group : List (Slice C)
  groups : List (List (Slice C))
  is : neighbour_groups style.course (s ∷ rest) ≡ (s ∷ group) ∷ groups
  text : inside style (s ∷ group) ++ behind style groups ≡ start_text style s ++ text_behind style s rest

put-true : {C B : Type 0} (course : CourseOf C B) (s r : Slice C) (group : List (Slice C)) (groups : List (List (Slice C))) → shares_group course s r ≡ true → put_in_group course s ((r ∷ group) ∷ groups) ≡ (s ∷ r ∷ group) ∷ groups
put-true course s r group groups h = rw h refl

put-false : {C B : Type 0} (course : CourseOf C B) (s r : Slice C) (group : List (Slice C)) (groups : List (List (Slice C))) → shares_group course s r ≡ false → put_in_group course s ((r ∷ group) ∷ groups) ≡ (s ∷ []) ∷ (r ∷ group) ∷ groups
put-false course s r group groups h = rw h refl

grouped : {C B : Type 0} (style : Style C B) (s : Slice C) (rest : List (Slice C)) → IsGrouped style s rest
unfolding behind
grouped style s [] = record { group = []; groups = []; is = refl; text = append-nil (inside style (s ∷ [])) ∙ inside-one style s }
grouped style s (r ∷ rest) = by_next (shares_group style.course s r) refl (grouped style r rest)
  where
    by_next : (on : Bool) → shares_group style.course s r ≡ on → IsGrouped style r rest → IsGrouped style s (r ∷ rest)
    by_next true h g = record {
      group = r ∷ g.group;
      groups = g.groups;
      is = ap (put_in_group style.course s) g.is ∙ put-true style.course s r g.group g.groups h;
      text = rw (h, inside-more style s r g.group) (same_group (start_text style s) (codes ", ") (inside style (r ∷ g.group)) (behind style g.groups) (start_text style r) (text_behind style r rest) g.text);
    }
    by_next false h g = record {
      group = [];
      groups = (r ∷ g.group) ∷ g.groups;
      is = ap (put_in_group style.course s) g.is ∙ put-false style.course s r g.group g.groups h;
      text = rw (h, inside-one style s, listed-cons style (group_text style (r ∷ g.group)) g.groups, group-inside style (r ∷ g.group)) (next_group (start_text style s) (end_part style s) (codes ", ") (opening_text (r ∷ [])) (inside style (r ∷ g.group)) (behind style g.groups) (start_text style r) (text_behind style r rest) g.text);
    }

pub groups-from-left : {C B : Type 0} (style : Style C B) (s : Slice C) (rest : List (Slice C)) → with_commas (map (group_text style) (neighbour_groups style.course (s ∷ rest))) ≡ opening_text (s ∷ []) ++ (start_text style s ++ text_behind style s rest)
groups-from-left {C} style s rest =
    let g = grouped style s rest in
    ap (λ (gs : List (List (Slice C))). with_commas (map (group_text style) gs)) g.is
    ∙ listed-cons style (group_text style (s ∷ g.group)) g.groups
    ∙ ap (λ (x : Text). x ++ behind style g.groups) (group-inside style (s ∷ g.group))
    ∙ append_assoc (opening_text (s ∷ g.group)) (inside style (s ∷ g.group)) (behind style g.groups)
    ∙ ap (λ (x : Text). opening_text (s ∷ []) ++ x) g.text

-- slices that all continue the group are one group, and no others are
record IsCounted {C B : Type 0} (course : CourseOf C B) (s : Slice C) (rest : List (Slice C)) : Type 0 where
  group : List (Slice C)
  groups : List (List (Slice C))
  is : neighbour_groups course (s ∷ rest) ≡ (s ∷ group) ∷ groups
  one : all_share_group course s rest ≡ true → groups ≡ []
  more : all_share_group course s rest ≡ false → groups ≢ []

counted : {C B : Type 0} (course : CourseOf C B) (s : Slice C) (rest : List (Slice C)) → IsCounted course s rest
counted course s [] = record { group = []; groups = []; is = refl; one = λ h. refl; more = λ h. absurd cc }
counted course s (r ∷ rest) = by_next (shares_group course s r) refl (counted course r rest)
  where
    by_next : (on : Bool) → shares_group course s r ≡ on → IsCounted course r rest → IsCounted course s (r ∷ rest)
    by_next true h g = record {
      group = r ∷ g.group;
      groups = g.groups;
      is = ap (put_in_group course s) g.is ∙ put-true course s r g.group g.groups h;
      one = λ k. g.one (rw h at k);
      more = λ k. g.more (rw h at k);
    }
    by_next false h g = record {
      group = [];
      groups = (r ∷ g.group) ∷ g.groups;
      is = ap (put_in_group course s) g.is ∙ put-false course s r g.group g.groups h;
      one = λ k. absurd (false_true (rw h at k));
      more = λ k. λ e. absurd (cons_nil (r ∷ g.group) g.groups e);
    }

-- slices are one group if there is one and all pairs of neighbours share a group
pub one_group : {C B : Type 0} (course : CourseOf C B) (slices : List (Slice C)) → 1 ≤ length slices → all_neighbours (shares_group course) slices ≡ is_one_group course slices
one_group course [] h = absurd (omega (arith, h))
one_group course (s ∷ rest) h = refl

-- one group, written alone
pub group-alone : {C B : Type 0} (style : Style C B) (slices : List (Slice C)) → is_one_group style.course slices ≡ true → groups_text style (neighbour_groups style.course slices) ≡ with_commas (map (group_text style) (neighbour_groups style.course slices))
group-alone style [] h = absurd cc
group-alone style (s ∷ rest) h =
    let c = counted style.course s rest in
    rw (c.is, c.one h) refl

-- no groups or several, written in braces
pub groups-braced : {C B : Type 0} (style : Style C B) (slices : List (Slice C)) → is_one_group style.course slices ≡ false → groups_text style (neighbour_groups style.course slices) ≡ in_braces (with_commas (map (group_text style) (neighbour_groups style.course slices)))
groups-braced style [] h = refl
groups-braced {C} style (s ∷ rest) h =
    let c = counted style.course s rest in
    rw c.is (by_groups c.group c.groups (c.more h))
  where
    by_groups : (group : List (Slice C)) (groups : List (List (Slice C))) → groups ≢ [] → groups_text style ((s ∷ group) ∷ groups) ≡ in_braces (with_commas (map (group_text style) ((s ∷ group) ∷ groups)))
    by_groups group [] n = absurd (n refl)
    by_groups group (next ∷ groups) n = refl

-- what the loop over the slices has written at its end
pub groups_done : {C B : Type 0} (style : Style C B) (slices : List (Slice C)) (first last : Slice C) (rest : List (Slice C)) (i : ℕ) (old opened started now new : Text)
    → slices ≡ first ∷ rest → length rest ≤ i → opened ≡ old ++ opening_text (first ∷ []) → started ≡ opened ++ start_text style first
    → now ++ text_behind style last (drop i rest) ≡ started ++ text_behind style first rest → new ≡ now ++ end_part style last
    → new ≡ old ++ with_commas (map (group_text style) (neighbour_groups style.course slices))
groups_done style slices first last rest i old opened started now new is le opens start written ends =
    let none = drop_all i rest le in
    let done = rw none at written in
    ends ∙ done ∙ rw (start, opens, is, groups-from-left style first rest) (simp append_assoc)
