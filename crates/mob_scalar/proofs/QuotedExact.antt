-- The reader of the values of a ttext accepts exactly their texts.
use Rattle.std.{specs.Prelude.{nat_eq}, specs.Str.{is_utf8}, proofs.Common.{◌≡◌, ℕ, [], ◌∷◌, ◌++◌, Bool, true, false, cond, Some, None, refl, sym, ap, subst, ◌∙◌, append_assoc, rules, codes}}
use Rattle.std.proofs.lemmas.Bool.{and_parts as both, eqb-true, not-true as not_true, or_parts, or_from}
use Rattle.mob_language.{specs.Language.{Text, AreAll, is_blank}, specs.Readers.{◌>>=◌, behind_at, word_at, split_while}}
use Rattle.mob_language.proofs.Exact.{Reads, Exact, Stops, Any, bind_some, some_is, or_exact, where_exact, many_again, split_parts, word_exact, chosen_by, two_heads}
use Rattle.mob_language.proofs.Heads.{NoHead, Nothing, HasByte, exact_less, byte_stops, word_nothing, then_nothing, means_nothing, where_head, or_head, where_byte, or_byte}
use Rattle.mob_scalar.specs.Quoted.{is_escaped, escaped, quoted_text, quoted, is_plain, begins_well, ends_well, is_bare, bare, text_value, put_first, unescaped_at, quoted_at, put_before, trimmed}
use Rattle.mob_scalar.specs.Quoted.{bare_of, bare_at, text_value_at}

-- ---- quoted values

-- a byte after its backslash, and the rest of the value up to the closing quote
record Pending (text v rest : Text) : Type 0 where
  byte : ℕ
  others : Text
  is : v ≡ byte ∷ others
  escapes : is_escaped byte ≡ true
  whole : text ≡ byte ∷ (escaped others ++ (34 ∷ rest))

abbrev Says : Bool → Text → Text → Text → Type 0
Says false text v rest = text ≡ escaped v ++ (34 ∷ rest)
Says true text v rest = Pending text v rest

unescaped_sound : (pending : Bool) (text rest v : Text) → unescaped_at pending text ≡ Some (v, rest) → Says pending text v rest
unfolding unescaped_at
unescaped_sound true [] rest v e = absurd cc
unescaped_sound false [] rest v e = absurd cc
unescaped_sound true (c ∷ cs) rest v e =
    let g = chosen_by (is_escaped c) (put_first c (unescaped_at false cs)) (v, rest) e in
    let a = bind_some (unescaped_at false cs) (λ x. Some (c ∷ x.0, x.1)) (v, rest) g.1 in
    let is : ◌≡◌ {A = Text × Text} (c ∷ a.0.0, a.0.1) (v, rest) = some_is _ _ a.2 in
    let ih = unescaped_sound false cs a.0.1 a.0.0 a.1 in
    record {
      byte = c;
      others = a.0.0;
      is = sym (ap (λ (x : Text × Text). x.0) is);
      escapes = g.0;
      whole = ap (λ (t : Text). c ∷ t) (ih ∙ ap (λ (x : Text × Text). escaped a.0.0 ++ (34 ∷ x.1)) is);
    }
unescaped_sound false (c ∷ cs) rest v e = by_byte (nat_eq c 34) (nat_eq c 92) refl refl e (λ w r h. unescaped_sound true cs r w h) (λ w r h. unescaped_sound false cs r w h)
  where
    escaped_byte : (d : ℕ) (ds : Text) → is_escaped d ≡ true → escaped (d ∷ ds) ≡ 92 ∷ d ∷ escaped ds
    escaped_byte d ds h = rw h refl

    plain_byte : (d : ℕ) (ds : Text) → is_escaped d ≡ false → escaped (d ∷ ds) ≡ d ∷ escaped ds
    plain_byte d ds h = rw h refl

    by_byte : (p q : Bool) → nat_eq c 34 ≡ p → nat_eq c 92 ≡ q → cond p (Some ([], cs)) (cond q (unescaped_at true cs) (put_first c (unescaped_at false cs))) ≡ Some (v, rest)
        → ((w r : Text) → unescaped_at true cs ≡ Some (w, r) → Pending cs w r) → ((w r : Text) → unescaped_at false cs ≡ Some (w, r) → cs ≡ escaped w ++ (34 ∷ r)) → c ∷ cs ≡ escaped v ++ (34 ∷ rest)
    by_byte true q h k e opened closed =
        let is : ◌≡◌ {A = Text × Text} ([], cs) (v, rest) = some_is _ _ e in
        two_heads c 34 cs cs (eqb-true c 34 h) refl ∙ ap (λ (x : Text × Text). escaped x.0 ++ (34 ∷ x.1)) is
    by_byte false true h k e opened closed =
        let p = opened v rest e in
        two_heads c 92 cs (p.byte ∷ (escaped p.others ++ (34 ∷ rest))) (eqb-true c 92 k) p.whole
        ∙ ap (λ (t : Text). t ++ (34 ∷ rest)) (sym (escaped_byte p.byte p.others p.escapes) ∙ ap escaped (sym p.is))
    by_byte false false h k e opened closed =
        let a = bind_some (unescaped_at false cs) (λ x. Some (c ∷ x.0, x.1)) (v, rest) e in
        let is : ◌≡◌ {A = Text × Text} (c ∷ a.0.0, a.0.1) (v, rest) = some_is _ _ a.2 in
        ap (λ (t : Text). c ∷ t) (closed a.0.0 a.0.1 a.1) ∙ ap (λ (t : Text). t ++ (34 ∷ a.0.1)) (sym (plain_byte c a.0.0 (or_from (nat_eq c 34) (nat_eq c 92) h k)))
        ∙ ap (λ (x : Text × Text). escaped x.0 ++ (34 ∷ x.1)) is

pub unescaped_again : (v rest : Text) → unescaped_at false (escaped v ++ (34 ∷ rest)) ≡ Some (v, rest)
unfolding unescaped_at
unescaped_again [] rest = refl
unescaped_again (c ∷ cs) rest = by_escape (is_escaped c) refl (unescaped_again cs rest)
  where
    by_escape : (b : Bool) → is_escaped c ≡ b → unescaped_at false (escaped cs ++ (34 ∷ rest)) ≡ Some (cs, rest) → unescaped_at false (cond b (92 ∷ c ∷ escaped cs) (c ∷ escaped cs) ++ (34 ∷ rest)) ≡ Some (c ∷ cs, rest)
    by_escape true h ih = rw (h, ih) refl
    by_escape false h ih = let or_from = or_parts (nat_eq c 34) (nat_eq c 92) h in rw (or_from.0, or_from.1, ih) refl

pub quoted_exact : Exact quoted quoted_at Any
unfolding quoted_at quoted_text
quoted_exact = record {
  sound = λ text rest v e.
      let w = word_exact (codes "\"") in
      let a = bind_some (word_at (codes "\"") text >>= λ x. unescaped_at false x.1 >>= λ y. Some ((x.0, y.0), y.1)) (λ x. Some (x.0.1, x.1)) (v, rest) e in
      let b = bind_some (word_at (codes "\"") text) (λ x. unescaped_at false x.1 >>= λ y. Some ((x.0, y.0), y.1)) a.0 a.1 in
      let c = bind_some (unescaped_at false b.0.1) (λ y. Some ((b.0.0, y.0), y.1)) a.0 b.2 in
      let one : ◌≡◌ {A = (Unit {0} × Text) × Text} ((b.0.0, c.0.0), c.0.1) a.0 = some_is _ _ c.2 in
      let two : ◌≡◌ {A = Text × Text} (a.0.0.1, a.0.1) (v, rest) = some_is _ _ a.2 in
      let is : ◌≡◌ {A = Text × Text} (c.0.0, c.0.1) (v, rest) = ap (λ (x : (Unit {0} × Text) × Text). (x.0.1, x.1)) one ∙ two in
      let begun = w.sound text b.0.1 b.0.0 b.1 in
      let body = unescaped_sound false b.0.1 c.0.1 c.0.0 c.1 in
      subst (λ (x : Text × Text). Reads quoted text x.1 x.0) is (record {
        front = quoted_text c.0.0;
        whole = begun.whole ∙ ap (λ (t : Text). begun.front ++ t) body ∙ ap (λ (t : Text). t ++ (escaped c.0.0 ++ (34 ∷ c.0.1))) begun.said ∙ ap (λ (t : Text). 34 ∷ t) (sym (append_assoc (escaped c.0.0) (codes "\"") c.0.1));
        said = refl;
      });
  complete = λ text rest v said after.
      let e : text ++ rest ≡ 34 ∷ (escaped v ++ (34 ∷ rest)) = ap (λ (t : Text). t ++ rest) said ∙ ap (λ (t : Text). 34 ∷ t) (append_assoc (escaped v) (codes "\"") rest) in
      ap (behind_at (codes "\"") (unescaped_at false)) e ∙ rw (unescaped_again v rest) refl;
}

-- ---- bare values

pub trim_whole : (v : Text) → v ≡ (trimmed v).0 ++ (trimmed v).1
unfolding trimmed
trim_whole [] = refl
trim_whole (c ∷ cs) = ap (λ (t : Text). c ∷ t) (trim_whole cs) ∙ put c (trimmed cs)
  where
    by_blank : (c : ℕ) (blanks : Text) (b : Bool) → c ∷ blanks ≡ (let x : Text × Text = cond b ([], c ∷ blanks) (c ∷ [], blanks) in x.0 ++ x.1)
    by_blank c blanks true = refl
    by_blank c blanks false = refl

    put : (c : ℕ) (parts : Text × Text) → c ∷ (parts.0 ++ parts.1) ≡ (put_before c parts).0 ++ (put_before c parts).1
    put c ([], blanks) = by_blank c blanks (is_blank c)
    put c (d ∷ ds, blanks) = refl

are_append : (test : ℕ → Bool) (a b : Text) → AreAll test a → AreAll test b → AreAll test (a ++ b)
are_append test [] b h k = k
are_append test (c ∷ cs) b h k = (h.0, are_append test cs b h.1 k)

are_front : (test : ℕ → Bool) (a b : Text) → AreAll test (a ++ b) → AreAll test a
are_front test [] b h = tt
are_front test (c ∷ cs) b h = (h.0, are_front test cs b h.1)

are_less : (p q : ℕ → Bool) → ((c : ℕ) → p c ≡ true → q c ≡ true) → (a : Text) → AreAll p a → AreAll q a
are_less p q f [] h = tt
are_less p q f (c ∷ cs) h = (f c h.0, are_less p q f cs h.1)

trim_blanks : (bs : Text) → AreAll is_blank bs → trimmed bs ≡ ([], bs)
unfolding trimmed
trim_blanks [] each = refl
trim_blanks (b ∷ bs) each = rw (trim_blanks bs each.1, each.0) refl

pub trim_again : (v bs : Text) → ends_well v ≡ true → AreAll is_blank bs → trimmed (v ++ bs) ≡ (v, bs)
unfolding trimmed
trim_again [] bs e each = absurd cc
trim_again (c ∷ []) bs e each = rw (trim_blanks bs each, not_true (is_blank c) e) refl
trim_again (c ∷ d ∷ ds) bs e each = ap (put_before c) (trim_again (d ∷ ds) bs e each)

-- what may follow a bare value: blanks, and then the end or a byte that no bare value has
pub record Behind (rest : Text) : Type 0 where
  pub blanks : Text
  pub more : Text
  pub is : rest ≡ blanks ++ more
  pub each : AreAll is_blank blanks
  pub stops : Stops is_plain more

blank_plain : (c : ℕ) → is_blank c ≡ true → is_plain c ≡ true
blank_plain c e = search rules

pub bare_exact : Exact bare bare_at Behind
unfolding bare_at
bare_exact = record {
  sound = λ text rest v e.
      let run = split_while is_plain text in
      let parts = trimmed run.0 in
      let g = chosen_by (is_bare parts.0) (Some (parts.0, parts.1 ++ run.1)) (v, rest) e in
      let is : ◌≡◌ {A = Text × Text} (parts.0, parts.1 ++ run.1) (v, rest) = some_is _ _ g.1 in
      let h = split_parts is_plain text in
      let w = trim_whole run.0 in
      subst (λ (x : Text × Text). Reads bare text x.1 x.0) is (record {
        front = parts.0;
        whole = h.0 ∙ ap (λ (t : Text). t ++ run.1) w ∙ append_assoc parts.0 parts.1 run.1;
        said = record { said = record { is = refl; each = are_front is_plain parts.0 parts.1 (subst (AreAll is_plain) w h.1) }; holds = g.0 };
      });
  complete = λ text rest v said after.
      let each : AreAll is_plain (v ++ after.blanks) = are_append is_plain v after.blanks said.said.each (are_less is_blank is_plain blank_plain after.blanks after.each) in
      let e : text ++ rest ≡ (v ++ after.blanks) ++ after.more = ap (λ (t : Text). t ++ rest) said.said.is ∙ ap (λ (t : Text). v ++ t) after.is ∙ sym (append_assoc v after.blanks after.more) in
      let run : split_while is_plain (text ++ rest) ≡ (v ++ after.blanks, after.more) = ap (split_while is_plain) e ∙ many_again is_plain (v ++ after.blanks) after.more each after.stops in
      let ends = (both (begins_well v) (ends_well v) said.holds).1 in
      ap (λ (x : Text × Text). bare_of (trimmed x.0) x.1) run ∙ ap (λ (x : Text × Text). bare_of x after.more) (trim_again v after.blanks ends after.each)
      ∙ chosen (is_bare v) said.holds (v, after.blanks ++ after.more) ∙ ap (λ (t : Text). Some (v, t)) (sym after.is);
} where
  chosen : (b : Bool) → b ≡ true → (x : Text × Text) → cond b (Some x) None ≡ Some x
  chosen b h x = rw h refl

-- a bare value begins with a byte that is plain and not a blank
pub bare_first : (test : ℕ → Bool) → ((c : ℕ) → is_plain c ≡ true → is_blank c ≡ false → test c ≡ false) → NoHead bare test
bare_first test h text v said = subst (Stops test) (sym said.said.is) (first v (both (begins_well v) (ends_well v) said.holds).0 said.said.each)
  where
    first : (v : Text) → begins_well v ≡ true → AreAll is_plain v → Stops test v
    first [] e each = tt
    first (c ∷ cs) e each = h c each.0 (not_true (is_blank c) e)

pub bare_byte : HasByte bare
bare_byte text v said e = some v (both (begins_well v) (ends_well v) said.holds).0 (sym said.said.is ∙ e)
  where
    some : (v : Text) → begins_well v ≡ true → v ≡ [] → ⊥
    some [] b n = absurd cc
    some (c ∷ cs) b n = absurd cc

quoted_nothing : Nothing quoted_at (λ c. nat_eq c 34)
unfolding quoted_at
quoted_nothing = means_nothing (λ (v : Unit {0} × Text). v.1) (then_nothing (unescaped_at false) (word_nothing 34 [] (λ c. nat_eq c 34) refl))

plain_no_quote : (c : ℕ) → is_plain c ≡ true → is_blank c ≡ false → nat_eq c 34 ≡ false
plain_no_quote c e h = search rules

pub text_value_exact : Exact text_value text_value_at Behind
unfolding text_value_at
text_value_exact = where_exact is_utf8 (exact_less
    (or_exact {G = Behind} quoted_exact bare_exact (λ text rest v said after. quoted_nothing (text ++ rest) (byte_stops (λ c. nat_eq c 34) text rest (bare_first (λ c. nat_eq c 34) plain_no_quote text v said) (bare_byte text v said))))
    (λ rest h. (tt, h)))

pub text_value_head : (test : ℕ → Bool) → test 34 ≡ false → ((c : ℕ) → is_plain c ≡ true → is_blank c ≡ false → test c ≡ false) → NoHead text_value test
unfolding quoted_text
text_value_head test q h = where_head (or_head (λ text v said. subst (Stops test) (sym said) q) (bare_first test h))

pub text_value_byte : HasByte text_value
unfolding quoted_text
text_value_byte = where_byte is_utf8 (or_byte (λ text v said e. nonempty v (sym said ∙ e)) bare_byte)
  where
    nonempty : (v : Text) → 34 ∷ (escaped v ++ codes "\"") ≡ [] → ⊥
    nonempty v h = absurd cc
