-- A reader is exact for a language if it reads exactly the texts of the language, whatever follows
-- that does not continue them.
--
-- There is one law here for each way to build a language: if the readers of the parts are exact, so
-- is the reader built from them. So the law of a whole text is a term that follows the text's
-- grammar. Heads has the facts on the bytes at the front of a text or after it; Lists has lists.
use Rattle.std.{specs.Char.{to_ascii_lowercase}, proofs.Common.{◌≡◌, ℕ, [], ◌∷◌, ◌++◌, map, Bool, true, false, cond, Option, Some, None, refl, sym, ap, subst, ◌∙◌, append_assoc, arith, inl, inr, eqb}}
use Rattle.std.{proofs.lemmas.Bool.{eqb-true}, proofs.lemmas.List.{append-nil}}
use Rattle.mob_language.specs.Language.{Text, Language, ◌▷◌, ◌∣◌, Maybe, Means, Where, Word, AnyCase, OneOf, AreAll, ManyOf}
use Rattle.mob_language.specs.Readers.{TextReader, ◌>>=◌, then_at, else_at, or_at, maybe_at, maybe_of, means_at, text_where, word_at, any_case_at, one_at, split_while, grown, many_at, ended, all_of}

-- the text after two texts, regrouped
pub regrouped : (text a b rest : Text) → text ≡ a ++ b → text ++ rest ≡ a ++ (b ++ rest)
regrouped text a b rest e = ap (λ (t : Text). t ++ rest) e ∙ append_assoc a b rest

-- the text has a prefix that denotes v in the language, followed by the rest
pub record Reads {A : Type 0} (l : Language A) (text rest : Text) (v : A) : Type 0 where
  pub front : Text
  pub whole : text ≡ front ++ rest
  pub said : l front v

-- a prefix that is read is a text of the language (sound); and a text of the language is read,
-- whatever follows that meets `follows` (complete)
pub record Exact {A : Type 0} (l : Language A) (r : TextReader A) (follows : Text → Type 0) : Type 0 where
  pub sound : (text rest : Text) (v : A) → r text ≡ Some (v, rest) → Reads l text rest v
  pub complete : (text rest : Text) (v : A) → l text v → follows rest → r (text ++ rest) ≡ Some (v, rest)

-- the value of a step that did not fail
pub bind_some : {A B : Type 0} (o : Option A) (f : A → Option B) (y : B) → (o >>= f) ≡ Some y → (x : A) × (o ≡ Some x) × (f x ≡ Some y)
bind_some (Some x) f y e = (x, refl, e)
bind_some None f y e = absurd cc

abbrev some : {A : Type 0} → A → Option A
some x = Some x

-- two equal `some` values hold one value
pub some_is : {A : Type 0} (x y : A) → some x ≡ some y → x ≡ y
some_is x y e = cc

-- one text followed by another; `goes` says that the second text does not continue the first
pub then_exact : {A B : Type 0} {l : Language A} {m : Language B} {r : TextReader A} {s : TextReader B} {F G : Text → Type 0}
    → Exact l r F → Exact m s G → ((text rest : Text) (v : B) → m text v → G rest → F (text ++ rest)) → Exact (l ▷ m) (then_at r s) G
then_exact {A} {B} {l} {m} {r} {s} {F} {G} p q goes = record {
  sound = λ text rest v e.
      let a = bind_some (r text) (λ x. s x.1 >>= λ y. Some ((x.0, y.0), y.1)) (v, rest) e in
      let b = bind_some (s a.0.1) (λ y. Some ((a.0.0, y.0), y.1)) (v, rest) a.2 in
      let first = p.sound text a.0.1 a.0.0 a.1 in
      let second = q.sound a.0.1 b.0.1 b.0.0 b.1 in
      let is : ((a.0.0, b.0.0), b.0.1) ≡ (v, rest) = some_is _ _ b.2 in
      subst (λ (w : (A × B) × Text). Reads (l ▷ m) text w.1 w.0) is (record {
        front = first.front ++ second.front;
        whole = first.whole ∙ ap (λ (t : Text). first.front ++ t) second.whole ∙ sym (append_assoc first.front second.front b.0.1);
        said = record { front = first.front; back = second.front; whole = refl; first = first.said; second = second.said };
      });
  complete = λ text rest v said after.
      let regrouped : text ++ rest ≡ said.front ++ (said.back ++ rest) = ap (λ (t : Text). t ++ rest) said.whole ∙ append_assoc said.front said.back rest in
      let one = p.complete said.front (said.back ++ rest) v.0 said.first (goes said.back rest v.1 said.second after) in
      let two = q.complete said.back rest v.1 said.second after in
      ap (then_at r s) regrouped ∙ rw (one, two) refl;
}

-- one text or another; `apart` says that the first reader reads nothing of the second language
pub or_exact : {A : Type 0} {l m : Language A} {r s : TextReader A} {F G : Text → Type 0}
    → Exact l r F → Exact m s G → ((text rest : Text) (v : A) → m text v → G rest → r (text ++ rest) ≡ None) → Exact (l ∣ m) (or_at r s) (λ rest. F rest × G rest)
or_exact {A} {l} {m} {r} {s} p q apart = record {
  sound = λ text rest v e. or_sound (r text) (s text) text rest v (λ h. p.sound text rest v h) (λ h. q.sound text rest v h) e;
  complete = λ text rest v said after. elim said [
    | inl h ↦ rw (p.complete text rest v h after.0) refl
    | inr h ↦ rw (apart text rest v h after.1) (q.complete text rest v h after.1)
  ];
} where
  or_sound : (o : Option (A × Text)) (n : Option (A × Text)) (text rest : Text) (v : A) → (o ≡ Some (v, rest) → Reads l text rest v) → (n ≡ Some (v, rest) → Reads m text rest v) → else_at o n ≡ Some (v, rest) → Reads (l ∣ m) text rest v
  or_sound None n text rest v f g e = let h = g e in record { front = h.front; whole = h.whole; said = inr h.said }
  or_sound (Some x) n text rest v f g e = let h = f e in record { front = h.front; whole = h.whole; said = inl h.said }

-- a text, or nothing; `apart` says that the reader reads nothing of what may follow
pub maybe_exact : {A : Type 0} {l : Language A} {r : TextReader A} {F G : Text → Type 0}
    → Exact l r F → ((rest : Text) → G rest → r rest ≡ None) → Exact (Maybe l) (maybe_at r) (λ rest. F rest × G rest)
maybe_exact {A} {l} {r} {F} {G} p apart = record {
  sound = λ text rest v e. maybe_sound (r text) text rest v (λ w h. p.sound text rest w h) e;
  complete = maybe_complete;
} where
  maybe_sound : (o : Option (A × Text)) (text rest : Text) (v : Option A) → ((w : A) → o ≡ Some (w, rest) → Reads l text rest w) → maybe_of text o ≡ Some (v, rest) → Reads (Maybe l) text rest v
  maybe_sound None text rest v f e =
      let is : ◌≡◌ {A = Option A × Text} (None, text) (v, rest) = some_is _ _ e in
      subst (λ (w : Option A × Text). Reads (Maybe l) text w.1 w.0) is (record { front = []; whole = refl; said = refl })
  maybe_sound (Some x) text rest v f e =
      let is : ◌≡◌ {A = Option A × Text} (Some x.0, x.1) (v, rest) = some_is _ _ e in
      let last : x.1 ≡ rest = ap (λ (w : Option A × Text). w.1) is in
      let h = f x.0 (ap (λ (t : Text). Some (x.0, t)) last) in
      subst (λ (w : Option A). Reads (Maybe l) text rest w) (ap (λ (w : Option A × Text). w.0) is) (record { front = h.front; whole = h.whole; said = h.said })

  maybe_complete : (text rest : Text) (v : Option A) → Maybe l text v → F rest × G rest → maybe_at r (text ++ rest) ≡ Some (v, rest)
  maybe_complete text rest None said after = rw (said, apart rest after.1) refl
  maybe_complete text rest (Some w) said after = rw (p.complete text rest w said after.0) refl

-- the value of a text, mapped by a function
pub means_exact : {A B : Type 0} {l : Language A} {r : TextReader A} {F : Text → Type 0} (f : A → B)
    → Exact l r F → Exact (Means f l) (means_at f r) F
means_exact {A} {B} {l} {r} {F} f p = record {
  sound = λ text rest v e.
      let a = bind_some (r text) (λ x. Some (f x.0, x.1)) (v, rest) e in
      let h = p.sound text a.0.1 a.0.0 a.1 in
      let is : ◌≡◌ {A = B × Text} (f a.0.0, a.0.1) (v, rest) = some_is _ _ a.2 in
      subst (λ (w : B × Text). Reads (Means f l) text w.1 w.0) is (record { front = h.front; whole = h.whole; said = record { meant = a.0.0; said = h.said; is = refl } });
  complete = λ text rest v said after. rw (p.complete text rest said.meant said.said after, said.is) refl;
}

guarded : {A : Type 0} (b : Bool) (x y : A) → cond b (Some x) None ≡ Some y → (b ≡ true) × (x ≡ y)
guarded true x y e = (refl, cc)
guarded false x y e = absurd cc

-- the value of a text, if it passes a test
pub where_exact : {A : Type 0} {l : Language A} {r : TextReader A} {F : Text → Type 0} (test : A → Bool)
    → Exact l r F → Exact (Where test l) (text_where test r) F
where_exact {A} {l} {r} {F} test p = record {
  sound = λ text rest v e.
      let a = bind_some (r text) (λ x. cond (test x.0) (Some x) None) (v, rest) e in
      let g = guarded (test a.0.0) a.0 (v, rest) a.2 in
      let h = p.sound text a.0.1 a.0.0 a.1 in
      subst (λ (w : A × Text). Reads (Where test l) text w.1 w.0) g.1 (record { front = h.front; whole = h.whole; said = record { said = h.said; holds = g.0 } });
  complete = λ text rest v said after. rw (p.complete text rest v said.said after, said.holds) refl;
}

-- anything may follow
abbrev pub Any : Text → Type 0
Any rest = Unit {0}

-- the rest does not begin with such a byte
abbrev pub Stops : (ℕ → Bool) → Text → Type 0
Stops test [] = Unit {0}
Stops test (c ∷ cs) = test c ≡ false

same_byte : (c : ℕ) → eqb c c ≡ true
same_byte c = search arith

word_sound : (word text rest : Text) (v : Unit) → word_at word text ≡ Some (v, rest) → text ≡ word ++ rest
word_sound [] text rest v e = let is : ◌≡◌ {A = Unit × Text} (tt, text) (v, rest) = some_is _ _ e in ap (λ (w : Unit × Text). w.1) is
word_sound (w ∷ ws) [] rest v e = absurd cc
word_sound (w ∷ ws) (c ∷ cs) rest v e =
    let g = chosen (eqb c w) (word_at ws cs) (v, rest) e in
    rw (eqb-true c w g.0, word_sound ws cs rest v g.1) refl
  where
    chosen : (b : Bool) (o : Option (Unit × Text)) (y : Unit × Text) → cond b o None ≡ Some y → (b ≡ true) × (o ≡ Some y)
    chosen true o y e = (refl, e)
    chosen false o y e = absurd cc

word_again : (word rest : Text) → word_at word (word ++ rest) ≡ Some (tt, rest)
word_again [] rest = refl
word_again (w ∷ ws) rest = rw (same_byte w) (word_again ws rest)

-- a word
pub word_exact : (word : Text) → Exact (Word word) (word_at word) Any
word_exact word = record {
  sound = λ text rest v e. record { front = word; whole = word_sound word text rest v e; said = refl };
  complete = λ text rest v said after. rw said (word_again word rest);
}

-- a test that chose a value, and not None
pub chosen_by : {A : Type 0} (b : Bool) (o : Option A) (y : A) → cond b o None ≡ Some y → (b ≡ true) × (o ≡ Some y)
chosen_by true o y e = (refl, e)
chosen_by false o y e = absurd cc

pub two_heads : (a b : ℕ) (s t : Text) → a ≡ b → s ≡ t → a ∷ s ≡ b ∷ t
two_heads a b s t e h = cc

any_case_sound : (word text rest : Text) (v : Unit {0}) → any_case_at word text ≡ Some (v, rest) → Reads (AnyCase word) text rest v
any_case_sound [] text rest v e =
    let is : ◌≡◌ {A = Unit {0} × Text} (tt, text) (v, rest) = some_is _ _ e in
    record { front = []; whole = ap (λ (w : Unit {0} × Text). w.1) is; said = refl }
any_case_sound (w ∷ ws) [] rest v e = absurd cc
any_case_sound (w ∷ ws) (c ∷ cs) rest v e =
    let g = chosen_by (eqb (to_ascii_lowercase c) w) (any_case_at ws cs) (v, rest) e in
    let h = any_case_sound ws cs rest v g.1 in
    record {
      front = c ∷ h.front;
      whole = ap (λ (t : Text). c ∷ t) h.whole;
      said = two_heads (to_ascii_lowercase c) w (map to_ascii_lowercase h.front) ws (eqb-true (to_ascii_lowercase c) w g.0) h.said;
    }

any_case_again : (text word rest : Text) → map to_ascii_lowercase text ≡ word → any_case_at word (text ++ rest) ≡ Some (tt, rest)
any_case_again [] word rest e = rw (sym e) refl
any_case_again (c ∷ cs) word rest e =
    rw (sym e, same_byte (to_ascii_lowercase c)) (any_case_again cs (map to_ascii_lowercase cs) rest refl)

-- a word in upper or lower case
pub any_case_exact : (word : Text) → Exact (AnyCase word) (any_case_at word) Any
any_case_exact word = record {
  sound = λ text rest v e. any_case_sound word text rest v e;
  complete = λ text rest v said after. any_case_again text word rest said;
}

-- one byte that passes a test
pub one_exact : (test : ℕ → Bool) → Exact (OneOf test) (one_at test) Any
one_exact test = record {
  sound = one_sound;
  complete = λ text rest v said after. rw (said.0, said.1) refl;
} where
  one_sound : (text rest : Text) (v : ℕ) → one_at test text ≡ Some (v, rest) → Reads (OneOf test) text rest v
  one_sound [] rest v e = absurd cc
  one_sound (c ∷ cs) rest v e =
      let g = guarded (test c) (c, cs) (v, rest) e in
      subst (λ (w : ℕ × Text). Reads (OneOf test) (c ∷ cs) w.1 w.0) g.1 (record { front = c ∷ []; whole = refl; said = (refl, g.0) })

grown_parts : (test : ℕ → Bool) (b : Bool) (c : ℕ) (cs : Text) (parts : Text × Text) → test c ≡ b → (cs ≡ parts.0 ++ parts.1) × AreAll test parts.0
    → (c ∷ cs ≡ (grown b c cs parts).0 ++ (grown b c cs parts).1) × AreAll test (grown b c cs parts).0
grown_parts test true c cs parts e h = (ap (λ (t : Text). c ∷ t) h.0, (e, h.1))
grown_parts test false c cs parts e h = (refl, tt)

pub split_parts : (test : ℕ → Bool) (text : Text) → (text ≡ (split_while test text).0 ++ (split_while test text).1) × AreAll test (split_while test text).0
split_parts test [] = (refl, tt)
split_parts test (c ∷ cs) = grown_parts test (test c) c cs (split_while test cs) refl (split_parts test cs)

pub many_stops : (test : ℕ → Bool) (rest : Text) → Stops test rest → split_while test rest ≡ ([], rest)
many_stops test [] h = refl
many_stops test (c ∷ cs) h = rw h refl

pub many_again : (test : ℕ → Bool) (v rest : Text) → AreAll test v → Stops test rest → split_while test (v ++ rest) ≡ (v, rest)
many_again test [] rest each h = many_stops test rest h
many_again test (c ∷ cs) rest each h = rw (each.0, many_again test cs rest each.1 h) refl

-- any number of bytes that pass a test, followed by none of these
pub many_exact : (test : ℕ → Bool) → Exact (ManyOf test) (many_at test) (Stops test)
many_exact test = record {
  sound = λ text rest v e.
      let is : split_while test text ≡ (v, rest) = some_is _ _ e in
      let h = split_parts test text in
      subst (λ (w : Text × Text). Reads (ManyOf test) text w.1 w.0) is (record { front = (split_while test text).0; whole = h.0; said = record { is = refl; each = h.1 } });
  complete = λ text rest v said after. rw said.is (ap some (many_again test v rest said.each after));
}

-- a whole text is read exactly if it belongs to the language
pub all_sound : {A : Type 0} {l : Language A} {r : TextReader A} {F : Text → Type 0} → Exact l r F → (text : Text) (v : A) → all_of r text ≡ Some v → l text v
all_sound {A} {l} {r} p text v e =
    let a = bind_some (r text) ended v e in
    let last : (a.0.1 ≡ []) × (a.0.0 ≡ v) = at_end a.0.0 a.0.1 a.2 in
    let h = p.sound text a.0.1 a.0.0 a.1 in
    let is : text ≡ h.front = h.whole ∙ ap (λ (t : Text). h.front ++ t) last.0 ∙ append-nil h.front in
    subst (λ (t : Text). l t v) (sym is) (subst (λ (w : A). l h.front w) last.1 h.said)
  where
    at_end : (w : A) (t : Text) → ended (w, t) ≡ Some v → (t ≡ []) × (w ≡ v)
    at_end w [] e = (refl, some_is _ _ e)
    at_end w (c ∷ cs) e = absurd cc

pub all_complete : {A : Type 0} {l : Language A} {r : TextReader A} {F : Text → Type 0} → Exact l r F → F [] → (text : Text) (v : A) → l text v → all_of r text ≡ Some v
all_complete p after text v said = rw (sym (append-nil text), p.complete text [] v said after) refl

-- no text has two values
pub one_value : {A : Type 0} {l : Language A} {r : TextReader A} {F : Text → Type 0} → Exact l r F → F [] → (text : Text) (v w : A) → l text v → l text w → v ≡ w
one_value p after text v w a b = some_is v w (sym (all_complete p after text v a) ∙ all_complete p after text w b)

-- the readers of whole texts: the text denotes the value that they read, and if they read nothing
-- it denotes none. The code has the text as a text and as its bytes.
pub is_said : {A : Type 0} {l : Language A} {r : TextReader A} {F : Text → Type 0} → Exact l r F → (text bytes : Text) (v : A) → bytes ≡ text → Some v ≡ all_of r bytes → l text v
is_said {r = r} p text bytes v e h = all_sound p text v (ap (all_of r) (sym e) ∙ sym h)

pub not_said : {A : Type 0} {l : Language A} {r : TextReader A} {F : Text → Type 0} → Exact l r F → F [] → (text bytes : Text) (v : A) → bytes ≡ text → ◌≡◌ {A = Option A} None (all_of r bytes) → l text v → ⊥
not_said {A} {r = r} p after text bytes v e h said = let k = all_complete p after text v said in none_some v (h ∙ ap (all_of r) e ∙ k)
  where
    none_some : (w : A) → ◌≡◌ {A = Option A} None (Some w) → ⊥
    none_some w e = absurd cc
