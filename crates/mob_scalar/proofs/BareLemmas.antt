-- Bare values of a ttext, as a loop over the bytes finds them.
use Rattle.std.proofs.Common.{◌≡◌, ℕ, zero, suc, ◌+◌, ◌-◌, ◌<◌, ◌≤◌, [], ◌∷◌, ◌++◌, length, get_or, take, drop, Bool, true, false, cond, not, Option, Some, None, refl, sym, ap, ◌∙◌, append_assoc}
use Rattle.std.{proofs.Common.{append-nil, arith, length-append}, proofs.lemmas.List.{take_more}, proofs.Math.Seq.{take-append_seam, drop-append_seam}}
use Rattle.mob_language.{specs.Language.{Text, is_blank}, specs.Readers.{split_while}, proofs.Exact.{split_parts}}
use Rattle.mob_scalar.{specs.Quoted.{is_plain, begins_well, ends_well, is_bare, put_before, trimmed, bare_at}, proofs.QuotedExact.{trim_whole, trim_again}}

same_first : (d : ℕ) (p q : Text × Text) → p.0 ≡ q.0 → (put_before d p).0 ≡ (put_before d q).0
same_first d p q e = first p.0 p.1 ∙ ap (λ (t : Text). (put_before d (t, [])).0) e ∙ sym (first q.0 q.1)
  where
    first_of : (b : Bool) (x y : Text) → (let r : Text × Text = cond b ([], d ∷ x) (d ∷ [], x) in r.0) ≡ (let r : Text × Text = cond b ([], d ∷ y) (d ∷ [], y) in r.0)
    first_of true x y = refl
    first_of false x y = refl

    first : (t u : Text) → (put_before d (t, u)).0 ≡ (put_before d (t, [])).0
    first [] u = first_of (is_blank d) u []
    first (e ∷ es) u = refl

push_blank : (v : Text) (c : ℕ) → is_blank c ≡ true → (trimmed (v ++ c ∷ [])).0 ≡ (trimmed v).0
unfolding trimmed
push_blank [] c e = rw e refl
push_blank (d ∷ ds) c e = same_first d (trimmed (ds ++ c ∷ [])) (trimmed ds) (push_blank ds c e)

ends_push : (v : Text) (c : ℕ) → ends_well (v ++ c ∷ []) ≡ not (is_blank c)
ends_push [] c = refl
ends_push (d ∷ []) c = refl
ends_push (d ∷ e ∷ es) c = ends_push (e ∷ es) c

push_other : (v : Text) (c : ℕ) → is_blank c ≡ false → (trimmed (v ++ c ∷ [])).0 ≡ v ++ c ∷ []
push_other v c e =
    let h = trim_again (v ++ c ∷ []) [] (ends_push v c ∙ ap not e) tt in
    ap (λ (x : Text × Text). x.0) (ap trimmed (sym (append-nil (v ++ c ∷ []))) ∙ h)

pub blank_more : (bytes : Text) (i : ℕ) → i < length bytes → is_blank (get_or bytes i 0) ≡ true → length (trimmed (take (i + 1) bytes)).0 ≡ length (trimmed (take i bytes)).0
blank_more bytes i lt e = ap (λ (t : Text). length (trimmed t).0) (take_more bytes i 0 lt) ∙ ap length (push_blank (take i bytes) (get_or bytes i 0) e)

pub other_more : (bytes : Text) (i : ℕ) → i < length bytes → is_blank (get_or bytes i 0) ≡ false → length (trimmed (take (i + 1) bytes)).0 ≡ i + 1
other_more bytes i lt e =
    ap (λ (t : Text). length (trimmed t).0) (take_more bytes i 0 lt) ∙ ap length (push_other (take i bytes) (get_or bytes i 0) e)
    ∙ ap length (sym (take_more bytes i 0 lt)) ∙ whole (i + 1) bytes (omega (arith, lt))
  where
    whole : (n : ℕ) (xs : Text) → n ≤ length xs → length (take n xs) ≡ n
    whole zero xs h = refl
    whole (suc n) [] h = absurd (omega (arith, h))
    whole (suc n) (x ∷ xs) h = let k = whole n xs (omega (arith, h)) in omega (arith, k)

-- the bare value at the front, as a cut of the bytes
pub record IsCut (bytes : Text) (n : ℕ) : Type 0 where
  pub within : n ≤ length bytes
  pub value : take n bytes ≡ (trimmed (split_while is_plain bytes).0).0
  pub rest : drop n bytes ≡ (trimmed (split_while is_plain bytes).0).1 ++ (split_while is_plain bytes).1

pub bare_cut : (bytes : Text) → IsCut bytes (length (trimmed (split_while is_plain bytes).0).0)
bare_cut bytes =
    let run = split_while is_plain bytes in
    let t = trimmed run.0 in
    let e : bytes ≡ t.0 ++ (t.1 ++ run.1) = (split_parts is_plain bytes).0 ∙ ap (λ (x : Text). x ++ run.1) (trim_whole run.0) ∙ append_assoc t.0 t.1 run.1 in
    let len = ap length e in
    let sum = length-append t.0 (t.1 ++ run.1) in
    record {
      within = omega (arith, len, sum);
      value = ap (take (length t.0)) e ∙ take-append_seam t.0 (t.1 ++ run.1);
      rest = ap (drop (length t.0)) e ∙ drop-append_seam t.0 (t.1 ++ run.1);
    }

pub ends_at : (v : Text) → 0 < length v → ends_well v ≡ not (is_blank (get_or v (length v - 1) 0))
ends_at [] h = absurd (omega arith)
ends_at (c ∷ []) h = refl
ends_at (c ∷ d ∷ ds) h =
    let n : length (c ∷ d ∷ ds) - 1 ≡ suc (length (d ∷ ds) - 1) = omega arith in
    ends_at (d ∷ ds) (omega arith) ∙ ap (λ (k : ℕ). not (is_blank (get_or (c ∷ d ∷ ds) k 0))) (sym n)

pub begins_at : (v : Text) → 0 < length v → begins_well v ≡ not (is_blank (get_or v 0 0))
begins_at [] h = absurd (omega arith)
begins_at (c ∷ cs) h = refl

pub nothing_trimmed : length (trimmed []).0 ≡ 0
unfolding trimmed
nothing_trimmed = refl

value_of : (bytes front : Text) (n : ℕ) → n ≡ length (trimmed (split_while is_plain bytes).0).0 → front ≡ take n bytes → front ≡ (trimmed (split_while is_plain bytes).0).0
value_of bytes front n e f = f ∙ ap (λ (k : ℕ). take k bytes) e ∙ (bare_cut bytes).value

pub bare_found : (bytes front back : Text) (n : ℕ) → n ≡ length (trimmed (split_while is_plain bytes).0).0 → front ≡ take n bytes → back ≡ drop n bytes → is_bare front ≡ true → Some (front, back) ≡ bare_at bytes
unfolding bare_at
bare_found bytes front back n e f b h =
    let v = value_of bytes front n e f in
    let r = b ∙ ap (λ (k : ℕ). drop k bytes) e ∙ (bare_cut bytes).rest in
    let there : is_bare (trimmed (split_while is_plain bytes).0).0 ≡ true = ap is_bare (sym v) ∙ h in
    ap (λ (t : Text). Some (t, back)) v ∙ ap (λ (t : Text). Some ((trimmed (split_while is_plain bytes).0).0, t)) r ∙ sym (chosen (is_bare (trimmed (split_while is_plain bytes).0).0) there _)
  where
    chosen : (b : Bool) → b ≡ true → (x : Text × Text) → cond b (Some x) None ≡ Some x
    chosen b h x = rw h refl

pub bare_not : (bytes front : Text) (n : ℕ) → n ≡ length (trimmed (split_while is_plain bytes).0).0 → front ≡ take n bytes → is_bare front ≡ false → ◌≡◌ {A = Option (Text × Text)} None (bare_at bytes)
unfolding bare_at
bare_not bytes front n e f h =
    let v = value_of bytes front n e f in
    sym (left_out (is_bare (trimmed (split_while is_plain bytes).0).0) (ap is_bare (sym v) ∙ h) _)
  where
    left_out : (b : Bool) → b ≡ false → (x : Text × Text) → cond b (Some x) None ≡ None
    left_out b h x = rw h refl
