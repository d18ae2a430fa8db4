-- The bytes read of a file are its front.
use Rattle.std.specs.Prelude.{Option, IfSome, OnErr, Result, is_err}
use Rattle.std.{proofs.Common.{arith, ◌≡◌, ◌∙◌, ap, sym, ℕ, ◌+◌, ◌≤◌, List, [], ◌++◌, length, take, Some, None, Ok, Err, inl, inr, true, true≢false}, proofs.lemmas.Bool.{cases_lt}}
use Rattle.std.proofs.lemmas.List.{append-nil, take_all, take-append-le}
use Rattle.mob_outside.{specs.Told.{Contents, Opens}, specs.Streams.{ReadsPart, ReadsTo}, specs.Fronts.{IsFront, IsLeftOf}}

-- the bytes read up to the limit, or to one byte past it, are the front
read_front : (limit : ℕ) (a b : Option (List ℕ)) (bytes : List ℕ) → ReadsTo limit a b bytes → IfSome a (λ whole. bytes ≡ take (limit + 1) whole)
read_front limit None b bytes reads = tt
read_front limit (Some xs) None bytes reads = absurd reads.taken
read_front limit (Some xs) (Some ys) bytes reads =
    let bound : length bytes ≤ limit + 1 = reads.bound in elim (cases_lt (length bytes) (limit + 1)) [
      | inl less ↦
          let end : ys ≡ [] = reads.whole (omega arith) in
          let is : xs ≡ bytes = reads.taken ∙ ap (λ (w : List ℕ). bytes ++ w) end ∙ append-nil bytes in
          sym (take_all (limit + 1) bytes bound) ∙ ap (take (limit + 1)) (sym is)
      | inr more ↦ sym (take_all (limit + 1) bytes bound) ∙ sym (take-append-le (limit + 1) bytes ys (omega arith)) ∙ ap (take (limit + 1)) (sym reads.taken)
    ]

opened_front : (limit : ℕ) (name : List ℕ) (files : Option Contents) (left : Option (List ℕ)) (bytes : List ℕ)
    → Opens name files left → IfSome left (λ whole. bytes ≡ take (limit + 1) whole) → IfSome files (λ m. IsFront limit name m bytes)
opened_front limit name None left bytes opens reads = tt
opened_front limit name (Some m) None bytes opens reads = cc
opened_front limit name (Some m) (Some whole) bytes opens reads = (whole, sym opens.0, reads)

-- what is left of an opened file comes after what was read of it
pub file_left : (limit : ℕ) (name : List ℕ) (files : Option Contents) (left now : Option (List ℕ)) → Opens name files left → ReadsPart limit left now → IfSome files (λ m. IsLeftOf limit name m now)
file_left limit name None left now opens part = tt
file_left limit name (Some m) None now opens part = cc
file_left limit name (Some m) (Some whole) now opens part = (whole, sym opens.0, part)

pub file_front : (limit : ℕ) (name : List ℕ) (files : Option Contents) (left now : Option (List ℕ)) (bytes : List ℕ)
    → Opens name files left → ReadsTo limit left now bytes → IfSome files (λ m. IsFront limit name m bytes)
file_front limit name files left now bytes opens reads = opened_front limit name files left bytes opens (read_front limit left now bytes reads)

-- what holds if a call failed, for a call that did
pub where_failed : {T E P : Type 0} (r : Result T E) → is_err r ≡ true → OnErr r P → P
where_failed (Ok x) failed h = absurd (true≢false (sym failed))
where_failed (Err y) failed h = h
