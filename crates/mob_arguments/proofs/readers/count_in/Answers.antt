use Rattle.std.{specs.Fmt.{decimal}, specs.Str.Parse.{ParsesUnsigned}, proofs.Common.{◌≡◌, ◌∙◌, ◌≤◌, ◌<◌, ◌^◌, ℕ, List, Result, Ok, sym, ap, arith}, proofs.lemmas.Fmt.{parse-decimal}}
use Rattle.std.{proofs.Math.Facts.{Fits-lt-pow}, proofs.lemmas.Bool.{false≢true}, proofs.lemmas.Bool.Decides.{Decides-eqb}, proofs.lemmas.Slice.Eq.{slice_eq-Decides}}
use Rattle.mob_arguments.proofs.readers.count_in.Goals as goal

-- the number read from the text of a number is that number, if the greatest one allowed fits 32
-- bits
only : {E : Type 0} (most n : ℕ) (text : List ℕ) (r : Result ℕ E) → most < 2 ^ 32 → text ≡ decimal n → n ≤ most → ParsesUnsigned 32 10 text r → r ≡ Ok n
only most n text r fits is small reads = parse-decimal 32 n text r (omega arith) (omega arith) is reads

same : {E : Type 0} (most m n : ℕ) (text : List ℕ) (r : Result ℕ E) → most < 2 ^ 32 → text ≡ decimal n → n ≤ most → ParsesUnsigned 32 10 text r → r ≡ Ok m → m ≡ n
same most m n text r fits is small reads here = let there = only most n text r fits is small reads in cc

pub returns-in_default-clause-none : goal.returns-in_default-clause-none
returns-in_default-clause-none c = λ _ n w.
    let e = same _ _ n _ _ (Fits-lt-pow c.ranges.most) w.0 w.2 c.parse.ensures.value.0 c.in-Ok.is in
    let matches = (slice_eq-Decides Decides-eqb _ _ _ c.eq.ensures).1 (c.format.ensures.text ∙ ap decimal e ∙ sym w.0) in
    false≢true (sym c.if-eq.false ∙ matches)

pub returns-in_default-2-clause-none : goal.returns-in_default-2-clause-none
returns-in_default-2-clause-none c = λ _ n w.
    let e = same _ _ n _ _ (Fits-lt-pow c.ranges.most) w.0 w.2 c.parse.ensures.value.0 c.in-Ok.is in
    let few = w.2 in
    omega (arith, c.if-count-most.false)

pub returns-in_default-3-clause-none : goal.returns-in_default-3-clause-none
returns-in_default-3-clause-none c = λ _ n w.
    let e = same _ _ n _ _ (Fits-lt-pow c.ranges.most) w.0 w.2 c.parse.ensures.value.0 c.in-Ok.is in
    let least = w.1 in
    omega (arith, c.if-count-ge1.false)

pub returns-in_default-4-clause-none : goal.returns-in_default-4-clause-none
returns-in_default-4-clause-none c = λ _ n w. let e = only _ n _ _ (Fits-lt-pow c.ranges.most) w.0 w.2 c.parse.ensures.value.0 in let is = c.in_default.is in cc
