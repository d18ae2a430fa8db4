-- Visible bytes that grow and are taken in steps.
use Rattle.std.{specs.Prelude.{Option}, specs.Io.KnownBytes.{Appends, Consumes}, proofs.Common.{arith, ◌≡◌, ◌∙◌, refl, sym, ap, ℕ, ◌+◌, ◌-◌, ◌≤◌, List, [], ◌++◌, take, drop, length, Some, None}}
use Rattle.std.{proofs.lemmas.List.{append-nil, append_assoc, length-append, length-drop, length-take, take_all}, proofs.Math.Seq.{take-add}}
use Rattle.mob_outside.specs.Streams.{ReadsPart, ReadsTo}

pub puts_nothing : (o : Option (List ℕ)) → Appends o o []
puts_nothing None = tt
puts_nothing (Some xs) = sym (append-nil xs)

pub puts_more : (a b c : Option (List ℕ)) (x y : List ℕ) → Appends a b x → Appends b c y → Appends a c (x ++ y)
puts_more None b c x y first next = tt
puts_more (Some xs) None c x y first next = absurd first
puts_more (Some xs) (Some ys) None x y first next = absurd next
puts_more (Some xs) (Some ys) (Some zs) x y first next = next ∙ ap (λ (w : List ℕ). w ++ y) first ∙ append_assoc xs x y

pub takes_nothing : (o : Option (List ℕ)) → Consumes o o []
takes_nothing None = tt
takes_nothing (Some xs) = refl

pub takes_more : (a b c : Option (List ℕ)) (x y : List ℕ) → Consumes a b x → Consumes b c y → Consumes a c (x ++ y)
takes_more None b c x y first next = tt
takes_more (Some xs) None c x y first next = absurd first
takes_more (Some xs) (Some ys) None x y first next = absurd next
takes_more (Some xs) (Some ys) (Some zs) x y first next = first ∙ ap (λ (w : List ℕ). x ++ w) next ∙ sym (append_assoc x y zs)

-- nothing is read
pub reads_none : (limit : ℕ) (o : Option (List ℕ)) → ReadsPart limit o o
reads_none limit o = record { bytes = []; taken = takes_nothing o; bound = omega arith }

-- the bytes read are all bytes, if they do not exceed the limit
pub read_whole : (limit : ℕ) (old : List ℕ) (new : Option (List ℕ)) (bytes : List ℕ) → ReadsTo limit (Some old) new bytes → length bytes ≤ limit → old ≡ bytes
read_whole limit old None bytes reads short = absurd reads.taken
read_whole limit old (Some left) bytes reads short = reads.taken ∙ ap (λ (w : List ℕ). bytes ++ w) (reads.whole short) ∙ append-nil bytes

-- the bytes before are no fewer than those read
pub read_within : (limit : ℕ) (old : List ℕ) (new : Option (List ℕ)) (bytes : List ℕ) → ReadsTo limit (Some old) new bytes → length bytes ≤ length old
read_within limit old None bytes reads = absurd reads.taken
read_within limit old (Some left) bytes reads = let parts : length old ≡ length bytes + length left = ap length reads.taken ∙ length-append bytes left in omega arith

-- a take that returned n more bytes
pub reads_more : (limit : ℕ) (old now new : Option (List ℕ)) (text into : List ℕ) (n : ℕ) → Consumes old now text
    → Consumes now new (take n into) → length text + n ≤ limit + 1 → ReadsPart limit old new
reads_more limit old now new text into n first next room = record {
  bytes = text ++ take n into;
  taken = takes_more old now new text (take n into) first next;
  bound = rw (length-append text (take n into)) (omega (arith, length-take n into));
}

-- a put of the rest that took n bytes
pub puts_on : (old now new : Option (List ℕ)) (at n : ℕ) (text : List ℕ) → Appends old now (take at text)
    → Appends now new (take n (take (length text - at) (drop at text))) → Appends old new (take (at + n) text)
puts_on old now new at n text first next =
    let rest : take (length text - at) (drop at text) ≡ drop at text = take_all _ _ (rw length-drop (omega arith)) in
    rw take-add (puts_more old now new (take at text) (take n (drop at text)) first (rw rest at next))
