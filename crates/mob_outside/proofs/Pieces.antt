-- Texts that are put one after another.
use Rattle.std.{specs.Prelude.{Option}, specs.List.{concat}, specs.Io.KnownBytes.{Appends}}
use Rattle.std.proofs.Common.{arith, ◌≡◌, ◌∙◌, ap, sym, ℕ, ◌+◌, ◌<◌, List, [], ◌∷◌, ◌++◌, length, map, take, drop, get_or, Bor}
use Rattle.std.{proofs.lemmas.List.{append-nil, drop_more, length-append, map-append, take-append-drop, take-append-le, take_more}, proofs.lemmas.List.Folds.{concat-append}}
use Rattle.std.proofs.Math.Seq.{take-append-add}
use Rattle.mob_outside.{specs.Streams.{PutsPart}, proofs.Known.{puts_more}}

abbrev pub joined : List (Bor (List ℕ)) → List ℕ
joined pieces = concat (map (λ p. p.now) pieces)

pub joined_more : (pieces : List (Bor (List ℕ))) (i : ℕ) (d : Bor (List ℕ)) → i < length pieces
    → joined (take (i + 1) pieces) ≡ joined (take i pieces) ++ (get_or pieces i d).now
joined_more pieces i d lt =
    ap joined (take_more pieces i d lt)
    ∙ ap concat (map-append (λ (p : Bor (List ℕ)). p.now) (take i pieces) (get_or pieces i d ∷ []))
    ∙ concat-append (map (λ (p : Bor (List ℕ)). p.now) (take i pieces)) ((get_or pieces i d).now ∷ [])
    ∙ ap (λ (w : List ℕ). joined (take i pieces) ++ w) (append-nil (get_or pieces i d).now)

pub joined_split : (pieces : List (Bor (List ℕ))) (i : ℕ) (d : Bor (List ℕ)) → i < length pieces
    → joined pieces ≡ joined (take i pieces) ++ ((get_or pieces i d).now ++ joined (drop (i + 1) pieces))
joined_split pieces i d lt =
    ap joined (sym (take-append-drop i pieces))
    ∙ ap concat (map-append (λ (p : Bor (List ℕ)). p.now) (take i pieces) (drop i pieces))
    ∙ concat-append (map (λ (p : Bor (List ℕ)). p.now) (take i pieces)) (map (λ (p : Bor (List ℕ)). p.now) (drop i pieces))
    ∙ ap (λ (w : List (Bor (List ℕ))). joined (take i pieces) ++ joined w) (drop_more pieces i d lt)

pub pieces_on : (old now new : Option (List ℕ)) (pieces : List (Bor (List ℕ))) (i : ℕ) (d : Bor (List ℕ)) → i < length pieces
    → Appends old now (joined (take i pieces)) → Appends now new (get_or pieces i d).now
    → Appends old new (joined (take (i + 1) pieces))
pieces_on old now new pieces i d lt first next =
    rw (joined_more pieces i d lt) (puts_more old now new (joined (take i pieces)) (get_or pieces i d).now first next)

pub pieces_part : (old now new : Option (List ℕ)) (pieces : List (Bor (List ℕ))) (i : ℕ) (d : Bor (List ℕ)) → i < length pieces
    → Appends old now (joined (take i pieces)) → PutsPart (get_or pieces i d).now now new
    → PutsPart (joined pieces) old new
pieces_part old now new pieces i d lt first part =
    let front = joined (take i pieces) in
    let piece = (get_or pieces i d).now in
    let back = joined (drop (i + 1) pieces) in
    let split : joined pieces ≡ front ++ (piece ++ back) = joined_split pieces i d lt in
    let cut : take (length front + part.0) (joined pieces) ≡ front ++ take part.0 piece =
    ap (take (length front + part.0)) split ∙ take-append-add front (piece ++ back) part.0
    ∙ ap (λ (w : List ℕ). front ++ w) (take-append-le part.0 piece back (omega arith)) in
    let long : length (joined pieces) ≡ length front + (length piece + length back) = ap length split ∙ length-append front (piece ++ back) ∙ ap (λ (w : ℕ). length front + w) (length-append piece back) in
    (length front + part.0, omega arith, rw cut (puts_more old now new front (take part.0 piece) first part.2))
