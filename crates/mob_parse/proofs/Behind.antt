-- Reading a list and appending it to another.
use Rattle.std.proofs.Common.{◌≡◌, ◌∙◌, List, [], ◌∷◌, ◌++◌, length, false, Ok, Err, refl, sym, ap, append_assoc, append-nil}
use Rattle.mob_ast.specs.Trees.{FromParts}
use Rattle.mob_grammar.{specs.declared.mark.Mark.{Mark}, specs.declared.mark.Mark.TheVariants.{Comma}, specs.Symbols.{PlacedSymbol, starts}, specs.Scripts.{tables_of, source_form, sources_form}}
use Rattle.mob_grammar.{specs.Reading.{Answer, TokenReader, ◌>>=◌, listed, listed_from, read}, proofs.Tells.{through}, proofs.Steps.{listed_stops}}
use Rattle.mob_list.{specs.declared.fault.Fault.{Fault}, specs.declared.fault.Fault.TheVariants.{Because, NoMemory}}
use Rattle.mob_parse.{specs.declared.cursor.Syntax.{Syntax}, specs.Cursors.{StopsReading}, specs.Behind.{put_behind}, proofs.Steps.{ReadSoFar, stops_through}}

given_back : {A : Type 0} (a : Answer (List A)) → (a >>= λ ys. Ok ([] ++ ys.0, ys.1)) ≡ a
given_back (Ok x) = refl
given_back (Err r) = refl

pub behind_ok : {A : Type 0} (xs : List A) (s : TokenReader (List A)) (l r : List PlacedSymbol) (ys zs : List A) → s l ≡ Ok (ys, r) → zs ≡ xs ++ ys → put_behind xs s l ≡ Ok (zs, r)
unfolding put_behind
behind_ok xs s l r ys zs h e = through (s l) ys r _ h ∙ ap (λ v. Ok (v, r)) (sym e)

pub behind_stops : {A : Type 0} (xs : List A) (s : TokenReader (List A)) (l r : List PlacedSymbol) (e : Fault Syntax) → StopsReading e r (s l) → StopsReading e r (put_behind xs s l)
unfolding put_behind
behind_stops xs s l r e h = stops_through e r (s l) (λ ys. Ok (xs ++ ys.0, ys.1)) (put_behind xs s l) refl h

-- appending to an empty list changes nothing
pub behind_nothing : {A : Type 0} (s : TokenReader (List A)) (l : List PlacedSymbol) → put_behind [] s l ≡ s l
unfolding put_behind
behind_nothing s l = given_back (s l)

-- a list whose items have all been read is read
pub list_over : {A : Type 0} (m : Mark) (s : TokenReader A) (whole l : List PlacedSymbol) (xs : List A) → ReadSoFar m s whole xs l → starts m l ≡ false → listed m s whole ≡ Ok (xs, l)
list_over m s whole l xs so_far h = so_far.2 ∙ listed_stops m s so_far.0 xs l h

pub tables_push : (ss : List (List FromParts)) (s : List FromParts) → tables_of (ss ++ s ∷ []) ≡ tables_of ss ++ s
tables_push [] s = append-nil s
tables_push (t ∷ ss) s = ap (λ v. t ++ v) (tables_push ss s) ∙ sym (append_assoc t (tables_of ss) s)

left_over : {A : Type 0} → Answer (List A) → List PlacedSymbol
left_over (Ok x) = x.1
left_over (Err r) = r

list_given : {A : Type 0} → Answer (List A) → List A
list_given (Ok x) = x.0
list_given (Err r) = []

-- the result of appending, from the result of reading
behind_by : {A : Type 0} (xs ys : List A) (s : TokenReader (List A)) (l r : List PlacedSymbol) (a : Answer (List A)) → s l ≡ a → (a >>= λ zs. Ok (xs ++ zs.0, zs.1)) ≡ Ok (ys, r) → (zs : List A) × (s l ≡ Ok (zs, r)) × (ys ≡ xs ++ zs)
unfolding left_over list_given
behind_by xs ys s l r (Ok z) e h = (z.0, e ∙ ap (λ v. Ok (z.0, v)) (ap left_over h), sym (ap list_given h))
behind_by xs ys s l r (Err q) e h = absurd (cc h)

pub behind_gives : {A : Type 0} (xs ys : List A) (s : TokenReader (List A)) (l r : List PlacedSymbol) → put_behind xs s l ≡ Ok (ys, r) → (zs : List A) × (s l ≡ Ok (zs, r)) × (ys ≡ xs ++ zs)
unfolding put_behind
behind_gives xs ys s l r h = behind_by xs ys s l r (s l) refl h

-- a refusal of the reader is a refusal of the appending reader
stopped_by : {A : Type 0} (xs : List A) (s : TokenReader (List A)) (l r : List PlacedSymbol) (a : Answer (List A)) → s l ≡ a → (a >>= λ zs. Ok (xs ++ zs.0, zs.1)) ≡ Err r → s l ≡ Err r
stopped_by xs s l r (Ok z) e h = absurd (cc h)
stopped_by xs s l r (Err q) e h = e ∙ h

pub behind_stopped : {A : Type 0} (xs : List A) (s : TokenReader (List A)) (l r : List PlacedSymbol) (e : Fault Syntax) → StopsReading e r (put_behind xs s l) → StopsReading e r (s l)
unfolding put_behind
behind_stopped xs s l r (Because wrong) h = stopped_by xs s l r (s l) refl h
behind_stopped xs s l r NoMemory h = tt

-- the first item is refused
pub first_refused : {A : Type 0} (m : Mark) (inner : TokenReader A) (l r : List PlacedSymbol) (e : Fault Syntax) → StopsReading e r (inner l) → StopsReading e r (listed m inner l)
unfolding listed
first_refused m inner l r e h = stops_through e r (inner l) (λ x. listed_from m inner (length l) (x.0 ∷ []) x.1) (listed m inner l) refl h

pub sources_stop : (l r : List PlacedSymbol) (e : Fault Syntax) → StopsReading e r (listed Comma (read source_form) l) → StopsReading e r (read sources_form l)
unfolding read sources_form
sources_stop l r e h = stops_through e r (listed Comma (read source_form) l) (λ ss. Ok (tables_of ss.0, ss.1)) (read sources_form l) refl h

pub sources_read : (l r : List PlacedSymbol) (ss : List (List FromParts)) (fs : List FromParts) → listed Comma (read source_form) l ≡ Ok (ss, r) → fs ≡ tables_of ss → read sources_form l ≡ Ok (fs, r)
unfolding read sources_form
sources_read l r ss fs h e = through (listed Comma (read source_form) l) ss r _ h ∙ ap (λ v. Ok (v, r)) (sym e)
