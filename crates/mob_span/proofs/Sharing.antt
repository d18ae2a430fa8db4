-- The set of the instants that two lists of spans share.
use Rattle.std.{specs.Prelude.{◌≡◌, Bool, true, false, cond, refl, ◌||◌, ◌&&◌, List, [], ◌∷◌, ◌++◌, map, Option, Some, None, option_map}, specs.List.{list_any}, specs.Option.{option_zip}}
use Rattle.std.proofs.Common.{ap, sym, ◌∙◌, append-nil}
use Rattle.mob_ratio.specs.Ratio.{Ratio}
use Rattle.mob_span.{specs.Span.{SpanOf, has}, specs.Pieces.{piece_at}, specs.Meets.{PieceOf, shared_pieces}, specs.Sets.{in_some}, specs.Remainders.{IsInBoth}, proofs.MeetLaws.{meets_at, sides}}

abbrev pub is_there : {A : Type 0} → Option A → Bool
is_there None = false
is_there (Some x) = true

-- some part has the instant exactly if `piece_at` finds one there
pub there : {P : Type 0} (span : P → SpanOf) (ps : List P) (t : Ratio) → list_any (λ p. has (span p) t) ps ≡ is_there (piece_at span ps t)
there span [] t = refl
there span (p ∷ ps) t = ap (λ b. has (span p) t || b) (there span ps t) ∙ by (has (span p) t)
  where
    by : (b : Bool) → (b || is_there (piece_at span ps t)) ≡ is_there (cond b (Some p) (piece_at span ps t))
    by true = refl
    by false = refl

pub any_map : {P : Type 0} (span : P → SpanOf) (ps : List P) (t : Ratio) → in_some (map span ps) t ≡ list_any (λ p. has (span p) t) ps
any_map span [] t = refl
any_map span (p ∷ ps) t = ap (λ b. has (span p) t || b) (any_map span ps t)

mapped : {A B : Type 0} (f : A → B) (o : Option A) → is_there o ≡ is_there (option_map f o)
mapped f None = refl
mapped f (Some x) = refl

zipped : {A B : Type 0} (o : Option A) (p : Option B) → is_there (option_zip o p) ≡ (is_there o && is_there p)
zipped None p = refl
zipped (Some x) None = refl
zipped (Some x) (Some y) = refl

-- the pieces that two lists share have exactly the instants of both
pub pieces_in : (v w : List SpanOf) → IsInBoth v w (map (λ p. p.span) (shared_pieces (λ s. s) (λ s. s) v w))
pieces_in v w t =
    let ps = shared_pieces (λ s. s) (λ s. s) v w in
    any_map (λ p. p.span) ps t
    ∙ there (λ p. p.span) ps t
    ∙ mapped (sides (λ s. s) (λ s. s)) (piece_at (λ p. p.span) ps t)
    ∙ ap is_there (meets_at (λ s. s) (λ s. s) v w t)
    ∙ zipped (piece_at (λ s. s) v t) (piece_at (λ s. s) w t)
    ∙ ap (λ b. b && is_there (piece_at (λ s. s) w t)) (sym (there (λ s. s) v t))
    ∙ ap (λ b. in_some v t && b) (sym (there (λ s. s) w t))

pub pieces_all : (o : List SpanOf) (ps : List (PieceOf SpanOf SpanOf)) (all : List SpanOf) → ps ≡ [] → o ++ map (λ p. p.span) ps ≡ all → o ≡ all
pieces_all o ps all e h = sym (append-nil o) ∙ (rw e at h)
