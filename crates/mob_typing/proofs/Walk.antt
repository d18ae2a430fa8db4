-- The walk over the answers of typing: what holds of a value that is given, and of the place of a
-- mistake.
use Rattle.std.specs.List.{AllByRecursion}
use Rattle.std.proofs.Common.{◌≡◌, ◌∙◌, refl, sym, ap, subst, ℕ, List, [], ◌∷◌, ◌++◌, map, append_assoc, append-nil, Bool, true, false, Option, Some, None, Result, Ok, Err}
use Rattle.std.proofs.lemmas.List.{map-append}
use Rattle.mob_ast.specs.declared.refusal.Kind.{Kind}
use Rattle.mob_grammar.{specs.Places.{IsWithin, nothing, same}, proofs.Within.{within_both, within_trans}}
use Rattle.mob_typed.specs.declared.typed.ConstText.{ConstText}
use Rattle.mob_list.proofs.Each.{each_both, each_on}
use Rattle.mob_scope.{specs.Answers.{◌>>=◌, unless, found}, specs.declared.fault.Mistake.{Mistake}}

-- an answer has a value with this property, or a mistake at such a place
pub data GivesOrStops {A : Type 0} (At : ℕ → Type 0) (Gives : A → Type 0) : Result A Mistake → Type 0 where
  gives : {x : A} → Gives x → GivesOrStops At Gives (Ok x)
  stops : {w : Mistake} → At w.place → GivesOrStops At Gives (Err w)

-- one answer, and then the one that depends on its value
pub then : {A B : Type 0} {At : ℕ → Type 0} {Q : A → Type 0} {P : B → Type 0} {r : Result A Mistake} {f : A → Result B Mistake}
    → GivesOrStops At Q r → ((x : A) → Q x → GivesOrStops At P (f x)) → GivesOrStops At P (r >>= f)
then (gives {x} q) k = k x q
then (stops at) k = stops at

-- the value has another property too
pub also : {A : Type 0} {At : ℕ → Type 0} {Q P : A → Type 0} {r : Result A Mistake} → GivesOrStops At Q r → ((x : A) → Q x → P x) → GivesOrStops At P r
also (gives {x} q) on = gives (on x q)
also (stops at) on = stops at

module _ {At : ℕ → Type 0} where
  pub passes : (test : Bool) (kind : Kind) (p : ℕ) → At p → GivesOrStops At (λ _. test ≡ false) (unless test kind p)
  passes true kind p at = stops at
  passes false kind p at = gives refl

  pub finds : {A : Type 0} (kind : Kind) (p : ℕ) (o : Option A) → At p → GivesOrStops At (λ x. o ≡ Some x) (found kind p o)
  finds kind p None at = stops at
  finds kind p (Some x) at = gives refl

abbrev pub Belongs : ℕ → ConstText → Type 0
Belongs n c = c.statement ≡ n

abbrev pub places_of : List ConstText → List ℕ
places_of cs = map (λ c. c.place) cs

-- the constants after a step are those before it and new ones, which belong to statement n and are
-- at places among ps
pub record Adds (n : ℕ) (ps : List ℕ) (before after : List ConstText) : Type 0 where
  pub new : List ConstText
  pub is : after ≡ before ++ new
  pub own : AllByRecursion (Belongs n) new
  pub within : IsWithin (places_of new) ps

pub adds_none : {n : ℕ} {ps : List ℕ} {cs : List ConstText} → Adds n ps cs cs
adds_none {n} {ps} {cs} = record { new = []; is = sym (append-nil cs); own = tt; within = nothing }

pub adds_one : {ps : List ℕ} (cs : List ConstText) (c : ConstText) → Adds c.statement (c.place ∷ ps) cs (cs ++ c ∷ [])
adds_one cs c = record { new = c ∷ []; is = refl; own = (refl, tt); within = same nothing }

pub adds_within : {n : ℕ} {ps qs : List ℕ} {a b : List ConstText} → IsWithin ps qs → Adds n ps a b → Adds n qs a b
adds_within w h = record { new = h.new; is = h.is; own = h.own; within = within_trans h.within w }

pub adds_both : {n : ℕ} {ps qs : List ℕ} {a b c : List ConstText} → Adds n ps a b → Adds n qs b c → Adds n (ps ++ qs) a c
adds_both {n} {ps} {qs} {a} h k = record {
  new = h.new ++ k.new;
  is = k.is ∙ ap (λ x. x ++ k.new) h.is ∙ append_assoc a h.new k.new;
  own = each_both (Belongs n) h.new k.new h.own k.own;
  within = subst (λ qs'. IsWithin qs' (ps ++ qs)) (sym (map-append (λ c. c.place) h.new k.new)) (within_both h.within k.within);
}

-- a step of statement n gives a value that is sound with the constants after it, and appends
-- literals at places among ps
pub record Steps {A : Type 0} (n : ℕ) (ps : List ℕ) (Sound : List ConstText → A → Type 0) (before : List ConstText) (x : A × List ConstText) : Type 0 where
  pub adds : Adds n ps before x.1
  pub sound : Sound x.1 x.0

-- a sound value is still sound after more constants
abbrev pub Stays : {A : Type 0} → (List ConstText → A → Type 0) → Type 0
Stays {A} Sound = (x : A) (cs more : List ConstText) → Sound cs x → Sound (cs ++ more) x

pub still : {A : Type 0} (Sound : List ConstText → A → Type 0) → Stays Sound → {n : ℕ} {ps : List ℕ} {before after : List ConstText} (x : A) → Adds n ps before after → Sound before x → Sound after x
still Sound stays {n} {ps} {before} {after} x adds h = subst (λ cs. Sound cs x) (sym adds.is) (stays x before adds.new h)

pub all_stay : {A : Type 0} (Sound : List ConstText → A → Type 0) → Stays Sound → Stays (λ cs xs. AllByRecursion (Sound cs) xs)
all_stay Sound stays xs cs more h = each_on (Sound cs) (Sound (cs ++ more)) (λ x s. stays x cs more s) xs h
