-- Commands built option by option and flag by flag.
use Rattle.std.{proofs.Common.{◌≡◌, ◌<◌, ◌+◌, ◌++◌, ◌∷◌, [], Bor, List, ℕ, ap, map, take, get_or, length, refl, sym, ◌∙◌}, proofs.lemmas.List.{append-nil, append_assoc, map-append, take_more}}
use Rattle.clap.specs.Words.{App, Rule, Text, new_app, with_rule}
use Rattle.mob_arguments.specs.Arguments.{command_of, flag, option, without_flags}

pub no_option : (name : Text) → command_of name [] [] ≡ without_flags (new_app name)
unfolding command_of
no_option name = refl

abbrev with_rules : App → List Rule → App
with_rules a rules = record a { top = record a.top { rules = rules } }

one_more : (name : Text) (options : List Text) (next : Text) → with_rule (command_of name options []) (option next) ≡ command_of name (options ++ next ∷ []) []
unfolding command_of
one_more name options next =
    ap (with_rules (without_flags (new_app name)))
    (ap (λ rules. rules ++ option next ∷ []) (append-nil (map option options)) ∙ sym (map-append option options (next ∷ [])) ∙ sym (append-nil (map option (options ++ next ∷ []))))

one_more_flag : (name : Text) (options flags : List Text) (next : Text) → with_rule (command_of name options flags) (flag next) ≡ command_of name options (flags ++ next ∷ [])
unfolding command_of
one_more_flag name options flags next =
    ap (with_rules (without_flags (new_app name)))
    (append_assoc (map option options) (map flag flags) (flag next ∷ []) ∙ ap (λ rules. map option options ++ rules) (sym (map-append flag flags (next ∷ []))))

abbrev texts : List (Bor (List ℕ)) → List Text
texts options = map (λ o. o.now) options

-- the texts before an index, with the text at it
texts_more : (options : List (Bor (List ℕ))) (i : ℕ) (other : Bor (List ℕ)) → i < length options → texts (take i options) ++ (get_or options i other).now ∷ [] ≡ texts (take (i + 1) options)
texts_more options i other below = sym (map-append (λ (o : Bor (List ℕ)). o.now) (take i options) (get_or options i other ∷ [])) ∙ ap texts (sym (take_more options i other below))

-- with the next of the borrowed options
pub next_option : (name : Text) (options : List (Bor (List ℕ))) (i : ℕ) (other : Bor (List ℕ)) (before after : App) → i < length options
    → before ≡ command_of name (map (λ o. o.now) (take i options)) [] → after ≡ with_rule before (option (get_or options i other).now)
    → after ≡ command_of name (map (λ o. o.now) (take (i + 1) options)) []
next_option name options i other before after below is added =
    added ∙ ap (λ (a : App). with_rule a (option (get_or options i other).now)) is ∙ one_more name (texts (take i options)) (get_or options i other).now
    ∙ ap (λ (all : List Text). command_of name all []) (texts_more options i other below)

-- with the next of the borrowed flags
pub next_flag : (name : Text) (options : List Text) (flags : List (Bor (List ℕ))) (i : ℕ) (other : Bor (List ℕ)) (before after : App) → i < length flags
    → before ≡ command_of name options (map (λ f. f.now) (take i flags)) → after ≡ with_rule before (flag (get_or flags i other).now)
    → after ≡ command_of name options (map (λ f. f.now) (take (i + 1) flags))
next_flag name options flags i other before after below is added =
    added ∙ ap (λ (a : App). with_rule a (flag (get_or flags i other).now)) is ∙ one_more_flag name options (texts (take i flags)) (get_or flags i other).now
    ∙ ap (command_of name options) (texts_more flags i other below)
