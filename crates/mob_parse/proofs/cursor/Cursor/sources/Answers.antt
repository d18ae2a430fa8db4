use Rattle.std.{proofs.Common.{◌≡◌, ◌≤◌, ◌∙◌, ◌∷◌, ◌++◌, [], Ok, true, false, length, map, arith, ap, sym, refl, append-nil}, proofs.lemmas.Result.{err_from_is_err_and}}
use Rattle.mob_ast.specs.Trees.{from_of}
use Rattle.mob_grammar.{specs.declared.mark.Mark.TheVariants.{Comma}, specs.Symbols.{starts, rest}, specs.Reading.{read}, specs.Scripts.{source_form}, proofs.Statements.{source_fits}}
use Rattle.mob_grammar.proofs.Steps.{chosen, passed}
use Rattle.mob_parse.{specs.Cursors.{left}, proofs.Shrinks.{form_shrinks}, proofs.Steps.{skipped, first_read, next_read, next_refused}}
use Rattle.mob_parse.proofs.Behind.{behind_gives, behind_stopped, list_over, first_refused, sources_stop, sources_read, tables_push}
use Rattle.mob_parse.proofs.cursor.Cursor.sources.Goals as goal

pub more-init : goal.more-init
more-init c =
    let (zs, gives, same) = behind_gives (map from_of c.new.result) _ (read source_form) _ _ c.in_ok-found.ensures.reads in
    let short = form_shrinks source_form source_fits _ _ _ gives in
    record { shorter = short; reads = (zs ∷ [], first_read Comma (read source_form) _ _ zs _ gives short refl, same ∙ ap (λ v. map from_of v ++ zs) c.new.ensures.empty ∙ sym (append-nil zs)) }

pub more-preserved : goal.more-preserved
more-preserved c =
    let there : starts Comma (left c.more.self) ≡ true = sym c.skip.ensures.found ∙ c.more-test.true in
    let now : left c.skip.new.self ≡ rest (left c.more.self) = c.skip.ensures.passed ∙ chosen _ _ _ there in
    let (xs, so_far, before) = c.more.invariant.reads in
    let (zs, gives, same) = behind_gives (map from_of c.more.found) _ (read source_form) _ _ c.in_ok-found-2.ensures.reads in
    let short : length (left c.source-in-more.new.self) ≤ length (left c.skip.new.self) = form_shrinks source_form source_fits _ _ _ gives in
    let gone = skipped Comma (left c.more.self) there in
    let long = ap length now in
    let near = c.more.invariant.shorter in
    record { shorter = omega arith; reads = (xs ++ zs ∷ [], next_read Comma (read source_form) _ _ _ _ xs _ zs so_far there now gives short refl, same ∙ ap (λ v. v ++ zs) before ∙ sym (tables_push xs zs)) }

pub more-smaller : goal.more-smaller
more-smaller c =
    let there : starts Comma (left c.more.self) ≡ true = sym c.skip.ensures.found ∙ c.more-test.true in
    let now : left c.skip.new.self ≡ rest (left c.more.self) = c.skip.ensures.passed ∙ chosen _ _ _ there in
    let (zs, gives, same) = behind_gives (map from_of c.more.found) _ (read source_form) _ _ c.in_ok-found-2.ensures.reads in
    let short : length (left c.source-in-more.new.self) ≤ length (left c.skip.new.self) = form_shrinks source_form source_fits _ _ _ gives in
    let gone = skipped Comma (left c.more.self) there in
    let long = ap length now in
    omega arith

pub returns-in_err-found : goal.returns-in_err-found
returns-in_err-found c =
    let p = err_from_is_err_and c.from_residual.result c.from_residual.ensures.1 in
    record { reads = rw (p.1, p.2) (sources_stop _ _ _ (first_refused Comma (read source_form) _ _ _ (behind_stopped (map from_of c.new.result) (read source_form) _ _ _ c.in_err-found.ensures.reads))) }

pub returns-in_err-found-2 : goal.returns-in_err-found-2
returns-in_err-found-2 c =
    let there : starts Comma (left c.more.self) ≡ true = sym c.skip.ensures.found ∙ c.more-test.true in
    let now : left c.skip.new.self ≡ rest (left c.more.self) = c.skip.ensures.passed ∙ chosen _ _ _ there in
    let p = err_from_is_err_and c.from_residual-in_err-found-2.result c.from_residual-in_err-found-2.ensures.1 in
    let (xs, so_far, before) = c.more.invariant.reads in
    record { reads = rw (p.1, p.2) (sources_stop _ _ _ (next_refused Comma (read source_form) _ _ _ _ xs _ so_far there now (behind_stopped (map from_of c.more.found) (read source_form) _ _ _ c.in_err-found-2.ensures.reads))) }

pub returns : goal.returns
returns c =
    let gone : starts Comma (left c.more.self) ≡ false = sym c.skip.ensures.found ∙ c.more-test.false in
    let now : left c.skip.new.self ≡ left c.more.self = c.skip.ensures.passed ∙ passed _ _ _ gone in
    let (xs, so_far, before) = c.more.invariant.reads in
    record { reads = sources_read _ _ xs _ (list_over Comma (read source_form) _ _ xs so_far gone ∙ ap (λ v. Ok (xs, v)) (sym now)) before }
