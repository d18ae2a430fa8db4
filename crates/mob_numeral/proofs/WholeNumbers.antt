-- An int is a whole number.
use Rattle.std.proofs.Common.{Err}
use Rattle.mob_language.specs.Language.{Text}
use Rattle.mob_numeral.{specs.declared.fault.ReadText.{ReadText}, specs.declared.fault.ReadText.TheVariants.{NotText, Limit, TooLarge, Unsound, NoMemory}, specs.Numbers.{numbers, whole_numbers}}
use Rattle.mob_numeral.specs.Verdict.{Lit}

pub same_fault : (text : Text) (e : ReadText) → Lit numbers text (Err e) → Lit whole_numbers text (Err e)
same_fault text NotText h = h
same_fault text Limit h = h
same_fault text TooLarge h = h
same_fault text Unsound h = absurd h.4
same_fault text NoMemory h = h
