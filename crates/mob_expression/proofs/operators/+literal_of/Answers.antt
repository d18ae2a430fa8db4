use Rattle.std.{specs.Prelude.{option_map}, proofs.Common.{◌≡◌, ◌∙◌, sym, ap, true}}
use Rattle.mob_ast.specs.Trees.{trees_of}
use Rattle.mob_expression.{specs.Words.{is_zero}, specs.Expressions.{is_signed, digits_in}, proofs.TreeFacts.{sign_none, sign_one, digits_of_one, digits_of_none, digits_of_more}}
use Rattle.mob_expression.proofs.operators.+literal_of.Goals as goal

pub returns-then-is_signed : goal.returns-then-is_signed
returns-then-is_signed t c =
    let signed : is_signed c.in-Sign.sign ≡ true = ap is_signed (sym c.as_str-in-len1.ensures.same) ∙ sym c.is_signed.ensures.sign ∙ c.if-is_signed.true in
    record {
      zero = c.literal_of.ensures.zero ∙ sym (ap (option_map is_zero) (sign_one c.args.e.now c.in-Sign.sign c.inner-item.result c.in-Sign.is signed
          (ap (λ es. digits_in (trees_of es)) (sym c.as_slice.ensures.value) ∙ digits_of_one c.as_slice.result.now c.inner-item.result c.in-len1.len_below c.inner-item.is c.in-len1.len_at_least)));
    }

pub returns-in_default-as_slice : goal.returns-in_default-as_slice
returns-in_default-as_slice t c = record {
  zero = sym (ap (option_map is_zero) (sign_none c.args.e.now c.in-Sign.sign c.in-Sign.is
      (ap (λ es. digits_in (trees_of es)) (sym c.as_slice.ensures.value) ∙ digits_of_none c.as_slice.result.now c.in_default-as_slice.len_below)));
}

pub returns-in_default-as_slice-2 : goal.returns-in_default-as_slice-2
returns-in_default-as_slice-2 t c = record {
  zero = sym (ap (option_map is_zero) (sign_none c.args.e.now c.in-Sign.sign c.in-Sign.is
      (ap (λ es. digits_in (trees_of es)) (sym c.as_slice.ensures.value) ∙ digits_of_more c.as_slice.result.now c.in_default-as_slice.len_at_least)));
}
