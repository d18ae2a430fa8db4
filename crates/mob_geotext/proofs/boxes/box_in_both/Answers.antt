use Rattle.std.{specs.Prelude.{Some, IfSome}, proofs.Common.{◌∙◌, sym, ap, ◌≡◌, true, subst}}
use Rattle.mob_stbox.{specs.Areas.{is_area}, proofs.BoxLaws.{made_box}}
use Rattle.mob_geotext.specs.Boxes.{box_in_both}
use Rattle.mob_geotext.proofs.boxes.box_in_both.Goals as goal

pub returns : goal.returns
returns c = record {
  value = made_box c.in_ok-area.field-0 (Some c.in_ok-span.field-0) c.new.result (subst (λ o. IfSome o (λ a. is_area a ≡ true)) c.in_ok-area.was c.requires.area) c.new.ensures.none c.new.ensures.value
      ∙ ap (λ o. box_in_both o (Some c.in_ok-span.field-0)) (sym c.in_ok-area.was) ∙ ap (box_in_both c.args.area) (sym c.in_ok-span.was);
}
