use Rattle.std.{specs.Prelude.{None, IfSome}, proofs.Common.{◌∙◌, sym, ap, ◌≡◌, true, subst}}
use Rattle.mob_stbox.{specs.Areas.{is_area}, proofs.BoxLaws.{made_box}}
use Rattle.mob_geotext.specs.Boxes.{box_in_space}
use Rattle.mob_geotext.proofs.boxes.box_in_space.Goals as goal

pub returns : goal.returns
returns c = record { value = made_box c.in_ok-area.field-0 None c.new.result (subst (λ o. IfSome o (λ a. is_area a ≡ true)) c.in_ok-area.was c.requires.area) c.new.ensures.none c.new.ensures.value ∙ ap box_in_space (sym c.in_ok-area.was) }
