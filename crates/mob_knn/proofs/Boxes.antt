-- Boxes with space.
use Rattle.std.{specs.Prelude.{is_some}, proofs.Common.{◌≡◌, true}, proofs.lemmas.Bool.{and_parts}}
use Rattle.mob_stbox.specs.Boxes.{BoxOf, is_whole}

pub whole_space : (b : BoxOf) → is_whole b ≡ true → is_some b.space ≡ true
unfolding is_whole
whole_space b h = (and_parts (is_some b.space) (is_some b.time) h).0
