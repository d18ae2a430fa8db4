-- The columns that match a name in the tables read so far.
use Rattle.std.proofs.Common.{List, ◌∷◌, Option, Some, None}
use Rattle.mob_scope.specs.declared.scope.Found.{Found}

abbrev pub listed : Option Found → List Found → List Found
listed None fs = fs
listed (Some f) fs = f ∷ fs
