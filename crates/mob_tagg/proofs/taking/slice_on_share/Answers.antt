use Rattle.std.{proofs.Common.{refl}, proofs.iter.Next.{says_at}}
use Rattle.mob_tagg.proofs.taking.slice_on_share.Goals as goal

pub returns-in-Both : goal.returns-in-Both
returns-in-Both g c = rw c.in-Both.is (record { given = says_at g.F.Fn c.both.ensures refl })
