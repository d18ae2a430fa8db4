use Rattle.mob_catalog.{specs.Catalogue.{live_rows}, proofs.TypedTables.{live_rise}}
use Rattle.mob_join.{specs.Query.{IsMetAt, conditions}, proofs.KeptTuples.{meet_any, those_once}}
use Rattle.mob_laws.proofs.KeptTuples.{kept_live}
use Rattle.mob_laws.proofs.kept.kept_rows_are_rows.Goals as goal

pub returns : goal.returns
returns c = record {
  kept = λ q c terms kept h. h.1;
  met = λ q c terms kept typed h clean. ((meet_any (conditions q) (IsMetAt q c terms) (live_rows c) (λ t. live_rise c.heads c.store.tables t typed.live) q.from kept h, clean), h);
  one = λ q c terms kept others h k. those_once (conditions q) (IsMetAt q c terms) (live_rows c) q.from kept others h k;
  live = kept_live;
  selects = λ settings input count text run q answer next h. (h.1.0, h.0, h.1.1.1, h.1.2, h.2);
  deletes = λ settings input count text run q left next h. (h.0, h.1.1, h.2);
}
