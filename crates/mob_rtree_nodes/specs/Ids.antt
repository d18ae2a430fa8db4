-- The entries that have none of some ids.
use Rattle.std.{specs.Prelude.{not, ℕ, List}, specs.List.{filter}}
use Rattle.mob_list.specs.Live.{is_among}
use Rattle.mob_rtree_nodes.specs.Tree.{EntryOf}

-- the entries whose id is none of these
abbrev pub without_ids : List ℕ → List EntryOf → List EntryOf
without_ids ids entries = filter (λ e. not (is_among e.1 ids)) entries
