-- The ends in memory, as contracts see them.
use Rattle.std.specs.Prelude.{ℕ, List, [], Bool, false}
use Rattle.mob_outside.specs.Told.{Contents}

-- A source in memory: the bytes left, the numbers of the calls that fail, the most bytes that a
-- call returns, the number of calls so far, and how many of them failed.
pub record SourceState : Type 0 where
  pub left : List ℕ
  pub failing : List ℕ
  pub step : ℕ
  pub calls : ℕ
  pub faults : ℕ

-- a source before its first call
abbrev pub new_source : List ℕ → List ℕ → ℕ → SourceState
new_source bytes failing step = record { left = bytes; failing = failing; step = step; calls = 0; faults = 0 }

-- A sink in memory: the bytes that it took, and the other fields of a source.
pub record SinkState : Type 0 where
  pub held : List ℕ
  pub failing : List ℕ
  pub step : ℕ
  pub calls : ℕ
  pub faults : ℕ

-- a sink before its first call
abbrev pub new_sink : List ℕ → ℕ → SinkState
new_sink failing step = record { held = []; failing = failing; step = step; calls = 0; faults = 0 }

-- Files in memory: the files, the names requested, the bytes that the open file has left, whether
-- one is open, and the other fields of a source. Opens and takes are counted together.
pub record FilesState : Type 0 where
  pub files : Contents
  pub asked : List (List ℕ)
  pub left : List ℕ
  pub is_ready : Bool
  pub failing : List ℕ
  pub step : ℕ
  pub calls : ℕ
  pub faults : ℕ

-- files before the first call
abbrev pub new_files : Contents → List ℕ → ℕ → FilesState
new_files files failing step = record {
  files = files;
  asked = [];
  left = [];
  is_ready = false;
  failing = failing;
  step = step;
  calls = 0;
  faults = 0;
}
