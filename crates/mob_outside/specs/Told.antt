-- The visible contents of files: a map from names to bytes, and the names requested. Nothing is
-- claimed of opaque files.
use Rattle.std.{specs.declared.alloc.Global.{Global}, specs.Prelude.{String, Vec, string_bytes, ◌≡◌, ◌⊎◌, ◌++◌, ◌∷◌, ⊤, ℕ, List, [], Option, Some, None, Bool, IsSome, option_map, find, bytes_eq}}

-- a map from names to bytes, as a list of pairs; the first pair with a name counts
abbrev pub Contents : Type 0
Contents = List (List ℕ × List ℕ)

-- a named text in memory as an entry of the map
abbrev pub entry : String Global × Vec ℕ Global → List ℕ × List ℕ
entry p = (string_bytes p.0, p.1.items)

-- the bytes of the file with this name, or none if no file has it
abbrev pub file_of : List ℕ → Contents → Option (List ℕ)
file_of name files = option_map (λ (p : List ℕ × List ℕ). p.1) (find (λ (p : List ℕ × List ℕ). bytes_eq p.0 name) files)

-- a visible map is unchanged
abbrev pub KeepsFiles : Option Contents → Option Contents → Type 0
KeepsFiles None new = ⊤
KeepsFiles (Some files) new = new ≡ Some files

-- visible names are unchanged
abbrev pub KeepsNames : Option (List (List ℕ)) → Option (List (List ℕ)) → Type 0
KeepsNames None new = ⊤
KeepsNames (Some names) new = new ≡ Some names

-- this name is appended to visible names
abbrev pub AsksFor : List ℕ → Option (List (List ℕ)) → Option (List (List ℕ)) → Type 0
AsksFor name None new = ⊤
AsksFor name (Some names) new = new ≡ Some (names ++ name ∷ [])

-- visible names are unchanged, or this name is appended
abbrev pub MayAskFor : List ℕ → Option (List (List ℕ)) → Option (List (List ℕ)) → Type 0
MayAskFor name old new = KeepsNames old new ⊎ AsksFor name old new

-- if the files are visible, one of them has this name, and all of its bytes are left to take
abbrev pub Opens : List ℕ → Option Contents → Option (List ℕ) → Type 0
Opens name None left = ⊤
Opens name (Some files) left = left ≡ file_of name files × IsSome left

-- An end over a stream of the process: the bytes that it has left or took, if the stream shows
-- them, and its faults.
pub record Stream : Type 0 where
  pub told : Option (List ℕ)
  pub faults : ℕ

-- the bytes that the file opened last has left
abbrev pub left_of : {F : Type 0} → (F → Option (List ℕ)) → Option F → Option (List ℕ)
left_of remaining None = None
left_of remaining (Some file) = remaining file

-- The files of a folder: the bytes that the file opened last has left, if it shows them, whether
-- one is open, and the faults.
pub record Folder : Type 0 where
  pub told : Option (List ℕ)
  pub is_ready : Bool
  pub faults : ℕ
