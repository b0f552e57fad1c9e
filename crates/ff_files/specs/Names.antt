-- The files of a run by their numbers: the inputs from 0, and the outputs from 0. An output that goes nowhere is no file, and has no name.
use Rattle.std.specs.Prelude.{◌≡◌, ◌≢◌, ℕ, zero, suc, ◌+◌, ◌<◌, List, length, map, slice_index_or, Option, Some, None, IsSome, ⊤}
use Rattle.ff_host.specs.Files.{Files, KeepsFiles, KeepsOthers, HoldsAt}

-- the name of a file, where there is one
abbrev pub Name : Type 0
Name = Option (List ℕ)

-- the names of files
abbrev pub names_of : {N : Type 0} → (N → List ℕ) → List N → List Name
names_of {N} name files = map (λ (file : N). Some (name file)) files

-- the names of outputs
abbrev pub files_of : {N : Type 0} → (N → Name) → List N → List Name
files_of file outputs = map file outputs

-- the name of this number, where there is one
abbrev pub name_at : List Name → ℕ → Name
name_at names k = slice_index_or names k None

abbrev pub one_named : Name → ℕ
one_named None = 0
one_named (Some name) = 1

-- how many of the first so many are files
abbrev pub named_before : List Name → ℕ → ℕ
named_before names zero = 0
named_before names (suc k) = named_before names k + one_named (name_at names k)

-- no name stands there twice
abbrev pub AreApart : List Name → Type 0
AreApart names = (j k : ℕ) → j < length names → k < length names → IsSome (name_at names j) → name_at names j ≡ name_at names k → j ≡ k

-- files that are told stay as they were, but for the first so many of these names
abbrev pub KeepsAllBut : Option Files → Option Files → List Name → ℕ → Type 0
KeepsAllBut None now names count = ⊤
KeepsAllBut (Some before) None names count = ⊥
KeepsAllBut (Some before) (Some now) names count =
    (other : List ℕ) → ((k : ℕ) → k < count → name_at names k ≢ Some other) → now other ≡ before other

-- files that are told stay as they were, but for this one, where there is one
abbrev pub KeepsBeside : Option Files → Option Files → Name → Type 0
KeepsBeside before now None = KeepsFiles before now
KeepsBeside before now (Some name) = KeepsOthers before now name

-- where both are told, and there is a file, it holds the bytes
abbrev pub HoldsUnder : Option Files → Option Files → Name → Option (List ℕ) → Type 0
HoldsUnder before now None bytes = ⊤
HoldsUnder before now (Some name) bytes = HoldsAt before now name bytes
