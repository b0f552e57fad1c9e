-- Which of some files are there already. Where the files aren't told, a conclusion claims the number alone.
use Rattle.std.specs.Prelude.{◌≡◌, ⊤, ℕ, ◌<◌, List, length, Option, Some, None, IsSome}
use Rattle.ff_host.specs.Files.{Files}
use Rattle.ff_files.specs.Names.{Name, name_at}

-- no file of this name is there
abbrev pub IsFreeOf : Option Files → Name → Type 0
IsFreeOf files None = ⊤
IsFreeOf None (Some name) = ⊤
IsFreeOf (Some files) (Some name) = files name ≡ None

-- none of the first so many of these names is there
abbrev pub AreFree : Option Files → List Name → ℕ → Type 0
AreFree files names count = (k : ℕ) → k < count → IsFreeOf files (name_at names k)

-- there is such a name, and a file of it is there, an empty one too
abbrev pub IsThere : Option Files → Name → Type 0
IsThere files None = ⊥
IsThere None (Some name) = ⊤
IsThere (Some files) (Some name) = IsSome (files name)

-- of these names this is the number of the first that is there
pub record IsFirstThere (files : Option Files) (names : List Name) (k : ℕ) : Type 0 where
  pub named : k < length names
  pub there : IsThere files (name_at names k)
  pub before : AreFree files names k
