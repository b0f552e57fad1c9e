-- Names that are found free one by one, until one isn't.
use Rattle.std.proofs.Common.{◌≡◌, ℕ, ◌+◌, ◌<◌, Bool, true, false, List, Option, Some, None, Ok, Result, sym, refl, arith}
use Rattle.std.specs.Prelude.{is_some, IsSome, IfOk}
use Rattle.ff_host.specs.Files.{Files, TellsOf}
use Rattle.ff_files.specs.Names.{Name, name_at}
use Rattle.ff_files.specs.There.{AreFree, IsFreeOf, IsThere}
use Rattle.ff_files.proofs.Lists.{one_more}

is_none : (file : Option (List ℕ)) → false ≡ is_some file → file ≡ None
is_none None e = refl
is_none (Some bytes) e = absurd cc

pub free_next : (files : Option Files) (names : List Name) (k : ℕ) → AreFree files names k → IsFreeOf files (name_at names k) → AreFree files names (k + 1)
free_next files names k free told = one_more (λ j. IsFreeOf files (name_at names j)) k free told

pub there_told : (files : Option Files) (name : List ℕ) → TellsOf files name true → IsThere files (Some name)
there_told None name told = tt
there_told (Some files) name told = sym told

pub free_told : (files : Option Files) (name : List ℕ) → TellsOf files name false → IsFreeOf files (Some name)
free_told None name told = tt
free_told (Some files) name told = is_none (files name) told
