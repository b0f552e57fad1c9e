-- The head of a whole input, and what is decided by its first bytes.
use Rattle.std.specs.Prelude.{ℕ, ◌∷◌, ◌++◌, List, codes, map, Option, Some, None, Result}
use Rattle.ff_frame.specs.declared.cut.HeadEnd.{HeadEnd}
use Rattle.ff_reader.specs.Heads as heads
use Rattle.ff_reader.specs.Walks as walks
use Rattle.ff_avi.specs.declared.head.AviHead.{AviHead}
use Rattle.ff_avi.specs.declared.head.AviState.{AviState}
use Rattle.ff_avi.specs.Lists.{unit}

-- a head, or the fault for which there is none
abbrev pub Found : Type 0
Found = heads.Found AviHead

-- `RIFF`, four bytes that are not compared, and `AVI `
abbrev pub magic : List (Option ℕ)
magic = map Some (codes "RIFF") ++ (None ∷ None ∷ None ∷ None ∷ map Some (codes "AVI "))

-- before the first chunk no stream is known, and the list of heads wasn't entered
abbrev pub grammar : walks.Grammar AviHead AviState
grammar = record { magic = magic; start = record { first = None; second = None; left = 0 }; unit = unit }

-- the head of a whole input
abbrev pub head : List ℕ → Found
head bs = walks.head_by grammar bs

-- a head or its fault, as an answer
abbrev pub answered : Found → Result AviHead HeadEnd
answered found = heads.answered found

-- some bytes after these decide otherwise than others
abbrev pub IsOpen : List ℕ → Type 0
IsOpen bs = heads.IsOpen head bs
