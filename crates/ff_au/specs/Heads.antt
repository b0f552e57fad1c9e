-- The head of a whole input, and what is decided by its first bytes.
use Rattle.std.specs.Prelude.{ℕ, List, codes, map, Option, Some, Result, ⊤}
use Rattle.ff_frame.specs.declared.cut.HeadEnd.{HeadEnd}
use Rattle.ff_reader.specs.Heads as heads
use Rattle.ff_reader.specs.Walks as walks
use Rattle.ff_pcm.specs.declared.body.head.PcmHead.{PcmHead as AuHead}
use Rattle.ff_au.specs.Fields.{fields}

-- a head, or the fault for which there is none
abbrev pub Found : Type 0
Found = heads.Found AuHead

abbrev pub magic : List (Option ℕ)
magic = map Some (codes ".snd")

-- one unit follows the mark: the fields
abbrev pub grammar : walks.Grammar AuHead ⊤
grammar = record { magic = magic; start = tt; unit = fields }

-- the head of a whole input
abbrev pub head : List ℕ → Found
head bs = walks.head_by grammar bs

-- a head or its fault, as an answer
abbrev pub answered : Found → Result AuHead HeadEnd
answered found = heads.answered found

-- some bytes after these decide otherwise than others
abbrev pub IsOpen : List ℕ → Type 0
IsOpen bs = heads.IsOpen head bs
