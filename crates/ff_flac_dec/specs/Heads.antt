-- The head of a whole input, and what is decided by its first bytes.
use Rattle.std.specs.Prelude.{ℕ, Bool, if◌then◌else◌, List, [], length, Option, Result, Err, IfSome}
use Rattle.ff_frame.specs.declared.head.StreamHead.{StreamHead}
use Rattle.ff_frame.specs.declared.cut.HeadEnd.{HeadEnd}
use Rattle.ff_flac_frame.specs.Frame.{IsStream}
use Rattle.ff_reader.specs.Heads as heads
use Rattle.ff_reader.specs.Walks as walks
use Rattle.ff_reader.specs.declared.fault.HeadFault.TheVariants.{Damaged, Unsupported}
use Rattle.ff_flac_dec.specs.declared.head.FlacHead.{FlacHead}
use Rattle.ff_flac_dec.specs.declared.head.HeadState.{HeadState}
use Rattle.ff_flac_dec.specs.declared.head.HeadState.TheVariants.{Tags, Blocks}
use Rattle.ff_reader.specs.declared.walk.HeadWalk.{HeadWalk}
use Rattle.ff_flac_dec.specs.declared.walk.Flac.{Flac}
use Rattle.ff_flac_dec.specs.declared.walk.TaggedWalk.{TaggedWalk}
use Rattle.ff_flac_dec.specs.Streams.{stream_of, IsFlacHead}
use Rattle.ff_flac_dec.specs.Blocks.{BlockStep, block}
use Rattle.ff_flac_dec.specs.Tags.{tag, is_named}

-- a head, or the fault for which there is none
abbrev pub Found : Type 0
Found = heads.Found FlacHead

-- tags and `fLaC`, and the metadata blocks behind it, before which no stream is known
abbrev pub unit : HeadState → ℕ → List ℕ → BlockStep
unit Tags at bs = tag bs
unit (Blocks format) at bs = block format at bs

abbrev pub grammar : walks.Grammar FlacHead HeadState
grammar = record { magic = []; start = Tags; unit = unit }

-- the stream's head behind the first block
abbrev pub IsFlacStream : StreamHead → Type 0
IsFlacStream head = IsFlacHead head × IsStream (stream_of head)

-- what is known before each tag and each block
abbrev pub IsKnown : HeadState → Type 0
IsKnown Tags = Unit {0}
IsKnown (Blocks format) = IfSome format IsFlacStream

-- what the bytes decide, whatever follows
abbrev pub reading : List ℕ → Option Found
reading bs = walks.reading grammar walks.head_limit bs

-- an input that ends here, before its head is decided: it is of no kind that is read where `fLaC` isn't there
abbrev pub early : List ℕ → Found
early bs = if is_named bs then Err (Damaged (length bs)) else Err (Unsupported 0)

-- the head of a whole input
abbrev pub head : List ℕ → Found
head bs = heads.head reading early bs

-- a head or its fault, as an answer
abbrev pub answered : Found → Result FlacHead HeadEnd
answered found = heads.answered found

-- the answer at a front of the input, or at the whole
abbrev pub answer : Bool → List ℕ → Result FlacHead HeadEnd
answer whole bs = heads.answer reading early whole bs

-- some bytes after these decide otherwise than others
abbrev pub IsOpen : List ℕ → Type 0
IsOpen bs = heads.IsOpen head bs

abbrev pub FlacWalk : Type 0
FlacWalk = TaggedWalk (HeadWalk Flac FlacHead HeadState)

-- Of the bytes a front was read, within the limit, up to where the next tag or block begins.
abbrev pub IsReached : FlacWalk → List ℕ → Type 0
IsReached walk bs = walks.IsReached grammar walk.units.at walk.units.state bs
