-- The chunks and lists before the data, one at a time (AVI RIFF File Reference, "RIFF File Format").
use Rattle.std.specs.Prelude.{ℕ, ◌+◌, ◌-◌, ◌==◌, ◌&&◌, nat_lt, nat_le, not, if◌then◌else◌, List, length, Option, Some, None, Ok, Err, codes}
use Rattle.std.specs.Str.{bytes_eq}
use Rattle.ff_frame.specs.declared.head.StreamHead.{StreamHead}
use Rattle.ff_reader.specs.declared.fault.HeadFault.TheVariants.{Damaged}
use Rattle.ff_reader.specs.declared.step.Step.{Step}
use Rattle.ff_reader.specs.declared.step.Step.TheVariants.{Wait, Decide, Skip}
use Rattle.ff_wav.specs.Chunks.{number_32}
use Rattle.ff_avi.specs.declared.head.AviHead.{AviHead}
use Rattle.ff_avi.specs.declared.head.AviState.{AviState}
use Rattle.ff_avi.specs.Streams.{padded, word, chunk_size, Told, stream_in}

-- what a chunk or list does to the reading of a head
abbrev pub AviStep : Type 0
AviStep = Step AviHead AviState

-- where the type of a list stands
abbrev pub list_type : ℕ
list_type = 8

-- how many bytes of a chunk follow its first one, with its pad byte
abbrev pub rest_of : List ℕ → ℕ
rest_of bs = 7 + padded (number_32 chunk_size bs)

-- So many bytes are passed over after the first. Where the end of the list of heads is reached or passed, what follows that list
-- is next, behind its pad byte.
unfoldable pub passed : AviState → ℕ → AviStep
passed known rest =
    if known.left == 0 then Skip rest known
    else if nat_lt (rest + 1) known.left then Skip rest (record known { left = known.left - (rest + 1) })
    else Skip (padded known.left - 1) (record known { left = 0 })

-- streams are numbered in the order of their lists
abbrev pub with_stream : AviState → Option StreamHead → StreamHead → AviState
with_stream known None head = record known { first = Some head }
with_stream known (Some first) head = record known { second = Some head }

-- behind the list of a stream
abbrev pub after_stream : AviState → ℕ → Told → AviStep
after_stream known rest None = Wait
after_stream known rest (Some (Err fault)) = Decide (Err fault)
after_stream known rest (Some (Ok head)) = passed (with_stream known known.first head) rest

-- the list of the data ends the head, whatever its size; a stream was told before
abbrev pub data_list : Option StreamHead → Option StreamHead → ℕ → AviStep
data_list None second at = Decide (Err (Damaged at))
data_list (Some first) second at = Decide (Ok (record { first = first; second = second; start = at + 12 }))

-- a list whose type is there, outside of the list of heads: `hdrl` is entered
unfoldable pub outer_list : AviState → ℕ → List ℕ → AviStep
outer_list known at bs =
    if bytes_eq (word list_type bs) (codes "movi") then data_list known.first known.second at
    else if bytes_eq (word list_type bs) (codes "hdrl") && nat_le 4 (number_32 chunk_size bs)
    then Skip 11 (record known { left = number_32 chunk_size bs - 4 })
    else passed known (rest_of bs)

-- within it
unfoldable pub inner_list : AviState → ℕ → List ℕ → AviStep
inner_list known at bs =
    if bytes_eq (word list_type bs) (codes "strl") then after_stream known (rest_of bs) (stream_in known at bs)
    else passed known (rest_of bs)

-- What the chunk or list does that begins the bytes, at offset at of the input. A list of fewer than 4 bytes has no type, and is
-- a chunk like any other; but the list of the data is told by its name alone.
unfoldable pub unit : AviState → ℕ → List ℕ → AviStep
unit known at bs =
    if nat_lt (length bs) 8 then Wait
    else if not (bytes_eq (word 0 bs) (codes "LIST")) then passed known (rest_of bs)
    else if nat_lt 0 known.left && nat_lt (number_32 chunk_size bs) 4 then passed known (rest_of bs)
    else if nat_lt (length bs) 12 then Wait
    else if known.left == 0 then outer_list known at bs
    else inner_list known at bs
