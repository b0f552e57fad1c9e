-- The data behind a head, one unit at a time (AVI RIFF File Reference, "Stream Data"): a chunk of pictures, packets within a chunk
-- of sound, and what is passed over.
use Rattle.std.specs.Prelude.{ℕ, ◌+◌, ◌-◌, ◌*◌, ◌/◌, ◌%◌, ◌^◌, ◌==◌, ◌&&◌, ◌||◌, ◌≤◌, ◌<◌, nat_lt, nat_le, not, min, Bool, if◌then◌else◌, List, ◌∷◌, take, drop}
use Rattle.std.specs.Prelude.{length, codes, pos}
use Rattle.std.specs.Str.{bytes_eq}
use Rattle.ff_frame.specs.Packet.{packet_at}
use Rattle.ff_frame.specs.declared.packet.Pkt.{Pkt}
use Rattle.ff_wav.specs.Chunks.{number_32}
use Rattle.ff_avi.specs.declared.lane.Lane.{Lane}
use Rattle.ff_avi.specs.declared.lane.Lanes.{Lanes}
use Rattle.ff_avi.specs.declared.data.DataState.{DataState}
use Rattle.ff_avi.specs.declared.data.DataUnit.{DataUnit}
use Rattle.ff_avi.specs.declared.data.Turn.{Turn}
use Rattle.ff_avi.specs.declared.data.Turn.TheVariants.{Wait, Broken, Pass, Give}
use Rattle.ff_avi.specs.Streams.{word, chunk_size}
use Rattle.ff_avi.specs.Lists.{list_type}

-- the id of a chunk of a stream's data: the two digits of its number, and two letters
abbrev pub data_id : Lane → List ℕ → List ℕ
data_id lane letters = 48 ∷ (48 + lane.stream) ∷ letters

-- of a stream that there is, the chunk that begins the bytes is data with these letters
abbrev pub is_data : Lane → List ℕ → List ℕ → Bool
is_data lane letters bs = nat_lt 0 lane.size && bytes_eq (word 0 bs) (data_id lane letters)

-- ---- pictures

abbrev pub one_picture : DataState → DataState
one_picture known = record known { pictures = known.pictures + 1 }

-- A chunk of pictures of so many bytes is one packet; an empty one counts and gives none. Another size breaks the chain.
unfoldable pub picture : Lane → DataState → ℕ → List ℕ → Turn
picture lane known size bs =
    if size == 0 then Pass 7 0 (one_picture known)
    else if not (size == lane.size) then Broken
    else if not lane.is_used then Pass (7 + size) (size % 2) (one_picture known)
    else if nat_lt (length bs) (8 + size) then Wait
    else Give (record { stream = lane.stream; skip = 8; size = size; time = known.pictures; duration = 1 }) (size % 2) (one_picture known)

-- ---- sound

-- how many sample frames the next packet has where so many bytes of the chunk follow
abbrev pub next_count : Lane → ℕ → ℕ
next_count lane left = min 1024 (left / lane.size)

-- a pad byte follows where none of the chunk is left
abbrev pub pad_after : DataState → ℕ → ℕ
pad_after known size = if known.left == size then known.pad else 0

-- behind these sample frames
abbrev pub after_packet : DataState → ℕ → ℕ → DataState
after_packet known count size = record known { samples = known.samples + count; left = known.left - size; pad = known.pad - pad_after known size }

-- so many sample frames, or what is left where no whole one is
unfoldable pub samples : Lane → DataState → ℕ → ℕ → List ℕ → Turn
samples lane known count size bs =
    if count == 0 then Pass (known.left - 1) known.pad (record known { left = 0; pad = 0 })
    else if not lane.is_used then Pass (size - 1) (pad_after known size) (after_packet known count size)
    else if nat_lt (length bs) size then Wait
    else Give (record { stream = lane.stream; skip = 0; size = size; time = known.samples; duration = count }) (pad_after known size) (after_packet known count size)

-- within a chunk of sound: its whole sample frames are packets of 1,024, the last one the rest
abbrev pub sound : Lane → DataState → List ℕ → Turn
sound lane known bs = samples lane known (next_count lane known.left) (next_count lane known.left * lane.size) bs

-- ---- chunks

-- a list is passed over, but one of the type `rec ` is entered; a list of fewer than 4 bytes has no type
abbrev pub entered : DataState → ℕ → List ℕ → Turn
entered known size bs =
    if nat_lt (length bs) 12 then Wait
    else if bytes_eq (word list_type bs) (codes "rec ") then Pass 11 0 known
    else Pass (7 + size) (size % 2) known

-- a chunk of this size, whose first 8 bytes are there
unfoldable pub chunk : Lanes → DataState → ℕ → List ℕ → Turn
chunk lanes known size bs =
    if is_data lanes.pictures (codes "dc") bs || is_data lanes.pictures (codes "db") bs then picture lanes.pictures known size bs
    else if is_data lanes.sound (codes "wb") bs then Pass 7 0 (record known { left = size; pad = if size == 0 then 0 else size % 2 })
    else if bytes_eq (word 0 bs) (codes "LIST") && nat_le 4 size then entered known size bs
    else Pass (7 + size) (size % 2) known

-- What the unit is that begins the bytes, at offset at of the input. No chunk begins past byte 2^40, and no further `RIFF`.
unfoldable pub turn : Lanes → DataState → ℕ → List ℕ → Turn
turn lanes known at bs =
    if not (known.left == 0) then sound lanes.sound known bs
    else if nat_lt (2 ^ 40) at || bytes_eq (word 0 bs) (codes "RIFF") then Broken
    else if nat_lt (length bs) 8 then Wait
    else chunk lanes known (number_32 chunk_size bs) bs

-- the packet of a unit at this offset
abbrev pub packet_of : DataUnit → ℕ → List ℕ → Pkt
packet_of unit at bs = packet_at (pos unit.time) (pos unit.duration) (at + unit.skip) (take unit.size (drop unit.skip bs))

-- ---- how far a unit goes

-- Behind so many bytes from this offset on: what may follow of its chunk ends by byte 2^41. No more units were counted than bytes.
pub record Steps (at : ℕ) (known : DataState) (over pad : ℕ) (next : DataState) : Type 0 where
  pub near : at + over + pad + next.left + next.pad ≤ 2 ^ 41
  pub one_pad : next.pad ≤ 1
  pub pictures : next.pictures ≤ known.pictures + over
  pub samples : next.samples ≤ known.samples + over

-- A packet lies within so many bytes, and its times are small. Only so few bytes wait for more.
abbrev pub IsStep : ℕ → DataState → ℕ → Turn → Type 0
IsStep at known count Wait = count < 2 ^ 30
IsStep at known count Broken = Unit {0}
IsStep at known count (Pass rest pad next) = Steps at known (rest + 1) pad next
IsStep at known count (Give unit pad next) =
    Steps at known (unit.skip + unit.size) pad next × (1 ≤ unit.size) × (unit.skip + unit.size ≤ count) × (unit.time ≤ 2 ^ 41) × (unit.duration ≤ 1024)
