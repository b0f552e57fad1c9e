-- When items start and end, in ticks of their stream's time base.
use Rattle.std.specs.Prelude.{ℕ, ◌*◌, ◌/◌, ◌≤◌, ℤ, pos, negsuc, ◌+ℤ◌, length}
use Rattle.ff_time.specs.Fraction.{Fraction}
use Rattle.ff_frame.specs.declared.head.StreamHead.{StreamHead}
use Rattle.ff_frame.specs.declared.head.StreamHead.TheVariants.{Audio as AudioHead, Video as VideoHead}
use Rattle.ff_stream.specs.declared.item.Item.{Item}
use Rattle.ff_stream.specs.declared.item.Item.TheVariants.{Audio, Video, Packet, Trailer, End, Broken}

-- the head of the same frames with their times in this base
abbrev pub with_base : Fraction → StreamHead → StreamHead
with_base base (AudioHead tb rate bits channels codec) = AudioHead base rate bits channels codec
with_base base (VideoHead tb format width height sar_num sar_den) = VideoHead base format width height sar_num sar_den

-- all but what stands behind the packets of a stream, or closes one, have a time
abbrev pub HasTime : Item → Type 0
HasTime (Audio f) = Unit {0}
HasTime (Video f) = Unit {0}
HasTime (Packet p) = Unit {0}
HasTime (Trailer t) = ⊥
HasTime End = ⊥
HasTime Broken = ⊥

-- a frame and a packet start where they say
abbrev pub start_of : Item → ℤ
start_of (Audio f) = f.pts
start_of (Video f) = f.pts
start_of (Packet p) = p.pts
start_of (Trailer t) = pos 0
start_of End = pos 0
start_of Broken = pos 0

-- sound ends as many ticks on as it has sample frames, a picture and a packet as their durations say
abbrev pub end_of : Item → ℤ
end_of (Audio f) = f.pts +ℤ pos (length f.samples / f.channels)
end_of (Video f) = f.pts +ℤ f.duration
end_of (Packet p) = p.pts +ℤ p.duration
end_of (Trailer t) = pos 0
end_of End = pos 0
end_of Broken = pos 0

-- a time as a number of ticks from 0; what lies before 0 counts as 0
abbrev pub ticks : ℤ → ℕ
ticks (pos n) = n
ticks (negsuc n) = 0

-- the end of an item in ticks
abbrev pub end_ticks : Item → ℕ
end_ticks x = ticks (end_of x)

-- so many ticks of this base are at most 1,000,000,000 seconds
abbrev pub IsInTime : Fraction → ℕ → Type 0
IsInTime base n = n * base.num ≤ 1000000000 * base.den
