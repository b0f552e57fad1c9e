-- What coding a stream of sound as FLAC means.
use Rattle.std.specs.Prelude.{ℕ, ◌+◌, ◌^◌, ◌<◌, ◌||◌, nat_lt, nat_le, Bool, true, false, List, [], ◌∷◌, length, Option, None, Some}
use Rattle.ff_time.specs.Fraction.{IsBase}
use Rattle.ff_frame.specs.declared.audio.AFrame.{AFrame}
use Rattle.ff_frame.specs.declared.head.Codec.TheVariants.{Flac}
use Rattle.ff_frame.specs.declared.head.StreamHead.{StreamHead}
use Rattle.ff_frame.specs.declared.head.StreamHead.TheVariants.{Audio as AudioHead, Video as VideoHead}
use Rattle.ff_stream.specs.declared.item.Item.{Item}
use Rattle.ff_stream.specs.declared.item.Item.TheVariants.{Audio, Video, Packet, Trailer, End, Broken}
use Rattle.ff_stream.specs.Ports.{stream_at}
use Rattle.ff_stream.specs.Stream.{Mark, still_open, whole, broken, is_whole}
use Rattle.ff_stream.specs.Within.{some_pass, within}
use Rattle.ff_flac_enc.specs.Gathered.{blocks_due}
use Rattle.ff_net.specs.declared.fault.Fault.{Fault}
use Rattle.ff_net.specs.declared.fault.Fault.TheVariants.{TooLong}
use Rattle.ff_net.specs.Pasts.{Task, no_events}
use Rattle.ff_net.specs.Ways.{Flow}
use Rattle.ff_node_flac.specs.Packets.{coded_bits, at_coded, items_of}

-- streams of sound with a rate that a frame's header can tell are coded
abbrev pub CanCode : StreamHead → Type 0
CanCode (AudioHead tb rate bits channels codec) = IsBase tb × (rate < 1048576)
CanCode (VideoHead tb format width height sar_num sar_den) = ⊥

-- the head of what a stream of sound is coded to: the same times, rate and channels, at the depth that is coded
abbrev pub coded_head : StreamHead → StreamHead
coded_head (AudioHead tb rate bits channels codec) = AudioHead tb rate (coded_bits bits) channels Flac
coded_head (VideoHead tb format width height sar_num sar_den) = VideoHead tb format width height sar_num sar_den

abbrev pub and_sound : Item → List AFrame → List AFrame
and_sound (Audio f) fs = at_coded f ∷ fs
and_sound (Video f) fs = fs
and_sound (Packet p) fs = fs
and_sound (Trailer t) fs = fs
and_sound End fs = fs
and_sound Broken fs = fs

-- the frames of sound among items, at the depth that is coded
abbrev pub sounds : List Item → List AFrame
sounds [] = []
sounds (x ∷ xs) = and_sound x (sounds xs)

-- the blocks of 4,096 sample frames that are due of a stream: where it is whole the rest is the last one
abbrev pub blocks_in : Flow → List AFrame
blocks_in s = blocks_due (is_whole s.mark) (sounds s.items)

-- their packets, however many, and the totals where the stream is whole
abbrev pub all_coded : Flow → Flow
all_coded s = record { items = items_of (is_whole s.mark) (blocks_in s); mark = s.mark }

-- what can't be told of a packet: a number of 31 bits in its header, or in the stream's header a size of 24 bits
abbrev pub passes_in_flac : ℕ → Item → Bool
passes_in_flac n (Audio f) = false
passes_in_flac n (Video f) = false
passes_in_flac n (Packet p) = nat_lt (2 ^ 31) (n + 1) || nat_le (2 ^ 24) (length p.bytes)
passes_in_flac n (Trailer t) = false
passes_in_flac n End = false
passes_in_flac n Broken = false

-- a packet of each block, and the totals behind them; broken before the first packet that passes a limit
abbrev pub flac_coded : Flow → Flow
flac_coded s = within passes_in_flac (all_coded s)

abbrev pub is_long : Flow → Bool
is_long s = some_pass passes_in_flac 0 (all_coded s).items

abbrev pub long_fault : Bool → Option Fault
long_fault true = Some TooLong
long_fault false = None

-- a stream is too long where it passes a limit
abbrev pub flac_cause : List Flow → Option Fault
flac_cause ss = long_fault (is_long (stream_at ss 0))

-- no source, and no event to tell
abbrev pub flac_task : Task
flac_task = record { means = λ ss. flac_coded (stream_at ss 0) ∷ []; cause = flac_cause; source = None; tells = no_events }
