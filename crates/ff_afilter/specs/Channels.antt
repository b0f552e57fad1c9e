-- One channel of sound.
use Rattle.std.specs.Prelude.{◌≡◌, ℕ, ◌+◌, ◌*◌, ◌/◌, ℤ, pos, nat_lt, cond, List, map, length, slice_index_or, replicate, Result, Ok}
use Rattle.std.specs.List.{range_with_len}
use Rattle.ff_frame.specs.declared.audio.AFrame.{AFrame}
use Rattle.ff_frame.specs.declared.config.ConfigError.{ConfigError}
use Rattle.ff_frame.specs.declared.head.StreamHead.{StreamHead}
use Rattle.ff_frame.specs.declared.head.StreamHead.TheVariants.{Audio as AudioHead, Video as VideoHead}
use Rattle.ff_stream.specs.declared.item.Item.{Item}
use Rattle.ff_stream.specs.declared.item.Item.TheVariants.{Audio, Video, Packet, Trailer, End, Broken}
use Rattle.ff_stream.specs.declared.item.Lane.TheVariants.{Frames}
use Rattle.ff_lang.specs.declared.graph.Arg.{Arg}
use Rattle.ff_filter.specs.Views.{View}
use Rattle.ff_filter.specs.Options.{is_sound, IsConfigured}
use Rattle.ff_filter.specs.Plain.{no_manual}
use Rattle.ff_filter.specs.spread.Spreads.{spread_start}

-- of each of so many sample frames, the sample of channel q of c
abbrev pub channel_of : ℕ → ℕ → ℕ → List ℤ → List ℤ
channel_of q c count xs = map (λ k. slice_index_or xs (k * c + q) (pos 0)) (range_with_len 0 count)

-- the frame of this channel alone
abbrev pub channel_frame : ℕ → AFrame → AFrame
channel_frame q f = record f { channels = 1; samples = channel_of q f.channels (length f.samples / f.channels) f.samples }

-- a frame that doesn't have the channel stays as it is
abbrev pub channel_item : ℕ → Item → Item
channel_item q (Audio f) = Audio (cond (nat_lt q f.channels) (channel_frame q f) f)
channel_item q (Video f) = Video f
channel_item q (Packet p) = Packet p
channel_item q (Trailer t) = Trailer t
channel_item q End = End
channel_item q Broken = Broken

-- the head of the stream of one channel
abbrev pub mono_head : StreamHead → StreamHead
mono_head (AudioHead tb rate bits channels codec) = AudioHead tb rate bits 1 codec
mono_head (VideoHead tb format width height sar_num sar_den) = VideoHead tb format width height sar_num sar_den

abbrev pub channels_in : StreamHead → ℕ
channels_in (AudioHead tb rate bits channels codec) = channels
channels_in (VideoHead tb format width height sar_num sar_den) = 0

-- `channelsplit` takes no arguments; it is known by the head of its input
abbrev pub IsChannelSplit : List Arg → List StreamHead → Result StreamHead ConfigError → Type 0
IsChannelSplit args heads r = IsConfigured is_sound no_manual (record {}) (λ head s q. q ≡ Ok head) args heads r

abbrev pub mono_heads : StreamHead → List StreamHead
mono_heads head = replicate (channels_in head) (mono_head head)

-- on each output the stream of one channel
abbrev pub channels_view : StreamHead → View
channels_view head = spread_start (Frames head) (replicate (channels_in head) (Frames (mono_head head))) channel_item
