-- The packets of a body: 1,024 sample frames each, and of the last one the rest.
use Rattle.std.specs.Prelude.{◌≡◌, ℕ, ◌+◌, ◌-◌, ◌*◌, ◌/◌, ◌≤◌, ◌<◌, ◌^◌, pos, min, List, take, drop, map, length, Option, Some, None}
use Rattle.std.specs.List.{range_with_len}
use Rattle.std.specs.Option.{option_map}
use Rattle.ff_frame.specs.declared.packet.Pkt.{Pkt}
use Rattle.ff_time.specs.Fraction.{Fraction}
use Rattle.ff_frame.specs.Codecs.{IsPcmCodec, sample_bytes}
use Rattle.ff_frame.specs.Packet.{packet_at as packet_from}
use Rattle.ff_frame.specs.declared.head.Codec.{Codec}
use Rattle.ff_frame.specs.declared.head.StreamHead.{StreamHead}
use Rattle.ff_frame.specs.declared.head.StreamHead.TheVariants.{Audio, Video}
use Rattle.ff_pcm.specs.declared.body.head.PcmHead.{PcmHead}

-- the bytes of one sample frame
abbrev pub block_of : StreamHead → ℕ
block_of (Audio tb rate bits channels codec) = channels * sample_bytes codec
block_of (Video tb format width height sar_num sar_den) = 0

-- a size in whole sample frames: the body ends with the last of them
abbrev pub whole_len : PcmHead → Option ℕ
whole_len head = option_map (λ len. len / block_of head.head * block_of head.head) head.len

-- the body in what follows the head
abbrev pub body : Option ℕ → List ℕ → List ℕ
body None rest = rest
body (Some len) rest = take len rest

-- the number of whole sample frames
abbrev pub frames : ℕ → List ℕ → ℕ
frames block xs = length xs / block

-- the packet that begins with this sample frame
unfoldable pub packet_at : ℕ → ℕ → List ℕ → ℕ → Pkt
packet_at start block xs first = let count = min 1024 (frames block xs - first) in
    packet_from (pos first) (pos count) (start + first * block) (take (count * block) (drop (first * block) xs))

abbrev pub packet_count : ℕ → List ℕ → ℕ
packet_count block xs = (frames block xs + 1023) / 1024

abbrev pub packets_of : ℕ → ℕ → List ℕ → List Pkt
packets_of start block xs = map (λ k. packet_at start block xs (1024 * k)) (range_with_len 0 (packet_count block xs))

-- the packets in what follows the head
abbrev pub demuxed : PcmHead → List ℕ → List Pkt
demuxed head rest = packets_of head.start (block_of head.head) (body (whole_len head) rest)

-- sound of 1 to 8 channels with a PCM codec of its own depth, and one tick a sample frame
pub record IsPcmSound (base : Fraction) (rate bits channels : ℕ) (codec : Codec) : Type 0 where
  pub some_channels : 1 ≤ channels
  pub few_channels : channels ≤ 8
  pub coded : IsPcmCodec codec
  pub depth : bits ≡ 8 * sample_bytes codec
  pub some_rate : 1 ≤ rate
  pub small_rate : rate < 2 ^ 31
  pub ticks : base ≡ record { num = 1; den = rate }

abbrev pub IsStream : StreamHead → Type 0
IsStream (Audio base rate bits channels codec) = IsPcmSound base rate bits channels codec
IsStream (Video tb format width height sar_num sar_den) = ⊥

-- what is true of every head that is read
pub record IsHead (head : PcmHead) : Type 0 where
  pub stream : IsStream head.head
  pub start : head.start ≤ 2 ^ 28 + 8
