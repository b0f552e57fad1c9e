-- What a format writes, and by it the file of some packets, in any format.
use Rattle.std.specs.Prelude.{◌≡◌, ℕ, ◌<◌, nat_le, Bool, true, false, if◌then◌else◌, List, [], ◌++◌, length, Option, Some, None}
use Rattle.std.specs.List.{flat_map}
use Rattle.ff_host.specs.Files.{patched}
use Rattle.ff_frame.specs.declared.packet.Pkt.{Pkt}
use Rattle.ff_frame.specs.declared.totals.Totals.{Totals}

pub record Layout : Type 0 where
  -- before the first packet
  pub header : List ℕ
  -- of a packet of the stream of this number
  pub text : ℕ → Pkt → List ℕ
  -- behind these packets, each with the number of its stream, once every stream is whole
  pub tail : List (ℕ × Pkt) → List ℕ
  -- what then takes the place of as many bytes, from a place on, by how many bytes of packets there are and by what a coder of sound
  -- told at the end
  pub last : ℕ → Option Totals → Option (ℕ × List ℕ)
  -- the most bytes of packets
  pub longest : Option ℕ

-- where it is a stream, no byte can be replaced: the same header and packets, with nothing behind them and no limit
abbrev pub streamed_of : Bool → Layout → Layout
streamed_of true layout = record { header = layout.header; text = layout.text; tail = λ packets. []; last = λ n totals. None; longest = None }
streamed_of false layout = layout

-- a header and the packets as they stand
abbrev pub stream_of : List ℕ → Layout
stream_of header = record { header = header; text = λ stream packet. packet.bytes; tail = λ packets. []; last = λ n totals. None; longest = None }

-- its bytes can be written in order, however many there are
pub record IsStreamed (layout : Layout) : Type 0 where
  pub unpatched : (n : ℕ) (totals : Option Totals) → layout.last n totals ≡ None
  pub unbounded : layout.longest ≡ None

-- more bytes of packets than that
abbrev pub IsBeyond : Option ℕ → ℕ → Type 0
IsBeyond None n = ⊥
IsBeyond (Some most) n = most < n

-- ---- the file of packets, each with the number of its stream, in the order in which they are written

-- the bytes of the packets
abbrev pub body : Layout → List (ℕ × Pkt) → List ℕ
body layout packets = flat_map (λ p. layout.text p.0 p.1) packets

-- the bytes of packets one after another
abbrev pub bytes_in : List (ℕ × Pkt) → List ℕ
bytes_in packets = flat_map (λ p. p.1.bytes) packets

-- what is written of them so far
abbrev pub written : Layout → List (ℕ × Pkt) → List ℕ
written layout packets = layout.header ++ body layout packets

-- the text as a whole, once every stream is whole
abbrev pub text_of : Layout → List (ℕ × Pkt) → List ℕ
text_of layout packets = written layout packets ++ layout.tail packets

abbrev pub with_last : Option (ℕ × List ℕ) → List ℕ → List ℕ
with_last None text = text
with_last (Some p) text = patched text p.0 p.1

abbrev pub fits : Option ℕ → ℕ → Bool
fits None n = true
fits (Some most) n = nat_le n most

-- the finished file, where the packets aren't too many bytes
abbrev pub finished : Layout → Option Totals → List (ℕ × Pkt) → Option (List ℕ)
finished layout totals packets =
    if fits layout.longest (length (body layout packets)) then Some (with_last (layout.last (length (body layout packets)) totals) (text_of layout packets)) else None

-- The finished file of a stream is its header and the packets, however many.
abbrev pub StreamsArePackets : Type 0
StreamsArePackets = (layout : Layout) (totals : Option Totals) (packets : List (ℕ × Pkt))
    → finished (streamed_of true layout) totals packets ≡ Some (layout.header ++ body layout packets)
