-- A cut does not keep what it was fed and gave: it is tied to it.
use Rattle.std.specs.Prelude.{◌≡◌, ℕ, ◌+◌, ◌^◌, ◌≤◌, Bool, List, ◌++◌, drop, length}
use Rattle.ff_reader.specs.Cutters.{Cutter}
use Rattle.ff_frame.specs.declared.packet.Pkt.{Pkt}
use Rattle.ff_flac_dec.specs.declared.head.FlacHead.{FlacHead}
use Rattle.ff_flac_dec.specs.declared.cut.FlacCut.{FlacCut}
use Rattle.ff_flac_dec.specs.Streams.{stream_of, IsHead}
use Rattle.ff_flac_dec.specs.Packets.{packets_from, broken_from, demuxed, broken_at}

-- the head for which a cut was made
abbrev pub head_of : FlacCut → FlacHead
head_of cut = cut.head

-- the offset in the input at which the frames given so far end
abbrev pub place_of : FlacCut → ℕ
place_of cut = cut.head.start + cut.used

-- whether the input ended
abbrev pub has_ended : FlacCut → Bool
has_ended cut = cut.ended

-- the bytes that belong to no frame given yet, and for how many more there is room
abbrev pub waiting_in : FlacCut → List ℕ
waiting_in cut = cut.held.bytes

abbrev pub room_in : FlacCut → ℕ
room_in cut = cut.held.room

-- A frame has fewer bytes: at most 8 channels, each of 65,535 residuals of 2^32 + 30 bits, and some 2^21 bits more.
abbrev pub longest_frame : ℕ
longest_frame = 2 ^ 48

-- Whatever follows: n packets were given, of so many bytes and sample frames, and what waits is what the others are made of.
pub record Goes (head : FlacHead) (used count n : ℕ) (held fed more : List ℕ) : Type 0 where
  pub given : List Pkt
  pub number : length given ≡ n
  pub packets : demuxed head (fed ++ more) ≡ given ++ packets_from (stream_of head.head) 0 (head.start + used) count (held ++ more)
  pub place : broken_at head (fed ++ more) ≡ broken_from (stream_of head.head) 0 (head.start + used) (held ++ more)

-- Of an input with this head the cut was fed these bytes, those after the head, and gave n packets: it keeps the bytes behind
-- the frames given, and no others.
pub record Cuts (cut : FlacCut) (head : FlacHead) (fed : List ℕ) (n : ℕ) : Type 0 where
  pub of_head : cut.head ≡ head
  pub inside : cut.used ≤ length fed
  pub kept : cut.held.bytes ≡ drop cut.used fed
  pub goes : (more : List ℕ) → Goes head cut.used cut.count n cut.held.bytes fed more

-- a cut of FLAC, as every cut is seen
abbrev pub flac_cutter : Cutter FlacHead FlacCut
flac_cutter = record {
  IsHead = IsHead;
  stream_head = λ head. head.head;
  start = λ head. head.start;
  demuxed = demuxed;
  broken_at = broken_at;
  cuts = Cuts;
  head_of = head_of;
  place = place_of;
  has_ended = has_ended;
  waiting = waiting_in;
  room = room_in;
  longest = longest_frame;
}
