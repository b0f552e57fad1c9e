-- A cut does not keep what it was fed and gave: it is tied to it.
use Rattle.std.specs.Prelude.{◌≡◌, ℕ, ◌+◌, ◌^◌, ◌≤◌, Bool, List, ◌++◌, drop, length}
use Rattle.ff_reader.specs.Cutters.{Cutter}
use Rattle.ff_frame.specs.declared.packet.Pkt.{Pkt}
use Rattle.ff_y4m.specs.declared.head.Y4mHead.{Y4mHead}
use Rattle.ff_y4m.specs.declared.cut.Y4mCut.{Y4mCut}
use Rattle.ff_y4m.specs.Packets.{packets_from, broken_from, demuxed, broken_at, IsHead}

-- the head for which a cut was made
abbrev pub head_of : Y4mCut → Y4mHead
head_of cut = cut.head

-- the offset in the input at which the frames given so far end
abbrev pub place_of : Y4mCut → ℕ
place_of cut = cut.head.start + cut.used

-- whether the input ended
abbrev pub has_ended : Y4mCut → Bool
has_ended cut = cut.ended

-- the bytes that belong to no frame given yet, and for how many more there is room
abbrev pub waiting_in : Y4mCut → List ℕ
waiting_in cut = cut.held.bytes

abbrev pub room_in : Y4mCut → ℕ
room_in cut = cut.held.room

-- the bytes of a frame with the longest line
abbrev pub full_frame : Y4mCut → ℕ
full_frame cut = 1024 + cut.head.frame_bytes

-- Whatever follows: n packets were given, and what waits is what the others are made of.
pub record Goes (head : Y4mHead) (used n : ℕ) (held fed more : List ℕ) : Type 0 where
  pub given : List Pkt
  pub number : length given ≡ n
  pub packets : demuxed head (fed ++ more) ≡ given ++ packets_from head.frame_bytes 0 (head.start + used) n (held ++ more)
  pub place : broken_at head (fed ++ more) ≡ broken_from head.frame_bytes 0 (head.start + used) (held ++ more)

-- Of an input with this head the cut was fed these bytes, those after the head, and gave n packets: it keeps the bytes behind
-- the frames given, and no others.
pub record Cuts (cut : Y4mCut) (head : Y4mHead) (fed : List ℕ) (n : ℕ) : Type 0 where
  pub of_head : cut.head ≡ head
  pub of_count : cut.count ≡ n
  pub inside : cut.used ≤ length fed
  pub kept : cut.held.bytes ≡ drop cut.used fed
  pub goes : (more : List ℕ) → Goes head cut.used n cut.held.bytes fed more

-- a cut of YUV4MPEG2, as every cut is seen
abbrev pub y4m_cutter : Cutter Y4mHead Y4mCut
y4m_cutter = record {
  IsHead = IsHead;
  stream_head = λ head. head.head;
  start = λ head. head.start;
  demuxed = demuxed;
  broken_at = broken_at;
  cuts = Cuts;
  head_of = head_of;
  place = place_of;
  has_ended = has_ended;
  waiting = waiting_in;
  room = room_in;
  longest = 2 ^ 30;
}
