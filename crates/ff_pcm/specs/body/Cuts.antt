-- A cut does not keep what it was fed and gave: it is tied to it.
use Rattle.std.specs.Prelude.{◌≡◌, ℕ, ◌+◌, ◌*◌, ◌^◌, ◌≤◌, ◌⊎◌, Bool, true, false, List, drop, length, Option, Some, None}
use Rattle.ff_reader.specs.Cutters.{Cutter}
use Rattle.ff_pcm.specs.declared.body.head.PcmHead.{PcmHead}
use Rattle.ff_pcm.specs.declared.body.cut.PcmCut.{PcmCut}
use Rattle.ff_pcm.specs.body.Packets.{block_of, whole_len, body, packet_count, demuxed, IsHead}

-- all bytes of a body of this size came
abbrev pub ReachesLen : Option ℕ → List ℕ → Type 0
ReachesLen None fed = ⊥
ReachesLen (Some len) fed = len ≤ length fed

-- no further byte of the body comes
abbrev pub IsBodyEnded : Option ℕ → Bool → List ℕ → Type 0
IsBodyEnded len ended fed = (ended ≡ true) ⊎ ReachesLen len fed

-- the head for which a cut was made
abbrev pub head_of : PcmCut → PcmHead
head_of cut = cut.head

-- the offset in the input at which the whole packets given so far end
abbrev pub place_of : PcmCut → ℕ
place_of cut = cut.head.start + cut.first * cut.block

-- whether the input ended
abbrev pub has_ended : PcmCut → Bool
has_ended cut = cut.ended

-- whether the last packet, a short one, was given
abbrev pub is_done : PcmCut → Bool
is_done cut = cut.done

-- the bytes that belong to no packet given yet, and for how many more there is room
abbrev pub waiting_in : PcmCut → List ℕ
waiting_in cut = cut.held.bytes

abbrev pub room_in : PcmCut → ℕ
room_in cut = cut.held.room

-- the bytes of a packet that isn't the last
abbrev pub full_packet : PcmCut → ℕ
full_packet cut = 1024 * cut.block

-- only whole packets were given: the bytes kept are those fed since the end of the last one
pub record Goes (block : ℕ) (len : Option ℕ) (first : ℕ) (held fed : List ℕ) (n : ℕ) : Type 0 where
  pub at : first ≡ 1024 * n
  pub kept : held ≡ drop (first * block) fed
  pub inside : first * block ≤ length (body len fed)

-- the last packet, a short one, was given
pub record IsOver (block : ℕ) (len : Option ℕ) (ended : Bool) (fed : List ℕ) (n : ℕ) : Type 0 where
  pub all : IsBodyEnded len ended fed
  pub number : packet_count block (body len fed) ≡ n

-- Of an input with this head the cut was fed these bytes, those after the head, and gave n packets.
pub record Cuts (cut : PcmCut) (head : PcmHead) (fed : List ℕ) (n : ℕ) : Type 0 where
  pub of_head : cut.head ≡ head
  pub of_block : cut.block ≡ block_of head.head
  pub of_len : cut.len ≡ whole_len head
  pub goes : cut.done ≡ false → Goes cut.block (whole_len head) cut.first cut.held.bytes fed n
  pub over : cut.done ≡ true → IsOver cut.block (whole_len head) cut.ended fed n

-- as every cut is seen; a body never breaks off
abbrev pub pcm_cutter : Cutter PcmHead PcmCut
pcm_cutter = record {
  IsHead = IsHead;
  stream_head = λ head. head.head;
  start = λ head. head.start;
  demuxed = demuxed;
  broken_at = λ head rest. None;
  cuts = Cuts;
  head_of = head_of;
  place = place_of;
  has_ended = has_ended;
  waiting = waiting_in;
  room = room_in;
  longest = 2 ^ 15;
}
