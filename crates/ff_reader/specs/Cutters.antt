-- What a cut of any format is to contracts.
use Rattle.std.specs.Prelude.{◌≡◌, ℕ, ◌+◌, Bool, true, List, [], ◌++◌, length, slice_get, Option, Some}
use Rattle.ff_frame.specs.declared.head.StreamHead.{StreamHead}
use Rattle.ff_frame.specs.declared.packet.Pkt.{Pkt}

-- of a format's heads H and its cuts C
pub record Cutter (H C : Type 0) : Type 1 where
  -- what is true of every head that is read
  pub IsHead : H → Type 0
  -- what a head tells of its stream, and the offset in the input of what follows it
  pub stream_head : H → StreamHead
  pub start : H → ℕ
  -- the packets in what follows the head, and the offset at which no further one begins, or one that isn't whole
  pub demuxed : H → List ℕ → List Pkt
  pub broken_at : H → List ℕ → Option ℕ
  -- of an input with this head the cut was fed these bytes, those after the head, and gave so many packets
  pub cuts : C → H → List ℕ → ℕ → Type 0
  -- the head for which a cut was made, and the offset in the input at which what it gave ends
  pub head_of : C → H
  pub place : C → ℕ
  -- whether the input ended
  pub has_ended : C → Bool
  -- the bytes that belong to no packet given yet, and for how many more there is room
  pub waiting : C → List ℕ
  pub room : C → ℕ
  -- more bytes are wanted only where fewer than so many wait
  pub longest : ℕ

-- what may still come: nothing where the input ended
abbrev pub IsRest : Bool → List ℕ → Type 0
IsRest ended more = ended ≡ true → more ≡ []

-- the same head and place, and the same end of the input
pub record SameElsewhere {H C : Type 0} (cutter : Cutter H C) (before after : C) : Type 0 where
  pub same_head : cutter.head_of after ≡ cutter.head_of before
  pub same_place : cutter.place after ≡ cutter.place before
  pub same_end : cutter.has_ended after ≡ cutter.has_ended before

module _ {H C : Type 0} (cutter : Cutter H C) where
  -- whatever the cut was fed and gave, it was fed these bytes more
  abbrev pub Feeds : C → C → List ℕ → Type 0
  Feeds old new bytes = (head : H) (fed : List ℕ) (n : ℕ) → cutter.cuts old head fed n → cutter.cuts new head (fed ++ bytes) n

  -- it was fed nothing more, and gave nothing more
  abbrev pub KeepsCut : C → C → Type 0
  KeepsCut old new = (head : H) (fed : List ℕ) (n : ℕ) → cutter.cuts old head fed n → cutter.cuts new head fed n

  -- it gave its next packet, whatever follows
  abbrev pub GivesPacket : C → C → Pkt → Type 0
  GivesPacket old new p = (head : H) (fed : List ℕ) (n : ℕ) → cutter.cuts old head fed n
      → cutter.cuts new head fed (n + 1) × ((more : List ℕ) → IsRest (cutter.has_ended old) more → slice_get (cutter.demuxed head (fed ++ more)) n ≡ Some p)

  -- it gave all, whatever follows, and this is where no further packet begins, or one that isn't whole
  abbrev pub GaveAll : C → Option ℕ → Type 0
  GaveAll cut broken = (head : H) (fed : List ℕ) (n : ℕ) → cutter.cuts cut head fed n
      → (more : List ℕ) → IsRest (cutter.has_ended cut) more → (length (cutter.demuxed head (fed ++ more)) ≡ n) × (cutter.broken_at head (fed ++ more) ≡ broken)
