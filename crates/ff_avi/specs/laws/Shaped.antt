-- The packets of a chain belong to their streams.
use Rattle.std.specs.Prelude.{◌≡◌, ℕ, ◌+◌, ◌*◌, ◌≤◌, ◌⊎◌, pos, List, [], ◌∷◌, length}
use Rattle.ff_frame.specs.Packet.{packet_at}
use Rattle.ff_frame.specs.declared.packet.Pkt.{Pkt}
use Rattle.ff_avi.specs.declared.head.AviHead.{AviHead}
use Rattle.ff_avi.specs.declared.lane.Lane.{Lane}
use Rattle.ff_avi.specs.declared.lane.Lanes.{Lanes}
use Rattle.ff_avi.specs.Lanes.{lanes_of}
use Rattle.ff_avi.specs.Chains.{packets_in, units}

-- one picture at this time or later: all its samples, for one tick
pub record IsPicture (lane : Lane) (from stream : ℕ) (p : Pkt) : Type 0 where
  pub time : ℕ
  pub late : from ≤ time
  pub of_stream : stream ≡ lane.stream
  pub times : p ≡ packet_at (pos time) (pos 1) p.pos p.bytes
  pub samples : length p.bytes ≡ lane.size

-- sound at this time or later: 1 to 1,024 whole sample frames, a tick each
pub record IsSound (lane : Lane) (from stream : ℕ) (p : Pkt) : Type 0 where
  pub time : ℕ
  pub count : ℕ
  pub late : from ≤ time
  pub of_stream : stream ≡ lane.stream
  pub some : 1 ≤ count
  pub few : count ≤ 1024
  pub times : p ≡ packet_at (pos time) (pos count) p.pos p.bytes
  pub samples : length p.bytes ≡ count * lane.size

-- Each is a picture or sound. It begins at the end of the one before it of its stream, or later.
abbrev pub AreShaped : Lanes → ℕ → ℕ → List (ℕ × Pkt) → Type 0
AreShaped lanes pictures samples [] = Unit {0}
AreShaped lanes pictures samples (p ∷ ps) =
    ((one : IsPicture lanes.pictures pictures p.0 p.1) × AreShaped lanes (one.time + 1) samples ps)
    ⊎ ((one : IsSound lanes.sound samples p.0 p.1) × AreShaped lanes pictures (one.time + one.count) ps)

abbrev pub PacketsAreShaped : Type 0
PacketsAreShaped = (head : AviHead) (used rest : List ℕ) → AreShaped (lanes_of head used) 0 0 (packets_in (units head used rest))
