-- The packets of a file in the order in which they lie, and where they break off.
use Rattle.std.specs.Prelude.{ℕ, zero, suc, ◌+◌, ◌-◌, ◌==◌, if◌then◌else◌, List, [], ◌∷◌, Option, Some, None}
use Rattle.ff_frame.specs.declared.packet.Pkt.{Pkt}
use Rattle.ff_avi.specs.declared.head.AviHead.{AviHead}
use Rattle.ff_avi.specs.declared.lane.Lanes.{Lanes}
use Rattle.ff_avi.specs.declared.data.DataState.{DataState}
use Rattle.ff_avi.specs.declared.data.Turn.TheVariants.{Wait, Broken, Pass, Give}
use Rattle.ff_avi.specs.Lanes.{lanes_of}
use Rattle.ff_avi.specs.Data.{turn, packet_of}

-- packets, each with the number of its stream, and then an end: a whole one, or a break at an offset of the input
pub data Chain : Type 0 where
  whole : Chain
  broken : ℕ → Chain
  gives : ℕ → Pkt → Chain → Chain

abbrev pub packets_in : Chain → List (ℕ × Pkt)
packets_in whole = []
packets_in (broken place) = []
packets_in (gives stream packet rest) = (stream, packet) ∷ packets_in rest

abbrev pub broken_at : Chain → Option ℕ
broken_at whole = None
broken_at (broken place) = Some place
broken_at (gives stream packet rest) = broken_at rest

-- The input ends here: so many bytes lack of what begins at this place, or some of a chunk of sound. A pad byte may lack.
abbrev pub ended : ℕ → ℕ → DataState → ℕ → Chain
ended from (suc left) known at = broken from
ended from zero known at = if known.left == 0 then whole else broken at

-- The chain from here on: so many bytes are passed over of what begins at `from`, then its pad byte, and then a unit begins.
abbrev pub chain_from : Lanes → ℕ → ℕ → ℕ → DataState → ℕ → List ℕ → Chain
chain_from lanes from left pad known at [] = ended from left known at
chain_from lanes from (suc left) pad known at (b ∷ bs) = chain_from lanes from left pad known (at + 1) bs
chain_from lanes from zero (suc pad) known at (b ∷ bs) = chain_from lanes from zero pad known (at + 1) bs
chain_from lanes from zero zero known at (b ∷ bs) =
    elim (turn lanes known at (b ∷ bs)) [
      | Wait ↦ broken at
      | Broken ↦ broken at
      | Pass rest pad next ↦ chain_from lanes at rest pad next (at + 1) bs
      | Give unit pad next ↦ gives unit.stream (packet_of unit at (b ∷ bs)) (chain_from lanes at (unit.skip + unit.size - 1) pad next (at + 1) bs)
    ]

-- before the first chunk
abbrev pub nothing_yet : DataState
nothing_yet = record { pictures = 0; samples = 0; left = 0; pad = 0 }

-- the chain of what follows a head, of which the streams of these numbers are used
abbrev pub units : AviHead → List ℕ → List ℕ → Chain
units head used rest = chain_from (lanes_of head used) head.start 0 0 nothing_yet head.start rest
