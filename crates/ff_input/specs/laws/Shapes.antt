-- Packets in shape for their lane.
use Rattle.std.specs.Prelude.{ℕ, zero, suc, List, ◌∷◌, map, All}
use Rattle.std.proofs.Common.{arith}
use Rattle.ff_reader.specs.Cutters.{Cutter}
use Rattle.ff_stream.specs.declared.item.Item.{Item}
use Rattle.ff_stream.specs.declared.item.Item.TheVariants.{Packet}
use Rattle.ff_stream.specs.declared.item.Lane.TheVariants.{Packets}
use Rattle.ff_stream.specs.Lanes.{AreInShape}

module _ {H C : Type 0} (cutter : Cutter H C) where
  -- of each input with a head the packets are in shape for their lane
  abbrev pub IsShaped : Type 0
  IsShaped = (head : H) (rest : List ℕ) → cutter.IsHead head → AreInShape (Packets (cutter.stream_head head)) (map Packet (cutter.demuxed head rest))

pub all_first : (P : Item → Type 0) (x : Item) (ys : List Item) → P x → All P ys → All P (x ∷ ys)
all_first P x ys p all zero d lt = p
all_first P x ys p all (suc k) d lt = all k d (omega (arith, lt))
