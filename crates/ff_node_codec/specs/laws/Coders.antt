-- The decoder and the encoder as machines: their lanes, their faults, and when an input of theirs is spent.
use Rattle.std.specs.Prelude.{◌≡◌, ℕ, List, [], ◌∷◌, replicate, Option}
use Rattle.ff_frame.specs.declared.packet.Pkt.{Pkt}
use Rattle.ff_frame.specs.declared.head.StreamHead.{StreamHead}
use Rattle.ff_stream.specs.declared.item.Item.{Item}
use Rattle.ff_stream.specs.declared.item.Lane.{Lane}
use Rattle.ff_stream.specs.declared.item.Lane.TheVariants.{Frames, Packets}
use Rattle.ff_net.specs.declared.fault.Fault.{Fault}
use Rattle.ff_net.specs.Pasts.{Past}
use Rattle.ff_node_codec.specs.declared.dec.Dec.{Dec}
use Rattle.ff_node_codec.specs.declared.enc.Enc.{Enc}
use Rattle.ff_node_codec.specs.Making.{by_items, fault_by}
use Rattle.ff_node_codec.specs.laws.Standing.{outputs_of, spread_spent, SpreadStands}
use Rattle.ff_node_codec.specs.Decoding.{cut_frames}
use Rattle.ff_node_codec.specs.Encoding.{encoded_item}

-- ---- a decoder of any codec, by the head of its stream and the frames that it makes

module _ {D : Type 0} (head : D → StreamHead) where
  abbrev pub dec_in_lanes : Dec D → List Lane
  dec_in_lanes m = Packets (head m.decoder) ∷ []

  abbrev pub dec_out_lanes : Dec D → List Lane
  dec_out_lanes m = replicate (outputs_of m.spread) (Frames (head m.decoder))

abbrev pub dec_fault : {D : Type 0} → Dec D → Option Fault
dec_fault m = fault_by m.spread.damage

abbrev pub dec_spent : {D : Type 0} → Dec D → ℕ → Type 0
dec_spent m p = spread_spent m.spread p

abbrev pub dec_stands : {D : Type 0} → (D → StreamHead) → (D → Pkt → Option Item) → Dec D → Past → Type 0
dec_stands head made m past =
    (m.head ≡ head m.decoder) × SpreadStands (Packets (head m.decoder)) (Frames (head m.decoder)) (cut_frames (head m.decoder) (made m.decoder) m.cut) m.spread past

-- ---- an encoder to any codec, by the heads that it serves and makes of them, and the packets that it makes

abbrev pub enc_in_lanes : {E : Type 0} → Enc E → List Lane
enc_in_lanes m = Frames m.head ∷ []

abbrev pub enc_out_lanes : {E : Type 0} → (E → StreamHead → StreamHead) → Enc E → List Lane
enc_out_lanes coded m = replicate (outputs_of m.spread) (Packets (coded m.encoder m.head))

abbrev pub enc_fault : {E : Type 0} → Enc E → Option Fault
enc_fault m = fault_by m.spread.damage

abbrev pub enc_spent : {E : Type 0} → Enc E → ℕ → Type 0
enc_spent m p = spread_spent m.spread p

abbrev pub enc_stands : {E : Type 0} → (E → StreamHead → Type 0) → (E → StreamHead → StreamHead) → (E → Item → Option Pkt) → Enc E → Past → Type 0
enc_stands serves coded made m past =
    serves m.encoder m.head × SpreadStands (Frames m.head) (Packets (coded m.encoder m.head)) (by_items (encoded_item (made m.encoder))) m.spread past
