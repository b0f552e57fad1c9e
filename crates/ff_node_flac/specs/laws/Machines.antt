-- The encoder as the laws of machines see it.
use Rattle.std.specs.Prelude.{◌≡◌, [], ◌∷◌}
use Rattle.ff_frame.specs.declared.head.StreamHead.{StreamHead}
use Rattle.ff_stream.specs.declared.item.Lane.TheVariants.{Frames, Packets}
use Rattle.ff_net.specs.laws.Laws.{Laws}
use Rattle.ff_net.specs.laws.Views.{View}
use Rattle.ff_node_flac.specs.declared.enc.FlacEnc.{FlacEnc}
use Rattle.ff_node_flac.specs.Coding.{coded_head}
use Rattle.ff_node_flac.specs.laws.Encoders.{encoder_view}
use Rattle.ff_node_flac.specs.laws.EncoderLaws.{encoder_laws}

abbrev pub enc_view : {R : Type 0} → FlacEnc R → View
enc_view m = encoder_view m.head m.queue m.shut m.told m.over m.stopped m.long

-- frames of this head come in, and packets of what it is coded to go out
pub record KeepsHead (head : StreamHead) (v : View) : Type 0 where
  pub in_lanes : v.in_lanes ≡ Frames head ∷ []
  pub out_lanes : v.out_lanes ≡ Packets (coded_head head) ∷ []

pub enc_laws : {R : Type 0} (m : FlacEnc R) → Laws (enc_view m)
enc_laws m = encoder_laws m.head m.queue m.shut m.told m.over m.stopped m.long
