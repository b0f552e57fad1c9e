-- What becomes of the encoder at each call.
use Rattle.std.specs.Prelude.{◌≡◌, [], ◌∷◌}
use Rattle.ff_stream.specs.declared.item.Item.{Item}
use Rattle.ff_stream.specs.declared.item.Lane.TheVariants.{Frames}
use Rattle.ff_stream.specs.Ports.{stream_at}
use Rattle.ff_stream.specs.Stream.{still_open}
use Rattle.ff_net.specs.Pasts.{Past, fed}
use Rattle.ff_net.specs.Ways.{AreValid}
use Rattle.ff_node_flac.specs.declared.enc.FlacEnc.{FlacEnc}
use Rattle.ff_node_flac.specs.laws.Machines.{enc_view}

-- fed this item, one that stood so stands so
abbrev pub IsFed : {R : Type 0} → FlacEnc R → FlacEnc R → Item → Type 0
IsFed old new x =
    (past : Past) → (enc_view old).stands past → (stream_at past.got 0).mark ≡ still_open → AreValid (Frames old.head ∷ []) (fed past 0 x).got
    → (enc_view new).stands (fed past 0 x)

-- it stands where it stood
abbrev pub IsKeptOn : {R : Type 0} → FlacEnc R → FlacEnc R → Type 0
IsKeptOn old new = (past : Past) → (enc_view old).stands past → (enc_view new).stands past
