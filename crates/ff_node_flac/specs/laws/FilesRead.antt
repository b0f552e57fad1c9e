-- What is read of the FLAC file of an audio stream (RFC 9639).
use Rattle.std.specs.Prelude.{◌≡◌, ℕ, false, List, [], ◌∷◌, ◌++◌, map, drop, Some, Ok}
use Rattle.ff_format.specs.Layouts.{finished}
use Rattle.ff_frame.specs.Heads.{IsHead}
use Rattle.ff_frame.specs.declared.head.StreamHead.{StreamHead}
use Rattle.ff_frame.specs.declared.packet.Pkt.{Pkt}
use Rattle.ff_frame.specs.declared.totals.Totals.{Totals}
use Rattle.ff_stream.specs.declared.item.Item.TheVariants.{Packet, Trailer}
use Rattle.ff_stream.specs.declared.item.Lane.TheVariants.{Frames}
use Rattle.ff_stream.specs.Lanes.{IsValid}
use Rattle.ff_stream.specs.Stream.{whole}
use Rattle.ff_flac_dec.specs.Heads.{head as head_read}
use Rattle.ff_flac_enc.specs.Gathered.{all_samples}
use Rattle.ff_mux.specs.writers.FlacFile.{flac_layout}
use Rattle.ff_mux.specs.laws.writers.FlacWritten.{HasRate, AreRead, says}
use Rattle.ff_net.specs.Ways.{Flow}
use Rattle.ff_node_flac.specs.Coding.{CanCode, coded_head, flac_coded, is_long, sounds}

-- the packets of a file's only stream, each with the stream's number
abbrev pub numbered : List Pkt → List (ℕ × Pkt)
numbered packets = map (λ p. (0, p)) packets

-- A whole audio stream that passes no limit is coded in packets and totals. Their finished file is read again: as the stream's head,
-- and as its samples, both at the depth that is coded.
abbrev pub StreamsAreRead : Type 0
StreamsAreRead = (head : StreamHead) (s : Flow) (packets : List Pkt) (totals : Totals) (file : List ℕ)
    → CanCode head → HasRate head → IsHead head → IsValid (Frames head) s → s.mark ≡ whole → is_long s ≡ false
    → (flac_coded s).items ≡ map Packet packets ++ Trailer totals ∷ []
    → finished (flac_layout (coded_head head)) (Some totals) (numbered packets) ≡ Some file
    → (head_read file ≡ Ok (says (coded_head head))) × AreRead (says (coded_head head)) (all_samples (sounds s.items)) (drop 42 file)
