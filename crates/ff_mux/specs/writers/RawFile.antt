-- How raw formats are written: the bytes of the packets of one stream, and nothing else.
use Rattle.std.specs.Prelude.{◌≡◌, ⊤, ℕ, List, [], Option, Some}
use Rattle.std.proofs.Common.{arith}
use Rattle.ff_frame.specs.declared.packet.Pkt.{Pkt}
use Rattle.ff_frame.specs.declared.totals.Totals.{Totals}
use Rattle.ff_format.specs.Layouts.{Layout, bytes_in, finished, stream_of}
use Rattle.ff_format.specs.Outputs.{OutputFormat, WritesTaken, of_one}
use Rattle.ff_format.specs.declared.format.Taken.{Taken}

abbrev pub raw_layout : Layout
raw_layout = stream_of []

-- one stream of any kind
abbrev pub raw_format : OutputFormat
raw_format = of_one (λ head. ⊤) (λ head. raw_layout)

-- and it can write what is one stream
pub raw_writes : (taken : Taken) → taken.streams ≡ 1 → WritesTaken taken raw_format
raw_writes taken one = record {
  sound = λ tb rate bits channels codec some few depth e. tt;
  pictures = λ tb f width height sar_num sar_den e. tt;
  several = λ heads some few. absurd (omega (arith, some, few, one));
}

-- The finished file is the bytes of the packets one after another.
abbrev pub RawIsPackets : Type 0
RawIsPackets = (totals : Option Totals) (packets : List (ℕ × Pkt)) → finished raw_layout totals packets ≡ Some (bytes_in packets)
