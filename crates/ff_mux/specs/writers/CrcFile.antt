-- How framecrc is written.
use Rattle.std.specs.Prelude.{◌≡◌, ℕ, ◌≤◌, List, [], length, Option, Some, None}
use Rattle.std.proofs.Common.{arith}
use Rattle.ff_format.specs.Formats.{taken_by}
use Rattle.ff_format.specs.Layouts.{Layout, finished}
use Rattle.ff_format.specs.Outputs.{OutputFormat, WritesTaken}
use Rattle.ff_format.specs.declared.format.FileFormat.TheVariants as format
use Rattle.ff_frame.specs.declared.head.StreamHead.{StreamHead}
use Rattle.ff_frame.specs.declared.packet.Pkt.{Pkt}
use Rattle.ff_frame.specs.declared.totals.Totals.{Totals}
use Rattle.ff_mux.specs.CrcTexts.{crc_line, crc_text}
use Rattle.ff_mux.specs.HashTexts.{streams_from}

-- the lines on the streams, and a line of each packet
abbrev pub crc_layout : List StreamHead → Layout
crc_layout heads = record {
  header = streams_from 0 heads;
  text = crc_line;
  tail = λ packets. [];
  last = λ n totals. None;
  longest = None;
}

-- 1 to 16 streams of any kind
abbrev pub crc_format : OutputFormat
crc_format = record {
  CanWrite = λ heads. (1 ≤ length heads) × (length heads ≤ 16);
  layout = λ options heads. crc_layout heads;
}

-- and it can write what its row takes
pub crc_writes : WritesTaken (taken_by format.FrameCrc) crc_format
crc_writes = record {
  sound = λ tb rate bits channels codec some few depth e. (omega arith, omega arith);
  pictures = λ tb f width height sar_num sar_den e. (omega arith, omega arith);
  several = λ heads some few. (omega (arith, some), few);
}

-- The finished text is the one of the packets.
abbrev pub CrcsAreTexts : Type 0
CrcsAreTexts = (heads : List StreamHead) (totals : Option Totals) (packets : List (ℕ × Pkt))
    → finished (crc_layout heads) totals packets ≡ Some (crc_text heads packets)
