-- How outputs are written that are one digest of all packets, or one of each stream: nothing before every stream is whole, and then
-- the text as one.
use Rattle.std.specs.Prelude.{◌≡◌, ℕ, ◌≤◌, List, [], length, Option, Some, None}
use Rattle.std.proofs.Common.{arith}
use Rattle.ff_format.specs.Formats.{taken_by}
use Rattle.ff_format.specs.Layouts.{Layout, finished, written}
use Rattle.ff_format.specs.Outputs.{OutputFormat, WritesTaken}
use Rattle.ff_format.specs.declared.format.FileFormat.TheVariants as format
use Rattle.ff_frame.specs.declared.hash.HashKind.{HashKind}
use Rattle.ff_frame.specs.declared.head.StreamHead.{StreamHead}
use Rattle.ff_frame.specs.declared.packet.Pkt.{Pkt}
use Rattle.ff_frame.specs.declared.totals.Totals.{Totals}
use Rattle.ff_mux.specs.DigestTexts.{joined_text, stream_lines_from, sum_line}

-- this text of the packets alone, once every stream is whole
abbrev pub at_end : (List (ℕ × Pkt) → List ℕ) → Layout
at_end text = record {
  header = [];
  text = λ stream packet. [];
  tail = text;
  last = λ n totals. None;
  longest = None;
}

-- one digest of all
abbrev pub joined_layout : HashKind → Layout
joined_layout kind = at_end (joined_text kind)

-- one of each stream
abbrev pub streams_layout : HashKind → List StreamHead → Layout
streams_layout kind heads = at_end (stream_lines_from kind 0 heads)

-- one Adler-32 sum of all
abbrev pub sum_layout : Layout
sum_layout = at_end sum_line

-- 1 to 16 streams of any kind
abbrev pub AreFew : List StreamHead → Type 0
AreFew heads = (1 ≤ length heads) × (length heads ≤ 16)

abbrev pub joined_format : OutputFormat
joined_format = record { CanWrite = AreFew; layout = λ options heads. joined_layout options.hash }

abbrev pub streams_format : OutputFormat
streams_format = record { CanWrite = AreFew; layout = λ options heads. streams_layout options.hash heads }

abbrev pub sum_format : OutputFormat
sum_format = record { CanWrite = AreFew; layout = λ options heads. sum_layout }

-- and each can write what its row takes
pub joined_writes : WritesTaken (taken_by format.Hash) joined_format
joined_writes = record {
  sound = λ tb rate bits channels codec some few depth e. (omega arith, omega arith);
  pictures = λ tb f width height sar_num sar_den e. (omega arith, omega arith);
  several = λ heads some few. (omega (arith, some), few);
}

pub joined_writes_md5 : WritesTaken (taken_by format.Md5) joined_format
joined_writes_md5 = record {
  sound = λ tb rate bits channels codec some few depth e. (omega arith, omega arith);
  pictures = λ tb f width height sar_num sar_den e. (omega arith, omega arith);
  several = λ heads some few. (omega (arith, some), few);
}

pub streams_writes : WritesTaken (taken_by format.StreamHash) streams_format
streams_writes = record {
  sound = λ tb rate bits channels codec some few depth e. (omega arith, omega arith);
  pictures = λ tb f width height sar_num sar_den e. (omega arith, omega arith);
  several = λ heads some few. (omega (arith, some), few);
}

pub sum_writes : WritesTaken (taken_by format.Crc) sum_format
sum_writes = record {
  sound = λ tb rate bits channels codec some few depth e. (omega arith, omega arith);
  pictures = λ tb f width height sar_num sar_den e. (omega arith, omega arith);
  several = λ heads some few. (omega (arith, some), few);
}

-- The finished text is the one of the packets, and before that nothing is written.
abbrev pub DigestsAreTexts : Type 0
DigestsAreTexts = (text : List (ℕ × Pkt) → List ℕ) (totals : Option Totals) (packets : List (ℕ × Pkt))
    → (finished (at_end text) totals packets ≡ Some (text packets)) × (written (at_end text) packets ≡ [])
