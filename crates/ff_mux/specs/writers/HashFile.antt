-- How framehash is written.
use Rattle.std.specs.Prelude.{◌≡◌, ℕ, ◌≤◌, List, [], length, Option, Some, None}
use Rattle.std.proofs.Common.{arith}
use Rattle.ff_format.specs.Formats.{taken_by}
use Rattle.ff_format.specs.Layouts.{Layout, finished}
use Rattle.ff_format.specs.Outputs.{OutputFormat, WritesTaken}
use Rattle.ff_format.specs.declared.format.FileFormat.TheVariants as format
use Rattle.ff_frame.specs.declared.hash.HashKind.{HashKind}
use Rattle.ff_frame.specs.declared.head.StreamHead.{StreamHead}
use Rattle.ff_frame.specs.declared.packet.Pkt.{Pkt}
use Rattle.ff_frame.specs.declared.totals.Totals.{Totals}
use Rattle.ff_mux.specs.HashTexts.{text_before, line_by, hash_text}

-- the lines on the streams, and a line of each packet
abbrev pub hash_layout : HashKind → List StreamHead → Layout
hash_layout kind heads = record {
  header = text_before kind heads;
  text = line_by kind;
  tail = λ packets. [];
  last = λ n totals. None;
  longest = None;
}

-- 1 to 16 streams of any kind
abbrev pub hash_format : OutputFormat
hash_format = record {
  CanWrite = λ heads. (1 ≤ length heads) × (length heads ≤ 16);
  layout = λ options heads. hash_layout options.hash heads;
}

-- and it can write what its row takes
pub hash_writes : WritesTaken (taken_by format.FrameHash) hash_format
hash_writes = record {
  sound = λ tb rate bits channels codec some few depth e. (omega arith, omega arith);
  pictures = λ tb f width height sar_num sar_den e. (omega arith, omega arith);
  several = λ heads some few. (omega (arith, some), few);
}

-- and so with MD5 where no digest is asked for
pub md5_writes : WritesTaken (taken_by format.FrameMd5) hash_format
md5_writes = record {
  sound = λ tb rate bits channels codec some few depth e. (omega arith, omega arith);
  pictures = λ tb f width height sar_num sar_den e. (omega arith, omega arith);
  several = λ heads some few. (omega (arith, some), few);
}

-- The finished text is the one of the packets.
abbrev pub HashesAreTexts : Type 0
HashesAreTexts = (kind : HashKind) (heads : List StreamHead) (totals : Option Totals) (packets : List (ℕ × Pkt))
    → finished (hash_layout kind heads) totals packets ≡ Some (hash_text kind heads packets)
