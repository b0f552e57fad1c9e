-- How YUV4MPEG2 is written.
use Rattle.std.specs.Prelude.{◌≡◌, ℕ, ◌≤◌, true, List, [], ◌∷◌, ◌++◌, map, length, Option, None, Some}
use Rattle.std.specs.Coded.{Unit-prop}
use Rattle.std.proofs.Common.{arith}
use Rattle.ff_format.specs.Formats.{taken_by}
use Rattle.ff_format.specs.Layouts.{Layout, finished}
use Rattle.ff_format.specs.Outputs.{OutputFormat, WritesTaken, of_one}
use Rattle.ff_format.specs.declared.format.FileFormat.TheVariants as format
use Rattle.ff_frame.specs.declared.head.StreamHead.{StreamHead}
use Rattle.ff_frame.specs.declared.head.StreamHead.TheVariants.{Audio, Video}
use Rattle.ff_frame.specs.declared.packet.Pkt.{Pkt}
use Rattle.ff_frame.specs.declared.totals.Totals.{Totals}
use Rattle.ff_y4m.specs.Header.{IsVideoHead, header, frame_line, written}

-- the first line, and of each packet a line and its planes
abbrev pub y4m_layout : StreamHead → Layout
y4m_layout head = record {
  header = header head;
  text = λ stream packet. frame_line ++ packet.bytes;
  tail = λ packets. [];
  last = λ n totals. None;
  longest = None;
}

-- one stream of pictures
abbrev pub y4m_format : OutputFormat
y4m_format = of_one IsVideoHead y4m_layout

-- and it can write what its row takes
pub y4m_writes : WritesTaken (taken_by format.Y4m) y4m_format
y4m_writes = record {
  sound = λ tb rate bits channels codec some few depth e. cc;
  pictures = λ tb f width height sar_num sar_den e. tt;
  several = λ heads some few. absurd (omega (arith, some, few));
}

-- The finished file is the one of the packets.
abbrev pub PicturesAreFiles : Type 0
PicturesAreFiles = (head : StreamHead) (totals : Option Totals) (packets : List (ℕ × Pkt))
    → finished (y4m_layout head) totals packets ≡ Some (written head (map (λ p. p.1) packets))

-- a head of video is one in one way at most
pub IsVideoHead-prop : (head : StreamHead) → IsProp (IsVideoHead head)
IsVideoHead-prop (Audio base rate bits channels codec) = λ a. absurd a
IsVideoHead-prop (Video tb format width height sar_num sar_den) = Unit-prop
