-- The text of a framecrc file of any number of streams (ffmpeg's framecrc muxer).
use Rattle.std.specs.Prelude.{ℕ, List, ◌++◌, codes}
use Rattle.std.specs.Int.{bytes_high_first}
use Rattle.std.specs.List.{flat_map}
use Rattle.hex.specs.Hex.{encode_lower}
use Rattle.ff_lists.specs.Text.{line}
use Rattle.ff_frame.specs.declared.packet.Pkt.{Pkt}
use Rattle.ff_frame.specs.declared.head.StreamHead.{StreamHead}
use Rattle.ff_mux.specs.Adler.{adler32}
use Rattle.ff_mux.specs.HashTexts.{streams_from, fields}

-- a sum of 32 bits as a text of eight digits
abbrev pub sum_text : ℕ → List ℕ
sum_text sum = codes "0x" ++ encode_lower (bytes_high_first 4 sum)

-- the line of a packet of stream i: its fields, and the sum of its bytes, begun at 0
unfoldable pub crc_line : ℕ → Pkt → List ℕ
crc_line i p = line (fields i p ++ codes ", " ++ sum_text (adler32 0 p.bytes))

-- the text of packets, each with the number of its stream, in the order in which they are written
abbrev pub crc_text : List StreamHead → List (ℕ × Pkt) → List ℕ
crc_text heads packets = streams_from 0 heads ++ flat_map (λ p. crc_line p.0 p.1) packets
