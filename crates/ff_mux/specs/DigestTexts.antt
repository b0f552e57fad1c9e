-- The texts of outputs that are one digest of all packets, or one of each stream (ffmpeg's muxers hash, md5, streamhash and crc).
use Rattle.std.specs.Prelude.{ℕ, ◌+◌, ◌==◌, Bool, List, [], ◌∷◌, ◌++◌, filter, codes, decimal}
use Rattle.ff_lists.specs.Text.{line}
use Rattle.ff_format.specs.Layouts.{bytes_in}
use Rattle.ff_frame.specs.declared.hash.HashKind.{HashKind}
use Rattle.ff_frame.specs.declared.head.StreamHead.{StreamHead}
use Rattle.ff_frame.specs.declared.head.StreamHead.TheVariants.{Audio, Video}
use Rattle.ff_frame.specs.declared.packet.Pkt.{Pkt}
use Rattle.ff_mux.specs.Adler.{adler32}
use Rattle.ff_mux.specs.CrcTexts.{sum_text}
use Rattle.ff_mux.specs.HashTexts.{digest_by, hash_name}

-- a digest of some bytes behind its name
abbrev pub named_digest : HashKind → List ℕ → List ℕ
named_digest kind bytes = hash_name kind ++ codes "=" ++ digest_by kind bytes

-- of packets, each with the number of its stream: the line of the digest of their bytes, one packet after another
unfoldable pub joined_text : HashKind → List (ℕ × Pkt) → List ℕ
joined_text kind packets = line (named_digest kind (bytes_in packets))

-- the line of their Adler-32 sum, begun at 1
unfoldable pub sum_line : List (ℕ × Pkt) → List ℕ
sum_line packets = line (codes "CRC=" ++ sum_text (adler32 1 (bytes_in packets)))

-- ---- a line for each stream

-- the letter of a kind of stream
abbrev pub letter : StreamHead → List ℕ
letter (Audio tb rate bits channels codec) = codes "a"
letter (Video tb format width height sar_num sar_den) = codes "v"

-- those of stream i
abbrev pub is_of : ℕ → (ℕ × Pkt) → Bool
is_of i p = p.0 == i

abbrev pub packets_of : ℕ → List (ℕ × Pkt) → List (ℕ × Pkt)
packets_of i packets = filter (is_of i) packets

-- the line of stream i: its number, its kind, and the digest of the bytes of its packets
unfoldable pub stream_line : HashKind → ℕ → StreamHead → List (ℕ × Pkt) → List ℕ
stream_line kind i head packets = line (decimal i ++ codes "," ++ letter head ++ codes "," ++ named_digest kind (bytes_in (packets_of i packets)))

-- the lines of these streams, the first of this number
abbrev pub stream_lines_from : HashKind → ℕ → List StreamHead → List (ℕ × Pkt) → List ℕ
stream_lines_from kind i [] packets = []
stream_lines_from kind i (head ∷ heads) packets = stream_line kind i head packets ++ stream_lines_from kind (i + 1) heads packets
