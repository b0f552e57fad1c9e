-- The text of a framehash file of any number of streams, with either digest (ffmpeg's framehash muxer, version 2; FIPS 180-4, RFC 1321).
use Rattle.std.specs.Prelude.{ℕ, ◌+◌, List, [], ◌∷◌, ◌++◌, length, codes, decimal}
use Rattle.std.specs.Fmt.{signed_decimal}
use Rattle.std.specs.List.{flat_map}
use Rattle.sha2.specs.Sha256.{sha256}
use Rattle.md5.specs.Md5.{md5}
use Rattle.hex.specs.Hex.{encode_lower}
use Rattle.ff_lists.specs.Text.{line}
use Rattle.ff_frame.specs.declared.hash.HashKind.{HashKind}
use Rattle.ff_frame.specs.declared.hash.HashKind.TheVariants.{Sha256, Md5}
use Rattle.ff_frame.specs.declared.packet.Pkt.{Pkt}
use Rattle.ff_frame.specs.declared.head.StreamHead.{StreamHead}
use Rattle.ff_mux.specs.FrameHash.{stream_lines, columns, column}

-- the digest of some bytes as a text
unfoldable pub digest_by : HashKind → List ℕ → List ℕ
digest_by Sha256 bytes = encode_lower (sha256 bytes)
digest_by Md5 bytes = encode_lower (md5 bytes)

-- the name of a digest
abbrev pub hash_name : HashKind → List ℕ
hash_name Sha256 = codes "SHA256"
hash_name Md5 = codes "MD5"

-- the lines before those on the streams
unfoldable pub first_by : HashKind → List ℕ
first_by kind = line (codes "#format: frame checksums") ++ line (codes "#version: 2") ++ line (codes "#hash: " ++ hash_name kind)

-- the lines on these streams, the first of this number
abbrev pub streams_from : ℕ → List StreamHead → List ℕ
streams_from i [] = []
streams_from i (head ∷ heads) = stream_lines i head ++ streams_from (i + 1) heads

-- the lines before those of the packets
unfoldable pub text_before : HashKind → List StreamHead → List ℕ
text_before kind heads = first_by kind ++ streams_from 0 heads ++ columns

-- of a packet of stream i: the stream, dts, pts, duration and size in their columns
abbrev pub fields : ℕ → Pkt → List ℕ
fields i p = decimal i ++ column 10 (signed_decimal p.dts) ++ column 10 (signed_decimal p.pts)
    ++ column 8 (signed_decimal p.duration) ++ column 8 (decimal (length p.bytes))

-- the line of a packet of stream i: its fields, and the digest of its bytes
unfoldable pub line_by : HashKind → ℕ → Pkt → List ℕ
line_by kind i p = line (fields i p ++ codes ", " ++ digest_by kind p.bytes)

-- the text of packets, each with the number of its stream, in the order in which they are written
abbrev pub hash_text : HashKind → List StreamHead → List (ℕ × Pkt) → List ℕ
hash_text kind heads packets = text_before kind heads ++ flat_map (λ p. line_by kind p.0 p.1) packets
