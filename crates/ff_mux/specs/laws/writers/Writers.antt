-- What writers write of.
use Rattle.std.specs.Prelude.{ℕ, List}
use Rattle.ff_format.specs.Layouts.{bytes_in}
use Rattle.ff_frame.specs.declared.hash.HashKind.{HashKind}
use Rattle.ff_frame.specs.declared.head.StreamHead.{StreamHead}
use Rattle.ff_frame.specs.declared.packet.Pkt.{Pkt}
use Rattle.ff_mux.specs.laws.Hashers.{hasher_kind, HasTaken, AllTaken, AreOfKind, AreSums}
use Rattle.ff_mux.specs.laws.Puts.{put_kind, put_heads}
use Rattle.ff_mux.specs.declared.writers.digests.JoinedWriter.{JoinedWriter}
use Rattle.ff_mux.specs.declared.writers.digests.StreamsWriter.{StreamsWriter}
use Rattle.ff_mux.specs.declared.writers.digests.SumWriter.{SumWriter}
use Rattle.ff_mux.specs.declared.writers.flac.FlacWriter.{FlacWriter}
use Rattle.ff_mux.specs.declared.writers.frame_crc.CrcWriter.{CrcWriter}
use Rattle.ff_mux.specs.declared.writers.frame_hash.HashWriter.{HashWriter}
use Rattle.ff_mux.specs.declared.writers.raw.RawWriter.{RawWriter}

-- the head of the stream of sound
abbrev pub flac_head : FlacWriter → StreamHead
flac_head w = w.head

-- what stands before the packets
abbrev pub raw_header : RawWriter → List ℕ
raw_header w = w.header.items

-- the digest, and the heads of the streams
abbrev pub hash_kind : HashWriter → HashKind
hash_kind w = put_kind w.put

abbrev pub hash_heads : HashWriter → List StreamHead
hash_heads w = put_heads w.put

-- the heads of the streams
abbrev pub crc_heads : CrcWriter → List StreamHead
crc_heads w = w.heads.items

-- the digest of all packets, and that it took the bytes of these
abbrev pub joined_kind : JoinedWriter → HashKind
joined_kind w = hasher_kind w.hasher

abbrev pub HasJoined : JoinedWriter → List (ℕ × Pkt) → Type 0
HasJoined w packets = HasTaken w.hasher (bytes_in packets)

-- the sums are those of the bytes of these
abbrev pub HasSummed : SumWriter → List (ℕ × Pkt) → Type 0
HasSummed w packets = AreSums w.sums (bytes_in packets)

-- the digest of each stream, the heads, and that each digest is of that kind and took the bytes of its stream's packets of these
abbrev pub streams_kind : StreamsWriter → HashKind
streams_kind w = w.kind

abbrev pub streams_heads : StreamsWriter → List StreamHead
streams_heads w = w.heads.items

abbrev pub HasStreams : StreamsWriter → List (ℕ × Pkt) → Type 0
HasStreams w packets = AllTaken 0 w.hashers.items packets × AreOfKind w.kind w.hashers.items
