-- The formats that are written, and a writer of any: a line for each.
use Rattle.std.specs.Prelude.{◌≡◌, ⊤, ℕ, true, List, length, Option, refl}
use Rattle.ff_format.specs.Formats.{taken_by}
use Rattle.ff_format.specs.Layouts.{Layout, IsStreamed, bytes_in, stream_of}
use Rattle.ff_format.specs.Outputs.{OutputFormat, WritesTaken, no_layout}
use Rattle.ff_format.specs.laws.Patches.{IsInside}
use Rattle.ff_format.specs.declared.format.FileFormat.{FileFormat}
use Rattle.ff_format.specs.declared.format.FileFormat.TheVariants as format
use Rattle.ff_format.specs.declared.format.OutputOptions.{OutputOptions}
use Rattle.ff_frame.specs.declared.head.StreamHead.{StreamHead}
use Rattle.ff_frame.specs.declared.packet.Pkt.{Pkt}
use Rattle.ff_frame.specs.declared.totals.Totals.{Totals}
use Rattle.ff_mux.specs.declared.writers.any.AnyWriter.{AnyWriter}
use Rattle.ff_mux.specs.declared.writers.any.AnyWriter.TheVariants.{Wav, Flac, Y4m, Hash, Crc, Au, Joined, Streams, Sum, Raw, Null}
use Rattle.ff_mux.specs.writers.CrcFile.{crc_format, crc_layout, crc_writes}
use Rattle.ff_mux.specs.writers.DigestFiles.{joined_format, joined_layout, joined_writes, joined_writes_md5}
use Rattle.ff_mux.specs.writers.DigestFiles.{streams_format, streams_layout, streams_writes, sum_format, sum_layout, sum_writes}
use Rattle.ff_mux.specs.writers.FlacFile.{flac_format, flac_inside, flac_layout, flac_writes}
use Rattle.ff_mux.specs.writers.NullFile.{null_format, null_writes}
use Rattle.ff_mux.specs.writers.RawFile.{raw_format, raw_writes}
use Rattle.ff_mux.specs.writers.Unwritten.{unwritten_format, avi_writes}
use Rattle.ff_mux.specs.writers.HashFile.{hash_format, hash_layout, hash_writes, md5_writes}
use Rattle.ff_mux.specs.laws.writers.Writers.{flac_head, raw_header, hash_kind, hash_heads, crc_heads, joined_kind, HasJoined, HasSummed, streams_kind, streams_heads, HasStreams}
use Rattle.ff_au.specs.Header as au
use Rattle.ff_au.specs.Layout.{au_format, au_inside, au_layout, au_writes}
use Rattle.ff_wav.specs.Header.{written_head, written_mode, body_size}
use Rattle.ff_wav.specs.Layout.{wav_format, wav_inside, wav_layout, wav_writes}
use Rattle.ff_y4m.specs.Layout.{y4m_format, y4m_layout, y4m_writes}
use Rattle.ff_y4m.specs.laws.Writers.{y4m_head}

abbrev pub format_of : FileFormat → OutputFormat
format_of format.Wav = wav_format
format_of format.Au = au_format
format_of format.Flac = flac_format
format_of format.Y4m = y4m_format
format_of format.Avi = unwritten_format
format_of format.U8 = raw_format
format_of format.S8 = raw_format
format_of format.S16le = raw_format
format_of format.S16be = raw_format
format_of format.S24le = raw_format
format_of format.S24be = raw_format
format_of format.S32le = raw_format
format_of format.S32be = raw_format
format_of format.RawVideo = raw_format
format_of format.FrameHash = hash_format
format_of format.FrameMd5 = hash_format
format_of format.FrameCrc = crc_format
format_of format.Hash = joined_format
format_of format.Md5 = joined_format
format_of format.StreamHash = streams_format
format_of format.Crc = sum_format
format_of format.Null = null_format

-- the format takes packets of streams of these heads
abbrev pub CanWrite : FileFormat → List StreamHead → Type 0
CanWrite f heads = (format_of f).CanWrite heads

-- how the format is written, for streams of these heads
abbrev pub layout_of : FileFormat → OutputOptions → List StreamHead → Layout
layout_of f options heads = (format_of f).layout options heads

-- each can write what its row takes
pub writes_taken : (f : FileFormat) → WritesTaken (taken_by f) (format_of f)
writes_taken format.Wav = wav_writes
writes_taken format.Au = au_writes
writes_taken format.Flac = flac_writes
writes_taken format.Y4m = y4m_writes
writes_taken format.Avi = avi_writes
writes_taken format.U8 = raw_writes (taken_by format.U8) refl
writes_taken format.S8 = raw_writes (taken_by format.S8) refl
writes_taken format.S16le = raw_writes (taken_by format.S16le) refl
writes_taken format.S16be = raw_writes (taken_by format.S16be) refl
writes_taken format.S24le = raw_writes (taken_by format.S24le) refl
writes_taken format.S24be = raw_writes (taken_by format.S24be) refl
writes_taken format.S32le = raw_writes (taken_by format.S32le) refl
writes_taken format.S32be = raw_writes (taken_by format.S32be) refl
writes_taken format.RawVideo = raw_writes (taken_by format.RawVideo) refl
writes_taken format.FrameHash = hash_writes
writes_taken format.FrameMd5 = md5_writes
writes_taken format.FrameCrc = crc_writes
writes_taken format.Hash = joined_writes
writes_taken format.Md5 = joined_writes_md5
writes_taken format.StreamHash = streams_writes
writes_taken format.Crc = sum_writes
writes_taken format.Null = null_writes

-- No byte of a stream is replaced, and it has no limit, in any format.
abbrev pub StreamsAreStreamed : Type 0
StreamsAreStreamed = (f : FileFormat) (options : OutputOptions) (heads : List StreamHead) → options.streamed ≡ true → IsStreamed (layout_of f options heads)

-- ---- a writer of any

abbrev pub any_layout : AnyWriter → Layout
any_layout (Wav put) = wav_layout (written_mode put) (written_head put)
any_layout (Au put) = au_layout (au.written_head put)
any_layout (Flac w) = flac_layout (flac_head w)
any_layout (Y4m w) = y4m_layout (y4m_head w)
any_layout (Raw w) = stream_of (raw_header w)
any_layout (Hash w) = hash_layout (hash_kind w) (hash_heads w)
any_layout (Crc w) = crc_layout (crc_heads w)
any_layout (Joined w) = joined_layout (joined_kind w)
any_layout (Streams w) = streams_layout (streams_kind w) (streams_heads w)
any_layout (Sum w) = sum_layout
any_layout (Null w) = no_layout

abbrev pub any_counts : AnyWriter → List (ℕ × Pkt) → Type 0
any_counts (Wav put) packets = body_size put ≡ length (bytes_in packets)
any_counts (Au put) packets = au.body_size put ≡ au.size_field (length (bytes_in packets))
any_counts (Flac w) packets = ⊤
any_counts (Y4m w) packets = ⊤
any_counts (Raw w) packets = ⊤
any_counts (Hash w) packets = ⊤
any_counts (Crc w) packets = ⊤
any_counts (Joined w) packets = HasJoined w packets
any_counts (Streams w) packets = HasStreams w packets
any_counts (Sum w) packets = HasSummed w packets
any_counts (Null w) packets = ⊤

pub any_inside : (w : AnyWriter) (n : ℕ) (totals : Option Totals) → IsInside (any_layout w) n totals
any_inside (Wav put) n totals = wav_inside (written_mode put) (written_head put) n
any_inside (Au put) n totals = au_inside (au.written_head put) n
any_inside (Flac w) n totals = flac_inside (flac_head w) totals
any_inside (Y4m w) n totals = tt
any_inside (Raw w) n totals = tt
any_inside (Hash w) n totals = tt
any_inside (Crc w) n totals = tt
any_inside (Joined w) n totals = tt
any_inside (Streams w) n totals = tt
any_inside (Sum w) n totals = tt
any_inside (Null w) n totals = tt
