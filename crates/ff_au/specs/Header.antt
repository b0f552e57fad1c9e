-- The header that is written.
use Rattle.std.specs.Prelude.{ℕ, ◌+◌, min, List, [], ◌++◌, codes}
use Rattle.std.specs.Int.{w32, to_be_bytes}
use Rattle.ff_frame.specs.Codecs.{sample_bytes}
use Rattle.ff_frame.specs.declared.head.StreamHead.{StreamHead}
use Rattle.ff_frame.specs.declared.head.StreamHead.TheVariants.{Audio, Video}
use Rattle.ff_au.specs.declared.put.AuPut.{AuPut}

-- a number in four bytes, the highest first
unfoldable pub be_32 : ℕ → List ℕ
be_32 n = to_be_bytes w32 n

unfoldable pub mark : List ℕ
mark = codes ".snd"

-- how long the header is
abbrev pub header_len : ℕ
header_len = 28

-- the size of a body that goes to the end of the file
abbrev pub to_the_end : ℕ
to_the_end = 0xFFFFFFFF

-- the size that is written for a body of so many bytes
abbrev pub size_field : ℕ → ℕ
size_field n = min n to_the_end

-- the header with this size: the mark, data offset, size, encoding, rate, channels, and four bytes 0 of annotation; a stream of video has none
abbrev pub header : StreamHead → ℕ → List ℕ
header (Audio base rate bits channels codec) size =
    mark ++ be_32 header_len ++ be_32 size ++ be_32 (sample_bytes codec + 1) ++ be_32 rate ++ be_32 channels ++ be_32 0
header (Video tb format width height sar_num sar_den) size = []

-- what a writer writes a header for, and the size for as many bytes of the body as were counted
abbrev pub written_head : AuPut → StreamHead
written_head put = put.head

abbrev pub body_size : AuPut → ℕ
body_size put = put.size
