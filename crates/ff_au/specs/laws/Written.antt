-- A whole file as a writer leaves it, and what is read of it.
use Rattle.std.specs.Prelude.{◌≡◌, ℕ, ◌^◌, ◌<◌, List, ◌++◌, drop, length, Ok, ⊤}
use Rattle.ff_frame.specs.declared.head.StreamHead.{StreamHead}
use Rattle.ff_pcm.specs.declared.body.head.PcmHead.{PcmHead as AuHead}
use Rattle.ff_au.specs.Codecs.{IsAuCoded}
use Rattle.ff_au.specs.Fields.{body_len}
use Rattle.ff_au.specs.Heads.{head as head_read}
use Rattle.ff_au.specs.Header.{header, header_len, size_field}
use Rattle.ff_pcm.specs.body.Packets.{IsStream, block_of, packets_of, demuxed}
use Rattle.ff_pcm.specs.laws.body.Written.{Container}

-- the header and the body
abbrev pub file_of : StreamHead → List ℕ → List ℕ
file_of head body = header head (size_field (length body)) ++ body

-- what a file says that begins with a header for this stream and this size
abbrev pub says : StreamHead → ℕ → AuHead
says head size = record { head = head; start = header_len; len = body_len size }

-- A header with any size of 32 bits says its stream and that size, whatever follows.
abbrev pub HeadersAreRead : Type 0
HeadersAreRead = (head : StreamHead) (size : ℕ) (rest : List ℕ) → IsStream head → IsAuCoded head → size < 2 ^ 32
    → head_read (header head size ++ rest) ≡ Ok (says head size)

-- So does a whole file,
abbrev pub FilesAreRead : Type 0
FilesAreRead = (head : StreamHead) (body : List ℕ) → IsStream head → IsAuCoded head
    → head_read (file_of head body) ≡ Ok (says head (size_field (length body)))

-- and the packets of what follows its header are those of the body.
abbrev pub BodiesAreRead : Type 0
BodiesAreRead = (head : StreamHead) (body : List ℕ) → IsStream head
    → demuxed (says head (size_field (length body))) (drop header_len (file_of head body)) ≡ packets_of header_len (block_of head) body

-- AU as a container of linear PCM: it holds a body of any length.
abbrev pub au_container : Container
au_container = record { Takes = IsAuCoded; Holds = λ n. ⊤; file_of = file_of; read = head_read }
