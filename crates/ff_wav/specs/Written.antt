-- A whole file as a writer leaves it, and what is read of it.
use Rattle.std.specs.Prelude.{◌≡◌, ⊤, ℕ, ◌%◌, ◌==◌, ◌≤◌, if◌then◌else◌, Option, None, List, [], ◌∷◌, ◌++◌, drop, length, Ok}
use Rattle.ff_format.specs.declared.format.Rf64.{Rf64 as Mode}
use Rattle.ff_frame.specs.declared.head.StreamHead.{StreamHead}
use Rattle.ff_pcm.specs.declared.body.head.PcmHead.{PcmHead as WavHead}
use Rattle.ff_wav.specs.Chunks.{body_len, large_len}
use Rattle.ff_wav.specs.Codecs.{IsWavCoded}
use Rattle.ff_wav.specs.Heads.{head as head_read}
use Rattle.ff_wav.specs.Limits.{longest_of}
use Rattle.ff_wav.specs.Header.{header, header_of, header_len, first_form, form_of, streamed_header, HasRoom}
use Rattle.ff_wav.specs.declared.header.HeaderForm.{HeaderForm}
use Rattle.ff_wav.specs.declared.header.HeaderForm.TheVariants.{Riff, RiffWithRoom, Rf64}
use Rattle.ff_wav.specs.declared.header.Sizes.{Sizes}
use Rattle.ff_pcm.specs.body.Packets.{IsStream, block_of, packets_of, demuxed}
use Rattle.ff_pcm.specs.laws.body.Written.{Container}

-- one byte 0 behind a body of an odd number of bytes
abbrev pub pad_of : ℕ → List ℕ
pad_of size = if size % 2 == 1 then 0 ∷ [] else []

-- the header, the body and its pad byte
abbrev pub file_of : Mode → StreamHead → List ℕ → List ℕ
file_of mode head body = header_of mode head (length body) ++ (body ++ pad_of (length body))

-- of a stream: the header without its sizes, and the body
abbrev pub streamed_file : Mode → StreamHead → List ℕ → List ℕ
streamed_file mode head body = streamed_header mode head ++ body

-- how many bytes of the body a header of this form says; None: to the end of the file
abbrev pub len_in : HeaderForm → ℕ → Option ℕ
len_in Riff size = body_len None size
len_in RiffWithRoom size = body_len None size
len_in Rf64 size = large_len size

-- what a file says that begins with a header of this form for this stream and a body of so many bytes
abbrev pub says : HeaderForm → StreamHead → ℕ → WavHead
says form head size = record { head = head; start = header_len form head; len = len_in form size }

-- A header with any sizes that have room in it says its stream and the size of its body, whatever follows.
abbrev pub HeadersAreRead : Type 0
HeadersAreRead = (form : HeaderForm) (head : StreamHead) (sizes : Sizes) (rest : List ℕ) → IsStream head → IsWavCoded head → HasRoom form sizes
    → head_read (header form head sizes ++ rest) ≡ Ok (says form head sizes.body)

-- So does a whole file in every mode,
abbrev pub FilesAreRead : Type 0
FilesAreRead = (mode : Mode) (head : StreamHead) (body : List ℕ) → IsStream head → IsWavCoded head → length body ≤ longest_of mode
    → head_read (file_of mode head body) ≡ Ok (says (form_of mode head (length body)) head (length body))

-- and the packets of what follows its header are those of the body.
abbrev pub BodiesAreRead : Type 0
BodiesAreRead = (mode : Mode) (head : StreamHead) (body : List ℕ) → IsStream head → length body ≤ longest_of mode
    → let form = form_of mode head (length body) in
    demuxed (says form head (length body)) (drop (header_len form head) (file_of mode head body)) ≡ packets_of (header_len form head) (block_of head) body

-- The same of a stream, whose body goes to its end.
abbrev pub StreamsAreRead : Type 0
StreamsAreRead = (mode : Mode) (head : StreamHead) (body : List ℕ) → IsStream head → IsWavCoded head
    → head_read (streamed_file mode head body) ≡ Ok (record { head = head; start = header_len (first_form mode) head; len = None })

-- WAV in a mode, as a container of linear PCM.
abbrev pub wav_container : Mode → Container
wav_container mode = record { Takes = IsWavCoded; Holds = λ n. n ≤ longest_of mode; file_of = file_of mode; read = head_read }

-- and as a stream
abbrev pub streamed_container : Mode → Container
streamed_container mode = record { Takes = IsWavCoded; Holds = λ n. ⊤; file_of = streamed_file mode; read = head_read }
