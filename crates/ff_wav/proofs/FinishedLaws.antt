-- The finished files.
use Rattle.std.proofs.Common.{◌≡◌, ℕ, true, List, ◌++◌, length, Some, ap, ◌∙◌, arith, append-nil, append_assoc}
use Rattle.std.specs.Prelude.{nat_le}
use Rattle.std.proofs.lemmas.Bool.Decides.{nat_tests}
use Rattle.ff_format.specs.Layouts.{bytes_in}
use Rattle.ff_format.specs.laws.Patched.{at_front}
use Rattle.ff_frame.specs.declared.head.StreamHead.{StreamHead}
use Rattle.ff_host.specs.Files.{patched}
use Rattle.ff_format.specs.declared.format.Rf64.{Rf64 as Mode}
use Rattle.ff_wav.specs.Limits.{longest_of}
use Rattle.ff_wav.specs.Header.{first_header, header_of, streamed_header}
use Rattle.ff_wav.specs.Layout.{last_length, WavsAreFiles, StreamedWavsAreFiles}
use Rattle.ff_wav.specs.Written.{pad_of, file_of}

wav_text : (mode : Mode) (head : StreamHead) (body : List ℕ)
    → patched (first_header mode head ++ body ++ pad_of (length body)) 0 (header_of mode head (length body)) ≡ file_of mode head body
wav_text mode head body =
    ap (λ xs. patched xs 0 (header_of mode head (length body))) (append_assoc (first_header mode head) body (pad_of (length body)))
    ∙ at_front (first_header mode head) (header_of mode head (length body)) (body ++ pad_of (length body)) (last_length mode head (length body))

pub wavs_are_files : WavsAreFiles
wavs_are_files mode head totals packets le =
    let fits : nat_le (length (bytes_in packets)) (longest_of mode) ≡ true = grind (arith, nat_tests) in
    rw fits (ap Some (wav_text mode head (bytes_in packets)))

pub streams_are_files : StreamedWavsAreFiles
streams_are_files mode head totals packets = ap Some (append-nil (streamed_header mode head ++ bytes_in packets))
