-- The finished files.
use Rattle.std.proofs.Common.{◌≡◌, ℕ, List, [], ◌++◌, length, ap, ◌∙◌, append-nil, Some}
use Rattle.ff_format.specs.Layouts.{bytes_in}
use Rattle.ff_format.specs.laws.Patched.{at_front}
use Rattle.ff_frame.specs.declared.head.StreamHead.{StreamHead}
use Rattle.ff_host.specs.Files.{patched}
use Rattle.ff_au.specs.Header.{header, size_field, to_the_end}
use Rattle.ff_au.specs.Layout.{same_length, AusAreFiles}
use Rattle.ff_au.specs.laws.Written.{file_of}

au_text : (head : StreamHead) (body : List ℕ) → patched ((header head to_the_end ++ body) ++ []) 0 (header head (size_field (length body))) ≡ file_of head body
au_text head body =
    ap (λ xs. patched xs 0 (header head (size_field (length body)))) (append-nil (header head to_the_end ++ body))
    ∙ at_front (header head to_the_end) (header head (size_field (length body))) body (same_length head (size_field (length body)) to_the_end)

pub aus_are_files : AusAreFiles
aus_are_files head totals packets = ap Some (au_text head (bytes_in packets))
