-- What `-selfrun N` asks for: a job of its own over two files that are made, and the line that tells of what it wrote.
use Rattle.std.specs.Prelude.{ℕ, ◌≤◌, List, [], ◌∷◌, ◌++◌, length, Some, None, Ok, if◌then◌else◌, codes, decimal}
use Rattle.std.specs.Str.{bytes_eq}
use Rattle.ff_host.specs.Files.{Files}
use Rattle.ff_lists.specs.Text.{line}
use Rattle.ff_selfrun.specs.generated.Generated.{generated_wav, generated_y4m}
use Rattle.ff_words.specs.declared.job.Job.{Job}
use Rattle.ff_words.specs.declared.job.Command.TheVariants.{Run, Solo as Alone}
use Rattle.ff_words.specs.declared.job.Solo.TheVariants.{SelfRun}
use Rattle.ff_words.specs.Words.{IsAnswer}
use Rattle.sha2.specs.Sha256.{sha256}
use Rattle.hex.specs.Hex.{encode_lower}

-- the words of the job: the sound as it is, beside the pictures next to their mirror images
abbrev pub own_words : List (List ℕ)
own_words =
    codes "-i" ∷ codes "a.wav" ∷ codes "-i" ∷ codes "v.y4m"
    ∷ codes "-filter_complex" ∷ codes "[1:v]split[p][q];[q]hflip[r];[p][r]hstack[v]"
    ∷ codes "-map" ∷ codes "0:a" ∷ codes "-map" ∷ codes "[v]" ∷ codes "-shortest" ∷ codes "-f" ∷ codes "framehash" ∷ codes "out" ∷ []

-- the job that they ask for
abbrev pub IsOwnJob : Job → Type 0
IsOwnJob job = IsAnswer own_words (Ok (Run job))

-- its files, of so many seconds
abbrev pub own_files : ℕ → Files
own_files n =
    λ name. if bytes_eq (codes "a.wav") name then Some (generated_wav n) else
    (if bytes_eq (codes "v.y4m") name then Some (generated_y4m n) else None)

-- the line of a run that wrote these bytes
unfoldable pub own_line : ℕ → List ℕ → List ℕ
own_line n bytes = line (codes "selfrun " ++ decimal n ++ codes ": " ++ decimal (length bytes) ++ codes " bytes, sha256 " ++ encode_lower (sha256 bytes))

-- words that ask for such a run ask for 3,600 seconds at most
abbrev pub SecondsAreFew : Type 0
SecondsAreFew = (words : List (List ℕ)) (n : ℕ) → IsAnswer words (Ok (Alone (SelfRun n))) → n ≤ 3600
