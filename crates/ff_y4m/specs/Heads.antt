-- The head of a whole input, and what is decided by its first bytes (yuv4mpeg(5), "Stream Header").
use Rattle.std.specs.Prelude.{ℕ, zero, suc, ◌+◌, ◌==◌, nat_lt, not, Bool, if◌then◌else◌}
use Rattle.std.specs.Prelude.{List, [], ◌∷◌, codes, take, drop, length, Option, Some, None, unwrap_or, Result, Ok, Err}
use Rattle.std.specs.Option.{option_map}
use Rattle.ff_time.specs.Fraction.{Fraction}
use Rattle.ff_frame.specs.Video.{frame_size}
use Rattle.ff_frame.specs.declared.head.StreamHead.TheVariants.{Video}
use Rattle.ff_frame.specs.declared.cut.HeadEnd.{HeadEnd}
use Rattle.ff_reader.specs.Heads as heads
use Rattle.ff_y4m.specs.declared.head.Y4mHead.{Y4mHead}
use Rattle.ff_reader.specs.declared.fault.HeadFault.{HeadFault}
use Rattle.ff_reader.specs.declared.fault.HeadFault.TheVariants.{Damaged, Unsupported}
use Rattle.ff_y4m.specs.declared.parameters.Parameters.{Parameters}
use Rattle.ff_y4m.specs.Lines.{begins, line_end, longest_line}
use Rattle.ff_y4m.specs.Numbers.{first_place}
use Rattle.ff_y4m.specs.Parameters.{no_parameters, lettered}

-- a head, or the fault for which there is none
abbrev pub Found : Type 0
Found = heads.Found Y4mHead

-- what an input begins with
abbrev pub magic : List ℕ
magic = codes "YUV4MPEG2"

-- the bytes before the next space
abbrev pub word_len : List ℕ → ℕ
word_len bs = unwrap_or (first_place 32 bs) (length bs)

-- The parameters of the rest of a line, which begins at this offset, behind these: so many bytes are passed over, and then a
-- space or a parameter begins. The first fault from left to right counts.
abbrev pub parameters : ℕ → ℕ → Parameters → List ℕ → Result Parameters HeadFault
parameters skip at p [] = Ok p
parameters (suc skip) at p (b ∷ bs) = parameters skip (at + 1) p bs
parameters zero at p (b ∷ bs) =
    if b == 32 then parameters zero (at + 1) p bs
    else elim (lettered at b (take (word_len bs) bs) p) [ Ok next ↦ parameters (word_len bs) (at + 1) next bs | Err e ↦ Err e ]

-- columns, rows and rate are there, or the line feed, at this offset, comes too early
abbrev pub complete : ℕ → Parameters → Option ℕ → Option ℕ → Option Fraction → Found
complete at p (Some width) (Some height) (Some base) =
    Ok (record { head = Video base p.format width height p.sar_num p.sar_den; start = at + 1; frame_bytes = frame_size p.format width height })
complete at p (Some width) (Some height) None = Err (Damaged at)
complete at p (Some width) None base = Err (Damaged at)
complete at p None height base = Err (Damaged at)

abbrev pub finished : ℕ → Result Parameters HeadFault → Found
finished at (Ok p) = complete at p p.width p.height p.base
finished at (Err e) = Err e

-- the head in a first line, without its line feed
unfoldable pub line_head : List ℕ → Found
line_head line = finished (length line) (parameters 0 9 no_parameters (drop 9 line))

-- the head where the first line ends there
abbrev pub found_at : List ℕ → ℕ → Found
found_at bs n = if nat_lt n longest_line then line_head (take n bs) else Err (Damaged longest_line)

-- what the bytes decide, whatever follows
unfoldable pub reading : List ℕ → Option Found
reading bs = if not (begins magic bs) then Some (Err (Unsupported 0)) else option_map (found_at bs) (line_end longest_line bs)

-- an input that ends here, before its head is decided
abbrev pub early : List ℕ → Found
early bs = heads.early 10 bs

-- the head of a whole input
abbrev pub head : List ℕ → Found
head bs = heads.head reading early bs

-- a head or its fault, as an answer
abbrev pub answered : Found → Result Y4mHead HeadEnd
answered found = heads.answered found

-- the answer at a front of the input, or at the whole
abbrev pub answer : Bool → List ℕ → Result Y4mHead HeadEnd
answer whole bs = heads.answer reading early whole bs

-- some bytes after these decide otherwise than others
abbrev pub IsOpen : List ℕ → Type 0
IsOpen bs = heads.IsOpen head bs
