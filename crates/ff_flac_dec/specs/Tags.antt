-- The tags that may stand before `fLaC` (ID3v2), one at a time.
use Rattle.std.specs.Prelude.{ℕ, zero, suc, ◌+◌, ◌*◌, ◌/◌, ◌%◌, ◌==◌, ◌&&◌, nat_lt, not, Bool, true, false, if◌then◌else◌, codes, List, [], ◌∷◌, ◌++◌, map}
use Rattle.std.specs.Prelude.{length, slice_index, Option, Some, None, Err}
use Rattle.ff_reader.specs.declared.fault.HeadFault.TheVariants.{Unsupported}
use Rattle.ff_reader.specs.declared.step.Step.TheVariants.{Wait, Decide, Skip}
use Rattle.ff_reader.specs.Walks.{agrees}
use Rattle.ff_flac_dec.specs.declared.head.HeadState.TheVariants.{Tags, Blocks}
use Rattle.ff_flac_dec.specs.Blocks.{BlockStep}

-- `fLaC` (RFC 9639, section 6)
abbrev pub magic : List (Option ℕ)
magic = map Some (codes "fLaC")

-- `ID3`, and with it the 10 bytes that a tag begins with: two that are not compared, one of flags, four of its size
abbrev pub tag_magic : List (Option ℕ)
tag_magic = map Some (codes "ID3")

abbrev pub tag_start : List (Option ℕ)
tag_start = tag_magic ++ None ∷ None ∷ None ∷ None ∷ None ∷ None ∷ None ∷ []

-- the bytes of the size that are there have 7 bits each
abbrev pub is_low : ℕ → List ℕ → Bool
is_low i bs = nat_lt (slice_index bs i) 128

abbrev pub are_low : List ℕ → Bool
are_low bs = is_low 6 bs && is_low 7 bs && is_low 8 bs && is_low 9 bs

-- the size is that of what follows the 10 bytes; by the flag 16 a footer of 10 bytes follows that
abbrev pub size_in : List ℕ → ℕ
size_in bs = 2097152 * slice_index bs 6 + 16384 * slice_index bs 7 + 128 * slice_index bs 8 + slice_index bs 9

abbrev pub footer_in : List ℕ → ℕ
footer_in bs = if slice_index bs 5 / 16 % 2 == 1 then 10 else 0

-- What stands before the metadata blocks: `fLaC`, or a tag, which is passed over.
unfoldable pub tag : List ℕ → BlockStep
tag bs =
    if agrees magic bs then (if nat_lt (length bs) 4 then Wait else Skip 3 (Blocks None))
    else if not (agrees tag_start bs && are_low bs) then Decide (Err (Unsupported 0))
    else if nat_lt (length bs) 10 then Wait
    else Skip (9 + size_in bs + footer_in bs) Tags

-- `fLaC` is there, behind tags that are whole: so many bytes are passed over, and then a tag begins, or `fLaC`
abbrev pub named_from : ℕ → List ℕ → Bool
named_from skip [] = false
named_from (suc skip) (b ∷ bs) = named_from skip bs
named_from zero (b ∷ bs) =
    elim (tag (b ∷ bs)) [ Wait ↦ false | Decide found ↦ false | Skip size Tags ↦ named_from size bs | Skip size (Blocks format) ↦ true ]

abbrev pub is_named : List ℕ → Bool
is_named bs = named_from 0 bs
