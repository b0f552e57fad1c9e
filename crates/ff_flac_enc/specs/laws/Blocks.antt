-- Blocks that are coded at once.
use Rattle.std.specs.Prelude.{◌≡◌, ℕ, ◌+◌, ◌<◌, List, [], length, Result, IfOk, slice_index_or}
use Rattle.std.specs.declared.alloc.AllocError.{AllocError}
use Rattle.ff_frame.specs.declared.audio.AFrame.{AFrame}
use Rattle.ff_flac_enc.specs.Frame.{IsLeast, Spells}

-- these bytes are the block's frame
abbrev pub IsCoded : AFrame → ℕ → List ℕ → Type 0
IsCoded a number bytes = IsLeast a number bytes × Spells bytes a number

-- each entry is the frame of the block at its place, numbered from `first`
abbrev pub AreCoded : List AFrame → ℕ → List (List ℕ) → Type 0
AreCoded blocks first codes = (length codes ≡ length blocks) × ((i : ℕ) (e : AFrame) → i < length blocks → IsCoded (slice_index_or blocks i e) (first + i) (slice_index_or codes i []))

-- the same of the results of the calls
abbrev pub GiveCoded : List AFrame → ℕ → List (Result (List ℕ) AllocError) → Type 0
GiveCoded blocks first results = (length results ≡ length blocks)
    × ((i : ℕ) (d : Result (List ℕ) AllocError) (e : AFrame) → i < length blocks → IfOk (slice_index_or results i d) (IsCoded (slice_index_or blocks i e) (first + i)))
