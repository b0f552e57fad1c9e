-- What was gathered doesn't keep what it was fed and gave: it is tied to it.
use Rattle.std.specs.Prelude.{◌≡◌, ℕ, ℤ, pos, ◌*◌, ◌≤◌, ◌⊎◌, ◌+ℤ◌, Bool, List, [], ◌∷◌, length, drop, Option, Some, None}
use Rattle.ff_frame.specs.declared.audio.AFrame.{AFrame}
use Rattle.ff_flac_enc.specs.declared.format.Format.{Format}
use Rattle.ff_flac_enc.specs.declared.blocks.Blocks.{Blocks}
use Rattle.ff_flac_enc.specs.Gathered.{format_of, full_size, all_samples, count_due, EndInTime}

-- whether the input ended
abbrev pub has_ended : Blocks → Bool
has_ended blocks = blocks.ended

-- what the frames fed have in common, once there is one
abbrev pub format_in : Blocks → Option Format
format_in blocks = blocks.format

-- the frame has it too, or is the first
abbrev pub IsLike : Option Format → AFrame → Type 0
IsLike format frame = (format ≡ None) ⊎ (format ≡ Some (format_of frame))

-- of frames from f on n blocks were given, and the samples behind them wait
pub record Goes (blocks : Blocks) (f : AFrame) (samples : List ℤ) (n : ℕ) : Type 0 where
  pub format_is : blocks.format ≡ Some (format_of f)
  pub time : blocks.pts ≡ f.pts +ℤ pos (4096 * n)
  pub kept : blocks.waiting ≡ drop (n * full_size f.channels) samples
  pub given : n ≤ count_due (full_size f.channels) blocks.ended (length samples)

abbrev pub GoesOn : Blocks → List AFrame → ℕ → Type 0
GoesOn blocks [] n = (blocks.format ≡ None) × (blocks.waiting ≡ []) × (n ≡ 0)
GoesOn blocks (f ∷ fs) n = Goes blocks f (all_samples (f ∷ fs)) n

-- it was fed these frames, which end in time, and gave n blocks
pub record Cuts (blocks : Blocks) (fed : List AFrame) (n : ℕ) : Type 0 where
  pub in_time : EndInTime fed
  pub goes : GoesOn blocks fed n
