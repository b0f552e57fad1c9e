-- What is true of the blocks that wait.
use Rattle.std.specs.Prelude.{◌≡◌, ◌≤◌, ◌<◌, Option, None, Some, List, length, slice_index_or}
use Rattle.std.specs.List.{All}
use Rattle.std.specs.Coded.{Unit-prop, le_prop}
use Rattle.std.proofs.Math.Nat.{ℕ_set}
use Rattle.std.proofs.Math.Path.{fun_ext}
use Rattle.ff_frame.specs.declared.audio.AFrame.{AFrame}
use Rattle.ff_flac_enc.specs.declared.format.Format.{Format}
use Rattle.ff_flac_enc.specs.Gathered.{IsKept, Holds-prop, format_of, full_size}
use Rattle.ff_node_flac.specs.Packets.{coded_bits}

-- a block: 1 to 4,096 sample frames, at most 24 bits, and a rate below 2^20
pub record IsCut (a : AFrame) : Type 0 where
  pub kept : IsKept (format_of a) a.samples
  pub some_samples : 1 ≤ length a.samples
  pub few_samples : length a.samples ≤ full_size a.channels
  pub few_bits : a.bits ≤ 24
  pub rate : a.rate < 1048576

pub IsCut-prop : (a : AFrame) → IsProp (IsCut a)
IsCut-prop a = hlevel (le_prop, Holds-prop (Some (format_of a)) a.samples)

pub AllCut-prop : (blocks : List AFrame) → IsProp (All IsCut blocks)
AllCut-prop blocks p q = fun_ext (λ k. fun_ext (λ d. fun_ext (λ lt. IsCut-prop (slice_index_or blocks k d) (p k d lt) (q k d lt))))

-- the format of what was fed, once there is something, is this one
abbrev pub IsFormat : Format → Option Format → Type 0
IsFormat format None = Unit {0}
IsFormat format (Some f) = (f.rate ≡ format.rate) × (f.bits ≡ format.bits) × (f.channels ≡ format.channels)

pub IsFormat-prop : (format : Format) (found : Option Format) → IsProp (IsFormat format found)
IsFormat-prop format None = Unit-prop
IsFormat-prop format (Some f) = hlevel ℕ_set

-- a frame that is coded in this format
pub record IsTaken (format : Format) (frame : AFrame) : Type 0 where
  pub rate_is : frame.rate ≡ format.rate
  pub bits_are : coded_bits frame.bits ≡ format.bits
  pub channels_are : frame.channels ≡ format.channels
