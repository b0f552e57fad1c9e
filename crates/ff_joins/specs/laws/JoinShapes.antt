-- How many channels the first inputs of streams side by side have.
use Rattle.std.specs.Prelude.{ℕ, zero, suc, ◌+◌}

-- the channels of the first so many inputs
abbrev pub channels_to : (ℕ → ℕ) → ℕ → ℕ
channels_to channels zero = 0
channels_to channels (suc p) = channels_to channels p + channels p
