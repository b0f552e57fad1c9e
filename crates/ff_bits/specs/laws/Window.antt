-- A word that holds the bits that come next.
use Rattle.std.specs.Prelude.{◌≡◌, ℕ, ◌-◌, ◌*◌, ◌<◌, ◌≤◌, List, Bool, false, ◌++◌, length, take, drop, replicate}
use Rattle.ff_bits.specs.Bits.{value_of, bits}

-- the first `seen` bits of a list, and then zeros
abbrev pub shown : ℕ → List Bool → List Bool
shown seen list = take seen list ++ replicate (64 - seen) false

-- a word with the last `held` bits before a byte, which may also show some bits of that byte and of those behind it
pub record IsWindow (bytes : List ℕ) (at word held : ℕ) : Type 0 where
  pub few : held < 64
  pub before : held ≤ 8 * at
  pub within : at ≤ length bytes
  pub seen : ℕ
  pub all : held ≤ seen
  pub fits : seen ≤ 64
  pub there : seen ≤ length (drop (8 * at - held) (bits bytes))
  pub value : word ≡ value_of (shown seen (drop (8 * at - held) (bits bytes)))

-- a word whose first `held` bits are those that a list begins with; behind them stand any
pub record IsFront (list : List Bool) (word held : ℕ) : Type 0 where
  pub few : held < 64
  pub there : held ≤ length list
  pub all : List Bool
  pub long : length all ≡ 64
  pub value : word ≡ value_of all
  pub same : take held all ≡ take held list
