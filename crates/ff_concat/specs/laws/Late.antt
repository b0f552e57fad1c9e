-- Items that end past the last second once they are later.
use Rattle.std.specs.Prelude.{◌≡◌, ℕ, ◌*◌, ◌≤◌, ◌==◌, ℤ, Bool, false, ◌||◌, cond, nat_le, nat_lt, List, [], ◌∷◌}
use Rattle.ff_frame.specs.declared.head.StreamHead.{StreamHead}
use Rattle.ff_frame.specs.declared.head.StreamHead.TheVariants.{Audio as AudioHead, Video as VideoHead}
use Rattle.ff_frame.specs.Heads.{base_of_head}
use Rattle.ff_stream.specs.declared.item.Item.{Item}
use Rattle.ff_stream.specs.Times.{end_ticks}
use Rattle.ff_concat.specs.Concats.{time_later, later}

-- a time so many ticks later; where there are none, as it is
abbrev pub shifted : ℕ → ℤ → ℤ
shifted by t = cond (by == 0) t (time_later by t)

-- so many ticks later, an item of a stream of this head ends past the last second
abbrev pub is_late : StreamHead → ℕ → Item → Bool
is_late head by x = nat_lt (1000000000 * (base_of_head head).den) (end_ticks (later by x) * (base_of_head head).num)

abbrev pub some_late : StreamHead → ℕ → List Item → Bool
some_late head by [] = false
some_late head by (x ∷ xs) = is_late head by x || some_late head by xs

-- the first of these
abbrev pub first_late : StreamHead → ℕ → List Item → Bool
first_late head by [] = false
first_late head by (x ∷ xs) = is_late head by x

-- the item ends past the last second exactly where it is at least so many ticks later
abbrev pub IsLateFrom : StreamHead → Item → ℕ → Type 0
IsLateFrom head x least = (by : ℕ) → by ≤ 9223372036854775807 → nat_le least by ≡ is_late head by x

-- how many channels audio of this head has
abbrev pub channel_count : StreamHead → ℕ
channel_count (AudioHead tb rate bits channels codec) = channels
channel_count (VideoHead tb format width height sar_num sar_den) = 0
