-- Sizes of pictures, in columns and rows.
use Rattle.std.specs.Prelude.{ℕ, nat_le, nat_lt, ◌&&◌, ◌==◌, Bool, if◌then◌else◌, Option, None, List, length}
use Rattle.std.specs.List.{position_or_len, before_first, after_first}
use Rattle.ff_time.specs.Digits.{number_of, both}

abbrev pub is_x : ℕ → Bool
is_x b = b == 120

-- WxH: columns and rows, whole numbers of 1 to 5 digits
abbrev pub sides_of : List ℕ → Option (ℕ × ℕ)
sides_of text = if nat_lt (position_or_len is_x text) (length text) then both (number_of 5 (before_first is_x text)) (number_of 5 (after_first is_x text)) else None

-- 1 to 16,384 columns or rows
abbrev pub is_side : ℕ → Bool
is_side n = nat_le 1 n && nat_le n 16384
