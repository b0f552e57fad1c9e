-- The first bytes of an input or of a frame, and where their line ends (yuv4mpeg(5)).
use Rattle.std.specs.Prelude.{ℕ, zero, suc, ◌==◌, ◌&&◌, ◌||◌, Bool, true, if◌then◌else◌, List, [], ◌∷◌, Option, Some, None}
use Rattle.std.specs.Option.{option_map}

-- the bytes that part and end the words of a line
abbrev pub space : ℕ
space = 32

abbrev pub line_feed : ℕ
line_feed = 10

-- As far as the bytes go, they are these, and a space or a line feed behind them.
abbrev pub begins : List ℕ → List ℕ → Bool
begins [] [] = true
begins [] (b ∷ bs) = (b == space) || (b == line_feed)
begins (w ∷ ws) [] = true
begins (w ∷ ws) (b ∷ bs) = (b == w) && begins ws bs

-- Where the first line ends, which has so many bytes at most: the place of its line feed, or that number where no line feed is
-- among so many bytes. None: the bytes do not decide.
abbrev pub line_end : ℕ → List ℕ → Option ℕ
line_end zero bs = Some 0
line_end (suc room) [] = None
line_end (suc room) (b ∷ bs) = if b == line_feed then Some 0 else option_map suc (line_end room bs)

-- a line has at most so many bytes, with its line feed
abbrev pub longest_line : ℕ
longest_line = 1024
