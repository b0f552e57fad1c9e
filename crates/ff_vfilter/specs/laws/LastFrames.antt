-- At an even rate of a valid stream: the last frame whose own number is at most n, and how far numbers go.
use Rattle.std.specs.Prelude.{ℕ, nat_le, cond, List, [], ◌∷◌}
use Rattle.ff_frame.specs.declared.video.VFrame.{VFrame}
use Rattle.ff_stream.specs.Stream.{Mark, still_open, whole, broken}
use Rattle.ff_vfilter.specs.declared.scale.Scale.{Scale}
use Rattle.ff_vfilter.specs.Rates.{number_of, end_number}

-- the last of these frames whose own number is at most n, and f where there is none
abbrev pub last_by : Scale → ℕ → VFrame → List VFrame → VFrame
last_by s n f [] = f
last_by s n f (g ∷ gs) = last_by s n (cond (nat_le (number_of s g) n) g f) gs

-- the last frame's own number, and on a whole stream the number at its end
abbrev pub last_number : Scale → VFrame → List VFrame → Mark → ℕ
last_number s f [] still_open = number_of s f
last_number s f [] whole = end_number s f
last_number s f [] broken = number_of s f
last_number s f (g ∷ gs) m = last_number s g gs m
