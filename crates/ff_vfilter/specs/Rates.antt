-- Frames at an even rate: number n shows the frame before the first one whose own number is above n.
use Rattle.std.specs.Prelude.{ℕ, zero, suc, ◌+◌, ◌*◌, ◌-◌, ◌/◌, ◌^◌, pos, ◌+ℤ◌, min, max, nat_le, cond, List, [], ◌∷◌}
use Rattle.ff_frame.specs.declared.video.VFrame.{VFrame}
use Rattle.ff_stream.specs.declared.item.Item.{Item}
use Rattle.ff_stream.specs.declared.item.Item.TheVariants.{Audio, Video, Packet, Trailer, End, Broken}
use Rattle.ff_stream.specs.Stream.{Mark, still_open, whole, broken}
use Rattle.ff_stream.specs.Times.{ticks}
use Rattle.ff_filter.specs.Joins.{Flow}
use Rattle.ff_vfilter.specs.declared.scale.Scale.{Scale}

-- p / q to the nearest whole number, halves upwards
abbrev pub nearest : ℕ → ℕ → ℕ
nearest p q = (2 * p + q) / (2 * q)

-- so many ticks, as a number of frames. A number above 2^62, which no valid stream has, counts as that
abbrev pub in_pictures : Scale → ℕ → ℕ
in_pictures s t = min (nearest (t * (s.from.num * s.to.den)) (s.from.den * s.to.num)) (2 ^ 62)

-- a frame's own number, and the number at its end
abbrev pub number_of : Scale → VFrame → ℕ
number_of s f = in_pictures s (ticks f.pts)

abbrev pub end_number : Scale → VFrame → ℕ
end_number s f = in_pictures s (ticks (f.pts +ℤ f.duration))

-- the frame as number n
abbrev pub shown : ℕ → VFrame → Item
shown n f = Video (record f { pts = pos n; duration = pos 1 })

-- a stream's frames
abbrev pub pictures_of : List Item → List VFrame
pictures_of [] = []
pictures_of (Video f ∷ xs) = f ∷ pictures_of xs
pictures_of (Audio f ∷ xs) = pictures_of xs
pictures_of (Packet p ∷ xs) = pictures_of xs
pictures_of (Trailer t ∷ xs) = pictures_of xs
pictures_of (End ∷ xs) = pictures_of xs
pictures_of (Broken ∷ xs) = pictures_of xs

-- what number n shows of a frame and those after it: the frame before the first of those whose own number is above n
abbrev pub shown_at : Scale → ℕ → VFrame → List VFrame → VFrame
shown_at s n f [] = f
shown_at s n f (g ∷ gs) = cond (nat_le (number_of s g) n) (shown_at s n g gs) f

-- so many numbers from n on
abbrev pub shown_from : Scale → VFrame → List VFrame → ℕ → ℕ → List Item
shown_from s f gs n zero = []
shown_from s f gs n (suc k) = shown n (shown_at s n f gs) ∷ shown_from s f gs (n + 1) k

-- the number below which all are known: the greatest own number; the number at the end of a whole stream counts as well
abbrev pub known_below : Scale → VFrame → List VFrame → Mark → ℕ
known_below s f [] still_open = number_of s f
known_below s f [] whole = max (number_of s f) (end_number s f)
known_below s f [] broken = number_of s f
known_below s f (g ∷ gs) m = max (number_of s f) (known_below s g gs m)

-- the numbers from that of the first frame on
abbrev pub evenly : Scale → List VFrame → Mark → List Item
evenly s [] m = []
evenly s (f ∷ gs) m = shown_from s f gs (number_of s f) (known_below s f gs m - number_of s f)

abbrev pub even : Scale → Flow → Flow
even s t = record { items = evenly s (pictures_of t.items) t.mark; mark = t.mark }
