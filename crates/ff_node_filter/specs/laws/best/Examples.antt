-- The feeds of the worked examples.
use Rattle.std.specs.Prelude.{ℕ, pos, List, [], ◌∷◌}
use Rattle.ff_time.specs.Fraction.{Fraction}
use Rattle.ff_frame.specs.declared.video.Format.TheVariants.{Mono}
use Rattle.ff_frame.specs.Frame.{video_frame}
use Rattle.ff_stream.specs.declared.item.Item.TheVariants.{Video, End, Broken}
use Rattle.ff_net.specs.Pasts.{Feed}

-- ticks of which so many are a second
abbrev pub parts_of_a_second : ℕ → Fraction
parts_of_a_second n = record { num = 1; den = n }

-- a picture, from one tick to another, on an input
abbrev pub shows : ℕ → ℕ → ℕ → Feed
shows port start lasts = record { port = port; item = Video (video_frame (pos start) (pos lasts) Mono 1 1 (0 ∷ [])) }

abbrev pub ends : ℕ → Feed
ends port = record { port = port; item = End }

abbrev pub breaks : ℕ → Feed
breaks port = record { port = port; item = Broken }

-- An input in twenty-fifths of a second, and one in thousandths.
abbrev pub two_bases : List Fraction
two_bases = parts_of_a_second 25 ∷ parts_of_a_second 1000 ∷ []

-- The first is shown something up to 40 thousandths, so the second is the best; it reaches 30, and then 40, where the lower one is
-- the best again.
abbrev pub up_to_a_tie : List Feed
up_to_a_tie = shows 0 0 1 ∷ shows 1 0 30 ∷ shows 1 30 10 ∷ []

-- It stays while the second goes on, until it closes; once both have closed nothing changes.
abbrev pub up_to_the_end : List Feed
up_to_the_end = shows 0 0 1 ∷ shows 1 0 30 ∷ shows 1 30 10 ∷ shows 1 40 10 ∷ ends 0 ∷ breaks 1 ∷ []

-- of three inputs in equal ticks each is fed once, the last one first
abbrev pub one_each : List Feed
one_each = shows 2 0 1 ∷ shows 0 0 3 ∷ shows 1 0 2 ∷ []

abbrev pub three_bases : List Fraction
three_bases = parts_of_a_second 25 ∷ parts_of_a_second 25 ∷ parts_of_a_second 25 ∷ []
