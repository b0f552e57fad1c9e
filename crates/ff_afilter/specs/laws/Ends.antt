-- Where audio frames end, and what is kept of each.
use Rattle.std.specs.Prelude.{ℕ, ◌+◌, ◌/◌, ◌<◌, ◌≤◌, List, [], ◌∷◌, ◌++◌, length}
use Rattle.ff_stream.specs.declared.item.Item.{Item}
use Rattle.ff_stream.specs.declared.item.Item.TheVariants.{Audio, Video, Packet, Trailer, End, Broken}
use Rattle.ff_stream.specs.Times.{ticks}
use Rattle.ff_filter.specs.declared.range.Range.{Range}
use Rattle.ff_afilter.specs.Trims.{kept}

-- an audio frame lasts one tick for each of its sample frames, from its start on: it ends at this tick or later
abbrev pub EndsFrom : ℕ → Item → Type 0
EndsFrom stop (Audio f) = stop ≤ ticks f.pts + length f.samples / f.channels
EndsFrom stop (Video f) = ⊥
EndsFrom stop (Packet p) = ⊥
EndsFrom stop (Trailer t) = ⊥
EndsFrom stop End = ⊥
EndsFrom stop Broken = ⊥

-- it ends before that tick
abbrev pub EndsBefore : ℕ → Item → Type 0
EndsBefore stop (Audio f) = ticks f.pts + length f.samples / f.channels < stop
EndsBefore stop (Video f) = ⊥
EndsBefore stop (Packet p) = ⊥
EndsBefore stop (Trailer t) = ⊥
EndsBefore stop End = ⊥
EndsBefore stop Broken = ⊥

-- what a range keeps of each of these items, one after another
abbrev pub kept_of_each : Range → List Item → List Item
kept_of_each range [] = []
kept_of_each range (x ∷ xs) = kept range x ++ kept_of_each range xs
