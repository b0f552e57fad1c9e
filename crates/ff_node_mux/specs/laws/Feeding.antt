-- What a machine was fed on one of its inputs, item by item, by the stream that this makes.
use Rattle.std.specs.Prelude.{ℕ, ◌==◌, Bool, List, [], ◌∷◌, ◌++◌, filter, map}
use Rattle.ff_stream.specs.declared.item.Item.{Item}
use Rattle.ff_stream.specs.declared.item.Item.TheVariants.{End, Broken}
use Rattle.ff_stream.specs.Stream.{Mark, still_open, whole, broken}
use Rattle.ff_net.specs.Pasts.{Feed}
use Rattle.ff_net.specs.Ways.{Flow}

-- an item, fed to the input of this number
abbrev pub feed_of : ℕ → Item → Feed
feed_of p x = record { port = p; item = x }

-- the item that closes a stream, if it is closed
abbrev pub closing_feeds : ℕ → Mark → List Feed
closing_feeds p still_open = []
closing_feeds p whole = feed_of p End ∷ []
closing_feeds p broken = feed_of p Broken ∷ []

-- the items of a stream in order, and then what closes it
abbrev pub feeds_of : ℕ → Flow → List Feed
feeds_of p s = map (feed_of p) s.items ++ closing_feeds p s.mark

abbrev pub is_feed_of : ℕ → Feed → Bool
is_feed_of p f = f.port == p

-- of all that was fed, what was fed to the input of this number
abbrev pub feeds_at : ℕ → List Feed → List Feed
feeds_at p feeds = filter (is_feed_of p) feeds
