-- Items as they are sent, one after another: which stream they make, and when they may be sent over a lane.
use Rattle.std.specs.Prelude.{◌+◌, ◌^◌, ◌≤◌, Bool, true, false, List, [], ◌∷◌, length}
use Rattle.ff_stream.specs.declared.item.Item.{Item}
use Rattle.ff_stream.specs.declared.item.Lane.{Lane}
use Rattle.ff_stream.specs.Stream.{Stream}
use Rattle.ff_stream.specs.Items.{with_item, Leads}
use Rattle.ff_stream.specs.Lanes.{IsValid}
use Rattle.ff_stream.specs.Ports.{nothing}

-- the stream, with these items one after another
abbrev pub stream_from : Stream Item → List Item → Stream Item
stream_from s [] = s
stream_from s (x ∷ xs) = stream_from (with_item s x) xs

-- the stream of these items
abbrev pub stream_of : List Item → Stream Item
stream_of xs = stream_from nothing xs

-- nothing stands after an item that closes, and the stream is valid for the lane
pub record IsSending (lane : Lane) (xs : List Item) : Type 0 where
  pub none_behind : Leads nothing xs (stream_of xs)
  pub valid : IsValid lane (stream_of xs)

-- what a link carries: where that is claimed, what may be sent over the lane; else anything, of no greater count
abbrev pub Carries : Bool → Lane → List Item → Type 0
Carries true lane xs = IsSending lane xs
Carries false lane xs = length xs ≤ 2 ^ 40 + 1
