-- What is made of an item for a channel closes nothing where the item doesn't.
use Rattle.std.specs.Prelude.{◌≡◌, ℕ, false}
use Rattle.ff_stream.specs.declared.item.Item.{Item}
use Rattle.ff_stream.specs.declared.item.Item.TheVariants.{Audio, Video, Packet, Trailer, End, Broken}
use Rattle.ff_filter.specs.Views.{closes}
use Rattle.ff_afilter.specs.Channels.{channel_item}

pub channel-goes_on : (q : ℕ) (x : Item) → closes x ≡ false → closes (channel_item q x) ≡ false
channel-goes_on q (Audio f) c = c
channel-goes_on q (Video f) c = c
channel-goes_on q (Packet p) c = c
channel-goes_on q (Trailer t) c = c
channel-goes_on q End c = c
channel-goes_on q Broken c = c
