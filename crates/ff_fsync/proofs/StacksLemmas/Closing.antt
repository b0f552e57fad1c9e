-- An item that closes its stream, by either test.
use Rattle.std.specs.Prelude.{◌≡◌, true, false, refl}
use Rattle.ff_stream.specs.declared.item.Item.{Item}
use Rattle.ff_stream.specs.declared.item.Item.TheVariants.{Audio, Video, Packet, Trailer, End, Broken}
use Rattle.ff_stream.specs.Items.{Closes}
use Rattle.ff_filter.specs.Views.{closes}

pub closes_so : (x : Item) → Closes x → closes x ≡ true
closes_so (Audio f) h = absurd h
closes_so (Video f) h = absurd h
closes_so (Packet p) h = absurd h
closes_so (Trailer t) h = absurd h
closes_so End h = refl
closes_so Broken h = refl

pub closes_not : (x : Item) → (Closes x → ⊥) → closes x ≡ false
closes_not (Audio f) h = refl
closes_not (Video f) h = refl
closes_not (Packet p) h = refl
closes_not (Trailer t) h = refl
closes_not End h = absurd (h tt)
closes_not Broken h = absurd (h tt)
