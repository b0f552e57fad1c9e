-- Streams of items, and what each item adds to one.
use Rattle.std.specs.Prelude.{◌≡◌, List, [], ◌∷◌, ◌++◌}
use Rattle.ff_stream.specs.declared.item.Item.{Item}
use Rattle.ff_stream.specs.declared.item.Item.TheVariants.{Audio, Video, Packet, Trailer, End, Broken}
use Rattle.ff_stream.specs.Stream.{Stream, still_open, whole, broken}

-- nothing comes after this item
abbrev pub Closes : Item → Type 0
Closes (Audio f) = ⊥
Closes (Video f) = ⊥
Closes (Packet p) = ⊥
Closes (Trailer t) = ⊥
Closes End = Unit {0}
Closes Broken = Unit {0}

-- the stream with one item more, or closed by it
abbrev pub with_item : Stream Item → Item → Stream Item
with_item s (Audio f) = record { items = s.items ++ Audio f ∷ []; mark = s.mark }
with_item s (Video f) = record { items = s.items ++ Video f ∷ []; mark = s.mark }
with_item s (Packet p) = record { items = s.items ++ Packet p ∷ []; mark = s.mark }
with_item s (Trailer t) = record { items = s.items ++ Trailer t ∷ []; mark = s.mark }
with_item s End = record { items = s.items; mark = whole }
with_item s Broken = record { items = s.items; mark = broken }

-- the second stream is the first followed by these items, of which none stands after one that closes
abbrev pub Leads : Stream Item → List Item → Stream Item → Type 0
Leads s [] t = s ≡ t
Leads s (x ∷ xs) t = (s.mark ≡ still_open) × Leads (with_item s x) xs t
