-- Streams of items on the lanes of ports or wires.
use Rattle.std.specs.Prelude.{◌≡◌, ℕ, zero, suc, List, [], ◌∷◌, Option, None, Some}
use Rattle.ff_stream.specs.declared.item.Item.{Item}
use Rattle.ff_stream.specs.declared.item.Lane.{Lane}
use Rattle.ff_stream.specs.Stream.{Stream}
use Rattle.ff_stream.specs.Items.{with_item}
use Rattle.ff_stream.specs.Ports.{nothing, stream_at}
use Rattle.ff_stream.specs.Lanes.{IsValid}

abbrev pub Flow : Type 0
Flow = Stream Item

-- the lane of this number
abbrev pub lane_at : List Lane → ℕ → Option Lane
lane_at [] p = None
lane_at (l ∷ ls) zero = Some l
lane_at (l ∷ ls) (suc p) = lane_at ls p

-- valid for a lane; where there is none, nothing came
abbrev pub IsValidOn : Option Lane → Flow → Type 0
IsValidOn None s = s ≡ nothing
IsValidOn (Some l) s = IsValid l s

-- each stream is valid for the lane of its number
abbrev pub AreValid : List Lane → List Flow → Type 0
AreValid lanes ss = (p : ℕ) → IsValidOn (lane_at lanes p) (stream_at ss p)

-- the streams, with this item more at that port
abbrev pub with_item_at : List Flow → ℕ → Item → List Flow
with_item_at [] zero x = with_item nothing x ∷ []
with_item_at [] (suc p) x = nothing ∷ with_item_at [] p x
with_item_at (s ∷ ss) zero x = with_item s x ∷ ss
with_item_at (s ∷ ss) (suc p) x = s ∷ with_item_at ss p x
