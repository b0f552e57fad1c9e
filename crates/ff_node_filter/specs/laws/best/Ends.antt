-- When an item ends, where that has a place, and ends whose products with time bases have room.
use Rattle.std.specs.Prelude.{◌^◌, ℤ, pos, negsuc, ◌≤ℤ◌, Bool, true, Option, None, Some}
use Rattle.ff_stream.specs.declared.item.Item.{Item}
use Rattle.ff_stream.specs.declared.item.Item.TheVariants.{Audio, Video, Packet, Trailer, End, Broken}
use Rattle.ff_stream.specs.Times.{end_of}

-- when an item ends; none where it closes its stream
abbrev pub ends_at : Item → Option ℤ
ends_at (Audio f) = Some (end_of (Audio f))
ends_at (Video f) = Some (end_of (Video f))
ends_at (Packet p) = Some (end_of (Packet p))
ends_at (Trailer t) = Some (end_of (Trailer t))
ends_at End = None
ends_at Broken = None

-- when the last item ends and whether the input has closed, behind an item that ends so
abbrev pub end_behind : Option ℤ → Option ℤ → Option ℤ
end_behind None before = before
end_behind (Some e) before = Some e

abbrev pub closed_behind : Option ℤ → Bool → Bool
closed_behind None closed = true
closed_behind (Some e) closed = closed

-- an end of at most 66 bits
abbrev pub IsNear : ℤ → Type 0
IsNear e = (negsuc (2 ^ 65) ≤ℤ e) × (e ≤ℤ pos (2 ^ 65))
