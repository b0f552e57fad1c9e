-- Streams whose pictures become others, one of each.
use Rattle.std.specs.Prelude.{◌≡◌, Bool, ◌&&◌, false, nat_le, nat_eq, Some, List, length, refl}
use Rattle.std.proofs.Common.{inl, inr, ap, sym, ◌∙◌, map}
use Rattle.std.proofs.lemmas.List.{map-append}
use Rattle.ff_frame.specs.declared.video.VFrame.{VFrame}
use Rattle.ff_frame.specs.Video.{frame_size}
use Rattle.ff_stream.specs.declared.item.Item.{Item}
use Rattle.ff_stream.specs.declared.item.Item.TheVariants.{Audio, Video, Packet, Trailer, End, Broken}
use Rattle.ff_stream.specs.Stream.{LiesBelow, map_stream}
use Rattle.ff_filter.specs.declared.after.After.TheVariants.{More}
use Rattle.ff_filter.specs.Joins.{Flow, joined, before}
use Rattle.ff_filter.specs.Views.{closes}
use Rattle.ff_filter.specs.Made.{made_of}

-- the fields of a picture agree: 1 to 16,384 columns and rows, and all samples of the planes
abbrev pub agrees : VFrame → Bool
agrees f =
    ((nat_le 1 f.width && nat_le f.width 16384) && (nat_le 1 f.height && nat_le f.height 16384))
    && nat_eq (length f.planes) (frame_size f.format f.width f.height)

-- what becomes of an item, where this becomes of a picture
abbrev pub with_picture : (VFrame → VFrame) → Item → Item
with_picture g (Audio f) = Audio f
with_picture g (Video f) = Video (g f)
with_picture g (Packet p) = Packet p
with_picture g (Trailer t) = Trailer t
with_picture g End = End
with_picture g Broken = Broken

-- the stream in which this becomes of each picture
abbrev pub repainted : (VFrame → VFrame) → Flow → Flow
repainted g s = map_stream (with_picture g) s

pub repainted-below : (g : VFrame → VFrame) (r s : Flow) → LiesBelow r s → LiesBelow (repainted g r) (repainted g s)
repainted-below g r s (inl e) = inl (ap (λ (x : Flow). repainted g x) e)
repainted-below g r s (inr h) =
    inr (h.0, (map (with_picture g) h.1.0, sym (map-append (with_picture g) r.items h.1.0) ∙ ap (λ (zs : List Item). map (with_picture g) zs) h.1.1))

-- the next item, and then the others
pub repainted-next : (g : VFrame → VFrame) (x : Item) (t : Flow) → closes x ≡ false
    → repainted g (before x t) ≡ joined (made_of (Some (with_picture g x)) More) (repainted g t)
repainted-next g (Audio f) t c = refl
repainted-next g (Video f) t c = refl
repainted-next g (Packet f) t c = refl
repainted-next g (Trailer f) t c = refl
repainted-next g End t c = cc
repainted-next g Broken t c = cc
