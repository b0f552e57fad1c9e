-- Streams of pictures on black (ffmpeg-filters, "pad").
use Rattle.std.specs.Prelude.{◌≡◌, ℕ, ◌+◌, Bool, ◌&&◌, nat_le, nat_eq, cond, if◌then◌else◌, codes, List, [], ◌∷◌, Result, Ok, Err}
use Rattle.ff_frame.specs.declared.config.ConfigError.{ConfigError}
use Rattle.ff_frame.specs.declared.config.ConfigError.TheVariants.{BadSize}
use Rattle.ff_frame.specs.declared.head.StreamHead.{StreamHead}
use Rattle.ff_frame.specs.declared.head.StreamHead.TheVariants.{Audio, Video}
use Rattle.ff_frame.specs.declared.video.Format.{Format}
use Rattle.ff_frame.specs.declared.video.VFrame.{VFrame}
use Rattle.ff_stream.specs.declared.item.Lane.TheVariants.{Frames}
use Rattle.ff_lang.specs.declared.graph.Arg.{Arg}
use Rattle.ff_filter.specs.declared.after.After.TheVariants.{More}
use Rattle.ff_filter.specs.Options.{Manual, is_video, IsConfigured}
use Rattle.ff_filter.specs.Singles.{single_view}
use Rattle.ff_filter.specs.Views.{View}
use Rattle.ff_planes.specs.declared.rectangle.Rectangle.{Rectangle}
use Rattle.ff_planes.specs.Parts.{padded}
use Rattle.ff_vfilter.specs.declared.pad.PadSettings.{PadSettings}
use Rattle.ff_vfilter.specs.Pictures.{agrees, repainted}
use Rattle.ff_frame.specs.Sizes.{is_side}
use Rattle.ff_vfilter.specs.Sizes.{SetsSize, no_sizes, on_columns, on_rows, size_of, place_of, sized}

-- the picture has the rectangle's size
abbrev pub fills : VFrame → Rectangle → Bool
fills f r = nat_eq f.width r.width && nat_eq f.height r.height

-- the picture in the rectangle, on black of this size; one whose fields don't agree, or of another size, stays
abbrev pub pad_frame : ℕ → ℕ → Rectangle → VFrame → VFrame
pad_frame width height r f = if agrees f && fills f r then record f { width = width; height = height; planes = padded f.format width height r f.planes } else f

-- the options: the size in either name, and the place, in the order of places
abbrev pub pad_manual : Manual PadSettings
pad_manual = record {
  names = (codes "w", 0) ∷ (codes "width", 0) ∷ (codes "h", 1) ∷ (codes "height", 1) ∷ (codes "x", 2) ∷ (codes "y", 3) ∷ [];
  places = 4;
  Sets = λ s option value t. SetsSize s.sizes option value t.sizes;
}

-- a picture in a larger one: how many columns and rows that one has, and where the picture lies
pub record Padded : Type 0 where
  pub head : StreamHead
  pub width : ℕ
  pub height : ℕ
  pub part : Rectangle

-- What settings make of pictures of this format and size: a size that isn't given is the picture's, a place that isn't
-- given is 0. What is given is rounded down to the grid of Cb and Cr.
abbrev pub pad_of : StreamHead → Format → ℕ → ℕ → PadSettings → Padded
pad_of head format width height s = record {
  head = head;
  width = size_of (on_columns format) s.sizes.width width;
  height = size_of (on_rows format) s.sizes.height height;
  part = record { x = place_of (on_columns format) s.sizes.x 0; y = place_of (on_rows format) s.sizes.y 0; width = width; height = height };
}

-- the larger one has a size, and holds the picture
abbrev pub can_pad : Padded → Bool
can_pad p = (is_side p.width && is_side p.height) && (nat_le (p.part.x + p.part.width) p.width && nat_le (p.part.y + p.part.height) p.height)

abbrev pub pad_makes : StreamHead → PadSettings → Result Padded ConfigError → Type 0
pad_makes (Audio tb rate bits channels codec) s r = r ≡ Err BadSize
pad_makes (Video tb format width height sar_num sar_den) s r =
    let made = pad_of (Video tb format width height sar_num sar_den) format width height s in
    r ≡ cond (can_pad made) (Ok made) (Err BadSize)

-- `pad` by its arguments: the larger picture, and where the picture lies in it
abbrev pub IsPad : List Arg → List StreamHead → Result Padded ConfigError → Type 0
IsPad args heads r = IsConfigured is_video pad_manual (record { sizes = no_sizes }) pad_makes args heads r

abbrev pub pad_head : Padded → StreamHead
pad_head m = sized m.head m.width m.height

abbrev pub pad_view : Padded → View
pad_view m = single_view (Frames m.head) (pad_head m) (λ s. repainted (pad_frame m.width m.height m.part) s) More
