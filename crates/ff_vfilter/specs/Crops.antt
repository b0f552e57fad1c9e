-- Streams of parts of pictures (ffmpeg-filters, "crop").
use Rattle.std.specs.Prelude.{◌≡◌, ℕ, ◌+◌, ◌-◌, ◌/◌, Bool, ◌&&◌, nat_le, cond, if◌then◌else◌, codes, List, [], ◌∷◌, Result, Ok, Err}
use Rattle.ff_frame.specs.declared.config.ConfigError.{ConfigError}
use Rattle.ff_frame.specs.declared.config.ConfigError.TheVariants.{BadSize}
use Rattle.ff_frame.specs.declared.head.StreamHead.{StreamHead}
use Rattle.ff_frame.specs.declared.head.StreamHead.TheVariants.{Audio, Video}
use Rattle.ff_frame.specs.declared.video.Format.{Format}
use Rattle.ff_frame.specs.declared.video.VFrame.{VFrame}
use Rattle.ff_stream.specs.declared.item.Lane.TheVariants.{Frames}
use Rattle.ff_lang.specs.declared.graph.Arg.{Arg}
use Rattle.ff_filter.specs.declared.after.After.TheVariants.{More}
use Rattle.ff_filter.specs.Options.{Manual, is_video, IsConfigured}
use Rattle.ff_filter.specs.Singles.{single_view}
use Rattle.ff_filter.specs.Views.{View}
use Rattle.ff_planes.specs.declared.rectangle.Rectangle.{Rectangle}
use Rattle.ff_planes.specs.Parts.{cropped}
use Rattle.ff_vfilter.specs.declared.crop.CropSettings.{CropSettings}
use Rattle.ff_vfilter.specs.Pictures.{agrees, repainted}
use Rattle.ff_frame.specs.Sizes.{is_side}
use Rattle.ff_vfilter.specs.Sizes.{SetsSize, no_sizes, on_columns, on_rows, size_of, place_of, sized}

-- the rectangle lies in the picture
abbrev pub lies_in : VFrame → Rectangle → Bool
lies_in f r = nat_le (r.x + r.width) f.width && nat_le (r.y + r.height) f.height

-- the part of the picture that the rectangle shows; a picture whose fields don't agree, or in which it doesn't lie, stays
abbrev pub crop_frame : Rectangle → VFrame → VFrame
crop_frame r f = if agrees f && lies_in f r then record f { width = r.width; height = r.height; planes = cropped f.format f.width f.height r f.planes } else f

-- the options: the size in either name, and the place, in the order of places
abbrev pub crop_manual : Manual CropSettings
crop_manual = record {
  names = (codes "w", 0) ∷ (codes "out_w", 0) ∷ (codes "h", 1) ∷ (codes "out_h", 1) ∷ (codes "x", 2) ∷ (codes "y", 3) ∷ [];
  places = 4;
  Sets = λ s option value t. SetsSize s.sizes option value t.sizes;
}

-- The part that settings show of pictures of this format and size: a size that isn't given is the whole one, a place that
-- isn't given lies in the middle. What is given, and the middle, is rounded down to the grid of Cb and Cr.
abbrev pub crop_part : Format → ℕ → ℕ → CropSettings → Rectangle
crop_part format width height s =
    let w = size_of (on_columns format) s.sizes.width width in
    let h = size_of (on_rows format) s.sizes.height height in
    record { x = place_of (on_columns format) s.sizes.x ((width - w) / 2); y = place_of (on_rows format) s.sizes.y ((height - h) / 2); width = w; height = h }

-- it has a size, and lies in the picture
abbrev pub can_crop : ℕ → ℕ → Rectangle → Bool
can_crop width height r = (is_side r.width && is_side r.height) && (nat_le (r.x + r.width) width && nat_le (r.y + r.height) height)

abbrev pub crop_makes : StreamHead → CropSettings → Result (StreamHead × Rectangle) ConfigError → Type 0
crop_makes (Audio tb rate bits channels codec) s r = r ≡ Err BadSize
crop_makes (Video tb format width height sar_num sar_den) s r =
    let part = crop_part format width height s in
    r ≡ cond (can_crop width height part) (Ok (Video tb format width height sar_num sar_den, part)) (Err BadSize)

-- `crop` by its arguments: the head of its input, and the part that it shows
abbrev pub IsCrop : List Arg → List StreamHead → Result (StreamHead × Rectangle) ConfigError → Type 0
IsCrop args heads r = IsConfigured is_video crop_manual (record { sizes = no_sizes }) crop_makes args heads r

abbrev pub crop_head : StreamHead × Rectangle → StreamHead
crop_head m = sized m.0 m.1.width m.1.height

abbrev pub crop_view : StreamHead × Rectangle → View
crop_view m = single_view (Frames m.0) (crop_head m) (λ s. repainted (crop_frame m.1) s) More
