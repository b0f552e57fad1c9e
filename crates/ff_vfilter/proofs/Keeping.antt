-- Valid streams of pictures give items in shape, where what becomes of a picture keeps its time and fits the output.
use Rattle.std.specs.Prelude.{◌≡◌, ℕ, zero, suc, Bool, true, false, ◌&&◌, if◌then◌else◌, List, [], ◌∷◌, map, All, refl, length}
use Rattle.std.proofs.Common.{arith}
use Rattle.std.proofs.lemmas.Bool.Decides.{nat_tests}
use Rattle.ff_time.specs.Fraction.{Fraction}
use Rattle.ff_frame.specs.declared.head.StreamHead.{StreamHead}
use Rattle.ff_frame.specs.declared.head.StreamHead.TheVariants.{Video as VideoHead}
use Rattle.ff_frame.specs.declared.video.Format.{Format}
use Rattle.ff_frame.specs.declared.video.VFrame.{VFrame}
use Rattle.ff_frame.specs.Heads.{IsPictureOf}
use Rattle.ff_frame.specs.Video.{IsSide, IsVideo, frame_size}
use Rattle.ff_stream.specs.declared.item.Item.{Item}
use Rattle.ff_stream.specs.declared.item.Item.TheVariants.{Audio, Video, Packet, Trailer, End, Broken}
use Rattle.ff_stream.specs.declared.item.Lane.TheVariants.{Frames}
use Rattle.ff_stream.specs.Times.{HasTime, start_of, end_of}
use Rattle.ff_stream.specs.Lanes.{FitsFrames, IsItemFor, AreInShape, InOrder, Follows, IsValid}
use Rattle.ff_filter.specs.Joins.{Flow}
use Rattle.ff_filter.specs.laws.Sound.{IsSound}
use Rattle.ff_planes.specs.declared.rectangle.Rectangle.{Rectangle}
use Rattle.ff_planes.specs.Flips.{hflipped, vflipped}
use Rattle.ff_planes.specs.Parts.{IsPart, cropped, padded}
use Rattle.ff_planes.proofs.PixelLaws.{length-hflipped, length-vflipped, length-cropped, length-padded}
use Rattle.ff_vfilter.specs.Pictures.{agrees, with_picture, repainted}
use Rattle.ff_vfilter.specs.HFlips.{hflip_frame}
use Rattle.ff_vfilter.specs.VFlips.{vflip_frame}
use Rattle.ff_vfilter.specs.Crops.{crop_frame, lies_in}
use Rattle.ff_vfilter.specs.Pads.{pad_frame, fills}

-- the time of a picture is kept
record Keeps (g : VFrame → VFrame) : Type 0 where
  start : (f : VFrame) → (g f).pts ≡ f.pts
  lasting : (f : VFrame) → (g f).duration ≡ f.duration

module _ (g : VFrame → VFrame) (keeps : Keeps g) where
  start_same : (x : Item) → start_of (with_picture g x) ≡ start_of x
  start_same (Audio f) = refl
  start_same (Video f) = keeps.start f
  start_same (Packet p) = refl
  start_same (Trailer t) = refl
  start_same End = refl
  start_same Broken = refl

  end_same : (x : Item) → end_of (with_picture g x) ≡ end_of x
  end_same (Audio f) = refl
  end_same (Video f) = let a : (g f).pts ≡ f.pts = keeps.start f in let b : (g f).duration ≡ f.duration = keeps.lasting f in cc
  end_same (Packet p) = refl
  end_same (Trailer t) = refl
  end_same End = refl
  end_same Broken = refl

  has_time : (x : Item) → HasTime x → HasTime (with_picture g x)
  has_time (Audio f) t = t
  has_time (Video f) t = t
  has_time (Packet p) t = t
  has_time (Trailer p) t = t
  has_time End t = t
  has_time Broken t = t

  had_time : (x : Item) → HasTime (with_picture g x) → HasTime x
  had_time (Audio f) t = t
  had_time (Video f) t = t
  had_time (Packet p) t = t
  had_time (Trailer p) t = t
  had_time End t = t
  had_time Broken t = t

  module _ (tb : Fraction) (format : Format) (width height w h sar_num sar_den : ℕ) (fits : (f : VFrame) → IsPictureOf format width height f → IsPictureOf format w h (g f)) where
    abbrev head : StreamHead
    head = VideoHead tb format width height sar_num sar_den

    abbrev shown : StreamHead
    shown = VideoHead tb format w h sar_num sar_den

    fits_shown : (x : Item) → FitsFrames head x → FitsFrames shown (with_picture g x)
    fits_shown (Audio f) i = i
    fits_shown (Video f) i = fits f i
    fits_shown (Packet p) i = i
    fits_shown (Trailer p) i = i
    fits_shown End i = i
    fits_shown Broken i = i

    item_shown : (x : Item) → IsItemFor (Frames head) x → IsItemFor (Frames shown) (with_picture g x)
    item_shown x i = record {
      fits = fits_shown x i.fits;
      not_negative = rw (start_same x) (i.not_negative);
      lasts = λ t. rw (start_same x, end_same x) (i.lasts (had_time x t));
    }

    all_shown : (xs : List Item) → All (IsItemFor (Frames head)) xs → All (IsItemFor (Frames shown)) (map (with_picture g) xs)
    all_shown [] a k d lt = absurd (omega arith)
    all_shown (x ∷ xs) a zero d lt = item_shown x (a zero x (omega arith))
    all_shown (x ∷ xs) a (suc k) d lt = all_shown xs (λ j e less. a (suc j) e (omega arith)) k d (omega arith)

    follows_shown : (x y : Item) → Follows (Frames head) x y → Follows (Frames shown) (with_picture g x) (with_picture g y)
    follows_shown x y o = record {
      timed = has_time x o.timed;
      starts = λ t. rw (start_same x, start_same y) (o.starts (had_time y t));
      ends = λ t. rw (end_same x, end_same y) (o.ends (had_time y t));
      apart = λ t. tt;
    }

    order_shown : (xs : List Item) → InOrder (Frames head) xs → InOrder (Frames shown) (map (with_picture g) xs)
    order_shown [] o = tt
    order_shown (x ∷ []) o = tt
    order_shown (x ∷ y ∷ xs) o = (follows_shown x y o.0, order_shown (y ∷ xs) o.1)

    shape_kept : (s : Flow) → IsValid (Frames head) s → AreInShape (Frames shown) (repainted g s).items
    shape_kept s v = record { each = all_shown s.items v.shape.each; in_order = order_shown s.items v.shape.in_order }

-- ---- the four filters

start_of_choice : (b : Bool) (x f : VFrame) → x.pts ≡ f.pts → (if b then x else f).pts ≡ f.pts
start_of_choice true x f e = e
start_of_choice false x f e = refl

lasting_of_choice : (b : Bool) (x f : VFrame) → x.duration ≡ f.duration → (if b then x else f).duration ≡ f.duration
lasting_of_choice true x f e = e
lasting_of_choice false x f e = refl

picture_of_choice : (b : Bool) (x f : VFrame) (format : Format) (w h : ℕ) → b ≡ true → IsPictureOf format w h x → IsPictureOf format w h (if b then x else f)
picture_of_choice true x f format w h e p = p
picture_of_choice false x f format w h e p = cc

do_agree : (f : VFrame) → IsVideo f.format f.width f.height f.planes → agrees f ≡ true
do_agree f v = let a = v.columns in let b = v.rows in let c : length f.planes ≡ frame_size f.format f.width f.height = v.samples in grind (arith, nat_tests)

hflip_keeps : (tb : Fraction) (format : Format) (width height sar_num sar_den : ℕ) (s : Flow) → IsValid (Frames (VideoHead tb format width height sar_num sar_den)) s
    → AreInShape (Frames (VideoHead tb format width height sar_num sar_den)) (repainted hflip_frame s).items
hflip_keeps tb format width height sar_num sar_den =
    let made : VFrame → VFrame = λ f. record f { planes = hflipped f.format f.width f.height f.planes } in
    shape_kept hflip_frame (record { start = λ f. start_of_choice (agrees f) (made f) f refl; lasting = λ f. lasting_of_choice (agrees f) (made f) f refl }) tb format width height width height sar_num sar_den
    (λ f i. picture_of_choice (agrees f) (made f) f format width height (do_agree f i.video)
    (record { format_is = i.format_is; columns_are = i.columns_are; rows_are = i.rows_are; video = record { columns = i.video.columns; rows = i.video.rows; samples = length-hflipped f.format f.width f.height f.planes } }))

vflip_keeps : (tb : Fraction) (format : Format) (width height sar_num sar_den : ℕ) (s : Flow) → IsValid (Frames (VideoHead tb format width height sar_num sar_den)) s
    → AreInShape (Frames (VideoHead tb format width height sar_num sar_den)) (repainted vflip_frame s).items
vflip_keeps tb format width height sar_num sar_den =
    let made : VFrame → VFrame = λ f. record f { planes = vflipped f.format f.width f.height f.planes } in
    shape_kept vflip_frame (record { start = λ f. start_of_choice (agrees f) (made f) f refl; lasting = λ f. lasting_of_choice (agrees f) (made f) f refl }) tb format width height width height sar_num sar_den
    (λ f i. picture_of_choice (agrees f) (made f) f format width height (do_agree f i.video)
    (record { format_is = i.format_is; columns_are = i.columns_are; rows_are = i.rows_are; video = record { columns = i.video.columns; rows = i.video.rows; samples = length-vflipped f.format f.width f.height f.planes } }))

both_true : (a b : Bool) → a ≡ true → b ≡ true → (a && b) ≡ true
both_true true b e f = f
both_true false b e f = cc

crop_keeps : (tb : Fraction) (format : Format) (width height sar_num sar_den : ℕ) (r : Rectangle) (s : Flow) → IsPart width height r → IsSide r.width → IsSide r.height
    → IsValid (Frames (VideoHead tb format width height sar_num sar_den)) s → AreInShape (Frames (VideoHead tb format r.width r.height sar_num sar_den)) (repainted (crop_frame r) s).items
crop_keeps tb format width height sar_num sar_den r s inside wide high =
    let made : VFrame → VFrame = λ f. record f { width = r.width; height = r.height; planes = cropped f.format f.width f.height r f.planes } in
    shape_kept (crop_frame r) (record { start = λ f. start_of_choice (agrees f && lies_in f r) (made f) f refl; lasting = λ f. lasting_of_choice (agrees f && lies_in f r) (made f) f refl }) tb format width height r.width r.height sar_num sar_den
    (λ f i.
    let a = inside.columns in let b = inside.rows in let c = i.columns_are in let d = i.rows_are in
    let lies : lies_in f r ≡ true = grind (arith, nat_tests) in
    picture_of_choice (agrees f && lies_in f r) (made f) f format r.width r.height (both_true (agrees f) (lies_in f r) (do_agree f i.video) lies)
    (record { format_is = i.format_is; columns_are = refl; rows_are = refl; video = record { columns = wide; rows = high; samples = length-cropped f.format f.width f.height r f.planes } })) s

pad_keeps : (tb : Fraction) (format : Format) (width height sar_num sar_den w h : ℕ) (r : Rectangle) (s : Flow) → r.width ≡ width → r.height ≡ height → IsSide w → IsSide h
    → IsValid (Frames (VideoHead tb format width height sar_num sar_den)) s → AreInShape (Frames (VideoHead tb format w h sar_num sar_den)) (repainted (pad_frame w h r) s).items
pad_keeps tb format width height sar_num sar_den w h r s same also wide high =
    let made : VFrame → VFrame = λ f. record f { width = w; height = h; planes = padded f.format w h r f.planes } in
    shape_kept (pad_frame w h r) (record { start = λ f. start_of_choice (agrees f && fills f r) (made f) f refl; lasting = λ f. lasting_of_choice (agrees f && fills f r) (made f) f refl }) tb format width height w h sar_num sar_den
    (λ f i.
    let c = i.columns_are in let d = i.rows_are in
    let lies : fills f r ≡ true = grind (arith, nat_tests) in
    picture_of_choice (agrees f && fills f r) (made f) f format w h (both_true (agrees f) (fills f r) (do_agree f i.video) lies)
    (record { format_is = i.format_is; columns_are = refl; rows_are = refl; video = record { columns = wide; rows = high; samples = length-padded f.format w h r f.planes } })) s

-- ---- what they owe behind limits

pub hflip_sound : (tb : Fraction) (format : Format) (width height sar_num sar_den : ℕ) → IsSound (Frames (VideoHead tb format width height sar_num sar_den)) (Frames (VideoHead tb format width height sar_num sar_den)) (λ s. repainted hflip_frame s)
hflip_sound tb format width height sar_num sar_den = record { shape = hflip_keeps tb format width height sar_num sar_den; unbroken = λ s v u. u }

pub vflip_sound : (tb : Fraction) (format : Format) (width height sar_num sar_den : ℕ) → IsSound (Frames (VideoHead tb format width height sar_num sar_den)) (Frames (VideoHead tb format width height sar_num sar_den)) (λ s. repainted vflip_frame s)
vflip_sound tb format width height sar_num sar_den = record { shape = vflip_keeps tb format width height sar_num sar_den; unbroken = λ s v u. u }

pub crop_sound : (tb : Fraction) (format : Format) (width height sar_num sar_den : ℕ) (r : Rectangle) → IsPart width height r → IsSide r.width → IsSide r.height
    → IsSound (Frames (VideoHead tb format width height sar_num sar_den)) (Frames (VideoHead tb format r.width r.height sar_num sar_den)) (λ s. repainted (crop_frame r) s)
crop_sound tb format width height sar_num sar_den r inside wide high = record { shape = λ s v. crop_keeps tb format width height sar_num sar_den r s inside wide high v; unbroken = λ s v u. u }

pub pad_sound : (tb : Fraction) (format : Format) (width height sar_num sar_den w h : ℕ) (r : Rectangle) → r.width ≡ width → r.height ≡ height → IsSide w → IsSide h
    → IsSound (Frames (VideoHead tb format width height sar_num sar_den)) (Frames (VideoHead tb format w h sar_num sar_den)) (λ s. repainted (pad_frame w h r) s)
pad_sound tb format width height sar_num sar_den w h r same also wide high = record { shape = λ s v. pad_keeps tb format width height sar_num sar_den w h r s same also wide high v; unbroken = λ s v u. u }
