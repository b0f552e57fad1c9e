-- Filters that give pictures of another size, as they are configured.
use Rattle.std.proofs.Common.{◌≡◌, ℕ, Bool, true, false, cond, List, [], ◌∷◌, Option, Some, None, Result, Ok, Err, IfOk, refl, sym, ap, subst, ◌∙◌}
use Rattle.std.specs.Prelude.{◌↔◌, IsNone, if◌then◌else◌}
use Rattle.ff_time.specs.Fraction.{Fraction}
use Rattle.ff_frame.specs.declared.config.ConfigError.{ConfigError}
use Rattle.ff_frame.specs.declared.config.ConfigError.TheVariants.{BadSize}
use Rattle.ff_frame.specs.declared.head.StreamHead.{StreamHead}
use Rattle.ff_frame.specs.declared.head.StreamHead.TheVariants.{Video}
use Rattle.ff_frame.specs.declared.video.Format.{Format}
use Rattle.ff_frame.specs.declared.video.VFrame.{VFrame}
use Rattle.ff_stream.specs.declared.item.Lane.TheVariants.{Frames}
use Rattle.ff_filter.specs.declared.after.After.TheVariants.{More}
use Rattle.ff_filter.specs.Singles.{single_view}
use Rattle.ff_planes.specs.declared.rectangle.Rectangle.{Rectangle}
use Rattle.ff_vfilter.specs.declared.crop.CropSettings.{CropSettings}
use Rattle.ff_vfilter.specs.declared.pad.PadSettings.{PadSettings}
use Rattle.ff_vfilter.specs.Pictures.{repainted}
use Rattle.ff_vfilter.specs.Sizes.{sized}
use Rattle.ff_vfilter.specs.Crops.{crop_part, can_crop, crop_makes}
use Rattle.ff_vfilter.specs.Pads.{pad_frame, Padded, pad_of, can_pad, pad_makes}

-- the heads of the outputs, where the head is this one
pub heads_as : {A : Type 0} (r : Result A ConfigError) (items : A → List StreamHead) (h k : StreamHead) → h ≡ k → IfOk r (λ a. items a ≡ h ∷ []) → IfOk r (λ a. items a ≡ k ∷ [])
heads_as (Ok a) items h k e i = i ∙ ap (λ (x : StreamHead). x ∷ []) e
heads_as (Err x) items h k e i = tt

chosen : (b : Bool) (p part : Rectangle) (head : StreamHead) (r : Result (StreamHead × Rectangle) ConfigError) → r ≡ Ok (head, part) → (if b then Some p else None) ≡ Some part → r ≡ cond b (Ok (head, p)) (Err BadSize)
chosen true p part head r is e = let same : p ≡ part = cc in cc
chosen false p part head r is e = cc

pub crop_made : (head : StreamHead) (tb : Fraction) (format : Format) (width height sar_num sar_den : ℕ) (s : CropSettings) (o : Option Rectangle) (part : Rectangle) → head ≡ Video tb format width height sar_num sar_den →
    o ≡ (if can_crop width height (crop_part format width height s) then Some (crop_part format width height s) else None) → o ≡ Some part → crop_makes head s (Ok (head, part))
crop_made head tb format width height sar_num sar_den s o part is made found =
    subst (λ (h : StreamHead). crop_makes h s (Ok (h, part))) (sym is)
    (chosen (can_crop width height (crop_part format width height s)) (crop_part format width height s) part (Video tb format width height sar_num sar_den) (Ok (Video tb format width height sar_num sar_den, part)) refl (sym made ∙ found))

pub cropped_seen : (head shown : StreamHead) (width height : ℕ) (f : VFrame → VFrame) → shown ≡ sized head width height →
    single_view (Frames head) shown (λ s. repainted f s) More ≡ single_view (Frames head) (sized head width height) (λ s. repainted f s) More
cropped_seen head shown width height f e = ap (λ (k : StreamHead). single_view (Frames head) k (λ s. repainted f s) More) e

taken : (b : Bool) (m : Padded) (r : Result Padded ConfigError) → r ≡ Ok m → b ≡ true → r ≡ cond b (Ok m) (Err BadSize)
taken true m r is e = is
taken false m r is e = cc

pub can_be : {A : Type 0} (x : A) (b : Bool) → (IsNone (Some x) ↔ (b ≡ false)) → b ≡ true
can_be x true iff = refl
can_be {A} x false iff = let clash : true ≡ false = iff.1 refl in cc

pub pad_made : (head : StreamHead) (tb : Fraction) (format : Format) (width height sar_num sar_den : ℕ) (s : PadSettings) → head ≡ Video tb format width height sar_num sar_den →
    can_pad (pad_of head format width height s) ≡ true → pad_makes head s (Ok (pad_of head format width height s))
pad_made head tb format width height sar_num sar_den s is can =
    subst (λ (h : StreamHead). pad_makes h s (Ok (pad_of h format width height s))) (sym is)
    (taken (can_pad (pad_of head format width height s)) (pad_of (Video tb format width height sar_num sar_den) format width height s) (Ok (pad_of (Video tb format width height sar_num sar_den) format width height s)) refl can)

pub padded_head : (head shown : StreamHead) (w h width height : ℕ) → w ≡ width → h ≡ height → shown ≡ sized head w h → shown ≡ sized head width height
padded_head head shown w h width height e f is = is ∙ ap (λ n. sized head n h) e ∙ ap (sized head width) f

pub padded_seen : (head shown : StreamHead) (w h width height : ℕ) (p part : Rectangle) → w ≡ width → h ≡ height → p ≡ part → shown ≡ sized head w h →
    single_view (Frames head) shown (λ s. repainted (pad_frame w h p) s) More ≡ single_view (Frames head) (sized head width height) (λ s. repainted (pad_frame width height part) s) More
padded_seen head shown w h width height p part e f g is =
    ap (λ (k : StreamHead). single_view (Frames head) k (λ s. repainted (pad_frame w h p) s) More) (padded_head head shown w h width height e f is)
    ∙ ap (λ n. single_view (Frames head) (sized head width height) (λ s. repainted (pad_frame n h p) s) More) e
    ∙ ap (λ n. single_view (Frames head) (sized head width height) (λ s. repainted (pad_frame width n p) s) More) f
    ∙ ap (λ (q : Rectangle). single_view (Frames head) (sized head width height) (λ s. repainted (pad_frame width height q) s) More) g
