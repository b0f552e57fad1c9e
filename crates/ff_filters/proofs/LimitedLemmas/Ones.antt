-- Filters of one input are behind limits.
use Rattle.std.proofs.Common.{◌≡◌, ℕ, zero, suc, ◌+◌, ◌≤◌, true, false, nat_le, ◌&&◌, Option, Some, None, Result, Ok, List, [], ◌∷◌, map, refl, sym, ap, subst, ◌∙◌}
use Rattle.std.proofs.Common.{arith}
use Rattle.std.specs.Prelude.{replicate}
use Rattle.std.proofs.lemmas.Bool.Decides.{nat_tests}
use Rattle.std.proofs.lemmas.List.{length-replicate}
use Rattle.ff_frame.specs.Sizes.{is_side}
use Rattle.ff_time.specs.Fraction.{Fraction}
use Rattle.ff_frame.specs.declared.config.ConfigError.{ConfigError}
use Rattle.ff_frame.specs.declared.config.ConfigError.TheVariants.{BadSize}
use Rattle.ff_frame.specs.declared.head.StreamHead.{StreamHead}
use Rattle.ff_frame.specs.declared.head.StreamHead.TheVariants.{Audio, Video}
use Rattle.ff_frame.specs.Video.{IsSide}
use Rattle.ff_stream.specs.declared.item.Item.{Item}
use Rattle.ff_stream.specs.declared.item.Lane.{Lane}
use Rattle.ff_stream.specs.declared.item.Lane.TheVariants.{Frames}
use Rattle.ff_stream.specs.Stream.{LiesBelow, opened, map_stream}
use Rattle.ff_stream.specs.Lanes.{IsValid}
use Rattle.ff_stream.specs.Ports.{stream_at}
use Rattle.ff_stream.specs.laws.Order.{below_self}
use Rattle.ff_stream.specs.Within.{some_pass, passes_limits}
use Rattle.ff_filter.specs.declared.after.After.{After}
use Rattle.ff_filter.specs.declared.after.After.TheVariants.{More, Whole, Broke}
use Rattle.ff_filter.specs.declared.pass.Pass.{Pass}
use Rattle.ff_filter.specs.declared.rebase.Rebase.{Rebase}
use Rattle.ff_filter.specs.declared.range.Range.{Range}
use Rattle.ff_filter.specs.Joins.{Flow, Ports}
use Rattle.ff_filter.specs.Options.{is_sound, is_video}
use Rattle.ff_filter.specs.Plain.{pass_view, rebase_view}
use Rattle.ff_filter.specs.Shifts.{shifted, shifted-below}
use Rattle.ff_filter.specs.Singles.{single_view}
use Rattle.ff_filter.specs.laws.Sound.{IsSound}
use Rattle.ff_filter.proofs.ShiftSound.{shift_sound}
use Rattle.ff_filter.specs.spread.Splits.{split_view}
use Rattle.ff_filter.specs.spread.Spreads.{on_output, spread_start}
use Rattle.ff_filter.specs.laws.spread.Valid.{GivesValid}
use Rattle.ff_planes.specs.declared.rectangle.Rectangle.{Rectangle}
use Rattle.ff_vfilter.specs.declared.crop.CropSettings.{CropSettings}
use Rattle.ff_vfilter.specs.declared.pad.PadSettings.{PadSettings}
use Rattle.ff_vfilter.specs.declared.scale.Scale.{Scale}
use Rattle.ff_vfilter.specs.declared.lasting_trim.LastingTrim.{LastingTrim}
use Rattle.ff_vfilter.specs.Crops.{crop_frame, crop_part, can_crop, crop_view}
use Rattle.ff_vfilter.specs.Pads.{Padded, pad_frame, pad_of, can_pad, pad_view}
use Rattle.ff_vfilter.specs.FpsOptions.{fps_view}
use Rattle.ff_vfilter.specs.HFlips.{hflip_frame, hflip_view}
use Rattle.ff_vfilter.specs.VFlips.{vflip_frame, vflip_view}
use Rattle.ff_vfilter.specs.Pictures.{repainted, repainted-below}
use Rattle.ff_vfilter.specs.Rates.{even}
use Rattle.ff_vfilter.specs.Trims.{lasting_trimmed, at_once, trim_view}
use Rattle.ff_vfilter.specs.laws.LastingLaws.{lasting-below, lasting-calm}
use Rattle.ff_vfilter.proofs.Evenly.{even_below, even_calm}
use Rattle.ff_vfilter.proofs.Keeping.{hflip_sound, vflip_sound, crop_sound, pad_sound}
use Rattle.ff_vfilter.proofs.TrimSound.{lasting_sound}
use Rattle.ff_vfilter.proofs.RateShape.{rate_sound}
use Rattle.ff_afilter.specs.declared.lasting_atrim.LastingATrim.{LastingATrim}
use Rattle.ff_afilter.specs.Channels.{channel_item, channels_view}
use Rattle.ff_afilter.specs.Trims.{sound_lasting, atrim_view, at_once as sound_at_once}
use Rattle.ff_afilter.specs.laws.LastingLaws.{lasting-below as sound-below, lasting-calm as sound-calm}
use Rattle.ff_afilter.proofs.TrimSound.{sound_lasting_sound}
use Rattle.ff_afilter.proofs.ChannelSound.{channel_valid}
use Rattle.ff_node_filter.specs.Limiting.{IsLimited}
use Rattle.ff_node_filter.proofs.Limits.{single_limited, ended_limited, spread_limited}
use Rattle.ff_filters.specs.Configured.{cropped_as, padded_as}
use Rattle.ff_filters.proofs.Parting.{if_ok}
use Rattle.ff_filters.proofs.LimitedLemmas.Opening.{Owes, owed, one_within, never_cut}

-- what a function of one stream owes, whose output is over from the start or not
pub single_owes : (lane : Lane) (head : StreamHead) (f : Flow → Flow) (after : After) → (after ≡ Broke → ⊥)
    → ((r s : Flow) → LiesBelow r s → LiesBelow (f r) (f s)) → ((r : Flow) → LiesBelow (opened (f r)) (f (opened r))) → IsSound lane (Frames head) f
    → Owes (lane ∷ []) (Frames head ∷ []) (single_view lane head f after).rest
single_owes lane head f More n below calm sound =
    owed (lane ∷ []) (Frames head ∷ []) (single_view lane head f More).rest (λ ss q. f (ss 0))
    (λ (ss : List Flow). some_pass (passes_limits (Frames head)) 0 (f (stream_at ss 0)).items)
    (single_limited lane head f below calm sound) (one_within (lane ∷ []) head (λ ss. f (ss 0)) (λ ss v u. sound.unbroken (stream_at ss 0) (v 0) (u 0)))
single_owes lane head f Whole n below calm sound =
    let rest : Ports → Ports = (single_view lane head f Whole).rest in
    owed (lane ∷ []) (Frames head ∷ []) rest rest (λ (ss : List Flow). false) (ended_limited lane head f)
    (never_cut (lane ∷ []) (Frames head ∷ []) rest (ended_limited lane head f))
single_owes lane head f Broke n below calm sound = absurd (n refl)

pub pass_owes : (m : Pass) → Owes (pass_view m).ins (pass_view m).outs (pass_view m).rest
pass_owes m = single_owes (Frames m.head) m.head (λ s. s) More (λ e. cc) (λ r s h. h) (λ r. below_self (opened r))
    (record { shape = λ s v. v.shape; unbroken = λ s v u. u })

pub rebase_owes : (m : Rebase) → Owes (rebase_view m).ins (rebase_view m).outs (rebase_view m).rest
rebase_owes m = single_owes (Frames m.head) m.head (λ s. shifted None s) More (λ e. cc) (shifted-below None) (λ r. below_self (opened (shifted None r)))
    (shift_sound m.head)

not_broke : (ticks : ℕ) (stop : Option ℕ) → at_once ticks stop ≡ Broke → ⊥
not_broke (suc ticks) stop e = cc
not_broke zero None e = cc
not_broke zero (Some zero) e = cc
not_broke zero (Some (suc n)) e = cc

pub trim_owes : (m : LastingTrim) → Owes (trim_view m).ins (trim_view m).outs (trim_view m).rest
trim_owes m =
    single_owes (Frames m.trim.head) m.trim.head (λ s. lasting_trimmed m.trim.range m.lasting s) (at_once m.lasting m.trim.range.stop)
    (not_broke m.lasting m.trim.range.stop) (lasting-below m.trim.range m.lasting) (lasting-calm m.trim.range m.lasting)
    (lasting_sound (Frames m.trim.head) m.trim.range m.lasting)

sound_not_broke : (ticks : ℕ) (stop : Option ℕ) → sound_at_once ticks stop ≡ Broke → ⊥
sound_not_broke (suc ticks) stop e = cc
sound_not_broke zero None e = cc
sound_not_broke zero (Some zero) e = cc
sound_not_broke zero (Some (suc n)) e = cc

sound_sound : (head : StreamHead) (range : Range) (ticks : ℕ) → is_sound head ≡ true → IsSound (Frames head) (Frames head) (λ s. sound_lasting range ticks s)
sound_sound (Audio tb rate bits channels codec) range ticks k = sound_lasting_sound tb rate bits channels codec range ticks
sound_sound (Video tb format width height sar_num sar_den) range ticks k = cc

pub atrim_owes : (m : LastingATrim) → is_sound m.trim.head ≡ true → Owes (atrim_view m).ins (atrim_view m).outs (atrim_view m).rest
atrim_owes m k =
    single_owes (Frames m.trim.head) m.trim.head (λ s. sound_lasting m.trim.range m.lasting s) (sound_at_once m.lasting m.trim.range.stop)
    (sound_not_broke m.lasting m.trim.range.stop) (sound-below m.trim.range m.lasting) (sound-calm m.trim.range m.lasting)
    (sound_sound m.trim.head m.trim.range m.lasting k)

pub hflip_owes : (head : StreamHead) → is_video head ≡ true → Owes (hflip_view head).ins (hflip_view head).outs (hflip_view head).rest
hflip_owes (Audio tb rate bits channels codec) k = cc
hflip_owes (Video tb format width height sar_num sar_den) k =
    single_owes (Frames (Video tb format width height sar_num sar_den)) (Video tb format width height sar_num sar_den) (λ s. repainted hflip_frame s) More (λ e. cc)
    (repainted-below hflip_frame) (λ r. below_self (opened (repainted hflip_frame r))) (hflip_sound tb format width height sar_num sar_den)

pub vflip_owes : (head : StreamHead) → is_video head ≡ true → Owes (vflip_view head).ins (vflip_view head).outs (vflip_view head).rest
vflip_owes (Audio tb rate bits channels codec) k = cc
vflip_owes (Video tb format width height sar_num sar_den) k =
    single_owes (Frames (Video tb format width height sar_num sar_den)) (Video tb format width height sar_num sar_den) (λ s. repainted vflip_frame s) More (λ e. cc)
    (repainted-below vflip_frame) (λ r. below_self (opened (repainted vflip_frame r))) (vflip_sound tb format width height sar_num sar_den)

-- what the tests of a size and a place say
record Tested (w h right wide low high : ℕ) : Type 0 where
  columns : IsSide w
  rows : IsSide h
  across : right ≤ wide
  down : low ≤ high

tested : (w h right wide low high : ℕ) → ((is_side w && is_side h) && (nat_le right wide && nat_le low high)) ≡ true → Tested w h right wide low high
tested w h right wide low high e = record {
  columns = (grind (arith, nat_tests), grind (arith, nat_tests));
  rows = (grind (arith, nat_tests), grind (arith, nat_tests));
  across = grind (arith, nat_tests);
  down = grind (arith, nat_tests);
}

same_ok : {X : Type 0} (x y : X) → (let r : Result X ConfigError = Ok x in r) ≡ Ok y → x ≡ y
same_ok x y e = cc

pub crop_owes : (head : StreamHead) (s : CropSettings) (m : StreamHead × Rectangle) → cropped_as head s ≡ Ok m
    → Owes (crop_view m).ins (crop_view m).outs (crop_view m).rest
crop_owes (Audio tb rate bits channels codec) s m e = cc
crop_owes (Video tb format width height sar_num sar_den) s m e =
    let r = crop_part format width height s in
    let k = if_ok (can_crop width height r) (Ok (Video tb format width height sar_num sar_den, r)) BadSize m e in
    let t = tested r.width r.height (r.x + r.width) width (r.y + r.height) height k.0 in
    subst (λ (n : StreamHead × Rectangle). Owes (crop_view n).ins (crop_view n).outs (crop_view n).rest) (same_ok (Video tb format width height sar_num sar_den, r) m k.1)
    (single_owes (Frames (Video tb format width height sar_num sar_den)) (Video tb format r.width r.height sar_num sar_den) (λ q. repainted (crop_frame r) q) More
    (λ e. cc)
    (repainted-below (crop_frame r)) (λ q. below_self (opened (repainted (crop_frame r) q)))
    (crop_sound tb format width height sar_num sar_den r (record { columns = t.across; rows = t.down }) t.columns t.rows))

pub pad_owes : (head : StreamHead) (s : PadSettings) (m : Padded) → padded_as head s ≡ Ok m → Owes (pad_view m).ins (pad_view m).outs (pad_view m).rest
pad_owes (Audio tb rate bits channels codec) s m e = cc
pad_owes (Video tb format width height sar_num sar_den) s m e =
    let p = pad_of (Video tb format width height sar_num sar_den) format width height s in
    let k = if_ok (can_pad p) (Ok p) BadSize m e in
    let t = tested p.width p.height (p.part.x + p.part.width) p.width (p.part.y + p.part.height) p.height k.0 in
    subst (λ (n : Padded). Owes (pad_view n).ins (pad_view n).outs (pad_view n).rest) (same_ok p m k.1)
    (single_owes (Frames (Video tb format width height sar_num sar_den)) (Video tb format p.width p.height sar_num sar_den)
    (λ q. repainted (pad_frame p.width p.height p.part) q) More (λ e. cc)
    (repainted-below (pad_frame p.width p.height p.part)) (λ q. below_self (opened (repainted (pad_frame p.width p.height p.part) q)))
    (pad_sound tb format width height sar_num sar_den p.width p.height p.part refl refl t.columns t.rows))

pub fps_owes : (head : StreamHead) (base : Fraction) → is_video head ≡ true → Owes (fps_view (head, base)).ins (fps_view (head, base)).outs (fps_view (head, base)).rest
fps_owes (Audio tb rate bits channels codec) base k = cc
fps_owes (Video tb format width height sar_num sar_den) base k =
    let scale : Scale = record { from = tb; to = base } in
    single_owes (Frames (Video tb format width height sar_num sar_den)) (Video base format width height sar_num sar_den) (λ s. even scale s) More (λ e. cc)
    (even_below scale) (even_calm scale) (rate_sound scale tb base format width height sar_num sar_den)

-- ---- several outputs

-- whose limits cut nothing
uncut_owed : (ins outs : List Lane) (f : Ports → Ports) → IsLimited ins outs f (λ (ss : List Flow). false) → Owes ins outs f
uncut_owed ins outs f l = owed ins outs f f (λ (ss : List Flow). false) l (never_cut ins outs f l)

all_as_they_are : (xs : List Item) → map (λ (x : Item). x) xs ≡ xs
all_as_they_are [] = refl
all_as_they_are (x ∷ xs) = ap (λ (ys : List Item). x ∷ ys) (all_as_they_are xs)

as_it_is : (s : Flow) → map_stream (λ (x : Item). x) s ≡ s
as_it_is s = ap (λ (xs : List Item). let r : Flow = record { items = xs; mark = s.mark } in r) (all_as_they_are s.items)

copied : (lane : Lane) (n : ℕ) → (spread_start lane (replicate n lane) (λ q x. x)).rest ≡ (λ ext q. on_output n q (ext 0))
copied lane n i ext q = (ap (λ (k : ℕ). on_output k q (map_stream (λ (x : Item). x) (ext 0))) (length-replicate n lane) ∙ ap (λ (s : Flow). on_output n q s)
    (as_it_is (ext 0))) i

copy_valid : (lane : Lane) → GivesValid lane lane (λ s. map_stream (λ (x : Item). x) s)
copy_valid lane = record { valid = λ s v. subst (λ (t : Flow). IsValid lane t) (sym (as_it_is s)) v; unbroken = λ s v u. u }

pub split_owes : (m : StreamHead × ℕ) → Owes (split_view m).ins (split_view m).outs (split_view m).rest
split_owes m =
    let lane : Lane = Frames m.0 in
    subst (λ (f : Ports → Ports). Owes (lane ∷ []) (replicate m.1 lane) f) (copied lane m.1)
    (uncut_owed (lane ∷ []) (replicate m.1 lane) (spread_start lane (replicate m.1 lane) (λ q x. x)).rest
    (spread_limited lane lane m.1 (λ q x. x) (λ q lt. copy_valid lane)))

pub channels_owes : (head : StreamHead) → is_sound head ≡ true → Owes (channels_view head).ins (channels_view head).outs (channels_view head).rest
channels_owes (Audio tb rate bits channels codec) k =
    uncut_owed (Frames (Audio tb rate bits channels codec) ∷ []) (replicate channels (Frames (Audio tb rate bits 1 codec)))
    (spread_start (Frames (Audio tb rate bits channels codec)) (replicate channels (Frames (Audio tb rate bits 1 codec))) channel_item).rest
    (spread_limited (Frames (Audio tb rate bits channels codec)) (Frames (Audio tb rate bits 1 codec)) channels channel_item
    (λ q lt. channel_valid tb rate bits channels codec q lt))
channels_owes (Video tb format width height sar_num sar_den) k = cc
