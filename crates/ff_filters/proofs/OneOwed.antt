-- What each filter of one input and one output owes.
use Rattle.std.proofs.Common.{◌≡◌, Bool, false, true, None, Result, Ok, Err, List, [], ◌∷◌, refl, sym, ap, subst, lit<}
use Rattle.ff_time.specs.Fraction.{IsBase, IsBase-unit}
use Rattle.ff_frame.specs.declared.config.ConfigError.{ConfigError}
use Rattle.ff_frame.specs.declared.config.ConfigError.TheVariants.{BadSize, BadOption}
use Rattle.ff_frame.specs.declared.head.StreamHead.{StreamHead}
use Rattle.ff_frame.specs.declared.head.StreamHead.TheVariants.{Audio, Video}
use Rattle.ff_stream.specs.declared.item.Lane.TheVariants.{Frames}
use Rattle.ff_lang.specs.declared.graph.Arg.{Arg}
use Rattle.ff_filter.specs.Options.{is_sound, is_video}
use Rattle.ff_filter.specs.declared.pass.Pass.{Pass}
use Rattle.ff_filter.specs.declared.plain.ExprSettings.{ExprSettings}
use Rattle.ff_filter.specs.declared.rebase.Rebase.{Rebase}
use Rattle.ff_filter.specs.Plain.{expr_manual, IsPass, pass_view, IsRebase, rebase_view}
use Rattle.ff_filter.specs.lasting.Lastings.{trim_manual}
use Rattle.ff_planes.specs.declared.rectangle.Rectangle.{Rectangle}
use Rattle.ff_vfilter.specs.declared.crop.CropSettings.{CropSettings}
use Rattle.ff_vfilter.specs.declared.pad.PadSettings.{PadSettings}
use Rattle.ff_vfilter.specs.declared.fps.FpsSettings.{FpsSettings}
use Rattle.ff_vfilter.specs.Sizes.{no_sizes}
use Rattle.ff_vfilter.specs.Trims.{IsTrim, trim_view}
use Rattle.ff_vfilter.specs.Crops.{crop_manual, crop_part, can_crop, IsCrop, crop_view, crop_head}
use Rattle.ff_vfilter.specs.Pads.{Padded, pad_manual, pad_of, can_pad, IsPad, pad_view, pad_head}
use Rattle.ff_vfilter.specs.HFlips.{IsHFlip, hflip_view}
use Rattle.ff_vfilter.specs.VFlips.{IsVFlip, vflip_view}
use Rattle.ff_vfilter.specs.FpsOptions.{fps_manual, IsFps, fps_view, fps_head}
use Rattle.ff_afilter.specs.Trims.{IsATrim, atrim_view}
use Rattle.ff_source.specs.declared.made.Made.{Made}
use Rattle.ff_filters.specs.declared.name.FilterName.TheVariants as filter
use Rattle.ff_filters.specs.SetBy.{set_expr, set_crop, set_pad, set_fps}
use Rattle.ff_filters.specs.Ticks.{set_trim}
use Rattle.ff_filters.specs.Configured.{plain_by, rebased_as, rebase_by, all_times, trim_in, atrim_in, cropped_as, padded_as}
use Rattle.ff_filters.specs.Definitions.{single, made_before, one, passed, definition_of, relation_of}
use Rattle.ff_filters.proofs.Agreeing.{plain_is, rebase_is, trim_is, atrim_is, crop_is, pad_is, fps_is}
use Rattle.ff_filters.proofs.Refusing.{cropped-so, padded-so, if_so}
use Rattle.ff_filters.proofs.Parting.{if_ok}
use Rattle.ff_filters.proofs.Settings.{same_ok, rate_keeps}
use Rattle.ff_filters.proofs.Owing.{Becomes, itself, resized, paced, Owed}
use Rattle.ff_filters.proofs.Singles.{IsSingle, single_owed, sure_owed, free_owed, plain_owed}
use Rattle.ff_filters.proofs.LimitedLemmas.Ones.{pass_owes, rebase_owes, trim_owes, atrim_owes, hflip_owes, vflip_owes, crop_owes, pad_owes, fps_owes}

abbrev pass_of : StreamHead → Pass
pass_of head = record { head = head }

pub null_owed : (takes_sound : Bool) (wanted : StreamHead → Bool) → Owed (single takes_sound (plain_by wanted pass_of) pass_view (λ m. m.head)) (one (IsPass wanted) (λ heads. pass_view) (λ m. m.head))
null_owed takes_sound wanted = plain_owed takes_sound wanted (IsPass wanted) pass_of pass_view (λ m. m.head) (plain_is wanted pass_of)
    (λ h k. record {
      ins = refl;
      outs = refl;
      new = record { shut = λ p. refl; ended = λ q. refl; stopped = λ q. refl };
      owes = pass_owes (pass_of h);
      becomes = itself h [];
    })

-- a source filter passes on what comes to it, as one does that has no arguments
pub source_owed : (takes_sound : Bool) (wanted : StreamHead → Bool) (makes : List Arg → Result Made ConfigError) → Owed (made_before takes_sound wanted makes) (passed wanted)
source_owed takes_sound wanted makes =
    let plain = null_owed takes_sound wanted in record {
      made = λ args. plain.made [];
      refused = λ args. plain.refused [];
      reason = λ args. plain.reason [];
      inputs = λ args. plain.inputs [];
      outputs = λ args. plain.outputs [];
      gives = λ args heads f e. let g = plain.gives [] heads f e in record {
        first = g.first;
        others = g.others;
        fed = g.fed;
        ins = g.ins;
        outs = g.outs;
        new = g.new;
        owes = g.owes;
        become = g.become;
        count = g.count;
      };
    }

pub trim_owed : Owed (definition_of filter.Trim) (relation_of filter.Trim)
trim_owed = free_owed false is_video IsTrim trim_manual set_trim all_times trim_in trim_view (λ m. m.trim.head) trim_is
    (λ h u k. record {
      ins = refl;
      outs = refl;
      new = record { shut = λ p. refl; ended = λ q. refl; stopped = λ q. refl };
      owes = trim_owes (trim_in h u);
      becomes = itself h [];
    })

pub atrim_owed : Owed (definition_of filter.ATrim) (relation_of filter.ATrim)
atrim_owed = free_owed true is_sound IsATrim trim_manual set_trim all_times atrim_in atrim_view (λ m. m.trim.head) atrim_is
    (λ h u k. record {
      ins = refl;
      outs = refl;
      new = record { shut = λ p. refl; ended = λ q. refl; stopped = λ q. refl };
      owes = atrim_owes (atrim_in h u) k;
      becomes = itself h [];
    })

rebase_single : (h : StreamHead) (u : ExprSettings) (m : Rebase) → rebased_as h u ≡ Ok m → IsSingle h (rebase_view m) m.head
rebase_single h u m e =
    let k = if_ok u.given (Ok (record { head = h; first = None })) BadOption m e in
    subst (λ (n : Rebase). IsSingle h (rebase_view n) n.head) (same_ok (record { head = h; first = None }) m k.1)
    (record {
      ins = refl;
      outs = refl;
      new = record { shut = λ p. refl; ended = λ q. refl; stopped = λ q. refl };
      owes = rebase_owes (record { head = h; first = None });
      becomes = itself h [];
    })

pub setpts_owed : (takes_sound : Bool) (wanted : StreamHead → Bool) → Owed (single takes_sound (rebase_by wanted) rebase_view (λ m. m.head))
    (one (IsRebase wanted) (λ heads. rebase_view) (λ m. m.head))
setpts_owed takes_sound wanted =
    single_owed takes_sound wanted (IsRebase wanted) expr_manual set_expr (record { given = false }) rebased_as rebase_view (λ m. m.head) (rebase_is wanted)
    (λ h u. if_so u.given (Ok (record { head = h; first = None })) (Err BadOption) tt (λ e. cc)) (λ u. Unit {0}) tt (λ u option value w f e. tt)
    (λ h u m k f e. rebase_single h u m e)

crop_keeps : (h : StreamHead) (u : CropSettings) (m : StreamHead × Rectangle) → cropped_as h u ≡ Ok m → h ≡ m.0
crop_keeps (Audio tb rate bits channels codec) u m e = cc
crop_keeps (Video tb format width height sar_num sar_den) u m e =
    let part = crop_part format width height u in
    let k = if_ok (can_crop width height part) (Ok (Video tb format width height sar_num sar_den, part)) BadSize m e in
    ap (λ (x : StreamHead × Rectangle). x.0) (same_ok (Video tb format width height sar_num sar_den, part) m k.1)

pub crop_owed : Owed (definition_of filter.Crop) (relation_of filter.Crop)
crop_owed = single_owed false is_video IsCrop crop_manual set_crop (record { sizes = no_sizes }) cropped_as crop_view crop_head crop_is cropped-so
    (λ u. Unit {0}) tt (λ u option value w f e. tt)
    (λ h u m k f e. record {
      ins = ap (λ (x : StreamHead). Frames x ∷ []) (sym (crop_keeps h u m e));
      outs = refl;
      new = record { shut = λ p. refl; ended = λ q. refl; stopped = λ q. refl };
      owes = crop_owes h u m e;
      becomes = subst (λ (x : StreamHead). Becomes (x ∷ []) (crop_head m)) (sym (crop_keeps h u m e)) (resized m.0 [] m.1.width m.1.height);
    })

pad_keeps : (h : StreamHead) (u : PadSettings) (m : Padded) → padded_as h u ≡ Ok m → h ≡ m.head
pad_keeps (Audio tb rate bits channels codec) u m e = cc
pad_keeps (Video tb format width height sar_num sar_den) u m e =
    let made = pad_of (Video tb format width height sar_num sar_den) format width height u in
    let k = if_ok (can_pad made) (Ok made) BadSize m e in
    ap (λ (x : Padded). x.head) (same_ok made m k.1)

pub pad_owed : Owed (definition_of filter.Pad) (relation_of filter.Pad)
pad_owed = single_owed false is_video IsPad pad_manual set_pad (record { sizes = no_sizes }) padded_as pad_view pad_head pad_is padded-so
    (λ u. Unit {0}) tt (λ u option value w f e. tt)
    (λ h u m k f e. record {
      ins = ap (λ (x : StreamHead). Frames x ∷ []) (sym (pad_keeps h u m e));
      outs = refl;
      new = record { shut = λ p. refl; ended = λ q. refl; stopped = λ q. refl };
      owes = pad_owes h u m e;
      becomes = subst (λ (x : StreamHead). Becomes (x ∷ []) (pad_head m)) (sym (pad_keeps h u m e)) (resized m.head [] m.width m.height);
    })

pub hflip_owed : Owed (definition_of filter.HFlip) (relation_of filter.HFlip)
hflip_owed = plain_owed false is_video IsHFlip (λ h. h) hflip_view (λ h. h) (plain_is is_video (λ h. h))
    (λ h k. record {
      ins = refl;
      outs = refl;
      new = record { shut = λ p. refl; ended = λ q. refl; stopped = λ q. refl };
      owes = hflip_owes h k;
      becomes = itself h [];
    })

pub vflip_owed : Owed (definition_of filter.VFlip) (relation_of filter.VFlip)
vflip_owed = plain_owed false is_video IsVFlip (λ h. h) vflip_view (λ h. h) (plain_is is_video (λ h. h))
    (λ h k. record {
      ins = refl;
      outs = refl;
      new = record { shut = λ p. refl; ended = λ q. refl; stopped = λ q. refl };
      owes = vflip_owes h k;
      becomes = itself h [];
    })

pub fps_owed : Owed (definition_of filter.Fps) (relation_of filter.Fps)
fps_owed = sure_owed false is_video IsFps fps_manual set_fps (record { base = record { num = 1; den = 25 } }) (λ h u. (h, u.base)) fps_view fps_head fps_is
    (λ (u : FpsSettings). IsBase u.base) (IsBase-unit 25 (lit< tt) (lit< tt)) rate_keeps
    (λ h u k base. record {
      ins = refl;
      outs = refl;
      new = record { shut = λ p. refl; ended = λ q. refl; stopped = λ q. refl };
      owes = fps_owes h u.base k;
      becomes = paced h [] u.base base;
    })
