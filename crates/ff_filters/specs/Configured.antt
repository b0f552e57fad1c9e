-- What each filter is by its arguments and the heads of its inputs, as a function.
use Rattle.std.specs.Prelude.{ℕ, ◌==◌, nat_le, cond, false, Bool, None, List, [], ◌∷◌, length, Result, Ok, Err}
use Rattle.ff_time.specs.Fraction.{Fraction}
use Rattle.ff_frame.specs.declared.config.ConfigError.{ConfigError}
use Rattle.ff_frame.specs.declared.config.ConfigError.TheVariants.{Pads, Kind, Mismatch, BadSize, BadOption}
use Rattle.ff_frame.specs.declared.head.StreamHead.{StreamHead}
use Rattle.ff_frame.specs.declared.head.StreamHead.TheVariants.{Audio, Video}
use Rattle.ff_frame.specs.Heads.{base_of_head}
use Rattle.ff_lang.specs.declared.graph.Arg.{Arg}
use Rattle.ff_filter.specs.declared.pass.Pass.{Pass}
use Rattle.ff_filter.specs.declared.plain.ExprSettings.{ExprSettings}
use Rattle.ff_filter.specs.declared.rebase.Rebase.{Rebase}
use Rattle.ff_filter.specs.Options.{is_sound, is_video}
use Rattle.ff_filter.specs.Plain.{no_manual, expr_manual}
use Rattle.ff_filter.specs.lasting.Lastings.{trim_manual}
use Rattle.ff_filter.specs.Views.{View}
use Rattle.ff_filter.specs.declared.spread.copies.SplitSettings.{SplitSettings}
use Rattle.ff_filter.specs.spread.Splits.{split_manual}
use Rattle.ff_planes.specs.declared.rectangle.Rectangle.{Rectangle}
use Rattle.ff_vfilter.specs.declared.crop.CropSettings.{CropSettings}
use Rattle.ff_vfilter.specs.declared.pad.PadSettings.{PadSettings}
use Rattle.ff_vfilter.specs.declared.fps.FpsSettings.{FpsSettings}
use Rattle.ff_vfilter.specs.declared.lasting_trim.LastingTrim.{LastingTrim}
use Rattle.ff_vfilter.specs.Sizes.{no_sizes}
use Rattle.ff_vfilter.specs.Crops.{crop_manual, crop_part, can_crop}
use Rattle.ff_vfilter.specs.Pads.{Padded, pad_manual, pad_of, can_pad}
use Rattle.ff_vfilter.specs.FpsOptions.{fps_manual}
use Rattle.ff_afilter.specs.declared.lasting_atrim.LastingATrim.{LastingATrim}
use Rattle.ff_fsync.specs.declared.stacks.options.StackSettings.{StackSettings}
use Rattle.ff_fsync.specs.declared.stacks.shape.Direction.{Direction}
use Rattle.ff_fsync.specs.stacks.Heads.{input_fault, stack_fault}
use Rattle.ff_fsync.specs.stacks.Options.{stack_manual, counted}
use Rattle.ff_fsync.specs.stacks.Stacks.{StackOf, stack_on}
use Rattle.ff_joins.specs.Arguments.{each_head}
use Rattle.ff_concat.specs.Arguments.{concat_manual, concat_set, concat_start}
use Rattle.ff_concat.specs.Configured.{concat_by as segments_by}
use Rattle.ff_joins.specs.JoinOptions.{join_manual, inputs_said, is_like, channels_in, with_channels}
use Rattle.ff_filters.specs.ReadBy.{and_then, unless, read_by, configured_by}
use Rattle.ff_filters.specs.SetBy.{set_none, set_expr, set_crop, set_pad, set_fps, set_split, set_stack, set_join}
use Rattle.ff_filters.specs.Ticks.{TrimTimes, set_trim, ticks_at, in_bits, in_bits-near, range_in}

-- a filter: how it is seen before anything was fed, and the heads of its outputs
pub record Filtered : Type 0 where
  pub view : View
  pub outs : List StreamHead

-- of no option
abbrev pub plain_by : {X : Type 0} → (StreamHead → Bool) → (StreamHead → X) → List Arg → List StreamHead → Result X ConfigError
plain_by wanted of args heads = configured_by wanted no_manual set_none (record {}) (λ head s. Ok (of head)) args heads

abbrev pub pass_by : (StreamHead → Bool) → List Arg → List StreamHead → Result Pass ConfigError
pass_by wanted args heads = plain_by wanted (λ head. record { head = head }) args heads

-- what a head and settings make: the expression has to be given
abbrev pub rebased_as : StreamHead → ExprSettings → Result Rebase ConfigError
rebased_as head s = cond s.given (Ok (record { head = head; first = None })) (Err BadOption)

abbrev pub rebase_by : (StreamHead → Bool) → List Arg → List StreamHead → Result Rebase ConfigError
rebase_by wanted args heads = configured_by wanted expr_manual set_expr (record { given = false }) rebased_as args heads

-- all times from 0 on, and no duration
abbrev pub all_times : TrimTimes
all_times = record { range = record { start = 0; stop = None }; lasting = 0 }

-- a range and a duration in ticks of the head's time base
abbrev pub trim_in : StreamHead → TrimTimes → LastingTrim
trim_in head s = record {
  trim = record { head = head; range = range_in (base_of_head head) s.range };
  lasting = in_bits (ticks_at (base_of_head head) s.lasting);
  near = in_bits-near (ticks_at (base_of_head head) s.lasting);
}

abbrev pub trimmed_as : StreamHead → TrimTimes → Result LastingTrim ConfigError
trimmed_as head s = Ok (trim_in head s)

abbrev pub trim_by : List Arg → List StreamHead → Result LastingTrim ConfigError
trim_by args heads = configured_by is_video trim_manual set_trim all_times trimmed_as args heads

abbrev pub atrim_in : StreamHead → TrimTimes → LastingATrim
atrim_in head s = record {
  trim = record { head = head; range = range_in (base_of_head head) s.range };
  lasting = in_bits (ticks_at (base_of_head head) s.lasting);
  near = in_bits-near (ticks_at (base_of_head head) s.lasting);
}

abbrev pub atrimmed_as : StreamHead → TrimTimes → Result LastingATrim ConfigError
atrimmed_as head s = Ok (atrim_in head s)

abbrev pub atrim_by : List Arg → List StreamHead → Result LastingATrim ConfigError
atrim_by args heads = configured_by is_sound trim_manual set_trim all_times atrimmed_as args heads

abbrev pub cropped_as : StreamHead → CropSettings → Result (StreamHead × Rectangle) ConfigError
cropped_as (Audio tb rate bits channels codec) s = Err BadSize
cropped_as (Video tb format width height sar_num sar_den) s =
    let part = crop_part format width height s in
    cond (can_crop width height part) (Ok (Video tb format width height sar_num sar_den, part)) (Err BadSize)

abbrev pub crop_by : List Arg → List StreamHead → Result (StreamHead × Rectangle) ConfigError
crop_by args heads = configured_by is_video crop_manual set_crop (record { sizes = no_sizes }) cropped_as args heads

abbrev pub padded_as : StreamHead → PadSettings → Result Padded ConfigError
padded_as (Audio tb rate bits channels codec) s = Err BadSize
padded_as (Video tb format width height sar_num sar_den) s =
    let made = pad_of (Video tb format width height sar_num sar_den) format width height s in
    cond (can_pad made) (Ok made) (Err BadSize)

abbrev pub pad_by : List Arg → List StreamHead → Result Padded ConfigError
pad_by args heads = configured_by is_video pad_manual set_pad (record { sizes = no_sizes }) padded_as args heads

abbrev pub paced_as : StreamHead → FpsSettings → Result (StreamHead × Fraction) ConfigError
paced_as head s = Ok (head, s.base)

-- 25 pictures a second where the rate isn't given
abbrev pub fps_by : List Arg → List StreamHead → Result (StreamHead × Fraction) ConfigError
fps_by args heads = configured_by is_video fps_manual set_fps (record { base = record { num = 1; den = 25 } }) paced_as args heads

abbrev pub copied_as : StreamHead → SplitSettings → Result (StreamHead × ℕ) ConfigError
copied_as head s = Ok (head, s.outputs)

abbrev pub split_by : (StreamHead → Bool) → List Arg → List StreamHead → Result (StreamHead × ℕ) ConfigError
split_by wanted args heads = configured_by wanted split_manual set_split (record { outputs = 2 }) copied_as args heads

abbrev pub stacked_as : Direction → List StreamHead → StackSettings → Result StackOf ConfigError
stacked_as d [] s = Err Pads
stacked_as d (h ∷ hs) s = unless (stack_fault d h (h ∷ hs)) (Ok (stack_on d h (h ∷ hs) s.shortest))

abbrev pub stack_by : Direction → List Arg → List StreamHead → Result StackOf ConfigError
stack_by d args heads =
    unless (input_fault (counted false 0 2 args) is_video heads)
    (and_then (stacked_as d heads) (read_by stack_manual set_stack false 0 (record { inputs = 2; shortest = false }) args))

-- what is checked holds, and it is this; else it is refused so
abbrev pub checked : {X : Type 0} → Bool → ConfigError → Result X ConfigError → Result X ConfigError
checked holds e r = cond holds r (Err e)

-- segments of heads, and how many
abbrev pub concat_by : List Arg → List StreamHead → Result (List StreamHead × ℕ) ConfigError
concat_by args heads = segments_by (read_by concat_manual concat_set false 0 (concat_start args) args) args heads

abbrev pub joined_as : List StreamHead → Result StreamHead ConfigError
joined_as [] = Err Pads
joined_as (h ∷ hs) =
    checked (each_head (is_like h) hs) Mismatch (checked (nat_le (channels_in (h ∷ hs)) 8) BadSize (Ok (with_channels h (channels_in (h ∷ hs)))))

abbrev pub join_by : List Arg → List StreamHead → Result StreamHead ConfigError
join_by args heads =
    checked (length heads == inputs_said args) Pads (checked (each_head is_sound heads) Kind
    (and_then (λ s. joined_as heads) (read_by join_manual set_join false 0 (record { inputs = 2 }) args)))

-- a filter that is shown so, with these heads of its outputs; or it is refused
abbrev pub filtered : {X : Type 0} → (X → View) → (X → List StreamHead) → Result X ConfigError → Result Filtered ConfigError
filtered shown outs (Ok m) = Ok (record { view = shown m; outs = outs m })
filtered shown outs (Err e) = Err e
