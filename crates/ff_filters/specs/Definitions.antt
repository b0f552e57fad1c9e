-- The filters that there are: each by one name, as a function and by a relation (ffmpeg-filters).
use Rattle.std.specs.Prelude.{ℕ, Bool, true, false, Option, Some, None, List, [], ◌∷◌, codes, Result}
use Rattle.ff_frame.specs.declared.config.ConfigError.{ConfigError}
use Rattle.ff_frame.specs.declared.head.StreamHead.{StreamHead}
use Rattle.ff_lang.specs.declared.graph.Arg.{Arg}
use Rattle.ff_filter.specs.Options.{is_sound, is_video, IsRefused}
use Rattle.ff_filter.specs.Plain.{IsPass, pass_view, IsRebase, rebase_view}
use Rattle.ff_filter.specs.Views.{View}
use Rattle.ff_filter.specs.laws.spread.Many.{AreMade}
use Rattle.ff_filter.specs.spread.Splits.{split_manual, IsSplit, split_view, split_heads}
use Rattle.ff_vfilter.specs.Trims.{IsTrim, trim_view}
use Rattle.ff_vfilter.specs.Crops.{IsCrop, crop_view, crop_head}
use Rattle.ff_vfilter.specs.Pads.{IsPad, pad_view, pad_head}
use Rattle.ff_vfilter.specs.HFlips.{IsHFlip, hflip_view}
use Rattle.ff_vfilter.specs.VFlips.{IsVFlip, vflip_view}
use Rattle.ff_vfilter.specs.FpsOptions.{IsFps, fps_view, fps_head}
use Rattle.ff_afilter.specs.Trims.{IsATrim, atrim_view}
use Rattle.ff_afilter.specs.Channels.{IsChannelSplit, channels_view, mono_heads}
use Rattle.ff_fsync.specs.declared.stacks.shape.Direction.TheVariants.{Beside, Below}
use Rattle.ff_fsync.specs.stacks.Options.{counted}
use Rattle.ff_fsync.specs.stacks.Stacks.{IsStack, stack_view, head_of}
use Rattle.ff_joins.specs.Arguments.{last_number}
use Rattle.ff_concat.specs.Arguments.{asked, streams_of}
use Rattle.ff_concat.specs.ConcatOptions.{IsConcat, start_view, start_heads}
use Rattle.ff_concat.specs.Pads.{inputs_of, takes_audio}
use Rattle.ff_joins.specs.JoinOptions.{IsJoin, inputs_said}
use Rattle.ff_joins.specs.JoinView.{join_view, head_itself}
use Rattle.ff_source.specs.declared.made.Made.{Made}
use Rattle.ff_filters.specs.declared.name.FilterName.{FilterName}
use Rattle.ff_filters.specs.declared.name.FilterName.TheVariants as filter
use Rattle.ff_filters.specs.Configured.{Filtered, filtered, plain_by, pass_by, rebase_by, trim_by, atrim_by, crop_by, pad_by, fps_by, split_by, stack_by, concat_by, join_by}
use Rattle.ff_filters.specs.Sources.{color_by, silence_by}

-- each filter with its name in a filtergraph
abbrev pub filter_names : List (List ℕ × FilterName)
filter_names =
    (codes "null", filter.Null) ∷
    (codes "trim", filter.Trim) ∷
    (codes "setpts", filter.SetPts) ∷
    (codes "crop", filter.Crop) ∷
    (codes "pad", filter.Pad) ∷
    (codes "hflip", filter.HFlip) ∷
    (codes "vflip", filter.VFlip) ∷
    (codes "fps", filter.Fps) ∷
    (codes "split", filter.Split) ∷
    (codes "hstack", filter.HStack) ∷
    (codes "vstack", filter.VStack) ∷
    (codes "concat", filter.Concat) ∷
    (codes "color", filter.Color) ∷
    (codes "anull", filter.ANull) ∷
    (codes "atrim", filter.ATrim) ∷
    (codes "asetpts", filter.ASetPts) ∷
    (codes "asplit", filter.ASplit) ∷
    (codes "channelsplit", filter.ChannelSplit) ∷
    (codes "join", filter.Join) ∷
    (codes "anullsrc", filter.ANullSrc) ∷
    []

-- what a filter is by its arguments and the heads of its inputs
pub record Definition : Type 0 where
  -- how it is seen before anything was fed, and the heads of its outputs; or why it is refused
  pub by : List Arg → List StreamHead → Result Filtered ConfigError
  -- How many input pads it has. The last argument that says so counts; where it is refused, the number without one.
  pub inputs : List Arg → ℕ
  -- how many output pads it has that may be linked without a label
  pub outputs : List Arg → ℕ
  -- its output pads are as many as its input has channels, and are linked by labels alone
  pub is_apart : Bool
  -- its input pad of this number takes sound; else it takes pictures
  pub takes_sound : List Arg → ℕ → Bool
  -- of a source filter: what its arguments make, which comes to its only input pad
  pub source : Option (List Arg → Result Made ConfigError)

-- how many inputs and outputs it has, whether the outputs are apart, what each input takes, what configures it, how it is seen, and the heads of the outputs
abbrev pub joining : {X : Type 0} → (inputs outputs : List Arg → ℕ) → Bool → (List Arg → ℕ → Bool) → (List Arg → List StreamHead → Result X ConfigError)
    → (List StreamHead → X → View) → (X → List StreamHead) → Definition
joining inputs outputs is_apart takes_sound by shown outs = record {
  by = λ args heads. filtered (shown heads) outs (by args heads);
  inputs = inputs;
  outputs = outputs;
  is_apart = is_apart;
  takes_sound = takes_sound;
  source = None;
}

-- of one output, with its head
abbrev pub merging : {X : Type 0} → (List Arg → ℕ) → (List Arg → ℕ → Bool) → (List Arg → List StreamHead → Result X ConfigError) → (List StreamHead → X → View)
    → (X → StreamHead) → Definition
merging inputs takes_sound by shown head = joining inputs (λ args. 1) false takes_sound by shown (λ m. head m ∷ [])

-- of one input and one output
abbrev pub single : {X : Type 0} → Bool → (List Arg → List StreamHead → Result X ConfigError) → (X → View) → (X → StreamHead) → Definition
single takes_sound by shown head = merging (λ args. 1) (λ args pad. takes_sound) by (λ heads. shown) head

-- of one input and several outputs
abbrev pub sharing : {X : Type 0} → (List Arg → ℕ) → Bool → Bool → (List Arg → List StreamHead → Result X ConfigError) → (X → View) → (X → List StreamHead)
    → Definition
sharing outputs is_apart takes_sound by shown outs = joining (λ args. 1) outputs is_apart (λ args pad. takes_sound) by (λ heads. shown) outs

-- A source filter, whose arguments make its stream. It passes on what comes to it, whatever they say.
abbrev pub made_before : Bool → (StreamHead → Bool) → (List Arg → Result Made ConfigError) → Definition
made_before takes_sound wanted makes = record (single takes_sound (λ args. pass_by wanted []) pass_view (λ m. m.head)) { source = Some makes }

-- the filter of this name
abbrev pub definition_of : FilterName → Definition
definition_of filter.Null = single false (pass_by is_video) pass_view (λ m. m.head)
definition_of filter.Trim = single false trim_by trim_view (λ m. m.trim.head)
definition_of filter.SetPts = single false (rebase_by is_video) rebase_view (λ m. m.head)
definition_of filter.Crop = single false crop_by crop_view crop_head
definition_of filter.Pad = single false pad_by pad_view pad_head
definition_of filter.HFlip = single false (plain_by is_video (λ head. head)) hflip_view (λ head. head)
definition_of filter.VFlip = single false (plain_by is_video (λ head. head)) vflip_view (λ head. head)
definition_of filter.Fps = single false fps_by fps_view fps_head
definition_of filter.Split = sharing (last_number split_manual 0 1 16 2) false false (split_by is_video) split_view split_heads
definition_of filter.HStack = merging (counted false 0 2) (λ args pad. false) (stack_by Beside) (λ heads. stack_view) head_of
definition_of filter.VStack = merging (counted false 0 2) (λ args pad. false) (stack_by Below) (λ heads. stack_view) head_of
definition_of filter.Concat =
    joining (λ args. inputs_of (asked args)) (λ args. streams_of (asked args)) false (λ args. takes_audio (asked args)) concat_by (λ heads. start_view) start_heads
definition_of filter.ANull = single true (pass_by is_sound) pass_view (λ m. m.head)
definition_of filter.ATrim = single true atrim_by atrim_view (λ m. m.trim.head)
definition_of filter.ASetPts = single true (rebase_by is_sound) rebase_view (λ m. m.head)
definition_of filter.ASplit = sharing (last_number split_manual 0 1 16 2) false true (split_by is_sound) split_view split_heads
definition_of filter.ChannelSplit = sharing (λ args. 0) true true (plain_by is_sound (λ head. head)) channels_view mono_heads
definition_of filter.Join = merging inputs_said (λ args pad. true) join_by join_view head_itself
definition_of filter.Color = made_before false is_video color_by
definition_of filter.ANullSrc = made_before true is_sound silence_by

-- ---- the same by relations, which say what an argument is and not how it is read

pub record Relation : Type 1 where
  -- with these arguments, on streams of these heads: how it is seen before anything was fed, and the heads of its outputs
  pub Makes : List Arg → List StreamHead → View → List StreamHead → Type 0
  -- there was no memory, or it refuses the arguments and heads so
  pub Refuses : List Arg → List StreamHead → ConfigError → Type 0

-- of several outputs: who is configured so, how it is seen, and the heads of the outputs
abbrev pub several : {X : Type 0} → (List Arg → List StreamHead → Result X ConfigError → Type 0) → (List StreamHead → X → View) → (X → List StreamHead) → Relation
several is shown outs = record {
  Makes = λ args heads v hs. AreMade (is args heads) (shown heads) outs v hs;
  Refuses = λ args heads e. IsRefused (is args heads) e;
}

-- of one output
abbrev pub one : {X : Type 0} → (List Arg → List StreamHead → Result X ConfigError → Type 0) → (List StreamHead → X → View) → (X → StreamHead) → Relation
one is shown head = several is shown (λ m. head m ∷ [])

-- of a source filter
abbrev pub passed : (StreamHead → Bool) → Relation
passed wanted = one (λ args. IsPass wanted []) (λ heads. pass_view) (λ m. m.head)

abbrev pub relation_of : FilterName → Relation
relation_of filter.Null = one (IsPass is_video) (λ heads. pass_view) (λ m. m.head)
relation_of filter.Trim = one IsTrim (λ heads. trim_view) (λ m. m.trim.head)
relation_of filter.SetPts = one (IsRebase is_video) (λ heads. rebase_view) (λ m. m.head)
relation_of filter.Crop = one IsCrop (λ heads. crop_view) crop_head
relation_of filter.Pad = one IsPad (λ heads. pad_view) pad_head
relation_of filter.HFlip = one IsHFlip (λ heads. hflip_view) (λ head. head)
relation_of filter.VFlip = one IsVFlip (λ heads. vflip_view) (λ head. head)
relation_of filter.Fps = one IsFps (λ heads. fps_view) fps_head
relation_of filter.Split = several (IsSplit is_video) (λ heads. split_view) split_heads
relation_of filter.HStack = one (IsStack Beside) (λ heads. stack_view) head_of
relation_of filter.VStack = one (IsStack Below) (λ heads. stack_view) head_of
relation_of filter.Concat = several IsConcat (λ heads. start_view) start_heads
relation_of filter.ANull = one (IsPass is_sound) (λ heads. pass_view) (λ m. m.head)
relation_of filter.ATrim = one IsATrim (λ heads. atrim_view) (λ m. m.trim.head)
relation_of filter.ASetPts = one (IsRebase is_sound) (λ heads. rebase_view) (λ m. m.head)
relation_of filter.ASplit = several (IsSplit is_sound) (λ heads. split_view) split_heads
relation_of filter.ChannelSplit = several IsChannelSplit (λ heads. channels_view) mono_heads
relation_of filter.Join = one IsJoin join_view head_itself
relation_of filter.Color = passed is_video
relation_of filter.ANullSrc = passed is_sound
