-- Each filter owes what every filter owes.
use Rattle.std.proofs.Common.{◌≡◌, ◌↔◌, false, true, Result, Ok, Err, List, refl, subst}
use Rattle.std.specs.List.{AllByRecursion}
use Rattle.ff_frame.specs.declared.config.ConfigError.{ConfigError}
use Rattle.ff_frame.specs.declared.config.ConfigError.TheVariants.{NoMemory}
use Rattle.ff_frame.specs.declared.head.StreamHead.{StreamHead}
use Rattle.ff_lang.specs.declared.graph.Arg.{Arg}
use Rattle.ff_filter.specs.Options.{is_sound, is_video}
use Rattle.ff_fsync.specs.declared.stacks.shape.Direction.TheVariants.{Beside, Below}
use Rattle.ff_filters.specs.declared.name.FilterName.{FilterName}
use Rattle.ff_filters.specs.declared.name.FilterName.TheVariants as filter
use Rattle.ff_filters.specs.Configured.{Filtered}
use Rattle.ff_filters.specs.Definitions.{definition_of, relation_of}
use Rattle.ff_stream.specs.Ports.{stream_at}
use Rattle.ff_net.specs.Ways.{AreValid}
use Rattle.ff_filter.specs.Joins.{Flow, Ports, all_opened}
use Rattle.ff_node_filter.specs.Limiting.{IsLimited}
use Rattle.ff_filters.specs.limited.Cuts.{cuts_in, IsWithin, PassesLimit, AreStreamHeads}
use Rattle.ff_filters.specs.Makes.{configured_as}
use Rattle.ff_filters.specs.Sources.{color_by, silence_by}
use Rattle.ff_filters.proofs.Refusing.{HasReason}
use Rattle.ff_filters.proofs.Owing.{Gives, Owed, IsKept, kept_by}
use Rattle.ff_filters.proofs.LimitedLemmas.Opening.{opened_limited, cuts_exactly}
use Rattle.ff_filters.proofs.OneOwed.{null_owed, source_owed, trim_owed, setpts_owed, crop_owed, pad_owed, hflip_owed, vflip_owed, fps_owed, atrim_owed}
use Rattle.ff_filters.proofs.ManyOwed.{split_owed, channelsplit_owed, stack_owed, concat_owed, join_owed}

pub owed : (name : FilterName) → Owed (definition_of name) (relation_of name)
owed filter.Null = null_owed false is_video
owed filter.Trim = trim_owed
owed filter.SetPts = setpts_owed false is_video
owed filter.Crop = crop_owed
owed filter.Pad = pad_owed
owed filter.HFlip = hflip_owed
owed filter.VFlip = vflip_owed
owed filter.Fps = fps_owed
owed filter.Split = split_owed false is_video
owed filter.HStack = stack_owed Beside
owed filter.VStack = stack_owed Below
owed filter.Concat = concat_owed
owed filter.ANull = null_owed true is_sound
owed filter.ATrim = atrim_owed
owed filter.ASetPts = setpts_owed true is_sound
owed filter.ASplit = split_owed true is_sound
owed filter.ChannelSplit = channelsplit_owed
owed filter.Join = join_owed
owed filter.Color = source_owed false is_video color_by
owed filter.ANullSrc = source_owed true is_sound silence_by

-- ---- by name

pub gives : (name : FilterName) (args : List Arg) (heads : List StreamHead) (f : Filtered) → configured_as name args heads ≡ Ok f
    → Gives (definition_of name) args heads f
gives name args heads f e = (owed name).gives args heads f e

-- each filter is behind limits
pub limited : (name : FilterName) (args : List Arg) (heads : List StreamHead) (f : Filtered) → AreStreamHeads heads → configured_as name args heads ≡ Ok f
    → IsLimited f.view.ins f.view.outs f.view.rest (cuts_in f.view)
limited name args heads f timed e = opened_limited f.view.ins f.view.outs f.view.rest ((gives name args heads f e).owes timed)

-- what it would give without limits, and that exactly what passes a limit is cut
pub limits_cut : (name : FilterName) (args : List Arg) (heads : List StreamHead) (f : Filtered) → AreStreamHeads heads → configured_as name args heads ≡ Ok f
    → (free : Ports → Ports) × IsWithin f.view.ins f.view.outs f.view.rest free
    × ((ss : List Flow) → AreValid f.view.ins ss → (cuts_in f.view ss ≡ true) ↔ PassesLimit f.view.outs (free (all_opened (stream_at ss))))
limits_cut name args heads f timed e =
    let o = (gives name args heads f e).owes timed in
    (o.free, o.within_limits, λ ss v. cuts_exactly f.view.ins f.view.outs f.view.rest o.free o.within_limits ss v)

-- why a filter is refused is never that there was no memory
pub never_short : (name : FilterName) (args : List Arg) (heads : List StreamHead) → configured_as name args heads ≡ Err NoMemory → ⊥
never_short name args heads e =
    let last : HasReason {X = Filtered} (Err NoMemory) = subst (λ (r : Result Filtered ConfigError). HasReason r) e ((owed name).reason args heads) in
    last refl

-- what is so of the heads of its inputs, is so of those of its outputs
pub kept_too : (P : StreamHead → Type 0) → IsKept P → (name : FilterName) (args : List Arg) (heads : List StreamHead) (f : Filtered) → AllByRecursion P heads
    → configured_as name args heads ≡ Ok f → AllByRecursion P f.outs
kept_too P keeps name args heads f all e = kept_by P keeps (definition_of name) args heads f (gives name args heads f e) all
