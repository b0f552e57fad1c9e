-- What filters keep of heads: that they are of streams that can follow one another, and that sound has a channel.
use Rattle.std.proofs.Common.{◌≡◌, ℕ, ◌≤◌, nat_le, true, List, [], ◌∷◌, arith}
use Rattle.std.specs.List.{All, AllByRecursion}
use Rattle.std.proofs.lemmas.Bool.Decides.{nat_tests}
use Rattle.std.proofs.lemmas.List.Elements.{All-nil, All-cons}
use Rattle.ff_time.specs.Fraction.{Fraction, IsBase}
use Rattle.ff_frame.specs.declared.head.StreamHead.{StreamHead}
use Rattle.ff_frame.specs.declared.head.StreamHead.TheVariants.{Audio, Video}
use Rattle.ff_frame.specs.Heads.{base_of_head}
use Rattle.ff_vfilter.specs.Sizes.{sized}
use Rattle.ff_vfilter.specs.FpsOptions.{fps_head}
use Rattle.ff_afilter.specs.Channels.{mono_head}
use Rattle.ff_fsync.specs.declared.stacks.shape.Direction.{Direction}
use Rattle.ff_fsync.specs.declared.stacks.shape.Direction.TheVariants.{Beside, Below}
use Rattle.ff_fsync.specs.stacks.Bases.{bases_of, in_common}
use Rattle.ff_fsync.specs.stacks.Heads.{with_length}
use Rattle.ff_fsync.proofs.StacksLemmas.Exact.{in_common_based}
use Rattle.ff_joins.specs.JoinOptions.{channels_in, with_channels}
use Rattle.ff_concat.specs.laws.Fed.{TakesZeros, CanFollow}
use Rattle.ff_filters.proofs.Owing.{IsKept}
use Rattle.ff_graph.specs.composed.Pads.{HasChannel}

-- ---- time bases

abbrev IsTimed : StreamHead → Type 0
IsTimed h = IsBase (base_of_head h)

each_timed : (heads : List StreamHead) → AllByRecursion CanFollow heads → AllByRecursion IsTimed heads
each_timed [] all = tt
each_timed (h ∷ hs) all = (all.0.base, each_timed hs all.1)

sized_timed : (h : StreamHead) (w x : ℕ) → IsTimed h → IsTimed (sized h w x)
sized_timed (Audio tb rate bits channels codec) w x t = t
sized_timed (Video tb format width height sar_num sar_den) w x t = t

paced_timed : (h : StreamHead) (base : Fraction) → IsBase base → IsTimed h → IsTimed (fps_head (h, base))
paced_timed (Audio tb rate bits channels codec) base b t = b
paced_timed (Video tb format width height sar_num sar_den) base b t = b

mono_timed : (h : StreamHead) → IsTimed h → IsTimed (mono_head h)
mono_timed (Audio tb rate bits channels codec) t = t
mono_timed (Video tb format width height sar_num sar_den) t = t

all_based : (heads : List StreamHead) → AllByRecursion IsTimed heads → All IsBase (bases_of heads)
all_based [] all = All-nil IsBase
all_based (h ∷ hs) all = All-cons IsBase (base_of_head h) (bases_of hs) all.0 (all_based hs all.1)

longer_timed : (d : Direction) (n : ℕ) (h : StreamHead) (hs : List StreamHead) → AllByRecursion IsTimed (h ∷ hs) → IsTimed (with_length d n (in_common (h ∷ hs) h))
longer_timed Beside n (Audio tb rate bits channels codec) hs all = in_common_based (Audio tb rate bits channels codec) hs (all_based (Audio tb rate bits channels codec ∷ hs) all)
longer_timed Below n (Audio tb rate bits channels codec) hs all = in_common_based (Audio tb rate bits channels codec) hs (all_based (Audio tb rate bits channels codec ∷ hs) all)
longer_timed Beside n (Video tb format width height sar_num sar_den) hs all =
    in_common_based (Video tb format width height sar_num sar_den) hs (all_based (Video tb format width height sar_num sar_den ∷ hs) all)
longer_timed Below n (Video tb format width height sar_num sar_den) hs all =
    in_common_based (Video tb format width height sar_num sar_den) hs (all_based (Video tb format width height sar_num sar_den ∷ hs) all)

joined_timed : (h : StreamHead) (hs : List StreamHead) → IsTimed h → IsTimed (with_channels h (channels_in (h ∷ hs)))
joined_timed (Audio tb rate bits channels codec) hs t = t
joined_timed (Video tb format width height sar_num sar_den) hs t = t

-- ---- zeros of audio

sized_zeros : (h : StreamHead) (w x : ℕ) → TakesZeros h → TakesZeros (sized h w x)
sized_zeros (Audio tb rate bits channels codec) w x z = z
sized_zeros (Video tb format width height sar_num sar_den) w x z = tt

paced_zeros : (h : StreamHead) (base : Fraction) → TakesZeros h → TakesZeros (fps_head (h, base))
paced_zeros (Audio tb rate bits channels codec) base z = z
paced_zeros (Video tb format width height sar_num sar_den) base z = tt

mono_zeros : (h : StreamHead) → TakesZeros h → TakesZeros (mono_head h)
mono_zeros (Audio tb rate bits channels codec) z = (omega arith, omega arith, z.2, z.3)
mono_zeros (Video tb format width height sar_num sar_den) z = tt

longer_zeros : (d : Direction) (n : ℕ) (h : StreamHead) (hs : List StreamHead) → TakesZeros h → TakesZeros (with_length d n (in_common (h ∷ hs) h))
longer_zeros Beside n (Audio tb rate bits channels codec) hs z = z
longer_zeros Below n (Audio tb rate bits channels codec) hs z = z
longer_zeros Beside n (Video tb format width height sar_num sar_den) hs z = tt
longer_zeros Below n (Video tb format width height sar_num sar_den) hs z = tt

joined_zeros : (h : StreamHead) (hs : List StreamHead) → nat_le (channels_in (h ∷ hs)) 8 ≡ true → TakesZeros h → TakesZeros (with_channels h (channels_in (h ∷ hs)))
joined_zeros (Audio tb rate bits channels codec) hs few z = ((let some : 1 ≤ channels = z.0 in omega (arith, some)), grind (arith, nat_tests), z.2, z.3)
joined_zeros (Video tb format width height sar_num sar_den) hs few z = tt

pub follows_is_kept : IsKept CanFollow
follows_is_kept = record {
  sized_too = λ h w x c. record { base = sized_timed h w x c.base; zeros = sized_zeros h w x c.zeros };
  paced_too = λ h base b c. record { base = paced_timed h base b c.base; zeros = paced_zeros h base c.zeros };
  mono_too = λ h c. record { base = mono_timed h c.base; zeros = mono_zeros h c.zeros };
  longer_too = λ d n h hs all. record { base = longer_timed d n h hs (each_timed (h ∷ hs) all); zeros = longer_zeros d n h hs all.0.zeros };
  joined_too = λ h hs few c. record { base = joined_timed h hs c.base; zeros = joined_zeros h hs few c.zeros };
}

-- ---- channels

sized_heard : (h : StreamHead) (w x : ℕ) → HasChannel h → HasChannel (sized h w x)
sized_heard (Audio tb rate bits channels codec) w x t = t
sized_heard (Video tb format width height sar_num sar_den) w x t = tt

paced_heard : (h : StreamHead) (base : Fraction) → IsBase base → HasChannel h → HasChannel (fps_head (h, base))
paced_heard (Audio tb rate bits channels codec) base b t = t
paced_heard (Video tb format width height sar_num sar_den) base b t = tt

mono_heard : (h : StreamHead) → HasChannel h → HasChannel (mono_head h)
mono_heard (Audio tb rate bits channels codec) t = omega arith
mono_heard (Video tb format width height sar_num sar_den) t = tt

longer_heard : (d : Direction) (n : ℕ) (h : StreamHead) (hs : List StreamHead) → AllByRecursion HasChannel (h ∷ hs) → HasChannel (with_length d n (in_common (h ∷ hs) h))
longer_heard Beside n (Audio tb rate bits channels codec) hs all = all.0
longer_heard Below n (Audio tb rate bits channels codec) hs all = all.0
longer_heard Beside n (Video tb format width height sar_num sar_den) hs all = tt
longer_heard Below n (Video tb format width height sar_num sar_den) hs all = tt

joined_heard : (h : StreamHead) (hs : List StreamHead) → HasChannel h → HasChannel (with_channels h (channels_in (h ∷ hs)))
joined_heard (Audio tb rate bits channels codec) hs t = (let some : 1 ≤ channels = t in omega (arith, some))
joined_heard (Video tb format width height sar_num sar_den) hs t = tt

pub heard_is_kept : IsKept HasChannel
heard_is_kept = record { sized_too = sized_heard; paced_too = paced_heard; mono_too = mono_heard; longer_too = longer_heard; joined_too = λ h hs few t. joined_heard h hs t }
