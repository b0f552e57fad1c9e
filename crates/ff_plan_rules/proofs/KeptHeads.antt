-- What every filter keeps of heads.
use Rattle.std.proofs.Common.{◌≡◌, ℕ, ◌≤◌, nat_le, true, List, [], ◌∷◌, arith}
use Rattle.std.specs.List.{All, AllByRecursion}
use Rattle.std.proofs.lemmas.Bool.Decides.{nat_tests}
use Rattle.std.proofs.lemmas.List.Elements.{All-nil, All-cons}
use Rattle.ff_time.specs.Fraction.{Fraction, IsBase}
use Rattle.ff_frame.specs.Heads.{base_of_head}
use Rattle.ff_frame.specs.declared.head.StreamHead.{StreamHead}
use Rattle.ff_frame.specs.declared.head.StreamHead.TheVariants.{Audio, Video}
use Rattle.ff_stream.specs.Times.{with_base}
use Rattle.ff_vfilter.specs.Sizes.{sized}
use Rattle.ff_vfilter.specs.FpsOptions.{fps_head}
use Rattle.ff_afilter.specs.Channels.{mono_head}
use Rattle.ff_fsync.specs.declared.stacks.shape.Direction.{Direction}
use Rattle.ff_fsync.specs.declared.stacks.shape.Direction.TheVariants.{Beside, Below}
use Rattle.ff_fsync.specs.stacks.Bases.{bases_of, in_common}
use Rattle.ff_fsync.specs.stacks.Heads.{with_length}
use Rattle.ff_fsync.proofs.StacksLemmas.Exact.{in_common_based}
use Rattle.ff_joins.specs.JoinOptions.{channels_in, with_channels}
use Rattle.ff_filters.proofs.Owing.{IsKept}
use Rattle.ff_words.specs.declared.job.OutputJob.{OutputJob}
use Rattle.ff_plan_layout.specs.Streams.{takes_head}
use Rattle.ff_plan_rules.specs.Kept.{IsFitHead}

-- ---- fit heads

sized_fit : (h : StreamHead) (w k : ℕ) → IsFitHead h → IsFitHead (sized h w k)
sized_fit (Audio tb rate bits channels codec) w k fit = fit
sized_fit (Video tb format width height sar_num sar_den) w k fit = record { base = fit.base; channels = tt; bits = tt }

paced_fit : (h : StreamHead) (b : Fraction) → IsBase b → IsFitHead h → IsFitHead (fps_head (h, b))
paced_fit (Audio tb rate bits channels codec) b base fit = record { base = base; channels = fit.channels; bits = fit.bits }
paced_fit (Video tb format width height sar_num sar_den) b base fit = record { base = base; channels = tt; bits = tt }

mono_fit : (h : StreamHead) → IsFitHead h → IsFitHead (mono_head h)
mono_fit (Audio tb rate bits channels codec) fit = record { base = fit.base; channels = (omega arith, omega arith); bits = fit.bits }
mono_fit (Video tb format width height sar_num sar_den) fit = fit

all_based : (heads : List StreamHead) → AllByRecursion IsFitHead heads → All IsBase (bases_of heads)
all_based [] all = All-nil IsBase
all_based (h ∷ hs) all = All-cons IsBase (base_of_head h) (bases_of hs) all.0.base (all_based hs all.1)

long_fit : (d : Direction) (n : ℕ) (h : StreamHead) (hs : List StreamHead) → AllByRecursion IsFitHead (h ∷ hs) → IsFitHead (with_length d n (in_common (h ∷ hs) h))
long_fit d n h hs all = at d h (in_common_based h hs (all_based (h ∷ hs) all)) all.0
  where
    at : (e : Direction) (k : StreamHead) {c : Fraction} → IsBase c → IsFitHead k → IsFitHead (with_length e n (with_base c k))
    at Beside (Audio tb rate bits channels codec) base fit = record { base = base; channels = fit.channels; bits = fit.bits }
    at Below (Audio tb rate bits channels codec) base fit = record { base = base; channels = fit.channels; bits = fit.bits }
    at Beside (Video tb format width height sar_num sar_den) base fit = record { base = base; channels = tt; bits = tt }
    at Below (Video tb format width height sar_num sar_den) base fit = record { base = base; channels = tt; bits = tt }

joined_fit : (h : StreamHead) (hs : List StreamHead) → nat_le (channels_in (h ∷ hs)) 8 ≡ true → IsFitHead h → IsFitHead (with_channels h (channels_in (h ∷ hs)))
joined_fit (Audio tb rate bits channels codec) hs few fit =
    let some : 1 ≤ channels = fit.channels.0 in
    record { base = fit.base; channels = (omega (arith, some), grind (arith, nat_tests)); bits = fit.bits }
joined_fit (Video tb format width height sar_num sar_den) hs few fit = record { base = fit.base; channels = tt; bits = tt }

pub fit_is_kept : IsKept IsFitHead
fit_is_kept = record { sized_too = sized_fit; paced_too = paced_fit; mono_too = mono_fit; longer_too = long_fit; joined_too = joined_fit }

-- ---- whether an output takes them

sized_taken : (out : OutputJob) (h : StreamHead) (w k : ℕ) → takes_head out h ≡ true → takes_head out (sized h w k) ≡ true
sized_taken out (Audio tb rate bits channels codec) w k e = e
sized_taken out (Video tb format width height sar_num sar_den) w k e = e

paced_taken : (out : OutputJob) (h : StreamHead) (b : Fraction) → IsBase b → takes_head out h ≡ true → takes_head out (fps_head (h, b)) ≡ true
paced_taken out (Audio tb rate bits channels codec) b base e = e
paced_taken out (Video tb format width height sar_num sar_den) b base e = e

mono_taken : (out : OutputJob) (h : StreamHead) → takes_head out h ≡ true → takes_head out (mono_head h) ≡ true
mono_taken out (Audio tb rate bits channels codec) e = e
mono_taken out (Video tb format width height sar_num sar_den) e = e

long_taken : (out : OutputJob) (d : Direction) (n : ℕ) (h : StreamHead) (hs : List StreamHead) → AllByRecursion (λ k. takes_head out k ≡ true) (h ∷ hs)
    → takes_head out (with_length d n (in_common (h ∷ hs) h)) ≡ true
long_taken out Beside n (Audio tb rate bits channels codec) hs all = all.0
long_taken out Below n (Audio tb rate bits channels codec) hs all = all.0
long_taken out Beside n (Video tb format width height sar_num sar_den) hs all = all.0
long_taken out Below n (Video tb format width height sar_num sar_den) hs all = all.0

joined_taken : (out : OutputJob) (h : StreamHead) (hs : List StreamHead) → nat_le (channels_in (h ∷ hs)) 8 ≡ true → takes_head out h ≡ true
    → takes_head out (with_channels h (channels_in (h ∷ hs))) ≡ true
joined_taken out (Audio tb rate bits channels codec) hs few e = e
joined_taken out (Video tb format width height sar_num sar_den) hs few e = e

pub taken_is_kept : (out : OutputJob) → IsKept (λ h. takes_head out h ≡ true)
taken_is_kept out = record {
  sized_too = sized_taken out;
  paced_too = paced_taken out;
  mono_too = mono_taken out;
  longer_too = long_taken out;
  joined_too = joined_taken out;
}
