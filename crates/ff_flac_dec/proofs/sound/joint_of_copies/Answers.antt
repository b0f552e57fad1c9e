use Rattle.std.proofs.Common.{ℤ, List, sym, subst, arith}
use Rattle.ff_flac_frame.specs.Prediction.{AllInDepth}
use Rattle.ff_flac_frame.proofs.PredictionLemmas.{all_wider}
use Rattle.ff_flac_dec.proofs.sound.joint_of_copies.Goals as goal

pub left_and_right-requires-clause-first : goal.left_and_right-requires-clause-first
left_and_right-requires-clause-first c =
    subst (λ (xs : List ℤ). AllInDepth 25 xs) (sym c.as_slice.ensures.value) (all_wider c.first_depth_of.result 25 c.in_ok-one.one.items (omega (arith, c.first_depth_of.ensures.bound, c.requires.depth_high)) c.in_ok-one.ensures.within)

pub left_and_right-requires-clause-second : goal.left_and_right-requires-clause-second
left_and_right-requires-clause-second c =
    subst (λ (xs : List ℤ). AllInDepth 25 xs) (sym c.as_slice-2.ensures.value) (all_wider c.second_depth_of.result 25 c.in_ok-other.other.items (omega (arith, c.second_depth_of.ensures.bound, c.requires.depth_high)) c.in_ok-other.ensures.within)
