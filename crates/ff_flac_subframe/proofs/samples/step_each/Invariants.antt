use Rattle.std.proofs.Common.{◌≡◌, ◌++◌, ◌<◌, ◌^◌, take, drop, length}
use Rattle.std.specs.List.{All}
use Rattle.ff_flac_subframe.specs.Subframe.{steps, magnitude}
use Rattle.ff_flac_subframe.proofs.samples.step_each.Given as goal

abbrev pub invariant-loop-i : goal.invariant-loop-i
invariant-loop-i l = record {
  len : length l.xs ≡ length l.initial.xs;
  small : All (λ x. magnitude x < 2 ^ 30) (drop l.i l.xs);
  is : take l.i l.xs ++ steps (drop l.i l.xs) ≡ steps l.initial.xs;
}
