use Rattle.std.proofs.Common.{◌≤◌, take}
use Rattle.std.specs.List.{All}
use Rattle.ff_flac_subframe.proofs.rice.quotients.greatest.Given as goal

abbrev pub invariant-loop-u : goal.invariant-loop-u
invariant-loop-u l = All (λ u. u ≤ l.most) (take l.u-index l.part)
