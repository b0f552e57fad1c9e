use Rattle.std.proofs.Common.{◌<◌, ◌≤◌}
use Rattle.ff_time.proofs.CommonBases.{Joins}
use Rattle.ff_time.proofs.bases.lowest_common.Given as goal

abbrev pub invariant-bases : goal.invariant-bases
invariant-bases l = record {
  joins : Joins l.common l.i l.bases;
  small : 0 < l.i → (0 < l.common.den) × (l.common.den ≤ 1000000);
}
