use Rattle.std.proofs.Common.{◌≡◌, ◌*◌, ◌+◌, ◌^◌, ◌≤◌, length, map}
use Rattle.std.specs.List.{All}
use Rattle.ff_flac_subframe.specs.rice.Rice.{parts_of, zigzagged}
use Rattle.ff_flac_subframe.proofs.RiceLemmas.Floors.{Floor}
use Rattle.ff_flac_subframe.proofs.rice.floor.least_bits.Given as goal

abbrev pub invariant-loop-left : goal.invariant-loop-left
invariant-loop-left l = record {
  rest : length l.rest ≡ l.left * 16;
  most : All (λ x. zigzagged x ≤ l.most) l.rest;
  short : length l.rest ≤ length l.residuals;
  small : l.bits + l.left * 2 ^ 10 ≤ 2 ^ 19;
  floor : Floor l.bits l.left l.rest (parts_of l.order l.finest (map zigzagged l.residuals));
}

abbrev pub decreases-loop-left : goal.decreases-loop-left
decreases-loop-left l = l.left
