use Rattle.std.proofs.Common.{◌≡◌, ◌++◌, ◌*◌, ◌≤◌, length}
use Rattle.std.specs.List.{flat_map}
use Rattle.ff_flac_subframe.specs.rice.Rice.{pieces, residual_bits, best_at}
use Rattle.ff_flac_subframe.proofs.RiceLemmas.Writing.{part_bits}
use Rattle.ff_flac_subframe.proofs.rice.write.write_residual.Given as goal

abbrev pub invariant-loop-left : goal.invariant-loop-left
invariant-loop-left l = record {
  rest : length l.rest ≡ l.left * l.size;
  short : length l.rest ≤ length l.us;
  out : l.out ++ flat_map (part_bits l.method) (pieces l.left l.size l.rest) ≡ l.fn.out ++ residual_bits l.order (best_at l.order l.method l.partition_order l.us) l.us;
}

abbrev pub decreases-loop-left : goal.decreases-loop-left
decreases-loop-left l = l.left
