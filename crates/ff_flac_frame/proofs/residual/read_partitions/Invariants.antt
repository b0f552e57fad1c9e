use Rattle.std.proofs.Common.{◌≡◌, ◌-◌}
use Rattle.ff_flac_frame.specs.Frame.{partitions}
use Rattle.ff_flac_frame.specs.laws.Front.{with_front}
use Rattle.ff_flac_frame.specs.laws.Restoring.{Follows}
use Rattle.ff_flac_frame.proofs.residual.read_partitions.Given as goal

abbrev pub invariant-loop-i : goal.invariant-loop-i
invariant-loop-i l = record {
  read : with_front l.out.items (partitions (l.n - l.i) l.w l.count l.reader) ≡ with_front l.fn.out.items (partitions l.n l.w l.count l.fn.reader);
  follows : Follows l.predictor l.restoring l.out.items;
}
