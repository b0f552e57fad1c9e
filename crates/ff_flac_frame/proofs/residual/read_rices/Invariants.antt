use Rattle.std.proofs.Common.{◌≡◌, ◌+◌, ◌≤◌, vec_len, vec_capacity}
use Rattle.ff_bits.specs.Reading.{times}
use Rattle.ff_flac_frame.specs.Frame.{rice}
use Rattle.ff_flac_frame.specs.laws.Front.{with_front}
use Rattle.ff_flac_frame.proofs.residual.read_rices.Given as goal

abbrev pub invariant-loop-left : goal.invariant-loop-left
invariant-loop-left l = record {
  read : with_front l.out.items (times l.left (rice l.k) l.near) ≡ with_front l.fn.out.items (times l.count (rice l.k) l.fn.reader);
  room : vec_len l.out + l.left ≤ vec_capacity l.out;
}

abbrev pub decreases-loop-left : goal.decreases-loop-left
decreases-loop-left l = l.left
