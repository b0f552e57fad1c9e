use Rattle.std.proofs.Common.{◌≡◌, ◌*◌, take, length}
use Rattle.ff_flac_enc.specs.Totals.{samples_bytes}
use Rattle.ff_flac_enc.proofs.counter.write_3.Given as goal

abbrev pub invariant-loop-i : goal.invariant-loop-i
invariant-loop-i l = record {
  len : length l.out ≡ 3 * length l.samples;
  bytes : take (3 * l.i) l.out ≡ samples_bytes 3 (take l.i l.samples);
}
