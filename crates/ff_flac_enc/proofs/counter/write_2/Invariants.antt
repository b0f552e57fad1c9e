use Rattle.std.proofs.Common.{◌≡◌, ◌*◌, take, length}
use Rattle.ff_flac_enc.specs.Totals.{samples_bytes}
use Rattle.ff_flac_enc.proofs.counter.write_2.Given as goal

abbrev pub invariant-loop-i : goal.invariant-loop-i
invariant-loop-i l = record {
  len : length l.out ≡ 2 * length l.samples;
  bytes : take (2 * l.i) l.out ≡ samples_bytes 2 (take l.i l.samples);
}
