use Rattle.std.proofs.Common.{◌≡◌, ◌+◌, ◌*◌, ◌≤◌, drop}
use Rattle.ff_mux.specs.Adler.{byte_sum, sum_of_sums}
use Rattle.ff_mux.proofs.adler.after_run.Given as goal

abbrev pub invariant-loop-byte : goal.invariant-loop-byte
invariant-loop-byte l = record {
  few_bytes : l.bytes ≤ 65536 + 255 * l.byte-index;
  few_sums : l.sums ≤ 65536 + 16777216 * l.byte-index;
  bytes : byte_sum l.bytes (drop l.byte-index l.run) ≡ byte_sum l.initial.bytes l.run;
  sums : sum_of_sums l.bytes l.sums (drop l.byte-index l.run) ≡ sum_of_sums l.initial.bytes l.initial.sums l.run;
}
