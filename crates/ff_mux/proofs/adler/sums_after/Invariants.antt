use Rattle.std.proofs.Common.{◌≡◌, ◌-◌, ◌%◌, ◌<◌, ◌≤◌, drop, length}
use Rattle.ff_mux.specs.Adler.{byte_sum, sum_of_sums}
use Rattle.ff_mux.proofs.adler.sums_after.Given as goal

abbrev pub decreases-runs : goal.decreases-runs
decreases-runs l = length l.bytes - l.at

abbrev pub invariant-runs : goal.invariant-runs
invariant-runs l = record {
  inside : l.at ≤ length l.bytes;
  small_bytes : l.sums.bytes < 65521;
  small_sums : l.sums.sums < 65521;
  bytes : byte_sum l.sums.bytes (drop l.at l.bytes) % 65521 ≡ byte_sum l.fn.begun.bytes l.bytes % 65521;
  sums : sum_of_sums l.sums.bytes l.sums.sums (drop l.at l.bytes) % 65521 ≡ sum_of_sums l.fn.begun.bytes l.fn.begun.sums l.bytes % 65521;
}
