-- The samples before the index are done, the others as they were.
use Rattle.std.proofs.Common.{◌≡◌, ℕ, ◌<◌, ◌≤◌, ◌^◌, pos, length, get_or}
use Rattle.std.specs.Int.Signed.{shr_z}
use Rattle.ff_pcm.proofs.depth.lower_all.Given as goal

abbrev pub invariant-loop-i : goal.invariant-loop-i
invariant-loop-i l = record {
  long : length l.samples ≡ length l.initial.samples;
  done : (k : ℕ) → k < l.i → get_or l.samples k (pos 0) ≡ shr_z (get_or l.initial.samples k (pos 0)) (2 ^ l.by);
  rest : (k : ℕ) → l.i ≤ k → get_or l.samples k (pos 0) ≡ get_or l.initial.samples k (pos 0);
}
