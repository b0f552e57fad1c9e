-- The samples before the index are done, the others as they were.
use Rattle.std.proofs.Common.{◌≡◌, ℕ, ◌<◌, ◌≤◌, ◌*ℤ◌, pos, length, get_or}
use Rattle.ff_pcm.proofs.depth.raise_all.Given as goal

abbrev pub invariant-loop-i : goal.invariant-loop-i
invariant-loop-i l = record {
  long : length l.samples ≡ length l.initial.samples;
  done : (k : ℕ) → k < l.i → get_or l.samples k (pos 0) ≡ get_or l.initial.samples k (pos 0) *ℤ l.factor;
  rest : (k : ℕ) → l.i ≤ k → get_or l.samples k (pos 0) ≡ get_or l.initial.samples k (pos 0);
}
