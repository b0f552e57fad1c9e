use Rattle.std.proofs.Common.{◌≡◌, ◌<◌, ◌≤◌, ◌+◌, ◌*◌, ℕ, pos, length, slice_index_or}
use Rattle.ff_afilter.proofs.channel_split.kept_of.Given as goal

abbrev pub invariant-kept : goal.invariant-kept
invariant-kept l = record {
  size : length l.items.items ≡ length l.fn.samples;
  done : (j : ℕ) → j < l.k → slice_index_or l.items.items j (pos 0) ≡ slice_index_or l.fn.samples (j * l.channels + l.channel) (pos 0);
  left : (j : ℕ) → l.k ≤ j → slice_index_or l.items.items j (pos 0) ≡ slice_index_or l.fn.samples j (pos 0);
}
