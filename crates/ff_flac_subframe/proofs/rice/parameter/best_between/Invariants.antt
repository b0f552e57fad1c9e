use Rattle.std.proofs.Common.{◌≡◌, ℕ, ◌<◌, ◌≤◌}
use Rattle.ff_flac_subframe.specs.rice.Rice.{part_cost}
use Rattle.ff_flac_subframe.proofs.rice.parameter.best_between.Given as goal

abbrev pub invariant-loop-k : goal.invariant-loop-k
invariant-loop-k l = record {
  above : l.low < l.k;
  from : l.low ≤ l.best;
  below : l.best < l.k;
  cost : l.cost ≡ part_cost 0 l.best l.part;
  before : (j : ℕ) → l.low ≤ j → j < l.best → part_cost 0 l.best l.part < part_cost 0 j l.part;
  behind : (j : ℕ) → l.best ≤ j → j < l.k → part_cost 0 l.best l.part ≤ part_cost 0 j l.part;
}
