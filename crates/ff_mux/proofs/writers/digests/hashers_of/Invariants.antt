use Rattle.std.proofs.Common.{◌≡◌, ◌≤◌, ℕ, [], length}
use Rattle.ff_mux.specs.laws.Hashers.{AllTaken, AreOfKind}
use Rattle.ff_mux.proofs.writers.digests.hashers_of.Given as goal

abbrev pub invariant-streams : goal.invariant-streams
invariant-streams l = record {
  inside : l.i ≤ l.count;
  len : length l.hashers.items ≡ l.i;
  kinds : AreOfKind l.kind l.hashers.items;
  none : (i : ℕ) → AllTaken i l.hashers.items [];
}
