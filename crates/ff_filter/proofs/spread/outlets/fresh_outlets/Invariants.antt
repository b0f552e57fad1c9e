use Rattle.std.proofs.Common.{◌≡◌, ◌≤◌, ℕ, length}
use Rattle.std.specs.Prelude.{vec_capacity}
use Rattle.ff_filter.specs.laws.spread.Lines.{lines, fresh}
use Rattle.ff_filter.proofs.spread.outlets.fresh_outlets.Given as goal

abbrev pub invariant-made : goal.invariant-made
invariant-made l = record {
  count : length l.outlets.items ≡ l.i;
  room : l.count ≤ vec_capacity l.outlets;
  empty : (q : ℕ) → lines l.outlets.items q ≡ fresh;
}
