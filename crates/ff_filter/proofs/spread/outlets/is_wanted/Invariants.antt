use Rattle.std.proofs.Common.{◌≡◌, ◌<◌, ◌≤◌, ℕ, true}
use Rattle.ff_filter.specs.laws.spread.Lines.{lines}
use Rattle.ff_filter.proofs.spread.outlets.is_wanted.Given as goal

abbrev pub invariant-stopped : goal.invariant-stopped
invariant-stopped l = (q : ℕ) → l.from ≤ q → q < l.port → (lines l.outlets.items q).stopped ≡ true
