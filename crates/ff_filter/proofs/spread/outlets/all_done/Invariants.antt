use Rattle.std.proofs.Common.{◌≡◌, ◌<◌, ℕ, true}
use Rattle.ff_filter.specs.laws.spread.Lines.{lines, is_done}
use Rattle.ff_filter.proofs.spread.outlets.all_done.Given as goal

abbrev pub invariant-done : goal.invariant-done
invariant-done l = (q : ℕ) → q < l.port → is_done (lines l.outlets.items q) ≡ true
