use Rattle.std.proofs.Common.{◌≡◌, ℕ, ◌≤◌, false, take}
use Rattle.ff_fsync.specs.laws.Inputs.{items_of, starts_at}
use Rattle.ff_fsync.proofs.input.Input.start_from.Given as goal

abbrev pub invariant-pictures : goal.invariant-pictures
invariant-pictures l = (u : ℕ) → l.lo ≤ u → starts_at (items_of (take l.i l.self.queue.items)) u ≡ false
