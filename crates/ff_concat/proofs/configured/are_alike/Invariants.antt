use Rattle.std.proofs.Common.{◌≡◌, ◌<◌, ◌+◌, ℕ, get_or}
use Rattle.ff_frame.specs.declared.head.StreamHead.{StreamHead}
use Rattle.ff_concat.proofs.configured.are_alike.Given as goal

abbrev pub invariant-heads : goal.invariant-heads
invariant-heads l = (i : ℕ) (d : StreamHead) → i + l.width < l.p → get_or l.heads (i + l.width) d ≡ get_or l.heads i d
