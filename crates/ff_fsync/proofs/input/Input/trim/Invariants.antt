use Rattle.std.proofs.Common.{◌≡◌, length}
use Rattle.ff_fsync.specs.laws.Inputs.{GoesTo}
use Rattle.ff_fsync.proofs.input.Input.trim.Given as goal

abbrev pub invariant-pictures : goal.invariant-pictures
invariant-pictures l = record {
  left : GoesTo l.fn.self.queue.items l.self.queue.items l.time;
  head : l.self.head ≡ l.fn.self.head;
  after : l.self.after ≡ l.fn.self.after;
  next : l.self.next ≡ l.fn.self.next;
}

abbrev pub decreases-pictures : goal.decreases-pictures
decreases-pictures l = length l.self.queue.items
