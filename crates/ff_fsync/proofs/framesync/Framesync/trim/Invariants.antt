use Rattle.std.proofs.Common.{◌≡◌}
use Rattle.ff_fsync.specs.laws.Syncs.{AreLed}
use Rattle.ff_fsync.proofs.framesync.Framesync.trim.Given as goal

abbrev pub invariant-inputs : goal.invariant-inputs
invariant-inputs g l = record {
  led : AreLed l.fn.self.head l.fn.self.inputs.items l.self.inputs.items l.time l.p;
  stack : l.self.stack ≡ l.fn.self.stack;
  head : l.self.head ≡ l.fn.self.head;
  shortest : l.self.shortest ≡ l.fn.self.shortest;
  from : l.self.from ≡ l.fn.self.from;
  ended : l.self.ended ≡ l.fn.self.ended;
  stopped : l.self.stopped ≡ l.fn.self.stopped;
}
