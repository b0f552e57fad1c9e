use Rattle.std.proofs.Common.{◌≡◌, length}
use Rattle.ff_avi.specs.laws.Cuts.{has_ended, first_of, KeepsCut, IsPassed}
use Rattle.ff_avi.proofs.cut.AviCut.pull.Given as goal

abbrev pub invariant-units : goal.invariant-units
invariant-units l = record {
  keeps : KeepsCut l.fn.self l.self;
  passed : IsPassed l.self;
  ended : has_ended l.self ≡ has_ended l.fn.self;
  first : first_of l.self ≡ first_of l.fn.self;
}

abbrev pub decreases-units : goal.decreases-units
decreases-units l = length l.self.held.bytes
