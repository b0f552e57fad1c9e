use Rattle.std.proofs.Common.{length, ◌-◌}
use Rattle.ff_reader.specs.Walks.{Reached}
use Rattle.ff_reader.proofs.walk.go_on.Given as goal

abbrev pub invariant-units : goal.invariant-units
invariant-units g l = Reached g.F.HeadFormat.grammar l.initial.walk.at l.initial.walk.state l.bytes → Reached g.F.HeadFormat.grammar l.walk.at l.walk.state l.bytes

abbrev pub decreases-units : goal.decreases-units
decreases-units g l = length l.bytes - l.walk.at
