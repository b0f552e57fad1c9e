use Rattle.std.proofs.Common.{◌-◌, length}
use Rattle.ff_concat.specs.laws.Moves.{GoesOn}
use Rattle.ff_concat.proofs.track.Track.turn_on.Given as goal

abbrev pub invariant-turns : goal.invariant-turns
invariant-turns l = GoesOn l.fn.self l.self l.ticks l.number l.reaches

abbrev pub decreases-turns : goal.decreases-turns
decreases-turns l = length l.self.backlogs.items - l.self.current
