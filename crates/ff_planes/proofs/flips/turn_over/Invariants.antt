use Rattle.ff_planes.proofs.TurnLaws.{IsTurnedSoFar}
use Rattle.ff_planes.proofs.flips.turn_over.Given as goal

abbrev pub invariant-rows : goal.invariant-rows
invariant-rows l = IsTurnedSoFar l.columns l.rows l.row l.fn.bytes l.bytes
