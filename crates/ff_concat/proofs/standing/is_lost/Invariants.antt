use Rattle.std.proofs.Common.{◌≡◌}
use Rattle.ff_concat.specs.laws.Standing.{lost_from}
use Rattle.ff_concat.proofs.standing.is_lost.Given as goal

abbrev pub invariant-segments : goal.invariant-segments
invariant-segments l = lost_from l.backlogs.items l.reaches l.width l.number l.segment ≡ lost_from l.backlogs.items l.reaches l.width l.number l.from
