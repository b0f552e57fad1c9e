use Rattle.std.proofs.Common.{◌≡◌}
use Rattle.ff_concat.specs.laws.Tracks.{closed_from}
use Rattle.ff_concat.proofs.track.Track.is_closed.Given as goal

abbrev pub invariant-segments : goal.invariant-segments
invariant-segments l = closed_from l.self l.reaches l.width l.number l.segment ≡ closed_from l.self l.reaches l.width l.number l.self.current
