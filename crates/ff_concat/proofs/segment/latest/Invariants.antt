use Rattle.std.proofs.Common.{◌≡◌}
use Rattle.ff_filter.specs.Joins.{silence}
use Rattle.ff_concat.specs.Tails.{latest as latest_by}
use Rattle.ff_concat.specs.laws.Tracks.{tails}
use Rattle.ff_concat.proofs.segment.latest.Given as goal

abbrev pub invariant-streams : goal.invariant-streams
invariant-streams l = l.latest ≡ latest_by l.ticks l.k l.first (tails l.reaches silence)
