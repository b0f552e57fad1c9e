use Rattle.std.proofs.Common.{◌≡◌}
use Rattle.ff_filter.specs.Joins.{silence}
use Rattle.ff_filter.specs.Made.{mark_after}
use Rattle.ff_concat.specs.Tails.{together as together_by}
use Rattle.ff_concat.specs.laws.Tracks.{tails}
use Rattle.ff_concat.proofs.segment.together.Given as goal

abbrev pub invariant-streams : goal.invariant-streams
invariant-streams l = mark_after l.after ≡ together_by l.k l.first (tails l.reaches silence)
