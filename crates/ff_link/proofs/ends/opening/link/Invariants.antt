use Rattle.std.proofs.Common.{true}
use Rattle.ff_link.proofs.ends.opening.link.Given as goal

abbrev pub ghosts-link_as : goal.ghosts-link_as
ghosts-link_as a = record { way = record { claims = true; lane = a.lane.now }; room = a.size }
