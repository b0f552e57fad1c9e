use Rattle.ff_link.proofs.ends.opening.link_claiming.Given as goal

abbrev pub ghosts-link_as : goal.ghosts-link_as
ghosts-link_as g a = record { way = record { claims = g.C.Claims.claims; lane = a.lane.now }; room = a.size }
