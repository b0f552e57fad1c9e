use Rattle.ff_reader.proofs.ReachLaws.{Reached-start}
use Rattle.ff_reader.proofs.walk.HeadWalk.new.Goals as goal

pub returns : goal.returns
returns g c = rw (c.magic.ensures, c.start.ensures) (Reached-start g.F.HeadFormat.grammar)
