use Rattle.ff_input.proofs.Among.{keeps_among}
use Rattle.ff_input.proofs.Either.{first_among, other_among}
use Rattle.ff_input.proofs.one_of.OneOfPacketCut.end.Goals as goal

pub returns-in-First-clause-cuts : goal.returns-in-First-clause-cuts
returns-in-First-clause-cuts g c =
    rw c.in-First.is (keeps_among (first_among g.A.PacketCut.is g.B.PacketCut.is) c.in-First.cut c.end.new.self c.end.ensures.cuts)

pub returns-in-Other-clause-cuts : goal.returns-in-Other-clause-cuts
returns-in-Other-clause-cuts g c =
    rw c.in-Other.is (keeps_among (other_among g.A.PacketCut.is g.B.PacketCut.is) c.in-Other.cut c.end-in-Other.new.self c.end-in-Other.ensures.cuts)
