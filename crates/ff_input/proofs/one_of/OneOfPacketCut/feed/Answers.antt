use Rattle.ff_input.proofs.Among.{fed_among}
use Rattle.ff_input.proofs.Either.{first_among, other_among}
use Rattle.ff_input.proofs.one_of.OneOfPacketCut.feed.Goals as goal

pub returns-in-First-clause-ok : goal.returns-in-First-clause-ok
returns-in-First-clause-ok g c =
    rw c.in-First.is
    (fed_among (first_among g.A.PacketCut.is g.B.PacketCut.is) c.feed.result c.in-First.cut c.feed.new.self c.args.bytes.now c.feed.ensures.ok)

pub returns-in-Other-clause-ok : goal.returns-in-Other-clause-ok
returns-in-Other-clause-ok g c =
    rw c.in-Other.is
    (fed_among (other_among g.A.PacketCut.is g.B.PacketCut.is) c.feed-in-Other.result c.in-Other.cut c.feed-in-Other.new.self c.args.bytes.now c.feed-in-Other.ensures.ok)
