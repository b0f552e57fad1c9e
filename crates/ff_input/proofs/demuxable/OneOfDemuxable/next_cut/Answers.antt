use Rattle.std.proofs.Common.{None, Some}
use Rattle.ff_input.proofs.Among.{gives_among, gave_among}
use Rattle.ff_input.proofs.Either.{first_among, other_among}
use Rattle.ff_input.proofs.OpenAmong.{open_among}
use Rattle.ff_input.proofs.demuxable.OneOfDemuxable.next_cut.Goals as goal

pub returns-in-First-clause-undecided : goal.returns-in-First-clause-undecided
returns-in-First-clause-undecided g c = λ e.
    rw c.in-First.is (open_among (first_among g.A.PacketCut.is g.B.PacketCut.is) (λ h is. is) c.in-First.cut (c.next_cut.ensures.undecided e))

pub returns-in-First-clause-gives : goal.returns-in-First-clause-gives
returns-in-First-clause-gives g c = λ p e.
    rw c.in-First.is (gives_among (first_among g.A.PacketCut.is g.B.PacketCut.is) c.in-First.cut c.next_cut.new.self p (c.next_cut.ensures.gives p e))

pub returns-in-First-clause-ends : goal.returns-in-First-clause-ends
returns-in-First-clause-ends g c = λ e.
    rw c.in-First.is (gave_among (first_among g.A.PacketCut.is g.B.PacketCut.is) c.in-First.cut None (c.next_cut.ensures.ends e))

pub returns-in-First-clause-breaks : goal.returns-in-First-clause-breaks
returns-in-First-clause-breaks g c = λ offset e.
    rw c.in-First.is (gave_among (first_among g.A.PacketCut.is g.B.PacketCut.is) c.in-First.cut (Some offset) (c.next_cut.ensures.breaks offset e))

pub returns-in-Other-clause-undecided : goal.returns-in-Other-clause-undecided
returns-in-Other-clause-undecided g c = λ e.
    rw c.in-Other.is (open_among (other_among g.A.PacketCut.is g.B.PacketCut.is) (λ h is. is) c.in-Other.cut (c.next_cut-in-Other.ensures.undecided e))

pub returns-in-Other-clause-gives : goal.returns-in-Other-clause-gives
returns-in-Other-clause-gives g c = λ p e.
    rw c.in-Other.is (gives_among (other_among g.A.PacketCut.is g.B.PacketCut.is) c.in-Other.cut c.next_cut-in-Other.new.self p (c.next_cut-in-Other.ensures.gives p e))

pub returns-in-Other-clause-ends : goal.returns-in-Other-clause-ends
returns-in-Other-clause-ends g c = λ e.
    rw c.in-Other.is (gave_among (other_among g.A.PacketCut.is g.B.PacketCut.is) c.in-Other.cut None (c.next_cut-in-Other.ensures.ends e))

pub returns-in-Other-clause-breaks : goal.returns-in-Other-clause-breaks
returns-in-Other-clause-breaks g c = λ offset e.
    rw c.in-Other.is (gave_among (other_among g.A.PacketCut.is g.B.PacketCut.is) c.in-Other.cut (Some offset) (c.next_cut-in-Other.ensures.breaks offset e))
