use Rattle.ff_run.proofs.build.part.PartMachine.stop.Goals as goal

pub returns-in-Demux-clause-stopped : goal.returns-in-Demux-clause-stopped
returns-in-Demux-clause-stopped g c past s = c.stop.ensures.stopped past (rw c.in-Demux.is at s)

pub returns-in-Graph-clause-stopped : goal.returns-in-Graph-clause-stopped
returns-in-Graph-clause-stopped g c past s = c.stop-in-Graph.ensures.stopped past (rw c.in-Graph.is at s)

pub returns-in-Gen-clause-stopped : goal.returns-in-Gen-clause-stopped
returns-in-Gen-clause-stopped g c past s = c.stop-in-Gen.ensures.stopped past (rw c.in-Gen.is at s)

pub returns-in-Avi-clause-stopped : goal.returns-in-Avi-clause-stopped
returns-in-Avi-clause-stopped g c past s = c.stop-in-Avi.ensures.stopped past (rw c.in-Avi.is at s)
