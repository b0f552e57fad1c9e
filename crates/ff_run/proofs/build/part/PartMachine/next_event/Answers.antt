use Rattle.ff_run.proofs.build.part.PartMachine.next_event.Goals as goal

pub returns-in-Demux-clause-gives : goal.returns-in-Demux-clause-gives
returns-in-Demux-clause-gives g c e is past s = let h = c.next_event.ensures.gives e is past (rw c.in-Demux.is at s) in (h.0, λ r. h.1 (rw c.in-Demux.is at r))

pub returns-in-Dec-clause-gives : goal.returns-in-Dec-clause-gives
returns-in-Dec-clause-gives g c e is past s = let h = c.next_event-in-Dec.ensures.gives e is past (rw c.in-Dec.is at s) in (h.0, λ r. h.1 (rw c.in-Dec.is at r))

pub returns-in-Enc-clause-gives : goal.returns-in-Enc-clause-gives
returns-in-Enc-clause-gives g c e is past s = let h = c.next_event-in-Enc.ensures.gives e is past (rw c.in-Enc.is at s) in (h.0, λ r. h.1 (rw c.in-Enc.is at r))

pub returns-in-FlacEnc-clause-gives : goal.returns-in-FlacEnc-clause-gives
returns-in-FlacEnc-clause-gives g c e is past s = let h = c.next_event-in-FlacEnc.ensures.gives e is past (rw c.in-FlacEnc.is at s) in (h.0, λ r. h.1 (rw c.in-FlacEnc.is at r))

pub returns-in-Mux-clause-gives : goal.returns-in-Mux-clause-gives
returns-in-Mux-clause-gives g c e is past s = let h = c.next_event-in-Mux.ensures.gives e is past (rw c.in-Mux.is at s) in (h.0, λ r. h.1 (rw c.in-Mux.is at r))

pub returns-in-Mux-clause-waits : goal.returns-in-Mux-clause-waits
returns-in-Mux-clause-waits g c n past s = c.next_event-in-Mux.ensures.waits n past (rw c.in-Mux.is at s)

pub returns-in-Demux-clause-waits : goal.returns-in-Demux-clause-waits
returns-in-Demux-clause-waits g c n past s = c.next_event.ensures.waits n past (rw c.in-Demux.is at s)

pub returns-in-Graph-clause-waits : goal.returns-in-Graph-clause-waits
returns-in-Graph-clause-waits g c n past s = c.next_event-in-Graph.ensures.waits n past (rw c.in-Graph.is at s)

pub returns-in-Gen-clause-gives : goal.returns-in-Gen-clause-gives
returns-in-Gen-clause-gives g c e is past s = let h = c.next_event-in-Gen.ensures.gives e is past (rw c.in-Gen.is at s) in (h.0, λ r. h.1 (rw c.in-Gen.is at r))

pub returns-in-Gen-clause-waits : goal.returns-in-Gen-clause-waits
returns-in-Gen-clause-waits g c n past s = c.next_event-in-Gen.ensures.waits n past (rw c.in-Gen.is at s)

pub returns-in-Avi-clause-gives : goal.returns-in-Avi-clause-gives
returns-in-Avi-clause-gives g c e is past s = let h = c.next_event-in-Avi.ensures.gives e is past (rw c.in-Avi.is at s) in (h.0, λ r. h.1 (rw c.in-Avi.is at r))

pub returns-in-Avi-clause-waits : goal.returns-in-Avi-clause-waits
returns-in-Avi-clause-waits g c n past s = c.next_event-in-Avi.ensures.waits n past (rw c.in-Avi.is at s)
