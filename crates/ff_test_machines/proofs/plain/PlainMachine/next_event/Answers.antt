use Rattle.ff_test_machines.proofs.plain.PlainMachine.next_event.Goals as goal

pub returns-in-Source-clause-gives : goal.returns-in-Source-clause-gives
returns-in-Source-clause-gives c e is past s = let h = c.next_event.ensures.gives e is past (rw c.in-Source.is at s) in (h.0, λ r. h.1 (rw c.in-Source.is at r))
