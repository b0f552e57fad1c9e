use Rattle.ff_test_machines.proofs.plain.PlainMachine.pull.Goals as goal

pub returns-in-Source-clause-gives : goal.returns-in-Source-clause-gives
returns-in-Source-clause-gives c x is past s stopped = c.pull.ensures.gives x is past (rw c.in-Source.is at s) stopped

pub returns-in-Relay-clause-gives : goal.returns-in-Relay-clause-gives
returns-in-Relay-clause-gives c x is past s stopped = c.pull-in-Relay.ensures.gives x is past (rw c.in-Relay.is at s) stopped

pub returns-in-Join-clause-gives : goal.returns-in-Join-clause-gives
returns-in-Join-clause-gives c x is past s stopped = c.pull-in-Join.ensures.gives x is past (rw c.in-Join.is at s) stopped
