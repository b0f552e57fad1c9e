use Rattle.std.proofs.Common.{arith}
use Rattle.ff_test_machines.proofs.Stream.{next_sends}
use Rattle.ff_test_machines.proofs.passing.put_packets.Goals as goal

pub put-requires : goal.put-requires
put-requires g c = next_sends _ _ _ c.loop-place.invariant.sent (let lt = c.loop-place-test.true in let few = c.requires.few in omega arith) c.in-Ok.ensures
