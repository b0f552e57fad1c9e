use Rattle.ff_test_machines.proofs.Stream.{close_sends}
use Rattle.ff_test_machines.proofs.passing.send.Goals as goal

pub put-requires : goal.put-requires
put-requires g c = close_sends _ _ c.in-Some.ensures.going.1 c.in-Some.ensures.going.0
