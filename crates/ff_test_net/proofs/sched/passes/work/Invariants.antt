use Rattle.ff_test_net.specs.sched.Two.{IsLike}
use Rattle.ff_test_net.proofs.sched.passes.work.Given as goal

abbrev pub invariant-loop-turn : goal.invariant-loop-turn
invariant-loop-turn g l = IsLike l.fn.pass l.pass
