use Rattle.std.proofs.Common.{List}
use Rattle.ff_net_threads.specs.declared.links.linked.Linked.{Linked}
use Rattle.ff_net_threads.specs.laws.links.Workers.{AllServe}
use Rattle.ff_net_threads.proofs.links.threads.round.Given as goal

abbrev pub invariant-loop-worker : goal.invariant-loop-worker
invariant-loop-worker g l = (ms : List (Linked g.row.M.Denot)) → AllServe g.M.Machine.view ms l.initial.workers → AllServe g.M.Machine.view ms l.workers
