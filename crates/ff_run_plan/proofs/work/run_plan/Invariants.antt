use Rattle.ff_run_plan.specs.laws.Claims.{tell_all}
use Rattle.ff_run_plan.proofs.work.run_plan.Given as goal

abbrev pub ghosts-run_nodes : goal.ghosts-run_nodes
ghosts-run_nodes g a = record { claims = tell_all g.Src.Source.left g.Snk.Sink.holds a.srcs.items a.snks.items }
