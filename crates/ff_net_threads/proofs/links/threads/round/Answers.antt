use Rattle.std.proofs.Common.{◌<◌, ℕ, sym, subst, ◌∙◌}
use Rattle.ff_net_threads.specs.declared.links.linked.Linked.{Linked}
use Rattle.ff_net_threads.specs.declared.links.worker.Worker.{Worker}
use Rattle.ff_net.specs.laws.Nodes.{IsOf}
use Rattle.ff_net_threads.specs.laws.links.Nodes.{node_of}
use Rattle.ff_net_threads.specs.laws.links.Workers.{Serves}
use Rattle.ff_net_threads.proofs.LinksLemmas.Served.{serve_set, someone}
use Rattle.ff_net_threads.proofs.links.threads.round.Goals as goal

pub turn_here-turn-requires : goal.turn_here-turn-requires
turn_here-turn-requires g c =
    let view = g.M.Machine.view in
    subst (λ (w : Worker g.row.M.Denot). (x : Linked g.row.M.Denot) × Serves view x w × IsOf view c.args.cell.now (node_of x)) c.worker-item.is
    (someone view c.args.cell.now c.requires.0 c.loop-worker.workers c.loop-worker.worker-index c.worker-item.result (c.loop-worker.invariant c.requires.0 c.requires.1) c.requires.2 (subst (λ (n : ℕ). c.loop-worker.worker-index < n) (c.requires.1.0 ∙ sym (c.loop-worker.invariant c.requires.0 c.requires.1).0) c.loop-worker-test.true) c.worker-item.is)

pub loop-worker-preserved : goal.loop-worker-preserved
loop-worker-preserved g c = let view = g.M.Machine.view in λ ms all. serve_set view ms c.loop-worker.workers c.loop-worker.worker-index c.worker-item.result c.turn_here-turn.new.worker (c.loop-worker.invariant ms all) c.worker-item.is (λ n s. c.turn_here-turn.ensures.keeps n (subst (λ (w : Worker g.row.M.Denot). Serves view n w) c.worker-item.is s))
