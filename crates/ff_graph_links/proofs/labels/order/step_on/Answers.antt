use Rattle.std.proofs.Common.{ℕ, ◌||◌}
use Rattle.ff_graph_links.specs.labels.Order.{cell, reaches}
use Rattle.ff_graph_links.specs.laws.labels.Tables.{marks}
use Rattle.ff_graph_links.proofs.LabelsLemmas.Tabled.{pushed}
use Rattle.ff_graph_links.proofs.labels.order.step_on.Goals as goal

pub loop-to-preserved : goal.loop-to-preserved
loop-to-preserved c =
    pushed (λ (to : ℕ). cell (marks c.args.rows.now) c.args.from to || reaches (marks c.args.rows.now) to 0 c.args.behind.now) c.loop-to.next.items c.push.new.self.items c.loop-to.to c.is_next_step.result
    c.loop-to.invariant c.in_ok-push.ensures.items c.is_next_step.ensures
