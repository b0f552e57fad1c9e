use Rattle.std.proofs.Common.{ℕ, false, refl}
use Rattle.ff_graph_links.proofs.LabelsLemmas.Tabled.{pushed}
use Rattle.ff_graph_links.proofs.labels.order.no_marks.Goals as goal

pub loop-at-preserved : goal.loop-at-preserved
loop-at-preserved c = pushed (λ (n : ℕ). false) c.loop-at.none.items c.push.new.self.items c.loop-at.at false c.loop-at.invariant c.in_ok-push.ensures.items refl
