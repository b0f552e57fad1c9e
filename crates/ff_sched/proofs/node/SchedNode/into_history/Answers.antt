use Rattle.std.proofs.Common.{subst}
use Rattle.ff_sched.specs.Histories.{IsLegal}
use Rattle.ff_sched.specs.laws.Plain.{Plain}
use Rattle.ff_sched.proofs.node.SchedNode.into_history.Goals as goal

pub returns-clause-legal : goal.returns-clause-legal
returns-clause-legal c = subst (λ (n : Plain). IsLegal n.routes n.opening c.self.inside.events.items) c.self.view_is c.self.invariant.legal
