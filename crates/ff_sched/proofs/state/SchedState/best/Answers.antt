use Rattle.std.proofs.Common.{sym, ap, ◌∙◌}
use Rattle.ff_sched.specs.State.{State, best_at}
use Rattle.ff_sched.proofs.Steps.{best_is}
use Rattle.ff_sched.proofs.state.SchedState.best.Goals as goal

pub returns : goal.returns
returns c = sym (best_is c.self.inside.words c.args.graph c.requires) ∙ ap (λ (s : State). best_at s c.args.graph) c.self.view_is
